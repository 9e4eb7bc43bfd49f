use Rattle.std.proofs.Common.{◌≡◌, ap, subst, ◌∙◌}
use Rattle.std.specs.Prelude.{OnOk}
use Rattle.f77_ast.specs.declared.stmt.What.TheVariants.{If}
use Rattle.f77_ast.specs.PlainStmt.{what_tree, arm_trees, stmt_trees}
use Rattle.f77_ast.specs.Trees.{block_if, no_else, otherwise}
use Rattle.f77_ast.proofs.PlainlyStmt.{what_tree-if_alone, what_tree-if_else}
use Rattle.f77_printer.specs.Lines.{lines_of}
use Rattle.f77_printer.specs.Pages.{page_tree}
use Rattle.f77_printer.specs.ModuleText.{with_else}
use Rattle.f77_printer.proofs.blocks.+put.Goals as goal

pub put_below-returns-in-None : goal.put_below-returns-in-None
put_below-returns-in-None t c =
    let arms = c.in-If.arms in
    let e : what_tree c.args.what.now ≡ block_if (arm_trees arms) no_else =
    ap what_tree c.in-If.is ∙ ap (λ o. what_tree (If arms o)) c.in-None.is ∙ what_tree-if_alone arms in
    rw e c.in_ok-put_arms-in-If.ensures

pub put_below-returns-in-Some : goal.put_below-returns-in-Some
put_below-returns-in-Some t c =
    let arms = c.in-If.arms in
    let body = c.in-Some.body in
    let e : what_tree c.args.what.now ≡ block_if (arm_trees arms) (otherwise (stmt_trees body)) =
    ap what_tree c.in-If.is ∙ ap (λ o. what_tree (If arms o)) c.in-Some.is ∙ what_tree-if_else arms body in
    rw e (subst (λ p. OnOk c.put_else.result (page_tree c.put_else.new.page ≡ with_else (lines_of c.args.lines.now) c.args.id (otherwise (stmt_trees body)) p)) c.in_ok-put_arms-in-If.ensures c.put_else.ensures)
