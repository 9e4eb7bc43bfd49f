use Rattle.std.proofs.Common.{◌≡◌, ◌∙◌, [], map, sym, ap, arith}
use Rattle.std.proofs.lemmas.List.{nil_from_length}
use Rattle.f77_ast.specs.PlainStmt.{stmt_tree, stmt_trees, arm_tree, arm_trees}
use Rattle.f77_ast.proofs.PlainlyStmt.{what_tree-if_alone}
use Rattle.f77_parser.specs.Elaborated.{elaborated_in, elaborated_arms}
use Rattle.f77_parser.specs.Known.{meant}
use Rattle.f77_parser.proofs.ElaborateLaws.{list_made, arms_made}
use Rattle.f77_parser.proofs.elaboration.+elaborate.Goals as goal

pub elaborated_arms-returns-clause-tree : goal.elaborated_arms-returns-clause-tree
elaborated_arms-returns-clause-tree t c =
    arms_made c.as_slice-arm-items.result.now (map arm_tree c.loop-arm.made) c.loop-arm.arm-index (meant c.args.known.now) c.loop-arm.count.hidden _ (omega (arith, c.loop-arm-test.false)) c.loop-arm.invariant.tree
    ∙ ap (λ xs. elaborated_arms (meant c.args.known.now) c.args.count.now.hidden (arm_trees xs)) c.as_slice-arm-items.ensures

pub elaborated_list-returns-clause-tree : goal.elaborated_list-returns-clause-tree
elaborated_list-returns-clause-tree t c =
    list_made c.as_slice-s-items.result.now (map stmt_tree c.loop-s.made) c.loop-s.s-index (meant c.args.known.now) c.loop-s.count.hidden _ (omega (arith, c.loop-s-test.false)) c.loop-s.invariant.tree
    ∙ ap (λ xs. elaborated_in (meant c.args.known.now) c.args.count.now.hidden (stmt_trees xs)) c.as_slice-s-items.ensures

pub elaborated_while-returns-in-empty-clause-tree : goal.elaborated_while-returns-in-empty-clause-tree
elaborated_while-returns-in-empty-clause-tree t c =
    let none : c.args.arms.now ≡ [] = sym c.as_slice.ensures ∙ nil_from_length c.as_slice.result.now (omega (arith, c.in-empty.len_below)) in
    rw (none, c.new.ensures) (what_tree-if_alone [])
