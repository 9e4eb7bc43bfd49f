use Rattle.std.proofs.Common.{ℕ, Option, ap, sym, ◌∙◌, true, false}
use Rattle.f77_ast.specs.Trees as tree
use Rattle.f77_ast.specs.PlainStmt.{what_tree, arm_tree}
use Rattle.transformers.specs.Whiles.{while_at}
use Rattle.transformers.proofs.WhileSteps.{while_is}
use Rattle.transformers.proofs.whiles.while_at.Goals as goal

pub returns-then-is_labelled-clause-defined : goal.returns-then-is_labelled-clause-defined
returns-then-is_labelled-clause-defined c =
    let s = c.args.s.now in
    let w = what_tree s.what in
    while_is s.id c.in-Some.label w (arm_tree c.in-Some-only_arm_in.arm.now) true c.in-Some-only_arm_in.ensures.defined (sym c.if-is_labelled.true ∙ c.is_labelled.ensures)
    ∙ sym (ap (λ (o : Option ℕ). while_at (tree.stmt s.id o w)) c.in-Some.is)

pub returns-else-is_labelled-clause-defined : goal.returns-else-is_labelled-clause-defined
returns-else-is_labelled-clause-defined c =
    let s = c.args.s.now in
    let w = what_tree s.what in
    while_is s.id c.in-Some.label w (arm_tree c.in-Some-only_arm_in.arm.now) false c.in-Some-only_arm_in.ensures.defined (sym c.if-is_labelled.false ∙ c.is_labelled.ensures)
    ∙ sym (ap (λ (o : Option ℕ). while_at (tree.stmt s.id o w)) c.in-Some.is)
