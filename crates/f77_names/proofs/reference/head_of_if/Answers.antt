use Rattle.std.proofs.Common.{sym, ◌∙◌}
use Rattle.f77_names.proofs.ReferenceLaws.{arm_taken, arm_left, not_one}
use Rattle.f77_names.proofs.reference.head_of_if.Goals as goal

pub returns-then-list-ne1 : goal.returns-then-list-ne1
returns-then-list-ne1 c = rw (sym c.as_slice-list.ensures) (not_one c.as_slice-list.result.now c.args.other.now c.if-list-ne1.true)

pub returns-then-is_true : goal.returns-then-is_true
returns-then-is_true c =
    rw (sym c.as_slice-list.ensures) (arm_taken c.as_slice-list.result.now c.index-list-0.result c.args.other.now _ c.if-list-ne1.false c.index-list-0.is (sym c.is_some.ensures ∙ c.if-is_some.false) (sym c.is_true.ensures ∙ c.if-is_true.true) c.head_of_body.ensures)

pub returns-else-is_true : goal.returns-else-is_true
returns-else-is_true c =
    rw (sym c.as_slice-list.ensures) (arm_left c.as_slice-list.result.now c.index-list-0.result c.args.other.now c.if-list-ne1.false c.index-list-0.is (sym c.is_some.ensures ∙ c.if-is_some.false) (sym c.is_true.ensures ∙ c.if-is_true.false))
