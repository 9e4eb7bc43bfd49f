use Rattle.std.proofs.Common.{sym, ◌∙◌}
use Rattle.f77_printer.proofs.FormLemmas.{one_arm, other_arms}
use Rattle.f77_printer.proofs.form.only_arm.Goals as goal

pub returns-then-list-ne1 : goal.returns-then-list-ne1
returns-then-list-ne1 c = rw (sym c.as_slice-list.ensures) (other_arms c.as_slice-list.result.now c.args.other.now c.if-list-ne1.true)

pub returns : goal.returns
returns c = rw (sym c.as_slice-list.ensures) (one_arm c.as_slice-list.result.now c.index-list-0.result c.args.other.now c.if-list-ne1.false c.index-list-0.is (sym c.is_some.ensures ∙ c.if-is_some.false))
