use Rattle.f77_printer.proofs.AddedLemmas.{HasMore-first, HasMore-other}
use Rattle.std.proofs.Common.{sym, ◌∙◌}
use Rattle.f77_printer.proofs.added.add.Goals as goal

pub returns-in_ok-add_first-clause-more : goal.returns-in_ok-add_first-clause-more
returns-in_ok-add_first-clause-more c =
    HasMore-first c.args.lines.now c.args.added.now c.add_first.new.text (sym c.is_for_first.ensures ∙ c.if-is_for_first.true) c.in_ok-add_first.ensures

pub returns-in_ok-add_other-clause-more : goal.returns-in_ok-add_other-clause-more
returns-in_ok-add_other-clause-more c =
    HasMore-other c.args.lines.now c.args.added.now c.add_other.new.others (sym c.is_for_first.ensures ∙ c.if-is_for_first.false) c.in_ok-add_other.ensures
