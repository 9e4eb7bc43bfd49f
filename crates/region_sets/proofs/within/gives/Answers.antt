use Rattle.std.proofs.Common.{sym, subst, ap, ◌∙◌}
use Rattle.region_sets.specs.Within.{gives_row}
use Rattle.region_sets.specs.Joining.{AreAnswers}
use Rattle.region_sets.proofs.WithinSteps.{answers_push}
use Rattle.region_sets.proofs.within.gives.Goals as goal

pub returns-clause-asked : goal.returns-clause-asked
returns-clause-asked c =
    let rs = c.args.s.now.rows in
    subst (AreAnswers rs) (sym c.in_ok-push.ensures.items)
    (answers_push rs c.args.asked.now.items _ c.requires.asked (c.in_ok-given.ensures ∙ ap (gives_row rs) (sym c.in_ok-row.ensures)))
