use Rattle.std.proofs.Common.{◌≡◌, ◌∙◌, ap, sym, subst}
use Rattle.std.proofs.lemmas.Result.{IfOk-weaker}
use Rattle.affine_systems.specs.declared.items.Tidied.{Tidied}
use Rattle.affine_systems.specs.Given.{ItemsGiven, ItemsFit}
use Rattle.affine_systems.specs.Tidy.{tidy_turns, tidy_items}
use Rattle.affine_systems.proofs.FitLaws.{tidied_fits}
use Rattle.affine_systems.proofs.TurnSteps.{all_turns}
use Rattle.affine_systems.proofs.tidying.tidy_items.Goals as goal

pub rounds-requires : goal.rounds-requires
rounds-requires c = subst ItemsGiven (sym c.into_vec.ensures) c.requires.fits

pub returns-clause-defined : goal.returns-clause-defined
returns-clause-defined c =
    IfOk-weaker c.rounds.result (λ (t : Tidied). t ≡ tidy_turns 17592186044416 c.args.rational c.into_vec.result.items) (λ (t : Tidied). t ≡ tidy_items c.args.rational c.args.items)
    (λ t h. h ∙ (ap (tidy_turns 17592186044416 c.args.rational) c.into_vec.ensures ∙ all_turns c.args.rational c.args.items)) c.rounds.ensures

pub returns-clause-fits : goal.returns-clause-fits
returns-clause-fits c =
    IfOk-weaker c.rounds.result (λ (t : Tidied). t ≡ tidy_items c.args.rational c.args.items) (λ (t : Tidied). ItemsFit c.args.rational t.items)
    (λ t h. subst (λ (u : Tidied). ItemsFit c.args.rational u.items) (sym h) (tidied_fits c.args.rational c.args.items c.requires.fits)) (returns-clause-defined c)
