use Rattle.std.proofs.Common.{◌∙◌, List, Some, ap, refl, sym, subst}
use Rattle.affine_systems.specs.declared.items.Item.{Item}
use Rattle.affine_systems.specs.Given.{ItemsSmall}
use Rattle.affine_systems.specs.Items.{tidied, cut_of}
use Rattle.affine_systems.specs.Tidy.{next_pivot}
use Rattle.affine_systems.proofs.TurnSteps.{last_turns}
use Rattle.affine_systems.proofs.FormSteps.{form_small, some_small, form_stops, form_goes_on, next_given}
use Rattle.affine_systems.proofs.tidying.tidy_form.Goals as goal

pub merge-requires : goal.merge-requires
merge-requires c = form_small c.args.rational c.args.form.items c.args.lost c.requires

pub find_pivot-requires : goal.find_pivot-requires
find_pivot-requires c = subst ItemsSmall (sym c.as_slice.ensures.value) (some_small c.args.rational c.args.form.items c.args.lost c.in_ok-some.some.items c.in_ok-some.ensures c.requires)

pub returns-in-None : goal.returns-in-None
returns-in-None c = λ is g f.
    ap (λ (js : List Item). tidied js c.args.lost) c.from_vec.ensures
    ∙ form_stops c.args.rational c.args.form.items c.args.lost c.in_ok-some.some.items c.in_ok-some.ensures 17592186044415 (last_turns 17592186044415 refl)
    (ap next_pivot (sym c.as_slice.ensures.value) ∙ c.in-None.ensures) is f

pub take_pivot-requires-clause-each : goal.take_pivot-requires-clause-each
take_pivot-requires-clause-each c = some_small c.args.rational c.args.form.items c.args.lost c.in_ok-some.some.items c.in_ok-some.ensures c.requires

pub rounds-requires : goal.rounds-requires
rounds-requires c =
    next_given c.args.rational c.args.form.items c.args.lost c.in_ok-some.some.items c.in_ok-some.ensures c.requires c.in-Some.at c.in_ok-items-in-Some.items.items
    (ap next_pivot (sym c.as_slice.ensures.value) ∙ (c.in-Some.ensures.1 ∙ ap (λ (js : List Item). Some (cut_of js c.in-Some.at)) c.as_slice.ensures.value)) c.in_ok-items-in-Some.ensures

pub returns-in_ok-t-in-Some : goal.returns-in_ok-t-in-Some
returns-in_ok-t-in-Some c = λ is g f.
    c.and_lost.ensures
    ∙ form_goes_on c.args.rational c.args.form.items c.args.lost c.in_ok-some.some.items c.in_ok-some.ensures 17592186044415 (last_turns 17592186044415 refl) c.in-Some.at c.in_ok-items-in-Some.items.items c.in_ok-t-in-Some.t
    (ap next_pivot (sym c.as_slice.ensures.value) ∙ (c.in-Some.ensures.1 ∙ ap (λ (js : List Item). Some (cut_of js c.in-Some.at)) c.as_slice.ensures.value)) c.in_ok-items-in-Some.ensures c.in_ok-t-in-Some.ensures is f
