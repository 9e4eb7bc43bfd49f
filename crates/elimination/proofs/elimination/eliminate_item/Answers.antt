use Rattle.std.proofs.Common.{◌≡◌, ◌∙◌, List, true, false, Some, None, ap, sym, subst}
use Rattle.std.proofs.lemmas.Result.{IfOk-weaker}
use Rattle.affine_systems.specs.declared.items.Item.{Item}
use Rattle.affine_systems.specs.declared.items.Eliminated.{Eliminated}
use Rattle.affine_systems.specs.Given.{ItemsSmall, ItemsFit}
use Rattle.affine_systems.specs.Items.{cut_at, cut_of}
use Rattle.affine_systems.specs.Eliminate.{any_has, is_unit_on, is_equal_on, paired_off, eliminate_item}
use Rattle.affine_systems.proofs.FitLaws.{eliminated_fits}
use Rattle.elimination.proofs.ElimSteps.{by_result, fit_small, elim_unit, elim_equal, elim_pairs}
use Rattle.elimination.proofs.elimination.eliminate_item.Goals as goal

pub any_has-requires : goal.any_has-requires
any_has-requires c = subst ItemsSmall (sym c.as_slice.ensures) (fit_small c.args.rational c.args.items c.requires.fits)

pub find_unit-requires : goal.find_unit-requires
find_unit-requires c = subst ItemsSmall (sym (c.as_slice-2.ensures.value ∙ c.into_vec-items.ensures)) (fit_small c.args.rational c.args.items c.requires.fits)

pub find_equal-requires : goal.find_equal-requires
find_equal-requires c = subst ItemsSmall (sym (c.as_slice-3.ensures.value ∙ c.into_vec-items.ensures)) (fit_small c.args.rational c.args.items c.requires.fits)

pub returns-in-Some-clause-defined : goal.returns-in-Some-clause-defined
returns-in-Some-clause-defined c =
    let q = c.args.rational in
    let v = c.args.v in
    let is = c.args.items in
    let a : any_has v is ≡ true = sym (c.any_has.ensures ∙ ap (any_has v) c.as_slice.ensures) ∙ c.if-not-any_has.false in
    let u : cut_at (is_unit_on v) is ≡ Some (cut_of is c.in-Some.at)
    = subst (λ (js : List Item). cut_at (is_unit_on v) js ≡ Some (cut_of js c.in-Some.at)) (c.as_slice-2.ensures.value ∙ c.into_vec-items.ensures) c.in-Some.ensures.1 in
    IfOk-weaker c.eliminate_by.result (λ (e : Eliminated). e ≡ by_result q v c.into_vec-items.result.items c.in-Some.at true) (λ (e : Eliminated). e ≡ eliminate_item q v is)
    (λ e h. elim_unit q v is c.in-Some.at e a u (h ∙ ap (λ (js : List Item). by_result q v js c.in-Some.at true) c.into_vec-items.ensures)) c.eliminate_by.ensures

pub returns-in-Some-clause-fits : goal.returns-in-Some-clause-fits
returns-in-Some-clause-fits c =
    IfOk-weaker c.eliminate_by.result (λ (e : Eliminated). e ≡ eliminate_item c.args.rational c.args.v c.args.items) (λ (e : Eliminated). ItemsFit c.args.rational e.items)
    (λ e h. subst (λ (x : Eliminated). ItemsFit c.args.rational x.items) (sym h) (eliminated_fits c.args.rational c.args.v c.args.items c.requires.fits)) (returns-in-Some-clause-defined c)

pub returns-in-Some-find_equal-clause-fits : goal.returns-in-Some-find_equal-clause-fits
returns-in-Some-find_equal-clause-fits c =
    let q = c.args.rational in
    let v = c.args.v in
    let is = c.args.items in
    let a : any_has v is ≡ true = sym (c.any_has.ensures ∙ ap (any_has v) c.as_slice.ensures) ∙ c.if-not-any_has.false in
    let u : cut_at (is_unit_on v) is ≡ None
    = subst (λ (js : List Item). cut_at (is_unit_on v) js ≡ None) (c.as_slice-2.ensures.value ∙ c.into_vec-items.ensures) c.in_default.ensures in
    let w : cut_at (is_equal_on v) is ≡ Some (cut_of is c.in-Some-find_equal.at)
    = subst (λ (js : List Item). cut_at (is_equal_on v) js ≡ Some (cut_of js c.in-Some-find_equal.at)) (c.as_slice-3.ensures.value ∙ c.into_vec-items.ensures) c.in-Some-find_equal.ensures.1 in
    IfOk-weaker c.eliminate_by-in-Some-find_equal.result (λ (e : Eliminated). e ≡ by_result q v c.into_vec-items.result.items c.in-Some-find_equal.at false) (λ (e : Eliminated). ItemsFit q e.items)
    (λ e h. let d = elim_equal q v is c.in-Some-find_equal.at e a u w (h ∙ ap (λ (js : List Item). by_result q v js c.in-Some-find_equal.at false) c.into_vec-items.ensures) in
    subst (λ (x : Eliminated). ItemsFit q x.items) (sym d) (eliminated_fits q v is c.requires.fits)) c.eliminate_by-in-Some-find_equal.ensures

pub returns-clause-fits : goal.returns-clause-fits
returns-clause-fits c =
    let q = c.args.rational in
    let v = c.args.v in
    let is = c.args.items in
    let a : any_has v is ≡ true = sym (c.any_has.ensures ∙ ap (any_has v) c.as_slice.ensures) ∙ c.if-not-any_has.false in
    let u : cut_at (is_unit_on v) is ≡ None
    = subst (λ (js : List Item). cut_at (is_unit_on v) js ≡ None) (c.as_slice-2.ensures.value ∙ c.into_vec-items.ensures) c.in_default.ensures in
    let w : cut_at (is_equal_on v) is ≡ None
    = subst (λ (js : List Item). cut_at (is_equal_on v) js ≡ None) (c.as_slice-3.ensures.value ∙ c.into_vec-items.ensures) c.in_default-find_equal.ensures in
    IfOk-weaker c.pair_off.result (λ (e : Eliminated). e ≡ paired_off q v c.into_vec-items.result.items) (λ (e : Eliminated). ItemsFit q e.items)
    (λ e h. let d = elim_pairs q v is e a u w (h ∙ ap (paired_off q v) c.into_vec-items.ensures) in
    subst (λ (x : Eliminated). ItemsFit q x.items) (sym d) (eliminated_fits q v is c.requires.fits)) c.pair_off.ensures
