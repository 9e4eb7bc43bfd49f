use Rattle.std.proofs.Common.{◌≡◌, ◌∙◌, true, false, List, sym, ap, subst, refl, Some, None}
use Rattle.affine_systems.specs.declared.items.Item.{Item}
use Rattle.affine_systems.specs.Given.{ItemsSmall}
use Rattle.affine_systems.specs.Items.{cut_at, cut_of, others, next_made}
use Rattle.affine_systems.specs.Tidy.{tidy_items}
use Rattle.affine_systems.specs.Eliminate.{any_has, is_unit_on, is_equal_on, all_cancelled, elimination_of, paired_off}
use Rattle.elimination.proofs.ElimSteps.{fit_small, elim_absent, elim_unit, elim_equal, elim_pairs}
use Rattle.work_area.specs.Outcomes.{paired_items}
use Rattle.work_area.specs.Tables.{items_of}
use Rattle.work_area.proofs.TableSteps.{front_is, ready_zero, by_outcome}
use Rattle.work_area.proofs.substitution.eliminate_rows.Goals as goal

pub any_has-requires : goal.any_has-requires
any_has-requires c = subst ItemsSmall (sym (front_is c.args.tables.now c.as_slice-rows.result.now c.as_slice-rows.ensures.value)) (fit_small false (items_of c.args.tables.now) c.requires.fits)

pub find_unit-requires : goal.find_unit-requires
find_unit-requires c = subst ItemsSmall (sym (front_is c.args.tables.now c.as_slice-rows.result.now c.as_slice-rows.ensures.value)) (fit_small false (items_of c.args.tables.now) c.requires.fits)

pub find_equal-requires : goal.find_equal-requires
find_equal-requires c = subst ItemsSmall (sym (front_is c.args.tables.now c.as_slice-rows.result.now c.as_slice-rows.ensures.value)) (fit_small false (items_of c.args.tables.now) c.requires.fits)

pub returns-then-not-any_has-clause-done : goal.returns-then-not-any_has-clause-done
returns-then-not-any_has-clause-done c =
    let is = items_of c.args.tables.now in
    let v = c.args.v in
    let f = front_is c.args.tables.now c.as_slice-rows.result.now c.as_slice-rows.ensures.value in
    let e = elim_absent false v is (ap (any_has v) (sym f) ∙ (sym c.any_has.ensures ∙ c.if-not-any_has.true)) in
    record { items = ap (λ x. x.items) e; exact = c.outcome_of.ensures.exact ∙ ap (λ x. x.exact) e; lost = c.outcome_of.ensures.lost ∙ ap (λ x. x.lost) e; paired = c.outcome_of.ensures.paired ∙ ap (λ x. x.paired) e }

pub returns-in-Some-clause-done : goal.returns-in-Some-clause-done
returns-in-Some-clause-done c =
    let is = items_of c.args.tables.now in
    let v = c.args.v in
    let at = c.in-Some.at in
    let f = front_is c.args.tables.now c.as_slice-rows.result.now c.as_slice-rows.ensures.value in
    let h = ap (any_has v) (sym f) ∙ (sym c.any_has.ensures ∙ c.if-not-any_has.false) in
    let u : cut_at (is_unit_on v) is ≡ Some (cut_of is at) = subst (λ (js : List Item). cut_at (is_unit_on v) js ≡ Some (cut_of js at)) f c.in-Some.ensures.1 in
    let t = tidy_items false (all_cancelled (next_made is) (cut_of is at).at v (others (cut_of is at))) in
    by_outcome v is (items_of c.eliminate_by-lost.new.tables) c.eliminate_by-lost.result c.outcome_of-in-Some.result true false t c.eliminate_by-lost.ensures.defined
    (elim_unit false v is at (elimination_of true false t) h u refl) c.outcome_of-in-Some.ensures.exact c.outcome_of-in-Some.ensures.lost c.outcome_of-in-Some.ensures.paired

pub returns-in-Some-find_equal-clause-done : goal.returns-in-Some-find_equal-clause-done
returns-in-Some-find_equal-clause-done c =
    let is = items_of c.args.tables.now in
    let v = c.args.v in
    let at = c.in-Some-find_equal.at in
    let f = front_is c.args.tables.now c.as_slice-rows.result.now c.as_slice-rows.ensures.value in
    let h = ap (any_has v) (sym f) ∙ (sym c.any_has.ensures ∙ c.if-not-any_has.false) in
    let u : cut_at (is_unit_on v) is ≡ None = ap (cut_at (is_unit_on v)) (sym f) ∙ c.in-None.ensures in
    let k : cut_at (is_equal_on v) is ≡ Some (cut_of is at) = subst (λ (js : List Item). cut_at (is_equal_on v) js ≡ Some (cut_of js at)) f c.in-Some-find_equal.ensures.1 in
    let t = tidy_items false (all_cancelled (next_made is) (cut_of is at).at v (others (cut_of is at))) in
    by_outcome v is (items_of c.eliminate_by-lost-in-Some-find_equal.new.tables) c.eliminate_by-lost-in-Some-find_equal.result c.outcome_of-in-Some-find_equal.result false false t c.eliminate_by-lost-in-Some-find_equal.ensures.defined
    (elim_equal false v is at (elimination_of false false t) h u k refl) c.outcome_of-in-Some-find_equal.ensures.exact c.outcome_of-in-Some-find_equal.ensures.lost c.outcome_of-in-Some-find_equal.ensures.paired

pub is_exact-unit-requires-clause-small : goal.is_exact-unit-requires-clause-small
is_exact-unit-requires-clause-small c = fit_small false (items_of c.args.tables.now) c.requires.fits

pub is_exact-unit-requires-clause-places : goal.is_exact-unit-requires-clause-places
is_exact-unit-requires-clause-places c = ready_zero c.requires.sound.width c.args.tables.now c.requires.sound.ready

pub pair_off-lost-requires-clause-has : goal.pair_off-lost-requires-clause-has
pair_off-lost-requires-clause-has c =
    ap (any_has c.args.v) (sym (front_is c.args.tables.now c.as_slice-rows.result.now c.as_slice-rows.ensures.value)) ∙ (sym c.any_has.ensures ∙ c.if-not-any_has.false)

pub returns-clause-done : goal.returns-clause-done
returns-clause-done c =
    let is = items_of c.args.tables.now in
    let v = c.args.v in
    let f = front_is c.args.tables.now c.as_slice-rows.result.now c.as_slice-rows.ensures.value in
    let h = ap (any_has v) (sym f) ∙ (sym c.any_has.ensures ∙ c.if-not-any_has.false) in
    let u : cut_at (is_unit_on v) is ≡ None = ap (cut_at (is_unit_on v)) (sym f) ∙ c.in-None.ensures in
    let k : cut_at (is_equal_on v) is ≡ None = ap (cut_at (is_equal_on v)) (sym f) ∙ c.in-None-find_equal.ensures in
    let t = tidy_items false (paired_items (next_made is) v is) in
    let e : elimination_of c.is_exact-unit.result true t ≡ paired_off false v is = ap (λ b. elimination_of b true t) c.is_exact-unit.ensures in
    by_outcome v is (items_of c.pair_off-lost.new.tables) c.pair_off-lost.result c.outcome_of-2.result c.is_exact-unit.result true t c.pair_off-lost.ensures.defined
    (elim_pairs false v is (elimination_of c.is_exact-unit.result true t) h u k e) c.outcome_of-2.ensures.exact c.outcome_of-2.ensures.lost c.outcome_of-2.ensures.paired
