use Rattle.std.proofs.Common.{◌∙◌, ◌++◌, ◌≤◌, List, length, true, ap, ap₂, sym, subst, arith}
use Rattle.affine_systems.specs.declared.items.Item.{Item}
use Rattle.affine_systems.specs.declared.items.Tidied.{Tidied}
use Rattle.affine_systems.specs.Given.{ItemsSmall, AreNormal}
use Rattle.affine_systems.specs.Items.{rows_of, next_made}
use Rattle.affine_systems.specs.Tidy.{tidy_items}
use Rattle.affine_systems.specs.Eliminate.{is_lower, is_upper, is_without, AreLower, pairs, every_pair_unit, elimination_of}
use Rattle.elimination.proofs.ElimSteps.{keep_small, keep_lower, pairs_room, fit_small, pairs_given}
use Rattle.elimination.proofs.PairLaws.{normal_kept, all_paired}
use Rattle.elimination.proofs.elimination.pair_off.Goals as goal
use Rattle.elimination.proofs.ClosedLaws.{length-keep}

pub split_by_sign-requires : goal.split_by_sign-requires
split_by_sign-requires c = fit_small c.args.rational c.args.items.items c.requires

pub every_pair_unit-exact-requires-clause-one : goal.every_pair_unit-exact-requires-clause-one
every_pair_unit-exact-requires-clause-one c =
    subst ItemsSmall (sym (c.as_slice-2.ensures.value ∙ c.in_ok-sides.ensures.lows)) (keep_small (is_lower c.args.v) c.args.items.items (fit_small c.args.rational c.args.items.items c.requires))

pub every_pair_unit-exact-requires-clause-two : goal.every_pair_unit-exact-requires-clause-two
every_pair_unit-exact-requires-clause-two c =
    subst ItemsSmall (sym (c.as_slice-3.ensures.value ∙ c.in_ok-sides.ensures.ups)) (keep_small (is_upper c.args.v) c.args.items.items (fit_small c.args.rational c.args.items.items c.requires))

pub paired_form-requires-clause-room : goal.paired_form-requires-clause-room
paired_form-requires-clause-room c =
    let lows = c.in_ok-sides.sides.lows.items in
    let ups = c.in_ok-sides.sides.ups.items in
    let a = ap length c.in_ok-sides.ensures.lows in
    let b = ap length c.in_ok-sides.ensures.ups in
    let l = c.requires.0 in
    let m = length-keep (is_lower c.args.v) c.args.items.items in
    let n = length-keep (is_upper c.args.v) c.args.items.items in
    let x : length lows ≤ 512 = omega (arith, a, m, l) in
    let y : length ups ≤ 512 = omega (arith, b, n, l) in
    pairs_room c.in_ok-made.made (length lows) (length ups) c.in_ok-made.ensures.room x y

pub paired_form-requires-clause-lower : goal.paired_form-requires-clause-lower
paired_form-requires-clause-lower c = subst (AreLower c.args.v) (sym c.in_ok-sides.ensures.lows) (keep_lower c.args.v c.args.items.items)

pub paired_form-requires-clause-one : goal.paired_form-requires-clause-one
paired_form-requires-clause-one c =
    subst ItemsSmall (sym c.in_ok-sides.ensures.lows) (keep_small (is_lower c.args.v) c.args.items.items (fit_small c.args.rational c.args.items.items c.requires))

pub paired_form-requires-clause-two : goal.paired_form-requires-clause-two
paired_form-requires-clause-two c =
    subst ItemsSmall (sym c.in_ok-sides.ensures.ups) (keep_small (is_upper c.args.v) c.args.items.items (fit_small c.args.rational c.args.items.items c.requires))

pub paired_form-requires-clause-len : goal.paired_form-requires-clause-len
paired_form-requires-clause-len c =
    let a = ap length c.in_ok-sides.ensures.rest in
    let m = length-keep (is_without c.args.v) c.args.items.items in
    let l = c.requires.0 in
    omega (arith, a, m, l)

pub paired_form-requires-clause-normal : goal.paired_form-requires-clause-normal
paired_form-requires-clause-normal c =
    subst (λ (js : List Item). AreNormal c.args.rational (rows_of js)) (sym c.in_ok-sides.ensures.rest) (normal_kept c.args.rational (is_without c.args.v) c.args.items.items c.requires.1)

pub tidy_form-requires : goal.tidy_form-requires
tidy_form-requires c =
    let s = c.in_ok-sides.sides in
    let js = s.rest.items ++ pairs c.in_ok-made.made c.args.v s.lows.items s.ups.items in
    let e = all_paired c.args.v c.args.items.items c.in_ok-made.made s.lows.items s.ups.items s.rest.items (c.in_ok-made.ensures.defined ∙ ap next_made c.as_slice.ensures.value) c.in_ok-sides.ensures.lows c.in_ok-sides.ensures.ups c.in_ok-sides.ensures.rest in
    record { rows = js; given = pairs_given c.args.rational c.args.v c.args.items.items js c.requires e; is_form = c.in_ok-form.ensures }

pub returns : goal.returns
returns c =
    let q = c.args.rational in
    let v = c.args.v in
    let is = c.args.items.items in
    let s = c.in_ok-sides.sides in
    let js = s.rest.items ++ pairs c.in_ok-made.made v s.lows.items s.ups.items in
    let e = all_paired v is c.in_ok-made.made s.lows.items s.ups.items s.rest.items (c.in_ok-made.ensures.defined ∙ ap next_made c.as_slice.ensures.value) c.in_ok-sides.ensures.lows c.in_ok-sides.ensures.ups c.in_ok-sides.ensures.rest in
    c.elimination_of.ensures
    ∙ ap₂ (λ b (t : Tidied). elimination_of b true t)
    (c.every_pair_unit-exact.ensures ∙ ap₂ (every_pair_unit v) (c.as_slice-2.ensures.value ∙ c.in_ok-sides.ensures.lows) (c.as_slice-3.ensures.value ∙ c.in_ok-sides.ensures.ups))
    (c.in_ok-t.ensures js (pairs_given q v is js c.requires e) c.in_ok-form.ensures ∙ ap (tidy_items q) e)
