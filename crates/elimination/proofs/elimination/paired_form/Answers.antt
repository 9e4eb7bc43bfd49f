use Rattle.std.proofs.Common.{◌≡◌, ◌∙◌, ◌++◌, Bool, false, List, ap, ap₂, refl, sym, subst}
use Rattle.std.proofs.lemmas.Result.{IfOk-weaker}
use Rattle.affine_systems.specs.declared.items.Item.{Item}
use Rattle.affine_systems.specs.Items.{rows_of, any_false}
use Rattle.affine_systems.specs.Eliminate.{pairs}
use Rattle.affine_systems.specs.Lone.{Rises}
use Rattle.affine_systems.specs.Forms.{IsForm}
use Rattle.elimination.specs.Held.{Stands}
use Rattle.elimination.proofs.PairLaws.{stands_begin, stands_same, normal_of}
use Rattle.elimination.proofs.elimination.paired_form.Goals as goal

pub returns : goal.returns
returns c =
    let q = c.args.rational in
    let rest = c.args.sides.rest.items in
    let lows = c.args.sides.lows.items in
    let ups = c.args.sides.ups.items in
    let none : any_false rest ≡ false = sym (c.any_false.ensures ∙ ap any_false c.as_slice.ensures.value) ∙ c.if-any_false.false in
    let rises : Rises (rows_of rest) = subst (λ (js : List Item). Rises (rows_of js)) c.as_slice-else-any_false.ensures.value (c.all_rise.ensures c.if-not-all_rise.false) in
    let stands = c.in_ok-add_pairs.ensures.stands rest (stands_begin q rest _ (normal_of q rest none c.requires.normal) rises c.requires.len refl refl refl refl) in
    let more = stands_same q _ (rest ++ pairs c.args.made c.args.v lows ups) c.add_pairs.new.form (ap₂ (λ (ls us : List Item). rest ++ pairs c.args.made c.args.v ls us) c.as_slice-2.ensures.value c.as_slice-3.ensures.value) stands in
    IfOk-weaker c.finish.result (λ r. (p : Bool) (is : List Item) → Stands p is c.add_pairs.new.form → IsForm p is r.0.items r.1) (λ r. IsForm q (rest ++ pairs c.args.made c.args.v lows ups) r.0.items r.1)
    (λ r g. g q (rest ++ pairs c.args.made c.args.v lows ups) more) c.finish.ensures
