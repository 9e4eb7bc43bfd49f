-- Steps of putting rows against their opposites.
use Rattle.std.proofs.Common.{◌≡◌, ◌∙◌, ℕ, ◌+◌, ◌≤◌, ◌<◌, true, false, List, suc, [], ◌∷◌, ◌++◌, length, take, drop, get_or, set, arith, ap, ap₂, sym, subst}
use Rattle.std.proofs.lemmas.List.{length-take-le, take_more_set, take_more}
use Rattle.affine_systems.specs.declared.items.Item.{Item}
use Rattle.affine_systems.specs.Given.{IsSmallRow, ItemsSmall}
use Rattle.affine_systems.specs.Tidy.{are_opposite, against, face_opposite, faced_all}
use Rattle.affine_systems.proofs.ItemSteps.{faced-passed, faced-found, faced-end, item_at as all_at, faced_all-push}
use Rattle.work_area.specs.declared.slot.Slot.{Slot}
use Rattle.work_area.specs.Slots.{row_in, item_in, items_in}
use Rattle.work_area.proofs.Swaps.{item_read, length-items_in}

pub face-passed : (n : ℕ) (i : Item) (ss : List Slot) (k : ℕ) (s : Slot) → k < length ss → s ≡ get_or ss k s → are_opposite i.row (row_in s) ≡ false → face_opposite n i (drop k (items_in ss)) ≡ face_opposite n i (drop (k + 1) (items_in ss))
face-passed n i ss k s l h e = faced-passed n i (items_in ss) k (item_in s) (omega (arith, l, length-items_in ss)) (ap (λ (j : Item). are_opposite i.row j.row) (item_read ss k s (item_in s) l h) ∙ e)

pub face-found : (n : ℕ) (i : Item) (ss : List Slot) (k : ℕ) (s : Slot) → k < length ss → s ≡ get_or ss k s → are_opposite i.row (row_in s) ≡ true → face_opposite n i (drop k (items_in ss)) ≡ against n i (item_in s)
face-found n i ss k s l h e = faced-found n i (items_in ss) k (item_in s) (omega (arith, l, length-items_in ss)) (ap (λ (j : Item). are_opposite i.row j.row) (item_read ss k s (item_in s) l h) ∙ e) ∙ ap (against n i) (item_read ss k s (item_in s) l h)

pub face-end : (n : ℕ) (i : Item) (ss : List Slot) (k : ℕ) → length ss ≤ k → face_opposite n i (drop k (items_in ss)) ≡ i
face-end n i ss k l = faced-end n i (items_in ss) k (omega (arith, l, length-items_in ss))

pub ruleset faced_loop = (face-passed, face-found, face-end)

-- small rows, read at a place
pub small_at : (ss : List Slot) (k : ℕ) (s : Slot) → ItemsSmall (items_in ss) → k < length ss → s ≡ get_or ss k s → IsSmallRow (row_in s)
small_at ss k s h l e = subst (λ (i : Item). IsSmallRow i.row) (item_read ss k s (item_in s) l e) (all_at (λ i. IsSmallRow i.row) (items_in ss) k (item_in s) h (omega (arith, l, length-items_in ss)))

pub face_more : (n : ℕ) (is js cur new : List Item) (k : ℕ) (d y : Item) → k < length is → k < length cur → new ≡ set cur k y → y ≡ face_opposite (n + k) (get_or is k d) js → take k cur ≡ faced_all n (take k is) js → take (k + 1) new ≡ faced_all n (take (k + 1) is) js
face_more n is js cur new k d y l m e f h =
    let a : length (take k is) ≡ k = length-take-le k is (omega (arith, l)) in
    ap (take (k + 1)) e ∙ (take_more_set cur k y m
    ∙ (ap₂ (λ us z. us ++ z ∷ []) h (f ∙ ap (λ m. face_opposite (n + m) (get_or is k d) js) (sym a))
    ∙ (sym (faced_all-push n (take k is) js (get_or is k d)) ∙ ap (λ us. faced_all n us js) (sym (take_more is k d l)))))
