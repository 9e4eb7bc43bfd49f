-- Items that fit still fit with fewer rows, and with other originals.
use Rattle.std.proofs.Common.{◌≡◌, ◌≤◌, ℕ, suc, Bool, List, [], ◌∷◌, length, arith, ap, refl, sym, subst, inl, inr, ⊎_elim}
use Rattle.affine_systems.specs.declared.row.Row.{Row}
use Rattle.affine_systems.specs.declared.items.Item.{Item}
use Rattle.affine_systems.specs.Rows.{false_row, AllRows}
use Rattle.affine_systems.specs.Items.{rows_of}
use Rattle.affine_systems.specs.Eliminate.{keep}
use Rattle.affine_systems.specs.Given.{AreNormal, IsNormalAs, ItemsFit}
use Rattle.hull_projection.specs.Refute.{with_originals, has_few, with_few}
use Rattle.affine_systems.proofs.Basics.{if_cases}
use Rattle.elimination.proofs.ClosedLaws.{kept_rows as keep_rows, length-keep as keep_length}

keep_one : (q : Bool) (f : Item → Bool) (is : List Item) → rows_of is ≡ false_row ∷ [] → AreNormal q (rows_of (keep f is))
keep_one q f [] e = cc
keep_one q f (i ∷ []) e = if_cases (λ (js : List Item). AreNormal q (rows_of js)) (f i) (i ∷ []) [] (λ b. inl e) (λ b. inr tt)
keep_one q f (i ∷ (j ∷ js)) e = cc

keep_fits : (q : Bool) (f : Item → Bool) (is : List Item) → ItemsFit q is → ItemsFit q (keep f is)
keep_fits q f is h =
    let l = keep_length f is in
    let k = h.0 in
    (omega (arith, k, l), ⊎_elim (λ e. keep_one q f is e) (λ n. inr (keep_rows (IsNormalAs q) f is n)) h.1)

pub few_fits : (q : Bool) (k : ℕ) (is js : List Item) → js ≡ with_few k is → ItemsFit q is → ItemsFit q js
few_fits q k is js e h = subst (ItemsFit q) (sym e) (keep_fits q (has_few k) is h)

originals_rows : (n : ℕ) (is : List Item) → rows_of (with_originals n is) ≡ rows_of is
originals_rows n [] = refl
originals_rows n (i ∷ is) = ap (λ (rs : List Row). i.row ∷ rs) (originals_rows (suc n) is)

pub originals_length : (n : ℕ) (is : List Item) → length (with_originals n is) ≡ length is
originals_length n [] = refl
originals_length n (i ∷ is) = ap suc (originals_length (suc n) is)

pub originals_fit : (q : Bool) (is : List Item) → ItemsFit q is → ItemsFit q (with_originals 0 is)
originals_fit q is h =
    let l = originals_length 0 is in
    let k = h.0 in
    (omega (arith, k, l), subst (AreNormal q) (sym (originals_rows 0 is)) h.1)
