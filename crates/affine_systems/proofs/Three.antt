-- Terms over three cells, as the tests write them.
use Rattle.std.proofs.Common.{◌≡◌, ℕ, ◌<◌, ◌^◌, Bool, true, false, ◌≤◌, negsuc, List, [], ◌∷◌, ◌++◌, ◌&&◌, ℤ, pos, ap, refl, sym, subst, ◌∙◌, int_eq, unsigned_abs, SFits, to_z, of_z, to_z-of_z, arith}
use Rattle.std.proofs.lemmas.Bool.Decides.{Decides-ltb}
use Rattle.std.proofs.lemmas.Int.{fits_signed_from_abs}
use Rattle.std.specs.Int.{w64, w128}
use Rattle.affine_systems.specs.declared.row.Var.{Var}
use Rattle.affine_systems.specs.declared.row.Term.{Term}
use Rattle.affine_systems.specs.declared.row.Var.TheVariants.{Cell}
use Rattle.affine_systems.specs.Terms.{var_eq, var_lt, term, term_before, Ascends}
use Rattle.affine_systems.specs.Rows.{row}
use Rattle.affine_systems.specs.Points.{factor_of}
use Rattle.affine_systems.specs.Normal.{gcd, divisor, is_small, are_small}
use Rattle.affine_systems.specs.Tidy.{is_unit}
use Rattle.affine_systems.specs.Given.{FactorsBelow, IsGiven, IsNormal}
use Rattle.affine_systems.proofs.Basics.{if_cases}
use Rattle.affine_systems.proofs.ReducedLaws.{IsReduced, normal-reduced}
use Rattle.affine_systems.proofs.AscendLaws.{ascends-term_before, before-term_before}
use Rattle.affine_systems.proofs.Merges.{pushed}

three : ℤ → ℤ → ℤ → List Term
three i j k = term_before (Cell 0) i (term_before (Cell 1) j (term_before (Cell 2) k []))

ascends-three : (i j k : ℤ) → Ascends (three i j k)
unfolding three var_lt
ascends-three i j k =
    let c = term_before (Cell 2) k [] in
    let b = term_before (Cell 1) j c in
    ascends-term_before (Cell 0) i b (before-term_before (Cell 0) (Cell 1) j c refl (before-term_before (Cell 0) (Cell 2) k [] refl tt))
    (ascends-term_before (Cell 1) j c (before-term_before (Cell 1) (Cell 2) k [] refl tt) (ascends-term_before (Cell 2) k [] tt tt))

pub below-term_before : (n : ℕ) (v : Var) (f : ℤ) (ts : List Term) → unsigned_abs f < n → FactorsBelow n ts → FactorsBelow n (term_before v f ts)
below-term_before n v f ts h k = if_cases (FactorsBelow n) (int_eq f (pos 0)) ts (term v f ∷ ts) (λ e. k) (λ e. (h, k))

below-three : (n : ℕ) (i j k : ℤ) → unsigned_abs i < n → unsigned_abs j < n → unsigned_abs k < n → FactorsBelow n (three i j k)
unfolding three
below-three n i j k a b c =
    below-term_before n (Cell 0) i (term_before (Cell 1) j (term_before (Cell 2) k [])) a
    (below-term_before n (Cell 1) j (term_before (Cell 2) k []) b (below-term_before n (Cell 2) k [] c tt))

pushed-three : (i j k : ℤ) → (([] ++ term_before (Cell 0) i []) ++ term_before (Cell 1) j []) ++ term_before (Cell 2) k [] ≡ three i j k
unfolding three
pushed-three i j k =
    let c = term_before (Cell 2) k [] in
    sym (pushed (term_before (Cell 0) i []) (Cell 1) j c) ∙ sym (pushed [] (Cell 0) i (term_before (Cell 1) j c))

-- a row of such terms is a row that the calls take
pub three_given : (none one two all : List Term) (i j k : ℤ) (e : Bool) (b : ℤ) → none ≡ [] → one ≡ none ++ term_before (Cell 0) i [] → two ≡ one ++ term_before (Cell 1) j [] → all ≡ two ++ term_before (Cell 2) k [] → unsigned_abs i < 2 ^ 126 → unsigned_abs j < 2 ^ 126 → unsigned_abs k < 2 ^ 126 → unsigned_abs b < 2 ^ 126 → IsGiven (row e all b)
three_given none one two all i j k e b n o t a x y z l =
    let s : all ≡ three i j k
    = a ∙ (ap (λ ts. ts ++ term_before (Cell 2) k []) (t ∙ ap (λ ts. ts ++ term_before (Cell 1) j []) (o ∙ ap (λ ts. ts ++ term_before (Cell 0) i []) n)) ∙ pushed-three i j k) in
    (subst Ascends (sym s) (ascends-three i j k), l, subst (FactorsBelow (2 ^ 126)) (sym s) (below-three (2 ^ 126) i j k x y z))

unit_small : (b : ℤ) → unsigned_abs b < 2 ^ 62 → (is_small b && are_small (term (Cell 0) (pos 1) ∷ [])) ≡ true
unfolding is_small
unit_small b k = ap (λ x. x && true) ((Decides-ltb (unsigned_abs b) (2 ^ 62)).1 k)

unit_divisor : divisor (term (Cell 0) (pos 1) ∷ []) 0 ≡ 1
unfolding divisor gcd
unit_divisor = refl

-- the first cell with factor 1 is a normal row with any small bound
pub unit_normal : (e : Bool) (ts : List Term) (b : ℤ) → ts ≡ term (Cell 0) (pos 1) ∷ [] → unsigned_abs b < 2 ^ 62 → IsNormal (row e ts b)
unit_normal e ts b h k =
    let r : IsReduced false (row e (term (Cell 0) (pos 1) ∷ []) b) = record { some = refl; divisor_one = unit_divisor; small = unit_small b k; last = λ _. refl } in
    subst (λ us. IsNormal (row e us b)) (sym h) ((refl, tt, tt), normal-reduced false (row e (term (Cell 0) (pos 1) ∷ []) b) r)

pub unit_factor : (ts : List Term) → ts ≡ term (Cell 0) (pos 1) ∷ [] → is_unit (factor_of (Cell 0) ts) ≡ true
unfolding factor_of var_eq
unit_factor ts h = ap (λ us. is_unit (factor_of (Cell 0) us)) h ∙ refl

wide_abs : (z : ℤ) → SFits w64 z → unsigned_abs z ≤ 2 ^ 63
wide_abs (pos n) f = let h : n < 2 ^ 63 = f.sfits in omega (arith, h)
wide_abs (negsuc n) f = let h : n < 2 ^ 63 = f.sfits in omega (arith, h)

-- a number of 64 bits as one of 128
pub wide_below : (z : ℤ) → SFits w64 z → unsigned_abs (to_z w128 (of_z w128 (to_z w64 (of_z w64 z)))) < 2 ^ 126
wide_below z f =
    let a = wide_abs z f in
    let g : SFits w128 z = fits_signed_from_abs w128 z (omega (arith, a)) in
    let e = ap (λ y. to_z w128 (of_z w128 y)) (to_z-of_z f) ∙ to_z-of_z g in
    subst (λ y. unsigned_abs y < 2 ^ 126) (sym e) (omega (arith, a))
