-- Different units have different numbers.
use Rattle.std.proofs.Common.{◌≡◌, ℕ, zero, suc, ◌+◌, ◌*◌, ◌^◌, ◌/◌, ◌%◌, ◌<◌, ◌≤◌, Bool, true, false, List, Option, Some, None, refl, sym, ap, ◌∙◌, subst, arith}
use Rattle.std.specs.Prelude.{if◌then◌else◌, nat_eq}
use Rattle.std.proofs.lemmas.Nat.{div-mul-add}
use Rattle.std.proofs.Math.Nat.{pow-suc, mul-add-mod_self_left}
use Rattle.f77_ast.specs.Symbols.{number_from}
use Rattle.f77_meaning.specs.Areas.{Area, block, group, own, Numbering, or_zero, place_in, paired, area_number, unit_at}
use Rattle.f77_meaning.specs.Laws.{IsKnown, UnitsDiffer, is_own, TemporariesAreRecognisable}
use Rattle.f77_ast.proofs.NumberedNames.{one_number}

-- ---- pairs

paired_suc : (m n : ℕ) → paired (suc m) n ≡ 2 * paired m n
paired_suc m n = let e : 2 ^ suc m ≡ 2 ^ m * 2 = pow-suc 2 m in rw e (omega arith)

pub paired_same : (m n k l : ℕ) → paired m n ≡ paired k l → (m ≡ k) × (n ≡ l)
paired_same zero n zero l e = (refl, omega (arith, e))
paired_same zero n (suc k) l e = let z : paired zero n ≡ 2 * paired k l = e ∙ paired_suc k l in absurd (omega (arith, z))
paired_same (suc m) n zero l e = let z : 2 * paired m n ≡ paired zero l = sym (paired_suc m n) ∙ e in absurd (omega (arith, z))
paired_same (suc m) n (suc k) l e =
    let z : 2 * paired m n ≡ 2 * paired k l = sym (paired_suc m n) ∙ e ∙ paired_suc k l in
    let same = paired_same m n k l (omega (arith, z)) in
    (ap suc same.0, same.1)

-- ---- places of names

is_some_place : (o : Option ℕ) → 0 < or_zero o → o ≡ Some (or_zero o)
is_some_place None h = absurd (omega (arith, h))
is_some_place (Some n) h = refl

pub same_place : (names : List (List ℕ)) (x y : List ℕ) → 0 < place_in names x → place_in names x ≡ place_in names y → x ≡ y
same_place names x y h e =
    let o = number_from 1 names x in
    let p = number_from 1 names y in
    let h' : 0 < or_zero p = subst (λ n. 0 < n) e h in
    one_number 1 (or_zero o) names x y (is_some_place o h) (is_some_place p h' ∙ ap Some (sym e))

-- ---- units

same_area : (g : Numbering) (a b : Area) → IsKnown g a → IsKnown g b → area_number g a ≡ area_number g b → a ≡ b
same_area g (block x) (block y) h i e = ap block (same_place g.blocks x y h (omega (arith, e)))
same_area g (block x) (group m n) h i e = absurd (omega (arith, e))
same_area g (block x) (own m s k) h i e = absurd (omega (arith, e))
same_area g (group m n) (block y) h i e = absurd (omega (arith, e))
same_area g (group m n) (group k l) h i e =
    let same = paired_same (place_in g.modules m) n (place_in g.modules k) l (omega (arith, e)) in
    let p = same_place g.modules m k h same.0 in
    ap (λ q. group q n) p ∙ ap (group k) same.1
same_area g (group m n) (own k s p) h i e = absurd (omega (arith, e))
same_area g (own m s k) (block y) h i e = absurd (omega (arith, e))
same_area g (own m s k) (group l n) h i e = absurd (omega (arith, e))
same_area g (own m s k) (own l t q) h i e =
    let same = paired_same (place_in g.modules m) (paired s k) (place_in g.modules l) (paired t q) (omega (arith, e)) in
    let p = same_place g.modules m l h same.0 in
    let parts = paired_same s k t q same.1 in
    ap (λ x. own x s k) p ∙ ap (λ x. own l x k) parts.0 ∙ ap (own l t) parts.1

pub units_differ : UnitsDiffer
units_differ g a b m n h i p q e =
    let area : area_number g a ≡ area_number g b = sym (div-mul-add (area_number g a) g.room m p) ∙ ap (λ x. x / g.room) e ∙ div-mul-add (area_number g b) g.room n q in
    let moved : area_number g b * g.room + m ≡ area_number g b * g.room + n = subst (λ x. x * g.room + m ≡ unit_at g b n) area e in
    (same_area g a b h i area, omega (arith, moved))

-- ---- units of expressions

rest_of_three : (n q r k : ℕ) → n ≡ 3 * q + r → r % 3 ≡ k → n % 3 ≡ k
rest_of_three n q r k e h = ap (λ x. x % 3) e ∙ mul-add-mod_self_left 3 q r ∙ h

area_told : (g : Numbering) (a : Area) → nat_eq (area_number g a % 3) 2 ≡ is_own a
area_told g (block x) = ap (λ n. nat_eq n 2) (rest_of_three (area_number g (block x)) (place_in g.blocks x) 0 0 (omega arith) refl)
area_told g (group m n) = ap (λ k. nat_eq k 2) (rest_of_three (area_number g (group m n)) (paired (place_in g.modules m) n) 1 1 (omega arith) refl)
area_told g (own m s k) = ap (λ n. nat_eq n 2) (rest_of_three (area_number g (own m s k)) (paired (place_in g.modules m) (paired s k)) 2 2 (omega arith) refl)

pub temporaries_are_recognisable : TemporariesAreRecognisable
temporaries_are_recognisable g a o h = ap (λ n. nat_eq (n % 3) 2) (div-mul-add (area_number g a) g.room o h) ∙ area_told g a
