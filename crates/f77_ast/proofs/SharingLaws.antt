-- Symbols share a unit just where the test says so.
use Rattle.std.proofs.Common.{◌≡◌, ℕ, ◌+◌, ◌-◌, ◌<◌, min, max, Bool, true, false, Some, refl, sym, ap, ◌∙◌, arith}
use Rattle.std.specs.Prelude.{nat_eq, nat_lt, bytes_eq}
use Rattle.std.specs.Cmp.Lexicographic.{bytes_decides}
use Rattle.std.proofs.lemmas.Bool.{eqb-true, eq-eqb}
use Rattle.std.proofs.lemmas.Bool.Decides.{nat_tests}
use Rattle.f77_ast.specs.declared.symbol.Place.{Place}
use Rattle.f77_ast.specs.declared.symbol.Place.TheVariants.{Local, Dummy, Block, Constant}
use Rattle.f77_ast.specs.Units.{units_in}
use Rattle.f77_ast.specs.Shared.{OneUnit, group_unit, block_unit, unit_after, same_storage, if_same, meet, SharingIsOfUnits}

-- a unit among the first m from a place
abbrev HasUnitAt : ℕ → Place → OneUnit → Type 0
HasUnitAt m p u = (k : ℕ) × (k < m) × (unit_after p k ≡ Some u)

abbrev HaveOne : ℕ → ℕ → Place → Place → Type 0
HaveOne m n p q = (u : OneUnit) × HasUnitAt m p u × HasUnitAt n q u

max_below : (m n x y : ℕ) → nat_lt (max x y) (min (x + m) (y + n)) ≡ true → (max x y - x < m) × (max x y - y < n) × (x + (max x y - x) ≡ max x y) × (y + (max x y - y) ≡ max x y)
max_below m n x y h = let b : max x y < min (x + m) (y + n) = grind (arith, nat_tests) in (omega arith, omega arith, omega arith, omega arith)

below_max : (m n x y k j : ℕ) → k < m → j < n → x + k ≡ y + j → nat_lt (max x y) (min (x + m) (y + n)) ≡ true
below_max m n x y k j a b e = let c : max x y < min (x + m) (y + n) = omega arith in grind (arith, nat_tests)

-- ---- what the test says

one_of : (m n : ℕ) (p q : Place) → meet m n (same_storage p q) ≡ true → HaveOne m n p q
one_of m n (Local g x) (Local h y) t = go (nat_eq g h) refl t
  where
    go : (b : Bool) → nat_eq g h ≡ b → meet m n (if_same b x y) ≡ true → HaveOne m n (Local g x) (Local h y)
    go true e r =
        let w = max_below m n x y r in
        (group_unit g (max x y), (max x y - x, w.0, ap (λ i. Some (group_unit g i)) w.2), (max x y - y, w.1, ap (λ i. Some (group_unit h i)) w.3 ∙ ap (λ i. Some (group_unit i (max x y))) (sym (eqb-true g h e))))
    go false e r = cc
one_of m n (Local g x) (Dummy i) t = cc
one_of m n (Local g x) (Block c y) t = cc
one_of m n (Local g x) (Constant i) t = cc
one_of m n (Dummy i) q t = cc
one_of m n (Block b x) (Local h y) t = cc
one_of m n (Block b x) (Dummy i) t = cc
one_of m n (Block b x) (Block c y) t = go (bytes_eq b c) refl t
  where
    go : (s : Bool) → bytes_eq b c ≡ s → meet m n (if_same s x y) ≡ true → HaveOne m n (Block b x) (Block c y)
    go true e r =
        let w = max_below m n x y r in
        (block_unit b (max x y), (max x y - x, w.0, ap (λ i. Some (block_unit b i)) w.2), (max x y - y, w.1, ap (λ i. Some (block_unit c i)) w.3 ∙ ap (λ i. Some (block_unit i (max x y))) (sym ((bytes_decides b c).0 e))))
    go false e r = cc
one_of m n (Block b x) (Constant i) t = cc
one_of m n (Constant i) q t = cc

-- ---- what a common unit gives

of_one : (m n : ℕ) (p q : Place) → HaveOne m n p q → meet m n (same_storage p q) ≡ true
of_one m n (Local g x) (Local h y) (u, (k, a, e), (j, b, f)) =
    let same : g ≡ h = cc in
    let at : x + k ≡ y + j = cc in
    ap (λ t. meet m n (if_same t x y)) (eq-eqb g h same) ∙ below_max m n x y k j a b at
of_one m n (Local g x) (Dummy i) (u, (k, a, e), (j, b, f)) = cc
of_one m n (Local g x) (Block c y) (u, (k, a, e), (j, b, f)) = cc
of_one m n (Local g x) (Constant i) (u, (k, a, e), (j, b, f)) = cc
of_one m n (Dummy i) q (u, (k, a, e), (j, b, f)) = cc
of_one m n (Block d x) (Local h y) (u, (k, a, e), (j, b, f)) = cc
of_one m n (Block d x) (Dummy i) (u, (k, a, e), (j, b, f)) = cc
of_one m n (Block d x) (Block c y) (u, (k, a, e), (j, b, f)) =
    let same : d ≡ c = cc in
    let at : x + k ≡ y + j = cc in
    ap (λ t. meet m n (if_same t x y)) ((bytes_decides d c).1 same) ∙ below_max m n x y k j a b at
of_one m n (Block d x) (Constant i) (u, (k, a, e), (j, b, f)) = cc
of_one m n (Constant i) q (u, (k, a, e), (j, b, f)) = cc

pub sharing_is_of_units : SharingIsOfUnits
sharing_is_of_units ss a b = (one_of (units_in ss a) (units_in ss b) a.place b.place, of_one (units_in ss a) (units_in ss b) a.place b.place)
