-- Units lie in the storage of their symbols.
use Rattle.std.proofs.Common.{◌≡◌, ℕ, zero, suc, ◌+◌, ◌-◌, ◌<◌, ◌≤◌, Bool, true, false, List, [], ◌∷◌, Some, None, refl, sym, ap, ◌∙◌, subst, arith}
use Rattle.std.specs.Prelude.{nat_eq, nat_le, bytes_eq, slice_get, if◌then◌else◌}
use Rattle.std.specs.Cmp.Lexicographic.{bytes_decides}
use Rattle.std.proofs.lemmas.Bool.{eq-eqb, ne_eqb}
use Rattle.std.proofs.lemmas.Bool.Decides.{nat_tests}
use Rattle.f77_ast.specs.declared.symbol.Place.{Place}
use Rattle.f77_ast.specs.declared.symbol.Place.TheVariants.{Local, Dummy, Block, Constant}
use Rattle.f77_ast.specs.Symbols.{SymbolTree}
use Rattle.f77_ast.specs.Units.{units_in}
use Rattle.f77_ast.specs.Shared.{OneUnit, group_unit, block_unit, unit_after, symbol_at}
use Rattle.f77_ast.specs.Storages.{Storage, storage_of, offset_of, place_storage, end_in, reached, UnitsLieWithin, UnitsAreApart, SizesAreReached}

-- ---- a unit and its place

pub unit_there : (p : Place) (u : OneUnit) (k : ℕ) → unit_after p k ≡ Some u → place_storage p ≡ Some (storage_of u)
unit_there (Local g o) u k e = let same : group_unit g (o + k) ≡ u = cc in ap (λ w. Some (storage_of w)) same
unit_there (Dummy n) u k e = cc
unit_there (Block b o) u k e = let same : block_unit b (o + k) ≡ u = cc in ap (λ w. Some (storage_of w)) same
unit_there (Constant n) u k e = cc

if_true : (b : Bool) (i m n : ℕ) → b ≡ true → i < m → i < (if b then m else n)
if_true true i m n e h = h
if_true false i m n e h = cc

pub unit_below : (p : Place) (u : OneUnit) (m k : ℕ) → k < m → unit_after p k ≡ Some u → offset_of u < end_in (storage_of u) p m
unit_below (Local g o) u m k h e =
    let same : group_unit g (o + k) ≡ u = cc in
    let less : o + k < o + m = omega arith in
    subst (λ (w : OneUnit). offset_of w < end_in (storage_of w) (Local g o) m) same (if_true (nat_eq g g) (o + k) (o + m) 0 (eq-eqb g g refl) less)
unit_below (Dummy n) u m k h e = cc
unit_below (Block b o) u m k h e =
    let same : block_unit b (o + k) ≡ u = cc in
    let less : o + k < o + m = omega arith in
    subst (λ (w : OneUnit). offset_of w < end_in (storage_of w) (Block b o) m) same (if_true (bytes_eq b b) (o + k) (o + m) 0 ((bytes_decides b b).1 refl) less)
unit_below (Constant n) u m k h e = cc

-- ---- a symbol among others

one_of : (ss others : List SymbolTree) (z : Storage) (i : ℕ) (s : SymbolTree) → slice_get others i ≡ Some s → end_in z s.place (units_in ss s) ≤ reached ss z others
one_of ss [] z zero s e = cc
one_of ss [] z (suc i) s e = cc
one_of ss (t ∷ others) z zero s e =
    let same : t ≡ s = cc in
    let first : end_in z t.place (units_in ss t) ≤ reached ss z (t ∷ others) = omega arith in
    subst (λ (r : SymbolTree). end_in z r.place (units_in ss r) ≤ reached ss z (t ∷ others)) same first
one_of ss (t ∷ others) z (suc i) s e = let rest = one_of ss others z i s e in omega arith

pub from_number : (ss : List SymbolTree) (n : ℕ) (s : SymbolTree) → symbol_at ss n ≡ Some s → slice_get ss (n - 1) ≡ Some s
from_number ss n s e = go (nat_eq n 0) e
  where
    go : (b : Bool) → (if b then None else slice_get ss (n - 1)) ≡ Some s → slice_get ss (n - 1) ≡ Some s
    go true e = cc
    go false e = e

pub units_lie_within : UnitsLieWithin
units_lie_within ss n s u at (k, h, e) =
    let below = unit_below s.place u (units_in ss s) k h e in
    let most = one_of ss ss (storage_of u) (n - 1) s (from_number ss n s at) in
    record { there = unit_there s.place u k e; below = omega arith }

pub units_are_apart : UnitsAreApart
units_are_apart ss a b u apart (k, h, e) (j, i, f) = apart (unit_there a.place u k e ∙ sym (unit_there b.place u j f))

-- ---- the last one

-- one of these symbols ends there
abbrev EndsThere : List SymbolTree → Storage → List SymbolTree → ℕ → Type 0
EndsThere ss z others n = (i : ℕ) × (s : SymbolTree) × (slice_get others i ≡ Some s) × (end_in z s.place (units_in ss s) ≡ n)

last_of : (ss others : List SymbolTree) (z : Storage) → 0 < reached ss z others → EndsThere ss z others (reached ss z others)
last_of ss [] z h = absurd (omega arith)
last_of ss (t ∷ others) z h = go (nat_le (reached ss z others) (end_in z t.place (units_in ss t))) refl (last_of ss others z)
  where
    go : (b : Bool) → nat_le (reached ss z others) (end_in z t.place (units_in ss t)) ≡ b → (0 < reached ss z others → EndsThere ss z others (reached ss z others)) → EndsThere ss z (t ∷ others) (reached ss z (t ∷ others))
    go true e ih =
        let most : reached ss z others ≤ end_in z t.place (units_in ss t) = grind (arith, nat_tests) in
        let same : end_in z t.place (units_in ss t) ≡ reached ss z (t ∷ others) = omega arith in
        (zero, t, refl, same)
    go false e ih =
        let more : end_in z t.place (units_in ss t) < reached ss z others = grind (arith, nat_tests) in
        let some : 0 < reached ss z others = omega arith in
        let rest = ih some in
        let same : reached ss z others ≡ reached ss z (t ∷ others) = omega arith in
        (suc rest.0, rest.1, rest.2, rest.3 ∙ same)

pub to_number : (ss : List SymbolTree) (i : ℕ) (s : SymbolTree) → slice_get ss i ≡ Some s → symbol_at ss (suc i) ≡ Some s
to_number ss i s e =
    let low : suc i - 1 ≡ i = omega arith in
    let some : nat_eq (suc i) 0 ≡ false = ne_eqb (suc i) 0 (λ q. omega arith) in
    ap (λ b. if b then None else slice_get ss (suc i - 1)) some ∙ ap (slice_get ss) low ∙ e

pub at_number : (ss : List SymbolTree) (m : ℕ) (s : SymbolTree) → 1 ≤ m → slice_get ss (m - 1) ≡ Some s → symbol_at ss m ≡ Some s
at_number ss m s h e = ap (λ b. if b then None else slice_get ss (m - 1)) (ne_eqb m 0 (λ z. absurd (omega (arith, h, z)))) ∙ e

pub sizes_are_reached : SizesAreReached
sizes_are_reached ss z h = let r = last_of ss ss z h in (suc r.0, r.1, to_number ss r.0 r.1 r.2, r.3)
