-- Subscripts as cells behind those of symbols: what a system is when it is read as one of cells alone.
use Rattle.std.proofs.Common.{◌≡◌, ℕ, ◌+◌, ◌-◌, ◌<◌, ◌≤◌, true, false, List, [], ◌∷◌, length, map, ℤ, pos, refl, ap, ap₂, ◌∙◌, arith, int_eq}
use Rattle.std.specs.Prelude.{nat_le}
use Rattle.std.proofs.lemmas.Bool.{le-leb, lt-ltb, ltb-true}
use Rattle.affine_systems.specs.declared.row.Var.{Var}
use Rattle.affine_systems.specs.declared.row.Var.TheVariants.{Cell, Exit, Phi, Aux}
use Rattle.affine_systems.specs.declared.row.Term.{Term}
use Rattle.affine_systems.specs.declared.row.Row.{Row}
use Rattle.affine_systems.specs.Terms.{var_eq, var_lt, term, add_term, renamed_terms, IsBefore, Ascends}
use Rattle.affine_systems.specs.Rows.{row, renamed_row, AllRows}
use Rattle.affine_systems.specs.Given.{FactorsBelow, IsGiven}
use Rattle.affine_systems.proofs.AscendLaws.{var_lt-apart}
use Rattle.system_text.specs.Reading.{Bytes}
use Rattle.laws_lines.specs.RegionTexts.Reading.{as_subscript}
use Rattle.laws_lines.specs.RegionTexts.Printed.{IsPlaced, ArePlaced}

-- of n names of symbols
abbrev pub as_cell : ℕ → Var → Var
as_cell n (Cell k) = Cell k
as_cell n (Exit k) = Exit k
as_cell n (Phi k) = Cell (n + k)
as_cell n (Aux k) = Aux k

abbrev pub cell_term : ℕ → Term → Term
cell_term n t = term (as_cell n t.var) t.factor

abbrev pub cell_terms : ℕ → List Term → List Term
cell_terms n ts = map (cell_term n) ts

abbrev pub cell_row : ℕ → Row → Row
cell_row n r = row r.equal (cell_terms n r.terms) r.bound

abbrev pub cell_rows : ℕ → List Row → List Row
cell_rows n rs = map (cell_row n) rs

-- ---- and back

var-back : (names : List Bytes) (v : Var) → IsPlaced names v → as_subscript (length names) (as_cell (length names) v) ≡ v
var-back names (Cell k) h = let e : nat_le k (length names) ≡ true = le-leb k (length names) h.1 in rw e refl
var-back names (Exit k) h = absurd h
var-back names (Phi k) h =
    let l = h.0 in
    let e : nat_le (length names + k) (length names) ≡ false = above (length names) k l in
    let f : length names + k - length names ≡ k = omega arith in
    rw e (ap Phi f)
  where
    above : (n k : ℕ) → 0 < k → nat_le (n + k) n ≡ false
    above n k l = grind arith
var-back names (Aux k) h = absurd h

-- a term that comes before all others
add-first : (v : Var) (f : ℤ) (us : List Term) → int_eq f (pos 0) ≡ false → IsBefore v us → add_term v f us ≡ term v f ∷ us
add-first v f [] e h = rw e refl
add-first v f (u ∷ us) e h =
    let a : var_eq v u.var ≡ false = var_lt-apart v u.var h.0 in
    let b : var_lt v u.var ≡ true = h.0 in
    rw (a, b, e) refl

terms-back : (names : List Bytes) (ts : List Term) → Ascends ts → ArePlaced names ts → renamed_terms (as_subscript (length names)) (cell_terms (length names) ts) ≡ ts
terms-back names [] h k = refl
terms-back names (t ∷ ts) h k =
    ap₂ (λ (v : Var) (us : List Term). add_term v t.factor us) (var-back names t.var k.0) (terms-back names ts h.2 k.1)
    ∙ add-first t.var t.factor ts h.0 h.1

pub rows-back : (names : List Bytes) (rs : List Row) → AllRows IsGiven rs → AllRows (λ r. ArePlaced names r.terms) rs → map (renamed_row (as_subscript (length names))) (cell_rows (length names) rs) ≡ rs
rows-back names [] g k = refl
rows-back names (r ∷ rs) g k = ap₂ (λ (ts : List Term) (qs : List Row). row r.equal ts r.bound ∷ qs) (terms-back names r.terms g.0.0 k.0) (rows-back names rs g.1 k.1)

-- ---- their order

phi_later : (m k : ℕ) (x y : ℕ) → m ≤ x → x < y → var_lt (Cell m) (Cell y) ≡ true
unfolding var_lt
phi_later m k x y l h = lt-ltb m y (omega (arith, l, h))

cell_first : (names : List Bytes) (v w : Var) → IsPlaced names v → IsPlaced names w → var_lt v w ≡ true → var_lt (as_cell (length names) v) (as_cell (length names) w) ≡ true
unfolding var_lt
cell_first names (Cell i) (Cell j) h k e = e
cell_first names (Cell i) (Phi j) h k e = let a = h.1 in let b = k.0 in lt-ltb i (length names + j) (omega (arith, a, b))
cell_first names (Phi i) (Cell j) h k e = cc
cell_first names (Phi i) (Phi j) h k e = let l = ltb-true i j e in lt-ltb (length names + i) (length names + j) (omega (arith, l))
cell_first names (Exit i) w h k e = absurd h
cell_first names (Aux i) w h k e = absurd h
cell_first names (Cell i) (Exit j) h k e = absurd k
cell_first names (Cell i) (Aux j) h k e = absurd k
cell_first names (Phi i) (Exit j) h k e = absurd k
cell_first names (Phi i) (Aux j) h k e = absurd k

all_later : (names : List Bytes) (v : Var) (ts : List Term) → IsPlaced names v → ArePlaced names ts → IsBefore v ts → IsBefore (as_cell (length names) v) (cell_terms (length names) ts)
all_later names v [] h k b = tt
all_later names v (t ∷ ts) h k b = (cell_first names v t.var h k.0 b.0, all_later names v ts h k.1 b.1)

ascending : (names : List Bytes) (ts : List Term) → ArePlaced names ts → Ascends ts → Ascends (cell_terms (length names) ts)
ascending names [] k h = tt
ascending names (t ∷ ts) k h = (h.0, all_later names t.var ts k.0 k.1 h.1, ascending names ts k.1 h.2)

same_factors : (n m : ℕ) (ts : List Term) → FactorsBelow n ts → FactorsBelow n (cell_terms m ts)
same_factors n m [] h = tt
same_factors n m (t ∷ ts) h = (h.0, same_factors n m ts h.1)

pub rows_given : (names : List Bytes) (rs : List Row) → AllRows IsGiven rs → AllRows (λ r. ArePlaced names r.terms) rs → AllRows IsGiven (cell_rows (length names) rs)
rows_given names [] g k = tt
rows_given names (r ∷ rs) g k = ((ascending names r.terms k.0 g.0.0, g.0.1, same_factors _ (length names) r.terms g.0.2), rows_given names rs g.1 k.1)
