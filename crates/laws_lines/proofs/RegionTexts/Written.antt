-- A system is written as the one of cells alone, with the names of subscripts behind those of symbols.
use Rattle.std.proofs.Common.{◌≡◌, ℕ, zero, suc, ◌+◌, ◌<◌, ◌≤◌, Bool, true, false, List, [], ◌∷◌, ◌++◌, length, map, pos, refl, sym, ap, ap₂, ◌∙◌, arith}
use Rattle.std.specs.Prelude.{if◌then◌else◌, not, ◌&&◌, nat_eq, int_lt, codes, decimal, unsigned_abs, slice_index_or}
use Rattle.std.specs.Fmt.{digits}
use Rattle.affine_systems.specs.declared.row.Var.{Var}
use Rattle.affine_systems.specs.declared.row.Var.TheVariants.{Cell, Exit, Phi, Aux}
use Rattle.affine_systems.specs.declared.row.Term.{Term}
use Rattle.affine_systems.specs.declared.row.Row.{Row}
use Rattle.affine_systems.specs.Terms.{has_no_terms}
use Rattle.affine_systems.specs.Rows.{AllRows}
use Rattle.system_text.specs.SystemText.{name_at, var_text, term_text, has_sign, term_texts, bound_text, side_text, row_side, row_text, are_never, joined, rows_text}
use Rattle.system_text.specs.Reading.{Bytes}
use Rattle.system_text.specs.Printed.{IsNumber}
use Rattle.laws_lines.specs.RegionTexts.Reading.{phi_names, with_phis}
use Rattle.laws_lines.specs.RegionTexts.Printed.{IsPlaced, ArePlaced}
use Rattle.laws_lines.proofs.RegionTexts.Numbered.{as_cell, cell_term, cell_terms, cell_row, cell_rows}

-- ---- names

first_names : (xs ys : List Bytes) (k : ℕ) → k < length xs → slice_index_or (xs ++ ys) k [] ≡ slice_index_or xs k []
first_names [] ys k l = absurd (omega (arith, l))
first_names (x ∷ xs) ys zero l = refl
first_names (x ∷ xs) ys (suc k) l = first_names xs ys k (omega (arith, l))

later_names : (xs ys : List Bytes) (j k : ℕ) → j ≡ length xs + k → slice_index_or (xs ++ ys) j [] ≡ slice_index_or ys k []
later_names [] ys j k e = let f : j ≡ k = omega (arith, e) in ap (λ (i : ℕ). slice_index_or ys i []) f
later_names (x ∷ xs) ys zero k e = absurd (omega (arith, e))
later_names (x ∷ xs) ys (suc j) k e = later_names xs ys j k (omega (arith, e))

symbol_name : (names : List Bytes) (n : ℕ) → IsNumber names n → name_at names n ≡ name_at (with_phis names) n
symbol_name names zero h = absurd (omega (arith, h.0))
symbol_name names (suc k) h = let l = h.1 in sym (first_names names phi_names k (omega (arith, l)))

behind_name : (names : List Bytes) (n k : ℕ) → n ≡ length names + suc k → name_at (with_phis names) n ≡ slice_index_or phi_names k []
behind_name names zero k e = absurd (omega (arith, e))
behind_name names (suc j) k e = later_names names phi_names j k (omega (arith, e))

phi_name : (k : ℕ) → k < 7 → codes "PHI" ++ decimal (suc k) ≡ slice_index_or phi_names k []
unfolding digits
phi_name zero l = refl
phi_name (suc zero) l = refl
phi_name (suc (suc zero)) l = refl
phi_name (suc (suc (suc zero))) l = refl
phi_name (suc (suc (suc (suc zero)))) l = refl
phi_name (suc (suc (suc (suc (suc zero))))) l = refl
phi_name (suc (suc (suc (suc (suc (suc zero)))))) l = refl
phi_name (suc (suc (suc (suc (suc (suc (suc k))))))) l = absurd (omega (arith, l))

subscript_name : (names : List Bytes) (k : ℕ) → 0 < k → k ≤ 7 → codes "PHI" ++ decimal k ≡ name_at (with_phis names) (length names + k)
subscript_name names zero h l = absurd (omega (arith, h))
subscript_name names (suc k) h l = phi_name k (omega (arith, l)) ∙ sym (behind_name names (length names + suc k) k refl)

-- ---- rows

var_same : (names : List Bytes) (v : Var) → IsPlaced names v → var_text names v ≡ var_text (with_phis names) (as_cell (length names) v)
var_same names (Cell n) h = symbol_name names n h
var_same names (Exit n) h = absurd h
var_same names (Phi n) h = subscript_name names n h.0 h.1
var_same names (Aux n) h = absurd h

term_same : (names : List Bytes) (t : Term) → IsPlaced names t.var → term_text names t ≡ term_text (with_phis names) (cell_term (length names) t)
term_same names t h = ap (λ (x : Bytes). if nat_eq (unsigned_abs t.factor) 1 then x else decimal (unsigned_abs t.factor) ++ (codes "*" ++ x)) (var_same names t.var h)

terms_same : (names : List Bytes) (negative : Bool) (ts : List Term) → ArePlaced names ts → term_texts negative names ts ≡ term_texts negative (with_phis names) (cell_terms (length names) ts)
terms_same names negative [] h = refl
terms_same names negative (t ∷ ts) h = ap₂ (λ (x : Bytes) (xs : List Bytes). if has_sign negative t.factor then x ∷ xs else xs) (term_same names t h.0) (terms_same names negative ts h.1)

side_same : (names : List Bytes) (right : Bool) (r : Row) → ArePlaced names r.terms → row_side right names r ≡ row_side right (with_phis names) (cell_row (length names) r)
side_same names right r h = ap (λ (xs : List Bytes). side_text (xs ++ bound_text (not right) r.bound)) (terms_same names right r.terms h)

row_same : (names : List Bytes) (r : Row) → ArePlaced names r.terms → row_text names r ≡ row_text (with_phis names) (cell_row (length names) r)
row_same names r h = ap₂ (λ (x y : Bytes). x ++ ((if r.equal then codes "==" else codes "<=") ++ y)) (side_same names false r h) (side_same names true r h)

rows_same : (names : List Bytes) (rs : List Row) → AllRows (λ r. ArePlaced names r.terms) rs → map (row_text names) rs ≡ map (row_text (with_phis names)) (cell_rows (length names) rs)
rows_same names [] h = refl
rows_same names (r ∷ rs) h = ap₂ (λ (x : Bytes) (xs : List Bytes). x ∷ xs) (row_same names r h.0) (rows_same names rs h.1)

same_none : (n : ℕ) (ts : List Term) → has_no_terms (cell_terms n ts) ≡ has_no_terms ts
same_none n [] = refl
same_none n (t ∷ ts) = refl

pub same_never : (n : ℕ) (rs : List Row) → are_never (cell_rows n rs) ≡ are_never rs
same_never n [] = refl
same_never n (r ∷ []) = ap (λ (b : Bool). not r.equal && (b && int_lt r.bound (pos 0))) (same_none n r.terms)
same_never n (r ∷ (s ∷ rs)) = refl

pub written_same : (names : List Bytes) (rs : List Row) → AllRows (λ r. ArePlaced names r.terms) rs → rows_text names rs ≡ rows_text (with_phis names) (cell_rows (length names) rs)
written_same names rs h =
    ap₂ (λ (b : Bool) (xs : List Bytes). if b then codes "FALSE" else joined (codes ", ") xs) (sym (same_never (length names) rs)) (rows_same names rs h)
