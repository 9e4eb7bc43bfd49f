-- The rows of a region are read as they were written, and no brace stands in them.
use Rattle.std.proofs.Common.{◌≡◌, ◌+◌, Bool, true, false, List, [], ◌∷◌, ◌++◌, length, map, Option, Some, None, refl, sym, ap, subst, ◌∙◌, arith, length-append}
use Rattle.std.specs.Prelude.{if◌then◌else◌, codes, option_map, option_and_then}
use Rattle.affine_systems.specs.declared.row.Var.{Var}
use Rattle.affine_systems.specs.declared.row.Var.TheVariants.{Cell, Exit, Phi, Aux}
use Rattle.affine_systems.specs.declared.row.Term.{Term}
use Rattle.affine_systems.specs.declared.row.Row.{Row}
use Rattle.affine_systems.specs.declared.row.System.{System}
use Rattle.affine_systems.specs.Rows.{system, renamed_row, AllRows}
use Rattle.affine_systems.specs.Given.{IsGiven}
use Rattle.system_text.specs.SystemText.{each_after, joined, row_side, row_text, are_never, rows_text, system_text}
use Rattle.system_text.specs.Reading.{Bytes, cut, read_rows, read_system}
use Rattle.system_text.specs.Printed.{AreNames, IsNamed, AreNamed, IsOrdered}
use Rattle.system_text.proofs.Texts.{IsFree, AreFree, free-append, free-each_after, cut-at}
use Rattle.system_text.proofs.Sides.{side_free}
use Rattle.system_text.proofs.SystemBack.{systems_read_back, brace_outer}
use Rattle.laws_lines.specs.RegionTexts.Reading.{phi_names, with_phis, as_subscript, read_piece}
use Rattle.laws_lines.specs.RegionTexts.Printed.{AreOther, IsPlaced, ArePlaced, IsOfPlaces}
use Rattle.laws_lines.proofs.RegionTexts.Numbered.{as_cell, cell_terms, cell_rows, rows-back, rows_given}
use Rattle.laws_lines.proofs.RegionTexts.Written.{same_never, written_same}

-- ---- the system of cells

var_named : (names : List Bytes) (v : Var) → IsPlaced names v → IsNamed (with_phis names) (as_cell (length names) v)
var_named names (Cell n) h = let a = length-append names phi_names in let b = h.1 in (h.0, omega (arith, a, b))
var_named names (Exit n) h = absurd h
var_named names (Phi n) h =
    let a : length (with_phis names) ≡ length names + 7 = length-append names phi_names in
    let b = h.0 in
    let c = h.1 in
    (omega (arith, b), omega (arith, a, c))
var_named names (Aux n) h = absurd h

terms_named : (names : List Bytes) (ts : List Term) → ArePlaced names ts → AreNamed (with_phis names) (cell_terms (length names) ts)
terms_named names [] h = tt
terms_named names (t ∷ ts) h = (var_named names t.var h.0, terms_named names ts h.1)

rows_named : (names : List Bytes) (rs : List Row) → AllRows (λ r. ArePlaced names r.terms) rs → AllRows (λ r. AreNamed (with_phis names) r.terms) (cell_rows (length names) rs)
rows_named names [] h = tt
rows_named names (r ∷ rs) h = (terms_named names r.terms h.0, rows_named names rs h.1)

abbrev cells_of : List Bytes → System → System
cells_of names s = system (cell_rows (length names) s.rows) false

cells_ordered : (names : List Bytes) (s : System) → IsOfPlaces names s → IsOrdered (cells_of names s)
cells_ordered names s h = record {
  rows = rows_given names s.rows h.0.rows h.1;
  never = λ e. ap (cell_rows (length names)) (h.0.never (sym (same_never (length names) s.rows) ∙ e));
}

-- ---- no brace

sign_free : (e : Bool) → IsFree 125 (if e then codes "==" else codes "<=")
sign_free true = (refl, (refl, tt))
sign_free false = (refl, (refl, tt))

row_free : (names : List Bytes) (r : Row) → AreNames names → IsGiven r → AreNamed names r.terms → IsFree 125 (row_text names r)
row_free names r h g k =
    free-append 125 (row_side false names r) ((if r.equal then codes "==" else codes "<=") ++ row_side true names r) (side_free names false r 125 brace_outer refl h g k)
    (free-append 125 (if r.equal then codes "==" else codes "<=") (row_side true names r) (sign_free r.equal) (side_free names true r 125 brace_outer refl h g k))

each_free : (names : List Bytes) (rs : List Row) → AreNames names → AllRows IsGiven rs → AllRows (λ r. AreNamed names r.terms) rs → AreFree 125 (map (row_text names) rs)
each_free names [] h g k = tt
each_free names (r ∷ rs) h g k = (row_free names r h g.0 k.0, each_free names rs h g.1 k.1)

free_at : (names : List Bytes) (rs : List Row) (b : Bool) → AreFree 125 (map (row_text names) rs) → IsFree 125 (if b then codes "FALSE" else joined (codes ", ") (map (row_text names) rs))
free_at names rs true f = (refl, (refl, (refl, (refl, (refl, tt)))))
free_at names [] false f = tt
free_at names (r ∷ rs) false f = free-append 125 (row_text names r) (each_after (codes ", ") (map (row_text names) rs)) f.0 (free-each_after 125 (codes ", ") (map (row_text names) rs) (refl, (refl, tt)) f.1)

cells_free : (names : List Bytes) (s : System) → AreOther names → IsOfPlaces names s → IsFree 125 (rows_text (with_phis names) (cell_rows (length names) s.rows))
cells_free names s h k =
    free_at (with_phis names) (cell_rows (length names) s.rows) (are_never (cell_rows (length names) s.rows))
    (each_free (with_phis names) (cell_rows (length names) s.rows) h (rows_given names s.rows k.0.rows k.1) (rows_named names s.rows k.1))

pub rows_free : (names : List Bytes) (s : System) → AreOther names → IsOfPlaces names s → IsFree 125 (rows_text names s.rows)
rows_free names s h k = subst (IsFree 125) (sym (written_same names s.rows k.1)) (cells_free names s h k)

-- ---- rows

rows_of_system : (o : Option (List Row)) (rs : List Row) → option_and_then (λ (rows : List Row). Some (system rows false)) o ≡ Some (system rs false) → o ≡ Some rs
rows_of_system None rs e = cc
rows_of_system (Some qs) rs e = let f : system qs false ≡ system rs false = cc in ap (λ (s : System). Some s.rows) f

cells-back : (names : List Bytes) (s : System) → AreOther names → IsOfPlaces names s → read_rows (with_phis names) (rows_text (with_phis names) (cell_rows (length names) s.rows)) ≡ Some (cell_rows (length names) s.rows)
cells-back names s h k =
    let x = rows_text (with_phis names) (cell_rows (length names) s.rows) in
    let c : cut 125 (x ++ (125 ∷ [])) ≡ Some (x, []) = cut-at 125 x [] (cells_free names s h k) in
    let e : read_system (with_phis names) (system_text (with_phis names) (cells_of names s)) ≡ Some (cells_of names s) = systems_read_back (with_phis names) (cells_of names s) h (cells_ordered names s k) (rows_named names s.rows k.1) in
    rows_of_system (read_rows (with_phis names) x) (cell_rows (length names) s.rows) (rw c at e)

pub piece-back : (names : List Bytes) (s : System) → AreOther names → IsOfPlaces names s → read_piece names (rows_text names s.rows) ≡ Some s.rows
piece-back names s h k =
    ap (read_piece names) (written_same names s.rows k.1)
    ∙ ap (option_map (map (renamed_row (as_subscript (length names))))) (cells-back names s h k)
    ∙ ap Some (rows-back names s.rows k.0.rows k.1)
