-- How systems are written. Names are those of the symbols, from 1.
use Rattle.std.specs.Prelude.{ℕ, zero, suc, Bool, true, false, not, ◌&&◌, if◌then◌else◌, nat_eq, List, [], ◌∷◌, ◌++◌, map, ℤ, pos, unsigned_abs, int_lt, codes, decimal, slice_index_or}
use Rattle.affine_systems.specs.declared.row.Var.{Var}
use Rattle.affine_systems.specs.declared.row.Var.TheVariants.{Cell, Exit, Phi, Aux}
use Rattle.affine_systems.specs.declared.row.Term.{Term}
use Rattle.affine_systems.specs.declared.row.Row.{Row}
use Rattle.affine_systems.specs.declared.row.System.{System}
use Rattle.affine_systems.specs.Terms.{has_no_terms}

abbrev pub Bytes : Type 0
Bytes = List ℕ

-- pieces, each after a mark
abbrev pub each_after : Bytes → List Bytes → Bytes
each_after mark [] = []
each_after mark (x ∷ xs) = mark ++ (x ++ each_after mark xs)

-- pieces with a mark between them
abbrev pub joined : Bytes → List Bytes → Bytes
joined mark [] = []
joined mark (x ∷ xs) = x ++ each_after mark xs

-- the n-th name from 1
abbrev pub name_at : List Bytes → ℕ → Bytes
name_at names zero = []
name_at names (suc k) = slice_index_or names k []

-- a cell by its name, after a statement with an apostrophe
abbrev pub var_text : List Bytes → Var → Bytes
var_text names (Cell n) = name_at names n
var_text names (Exit n) = name_at names n ++ codes "'"
var_text names (Phi n) = codes "PHI" ++ decimal n
var_text names (Aux n) = codes "AUX" ++ decimal n

-- a factor of 1 or -1 is not written
abbrev pub term_text : List Bytes → Term → Bytes
term_text names t = if nat_eq (unsigned_abs t.factor) 1 then var_text names t.var else decimal (unsigned_abs t.factor) ++ (codes "*" ++ var_text names t.var)

abbrev pub has_sign : Bool → ℤ → Bool
has_sign negative n = if negative then int_lt n (pos 0) else int_lt (pos 0) n

-- the terms whose factors have the sign
abbrev pub term_texts : Bool → List Bytes → List Term → List Bytes
term_texts negative names [] = []
term_texts negative names (t ∷ ts) = if has_sign negative t.factor then term_text names t ∷ term_texts negative names ts else term_texts negative names ts

abbrev pub bound_text : Bool → ℤ → List Bytes
bound_text negative n = if has_sign negative n then decimal (unsigned_abs n) ∷ [] else []

-- terms and a number, with `+` between them
abbrev pub side_text : List Bytes → Bytes
side_text [] = codes "0"
side_text (x ∷ xs) = joined (codes "+") (x ∷ xs)

-- what is left of a side, behind a piece or at its start
abbrev pub rest_text : Bool → List Bytes → Bytes
rest_text any xs = if any then each_after (codes "+") xs else side_text xs

-- a side has the terms of one sign, and the bound if it has the other; the right side has the negative terms
abbrev pub row_side : Bool → List Bytes → Row → Bytes
row_side right names r = side_text (term_texts right names r.terms ++ bound_text (not right) r.bound)

abbrev pub row_text : List Bytes → Row → Bytes
row_text names r = row_side false names r ++ ((if r.equal then codes "==" else codes "<=") ++ row_side true names r)

-- 0 <= -1, the row of the system that never holds
abbrev pub is_never : Row → Bool
is_never r = not r.equal && (has_no_terms r.terms && int_lt r.bound (pos 0))

abbrev pub are_never : List Row → Bool
are_never [] = false
are_never (r ∷ []) = is_never r
are_never (r ∷ (s ∷ rs)) = false

abbrev pub rows_text : List Bytes → List Row → Bytes
rows_text names rs = if are_never rs then codes "FALSE" else joined (codes ", ") (map (row_text names) rs)

abbrev pub weak_text : Bool → Bytes
weak_text true = codes " WEAK"
weak_text false = []

abbrev pub system_text : List Bytes → System → Bytes
system_text names s = codes "{" ++ (rows_text names s.rows ++ (codes "}" ++ weak_text s.weak))

-- the line before a statement
abbrev pub precondition_line : List Bytes → System → Bytes
precondition_line names s = codes "C> P " ++ system_text names s

-- the names of cells
abbrev pub cells_text : List Bytes → List ℕ → Bytes
cells_text names cs = joined (codes ",") (map (name_at names) cs)

-- the line of what may change and how, before a statement
abbrev pub transformer_line : List Bytes → List ℕ → System → Bytes
transformer_line names cs s = codes "C> T " ++ (cells_text names cs ++ (codes " " ++ system_text names s))
