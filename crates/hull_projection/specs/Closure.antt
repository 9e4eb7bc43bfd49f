-- The closure: what any number of iterations changes.
-- A row on the changes d of one iteration, a.d <= b, gives a.(Exit - Cell) <= b k for k iterations.
use Rattle.std.specs.Prelude.{ℕ, suc, ◌+◌, Bool, true, if◌then◌else◌, List, [], ◌∷◌, ◌++◌, length, map, pos, negsuc, neg_ℤ}
use Rattle.std.specs.List.{list_any}
use Rattle.affine_systems.specs.declared.row.Var.{Var}
use Rattle.affine_systems.specs.declared.row.Var.TheVariants.{Cell, Exit, Phi, Aux}
use Rattle.affine_systems.specs.declared.row.Term.{Term}
use Rattle.affine_systems.specs.declared.row.Row.{Row}
use Rattle.affine_systems.specs.declared.row.System.{System}
use Rattle.affine_systems.specs.Terms.{term, term_before}
use Rattle.affine_systems.specs.Rows.{row, system}
use Rattle.affine_systems.specs.Points.{factor_of}
use Rattle.affine_systems.specs.Items.{is_false_row}
use Rattle.affine_systems.specs.Tidy.{tidy}
use Rattle.affine_systems.specs.Eliminate.{eliminate}
use Rattle.hull_projection.specs.Variables.{in_order, row_vars, VarsAscend}
use Rattle.hull_projection.specs.Clean.{clean}
use Rattle.hull_projection.specs.Project.{project}
use Rattle.hull_projection.specs.Fresh.{fresh_after, old_vars}
use Rattle.hull_projection.specs.Hull.{at_least_0}

abbrev pub IsCell : Var → Type 0
IsCell (Cell n) = Unit {0}
IsCell (Exit n) = ⊥
IsCell (Phi n) = ⊥
IsCell (Aux n) = ⊥

abbrev pub AreCells : List Var → Type 0
AreCells [] = Unit {0}
AreCells (c ∷ cs) = IsCell c × AreCells cs

-- cells in ascending order, each once
pub record AreOrdered (cs : List Var) : Type 0 where
  pub cells : AreCells cs
  pub ascend : VarsAscend cs

abbrev pub exit_of : Var → Var
exit_of (Cell n) = Exit n
exit_of (Exit n) = Exit n
exit_of (Phi n) = Phi n
exit_of (Aux n) = Aux n

-- d == Exit - Cell
abbrev pub step_row : ℕ → Var → Row
step_row n c = row true (term c (pos 1) ∷ term (exit_of c) (negsuc 0) ∷ term (Aux n) (pos 1) ∷ []) (pos 0)

-- the d are numbered from n on
abbrev pub step_rows : ℕ → List Var → List Row
step_rows n [] = []
step_rows n (c ∷ cs) = step_row n c ∷ step_rows (suc n) cs

-- Exit == Cell
abbrev pub same_row : Var → Row
same_row c = row true (term c (negsuc 0) ∷ term (exit_of c) (pos 1) ∷ []) (pos 0)

-- each cell with minus the factor of its d
abbrev pub cell_terms : ℕ → List Var → List Term → List Term
cell_terms n [] ts = []
cell_terms n (c ∷ cs) ts = term_before c (neg_ℤ (factor_of (Aux n) ts)) (cell_terms (suc n) cs ts)

-- each exit with the factor of its cell's d
abbrev pub exit_terms : ℕ → List Var → List Term → List Term
exit_terms n [] ts = []
exit_terms n (c ∷ cs) ts = term_before (exit_of c) (factor_of (Aux n) ts) (exit_terms (suc n) cs ts)

-- k comes after the d
abbrev pub iterations_var : ℕ → List Var → Var
iterations_var n cs = Aux (n + length cs)

-- a.d <= b as a.(Exit - Cell) - b k <= 0
abbrev pub many_iterations : ℕ → List Var → Row → Row
many_iterations n cs r =
    row r.equal ((cell_terms n cs r.terms ++ exit_terms n cs r.terms) ++ term_before (iterations_var n cs) (neg_ℤ r.bound) []) (pos 0)

-- the body and d == Exit - Cell, without all but the d
abbrev pub steps : ℕ → List Var → System → System
steps n cs t = tidy (system (t.rows ++ step_rows n cs) t.weak)

abbrev pub changes_of : ℕ → List Var → System → System
changes_of n cs t = (project (steps n cs t) (old_vars n (row_vars (steps n cs t).rows))).system

abbrev pub is_false : List Row → Bool
is_false rs = list_any is_false_row rs

abbrev pub iteration_rows : ℕ → List Var → List Row → List Row
iteration_rows n cs rs = map (many_iterations n cs) rs ++ at_least_0 (iterations_var n cs) ∷ []

abbrev pub some_iterations : ℕ → List Var → System → System
some_iterations n cs s = clean (eliminate (tidy (system (iteration_rows n cs s.rows) s.weak)) (iterations_var n cs)).system

abbrev pub no_iteration : List Var → Bool → System
no_iteration cs w = tidy (system (map same_row cs) w)

abbrev pub iterations_of : ℕ → List Var → System → System
iterations_of n cs s = if is_false s.rows then no_iteration cs s.weak else some_iterations n cs s

abbrev pub closure_of : ℕ → List Var → System → System
closure_of n cs t = iterations_of n cs (changes_of n cs t)

abbrev pub closure : List Var → System → System
closure changes t = closure_of (fresh_after (row_vars t.rows)) (in_order changes) t
