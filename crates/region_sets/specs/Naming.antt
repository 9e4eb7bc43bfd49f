-- The variables that rows name, and namings of cells.
use Rattle.std.specs.Prelude.{ℕ, Bool, true, false, ◌||◌, if◌then◌else◌, List, [], ◌∷◌, map}
use Rattle.affine_systems.specs.declared.row.Var.{Var}
use Rattle.affine_systems.specs.declared.row.Var.TheVariants.{Cell, Exit}
use Rattle.affine_systems.specs.declared.row.Term.{Term}
use Rattle.affine_systems.specs.declared.row.Row.{Row}
use Rattle.affine_systems.specs.declared.row.System.{System}
use Rattle.affine_systems.specs.Terms.{var_eq}
use Rattle.transformers.specs.transformer_algebra.declared.naming.Naming.{Naming}
use Rattle.transformers.specs.transformer_algebra.Renaming.{naming}

abbrev pub in_terms : Var → List Term → Bool
in_terms v [] = false
in_terms v (t ∷ ts) = var_eq v t.var || in_terms v ts

abbrev pub in_rows : Var → List Row → Bool
in_rows v [] = false
in_rows v (r ∷ rs) = in_terms v r.terms || in_rows v rs

-- those of some cells that a system names
abbrev pub named_cells : List ℕ → System → List ℕ
named_cells [] s = []
named_cells (c ∷ cs) s = if in_rows (Cell c) s.rows then c ∷ named_cells cs s else named_cells cs s

-- each cell becomes its exit
abbrev pub to_exits : List ℕ → List Naming
to_exits cs = map (λ c. naming (Cell c) (Exit c)) cs

abbrev pub exit_vars : List ℕ → List Var
exit_vars cs = map (λ c. Exit c) cs

abbrev pub has_none : List ℕ → Bool
has_none [] = true
has_none (c ∷ cs) = false
