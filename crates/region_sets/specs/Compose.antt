-- A region that speaks of the cells after a statement, as one that speaks of those before it.
use Rattle.std.specs.Prelude.{ℕ, Bool, true, false, not, ◌&&◌, ◌||◌, if◌then◌else◌, List, [], ◌∷◌, Option, Some, None}
use Rattle.affine_systems.specs.declared.row.Var.{Var}
use Rattle.affine_systems.specs.declared.row.Var.TheVariants.{Cell, Exit, Phi, Aux}
use Rattle.affine_systems.specs.declared.row.Term.{Term}
use Rattle.affine_systems.specs.declared.row.Row.{Row}
use Rattle.affine_systems.specs.declared.row.System.{System}
use Rattle.affine_systems.specs.Terms.{var_eq}
use Rattle.affine_systems.specs.Points.{factor_of}
use Rattle.affine_systems.specs.Tidy.{is_unit, tidy}
use Rattle.affine_systems.specs.Calls.{meet}
use Rattle.hull_projection.specs.declared.projection.Shadow.{Shadow}
use Rattle.hull_projection.specs.Project.{shadow, project}
use Rattle.transformers.specs.transformer_algebra.Renaming.{rename_all}
use Rattle.transformers.specs.transformer_algebra.declared.transformer.Transformer.{Transformer}
use Rattle.region_sets.specs.declared.region.Region.{Region}
use Rattle.region_sets.specs.Trim.{each_trimmed}
use Rattle.region_sets.specs.Naming.{has_none, named_cells, to_exits, exit_vars}
use Rattle.region_sets.specs.Putting.{put_row}

-- ---- rows that say what a cell becomes

abbrev pub is_other_exit : ℕ → Var → Bool
is_other_exit c (Cell d) = false
is_other_exit c (Exit d) = not (var_eq (Exit c) (Exit d))
is_other_exit c (Phi d) = false
is_other_exit c (Aux d) = false

abbrev pub has_other_exit : ℕ → List Term → Bool
has_other_exit c [] = false
has_other_exit c (t ∷ ts) = is_other_exit c t.var || has_other_exit c ts

-- an equal row with the factor 1 or -1 on the exit of the cell, and without another exit
abbrev pub is_exit_row : ℕ → Row → Bool
is_exit_row c e = e.equal && (is_unit (factor_of (Exit c) e.terms) && not (has_other_exit c e.terms))

-- the first such row
abbrev pub exit_row : ℕ → List Row → Option Row
exit_row c [] = None
exit_row c (e ∷ es) = if is_exit_row c e then Some e else exit_row c es

abbrev pub on_row : Option Row → (Row → Option System) → Option System
on_row None k = None
on_row (Some e) k = k e

-- the exits of cells, one after the other; None where one has no such row
abbrev pub put_exits : List ℕ → List Row → System → Option System
put_exits [] es s = Some s
put_exits (c ∷ cs) es s = on_row (exit_row c es) (λ e. put_exits cs es (put_row (Exit c) e s))

-- ---- the rule

-- some numbers of the cells afterwards that the transformer leads to
abbrev pub composed_with : List ℕ → Transformer → System → System
composed_with cs t s = (project (meet (rename_all (to_exits cs) s) t.system) (exit_vars t.cells)).system

abbrev pub put_or_led : Option System → List ℕ → Transformer → System → Shadow
put_or_led None cs t s = shadow (composed_with cs t s) false
put_or_led (Some p) cs t s = shadow (tidy p) true

-- no changed cell is named; or what the named ones become can be put in; or some numbers are
abbrev pub through_transformer : List ℕ → Transformer → System → Shadow
through_transformer cs t s = if has_none cs then shadow s true else put_or_led (put_exits cs t.system.rows (rename_all (to_exits cs) s)) cs t s

abbrev pub compose_piece : Transformer → System → Shadow
compose_piece t s = through_transformer (named_cells t.cells s) t s

abbrev pub compose : Region → Transformer → Region
compose r t = each_trimmed (compose_piece t) r
