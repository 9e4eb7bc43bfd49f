-- Transformers: what statements do to the tracked cells, from the numbers before them (Cell) to those after a normal end (Exit).
use Rattle.std.specs.Prelude.{ℕ, List, [], ◌∷◌, map, Option, Some, None}
use Rattle.affine_systems.specs.declared.row.Var.TheVariants.{Cell, Exit}
use Rattle.affine_systems.specs.declared.row.Row.{Row}
use Rattle.affine_systems.specs.declared.row.System.{System}
use Rattle.affine_systems.specs.Given.{Fits}
use Rattle.affine_systems.specs.Calls.{meet}
use Rattle.hull_projection.specs.Project.{project}
use Rattle.hull_projection.specs.Hull.{hull}
use Rattle.hull_projection.specs.Closure.{closure}
use Rattle.f77_ast.specs.declared.variable.Unit.{Unit as BlockUnit}
use Rattle.transformer_algebra.specs.Renaming.{rename_all, of_rows, push_rows}
use Rattle.transformer_algebra.specs.Fresh.{fresh_over}
use Rattle.affine_forms.specs.declared.affine.Affine.{Affine}
use Rattle.affine_forms.specs.Comparisons.{var_form, same_row}
use Rattle.affine_forms.specs.Conditions.{no_rows, infeasible}
use Rattle.transformer_algebra.specs.declared.transformer.Transformer.{Transformer}
use Rattle.transformer_algebra.specs.Cells.{joined_cells, others}
use Rattle.transformer_algebra.specs.Units.{joined_units}
use Rattle.transformer_algebra.specs.Halves.{first_names, second_names, middle, to_cells, cell_vars}

abbrev pub transformer : List ℕ → List BlockUnit → System → Transformer
transformer cs us s = record { cells = cs; foreign = us; system = s }

-- ---- those that come from no other

-- nothing changes, where the system holds before
abbrev pub test : System → Transformer
test s = transformer [] [] s

abbrev pub identity_transformer : Transformer
identity_transformer = test no_rows

-- of a statement that never ends normally
abbrev pub nowhere : Transformer
nowhere = test infeasible

-- nothing is known of these cells afterwards
abbrev pub forgotten : List ℕ → Transformer
forgotten cs = transformer (joined_cells cs []) [] no_rows

-- c' == form; {} where there is no form
abbrev pub exit_system : ℕ → Option Affine → System
exit_system c None = no_rows
exit_system c (Some f) = of_rows (same_row (var_form (Exit c)) f ∷ [])

abbrev pub assign : ℕ → Option Affine → Transformer
assign c f = transformer (c ∷ []) [] (exit_system c f)

-- ---- one after the other

abbrev pub followed_from : ℕ → Transformer → Transformer → System
followed_from n a b =
    (project (meet (rename_all (first_names n b.cells a.cells) a.system) (rename_all (second_names n b.cells a.cells) b.system)) (middle n b.cells a.cells)).system

-- the variables in between are numbered from the least number above every auxiliary variable of both
abbrev pub followed : Transformer → Transformer → Transformer
followed a b = transformer (joined_cells a.cells b.cells) (joined_units a.foreign b.foreign) (followed_from (fresh_over a.system b.system) a b)

-- the system without these cells
abbrev pub without : List ℕ → System → System
without cs s = (project s (cell_vars cs)).system

-- what holds after, where s holds before
abbrev pub apply : Transformer → System → System
apply t s = rename_all (to_cells t.cells) (without t.cells (meet t.system s))

-- ---- a choice

-- c' == c
abbrev pub equal : ℕ → Row
equal c = same_row (var_form (Exit c)) (var_form (Cell c))

abbrev pub equals : List ℕ → List Row
equals cs = map equal cs

-- for more cells: those that do not change stay
abbrev pub complete : List ℕ → Transformer → System
complete cs t = push_rows t.system (equals (others cs t.cells))

abbrev pub cells_from : List ℕ → List Transformer → List ℕ
cells_from cs [] = cs
cells_from cs (t ∷ ts) = cells_from (joined_cells cs t.cells) ts

abbrev pub all_cells : List Transformer → List ℕ
all_cells ts = cells_from [] ts

abbrev pub units_from : List BlockUnit → List Transformer → List BlockUnit
units_from us [] = us
units_from us (t ∷ ts) = units_from (joined_units us t.foreign) ts

abbrev pub all_units : List Transformer → List BlockUnit
all_units ts = units_from [] ts

-- hulls from left to right
abbrev pub hull_of_arms : List ℕ → System → List Transformer → System
hull_of_arms cs s [] = s
hull_of_arms cs s (t ∷ ts) = hull_of_arms cs (hull s (complete cs t)) ts

-- what one of them does, whichever that is
abbrev pub one_of : List Transformer → Transformer
one_of [] = nowhere
one_of (t ∷ ts) = let cs = all_cells (t ∷ ts) in transformer cs (all_units (t ∷ ts)) (hull_of_arms cs (complete cs t) ts)

abbrev pub AllFit : List Transformer → Type 0
AllFit [] = Unit {0}
AllFit (t ∷ ts) = Fits t.system × AllFit ts

-- ---- any number of iterations

abbrev pub iterate : Transformer → Transformer
iterate t = transformer t.cells t.foreign (closure (cell_vars t.cells) t.system)
