-- What later iterations of a DO may read before they write it (ANSI X3.9-1978 §11.10).
use Rattle.std.specs.Prelude.{ℕ, Bool, false, ◌&&◌, if◌then◌else◌, List, [], ◌∷◌, map, Option, Some, None, ℤ}
use Rattle.affine_systems.specs.declared.row.Var.TheVariants.{Cell, Aux}
use Rattle.affine_systems.specs.declared.row.Row.{Row}
use Rattle.affine_systems.specs.declared.row.System.{System}
use Rattle.hull_projection.specs.Project.{project}
use Rattle.in_out_regions.specs.transformer_algebra.Renaming.{naming, rename_all, push_rows}
use Rattle.affine_forms.specs.declared.affine.Affine.{Affine}
use Rattle.affine_forms.specs.Comparisons.{var_form}
use Rattle.in_out_regions.specs.transformer_algebra.Cells.{others}
use Rattle.in_out_regions.specs.transformer_algebra.Loops.{stays, within_row, beyond_row}
use Rattle.in_out_regions.specs.transformer_algebra.Transformers.{without}
use Rattle.in_out_regions.specs.region_sets.declared.range.Range.{Range}
use Rattle.in_out_regions.specs.region_sets.declared.region.Region.{Region}
use Rattle.in_out_regions.specs.region_sets.Regions.{remade}
use Rattle.in_out_regions.specs.region_sets.Naming.{named_cells, has_none}
use Rattle.in_out_regions.specs.Loops.{is_one_step}

-- index + 1 <= Aux(2) and Aux(2) <= last upwards; the other way round downwards
abbrev pub later_from : ℤ → ℕ → Affine → List Row
later_from s i l = beyond_row s (var_form (Aux 2)) (var_form (Cell i)) ∷ (within_row s (var_form (Aux 2)) l ∷ [])

abbrev pub later_rows_by : Option ℤ → ℕ → Option Affine → List Row
later_rows_by None i l = []
later_rows_by (Some s) i None = []
later_rows_by (Some s) i (Some l) = later_from s i l

-- none of an index that is not analysed
abbrev pub later_rows : Bool → Range → List Row
later_rows tracked g = if tracked then later_rows_by g.step g.index g.last else []

-- each number from the index to the last value is the index of an iteration, and no cell that the system names changes but the index
abbrev pub is_steady : Range → System → Bool
is_steady g s = is_one_step g.step && (stays g.turn.cells g.last && has_none (named_cells (others g.turn.cells (g.index ∷ [])) s))

abbrev pub later_index : Bool → Range → System → System
later_index tracked g s = (project (push_rows (rename_all (naming (Cell g.index) (Aux 2) ∷ []) s) (later_rows tracked g)) (Aux 2 ∷ [])).system

-- else for any numbers of the cells that change
abbrev pub later_piece : Bool → Range → System → System
later_piece tracked g s = if is_steady g s then later_index tracked g s else without g.turn.cells s

abbrev pub later : Bool → Range → Region → Region
later tracked g r = remade r false (map (later_piece tracked g) r.pieces)

abbrev pub all_later : Bool → Range → List Region → List Region
all_later tracked g rs = map (later tracked g) rs
