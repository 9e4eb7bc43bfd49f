-- The region of a DO, from that of its body. The index of an iteration is Aux(0), and the number of iterations before it Aux(1).
use Rattle.std.specs.Prelude.{ℕ, Bool, false, ◌&&◌, if◌then◌else◌, nat_lt, List, [], ◌∷◌, ◌++◌, Option, Some, None, IfSome, is_some, ℤ, pos, neg_ℤ, unsigned_abs}
use Rattle.affine_systems.specs.declared.row.Var.{Var}
use Rattle.affine_systems.specs.declared.row.Var.TheVariants.{Cell, Exit, Aux}
use Rattle.affine_systems.specs.declared.row.Row.{Row}
use Rattle.affine_systems.specs.declared.row.System.{System}
use Rattle.affine_systems.specs.Terms.{term}
use Rattle.affine_systems.specs.Given.{Fits}
use Rattle.affine_systems.specs.Calls.{meet}
use Rattle.hull_projection.specs.declared.projection.Shadow.{Shadow}
use Rattle.hull_projection.specs.Hull.{at_least_0}
use Rattle.hull_projection.specs.Project.{shadow, project}
use Rattle.transformers.specs.transformer_algebra.Renaming.{naming, rename_all, push_rows}
use Rattle.affine_forms.specs.declared.affine.Affine.{Affine}
use Rattle.affine_forms.specs.Forms.{affine, IsSmallForm}
use Rattle.affine_forms.specs.Comparisons.{var_form, same_row}
use Rattle.transformers.specs.transformer_algebra.declared.transformer.Transformer.{Transformer}
use Rattle.transformers.specs.transformer_algebra.Cells.{has, others}
use Rattle.transformers.specs.transformer_algebra.Transformers.{identity_transformer, assign, followed, iterate}
use Rattle.transformers.specs.transformer_algebra.Loops.{within_row, if_counted}
use Rattle.region_sets.specs.declared.range.Range.{Range}
use Rattle.region_sets.specs.declared.region.Region.{Region}
use Rattle.region_sets.specs.Trim.{each_trimmed}
use Rattle.region_sets.specs.Naming.{has_none, named_cells, to_exits, exit_vars}

-- its forms are small, and its iteration's system is one that calls take
abbrev pub RangeFits : Range → Type 0
RangeFits g = IfSome g.first IsSmallForm × IfSome g.last IsSmallForm × Fits g.turn.system

-- ---- the iterations of the loop

abbrev pub index_form : Affine
index_form = var_form (Aux 0)

-- Aux(0) - step Aux(1)
abbrev pub start_of : ℤ → Affine
start_of s = affine (term (Aux 0) (pos 1) ∷ (term (Aux 1) (neg_ℤ s) ∷ [])) (pos 0)

-- where not each number is met: Aux(0) - step Aux(1) == first, 0 <= Aux(1)
abbrev pub step_rows : ℤ → Affine → List Row
step_rows s f = if nat_lt 1 (unsigned_abs s) then same_row (start_of s) f ∷ (at_least_0 (Aux 1) ∷ []) else []

-- not before the first value
abbrev pub first_rows : ℤ → Option Affine → List Row
first_rows s None = []
first_rows s (Some f) = within_row s f index_form ∷ step_rows s f

-- not beyond the last value
abbrev pub last_rows : ℤ → Option Affine → List Row
last_rows s None = []
last_rows s (Some l) = within_row s index_form l ∷ []

abbrev pub counted_rows : Option ℤ → Option Affine → Option Affine → List Row
counted_rows None f l = []
counted_rows (Some s) f l = first_rows s f ++ last_rows s l

-- none where the step is no constant
abbrev pub range_rows : Range → List Row
range_rows g = counted_rows g.step g.first g.last

abbrev pub is_counted : Range → Bool
is_counted g = is_some g.step && (is_some g.first && is_some g.last)

-- ---- the cells at an iteration

-- the index becomes the first value, where it is a cell that changes
abbrev pub first_assignment : Range → Transformer
first_assignment g = if has g.turn.cells g.index then assign g.index (if_counted g.step g.first) else identity_transformer

-- from the DO to any iteration
abbrev pub iterations : Range → Transformer
iterations g = followed (first_assignment g) (iterate g.turn)

abbrev pub iterations_at : Range → System
iterations_at g = rename_all (naming (Exit g.index) (Aux 0) ∷ []) (iterations g).system

-- ---- the rule

abbrev pub at_index : ℕ → System → System
at_index i s = rename_all (naming (Cell i) (Aux 0) ∷ []) s

abbrev pub loop_vars : List Var
loop_vars = Aux 0 ∷ (Aux 1 ∷ [])

-- the other cells are as some iterations left them
abbrev pub composed_with : List ℕ → Range → System → System
composed_with cs g s = (project (meet (push_rows (rename_all (to_exits cs) (at_index g.index s)) (range_rows g)) (iterations_at g)) (exit_vars (iterations g).cells)).system

abbrev pub counted : Range → Shadow → Shadow
counted g s = shadow s.system (s.exact && is_counted g)

-- where no cell is named that changes, but the index; and where some are
abbrev pub through_loop : List ℕ → Range → System → Shadow
through_loop cs g s =
    if has_none cs then counted g (project (push_rows (at_index g.index s) (range_rows g)) loop_vars)
    else shadow (project (composed_with cs g s) loop_vars).system false

abbrev pub loop_piece : Range → System → Shadow
loop_piece g s = through_loop (named_cells (others g.turn.cells (g.index ∷ [])) s) g s

abbrev pub over_loop : Region → Range → Region
over_loop r g = each_trimmed (loop_piece g) r
