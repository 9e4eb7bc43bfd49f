-- IN of a DO, from IN, READ and WRITE of its body (ANSI X3.9-1978 §11.10). `tracked` says whether the index is an analysed scalar; of another there are no
-- rows. What earlier iterations certainly wrote is taken away, where the index of each is known: the step is 1 or -1, and the first value has a form of which
-- no scalar changes. The index of an earlier iteration is Aux(2).
use Rattle.std.specs.Prelude.{ℕ, Bool, true, false, not, ◌&&◌, if◌then◌else◌, List, [], ◌∷◌, ◌++◌, map, Option, Some, None, ℤ}
use Rattle.affine_systems.specs.declared.row.Var.TheVariants.{Cell, Aux}
use Rattle.affine_systems.specs.declared.row.Row.{Row}
use Rattle.affine_systems.specs.declared.row.System.{System}
use Rattle.affine_systems.specs.Tidy.{is_unit}
use Rattle.hull_projection.specs.declared.projection.Shadow.{Shadow}
use Rattle.hull_projection.specs.Project.{project}
use Rattle.array_regions.specs.transformer_algebra.Renaming.{naming, rename_all, push_rows}
use Rattle.f77_ast.specs.Trees.{LoopTree}
use Rattle.f77_ast.specs.declared.variable.Variable.{Variable}
use Rattle.f77_ast.specs.declared.variable.Variable.TheVariants.{Own}
use Rattle.f77_ast.specs.Symbols.{SymbolTree}
use Rattle.affine_forms.specs.declared.affine.Affine.{Affine}
use Rattle.affine_forms.specs.Scalars.{is_cell}
use Rattle.affine_forms.specs.Comparisons.{var_form}
use Rattle.array_regions.specs.transformer_algebra.Cells.{others}
use Rattle.array_regions.specs.transformer_algebra.Loops.{stays, terms_stay, within_row, beyond_row}
use Rattle.array_regions.specs.call_translation.Scopes.{ScopeTree}
use Rattle.array_regions.specs.region_sets.declared.range.Range.{Range}
use Rattle.array_regions.specs.region_sets.declared.region.Access.TheVariants.{Write}
use Rattle.array_regions.specs.region_sets.declared.region.Region.{Region}
use Rattle.array_regions.specs.region_sets.Regions.{remade, all_exact, systems}
use Rattle.array_regions.specs.region_sets.Subtract.{subtract}
use Rattle.array_regions.specs.region_sets.Loops.{over_loop}
use Rattle.array_regions.specs.region_sets.Sets.{unite_all}
use Rattle.array_regions.specs.References.{scalar}
use Rattle.array_regions.specs.Loops.{range_of, loop_reads}
use Rattle.array_regions.specs.Entry.{names_none}
use Rattle.in_out_regions.specs.Kinds.{all_in}
use Rattle.in_out_regions.specs.Writes.{write_of, is_touched}
use Rattle.in_out_regions.specs.Lists.{all_unless_overlapped}
use Rattle.in_out_regions.specs.Known.{KnownTree}
use Rattle.f77_ast.specs.Variables.{same_variable}

-- ---- the index of an iteration

-- the index is not before the first value, where no cell of its form changes
abbrev pub after_first : ℤ → List ℕ → ℕ → Option Affine → List Row
after_first s cs i None = []
after_first s cs i (Some f) = if terms_stay cs f.terms then within_row s f (var_form (Cell i)) ∷ [] else []

-- and not beyond the last one, likewise
abbrev pub before_last : ℤ → List ℕ → ℕ → Option Affine → List Row
before_last s cs i None = []
before_last s cs i (Some f) = if terms_stay cs f.terms then within_row s (var_form (Cell i)) f ∷ [] else []

abbrev pub index_rows_by : Option ℤ → Bool → Range → List Row
index_rows_by None tracked g = []
index_rows_by (Some s) false g = []
index_rows_by (Some s) true g = after_first s g.turn.cells g.index g.first ++ before_last s g.turn.cells g.index g.last

abbrev pub index_rows : Bool → Range → List Row
index_rows tracked g = index_rows_by g.step tracked g

-- a region of the body where an iteration begins
abbrev pub in_range : Bool → Range → Region → Region
in_range tracked g r = remade r r.exact (map (λ s. push_rows s (index_rows tracked g)) r.pieces)

-- ---- earlier iterations

abbrev pub is_one_step : Option ℤ → Bool
is_one_step None = false
is_one_step (Some s) = is_unit s

-- each number from the first value to the index is the index of an iteration
abbrev pub meets_each : Bool → Range → Bool
meets_each tracked g = tracked && (is_one_step g.step && stays g.turn.cells g.first)

-- the region is exact, and no cell that it names changes but the index
abbrev pub is_steady : Range → Region → Bool
is_steady g w = w.exact && names_none (others g.turn.cells (g.index ∷ [])) w.pieces

-- first <= Aux(2) and Aux(2) + 1 <= index upwards; the other way round downwards
abbrev pub earlier_from : ℤ → Affine → ℕ → List Row
earlier_from s f i = within_row s f (var_form (Aux 2)) ∷ (beyond_row s (var_form (Cell i)) (var_form (Aux 2)) ∷ [])

abbrev pub earlier_rows_by : Option ℤ → Option Affine → ℕ → List Row
earlier_rows_by None f i = []
earlier_rows_by (Some s) None i = []
earlier_rows_by (Some s) (Some f) i = earlier_from s f i

abbrev pub earlier_rows : Range → List Row
earlier_rows g = earlier_rows_by g.step g.first g.index

abbrev pub earlier_piece : Range → System → Shadow
earlier_piece g s = project (push_rows (rename_all (naming (Cell g.index) (Aux 2) ∷ []) s) (earlier_rows g)) (Aux 2 ∷ [])

-- where the projection is exact
abbrev pub if_exact : Region → List Shadow → Option Region
if_exact w ss = if all_exact ss then Some (remade w true (systems ss)) else None

abbrev pub earlier_of : Bool → Range → Region → Option Region
earlier_of tracked g w = if meets_each tracked g && is_steady g w then if_exact w (map (earlier_piece g) w.pieces) else None

-- what the earlier iterations certainly wrote, from the WRITE region of the body; None where that is not known
abbrev pub earlier : Bool → Range → Option Region → Option Region
earlier tracked g None = None
earlier tracked g (Some w) = earlier_of tracked g w

-- ---- the iterations

-- less what earlier ones wrote; where that is not known, exact only where the body writes neither the variable nor one that shares units with it
abbrev pub less_earlier : Option Region → List SymbolTree → List Region → Region → Option Region
less_earlier None ss ws r = Some (remade r (r.exact && not (is_touched ss ws r.variable)) r.pieces)
less_earlier (Some e) ss ws r = subtract r e

-- where an iteration begins, of units that no earlier one has written
abbrev pub in_iteration : Bool → Range → List SymbolTree → List Region → Region → Option Region
in_iteration tracked g ss ws r = less_earlier (earlier tracked g (write_of r.variable ws)) ss ws (in_range tracked g r)

abbrev pub over_maybe : Range → Option Region → List Region
over_maybe g None = []
over_maybe g (Some r) = over_loop r g ∷ []

-- the index is written before the first iteration
abbrev pub unless_index : Range → Variable → List Region → List Region
unless_index g v rs = if same_variable (Own g.index) v then [] else rs

-- the IN regions of the body, as those of the DO; `ws` has what the body writes
abbrev pub all_iterations : Bool → Range → List SymbolTree → List Region → List Region → List Region
all_iterations tracked g ss ws [] = []
all_iterations tracked g ss ws (r ∷ rs) = unless_index g r.variable (over_maybe g (in_iteration tracked g ss ws r)) ++ all_iterations tracked g ss ws rs

-- ---- the rule

-- the values are read, and the body, which has the accesses `ws` and the IN regions `is`, is executed for each number
abbrev pub do_united : ScopeTree → LoopTree → Range → List Region → List Region → List Region
do_united m l g ws is = unite_all (all_in (loop_reads l m) ++ all_iterations (is_cell m.tracked g.index) g m.symbols ws is)

-- not exact where the index or what the body writes shares units with a variable
abbrev pub do_with : Range → LoopTree → ScopeTree → List Region → List Region → List Region
do_with g l m ws is = all_unless_overlapped m.symbols (scalar Write g.index ∷ ws) (do_united m l g ws is)

abbrev pub do_in : LoopTree → KnownTree → List Region → List Region → List Region
do_in l k ws is = do_with (range_of l k.scope k.does) l k.scope ws is
