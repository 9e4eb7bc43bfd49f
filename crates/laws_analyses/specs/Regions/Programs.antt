-- What is claimed of the runs of a program: the regions of its modules.
use Rattle.std.specs.Prelude.{◌≡◌, ℕ, ◌+◌, ◌≤◌, ℤ, true, false, not, List, [], ◌∷◌, map, Option, Some, None, slice_get, is_some}
use Rattle.f77_ast.specs.Store.{Content, Store}
use Rattle.f77_ast.specs.Places.{Constant, Variable, Function, Dim, Place, total_size}
use Rattle.f77_ast.specs.Trees.{ExprTree, ExprTrees}
use Rattle.f77_ast.specs.Numbers.{intrinsic_named}
use Rattle.f77_ast.specs.Calls.{Dummy}
use Rattle.f77_ast.specs.declared.constant.Constant.{Constant as HasConstantValue}
use Rattle.f77_ast.specs.declared.constant.Constant.TheVariants.{Int}
use Rattle.f77_ast.specs.declared.constant.ConstantValue.TheVariants.{Is}
use Rattle.f77_ast.specs.Constants.{const_value}
use Rattle.f77_ast.specs.declared.symbol.Place.TheVariants.{Block as InBlock}
use Rattle.f77_ast.specs.declared.variable.Variable.TheVariants.{Block as Whole, Saved}
use Rattle.f77_ast.specs.Symbols.{BoundTree, SymbolTree, number_from, value_in}
use Rattle.f77_ast.specs.Shared.{symbol_at}
use Rattle.tracked_cells.specs.Scalars.{unit as unit_of}
use Rattle.tracked_cells.specs.Standing.{has_bounds}
use Rattle.call_graph.specs.declared.graph.Graph.{Graph}
use Rattle.in_out_regions.specs.effects.Callee.{first_like}
use Rattle.f77_ast.specs.declared.results.Results.{Results}
use Rattle.f77_ast.specs.Summaries.{SummaryTree}
use Rattle.f77_meaning.specs.Areas.{is_own_unit}
use Rattle.f77_meaning.specs.Claims.{block_place, saved_place}
use Rattle.f77_meaning.specs.Modules.{Known, bound_of}
use Rattle.f77_meaning.specs.Linked.{numbering, program_of}
use Rattle.f77_meaning.specs.Occurrences.{Occurrence}
use Rattle.f77_meaning.specs.Claimed.{InEveryRun}
use Rattle.affine_forms.specs.Scalars.{is_cell}
use Rattle.affine_forms.specs.Claims.{Agrees}
use Rattle.preconditions.specs.call_translation.Scopes.{ScopeTree}
use Rattle.preconditions.specs.call_translation.Sites.{HoldingSite}
use Rattle.preconditions.specs.transformers.Given.{Callees}
use Rattle.preconditions.specs.transformers.Jumps.{list_has}
use Rattle.preconditions.specs.transformers.Modules.{transformers_of}
use Rattle.in_out_regions.specs.region_sets.declared.region.Access.{Access}
use Rattle.in_out_regions.specs.region_sets.declared.region.Region.{Region}
use Rattle.in_out_regions.specs.call_equations.Sides.{entry_cells}
use Rattle.in_out_regions.specs.array_regions.Calls.{Called, Callees as Summaries, scope_with}
use Rattle.in_out_regions.specs.array_regions.References.{is_constant, whole, element}
use Rattle.in_out_regions.specs.array_regions.Modules.{regions_of, calls_of}
use Rattle.call_graph.specs.CallsIn.{CallAt, list_calls, Each}
use Rattle.laws_analyses.specs.Calls.Parts.{Blocks, Part, NoDummy}
use Rattle.laws_analyses.specs.Calls.ProgramLaws.{AnalysedProgram, routines}
use Rattle.laws_analyses.specs.Calls.Sites.{lookup}
use Rattle.laws_analyses.specs.Regions.Claims.{RegionsHold, elements_of}
use Rattle.laws_analyses.specs.Regions.Settings.{DimsFit, is_told, lacks_plain}
use Rattle.laws_analyses.specs.Regions.Entries.{Enters}
use Rattle.call_graph.specs.Visible.{is_local}

-- ---- claims

-- what the CALLs of a module access: rs has the summaries of what it calls
abbrev pub called_in : Graph → Callees → Summaries → Part → Called
called_in g cs rs k = calls_of k.scope g.untracked (transformers_of k.routine.body k.scope cs).at rs

-- the regions of a module, from the transformers of its statements
abbrev pub regions_in_part : Graph → Callees → Summaries → Part → Results (List Region)
regions_in_part g cs rs k = regions_of k.routine.body k.scope k.found.transformer (called_in g cs rs k)

-- of an execution of a statement, or of the entry, by the name of its module; by it each module has the summaries of those that it calls
abbrev pub EachRegionHolds : List Known → Graph → Callees → (List ℕ → Summaries) → (List ℕ → Part) → Occurrence → Type 0
EachRegionHolds ks g cs rs of x = let k = of x.spot.module_name in RegionsHold ks g k.scope (regions_in_part g cs (rs k.routine.name) k) x

-- ---- what tables give

-- a name of a variable: its symbol, and the dimensions that its bounds give
pub record IsVariable (k : Part) (x : List ℕ) (v : ℕ) : Type 0 where
  pub symbol : SymbolTree
  pub is_symbol : symbol_at k.scope.symbols v ≡ Some symbol
  pub stored : is_constant symbol.place ≡ false
  pub shape : k.scalar x ≡ not (has_bounds symbol.bounds)
  -- one with the name of a function is an array
  pub no_function : is_some (intrinsic_named x) ≡ true → has_bounds symbol.bounds ≡ true
  pub fixed : NoDummy k.routine.dummies v → DimsFit k.scope.scalars.value symbol.bounds (k.routine.fixed v).dims
  pub dummy : (i : ℕ) (d : Dummy) → slice_get k.routine.dummies i ≡ Some d → d.symbol ≡ v → d.bounds ≡ map bound_of symbol.bounds

pub record Regular (k : Part) : Type 0 where
  -- bare names in expressions are those of no array, and elements have subscripts
  pub plain : list_has (lacks_plain k.scalar) k.routine.body ≡ false
  pub variables : (x : List ℕ) (v : ℕ) → k.routine.names x ≡ Variable v → IsVariable k x v
  pub constants : (x : List ℕ) (c : Content) → k.routine.names x ≡ Constant c → (a : Access) → whole k.scope a x ≡ []
  pub functions : (x : List ℕ) → k.routine.names x ≡ Function → (a : Access) (es : ExprTrees) → element k.scope a x es ≡ []

-- what callers see of a module that they call by a name
abbrev pub summary_for : Graph → Callees → (List ℕ → Summaries) → Part → SummaryTree (List Region)
summary_for g cs rs k = record { symbols = k.scope.symbols; value = (regions_in_part g cs (rs k.routine.name) k).summary }

-- ---- arrays

-- the last bound alone may be `*`
abbrev pub OpenLast : List BoundTree → Type 0
OpenLast [] = Unit {0}
OpenLast (b ∷ []) = Unit {0}
OpenLast (b ∷ (c ∷ bs)) = (is_some b.high ≡ true) × OpenLast (c ∷ bs)

-- a dimension whose bounds are constant
pub record ConstantIs (value : List ℕ → Option HasConstantValue) (b : BoundTree) (d : Dim) : Type 0 where
  pub low : const_value value b.low ≡ Is (Int d.low)
  pub high : ExprTree
  pub is_high : b.high ≡ Some high
  pub last : ℤ
  pub last_const_value : const_value value high ≡ Is (Int last)
  pub number : d.high ≡ Some last

abbrev pub ConstantsAre : (List ℕ → Option HasConstantValue) → List BoundTree → List Dim → Type 0
ConstantsAre value [] [] = Unit {0}
ConstantsAre value [] (d ∷ ds) = ⊥
ConstantsAre value (b ∷ bs) [] = ⊥
ConstantsAre value (b ∷ bs) (d ∷ ds) = ConstantIs value b d × ConstantsAre value bs ds

-- a variable that is no dummy takes as many units as its bounds say
pub record FixedFits (k : Part) (s : SymbolTree) (n : ℕ) : Type 0 where
  pub sizes : (k.routine.fixed n).extent ≡ total_size (k.routine.fixed n).dims
  pub constants : ConstantsAre k.scope.scalars.value s.bounds (k.routine.fixed n).dims

-- a module as its callers see it where it is entered
abbrev pub entry_scope : Graph → Part → ScopeTree
entry_scope g k = scope_with k.scope.symbols (entry_cells g.untracked k.scope.symbols)

-- ---- what a CALL in the module h of the module k by the name x joins

-- the variable of the caller that a variable of a block of what is called is, or none
abbrev pub like_of : Part → Part → SymbolTree → List ℕ → ℕ → Option ℕ
like_of h k s y o = first_like 1 h.scope.symbols y o k.scope.symbols s h.scope.symbols

-- no dummies, stored, and with the same elements
pub record AreAlike (h k : Part) (m n : ℕ) : Type 0 where
  pub caller : NoDummy h.routine.dummies m
  pub symbol : SymbolTree
  pub is_symbol : symbol_at h.scope.symbols m ≡ Some symbol
  pub stored : is_constant symbol.place ≡ false
  pub elements : (phi : ℕ → ℤ) → elements_of (h.routine.fixed m) phi ≡ elements_of (k.routine.fixed n) phi

-- as many units of a block, from the first one on
pub record LiesInBlock (block : Place) (o : ℕ) (p : Place) : Type 0 where
  pub first : p.first ≡ block.first + o
  pub inside : p.extent + o ≤ block.extent

pub record Sends (b : Blocks) (ks : List Known) (g : Graph) (cs : Callees) (rs : List ℕ → Summaries) (h k : Part) (x : List ℕ) : Type 0 where
  pub summary_known : rs h.routine.name x ≡ Some (summary_for g cs rs k)
  -- a local that is saved, by its name
  pub saved : (n : ℕ) (s : SymbolTree) → symbol_at k.scope.symbols n ≡ Some s → is_local s.place ≡ true → s.saved ≡ true → (is_told (Saved x s.name) ≡ true) × (saved_place ks g ks x s.name ≡ k.routine.fixed n)
  -- a variable of a block is none of the dummies; it is the caller's that is like it, or units of the block
  pub common : (n : ℕ) (s : SymbolTree) (y : List ℕ) (o : ℕ) → symbol_at k.scope.symbols n ≡ Some s → s.place ≡ InBlock y o → NoDummy k.routine.dummies n
  pub alike : (n m : ℕ) (s : SymbolTree) (y : List ℕ) (o : ℕ) → symbol_at k.scope.symbols n ≡ Some s → s.place ≡ InBlock y o → like_of h k s y o ≡ Some m → AreAlike h k m n
  pub told : (n : ℕ) (s : SymbolTree) (y : List ℕ) (o : ℕ) → symbol_at k.scope.symbols n ≡ Some s → s.place ≡ InBlock y o → is_told (Whole y) ≡ true
  pub block : (n : ℕ) (s : SymbolTree) (y : List ℕ) (o : ℕ) → symbol_at k.scope.symbols n ≡ Some s → s.place ≡ InBlock y o → LiesInBlock (block_place ks g y) o (k.routine.fixed n)
  pub unit : (n : ℕ) (s : SymbolTree) (y : List ℕ) (o : ℕ) → symbol_at k.scope.symbols n ≡ Some s → s.place ≡ InBlock y o → (k.routine.fixed n).first ≡ b.place (unit_of y o)

abbrev pub SendsFrom : Blocks → List Known → Graph → Callees → (List ℕ → Summaries) → Part → List ℕ → Option Part → Type 0
SendsFrom b ks g cs rs h x None = Unit {0}
SendsFrom b ks g cs rs h x (Some k) = Sends b ks g cs rs h k x

-- names stand for the symbols of their numbers
pub record NamesStand (k : Part) : Type 0 where
  pub variables : (x : List ℕ) (v : ℕ) → k.routine.names x ≡ Variable v → number_from 1 k.scope.names x ≡ Some v
  pub constants : (x : List ℕ) (c : Content) (n : ℕ) (s : SymbolTree) → k.routine.names x ≡ Constant c → number_from 1 k.scope.names x ≡ Some n → symbol_at k.scope.symbols n ≡ Some s → is_constant s.place ≡ true
  pub functions : (x : List ℕ) (n : ℕ) (s : SymbolTree) → k.routine.names x ≡ Function → number_from 1 k.scope.names x ≡ Some n → symbol_at k.scope.symbols n ≡ Some s → has_bounds s.bounds ≡ false

-- a module that calls, or is called
pub record Joins (ks : List Known) (g : Graph) (k : Part) : Type 0 where
  pub names : NamesStand k
  -- the units of expressions are below, and hidden
  pub own_below : (n i : ℕ) → k.below (k.routine.own_unit n i) ≡ true
  pub own_units : (n i : ℕ) → is_own_unit (numbering ks g) (k.routine.own_unit n i) ≡ true
  pub value : k.scope.scalars.value ≡ value_in k.scope.symbols
  pub entry_agrees : Agrees k.routine.names (entry_scope g k).scalars (is_cell (entry_scope g k).tracked)
  pub fixed : (n : ℕ) (s : SymbolTree) → symbol_at k.scope.symbols n ≡ Some s → is_constant s.place ≡ false → NoDummy k.routine.dummies n → FixedFits k s n
  pub open_last : (n : ℕ) (s : SymbolTree) → symbol_at k.scope.symbols n ≡ Some s → OpenLast s.bounds
  pub bounds : (i : ℕ) (d : Dummy) (s : SymbolTree) → slice_get k.routine.dummies i ≡ Some d → symbol_at k.scope.symbols d.symbol ≡ Some s → d.bounds ≡ map bound_of s.bounds

-- with the modules below
pub record RegularPart (b : Blocks) (cs : Callees) (rs : List ℕ → Summaries) (ks : List Known) (g : Graph) (below : List Part) (k : Part) : Type 0 where
  pub regular : Regular k
  pub enters : Enters ks g k
  pub joins : Joins ks g k
  pub calls : Each (λ (c : CallAt). SendsFrom b ks g cs rs k c.callee (lookup below c.callee)) (list_calls k.routine.body)

-- modules, each before those that it calls, with what tables give for their regions
abbrev pub RegularParts : Blocks → Callees → (List ℕ → Summaries) → List Known → Graph → List Part → Type 0
RegularParts b cs rs ks g [] = Unit {0}
RegularParts b cs rs ks g (k ∷ parts) = RegularPart b cs rs ks g parts k × RegularParts b cs rs ks g parts

-- then in every run, up to its first fault, all that a statement reads, or writes, lies in its READ, or WRITE, regions, and at a normal end each element
-- that an exact one describes is read, or written; the same of each entry, and of what callers see
abbrev pub ProgramRegionsHold : Type 0
ProgramRegionsHold = (b : Blocks) (cs : Callees) (sites : List ℕ → List HoldingSite) (of : List ℕ → Part) (main : Part) (parts : List Part) (z : Store) → AnalysedProgram b cs sites of main parts z →
    (ks : List Known) (g : Graph) (rs : List ℕ → Summaries) → RegularPart b cs rs ks g parts main → RegularParts b cs rs ks g parts →
    program_of ks g ≡ record { main = main.routine; others = routines parts; initial = z } → InEveryRun ks g (EachRegionHolds ks g cs rs of)
