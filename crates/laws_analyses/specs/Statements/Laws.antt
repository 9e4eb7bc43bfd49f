-- What is claimed of the runs of a main program that calls no module.
use Rattle.std.specs.Prelude.{◌≡◌, ℕ, ◌<◌, ℤ, Bool, true, false, not, ◌&&◌, ◌||◌, List, [], ◌∷◌, map, length, Option, Some, None, slice_get}
use Rattle.affine_systems.specs.declared.row.System.{System}
use Rattle.f77_ast.specs.Store.{Store}
use Rattle.f77_ast.specs.declared.symbol.Place.{Place}
use Rattle.f77_ast.specs.declared.symbol.Place.TheVariants as place
use Rattle.f77_ast.specs.declared.symbol.InitialRun.{InitialRun}
use Rattle.f77_ast.specs.Symbols.{SymbolTree, number_from, value_in}
use Rattle.f77_ast.specs.Shared.{symbol_at}
use Rattle.f77_ast.specs.declared.results.At.{At}
use Rattle.tracked_cells.specs.Equivalences.{equivalenced_names}
use Rattle.tracked_cells.specs.Standing.{has_bounds, untracks}
use Rattle.call_graph.specs.declared.graph.Graph.{Graph}
use Rattle.f77_meaning.specs.Areas.{Area}
use Rattle.f77_meaning.specs.Modules.{Known, symbol_names, names, fixed}
use Rattle.f77_meaning.specs.Linked.{numbering, main_of, initial}
use Rattle.f77_meaning.specs.Laws.{HasBlocks, area_of}
use Rattle.f77_meaning.specs.Occurrences.{Occurrence}
use Rattle.f77_meaning.specs.Claimed.{InEveryRun}
use Rattle.affine_forms.specs.Scalars.{is_cell, cell_in}
use Rattle.affine_forms.specs.Claims.{Agrees}
use Rattle.preconditions.specs.transformer_algebra.declared.transformer.Transformer.{Transformer}
use Rattle.f77_ast.specs.Summaries.{SummaryTree}
use Rattle.preconditions.specs.call_translation.Scopes.{ScopeTree}
use Rattle.preconditions.specs.transformers.Given.{Callees}
use Rattle.preconditions.specs.transformers.Jumps.{list_has}
use Rattle.preconditions.specs.transformers.Lists.{value_at}
use Rattle.preconditions.specs.transformers.Modules.{transformers_of}
use Rattle.preconditions.specs.Entry.{main_entry}
use Rattle.laws_analyses.specs.Statements.Targets.{lacks_targets}
use Rattle.preconditions.specs.Modules.{preconditions_of}
use Rattle.call_graph.specs.CallsIn.{list_calls}
use Rattle.f77_ast.specs.StatementNumbers.{HasNumbers}
use Rattle.laws_analyses.specs.Statements.Results.{found_in, ScalarsHold}

-- a module with a flag for each symbol whether it is a tracked cell, as analyses look at it
abbrev pub scope_of : List SymbolTree → List Bool → ScopeTree
scope_of ss flags = record { symbols = ss; tracked = flags; names = symbol_names ss; scalars = record { value = value_in ss; cell = cell_in (symbol_names ss) flags } }

abbrev pub no_callees : Callees
no_callees x = None

-- a name of no array; one without a symbol is that of a function
abbrev pub is_scalar_symbol : Option SymbolTree → Bool
is_scalar_symbol None = false
is_scalar_symbol (Some s) = not (has_bounds s.bounds)

abbrev pub scalar_at : List SymbolTree → Option ℕ → Bool
scalar_at ss None = true
scalar_at ss (Some n) = is_scalar_symbol (symbol_at ss n)

abbrev pub is_scalar : List SymbolTree → List ℕ → Bool
is_scalar ss x = scalar_at ss (number_from 1 (symbol_names ss) x)

-- ---- what is asked of the main program

abbrev pub is_dummy : Place → Bool
is_dummy (place.Local g o) = false
is_dummy (place.Dummy k) = true
is_dummy (place.Block b o) = false
is_dummy (place.Constant v) = false

abbrev pub has_dummy : List SymbolTree → Bool
has_dummy [] = false
has_dummy (s ∷ ss) = is_dummy s.place || has_dummy ss

-- a tracked cell is an INTEGER scalar at whose unit the table of its module has nothing else
pub record IsAlone (k : Known) (n : ℕ) : Type 0 where
  pub symbol : SymbolTree
  pub is_symbol : symbol_at k.symbols n ≡ Some symbol
  pub scalar : symbol.bounds ≡ []
  pub area : Area
  pub lies : area_of k.read.name symbol.place ≡ Some area
  pub alone : untracks (equivalenced_names k.read) k.symbols symbol.place ≡ false

-- DATA gives a tracked cell its first value, if any
abbrev pub FirstValue : List InitialRun → ℤ → Type 0
FirstValue [] n = Unit {0}
FirstValue (r ∷ rs) n = n ≡ r.value

-- each of these results has a number of its own, which is not 0
pub record HaveOwnNumbers {T : Type 0} (as' : List (At T)) : Type 0 where
  pub once : (i j : ℕ) (a b : At T) → slice_get as' i ≡ Some a → slice_get as' j ≡ Some b → a.id ≡ b.id → i ≡ j
  pub above : (i : ℕ) (a : At T) → slice_get as' i ≡ Some a → 0 < a.id

-- a main program of modules that are linked, which calls none
pub record IsMainAlone (ks : List Known) (g : Graph) (k : Known) (flags : List Bool) : Type 0 where
  pub at : ℕ
  pub is_module : slice_get ks at ≡ Some k
  pub is_main : main_of ks ≡ k
  pub blocks : HasBlocks ks g
  pub no_call : list_calls k.read.body ≡ []
  -- left sides, items of READ and indices of DO are scalars or elements with subscripts, as reading makes them
  pub targets : list_has (lacks_targets (is_scalar k.symbols)) k.read.body ≡ false
  pub no_dummy : has_dummy k.symbols ≡ false
  -- tracked cells
  pub cells : (n : ℕ) → is_cell flags n ≡ true → IsAlone k n
  -- what names are taken for is what they stand for, as reading makes it: a LOGICAL constant is 0 or 1
  pub agrees : Agrees (names k.symbols) (scope_of k.symbols flags).scalars (is_cell flags)
  pub numbered : HasNumbers k.read.body
  -- tracked cells begin with what DATA says
  pub values : (n : ℕ) (s : SymbolTree) → symbol_at k.symbols n ≡ Some s → is_cell flags n ≡ true → FirstValue s.initial (initial ks g (fixed (numbering ks g) k n).first).number

-- then the preconditions and transformers of its statements hold in every run, up to its first fault
abbrev pub MainHolds : Type 0
MainHolds = (ks : List Known) (g : Graph) (k : Known) (flags : List Bool) → IsMainAlone ks g k flags →
    let m = scope_of k.symbols flags in
    InEveryRun ks g (λ x. ScalarsHold k.read.body m no_callees (main_entry m) x.spot.statement x)
