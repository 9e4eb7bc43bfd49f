-- The regions of scalars and elements that are named: of a scalar all that there is, of an element what its subscripts say.
use Rattle.std.specs.Prelude.{ℕ, Bool, true, false, not, ◌&&◌, if◌then◌else◌, List, [], ◌∷◌, Option, Some, None}
use Rattle.affine_systems.specs.declared.row.System.{System}
use Rattle.transformers.specs.transformer_algebra.Renaming.{of_rows}
use Rattle.f77_ast.specs.Trees.{ExprTree, ExprTrees}
use Rattle.f77_ast.specs.Trees as tree
use Rattle.f77_ast.specs.declared.symbol.Place.{Place}
use Rattle.f77_ast.specs.declared.symbol.Place.TheVariants.{Local, Dummy, Block, Constant}
use Rattle.f77_ast.specs.declared.variable.Variable.TheVariants.{Own}
use Rattle.f77_ast.specs.Symbols.{BoundTree, SymbolTree, number_from}
use Rattle.f77_ast.specs.Shared.{symbol_at}
use Rattle.tracked_cells.specs.Standing.{has_bounds}
use Rattle.affine_forms.specs.Conditions.{no_rows}
use Rattle.transformers.specs.call_translation.Scopes.{ScopeTree}
use Rattle.region_translation.specs.region_sets.declared.region.Access.{Access}
use Rattle.region_translation.specs.region_sets.declared.region.Region.{Region}
use Rattle.region_translation.specs.region_sets.Regions.{region}
use Rattle.array_regions.specs.Rows.{subscript_rows, all_affine}

-- the elements of a variable of which a system holds; not exact where a row was lost
abbrev pub elements : Access → ℕ → Bool → System → Region
elements a n e s = region (Own n) a (e && not s.weak) (s ∷ [])

-- ---- by the number of a symbol

abbrev pub is_constant : Place → Bool
is_constant (Local g o) = false
is_constant (Dummy m) = false
is_constant (Block b o) = false
is_constant (Constant v) = true

abbrev pub scalar : Access → ℕ → Region
scalar a n = elements a n true no_rows

-- nothing of a constant
abbrev pub scalar_at : Access → ℕ → Option SymbolTree → List Region
scalar_at a n None = []
scalar_at a n (Some s) = if is_constant s.place then [] else scalar a n ∷ []

-- exact where each subscript has a form
abbrev pub array_at : ScopeTree → Access → ℕ → ExprTrees → List BoundTree → Region
array_at m a n es bs = elements a n (all_affine m es bs) (of_rows (subscript_rows m 1 es bs))

-- nothing of a name that is no array, as of an intrinsic function
abbrev pub element_at : ScopeTree → Access → ℕ → ExprTrees → Option SymbolTree → List Region
element_at m a n es None = []
element_at m a n es (Some s) = if has_bounds s.bounds then array_at m a n es s.bounds ∷ [] else []

-- ---- by name

abbrev pub whole_of : ScopeTree → Access → Option ℕ → List Region
whole_of m a None = []
whole_of m a (Some n) = scalar_at a n (symbol_at m.symbols n)

abbrev pub whole : ScopeTree → Access → List ℕ → List Region
whole m a x = whole_of m a (number_from 1 m.names x)

abbrev pub element_of : ScopeTree → Access → ExprTrees → Option ℕ → List Region
element_of m a es None = []
element_of m a es (Some n) = element_at m a n es (symbol_at m.symbols n)

abbrev pub element : ScopeTree → Access → List ℕ → ExprTrees → List Region
element m a x es = element_of m a es (number_from 1 m.names x)

-- what an expression names: the variable of a name, or an element of an array
abbrev pub named : ExprTree → ScopeTree → Access → List Region
named (tree.int n) m a = []
named (tree.log b) m a = []
named (tree.name x) m a = whole m a x
named (tree.element x es) m a = element m a x es
named (tree.paren e) m a = []
named (tree.unary o e) m a = []
named (tree.binary o e f) m a = []
named (tree.chars x) m a = []
