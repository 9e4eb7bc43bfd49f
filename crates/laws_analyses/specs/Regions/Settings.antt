-- What is known of a module while it runs, where its regions are looked at.
use Rattle.std.specs.Prelude.{◌≡◌, ℕ, ℤ, Bool, true, false, not, ◌&&◌, ◌||◌, nat_eq, List, [], ◌∷◌, Option, Some, None, is_some}
use Rattle.std.specs.List.{list_any}
use Rattle.f77_ast.specs.Trees.{ExprTree, ExprTrees, WhatTree, ArmTrees, LoopTree}
use Rattle.f77_ast.specs.Trees as tree
use Rattle.f77_ast.specs.Store.{Content}
use Rattle.f77_ast.specs.Numbers.{intrinsic_named}
use Rattle.f77_ast.specs.Places.{Constant, Variable, Function, Dim, Place, Places}
use Rattle.f77_ast.specs.Statements.{Scope}
use Rattle.f77_ast.specs.declared.constant.Constant.{Constant as Known}
use Rattle.f77_ast.specs.declared.constant.Constant.TheVariants.{Int}
use Rattle.f77_ast.specs.declared.constant.ConstantValue.TheVariants.{Is}
use Rattle.f77_ast.specs.Constants.{const_value}
use Rattle.f77_ast.specs.declared.variable.Unit.{Unit as BlockUnit}
use Rattle.f77_ast.specs.declared.variable.Variable.{Variable as Named}
use Rattle.f77_ast.specs.declared.variable.Variable.TheVariants.{Own, Block, Saved}
use Rattle.f77_ast.specs.Symbols.{BoundTree, SymbolTree}
use Rattle.f77_ast.specs.Shared.{symbol_at}
use Rattle.tracked_cells.specs.Standing.{has_bounds}
use Rattle.preconditions.specs.transformer_algebra.declared.transformer.Transformer.{Transformer}
use Rattle.preconditions.specs.transformer_algebra.Claims.{Scene, Tracks}
use Rattle.preconditions.specs.call_translation.Scopes.{ScopeTree}
use Rattle.preconditions.specs.call_translation.Summary.{call_transformer}
use Rattle.preconditions.specs.transformers.Given.{Callees}
use Rattle.in_out_regions.specs.region_sets.declared.region.Access.{Access}
use Rattle.in_out_regions.specs.region_sets.Claims.{Elements}
use Rattle.in_out_regions.specs.array_regions.References.{is_constant, whole, element}
use Rattle.in_out_regions.specs.array_regions.Calls.{Called}
use Rattle.call_graph.specs.declared.graph.Graph.{Graph}
use Rattle.f77_meaning.specs.Modules.{Known as Module}
use Rattle.f77_meaning.specs.Claims.{block_place, saved_place}
use Rattle.laws_programs.specs.Effects.Tables.{is_plain as is_plain_name}
use Rattle.laws_analyses.specs.Statements.Activation.{NamesFit, scene_at}
use Rattle.laws_analyses.specs.Regions.Claims.{elements_of}

-- a module of a program that runs, with the places of its variables, and the transformer of the statement of each number
pub record Setting : Type 0 where
  pub ks : List Module
  pub g : Graph
  pub sc : Scope
  pub m : ScopeTree
  pub cs : Callees
  pub does : ℕ → Transformer
  -- what a CALL accesses, by its regions
  pub calls : Called
  -- whether a name is that of a variable that is no array
  pub scalar : List ℕ → Bool
  pub at : Places
  pub far : BlockUnit → Bool
  pub place : BlockUnit → ℕ

abbrev pub scene : Setting → Scene
scene k = scene_at k.m k.at k.far k.place

abbrev pub is_stored : Option SymbolTree → Bool
is_stored None = false
is_stored (Some s) = not (is_constant s.place)

abbrev pub elements_if : Bool → Place → Elements
elements_if true p = elements_of p
elements_if false p = λ phi. None

abbrev pub has_colon : List ℕ → Bool
has_colon x = list_any (λ c. nat_eq c 58) x

-- what is written of a variable tells which it is
abbrev pub is_told : Named → Bool
is_told (Own n) = true
is_told (Block b) = not (has_colon b)
is_told (Saved s x) = is_plain_name s && not (has_colon x)

-- the elements of a module's own variables, constants have none; and those of blocks, and of saved locals of other modules
abbrev pub elements_with : List Module → Graph → List SymbolTree → Places → Named → Elements
elements_with ks g ss at (Own n) = elements_if (is_stored (symbol_at ss n)) (at n)
elements_with ks g ss at (Block b) = elements_if (is_told (Block b)) (block_place ks g b)
elements_with ks g ss at (Saved s x) = elements_if (is_told (Saved s x)) (saved_place ks g ks s x)

abbrev pub elements_at : Setting → Named → Elements
elements_at k v = elements_with k.ks k.g k.m.symbols k.at v

-- ---- the bounds of a variable, and its dimensions

-- bounds that are constant are those of the dimension
pub record DimFits (value : List ℕ → Option Known) (b : BoundTree) (d : Dim) : Type 0 where
  pub low : (n : ℤ) → const_value value b.low ≡ Is (Int n) → d.low ≡ n
  pub high : (e : ExprTree) (n : ℤ) → b.high ≡ Some e → const_value value e ≡ Is (Int n) → d.high ≡ Some n

abbrev pub DimsFit : (List ℕ → Option Known) → List BoundTree → List Dim → Type 0
DimsFit value [] [] = Unit {0}
DimsFit value [] (d ∷ ds) = ⊥
DimsFit value (b ∷ bs) [] = ⊥
DimsFit value (b ∷ bs) (d ∷ ds) = DimFits value b d × DimsFit value bs ds

-- a variable of a name
pub record HasSymbol (k : Setting) (x : List ℕ) (v : ℕ) : Type 0 where
  pub symbol : SymbolTree
  pub is_symbol : symbol_at k.m.symbols v ≡ Some symbol
  pub stored : is_constant symbol.place ≡ false
  pub shape : k.scalar x ≡ not (has_bounds symbol.bounds)
  -- one with the name of a function is an array
  pub no_function : is_some (intrinsic_named x) ≡ true → has_bounds symbol.bounds ≡ true
  pub dims : DimsFit k.m.scalars.value symbol.bounds (k.at v).dims

pub record Sound (k : Setting) : Type 0 where
  pub names_fit : NamesFit k.sc.names k.m
  pub calls_track : (x : List ℕ) (es : ExprTrees) → Tracks (scene k) (call_transformer k.m (k.cs x) es).cells
  pub variables : (x : List ℕ) (v : ℕ) → k.sc.names x ≡ Variable v → HasSymbol k x v
  -- nothing is said of constants, and of functions
  pub constants : (x : List ℕ) (c : Content) → k.sc.names x ≡ Constant c → (a : Access) → whole k.m a x ≡ []
  pub functions : (x : List ℕ) → k.sc.names x ≡ Function → (a : Access) (es : ExprTrees) → element k.m a x es ≡ []

-- ---- names in expressions

-- there are subscripts, or it is no scalar that stands so
abbrev pub is_indexed : (List ℕ → Bool) → List ℕ → ExprTrees → Bool
is_indexed scalar x tree.no_exprs = is_some (intrinsic_named x) || not (scalar x)
is_indexed scalar x (tree.more_exprs e es) = true

abbrev mutual
  -- a bare name is that of no array, and elements have subscripts
  pub is_plain : (List ℕ → Bool) → ExprTree → Bool
  is_plain scalar (tree.int n) = true
  is_plain scalar (tree.log b) = true
  is_plain scalar (tree.name x) = scalar x
  is_plain scalar (tree.element x es) = is_indexed scalar x es && are_plain scalar es
  is_plain scalar (tree.paren e) = is_plain scalar e
  is_plain scalar (tree.unary o e) = is_plain scalar e
  is_plain scalar (tree.binary o a b) = is_plain scalar a && is_plain scalar b
  is_plain scalar (tree.chars x) = true

  pub are_plain : (List ℕ → Bool) → ExprTrees → Bool
  are_plain scalar tree.no_exprs = true
  are_plain scalar (tree.more_exprs e es) = is_plain scalar e && are_plain scalar es

-- an array may stand whole as an actual
abbrev pub actual_plain : (List ℕ → Bool) → ExprTree → Bool
actual_plain scalar (tree.int n) = true
actual_plain scalar (tree.log b) = true
actual_plain scalar (tree.name x) = true
actual_plain scalar (tree.element x es) = is_plain scalar (tree.element x es)
actual_plain scalar (tree.paren e) = is_plain scalar (tree.paren e)
actual_plain scalar (tree.unary o e) = is_plain scalar (tree.unary o e)
actual_plain scalar (tree.binary o a b) = is_plain scalar (tree.binary o a b)
actual_plain scalar (tree.chars x) = true

abbrev pub actuals_plain : (List ℕ → Bool) → ExprTrees → Bool
actuals_plain scalar tree.no_exprs = true
actuals_plain scalar (tree.more_exprs e es) = actual_plain scalar e && actuals_plain scalar es

abbrev pub maybe_plain : (List ℕ → Bool) → Option ExprTree → Bool
maybe_plain scalar None = true
maybe_plain scalar (Some e) = is_plain scalar e

abbrev pub loop_plain : (List ℕ → Bool) → LoopTree → Bool
loop_plain scalar (tree.loop index first last step body) = scalar index && (is_plain scalar first && (is_plain scalar last && maybe_plain scalar step))

abbrev pub tests_plain : (List ℕ → Bool) → ArmTrees → Bool
tests_plain scalar tree.no_arms = true
tests_plain scalar (tree.more_arms (tree.arm e body) rest) = is_plain scalar e && tests_plain scalar rest

-- the expressions that a statement evaluates itself
abbrev pub has_plain : (List ℕ → Bool) → WhatTree → Bool
has_plain scalar (tree.assign a b) = is_plain scalar a && is_plain scalar b
has_plain scalar (tree.block_if arms other) = tests_plain scalar arms
has_plain scalar (tree.logical_if e s) = is_plain scalar e
has_plain scalar (tree.do_loop l) = loop_plain scalar l
has_plain scalar (tree.call x es) = actuals_plain scalar es
has_plain scalar (tree.goto l) = true
has_plain scalar tree.continue = true
has_plain scalar tree.return = true
has_plain scalar (tree.stop text) = true
has_plain scalar (tree.print es) = are_plain scalar es
has_plain scalar (tree.read es) = are_plain scalar es

abbrev pub lacks_plain : (List ℕ → Bool) → WhatTree → Bool
lacks_plain scalar w = not (has_plain scalar w)
