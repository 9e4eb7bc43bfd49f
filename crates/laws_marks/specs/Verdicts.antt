-- What is said of a DO that runs in parallel: of its body, of each variable that the body writes, and of its reduction variables.
use Rattle.std.specs.Prelude.{◌≡◌, ◌⊎◌, ℕ, true, false, List, [], ◌∷◌, Some, None}
use Rattle.f77_ast.specs.Trees.{LoopTree}
use Rattle.f77_ast.specs.DeclTrees.{ModuleTree}
use Rattle.f77_ast.specs.Symbols.{SymbolTree, number_from}
use Rattle.f77_ast.specs.Shared.{symbol_at}
use Rattle.f77_ast.specs.declared.variable.Variable.{Variable}
use Rattle.f77_ast.specs.declared.variable.Variable.TheVariants.{Own}
use Rattle.preconditions.specs.transformer_algebra.Laws.{In}
use Rattle.f77_ast.specs.declared.marks.Kinds.{Kinds}
use Rattle.f77_ast.specs.declared.marks.Private.TheVariants.{Yes}
use Rattle.in_out_regions.specs.region_sets.declared.region.Access.TheVariants.{Write}
use Rattle.in_out_regions.specs.region_sets.declared.region.Region.{Region}
use Rattle.loop_marker.specs.dependence_test.declared.body.LoopBody.{LoopBody}
use Rattle.loop_marker.specs.dependence_test.Conflicts.{kept_system}
use Rattle.loop_marker.specs.privatizer.Functions.{own_functions}
use Rattle.loop_marker.specs.privatizer.Names.{may_copy}
use Rattle.loop_marker.specs.privatizer.Private.{private_in}
use Rattle.loop_marker.specs.out_regions.Leaving.{leaves}
use Rattle.loop_marker.specs.Jumps.{may_stop, may_have_io, body_of}
use Rattle.loop_marker.specs.Marks.{Knowledge, is_in_bounds, is_other_result}
use Rattle.loop_marker.specs.Variables.{is_of_some}
use Rattle.result_lines.specs.declared.reduction.Part.{Part}
use Rattle.result_lines.specs.declared.reduction.Reduction.{Reduction}
use Rattle.reductions.specs.Standings.{standing_in}
use Rattle.reductions.specs.declared.standing.Standing.TheVariants.{Accumulated}

-- ---- variables

-- it is one of the symbols of which iterations have copies, and its name allows that
pub record IsOneOf (t : ModuleTree) (ss : List SymbolTree) (ns : List ℕ) (v : Variable) : Type 0 where
  pub number : ℕ
  pub is : v ≡ Own number
  pub one : In number ns
  pub may : may_copy t ss (Own number) ≡ true

-- it is one of the reduction variables
pub record IsReduced (ps : List Part) (v : Variable) : Type 0 where
  pub part : Part
  pub is : v ≡ Own part.cell
  pub one : In part ps

-- it is the variable of the DO, or no dependence of it is kept, or iterations have copies of it, or they accumulate in it
abbrev pub IsCleared : ModuleTree → List SymbolTree → LoopBody → Reduction → Variable → Type 0
IsCleared t ss b r v = (v ≡ Own b.index) ⊎ (((kinds : Kinds) → kept_system ss b v kinds ≡ None) ⊎ (IsOneOf t ss r.private v ⊎ IsReduced r.parts v))

-- ---- reduction variables

-- a scalar whose name allows copies, which the first, the last and the step of the DO do not have, and in which the body accumulates by this operator
pub record IsPartOf (k : Knowledge) (l : LoopTree) (p : Part) : Type 0 where
  pub may : may_copy k.tree k.symbols (Own p.cell) ≡ true
  pub outside : is_in_bounds k.symbols l (Own p.cell) ≡ false
  pub symbol : SymbolTree
  pub is_symbol : symbol_at k.symbols p.cell ≡ Some symbol
  pub scalar : symbol.bounds ≡ []
  pub stands : standing_in k.symbols symbol (body_of l) ≡ Accumulated p.op

-- no two of them are of one variable
abbrev pub AreOnce : List Part → Type 0
AreOnce [] = Unit {0}
AreOnce (p ∷ ps) = ((q : Part) → In q ps → q.cell ≡ p.cell → ⊥) × AreOnce ps

-- ---- a DO

-- of the one with this number, whose directive says this
pub record Says (k : Knowledge) (n : ℕ) (l : LoopTree) (r : Reduction) : Type 0 where
  -- control does not leave its body, but at the end, and that neither prints nor takes input
  pub stays : leaves false (body_of l) ≡ false
  pub no_stop : may_stop k.effects (body_of l) ≡ false
  pub no_io : may_have_io k.effects (body_of l) ≡ false
  -- the name of its variable allows copies, and no OUT region is of it
  pub index : may_copy k.tree k.symbols (Own (k.body l).index) ≡ true
  pub unused : is_of_some (Own (k.body l).index) (k.uses n l).outs ≡ false
  pub verdicts : (q : Region) → In q (k.body l).regions → q.kind ≡ Write → IsCleared k.tree k.symbols (k.body l) r q.variable
  -- each iteration may have its own copies of the symbols
  pub private : (v : ℕ) → In v r.private → private_in k.tree k.symbols (k.uses n l) (Own v) ≡ Yes
  -- a function of which each iteration has the result for itself is one of the symbols, or the variable of the DO; and none of them is another function of which the module takes a value
  pub taken : (y : List ℕ) → In y (own_functions k.tree (body_of l)) → (v : ℕ) → number_from 1 k.names y ≡ Some v → In v r.private ⊎ (v ≡ (k.body l).index)
  pub others : (v : ℕ) → In v r.private → is_other_result k.tree k.symbols l (Own v) ≡ false
  -- reduction variables are neither among the symbols, nor the variable of the DO
  pub parts : (p : Part) → In p r.parts → IsPartOf k l p
  pub once : AreOnce r.parts
  pub apart : (p : Part) → In p r.parts → In p.cell r.private → ⊥
  pub no_index : (p : Part) → In p r.parts → p.cell ≡ (k.body l).index → ⊥
