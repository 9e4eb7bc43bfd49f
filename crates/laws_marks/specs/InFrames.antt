-- A module that runs, with the variables that its IN regions may name, and the elements of these.
use Rattle.std.specs.Prelude.{◌≡◌, ℕ, Bool, true, List, length, Option, Some, None, if◌then◌else◌}
use Rattle.f77_ast.specs.declared.variable.Variable.{Variable}
use Rattle.f77_ast.specs.declared.variable.Variable.TheVariants.{Own, Block, Saved}
use Rattle.f77_ast.specs.Symbols.{SymbolTree}
use Rattle.f77_ast.specs.Shared.{symbol_at}
use Rattle.call_graph.specs.declared.graph.Graph.{Graph}
use Rattle.f77_meaning.specs.Modules.{Known}
use Rattle.f77_meaning.specs.Claims.{block_place, saved_place}
use Rattle.in_out_regions.specs.region_sets.Claims.{Elements}
use Rattle.laws_analyses.specs.Regions.Settings.{Setting, is_told, elements_at}

-- all variables of the module itself; of others such of which what is written tells which they are
pub record Frame : Type 0 where
  pub base : Setting
  pub open base use *
  pub may_name : Variable → Bool
  pub own : (n : ℕ) → may_name (Own n) ≡ true
  pub told : (v : Variable) → may_name v ≡ true → is_told v ≡ true
  -- units of locals of the modules that it calls, of those that they call, and so on
  pub low : ℕ → Bool

-- the elements of a variable, none where it may not be named
abbrev pub elements_in : Frame → Variable → Elements
elements_in k v = if k.may_name v then elements_at k.base v else (λ phi. None)

-- ---- how many subscripts an element has: one of a block, of other variables as many as there are dimensions

abbrev pub bounds_count : Option SymbolTree → ℕ
bounds_count None = 0
bounds_count (Some s) = length s.bounds

abbrev pub rank : List Known → Graph → List SymbolTree → Variable → ℕ
rank ks g ss (Own n) = bounds_count (symbol_at ss n)
rank ks g ss (Block b) = length (block_place ks g b).dims
rank ks g ss (Saved s x) = length (saved_place ks g ks s x).dims
