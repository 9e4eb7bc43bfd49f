-- What is known of a DO where private variables are looked for.
use Rattle.std.specs.Prelude.{ℕ, false, List, map}
use Rattle.affine_systems.specs.declared.row.System.{System}
use Rattle.f77_ast.specs.Trees.{LoopTree}
use Rattle.f77_ast.specs.Trees as tree
use Rattle.f77_ast.specs.Symbols.{SymbolTree, symbol_tree}
use Rattle.f77_ast.specs.declared.results.At.{At}
use Rattle.preconditions.specs.transformer_algebra.declared.transformer.Transformer.{Transformer}
use Rattle.preconditions.specs.transformers.Lists.{transformer_at}
use Rattle.in_out_regions.specs.region_sets.declared.region.Region.{Region}
use Rattle.in_out_regions.specs.Lists.{list_in}
use Rattle.dependence_test.specs.declared.analysis.Analysis.{Analysis}
use Rattle.dependence_test.specs.Body.{system_at, head_of}
use Rattle.in_out_regions.specs.region_sets.Lists.{set_at}

-- what holds where an iteration begins, and the IN regions of the body there; what holds where the DO begins, and the OUT regions of the DO
pub record Uses : Type 0 where
  pub head : System
  pub ins : List Region
  pub before : System
  pub outs : List Region

-- `ps` has what holds where each statement begins
abbrev pub head_in : List (At System) → LoopTree → System
head_in ps (tree.loop index first last step body) = head_of ps body

-- `t` has the transformer of the statement of each number, `f` its READ and WRITE, `g` its IN
abbrev pub ins_in : List SymbolTree → (ℕ → Transformer) → (ℕ → List Region) → (ℕ → List Region) → LoopTree → List Region
ins_in ss t f g (tree.loop index first last step body) = list_in ss t f g false body

-- of a DO with its number, from the results of the analyses of its module
abbrev pub uses_from : List SymbolTree → List (At Transformer) → List (At System) → List (At (List Region)) → List (At (List Region)) → List (At (List Region)) → ℕ → LoopTree → Uses
uses_from ss ts ps rs is os n l = record {
  head = head_in ps l;
  ins = ins_in ss (transformer_at ts) (set_at rs) (set_at is) l;
  before = system_at ps n;
  outs = set_at os n;
}

abbrev pub known_uses : Analysis → ℕ → LoopTree → Uses
known_uses a n l = uses_from (map symbol_tree a.view.now.symbols.now) a.transformers.now.at a.preconditions.now.at a.regions.now.at a.ins.now.at a.outs.now.at n l
