-- READ and WRITE of assignments, PRINTs and READs.
use Rattle.std.specs.Prelude.{List, [], ◌++◌}
use Rattle.f77_ast.specs.Trees.{ExprTree, ExprTrees}
use Rattle.f77_ast.specs.Trees as tree
use Rattle.transformers.specs.transformer_algebra.declared.transformer.Transformer.{Transformer}
use Rattle.transformers.specs.transformer_algebra.Transformers.{forgotten}
use Rattle.transformers.specs.call_translation.Scopes.{ScopeTree}
use Rattle.transformers.specs.call_translation.Actuals.{named_cell, one_cell}
use Rattle.region_translation.specs.region_sets.declared.region.Access.TheVariants.{Write}
use Rattle.region_translation.specs.region_sets.declared.region.Region.{Region}
use Rattle.region_translation.specs.region_sets.Lists.{all_composed}
use Rattle.region_translation.specs.region_sets.Sets.{unite_all}
use Rattle.array_regions.specs.References.{named}
use Rattle.array_regions.specs.Reads.{reads, all_reads, inner_reads}

-- the right side is evaluated, and the subscripts of the left side; then that is written
abbrev pub assignment : ScopeTree → ExprTree → ExprTree → List Region
assignment m a b = unite_all (reads b m ++ (inner_reads a m ++ named a m Write))

abbrev pub printing : ScopeTree → ExprTrees → List Region
printing m es = unite_all (all_reads es m)

-- what the READ of one item does to the tracked cells
abbrev pub item_does : ScopeTree → ExprTree → Transformer
item_does m e = forgotten (one_cell (named_cell m.scalars e))

-- of an item and of those after it, which have these regions
abbrev pub with_item : ScopeTree → ExprTree → List Region → List Region
with_item m e rs = unite_all (inner_reads e m ++ (named e m Write ++ all_composed (item_does m e) rs))

-- one item after another
abbrev pub reading : ExprTrees → ScopeTree → List Region
reading tree.no_exprs m = []
reading (tree.more_exprs e es) m = with_item m e (reading es m)
