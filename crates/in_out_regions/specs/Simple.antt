-- IN of a READ (ANSI X3.9-1978 §12.8): of READs of one item each, one after another. Other simple statements read before they write.
use Rattle.std.specs.Prelude.{List, []}
use Rattle.f77_ast.specs.Trees.{ExprTree, ExprTrees}
use Rattle.f77_ast.specs.Trees as tree
use Rattle.array_regions.specs.call_translation.Scopes.{ScopeTree}
use Rattle.array_regions.specs.region_sets.declared.region.Access.TheVariants.{Write}
use Rattle.array_regions.specs.region_sets.declared.region.Region.{Region}
use Rattle.array_regions.specs.region_sets.Sets.{unite_all}
use Rattle.array_regions.specs.References.{named}
use Rattle.array_regions.specs.Reads.{inner_reads}
use Rattle.array_regions.specs.Simple.{item_does}
use Rattle.in_out_regions.specs.Kinds.{all_in}
use Rattle.in_out_regions.specs.Lists.{before_rest}

-- what the subscripts of an item read
abbrev pub item_in : ScopeTree → ExprTree → List Region
item_in m e = unite_all (all_in (inner_reads e m))

abbrev pub item_written : ScopeTree → ExprTree → List Region
item_written m e = unite_all (named e m Write)

-- of an item before others, which have these IN regions
abbrev pub with_item : ScopeTree → ExprTree → List Region → List Region
with_item m e rs = before_rest m.symbols (item_in m e) (item_written m e) (item_does m e) rs

abbrev pub reading : ExprTrees → ScopeTree → List Region
reading tree.no_exprs m = []
reading (tree.more_exprs e es) m = with_item m e (reading es m)
