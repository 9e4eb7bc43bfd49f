-- READ and WRITE of a DO, from those of its body (ANSI X3.9-1978 §11.10).
use Rattle.std.specs.Prelude.{ℕ, List, ◌∷◌, ◌++◌, map, false}
use Rattle.f77_ast.specs.Trees.{LoopTree}
use Rattle.f77_ast.specs.Trees as tree
use Rattle.transformers.specs.transformer_algebra.declared.transformer.Transformer.{Transformer}
use Rattle.transformers.specs.transformer_algebra.declared.loop_parts.LoopParts.{LoopParts}
use Rattle.transformers.specs.transformer_algebra.Loops.{iteration}
use Rattle.transformers.specs.call_translation.Scopes.{ScopeTree}
use Rattle.transformers.specs.Lists.{list_at}
use Rattle.transformers.specs.Loops.{loop_parts}
use Rattle.region_translation.specs.region_sets.declared.range.Range.{Range}
use Rattle.region_translation.specs.region_sets.declared.region.Access.TheVariants.{Write}
use Rattle.region_translation.specs.region_sets.declared.region.Region.{Region}
use Rattle.region_translation.specs.region_sets.Loops.{over_loop}
use Rattle.region_translation.specs.region_sets.Sets.{unite_all}
use Rattle.array_regions.specs.References.{scalar}
use Rattle.array_regions.specs.Reads.{reads, maybe_reads}

-- the transformer of the statement of each number
abbrev pub Found : Type 0
Found = ℕ → Transformer

-- a DO with these parts
abbrev pub range_with : LoopParts → Range
range_with l = record { index = l.index; first = l.first; last = l.last; step = l.step; turn = iteration l }

abbrev pub range_of : LoopTree → ScopeTree → Found → Range
range_of (tree.loop index first last step body) m t = range_with (loop_parts m (tree.loop index first last step body) (list_at t false body))

-- the first and the last value and the step are evaluated
abbrev pub loop_reads : LoopTree → ScopeTree → List Region
loop_reads (tree.loop index first last step body) m = reads first m ++ (reads last m ++ maybe_reads step m)

abbrev pub all_over : Range → List Region → List Region
all_over g rs = map (λ r. over_loop r g) rs

-- its values are read, its index is written, and the body, which has this set, is executed for each number
abbrev pub do_set : LoopTree → ScopeTree → Found → List Region → List Region
do_set l m t rs = unite_all (loop_reads l m ++ (scalar Write (range_of l m t).index ∷ all_over (range_of l m t) rs))
