use Rattle.std.proofs.Common.{◌≡◌, ◌++◌, length, map}
use Rattle.f77_ast.specs.Symbols.{symbol_tree}
use Rattle.transformers.specs.call_translation.Scopes.{scope_tree}
use Rattle.region_translation.specs.region_sets.Sets.{SetFits}
use Rattle.array_regions.specs.Entry.{symbols_reads}
use Rattle.array_regions.proofs.entry.entry_reads.Given as goal

abbrev pub invariant-loop-rest : goal.invariant-loop-rest
invariant-loop-rest l = record {
  same : l.out ++ symbols_reads (map symbol_tree l.rest) (scope_tree l.scope.symbols.now l.scope.tracked.now) ≡ symbols_reads (map symbol_tree l.scope.symbols.now) (scope_tree l.scope.symbols.now l.scope.tracked.now);
  fits : SetFits l.out;
}

abbrev pub decreases-loop-rest : goal.decreases-loop-rest
decreases-loop-rest l = length l.rest
