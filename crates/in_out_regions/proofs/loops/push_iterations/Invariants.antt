use Rattle.std.proofs.Common.{◌≡◌, length, ◌++◌, map}
use Rattle.f77_ast.specs.Symbols.{symbol_tree}
use Rattle.array_regions.specs.region_sets.Sets.{SetFits}
use Rattle.in_out_regions.specs.Loops.{all_iterations}
use Rattle.in_out_regions.proofs.loops.push_iterations.Given as goal

abbrev pub invariant-loop-rest : goal.invariant-loop-rest
invariant-loop-rest l = record {
  same : l.out ++ all_iterations l.tracked l.g (map symbol_tree l.symbols) l.writes l.rest ≡ l.fn.out ++ all_iterations l.tracked l.g (map symbol_tree l.symbols) l.writes l.fn.set;
  fits : SetFits l.out;
  each : SetFits l.rest;
}

abbrev pub decreases-loop-rest : goal.decreases-loop-rest
decreases-loop-rest l = length l.rest
