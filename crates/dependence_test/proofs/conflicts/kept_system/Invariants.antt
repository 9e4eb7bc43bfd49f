use Rattle.std.proofs.Common.{◌≡◌, length, map}
use Rattle.f77_ast.specs.Symbols.{symbol_tree}
use Rattle.region_sets.specs.Sets.{SetFits}
use Rattle.dependence_test.specs.Conflicts.{kept_among, kept_system}
use Rattle.dependence_test.proofs.conflicts.kept_system.Given as goal

abbrev pub invariant-loop-rest : goal.invariant-loop-rest
invariant-loop-rest l = record {
  same : kept_among (map symbol_tree l.symbols) l.b l.v l.kinds l.rest l.b.regions ≡ kept_system (map symbol_tree l.symbols) l.b l.v l.kinds;
  each : SetFits l.rest;
}

abbrev pub decreases-loop-rest : goal.decreases-loop-rest
decreases-loop-rest l = length l.rest
