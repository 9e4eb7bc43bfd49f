use Rattle.std.proofs.Common.{◌≡◌, length, map}
use Rattle.f77_ast.specs.Symbols.{symbol_tree}
use Rattle.region_sets.specs.Sets.{SetFits}
use Rattle.dependence_test.specs.Conflicts.{kept_beside}
use Rattle.dependence_test.proofs.conflicts.kept_beside.Given as goal

abbrev pub invariant-loop-rest : goal.invariant-loop-rest
invariant-loop-rest l = record {
  same : kept_beside (map symbol_tree l.symbols) l.b l.v l.kinds l.x l.rest ≡ kept_beside (map symbol_tree l.symbols) l.b l.v l.kinds l.x l.regions;
  each : SetFits l.rest;
}

abbrev pub decreases-loop-rest : goal.decreases-loop-rest
decreases-loop-rest l = length l.rest
