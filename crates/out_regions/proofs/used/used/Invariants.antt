use Rattle.std.proofs.Common.{◌≡◌, ◌++◌, length, map}
use Rattle.f77_ast.specs.Symbols.{symbol_tree}
use Rattle.in_out_regions.specs.region_sets.Sets.{SetFits}
use Rattle.out_regions.specs.Settled.{IsSettledFrom}
use Rattle.out_regions.specs.Used.{used}
use Rattle.out_regions.proofs.used.used.Given as goal

abbrev pub invariant-loop-rest : goal.invariant-loop-rest
invariant-loop-rest l = record {
  same : l.out ++ used (map symbol_tree l.symbols) l.later l.rest ≡ used (map symbol_tree l.symbols) l.later l.writes;
  fits : SetFits l.out;
  settled : IsSettledFrom l.since l.out;
  each : SetFits l.rest;
}

abbrev pub decreases-loop-rest : goal.decreases-loop-rest
decreases-loop-rest l = length l.rest
