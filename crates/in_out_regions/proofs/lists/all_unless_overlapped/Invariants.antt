use Rattle.std.proofs.Common.{◌≡◌, length, ◌++◌, map}
use Rattle.f77_ast.specs.Symbols.{symbol_tree}
use Rattle.array_regions.specs.region_sets.Sets.{SetFits}
use Rattle.in_out_regions.specs.Lists.{all_unless_overlapped}
use Rattle.in_out_regions.proofs.lists.all_unless_overlapped.Given as goal

abbrev pub invariant-loop-rest : goal.invariant-loop-rest
invariant-loop-rest l = record {
  same : l.out ++ all_unless_overlapped (map symbol_tree l.symbols) l.writes l.rest ≡ all_unless_overlapped (map symbol_tree l.symbols) l.writes l.fn.set;
  fits : SetFits l.out;
  each : SetFits l.rest;
}

abbrev pub decreases-loop-rest : goal.decreases-loop-rest
decreases-loop-rest l = length l.rest
