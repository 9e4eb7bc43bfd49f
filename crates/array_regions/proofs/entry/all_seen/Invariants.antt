use Rattle.std.proofs.Common.{◌≡◌, ◌++◌, length, map}
use Rattle.f77_ast.specs.Symbols.{symbol_tree}
use Rattle.region_translation.specs.region_sets.Sets.{SetFits}
use Rattle.array_regions.specs.Entry.{locals, seen}
use Rattle.array_regions.proofs.entry.all_seen.Given as goal

abbrev pub invariant-loop-rest : goal.invariant-loop-rest
invariant-loop-rest l = record {
  same : l.out ++ seen (map symbol_tree l.symbols) l.cells.items l.rest ≡ seen (map symbol_tree l.symbols) (locals (map symbol_tree l.symbols)) l.fn.set;
  fits : SetFits l.out;
  each : SetFits l.rest;
}

abbrev pub decreases-loop-rest : goal.decreases-loop-rest
decreases-loop-rest l = length l.rest
