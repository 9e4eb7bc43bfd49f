use Rattle.std.proofs.Common.{◌≡◌, ◌++◌, drop}
use Rattle.region_sets.specs.Naming.{to_exits}
use Rattle.region_sets.proofs.naming.to_exits.Given as goal

abbrev pub invariant-loop-c : goal.invariant-loop-c
invariant-loop-c l = l.out.items ++ to_exits (drop l.c-index l.cells) ≡ to_exits l.fn.cells
