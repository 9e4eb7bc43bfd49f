use Rattle.std.proofs.Common.{◌≡◌, ◌++◌, drop}
use Rattle.region_sets.specs.Naming.{exit_vars}
use Rattle.region_sets.proofs.naming.exit_vars.Given as goal

abbrev pub invariant-loop-c : goal.invariant-loop-c
invariant-loop-c l = l.out.items ++ exit_vars (drop l.c-index l.cells) ≡ exit_vars l.fn.cells
