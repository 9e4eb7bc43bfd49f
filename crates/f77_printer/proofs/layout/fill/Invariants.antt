use Rattle.std.proofs.Common.{◌≡◌, ◌++◌, ◌-◌, replicate}
use Rattle.f77_printer.proofs.layout.fill.Given as goal

abbrev pub decreases-loop-columns : goal.decreases-loop-columns
decreases-loop-columns l = 6 - l.columns

abbrev pub invariant-loop-columns : goal.invariant-loop-columns
invariant-loop-columns l = l.out ++ replicate (6 - l.columns) 32 ≡ l.initial.out ++ replicate (6 - l.fn.used) 32
