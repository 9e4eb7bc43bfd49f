use Rattle.std.proofs.Common.{◌≡◌, length}
use Rattle.f77_structure.specs.Jumps.{all_judged}
use Rattle.f77_structure.proofs.jumps.all_judged.Given as goal

abbrev pub invariant-loop-rest : goal.invariant-loop-rest
invariant-loop-rest l = all_judged l.spans l.landings l.rest l.found ≡ all_judged l.spans l.landings l.fn.jumps l.fn.found

abbrev pub decreases-loop-rest : goal.decreases-loop-rest
decreases-loop-rest l = length l.rest
