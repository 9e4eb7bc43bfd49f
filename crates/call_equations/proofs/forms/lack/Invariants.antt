use Rattle.std.proofs.Common.{◌≡◌, length}
use Rattle.call_equations.specs.Forms.{lack}
use Rattle.call_equations.proofs.forms.lack.Given as goal

abbrev pub invariant-loop-rest : goal.invariant-loop-rest
invariant-loop-rest l = lack l.cells l.rest ≡ lack l.cells l.fn.terms

abbrev pub decreases-loop-rest : goal.decreases-loop-rest
decreases-loop-rest l = length l.rest
