use Rattle.std.proofs.Common.{length}
use Rattle.pipsmake_base.proofs.ModuleLaws.{ModulesRest}
use Rattle.pipsmake_base.proofs.modules.modules_of.Given as goal

abbrev pub invariant-loop-rest : goal.invariant-loop-rest
invariant-loop-rest l = ModulesRest l.fn.texts l.modules l.rest

abbrev pub decreases-loop-rest : goal.decreases-loop-rest
decreases-loop-rest l = length l.rest
