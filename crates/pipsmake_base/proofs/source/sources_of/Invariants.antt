use Rattle.std.proofs.Common.{length}
use Rattle.pipsmake_base.proofs.Sources.{SourcesRest}
use Rattle.pipsmake_base.proofs.source.sources_of.Given as goal

abbrev pub invariant-loop-rest : goal.invariant-loop-rest
invariant-loop-rest l = SourcesRest l.fn.modules l.sources l.rest

abbrev pub decreases-loop-rest : goal.decreases-loop-rest
decreases-loop-rest l = length l.rest
