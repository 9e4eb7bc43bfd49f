use Rattle.fx_base.proofs.ReadLemmas.{so_far-start, so_far-more, so_far-differs}
use Rattle.fx_base.proofs.comparing.reads_as.Goals as goal

pub loop-init : goal.loop-init
loop-init g c = so_far-start _ _

pub returns-in-None : goal.returns-in-None
returns-in-None g c = record { exact = so_far-differs _ _ _ _ _ _ c.loop.invariant c.in_ok-n.ensures.bytes.0 c.in-None.ensures }

pub loop-preserved : goal.loop-preserved
loop-preserved g c = so_far-more _ _ _ _ _ _ _ c.loop.invariant c.in_ok-n.ensures.bytes.0 c.in-Some.ensures
