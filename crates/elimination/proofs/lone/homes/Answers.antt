use Rattle.std.proofs.Common.{subst}
use Rattle.elimination.specs.Homes.{HasHomes}
use Rattle.elimination.proofs.LoneSteps.{homed_more}
use Rattle.elimination.proofs.lone.homes.Goals as goal

pub loop-i-preserved : goal.loop-i-preserved
loop-i-preserved c =
    homed_more c.loop-i.table c.note_homes.new.table c.args.items.now c.loop-i.i c.index-items-i.result c.loop-i-test.true c.index-items-i.is c.loop-i.invariant
    (subst (λ ts. HasHomes c.loop-i.i c.loop-i.table c.note_homes.new.table ts) c.as_slice.ensures c.note_homes.ensures)
