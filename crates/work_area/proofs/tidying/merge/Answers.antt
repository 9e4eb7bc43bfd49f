use Rattle.work_area.proofs.TableSteps.{ready_zero, keeps_both}
use Rattle.work_area.proofs.tidying.merge.Goals as goal

pub put_in_order-requires : goal.put_in_order-requires
put_in_order-requires c = c.face.ensures.ready.kept 0 (ready_zero c.requires.sound.width c.args.tables.now c.requires.sound.ready)

pub returns-clause-ready : goal.returns-clause-ready
returns-clause-ready c = keeps_both c.args.tables.now c.face.new.tables c.put_in_order.new.tables c.face.ensures.ready c.put_in_order.ensures.ready
