use Rattle.std.proofs.Common.{◌-◌, length, arith}
use Rattle.work_area.proofs.Swaps.{keeps_put_first}
use Rattle.work_area.proofs.pivots.put_first.Goals as goal

pub returns-clause-room : goal.returns-clause-room
returns-clause-room c =
    keeps_put_first c.args.pivot.now c.args.rows.now c.rotate_right.new.self (length c.args.rows.now - 1) c.swap.new.x c.swap.new.y c.index-rows-0.result
    (omega (arith, c.requires, c.rotate_right.ensures.len)) c.rotate_right.ensures.after c.swap.ensures.x_after c.swap.ensures.y_after
