use Rattle.std.proofs.Common.{◌∷◌}
use Rattle.work_area.proofs.Swaps.{keeps_more, keeps_beside}
use Rattle.work_area.proofs.pairing.add_pair.Goals as goal

pub returns-clause-room : goal.returns-clause-room
returns-clause-room c =
    keeps_more (c.args.scratch.now ∷ c.args.out.now) (c.put_pair.new.out ∷ c.args.out.now) (c.add.new.slot ∷ c.add.new.rows) (keeps_beside c.args.scratch.now c.put_pair.new.out c.args.out.now c.put_pair.ensures.room) c.add.ensures.room
