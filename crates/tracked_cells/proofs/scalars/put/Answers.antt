use Rattle.std.proofs.Common.{◌∙◌}
use Rattle.tracked_cells.proofs.ScalarLaws.{put_in}
use Rattle.tracked_cells.proofs.scalars.put.Goals as goal

pub returns : goal.returns
returns c =
    put_in c.args.block.now c.in_ok-key.key c.args.offset c.args.units.now.keys c.insert.new.self.keys (c.in_ok-key.ensures.items ∙ c.as_slice.ensures) c.in_ok-insert.ensures.keys
