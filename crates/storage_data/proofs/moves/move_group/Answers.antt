use Rattle.std.proofs.Common.{pos, to_z, of_z, w64}
use Rattle.storage_data.specs.declared.offset_node.Home.TheVariants.{Block}
use Rattle.storage_data.specs.declared.offset_node.OffsetNode.{OffsetNode}
use Rattle.storage_data.specs.OffsetNodes.{move_offset_node}
use Rattle.storage_data.proofs.MoveLaws.{mapped_more, left_more}
use Rattle.storage_data.proofs.moves.move_group.Goals as goal

pub loop-at-preserved : goal.loop-at-preserved
loop-at-preserved c =
    let f : OffsetNode → OffsetNode = move_offset_node c.args.from c.args.to (to_z w64 (of_z w64 c.args.shift)) in
    let d : OffsetNode = record { home = Block 0; offset = pos 0 } in
    record {
      done = mapped_more f c.args.offset_nodes.now c.loop-at.offset_nodes c.loop-at.at d c.in-Some.offset_node c.loop-at-test.true c.loop-at.auto.offset_nodes c.loop-at.invariant.done c.loop-at.invariant.left c.in-Some.ensures;
      left = left_more f c.args.offset_nodes.now c.loop-at.offset_nodes c.loop-at.at d c.in-Some.offset_node c.loop-at-test.true c.loop-at.auto.offset_nodes c.loop-at.invariant.left;
    }
