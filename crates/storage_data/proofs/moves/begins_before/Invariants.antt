use Rattle.std.proofs.Common.{◌≡◌, drop}
use Rattle.storage_data.specs.OffsetNodes.{begins_before}
use Rattle.storage_data.proofs.moves.begins_before.Given as goal

abbrev pub invariant-loop-offset_node : goal.invariant-loop-offset_node
invariant-loop-offset_node l = begins_before (drop l.offset_node-index l.offset_nodes) l.home ≡ begins_before l.offset_nodes l.home
