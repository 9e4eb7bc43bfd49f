use Rattle.std.proofs.Common.{◌≡◌, take, drop, map}
use Rattle.storage_data.specs.OffsetNodes.{move_offset_node}
use Rattle.storage_data.proofs.moves.move_group.Given as goal

abbrev pub invariant-loop-at : goal.invariant-loop-at
invariant-loop-at l = record {
  done : take l.at l.offset_nodes ≡ map (move_offset_node l.from l.to l.shift) (take l.at l.initial.offset_nodes);
  left : drop l.at l.offset_nodes ≡ drop l.at l.initial.offset_nodes;
}
