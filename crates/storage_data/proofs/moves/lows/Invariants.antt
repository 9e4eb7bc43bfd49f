use Rattle.std.proofs.Common.{◌≡◌, ℕ, drop, None, nat_eq}
use Rattle.std.specs.HashMap.{get}
use Rattle.storage_data.specs.declared.offset_node.Home.TheVariants.{Own}
use Rattle.storage_data.specs.OffsetNodes.{lowest_from}
use Rattle.storage_data.proofs.moves.lows.Given as goal

abbrev pub invariant-loop-offset_node : goal.invariant-loop-offset_node
invariant-loop-offset_node l =
    (n : ℕ) → lowest_from (get nat_eq l.lows n) (Own n) (drop l.offset_node-index l.offset_nodes) ≡ lowest_from None (Own n) l.offset_nodes
