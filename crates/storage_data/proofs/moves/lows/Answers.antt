use Rattle.std.proofs.Common.{◌+◌, pos, nat_eq, drop, sym, ap, ◌∙◌}
use Rattle.std.proofs.lemmas.List.{at_drop_more}
use Rattle.std.specs.HashMap.{get}
use Rattle.storage_data.specs.declared.offset_node.Home.TheVariants.{Block, Own}
use Rattle.storage_data.specs.OffsetNodes.{lowest_from}
use Rattle.storage_data.proofs.moves.lows.Goals as goal

pub loop-offset_node-preserved : goal.loop-offset_node-preserved
loop-offset_node-preserved c = λ n.
    let ss = c.args.offset_nodes.now in
    let i = c.loop-offset_node.offset_node-index in
    ap (λ low. lowest_from low (Own n) (drop (i + 1) ss)) (c.in_ok-note_low.ensures n)
    ∙ sym (at_drop_more (lowest_from (get nat_eq c.loop-offset_node.lows n) (Own n)) ss i (record { home = Block 0; offset = pos 0 }) c.loop-offset_node-test.true)
    ∙ c.loop-offset_node.invariant n
