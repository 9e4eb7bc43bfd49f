use Rattle.std.proofs.Common.{ℕ, ◌+◌, ◌-◌, ◌++◌, sym, ap, ◌∙◌, append_assoc, List}
use Rattle.storage_data.specs.declared.offset_node.OffsetNode.{OffsetNode}
use Rattle.storage_data.specs.OffsetNodes.{alone_from}
use Rattle.storage_data.proofs.AloneLaws.{alone_next}
use Rattle.storage_data.proofs.groups.Groups.singletons.Goals as goal

pub loop-number-preserved : goal.loop-number-preserved
loop-number-preserved c =
    let n : ℕ = c.loop-number.number in
    let rest : List OffsetNode = alone_from (n + 1) (c.args.count - (n + 1)) in
    ap (λ xs. xs ++ rest) c.in_ok-push.ensures.items ∙ append_assoc c.loop-number.offset_nodes.items _ rest
    ∙ ap (λ xs. c.loop-number.offset_nodes.items ++ xs) (sym (alone_next n c.args.count c.loop-number-test.true)) ∙ c.loop-number.invariant
