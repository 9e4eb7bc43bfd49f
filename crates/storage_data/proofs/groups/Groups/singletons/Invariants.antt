use Rattle.std.proofs.Common.{◌≡◌, ◌++◌, ◌-◌}
use Rattle.storage_data.specs.OffsetNodes.{alone_from}
use Rattle.storage_data.proofs.groups.Groups.singletons.Given as goal

abbrev pub invariant-loop-number : goal.invariant-loop-number
invariant-loop-number l = l.offset_nodes.items ++ alone_from l.number (l.count - l.number) ≡ alone_from 0 l.count
