use Rattle.std.proofs.Common.{◌≡◌, ◌++◌, drop}
use Rattle.f77_parser.specs.Standing.{item_names}
use Rattle.f77_parser.proofs.standing.add_items.Given as goal

abbrev pub invariant-loop-item : goal.invariant-loop-item
invariant-loop-item l = l.names ++ item_names (drop l.item-index l.item-items) ≡ l.fn.names ++ item_names l.item-items
