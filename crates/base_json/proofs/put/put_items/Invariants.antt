use Rattle.std.proofs.Common.{◌≡◌, ◌++◌, map, drop}
use Rattle.std.specs.Prelude.{false}
use Rattle.serde_json.specs.View.{items_of}
use Rattle.serde_json.specs.Written.{items_text}
use Rattle.base_json.proofs.put.put_items.Given as goal

abbrev pub invariant-loop-item : goal.invariant-loop-item
invariant-loop-item g l = l.out ++ items_text l.later (items_of (map (g.T.Put.data_of l.scope) (drop l.item-index l.list))) ≡ l.fn.out ++ items_text false (items_of (map (g.T.Put.data_of l.scope) l.fn.list))
