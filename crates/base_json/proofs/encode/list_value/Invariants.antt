use Rattle.std.proofs.Common.{◌≡◌, ◌++◌, map, drop}
use Rattle.serde_json.specs.View.{view}
use Rattle.base_json.proofs.encode.list_value.Given as goal

abbrev pub invariant-loop-item : goal.invariant-loop-item
invariant-loop-item g l = map view l.values.items ++ map (g.T.Encode.data_of l.scope) (drop l.item-index l.list) ≡ map (g.T.Encode.data_of l.scope) l.fn.list
