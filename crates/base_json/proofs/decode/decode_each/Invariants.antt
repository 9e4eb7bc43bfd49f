use Rattle.std.proofs.Common.{◌≡◌, map, drop}
use Rattle.serde_json.specs.View.{view}
use Rattle.base_json.specs.Shapes.{each_as}
use Rattle.base_json.proofs.Lists.{after}
use Rattle.base_json.proofs.decode.decode_each.Given as goal

abbrev pub invariant-loop-value : goal.invariant-loop-value
invariant-loop-value g l = after l.made (each_as (g.T.Decode.read_as l.scope) (map view (drop l.value-index l.values))) ≡ each_as (g.T.Decode.read_as l.scope) (map view l.fn.values)
