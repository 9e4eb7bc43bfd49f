use Rattle.std.proofs.Common.{◌≡◌, map, length}
use Rattle.serde_json.specs.View.{view}
use Rattle.base_json.proofs.Lists.{after}
use Rattle.base_values.specs.Read.{at_each}
use Rattle.base_values.proofs.read.at_each.Given as goal

abbrev pub invariant-loop-ids : goal.invariant-loop-ids
invariant-loop-ids g l = after l.made (at_each (g.T.Decode.read_as l.scope) l.ids (map view l.values)) ≡ at_each (g.T.Decode.read_as l.scope) l.fn.ids (map view l.fn.values)

abbrev pub decreases-loop-ids : goal.decreases-loop-ids
decreases-loop-ids g l = length l.ids
