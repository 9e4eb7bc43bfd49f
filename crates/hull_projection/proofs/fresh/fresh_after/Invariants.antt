use Rattle.std.proofs.Common.{◌≡◌, ◌≤◌, ◌^◌, max, drop}
use Rattle.hull_projection.specs.Fresh.{fresh_after}
use Rattle.hull_projection.proofs.fresh.fresh_after.Given as goal

abbrev pub invariant-loop-v : goal.invariant-loop-v
invariant-loop-v l = (max l.least (fresh_after (drop l.v-index l.vars)) ≡ fresh_after l.fn.vars) × (l.least ≤ 2 ^ 32)
