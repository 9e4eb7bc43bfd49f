use Rattle.std.proofs.Common.{◌≡◌, ◌++◌, ◌+◌, ◌-◌}
use Rattle.region_translation.specs.Pieces.{subscripts_from}
use Rattle.region_translation.proofs.pieces.subscripts.Given as goal

abbrev pub invariant-loop-k : goal.invariant-loop-k
invariant-loop-k l = l.vars ++ subscripts_from (1 + l.k) (l.link.rank - l.k) ≡ subscripts_from 1 l.link.rank
