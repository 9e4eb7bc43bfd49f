use Rattle.std.proofs.Common.{◌≡◌, length, true, map}
use Rattle.affine_systems.specs.declared.row.System.{System}
use Rattle.hull_projection.specs.Project.{shadow}
use Rattle.region_sets.specs.Compose.{compose_piece}
use Rattle.region_sets.proofs.moving.all_pass.Given as goal

abbrev pub invariant-loop-rest : goal.invariant-loop-rest
invariant-loop-rest l = map (compose_piece l.t) l.rest ≡ map (λ (s : System). shadow s true) l.rest → map (compose_piece l.t) l.fn.pieces ≡ map (λ (s : System). shadow s true) l.fn.pieces

abbrev pub decreases-loop-rest : goal.decreases-loop-rest
decreases-loop-rest l = length l.rest
