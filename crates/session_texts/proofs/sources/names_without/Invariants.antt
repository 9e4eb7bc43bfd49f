use Rattle.std.proofs.Common.{◌≡◌, ◌++◌, length}
use Rattle.std.specs.Prelude.{filter, not, bytes_eq}
use Rattle.session_texts.proofs.sources.names_without.Given as goal

abbrev pub invariant-loop-rest : goal.invariant-loop-rest
invariant-loop-rest l = l.left ++ filter (λ y. not (bytes_eq y l.name)) l.rest ≡ filter (λ y. not (bytes_eq y l.name)) l.names

abbrev pub decreases-loop-rest : goal.decreases-loop-rest
decreases-loop-rest l = length l.rest
