use Rattle.std.proofs.Common.{◌≡◌, length}
use Rattle.std.specs.List.{list_all}
use Rattle.session_texts.specs.pipsmake_rules.Keys.{holds}
use Rattle.pipsmake_db.proofs.kept.have_all.Given as goal

abbrev pub invariant-loop-rest : goal.invariant-loop-rest
invariant-loop-rest l = list_all (λ k. holds l.fresh (record { kind = k; name = l.name })) l.rest ≡ list_all (λ k. holds l.fresh (record { kind = k; name = l.name })) l.kinds

abbrev pub decreases-loop-rest : goal.decreases-loop-rest
decreases-loop-rest l = length l.rest
