use Rattle.std.proofs.Common.{◌≡◌, ◌-◌, length}
use Rattle.std.specs.Prelude.{fold}
use Rattle.session_texts.specs.pipsmake_rules.Needs.{needs_of}
use Rattle.session_texts.specs.pipsmake_rules.Walk.{walk_from}
use Rattle.pipsmake_db.proofs.walked.+walk_on.Given as goal

abbrev pub decreases-walk_on : goal.decreases-walk_on
decreases-walk_on l = l.depth

abbrev pub invariant-loop-rest : goal.invariant-loop-rest
invariant-loop-rest l = record {
  same : l.walked.keys ≡ l.walked.listed;
  walks : fold (λ d n. walk_from (l.depth - 1) l.names l.graph d n) l.walked.listed l.rest ≡ fold (λ d n. walk_from (l.depth - 1) l.names l.graph d n) l.initial.walked.listed (needs_of l.names l.graph l.key);
}

abbrev pub decreases-loop-rest : goal.decreases-loop-rest
decreases-loop-rest l = length l.rest
