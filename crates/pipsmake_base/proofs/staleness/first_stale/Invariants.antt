use Rattle.std.proofs.Common.{◌≡◌, length}
use Rattle.pipsmake_db.specs.State.{texts_of}
use Rattle.pipsmake_base.specs.Saved.{texts_in}
use Rattle.pipsmake_base.specs.Taken.{IsInSome}
use Rattle.pipsmake_base.proofs.StaleLaws.{FirstRest}
use Rattle.pipsmake_base.proofs.staleness.first_stale.Given as goal

abbrev pub invariant-loop-rest : goal.invariant-loop-rest
invariant-loop-rest l = record {
  in_some : IsInSome l.plain;
  texts : texts_of l.plain ≡ texts_in l.base;
  first : FirstRest (texts_in l.base) l.base.results l.rest;
}

abbrev pub decreases-loop-rest : goal.decreases-loop-rest
decreases-loop-rest l = length l.rest
