use Rattle.std.proofs.Common.{pos, subst}
use Rattle.std.specs.Prelude.{slice_index}
use Rattle.affine_systems.specs.declared.row.Var.TheVariants.{Cell}
use Rattle.affine_systems.specs.Terms.{term}
use Rattle.elimination.specs.Homes.{IsHome}
use Rattle.elimination.proofs.LoneSteps.{homes_more}
use Rattle.elimination.proofs.lone.note_homes.Goals as goal

pub loop-t-preserved : goal.loop-t-preserved
loop-t-preserved c =
    homes_more c.args.row c.args.table.now c.loop-t.table c.note_home.new.table c.args.terms.now c.loop-t.t-index (term (Cell 0) (pos 0)) c.loop-t-test.true c.loop-t.invariant c.note_home.ensures.kept
    (subst (λ n. IsHome c.args.row (slice_index c.note_home.new.table n)) c.place.ensures.defined c.note_home.ensures.here)
