use Rattle.std.proofs.Common.{◌≤◌, suc, pos, subst}
use Rattle.std.specs.Prelude.{min, slice_index}
use Rattle.affine_systems.specs.declared.row.Var.TheVariants.{Cell}
use Rattle.affine_systems.specs.Terms.{term}
use Rattle.affine_systems.proofs.PlaceSteps.{noted_none, noted_more, noted_end}
use Rattle.affine_systems.proofs.places.note_terms.Goals as goal

pub loop-t-init : goal.loop-t-init
loop-t-init c = noted_none c.args.table.now

pub loop-t-preserved : goal.loop-t-preserved
loop-t-preserved c =
    noted_more c.args.table.now c.loop-t.table c.note.new.table c.args.terms.now c.loop-t.t-index (term (Cell 0) (pos 0)) c.loop-t-test.true c.loop-t.invariant c.note.ensures.kept
    (subst (λ n. min 2 (suc (slice_index c.loop-t.table n)) ≤ slice_index c.note.new.table n) c.place.ensures.defined c.note.ensures.here)

pub returns : goal.returns
returns c = noted_end c.args.table.now c.loop-t.table c.args.terms.now c.loop-t.t-index c.loop-t-test.false c.loop-t.invariant
