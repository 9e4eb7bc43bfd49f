use Rattle.std.proofs.Common.{◌∙◌, ◌+◌, ◌*◌, ◌^◌, false, sym, ap, subst, arith}
use Rattle.affine_systems.specs.Items.{next_made, cut_of, others}
use Rattle.affine_systems.specs.Eliminate.{all_cancelled}
use Rattle.affine_systems.specs.Tidy.{tidy_items}
use Rattle.elimination.proofs.ElimSteps.{fit_small, by_given}
use Rattle.work_area.specs.Columns.{InColumns}
use Rattle.work_area.specs.Tables.{items_of, MadeBelow}
use Rattle.work_area.proofs.MadeLaws.{below_more, cancelled_by_below}
use Rattle.work_area.proofs.TableSteps.{keeps_both, cancelled_columns}
use Rattle.work_area.proofs.substitution.eliminate_by.Goals as goal

pub cancel-requires-clause-small : goal.cancel-requires-clause-small
cancel-requires-clause-small c = fit_small false (items_of c.args.tables.now) c.requires.fits

pub cancel-requires-clause-below : goal.cancel-requires-clause-below
cancel-requires-clause-below c = below_more (2 ^ 126) (2 ^ 127) (items_of c.args.tables.now) (omega arith) c.requires.below

pub tidy_tables-requires-clause-sound : goal.tidy_tables-requires-clause-sound
tidy_tables-requires-clause-sound c =
    let w = c.requires.sound.width in
    record {
      width = w;
      ready = c.cancel.ensures.ready.kept w c.requires.sound.ready;
      held = subst (InColumns w) (sym c.cancel.ensures.items) (cancelled_columns w (items_of c.args.tables.now) c.args.at c.args.v c.requires.fits c.requires.sound.held c.requires.within);
    }

pub tidy_tables-requires-clause-given : goal.tidy_tables-requires-clause-given
tidy_tables-requires-clause-given c = by_given false c.args.v (items_of c.args.tables.now) (items_of c.cancel.new.tables) c.args.at c.requires.fits c.requires.within c.cancel.ensures.items

pub tidy_tables-requires-clause-below : goal.tidy_tables-requires-clause-below
tidy_tables-requires-clause-below c =
    let is = items_of c.args.tables.now in
    let js = all_cancelled (next_made is) (cut_of is c.args.at).at c.args.v (others (cut_of is c.args.at)) in
    subst (MadeBelow (3 * 2 ^ 125)) (sym c.cancel.ensures.items) (below_more (2 ^ 126 + 512) (3 * 2 ^ 125) js (omega arith) (cancelled_by_below (2 ^ 126) is c.args.at c.args.v c.requires.within c.requires.fits.0 c.requires.below))

pub returns-clause-defined : goal.returns-clause-defined
returns-clause-defined c = c.tidy_tables.ensures.defined ∙ ap (tidy_items false) c.cancel.ensures.items

pub returns-clause-ready : goal.returns-clause-ready
returns-clause-ready c = keeps_both c.args.tables.now c.cancel.new.tables c.tidy_tables.new.tables c.cancel.ensures.ready c.tidy_tables.ensures.ready
