use Rattle.std.proofs.Common.{◌+◌, ◌*◌, ◌^◌, false, sym, subst, refl, arith}
use Rattle.affine_systems.specs.Items.{next_made}
use Rattle.elimination.proofs.ElimSteps.{pairs_given}
use Rattle.work_area.specs.Outcomes.{paired_items}
use Rattle.work_area.specs.Tables.{items_of, MadeBelow}
use Rattle.work_area.proofs.MadeLaws.{below_more, paired_below, taken_form_below}
use Rattle.work_area.proofs.TableSteps.{keeps_both, formed_columns}
use Rattle.work_area.proofs.pairing.pair_off.Goals as goal

pub tidy_formed-requires-clause-sound : goal.tidy_formed-requires-clause-sound
tidy_formed-requires-clause-sound c =
    let w = c.requires.sound.width in
    record {
      width = w;
      ready = c.form_pairs-lost.ensures.ready.kept w c.requires.sound.ready;
      held = formed_columns w c.args.v (items_of c.args.tables.now) (items_of c.form_pairs-lost.new.tables) c.form_pairs-lost.result c.requires.fits c.requires.sound.held c.form_pairs-lost.ensures.form;
    }

pub tidy_formed-requires-clause-form : goal.tidy_formed-requires-clause-form
tidy_formed-requires-clause-form c =
    let is = items_of c.args.tables.now in
    let js = paired_items (next_made is) c.args.v is in
    record { rows = js; given = pairs_given false c.args.v is js c.requires.fits refl; is_form = c.form_pairs-lost.ensures.form }

pub tidy_formed-requires-clause-below : goal.tidy_formed-requires-clause-below
tidy_formed-requires-clause-below c =
    let is = items_of c.args.tables.now in
    let js = paired_items (next_made is) c.args.v is in
    subst (MadeBelow (5 * 2 ^ 124)) (sym c.form_pairs-lost.ensures.form.form)
    (taken_form_below (5 * 2 ^ 124) js (omega arith) (below_more (2 ^ 126 + 512 * 512) (5 * 2 ^ 124) js (omega arith) (paired_below (2 ^ 126) c.args.v is c.requires.fits.0 c.requires.below)))

pub returns-clause-defined : goal.returns-clause-defined
returns-clause-defined c =
    let is = items_of c.args.tables.now in
    let js = paired_items (next_made is) c.args.v is in
    c.tidy_formed.ensures.defined js (pairs_given false c.args.v is js c.requires.fits refl) c.form_pairs-lost.ensures.form

pub returns-clause-ready : goal.returns-clause-ready
returns-clause-ready c = keeps_both c.args.tables.now c.form_pairs-lost.new.tables c.tidy_formed.new.tables c.form_pairs-lost.ensures.ready c.tidy_formed.ensures.ready
