use Rattle.std.proofs.Common.{◌∙◌, ◌≤◌, ◌^◌, false, length, ap, sym, subst, arith}
use Rattle.affine_systems.specs.Given.{ItemsSmall}
use Rattle.affine_systems.specs.Tidy.{in_form, merged}
use Rattle.work_area.specs.Columns.{InColumns}
use Rattle.work_area.specs.Tables.{items_of, MadeBelow}
use Rattle.work_area.proofs.MadeLaws.{form_below}
use Rattle.work_area.proofs.TableSteps.{ready_zero, keeps_both, form_narrow, round_whole, lossy_whole, length-items_of}
use Rattle.work_area.proofs.tidying.round.Goals as goal

pub form-lost-requires : goal.form-lost-requires
form-lost-requires c = ready_zero c.requires.sound.width c.args.tables.now c.requires.sound.ready

pub merge-requires-clause-sound : goal.merge-requires-clause-sound
merge-requires-clause-sound c =
    let w = c.requires.sound.width in
    record {
      width = w;
      ready = c.form-lost.ensures.ready.kept w c.requires.sound.ready;
      held = subst (InColumns w) (sym c.form-lost.ensures.items) (form_narrow w (items_of c.args.tables.now) c.requires.given c.requires.sound.held).held;
    }

pub merge-requires-clause-small : goal.merge-requires-clause-small
merge-requires-clause-small c = subst ItemsSmall (sym c.form-lost.ensures.items) (form_narrow c.requires.sound.width (items_of c.args.tables.now) c.requires.given c.requires.sound.held).small

pub merge-requires-clause-below : goal.merge-requires-clause-below
merge-requires-clause-below c =
    let is = items_of c.args.tables.now in
    subst (MadeBelow (2 ^ 127)) (sym c.form-lost.ensures.items) (form_below false (2 ^ 127) is (omega arith) c.requires.below)

pub returns-clause-items : goal.returns-clause-items
returns-clause-items c =
    let is = items_of c.args.tables.now in
    let r = c.form-lost.ensures.ready.kept c.requires.sound.width c.requires.sound.ready in
    let l : length (in_form false is) ≤ 512 = omega (arith, r.within, length-items_of c.requires.sound.width c.form-lost.new.tables r, ap length c.form-lost.ensures.items) in
    c.merge.ensures.items ∙ (ap merged c.form-lost.ensures.items ∙ sym (round_whole is l))

pub returns-clause-lost : goal.returns-clause-lost
returns-clause-lost c =
    let is = items_of c.args.tables.now in
    let r = c.form-lost.ensures.ready.kept c.requires.sound.width c.requires.sound.ready in
    let l : length (in_form false is) ≤ 512 = omega (arith, r.within, length-items_of c.requires.sound.width c.form-lost.new.tables r, ap length c.form-lost.ensures.items) in
    c.form-lost.ensures.lost ∙ sym (lossy_whole is l)

pub returns-clause-ready : goal.returns-clause-ready
returns-clause-ready c = keeps_both c.args.tables.now c.form-lost.new.tables c.merge.new.tables c.form-lost.ensures.ready c.merge.ensures.ready
