use Rattle.std.proofs.Common.{◌≤◌, ◌*◌, List, length, arith, sym, subst}
use Rattle.std.proofs.Math.Nat.{mul-le-mul}
use Rattle.affine_systems.specs.declared.items.Item.{Item}
use Rattle.affine_systems.specs.Rows.{AllRows}
use Rattle.affine_systems.specs.Items.{rows_of}
use Rattle.affine_systems.specs.Given.{IsNormal}
use Rattle.affine_systems.specs.Eliminate.{is_without, keep}
use Rattle.work_area.specs.Slots.{items_in}
use Rattle.work_area.specs.Filling.{Stands}
use Rattle.work_area.proofs.Swaps.{both_have, first_has, rest_has}
use Rattle.work_area.specs.Outcomes.{paired_items}
use Rattle.work_area.proofs.TableSteps.{short_slots}
use Rattle.work_area.proofs.PairSteps.{kept_normal}
use Rattle.work_area.proofs.pairing.pair_form.Goals as goal

pub copy_without-kept-requires-clause-fit : goal.copy_without-kept-requires-clause-fit
copy_without-kept-requires-clause-fit c =
    let r = c.requires.roomy in
    record { width = r.width; short = short_slots r.width c.args.rows.now r.held c.requires.each; wide = rest_has r.width c.args.scratch.now c.args.out.now r.wide }

pub begin-filled-requires-clause-normal : goal.begin-filled-requires-clause-normal
begin-filled-requires-clause-normal c = subst (λ (js : List Item). AllRows IsNormal (rows_of js)) (sym c.copy_without-kept.ensures.items) (kept_normal (is_without c.args.v) (items_in c.args.rows.now) c.requires.normal)

pub add_pairs-requires-clause-made : goal.add_pairs-requires-clause-made
add_pairs-requires-clause-made c =
    let l = c.requires.few in
    let p : length c.args.rows.now * length c.args.rows.now ≤ 512 * 512 = mul-le-mul l l in
    omega (arith, p, l, c.requires.made)

pub add_pairs-requires-clause-roomy : goal.add_pairs-requires-clause-roomy
add_pairs-requires-clause-roomy c =
    let r = c.requires.roomy in
    let w = r.width in
    record {
      width = w;
      wide = both_have w c.args.scratch.now c.begin-filled.new.rows (first_has w c.args.scratch.now c.args.out.now r.wide)
          (c.begin-filled.ensures.room.kept w (c.copy_without-kept.ensures.room.kept w (rest_has w c.args.scratch.now c.args.out.now r.wide)));
      held = r.held;
    }

pub returns-clause-form : goal.returns-clause-form
returns-clause-form c =
    let v = c.args.v in
    let is = items_in c.args.rows.now in
    let s = subst (λ (js : List Item). Stands js c.begin-filled.new.rows c.begin-filled.result) c.copy_without-kept.ensures.items c.begin-filled.ensures.stands in
    c.finish.ensures.form (paired_items c.args.made v is) (c.add_pairs.ensures.stands (keep (is_without v) is) s)

pub returns-clause-room : goal.returns-clause-room
returns-clause-room c = record {
  kept = λ n h.
      let s = c.args.scratch.now in
      let o = rest_has n s c.args.out.now h in
      let a = c.begin-filled.ensures.room.kept n (c.copy_without-kept.ensures.room.kept n o) in
      let b = c.add_pairs.ensures.room.kept n (both_have n s c.begin-filled.new.rows (first_has n s c.args.out.now h) a) in
      both_have n c.add_pairs.new.scratch c.finish.new.rows (first_has n c.add_pairs.new.scratch c.add_pairs.new.out b) (c.finish.ensures.room.kept n (rest_has n c.add_pairs.new.scratch c.add_pairs.new.out b));
}
