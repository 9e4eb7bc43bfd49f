use Rattle.std.proofs.Common.{◌≡◌, ◌∙◌, ◌-◌, ◌∷◌, ◌++◌, List, length, take, drop, ap, sym, subst, arith}
use Rattle.std.proofs.lemmas.List.{take_all, length-take-le, length-append, length-drop}
use Rattle.affine_systems.specs.declared.items.Item.{Item}
use Rattle.affine_systems.specs.Given.{IsSmallRow, ItemsSmall}
use Rattle.affine_systems.specs.Items.{AllItems, false_item}
use Rattle.affine_systems.specs.Tidy.{unit_var, taken}
use Rattle.affine_systems.proofs.PivotSteps.{small_removed}
use Rattle.affine_systems.proofs.ItemSteps.{item_at as all_at}
use Rattle.work_area.specs.Slots.{item_in, items_in}
use Rattle.work_area.specs.Columns.{AreAmong}
use Rattle.work_area.proofs.Swaps.{items_in-take, length-items_in, front_items, out_rooms, keeps_pivot}
use Rattle.work_area.proofs.ColumnLaws.{among_at}
use Rattle.work_area.proofs.AllLaws.{all_removed}
use Rattle.work_area.proofs.pivots.take_pivot.Goals as goal

pub cancel_pivot-requires-clause-each : goal.cancel_pivot-requires-clause-each
cancel_pivot-requires-clause-each c =
    let is = items_in c.args.rows.now in
    subst ItemsSmall (sym (items_in-take c.take_out.new.rows (length c.args.rows.now - 1) ∙ c.take_out.ensures.items)) (small_removed is c.args.at c.requires.each)

pub cancel_pivot-requires-clause-by : goal.cancel_pivot-requires-clause-by
cancel_pivot-requires-clause-by c =
    let is = items_in c.args.rows.now in
    subst (λ (j : Item). IsSmallRow j.row) (sym c.take_out.ensures.pivot) (all_at (λ i. IsSmallRow i.row) is c.args.at false_item c.requires.each (omega (arith, c.requires.within, length-items_in c.args.rows.now)))

pub cancel_pivot-requires-clause-roomy : goal.cancel_pivot-requires-clause-roomy
cancel_pivot-requires-clause-roomy c =
    let ss = c.args.rows.now in
    let is = items_in ss in
    let r = c.requires.roomy in
    let o = items_in-take c.take_out.new.rows (length ss - 1) ∙ c.take_out.ensures.items in
    record {
      width = r.width;
      wide = out_rooms r.width (length ss - 1) c.args.scratch.now c.args.pivot.now c.take_out.new.pivot ss c.take_out.new.rows c.take_out.ensures.room r.wide;
      held = record {
        columns = r.held.columns;
        ascends = r.held.ascends;
        few = r.held.few;
        among = (
          subst (λ (j : Item). AreAmong r.held.columns j.row.terms) (sym c.take_out.ensures.pivot) (among_at r.held.columns is c.args.at false_item r.held.among (omega (arith, c.requires.within, length-items_in ss))),
          subst (λ (js : List Item). AllItems (λ i. AreAmong r.held.columns i.row.terms) js) (sym o) (all_removed (λ i. AreAmong r.held.columns i.row.terms) is c.args.at r.held.among),
        );
      };
    }

pub returns-clause-items : goal.returns-clause-items
returns-clause-items c =
    let ss = c.args.rows.now in
    let last = length ss - 1 in
    let out = c.take_out.new.rows in
    let new = c.cancel_pivot.new.rows in
    let rest = drop last out in
    let o = items_in-take out last ∙ c.take_out.ensures.items in
    let l : length new ≡ last = c.cancel_pivot.auto.rows ∙ length-take-le last out (omega (arith, c.take_out.auto.rows)) in
    let n : length (new ++ rest) - 1 ≡ last = omega (arith, l, length-append new rest, length-drop last out, c.take_out.auto.rows, c.requires.within) in
    let f : take (length (new ++ rest) - 1) (items_in (new ++ rest)) ≡ items_in new
    = ap (λ m. take m (items_in (new ++ rest))) n ∙ (front_items new rest last (omega (arith, l)) ∙ take_all last (items_in new) (omega (arith, l, length-items_in new))) in
    c.put_first.ensures.items ∙ (ap (λ (is : List Item). item_in c.take_out.new.pivot ∷ is) f ∙ (c.cancel_pivot.ensures.items
    ∙ λ i. taken (c.requires.number i) (c.take_out.ensures.pivot i) (o i) (unit_var (c.take_out.ensures.pivot i).row.terms)))

pub returns-clause-room : goal.returns-clause-room
returns-clause-room c =
    keeps_pivot c.args.scratch.now c.args.pivot.now c.cancel_pivot.new.scratch c.take_out.new.pivot c.put_first.new.pivot c.args.rows.now c.take_out.new.rows c.cancel_pivot.new.rows c.put_first.new.rows (length c.args.rows.now - 1)
    c.take_out.ensures.room c.cancel_pivot.ensures.room c.put_first.ensures.room
