use Rattle.std.proofs.Common.{◌≡◌, ◌∙◌, ◌-◌, List, length, ap₂, sym, subst, arith}
use Rattle.std.proofs.lemmas.List.{take_all, length-take-le}
use Rattle.affine_systems.specs.declared.items.Item.{Item}
use Rattle.affine_systems.specs.Given.{IsSmallRow, ItemsSmall}
use Rattle.affine_systems.specs.Items.{AllItems, false_item}
use Rattle.affine_systems.specs.Eliminate.{all_cancelled}
use Rattle.affine_systems.proofs.PivotSteps.{small_removed}
use Rattle.affine_systems.proofs.ItemSteps.{item_at as all_at}
use Rattle.work_area.specs.Slots.{items_in}
use Rattle.work_area.specs.Columns.{AreAmong}
use Rattle.work_area.proofs.Swaps.{items_in-take, length-items_in, front_items, out_rooms, keeps_cancelled}
use Rattle.work_area.proofs.ColumnLaws.{among_at}
use Rattle.work_area.proofs.AllLaws.{all_removed}
use Rattle.work_area.proofs.substitution.cancel_by.Goals as goal

pub cancel_all-requires-clause-each : goal.cancel_all-requires-clause-each
cancel_all-requires-clause-each c =
    let is = items_in c.args.rows.now in
    subst ItemsSmall (sym (items_in-take c.take_out.new.rows (length c.args.rows.now - 1) ∙ c.take_out.ensures.items)) (small_removed is c.args.at c.requires.each)

pub cancel_all-requires-clause-by : goal.cancel_all-requires-clause-by
cancel_all-requires-clause-by c =
    let is = items_in c.args.rows.now in
    subst (λ (j : Item). IsSmallRow j.row) (sym c.take_out.ensures.pivot) (all_at (λ i. IsSmallRow i.row) is c.args.at false_item c.requires.each (omega (arith, c.requires.within, length-items_in c.args.rows.now)))

pub cancel_all-requires-clause-roomy : goal.cancel_all-requires-clause-roomy
cancel_all-requires-clause-roomy c =
    let ss = c.args.rows.now in
    let is = items_in ss in
    let r = c.requires.roomy in
    let o = items_in-take c.take_out.new.rows (length ss - 1) ∙ c.take_out.ensures.items in
    record {
      width = r.width;
      wide = out_rooms r.width (length ss - 1) c.args.scratch.now c.args.pivot.now c.take_out.new.pivot ss c.take_out.new.rows c.take_out.ensures.room r.wide;
      held = record {
        columns = r.held.columns;
        ascends = r.held.ascends;
        few = r.held.few;
        among = (
          subst (λ (j : Item). AreAmong r.held.columns j.row.terms) (sym c.take_out.ensures.pivot) (among_at r.held.columns is c.args.at false_item r.held.among (omega (arith, c.requires.within, length-items_in ss))),
          subst (λ (js : List Item). AllItems (λ i. AreAmong r.held.columns i.row.terms) js) (sym o) (all_removed (λ i. AreAmong r.held.columns i.row.terms) is c.args.at r.held.among),
        );
      };
    }

pub returns-clause-items : goal.returns-clause-items
returns-clause-items c =
    let ss = c.args.rows.now in
    let last = length ss - 1 in
    let out = c.take_out.new.rows in
    let new = c.cancel_all.new.rows in
    let o = items_in-take out last ∙ c.take_out.ensures.items in
    let l : length new ≡ last = c.cancel_all.auto.rows ∙ length-take-le last out (omega (arith, c.take_out.auto.rows)) in
    front_items new _ last (omega (arith, l)) ∙ (take_all last (items_in new) (omega (arith, l, length-items_in new))
    ∙ (c.cancel_all.ensures.items ∙ ap₂ (λ i is. all_cancelled c.args.made i c.args.v is) c.take_out.ensures.pivot o))

pub returns-clause-room : goal.returns-clause-room
returns-clause-room c =
    keeps_cancelled c.args.scratch.now c.args.pivot.now c.cancel_all.new.scratch c.take_out.new.pivot c.args.rows.now c.take_out.new.rows c.cancel_all.new.rows (length c.args.rows.now - 1)
    c.take_out.ensures.room c.cancel_all.ensures.room
