use Rattle.std.proofs.Common.{◌∙◌, ◌+◌, ◌*◌, ◌^◌, false, pos, drop, get_or, sym, ap, subst, arith, refl}
use Rattle.std.proofs.lemmas.List.{drop_all, length-map}
use Rattle.affine_systems.specs.declared.row.Var.TheVariants.{Cell}
use Rattle.affine_systems.specs.declared.row.Term.{Term}
use Rattle.affine_systems.specs.Terms.{term}
use Rattle.affine_systems.specs.Eliminate.{eliminate_item}
use Rattle.affine_systems.proofs.FitLaws.{eliminated_fits}
use Rattle.work_area.specs.Columns.{InColumns}
use Rattle.hull_projection.specs.Refute.{left, eliminate_all}
use Rattle.hull_projection.proofs.FitLaws.{few_fits}
use Rattle.work_area.specs.Tables.{items_of, MadeBelow}
use Rattle.work_area.specs.Refuting.{vars_of}
use Rattle.work_area.proofs.MadeLaws.{below_more}
use Rattle.work_area.proofs.TableSteps.{keeps_both, keeps_same, eliminated_columns}
use Rattle.work_area.proofs.RefuteBounds.{eliminated_below, few_below}
use Rattle.work_area.proofs.RefuteSteps.{few_columns, all_step, var_next}
use Rattle.work_area.proofs.refuting.eliminate_each.Goals as goal

pub loop-i-init : goal.loop-i-init
loop-i-init c = record {
  left = refl;
  sound = c.requires.sound;
  fits = c.requires.fits;
  below = below_more 512 (512 + 2 ^ 56 * 0) (items_of c.args.tables.now) (omega arith) c.requires.below;
  few = omega arith;
  ready = keeps_same c.args.tables.now;
}

pub eliminate_more-pairs-requires-clause-below : goal.eliminate_more-pairs-requires-clause-below
eliminate_more-pairs-requires-clause-below c = below_more (512 + 2 ^ 56 * c.loop-i.i) (2 ^ 126) (items_of c.loop-i.tables) (omega (arith, c.loop-i-test.true)) c.loop-i.invariant.below

pub loop-i-preserved : goal.loop-i-preserved
loop-i-preserved c =
    let h = c.loop-i.invariant in
    let w = h.sound.width in
    let i = c.loop-i.i in
    let is = items_of c.loop-i.tables in
    let new = items_of c.eliminate_more-pairs.new.tables in
    let n = c.eliminate_more-pairs.result in
    let d = term (Cell 0) (pos 0) in
    let v = (get_or c.args.sum.now i d).var in
    let e = eliminate_item false v is in
    let m = 512 + 2 ^ 56 * i in
    let r = c.eliminate_more-pairs.ensures.left in
    record {
      left = all_step is new _ c.loop-i.pairs n v (drop (i + 1) (vars_of c.args.sum.now)) (drop i (vars_of c.args.sum.now)) (var_next c.args.sum.now i d c.loop-i-test.true) r h.left;
      sound = record {
        width = w;
        ready = c.eliminate_more-pairs.ensures.ready.kept w h.sound.ready;
        held = subst (InColumns w) (sym r.items) (few_columns w n e.items (eliminated_columns w v is h.fits h.sound.held));
      };
      fits = few_fits false n e.items new r.items (eliminated_fits false v is h.fits);
      below = subst (MadeBelow (512 + 2 ^ 56 * (i + 1))) (sym r.items)
          (few_below n (512 + 2 ^ 56 * (i + 1)) e.items (below_more (m + 2 ^ 56) (512 + 2 ^ 56 * (i + 1)) e.items (omega arith) (eliminated_below v m is (omega arith) h.fits.0 h.below)));
      few = omega (arith, h.few, c.eliminate_more-pairs.ensures.few);
      ready = keeps_both c.args.tables.now c.loop-i.tables c.eliminate_more-pairs.new.tables h.ready c.eliminate_more-pairs.ensures.ready;
    }

pub returns-clause-items : goal.returns-clause-items
returns-clause-items c =
    let ts = c.args.sum.now in
    ap (λ vs. (eliminate_all false (left (items_of c.loop-i.tables) false c.loop-i.pairs) vs).items) (sym (drop_all c.loop-i.i (vars_of ts) (omega (arith, c.loop-i-test.false, length-map ts (λ (t : Term). t.var))))) ∙ c.loop-i.invariant.left
