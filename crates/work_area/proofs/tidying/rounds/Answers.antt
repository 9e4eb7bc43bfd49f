use Rattle.std.proofs.Common.{◌≡◌, ◌∙◌, ◌+◌, ◌-◌, ◌*◌, ◌≤◌, ◌^◌, false, List, length, ap, refl, sym, subst, arith, Some}
use Rattle.affine_systems.specs.declared.items.Item.{Item}
use Rattle.affine_systems.specs.Given.{ItemsSmall}
use Rattle.affine_systems.specs.Items.{cut_of}
use Rattle.affine_systems.specs.Tidy.{round, next_pivot, pivoted}
use Rattle.affine_systems.proofs.TurnSteps.{turns_start, turns_more, turns_stop, turns_end}
use Rattle.work_area.specs.Columns.{InColumns}
use Rattle.work_area.specs.Tables.{items_of, MadeBelow}
use Rattle.work_area.proofs.MadeLaws.{round_below, pivoted_below, below_more}
use Rattle.work_area.proofs.TableSteps.{ready_zero, keeps_both, keeps_same, round_narrow, next_narrow, length-items_of}
use Rattle.work_area.proofs.tidying.rounds.Goals as goal

pub loop-turns-init : goal.loop-turns-init
loop-turns-init c = record {
  left = turns_start false (items_of c.args.tables.now) c.args.turns c.requires.given;
  sound = c.requires.sound;
  fewer = omega arith;
  below = below_more (3 * 2 ^ 125) (3 * 2 ^ 125 + 1024 * (c.args.turns - c.args.turns)) (items_of c.args.tables.now) (omega arith) c.requires.below;
  ready = keeps_same c.args.tables.now;
}

pub round-less-requires-clause-below : goal.round-less-requires-clause-below
round-less-requires-clause-below c =
    below_more (3 * 2 ^ 125 + 1024 * (c.args.turns - c.loop-turns.turns)) (2 ^ 127) (items_of c.loop-turns.tables) (omega (arith, c.requires.turns)) c.loop-turns.invariant.below

pub round-less-requires-2-clause-below : goal.round-less-requires-2-clause-below
round-less-requires-2-clause-below c =
    below_more (3 * 2 ^ 125 + 1024 * (c.args.turns - c.loop-turns.turns)) (2 ^ 127) (items_of c.loop-turns.tables) (omega (arith, c.requires.turns)) c.loop-turns.invariant.below

pub next_pivot-requires-clause-small : goal.next_pivot-requires-clause-small
next_pivot-requires-clause-small c =
    let i = c.loop-turns.invariant in
    subst ItemsSmall (sym c.round-less.ensures.items) (round_narrow i.sound.width (items_of c.loop-turns.tables) i.left.given i.sound.held).small

pub next_pivot-requires-clause-places : goal.next_pivot-requires-clause-places
next_pivot-requires-clause-places c =
    let i = c.loop-turns.invariant in
    ready_zero i.sound.width c.round-less.new.tables (c.round-less.ensures.ready.kept i.sound.width i.sound.ready)

pub take_pivot-requires-clause-sound : goal.take_pivot-requires-clause-sound
take_pivot-requires-clause-sound c =
    let i = c.loop-turns.invariant in
    let w = i.sound.width in
    record {
      width = w;
      ready = c.round-less.ensures.ready.kept w i.sound.ready;
      held = subst (InColumns w) (sym c.round-less.ensures.items) (round_narrow w (items_of c.loop-turns.tables) i.left.given i.sound.held).held;
    }

pub take_pivot-requires-clause-small : goal.take_pivot-requires-clause-small
take_pivot-requires-clause-small c =
    let i = c.loop-turns.invariant in
    subst ItemsSmall (sym c.round-less.ensures.items) (round_narrow i.sound.width (items_of c.loop-turns.tables) i.left.given i.sound.held).small

pub take_pivot-requires-clause-below : goal.take_pivot-requires-clause-below
take_pivot-requires-clause-below c =
    let m = 3 * 2 ^ 125 + 1024 * (c.args.turns - c.loop-turns.turns) in
    let is = items_of c.loop-turns.tables in
    subst (MadeBelow (2 ^ 127)) (sym c.round-less.ensures.items) (below_more (m + 512) (2 ^ 127) (round false is).items (omega (arith, c.requires.turns)) (round_below false m is (omega arith) c.loop-turns.invariant.below))

pub loop-turns-preserved : goal.loop-turns-preserved
loop-turns-preserved c =
    let i = c.loop-turns.invariant in
    let w = i.sound.width in
    let is = items_of c.loop-turns.tables in
    let some = items_of c.round-less.new.tables in
    let r = c.round-less.ensures.items in
    let at = c.in-Some.at in
    let m = 3 * 2 ^ 125 + 1024 * (c.args.turns - c.loop-turns.turns) in
    let e : next_pivot some ≡ Some (cut_of some at) = c.in-Some.ensures.1 in
    let f : next_pivot (round false is).items ≡ Some (cut_of (round false is).items at) = subst (λ (js : List Item). next_pivot js ≡ Some (cut_of js at)) r e in
    let ready = c.round-less.ensures.ready.kept w i.sound.ready in
    let l : length some ≤ 512 = omega (arith, length-items_of w c.round-less.new.tables ready, ready.within) in
    let b : MadeBelow (m + 512) some = subst (MadeBelow (m + 512)) (sym r) (round_below false m is (omega arith) i.below) in
    let t = c.take_pivot.ensures.items in
    record {
      left = turns_more false is c.loop-turns.lost c.loop-turns.turns _ i.left some c.round-less.result r c.round-less.ensures.lost c.loop-turns-test.true at (items_of c.take_pivot.new.tables) c.either-lost.result (c.loop-turns.turns - 1) refl e t c.either-lost.ensures;
      sound = record {
        width = w;
        ready = c.take_pivot.ensures.ready.kept w ready;
        held = subst (InColumns w) (sym (t ∙ ap (λ js. pivoted js (cut_of js at)) r)) (next_narrow w is (cut_of (round false is).items at) i.left.given i.sound.held f);
      };
      fewer = omega (arith, i.fewer);
      below = below_more (m + 512 + 512) (3 * 2 ^ 125 + 1024 * (c.args.turns - (c.loop-turns.turns - 1))) (items_of c.take_pivot.new.tables) (omega (arith, i.fewer, c.loop-turns-test.true))
          (subst (MadeBelow (m + 512 + 512)) (sym t) (pivoted_below (m + 512) some at c.in-Some.ensures.0 l b));
      ready = keeps_both c.args.tables.now c.loop-turns.tables c.take_pivot.new.tables i.ready (keeps_both c.loop-turns.tables c.round-less.new.tables c.take_pivot.new.tables c.round-less.ensures.ready c.take_pivot.ensures.ready);
    }

pub returns-in-None-clause-defined : goal.returns-in-None-clause-defined
returns-in-None-clause-defined c =
    turns_stop false (items_of c.loop-turns.tables) c.loop-turns.lost c.loop-turns.turns _ c.loop-turns.invariant.left (items_of c.round-less.new.tables) c.round-less.result c.round-less.ensures.items c.round-less.ensures.lost
    c.loop-turns-test.true c.in-None.ensures c.either-lost.result c.either-lost.ensures

pub returns-in-None-clause-ready : goal.returns-in-None-clause-ready
returns-in-None-clause-ready c = keeps_both c.args.tables.now c.loop-turns.tables c.round-less.new.tables c.loop-turns.invariant.ready c.round-less.ensures.ready

pub returns-clause-defined : goal.returns-clause-defined
returns-clause-defined c =
    let z : c.loop-turns.turns ≡ 0 = omega (arith, c.loop-turns-test.false) in
    turns_end false (items_of c.loop-turns.tables) c.loop-turns.lost c.loop-turns.turns _ c.loop-turns.invariant.left (items_of c.round-less-2.new.tables) c.round-less-2.result c.round-less-2.ensures.items c.round-less-2.ensures.lost
    z c.either.result c.either.ensures

pub returns-clause-ready : goal.returns-clause-ready
returns-clause-ready c = keeps_both c.args.tables.now c.loop-turns.tables c.round-less-2.new.tables c.loop-turns.invariant.ready c.round-less-2.ensures.ready
