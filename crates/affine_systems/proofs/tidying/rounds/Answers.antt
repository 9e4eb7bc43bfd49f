use Rattle.std.proofs.Common.{◌≡◌, ◌∙◌, ◌||◌, ◌-◌, ap, refl, sym, subst, arith, Some, None, List}
use Rattle.affine_systems.specs.declared.items.Item.{Item}
use Rattle.affine_systems.specs.Given.{ItemsSmall}
use Rattle.affine_systems.specs.Items.{tidied, cut_of}
use Rattle.affine_systems.specs.Tidy.{next_pivot}
use Rattle.affine_systems.proofs.TurnSteps.{turns_start, turns_more, turns_stop, turns_end, small_round}
use Rattle.affine_systems.proofs.tidying.rounds.Goals.{then-lost, else-lost, then-lost-2, else-lost-2}
use Rattle.affine_systems.proofs.tidying.rounds.Goals as goal

pub loop-turns-init : goal.loop-turns-init
loop-turns-init c = turns_start c.args.rational c.args.items.items c.args.turns c.requires

pub find_pivot-requires : goal.find_pivot-requires
find_pivot-requires c =
    subst ItemsSmall (sym (c.as_slice.ensures.value ∙ c.in_ok-some.ensures.items)) (small_round c.args.rational c.loop-turns.items.items c.loop-turns.invariant.given)

pub take_pivot-requires-clause-each : goal.take_pivot-requires-clause-each
take_pivot-requires-clause-each c = subst ItemsSmall (sym c.in_ok-some.ensures.items) (small_round c.args.rational c.loop-turns.items.items c.loop-turns.invariant.given)

pub returns-in-None : goal.returns-in-None
returns-in-None c =
    let a : c.if-lost.lost ≡ (c.loop-turns.lost || c.in_ok-some.less)
    = elim c.if-lost.branch [
      | then-lost w ↦ w.lost-is ∙ (w.if-lost.true ∙ sym (ap (λ b. b || c.in_ok-some.less) w.if-lost.true))
      | else-lost w ↦ w.lost-is ∙ sym (ap (λ b. b || c.in_ok-some.less) w.if-lost.false)
    ] in
    let e : next_pivot c.in_ok-some.some.items ≡ None = ap next_pivot (sym c.as_slice.ensures.value) ∙ c.in-None.ensures in
    ap (λ (js : List Item). tidied js c.if-lost.lost) c.from_vec.ensures
    ∙ turns_stop c.args.rational c.loop-turns.items.items c.loop-turns.lost c.loop-turns.turns _ c.loop-turns.invariant c.in_ok-some.some.items c.in_ok-some.less c.in_ok-some.ensures.items c.in_ok-some.ensures.lost
    c.loop-turns-test.true e c.if-lost.lost a

pub loop-turns-preserved : goal.loop-turns-preserved
loop-turns-preserved c =
    let a : c.if-lost.lost ≡ (c.loop-turns.lost || c.in_ok-some.less)
    = elim c.if-lost.branch [
      | then-lost w ↦ w.lost-is ∙ (w.if-lost.true ∙ sym (ap (λ b. b || c.in_ok-some.less) w.if-lost.true))
      | else-lost w ↦ w.lost-is ∙ sym (ap (λ b. b || c.in_ok-some.less) w.if-lost.false)
    ] in
    let e : next_pivot c.in_ok-some.some.items ≡ Some (cut_of c.in_ok-some.some.items c.in-Some.at)
    = ap next_pivot (sym c.as_slice.ensures.value) ∙ (c.in-Some.ensures.1 ∙ ap (λ (js : List Item). Some (cut_of js c.in-Some.at)) c.as_slice.ensures.value) in
    turns_more c.args.rational c.loop-turns.items.items c.loop-turns.lost c.loop-turns.turns _ c.loop-turns.invariant c.in_ok-some.some.items c.in_ok-some.less c.in_ok-some.ensures.items c.in_ok-some.ensures.lost
    c.loop-turns-test.true c.in-Some.at c.in_ok-items-in-Some.items.items c.if-lost.lost (c.loop-turns.turns - 1) refl e c.in_ok-items-in-Some.ensures a

pub returns : goal.returns
returns c =
    let a : c.if-lost-2.result ≡ (c.loop-turns.lost || c.in_ok-some-2.less)
    = elim c.if-lost-2.branch [
      | then-lost-2 w ↦ w.result-is ∙ (w.if-lost-2.true ∙ sym (ap (λ b. b || c.in_ok-some-2.less) w.if-lost-2.true))
      | else-lost-2 w ↦ w.result-is ∙ sym (ap (λ b. b || c.in_ok-some-2.less) w.if-lost-2.false)
    ] in
    let z : c.loop-turns.turns ≡ 0 = omega (arith, c.loop-turns-test.false) in
    ap (λ (js : List Item). tidied js c.if-lost-2.result) c.from_vec-2.ensures
    ∙ turns_end c.args.rational c.loop-turns.items.items c.loop-turns.lost c.loop-turns.turns _ c.loop-turns.invariant c.in_ok-some-2.some.items c.in_ok-some-2.less c.in_ok-some-2.ensures.items c.in_ok-some-2.ensures.lost
    z c.if-lost-2.result a
