use Rattle.std.proofs.Common.{◌∙◌, ◌+◌, ◌++◌, ◌∷◌, [], ap, take, arith}
use Rattle.affine_systems.specs.declared.items.Item.{Item}
use Rattle.affine_systems.specs.Eliminate.{with_uppers, pair}
use Rattle.elimination.proofs.PairLaws.{stands_same, uppers_none, uppers_grow}
use Rattle.elimination.proofs.elimination.add_uppers.Goals as goal

pub loop-i-init : goal.loop-i-init
loop-i-init c = (
  λ is h. stands_same c.args.rational is (is ++ with_uppers c.args.made c.args.v c.args.low.now (take 0 c.args.ups.now)) c.args.form.now (uppers_none c.args.made c.args.v c.args.low.now c.args.ups.now is) h,
  c.requires.rises,
)

pub add-requires-clause-at_most : goal.add-requires-clause-at_most
add-requires-clause-at_most c = ap (λ (i : Item). i.row.equal) c.in_ok-item.ensures

pub loop-i-preserved : goal.loop-i-preserved
loop-i-preserved c = (
  λ is h. stands_same c.args.rational ((is ++ with_uppers c.args.made c.args.v c.args.low.now (take c.loop-i.i c.args.ups.now)) ++ c.in_ok-item.item ∷ []) (is ++ with_uppers c.args.made c.args.v c.args.low.now (take (c.loop-i.i + 1) c.args.ups.now)) c.add.new.form
      (uppers_grow c.args.made c.args.v c.args.low.now c.args.ups.now is c.loop-i.i c.index-ups-i.result c.in_ok-item.item (omega (arith, c.loop-i-test.true)) (c.in_ok-item.ensures ∙ ap (pair (c.args.made + c.loop-i.i) c.args.v c.args.low.now) c.index-ups-i.is))
      (c.in_ok-add.ensures.stands (is ++ with_uppers c.args.made c.args.v c.args.low.now (take c.loop-i.i c.args.ups.now)) (c.loop-i.invariant.0 is h)),
  c.in_ok-add.ensures.rises,
)
