use Rattle.std.proofs.Common.{◌≡◌, ℕ, subst}
use Rattle.affine_systems.specs.declared.items.Item.{Item}
use Rattle.affine_systems.specs.Tidy.{face_opposite}
use Rattle.affine_systems.proofs.ItemSteps.{all_stay-more}
use Rattle.affine_systems.proofs.facing.all_stay.Goals as goal

pub loop-item-preserved : goal.loop-item-preserved
loop-item-preserved c =
    all_stay-more c.args.items.now c.args.items.now c.loop-item.item-index c.item-item.result c.loop-item-test.true
    (subst (λ (i : Item). (n : ℕ) → face_opposite n i c.args.items.now ≡ i) c.item-item.is (c.stays.ensures c.if-not-stays.false)) c.loop-item.invariant
