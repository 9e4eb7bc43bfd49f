use Rattle.std.proofs.Common.{◌∙◌, ◌∷◌, reverse, true, ap, refl}
use Rattle.affine_systems.specs.Normal.{Kept, Always, Never, TooBig, normal}
use Rattle.affine_systems.proofs.ItemSteps.{normalised_step, reverse_pushed, answers_kept, answers_true, answers_false, answers_too_big}
use Rattle.affine_systems.proofs.tidying.normal_items.Goals as goal

pub loop-item-preserved-in-Continue-branch-2 : goal.loop-item-preserved-in-Continue-branch-2
loop-item-preserved-in-Continue-branch-2 c =
    normalised_step c.args.rational c.loop-item.items.items c.pop.new.self.items c.loop-item.out.items c.push.new.self.items c.args.items.items c.loop-item.lost c.loop-item.lost c.in-Some.item (Kept c.normalise_as.new.row)
    c.in-Some.ensures.items (answers_kept (normal c.args.rational c.in-Some.item.row) c.in-Some.item.row c.normalise_as.new.row c.in-Kept.ensures)
    (reverse_pushed c.loop-item.out.items c.push.new.self.items _ c.in_ok-push-in-Kept.ensures.items) refl c.loop-item.invariant

pub loop-item-preserved-in-True-1 : goal.loop-item-preserved-in-True-1
loop-item-preserved-in-True-1 c =
    normalised_step c.args.rational c.loop-item.items.items c.pop.new.self.items c.loop-item.out.items c.loop-item.out.items c.args.items.items c.loop-item.lost c.loop-item.lost c.in-Some.item Always
    c.in-Some.ensures.items (answers_true (normal c.args.rational c.in-Some.item.row) c.in-Some.item.row c.normalise_as.new.row c.in-True.ensures)
    refl refl c.loop-item.invariant

pub loop-item-preserved-in-False-1 : goal.loop-item-preserved-in-False-1
loop-item-preserved-in-False-1 c =
    normalised_step c.args.rational c.loop-item.items.items c.pop.new.self.items c.loop-item.out.items c.push-in-False.new.self.items c.args.items.items c.loop-item.lost c.loop-item.lost c.in-Some.item Never
    c.in-Some.ensures.items (answers_false (normal c.args.rational c.in-Some.item.row) c.in-Some.item.row c.normalise_as.new.row c.in-False.ensures)
    (reverse_pushed c.loop-item.out.items c.push-in-False.new.self.items c.false_item.result c.in_ok-push-in-False.ensures.items ∙ ap (λ i. i ∷ reverse c.loop-item.out.items) c.false_item.ensures) refl c.loop-item.invariant

pub loop-item-preserved : goal.loop-item-preserved
loop-item-preserved c =
    normalised_step c.args.rational c.loop-item.items.items c.pop.new.self.items c.loop-item.out.items c.loop-item.out.items c.args.items.items c.loop-item.lost true c.in-Some.item TooBig
    c.in-Some.ensures.items (answers_too_big (normal c.args.rational c.in-Some.item.row) c.in-Some.item.row c.normalise_as.new.row c.in-TooBig.ensures)
    refl refl c.loop-item.invariant
