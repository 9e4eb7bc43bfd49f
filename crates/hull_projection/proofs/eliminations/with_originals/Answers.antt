use Rattle.std.proofs.Common.{◌∙◌, ◌++◌, ◌∷◌, [], length, ap, arith}
use Rattle.affine_systems.specs.declared.items.Item.{Item}
use Rattle.hull_projection.proofs.IterationSteps.{originals-more}
use Rattle.hull_projection.proofs.eliminations.with_originals.Goals as goal

pub loop-item-preserved : goal.loop-item-preserved
loop-item-preserved c =
    let k = c.in-Some.ensures.cases in
    let m = c.loop-item.invariant.1 in (
      originals-more c.loop-item.items.items c.pop.new.self.items c.args.items c.loop-item.out.items c.push.new.self.items c.in-Some.item (length c.as_slice-number.result.now) c.in-Some.ensures.items (ap length c.as_slice-number.ensures.value)
          (c.in_ok-push.ensures.items ∙ ap (λ (i : Item). c.loop-item.out.items ++ i ∷ []) c.as_original.ensures) c.loop-item.invariant.0,
      omega (arith, k, m),
    )
