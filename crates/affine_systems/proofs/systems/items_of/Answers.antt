use Rattle.std.proofs.Common.{◌∙◌, ◌++◌, ◌∷◌, [], length, ap}
use Rattle.affine_systems.specs.declared.items.Originals.{Originals}
use Rattle.affine_systems.specs.Items.{item}
use Rattle.affine_systems.proofs.SystemSteps.{items_from-more}
use Rattle.affine_systems.proofs.systems.items_of.Goals as goal

pub loop-row-preserved : goal.loop-row-preserved
loop-row-preserved c =
    items_from-more c.loop-row.rows.items c.pop.new.self.items c.args.rows.items c.loop-row.out.items c.push.new.self.items c.in-Some.row (length c.as_slice.result.now)
    c.in-Some.ensures.items (ap length c.as_slice.ensures.value) (c.in_ok-push.ensures.items ∙ ap (λ (o : Originals). c.loop-row.out.items ++ item c.in-Some.row o (length c.as_slice.result.now) ∷ []) c.none.ensures) c.loop-row.invariant
