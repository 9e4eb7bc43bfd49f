use Rattle.std.proofs.Common.{◌∙◌, ap, take, List}
use Rattle.affine_systems.specs.declared.row.Var.{Var}
use Rattle.hull_projection.specs.Project.{eliminate_each}
use Rattle.hull_projection.proofs.LoneLaws.{each_more, slice_vars, slice_within}
use Rattle.hull_projection.proofs.projection.eliminate_each.Goals as goal

pub loop-at-preserved : goal.loop-at-preserved
loop-at-preserved c =
    let i = c.loop-at.invariant in
    let n = c.in_ok-next.ensures in
    let vs = c.args.vars.now in (
      each_more c.loop-at.s c.in_ok-next.next (eliminate_each c.args.s vs) vs c.loop-at.at c.in_ok-next.done
          (n.defined ∙ ap (λ (ws : List Var). eliminate_each c.loop-at.s (take c.in_ok-next.done ws)) (slice_vars vs c.loop-at.at)) i.0,
      n.fits,
      slice_within vs c.loop-at.at c.in_ok-next.done i.2 n.within.1,
    )
