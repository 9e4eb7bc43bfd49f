use Rattle.std.proofs.Common.{◌∙◌, ap, take, arith, List}
use Rattle.affine_systems.specs.declared.row.Var.{Var}
use Rattle.hull_projection.specs.Refute.{eliminate_all}
use Rattle.hull_projection.proofs.LoneLaws.{all_more, slice_vars, slice_within}
use Rattle.hull_projection.proofs.eliminations.eliminate_all.Goals as goal

pub loop-at-preserved : goal.loop-at-preserved
loop-at-preserved c =
    let i = c.loop-at.invariant in
    let n = c.in_ok-next.ensures in
    let vs = c.args.vars.now in (
      all_more c.args.rational c.loop-at.left c.in_ok-next.next (eliminate_all c.args.rational c.args.left vs) vs c.loop-at.at c.in_ok-next.done
          (n.defined ∙ ap (λ (ws : List Var). eliminate_all c.args.rational c.loop-at.left (take c.in_ok-next.done ws)) (slice_vars vs c.loop-at.at)) i.0,
      n.fits,
      omega (arith, n.pairs, i.2, n.within.0),
      slice_within vs c.loop-at.at c.in_ok-next.done i.3 n.within.1,
    )
