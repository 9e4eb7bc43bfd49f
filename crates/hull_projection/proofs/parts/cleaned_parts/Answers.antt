use Rattle.std.proofs.Common.{map}
use Rattle.hull_projection.specs.Clean.{clean}
use Rattle.hull_projection.proofs.PartSteps.{all_fit_push, cleaned-more}
use Rattle.hull_projection.proofs.parts.cleaned_parts.Goals as goal

pub loop-sys-preserved : goal.loop-sys-preserved
loop-sys-preserved c =
    let out = c.loop-sys.out.items in
    let new = c.push.new.self.items in
    let one = c.in_ok-clean.field-0 in (
      cleaned-more out new (map clean c.args.parts.now) c.args.parts.now c.loop-sys.sys-index c.sys-item.result one c.loop-sys-test.true c.sys-item.is c.in_ok-clean.ensures.defined c.in_ok-push.ensures.items c.loop-sys.invariant.0,
      all_fit_push out new one c.loop-sys.invariant.1 c.in_ok-clean.ensures.fits c.in_ok-push.ensures.items,
    )
