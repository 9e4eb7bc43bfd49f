use Rattle.std.proofs.Common.{rules}
use Rattle.loop_marker.specs.region_sets.Sets.{SetFits}
use Rattle.result_making.proofs.Fitting.{all_sets_fit}
use Rattle.result_making.proofs.below.add_regions.Goals as goal

pub returns-clause-fits : goal.returns-clause-fits
returns-clause-fits c =
    let fits : SetFits c.in-Some-kept.found.now.summary = search rules in
    all_sets_fit c.push.new.self.items c.args.below.now.items _ c.in_ok-push.ensures.items c.requires.below fits
