use Rattle.std.proofs.Common.{◌∙◌, List, reverse, ap}
use Rattle.affine_systems.specs.declared.row.Row.{Row}
use Rattle.hull_projection.specs.Clean.{unless_spare}
use Rattle.hull_projection.proofs.CleanSteps.{cleaned-begin, cleaned-row, cleaned-more}
use Rattle.hull_projection.proofs.cleaning.clean_rows.Goals as goal

pub loop-row-init : goal.loop-row-init
loop-row-init c = cleaned-begin c.into_vec-front.result.items c.new-behind.result.items c.args.rows c.into_vec-front.ensures c.new-behind.ensures.items c.requires

pub push_unless_spare-requires-clause-row : goal.push_unless_spare-requires-clause-row
push_unless_spare-requires-clause-row c =
    (cleaned-row c.loop-row.front.items c.pop.new.self.items c.loop-row.behind.items c.args.rows c.in-Some.row c.in-Some.ensures.items c.loop-row.invariant).1

pub loop-row-preserved : goal.loop-row-preserved
loop-row-preserved c =
    cleaned-more c.loop-row.front.items c.pop.new.self.items c.loop-row.behind.items c.push_unless_spare.new.behind.items c.args.rows c.in-Some.row c.in-Some.ensures.items
    (c.in_ok-push_unless_spare.ensures.defined ∙ ap (λ (rs : List Row). unless_spare rs c.in-Some.row (reverse c.loop-row.behind.items)) c.as_slice.ensures.value)
    c.in_ok-push_unless_spare.ensures.small c.loop-row.invariant
