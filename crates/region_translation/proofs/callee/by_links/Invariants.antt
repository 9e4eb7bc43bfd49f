use Rattle.std.proofs.Common.{◌≡◌, ◌++◌, length, map}
use Rattle.region_sets.specs.Sets.{SetFits}
use Rattle.call_equations.specs.Sides.{sides_tree}
use Rattle.region_translation.specs.Callee.{by_link}
use Rattle.region_translation.specs.Links.{AllLinksFit}
use Rattle.region_translation.proofs.callee.by_links.Given as goal

abbrev pub invariant-loop-rest : goal.invariant-loop-rest
invariant-loop-rest l = record {
  same : l.all ++ map (by_link (sides_tree l.sides) l.r) l.rest ≡ map (by_link (sides_tree l.sides) l.r) l.links;
  fits : SetFits l.all;
  each : AllLinksFit l.rest;
}

abbrev pub decreases-loop-rest : goal.decreases-loop-rest
decreases-loop-rest l = length l.rest
