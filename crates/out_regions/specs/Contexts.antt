-- What the code knows around a statement, as plain data, and what calls ask of it.
use Rattle.in_out_regions.specs.call_translation.Scopes.{scope_tree}
use Rattle.in_out_regions.specs.transformers.Given.{ResultsFit}
use Rattle.in_out_regions.specs.transformers.Lists.{transformer_at}
use Rattle.in_out_regions.specs.region_sets.Lists.{SetsFit}
use Rattle.in_out_regions.specs.region_sets.Sets.{SetFits}
use Rattle.in_out_regions.specs.region_sets.Settled.{AllFixed}
use Rattle.out_regions.specs.declared.context.OutContext.{OutContext}
use Rattle.out_regions.specs.declared.rest.Rest.{Rest}
use Rattle.out_regions.specs.Known.{KnownTree}

abbrev pub known_in : OutContext → KnownTree
known_in k = record {
  scope = scope_tree k.scope.now.symbols.now k.scope.now.tracked.now;
  does = transformer_at k.own.now.at;
  accesses = k.regions.now;
  ins = k.ins.now;
}

pub record KnownFits (k : OutContext) : Type 0 where
  pub own : ResultsFit k.own.now.at
  pub regions : SetsFit k.regions.now
  pub ins : SetsFit k.ins.now

-- its sets are those that statements hand on
abbrev pub RestFits : Rest → Type 0
RestFits r = SetFits r.ins × (SetFits r.writes × (AllFixed r.ins × AllFixed r.writes))
