use Rattle.std.proofs.Common.{◌≡◌, List, map, ap}
use Rattle.std.proofs.lemmas.Result.{IfOk-weaker}
use Rattle.f77_ast.specs.Symbols.{symbol_tree}
use Rattle.preconditions.specs.call_translation.Sites.{site_tree, sites_in}
use Rattle.in_out_regions.specs.region_sets.declared.region.Region.{Region}
use Rattle.in_out_regions.specs.region_translation.Units.{size_in}
use Rattle.module_phases.specs.OutPhases.{used_at}
use Rattle.module_phases.proofs.HandingLaws.{handed-same}
use Rattle.module_phases.proofs.handing.used_at.Goals as goal

pub returns-clause-defined : goal.returns-clause-defined
returns-clause-defined c =
    let g = c.args.graph.now in
    IfOk-weaker c.all_handed.result (λ (rs : List Region). rs ≡ _) (λ (rs : List Region). rs ≡ used_at g c.args.name.now (map symbol_tree c.args.symbols.now) (sites_in c.args.calls.now))
    (λ rs e. handed-same (size_in g.blocks) g.untracked c.args.symbols.now c.in_ok-flags.flags c.args.name.now _ (sites_in c.args.calls.now) rs c.in_ok-flags.ensures (ap (map site_tree) c.as_slice.ensures) e)
    c.all_handed.ensures.defined
