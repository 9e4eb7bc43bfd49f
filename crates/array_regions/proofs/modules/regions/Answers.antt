use Rattle.std.proofs.Common.{◌≡◌, map}
use Rattle.f77_ast.specs.PlainDecl.{module_tree}
use Rattle.f77_ast.specs.PlainStmt.{stmt_trees}
use Rattle.f77_ast.specs.Symbols.{symbol_tree}
use Rattle.f77_ast.specs.Summaries.{summary_in}
use Rattle.tracked_cells.specs.Tracked.{tracked_of}
use Rattle.array_regions.proofs.ModuleLaws.{module-regions}
use Rattle.array_regions.proofs.modules.regions.Goals as goal

pub returns-clause-defined : goal.returns-clause-defined
returns-clause-defined c =
    let v = c.args.view.now in
    let u = v.graph.now.untracked in
    let given : c.as_slice.result.now ≡ c.in_ok-body.body = cc (c.as_slice.ensures, c.body.view_is) in
    module-regions (stmt_trees v.module.now.body) v.symbols.now c.in_ok-tracked.tracked (tracked_of (module_tree v.module.now) (map symbol_tree v.symbols.now) u) c.in_ok-changed.changed u c.args.own.now.at (summary_in c.args.callees.now)
    c.new-at.result c.list_set.new.at c.in_ok-body.body c.as_slice.result.now c.in_ok-summary.summary
    c.in_ok-tracked.ensures c.in_ok-changed.ensures c.new-at.ensures c.in_ok-body.ensures.added c.in_ok-body.ensures.defined given c.in_ok-summary.ensures.defined
