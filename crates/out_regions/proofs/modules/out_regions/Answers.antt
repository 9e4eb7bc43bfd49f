use Rattle.std.proofs.Common.{◌≡◌}
use Rattle.f77_ast.specs.PlainStmt.{stmt_trees}
use Rattle.out_regions.proofs.ModuleLaws.{module-outs}
use Rattle.out_regions.proofs.modules.out_regions.Goals as goal

pub returns-clause-defined : goal.returns-clause-defined
returns-clause-defined c =
    let v = c.args.view.now in
    let given : c.as_slice.result.now ≡ c.in_ok-out.out = cc c.as_slice.ensures in
    let seen : c.as_slice-2.result.now ≡ c.in_ok-out.out = cc c.as_slice-2.ensures in
    module-outs (stmt_trees v.«module».now.body) v.symbols.now c.in_ok-tracked.tracked _ c.args.own.now.at c.args.regions.now.at c.args.ins.now.at c.args.later.now
    c.in_ok-out.out c.as_slice.result.now c.as_slice-2.result.now c.new-at.result c.put_list.new.at c.in_ok-summary.summary
    c.in_ok-tracked.ensures c.in_ok-out.ensures.defined given c.new-at.ensures c.in_ok-put_list.ensures.added seen c.in_ok-summary.ensures.defined
