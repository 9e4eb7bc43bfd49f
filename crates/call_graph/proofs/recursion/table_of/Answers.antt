use Rattle.std.proofs.Common.{◌-◌, length, sym, ◌∙◌}
use Rattle.call_graph.proofs.TableLaws.{settled}
use Rattle.call_graph.proofs.recursion.table_of.Goals as goal

pub returns-then-is_settled : goal.returns-then-is_settled
returns-then-is_settled c =
    let css = c.args.callees.now in
    let e = c.is_settled.ensures c.if-is_settled.true in
    sym e ∙ (sym (settled (length css - c.loop-round._round) css c.loop-round.table (sym (e ∙ c.in_ok-next.ensures))) ∙ c.loop-round.invariant)
