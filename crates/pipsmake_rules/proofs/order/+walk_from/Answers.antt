use Rattle.std.proofs.Common.{◌∙◌, sym, arith}
use Rattle.pipsmake_rules.proofs.StepLaws.{walk_end}
use Rattle.pipsmake_rules.proofs.order.+walk_from.Goals as goal

pub returns : goal.returns
returns t c =
    c.in_ok-push_copy.ensures
    ∙ walk_end c.args.depth c.args.names.now c.args.graph.now c.args.listed.now c.loop-rest.listed c.loop-rest.rest.now c.args.key.now c.if-depth-eq0.false (sym c.in_ok-there.ensures ∙ c.if-there.false) (omega arith) c.loop-rest.invariant
