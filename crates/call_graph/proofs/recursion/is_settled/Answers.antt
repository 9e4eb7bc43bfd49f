use Rattle.std.proofs.Common.{sym, ◌∙◌}
use Rattle.std.specs.Cmp.{booleans_Decides}
use Rattle.std.specs.Cmp.Lexicographic.{pointwise_decides}
use Rattle.call_graph.proofs.recursion.is_settled.Goals as goal

pub returns : goal.returns
returns c = λ e. (pointwise_decides (pointwise_decides booleans_Decides) c.args.table.now c.args.next.now).0 (sym c.eq.ensures ∙ e)
