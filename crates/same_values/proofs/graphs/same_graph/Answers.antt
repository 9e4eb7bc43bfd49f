use Rattle.std.proofs.Common.{◌≡◌, Bool, true, sym, subst}
use Rattle.same_values.specs.GraphTests.{graph_test}
use Rattle.same_values.proofs.GraphLaws.{graph_decides}
use Rattle.same_values.proofs.graphs.same_graph.Goals as goal

pub returns : goal.returns
returns c =
    let same : c.eq.result ≡ graph_test c.args.a.now c.args.b.now = c.eq.ensures in
    subst (λ (r : Bool). (r ≡ true → c.args.a.now ≡ c.args.b.now) × (c.args.a.now ≡ c.args.b.now → r ≡ true)) (sym same) (graph_decides c.args.a.now c.args.b.now)
