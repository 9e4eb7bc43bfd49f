use Rattle.std.proofs.Common.{◌≡◌, ℕ, ◌<◌, length, sym, ap, ◌∙◌, arith, map}
use Rattle.f77_ast.specs.PlainDecl.{parsed_tree}
use Rattle.call_graph.specs.Recursion.{reaches}
use Rattle.call_graph.specs.Tables.{cell}
use Rattle.call_graph.proofs.TableLaws.{table-reaches, from_same}
use Rattle.call_graph.proofs.RankLaws.{none-from}
use Rattle.call_graph.proofs.recursion.recursion.Goals as goal

pub returns : goal.returns
returns c =
    let css = c.args.callees.now in
    c.cyclic_from.ensures
    ∙ from_same (cell c.in_ok-table.table) (reaches css) (length css) 0 (map parsed_tree c.args.modules.now) c.args.calls.now c.args.names.now
    (λ from to h. ap (λ t. cell t from to) c.in_ok-table.ensures ∙ table-reaches css from to h)
    (omega (arith, c.requires.one_each))

-- no calls lead back
pub returns-then-calls_fall : goal.returns-then-calls_fall
returns-then-calls_fall c =
    sym
    (none-from c.in_ok-ranks.ranks c.args.callees.now 0 (map parsed_tree c.args.modules.now) c.args.calls.now c.args.names.now
    (sym c.fall.ensures ∙ c.if-fall.true)
    (sym c.calls_fall.ensures ∙ c.if-calls_fall.true))
