use Rattle.std.proofs.Common.{List, ap, ◌∙◌, map}
use Rattle.f77_ast.specs.Symbols.{SymbolTree, symbol_tree}
use Rattle.f77_ast.specs.declared.summaries.Summary.{Summary}
use Rattle.f77_ast.specs.Summaries.{SummaryTree}
use Rattle.f77_ast.proofs.MapLaws.{added}
use Rattle.f77_ast.proofs.summaries.Summaries.add.Goals as goal

pub returns-in-Ok-clause-ok : goal.returns-in-Ok-clause-ok
returns-in-Ok-clause-ok g c =
    let T = g.row.T.Denot in
    let s : Summary T = record { symbols = c.in_ok-symbols.symbols; value = c.args.value } in
    let tree : List SymbolTree → SummaryTree T = λ ss. record { symbols = ss; value = c.args.value } in
    added {T = T} c.args.self.now.by_name c.insert.new.self c.in_ok-key.key s c.args.name.now (tree (map symbol_tree c.args.symbols.now)) c.in-Ok.ensures.updates
    (c.in_ok-key.ensures.items ∙ c.as_slice.ensures) (ap tree c.in_ok-symbols.ensures)
