use Rattle.std.proofs.Common.{ℕ, List, Option, map, ap, ◌∙◌}
use Rattle.f77_ast.specs.Symbols.{number_from, symbol_tree}
use Rattle.f77_meaning.proofs.SymbolNames.{names-same}
use Rattle.call_graph.specs.Actuals.{is_array as has_array}
use Rattle.reductions.specs.Accumulations.{symbol_of}
use Rattle.reductions.proofs.accumulation.is_array.Goals as goal

pub returns : goal.returns
returns c =
    let ss = c.args.symbols.now in
    c.is_array_symbol.ensures
    ∙ ap (λ (n : Option ℕ). has_array (symbol_of (map symbol_tree ss) n)) (c.number.ensures ∙ ap (λ (ns : List (List ℕ)). number_from 1 ns c.args.name.now) (names-same ss))
