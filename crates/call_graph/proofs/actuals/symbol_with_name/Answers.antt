use Rattle.std.proofs.Common.{sym, ap, ◌∙◌}
use Rattle.std.specs.Prelude.{option_map}
use Rattle.f77_ast.specs.Symbols.{symbol_tree}
use Rattle.call_graph.proofs.ActualLaws.{named-none, named-numbered}
use Rattle.call_graph.proofs.actuals.symbol_with_name.Goals as goal

pub returns-in-None : goal.returns-in-None
returns-in-None c = sym (named-none 1 c.args.symbols.now c.args.name.now (sym c.in-None.ensures))

pub returns-in-Some : goal.returns-in-Some
returns-in-Some c =
    ap (option_map symbol_tree) c.symbol.ensures ∙ named-numbered c.in-Some.number c.args.symbols.now c.args.name.now (sym c.in-Some.ensures)
