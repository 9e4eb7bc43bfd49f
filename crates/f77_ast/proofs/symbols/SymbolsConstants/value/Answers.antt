use Rattle.std.proofs.Common.{sym, ◌∙◌}
use Rattle.f77_ast.proofs.ValueLaws.{value_in-none, value_in-numbered, value_in-past}
use Rattle.f77_ast.proofs.symbols.SymbolsConstants.value.Goals as goal

pub returns-in-None : goal.returns-in-None
returns-in-None c = sym (value_in-none 1 c.args.self.now c.args.name.now (sym c.in-None.ensures))

pub returns-in-None-symbol : goal.returns-in-None-symbol
returns-in-None-symbol c = sym (value_in-past c.in-Some.number c.args.self.now c.args.name.now (sym c.in-Some.ensures) (sym c.in-None-symbol.ensures))

pub returns-in-Some-symbol : goal.returns-in-Some-symbol
returns-in-Some-symbol c = c.constant_at.ensures ∙ sym (value_in-numbered c.in-Some.number c.args.self.now c.args.name.now c.in-Some-symbol.symbol.now (sym c.in-Some.ensures) (sym c.in-Some-symbol.ensures))
