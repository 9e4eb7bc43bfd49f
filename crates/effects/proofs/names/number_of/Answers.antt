use Rattle.std.proofs.Common.{sym, ap, ◌∙◌}
use Rattle.effects.proofs.NameLaws.{number-none, number-numbered, number_at_symbol}
use Rattle.effects.proofs.names.number_of.Goals as goal

pub returns-in-None : goal.returns-in-None
returns-in-None c = sym (number-none 1 c.args.symbols.now c.args.name.now (sym c.in-None.ensures))

pub returns-in-None-symbol : goal.returns-in-None-symbol
returns-in-None-symbol c =
    sym (number-numbered c.in-Some.number c.args.symbols.now c.args.name.now (sym c.in-Some.ensures) ∙ ap (number_at_symbol c.in-Some.number) (sym c.in-None-symbol.ensures))

pub returns-in-Some-symbol : goal.returns-in-Some-symbol
returns-in-Some-symbol c =
    c.variable_number.ensures
    ∙ sym (number-numbered c.in-Some.number c.args.symbols.now c.args.name.now (sym c.in-Some.ensures) ∙ ap (number_at_symbol c.in-Some.number) (sym c.in-Some-symbol.ensures))
