use Rattle.std.proofs.Common.{◌*◌, ◌-◌, ◌^◌, min, map, sym, ◌∙◌, arith, List}
use Rattle.std.proofs.lemmas.List.{at_drop_all}
use Rattle.f77_ast.specs.declared.symbol.Bound.{Bound}
use Rattle.f77_ast.specs.Symbols.{bound_tree, symbol_tree, value_in}
use Rattle.f77_ast.specs.Units.{bounds_units}
use Rattle.f77_ast.proofs.UnitsLaws.{none_more}
use Rattle.f77_ast.proofs.units.elements.Goals as goal

pub returns : goal.returns
returns c =
    let rest = λ (bs : List Bound). min (c.loop-bound.units * bounds_units (value_in (map symbol_tree c.args.symbols.now)) (map bound_tree bs)) (2 ^ 128 - 1) in
    sym (none_more (2 ^ 128 - 1) c.loop-bound.units (omega (arith, c.loop-bound.invariant.small))) ∙ sym (at_drop_all rest c.args.bounds.now c.loop-bound.bound-index (omega arith)) ∙ c.loop-bound.invariant.same
