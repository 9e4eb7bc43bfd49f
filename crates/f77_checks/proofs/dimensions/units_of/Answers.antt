use Rattle.std.proofs.Common.{map, sym, ◌∙◌, arith, List}
use Rattle.std.proofs.lemmas.List.{at_drop_all}
use Rattle.f77_ast.specs.declared.symbol.Bound.{Bound}
use Rattle.f77_ast.specs.Symbols.{bound_tree}
use Rattle.f77_names.specs.Views.{table_tree}
use Rattle.f77_checks.specs.Dimensions.{dims_of}
use Rattle.f77_checks.specs.Sizes.{capped_units}
use Rattle.f77_checks.proofs.SizeLaws.{capped_units-end}
use Rattle.f77_checks.proofs.dimensions.units_of.Goals as goal

pub returns : goal.returns
returns c =
    let rest = λ (bs : List Bound). capped_units c.loop-bound.units (dims_of (table_tree c.args.table.now) (map bound_tree bs)) in
    sym (capped_units-end c.loop-bound.units c.loop-bound.invariant.small) ∙ sym (at_drop_all rest c.args.bounds.now c.loop-bound.bound-index (omega arith)) ∙ c.loop-bound.invariant.same
