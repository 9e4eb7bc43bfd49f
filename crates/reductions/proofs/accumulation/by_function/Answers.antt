use Rattle.std.proofs.Common.{◌<◌, ◌≤◌, List, length, map, sym, subst, arith, ◌∙◌}
use Rattle.f77_ast.specs.declared.expr.Expr.{Expr}
use Rattle.f77_ast.specs.Symbols.{symbol_tree}
use Rattle.reductions.proofs.Arguments.{none_of_few, none_of_many}
use Rattle.reductions.proofs.accumulation.by_function.Goals as goal

pub returns-in-empty : goal.returns-in-empty
returns-in-empty c =
    let few : length c.as_slice.result.now < 2 = omega (arith, c.in-empty.len_below) in
    none_of_few (map symbol_tree c.args.symbols.now) c.args.name.now c.args.function.now c.args.arguments.now (sym c.is_array.ensures ∙ c.if-is_array.false)
    (subst (λ (es : List Expr). length es < 2) c.as_slice.ensures few)

pub returns-in-empty-2 : goal.returns-in-empty-2
returns-in-empty-2 c =
    let many : 3 ≤ length c.as_slice.result.now = omega (arith, c.in-empty.len_at_least) in
    none_of_many (map symbol_tree c.args.symbols.now) c.args.name.now c.args.function.now c.args.arguments.now (sym c.is_array.ensures ∙ c.if-is_array.false)
    (subst (λ (es : List Expr). 3 ≤ length es) c.as_slice.ensures many)
