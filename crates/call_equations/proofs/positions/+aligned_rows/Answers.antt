use Rattle.std.proofs.Common.{◌≡◌, List, Option, map}
use Rattle.std.proofs.lemmas.Result.{IfOk-weaker}
use Rattle.affine_systems.specs.declared.row.Row.{Row}
use Rattle.f77_ast.specs.Symbols.{bound_tree}
use Rattle.call_equations.specs.Sides.{sides_tree}
use Rattle.call_equations.specs.Positions.{aligned_rows}
use Rattle.call_equations.proofs.PositionSteps.{first-rest, aligned-more}
use Rattle.call_equations.proofs.positions.+aligned_rows.Goals as goal

pub returns-in_ok-rest-in-len1-up-dummy-2-clause-defined : goal.returns-in_ok-rest-in-len1-up-dummy-2-clause-defined
returns-in_ok-rest-in-len1-up-dummy-2-clause-defined t c =
    let s = sides_tree c.args.sides.now in
    IfOk-weaker c.row_before.result (λ (o : Option (List Row)). o ≡ _) (λ (o : Option (List Row)). o ≡ aligned_rows s c.args.rank c.args.k (map bound_tree c.args.actual.now) (map bound_tree c.args.dummy.now))
    (λ o e. aligned-more s c.args.rank c.args.k c.in_ok-next_dimension-in-len1-up-dummy-2.field-0 c.args.actual.now _ c.args.dummy.now _ c.a-item.result c.d-item.result c.in_ok-row-in-len1-up-dummy-2.row c.in_ok-rest-in-len1-up-dummy-2.rest o
    (first-rest c.args.actual.now c.a-item.result _ c.in-len1-up.len_at_least c.a-item.is) (first-rest c.args.dummy.now c.d-item.result _ c.in-len1-up-dummy-2.len_at_least c.d-item.is)
    c.in_ok-next_dimension-in-len1-up-dummy-2.ensures c.in_ok-row-in-len1-up-dummy-2.ensures.defined c.in_ok-rest-in-len1-up-dummy-2.ensures.defined e)
    c.row_before.ensures.defined
