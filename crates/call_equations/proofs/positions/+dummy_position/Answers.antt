use Rattle.std.proofs.Common.{◌≡◌, Option, map}
use Rattle.std.proofs.lemmas.Result.{IfOk-weaker}
use Rattle.f77_ast.specs.Symbols.{bound_tree}
use Rattle.affine_forms.specs.declared.affine.Affine.{Affine}
use Rattle.call_equations.specs.Sides.{sides_tree}
use Rattle.call_equations.specs.Positions.{dummy_position}
use Rattle.call_equations.proofs.PositionSteps.{first-rest, dummy-more}
use Rattle.call_equations.proofs.positions.+dummy_position.Goals as goal

pub returns-in_ok-rest-in-len1-up-clause-defined : goal.returns-in_ok-rest-in-len1-up-clause-defined
returns-in_ok-rest-in-len1-up-clause-defined t c =
    let s = sides_tree c.args.sides.now in
    IfOk-weaker c.dummy_first.result (λ (o : Option Affine). o ≡ _) (λ (o : Option Affine). o ≡ dummy_position s c.args.rank c.args.k (map bound_tree c.args.bounds.now))
    (λ o e. dummy-more s c.args.rank c.args.k c.in_ok-next_dimension-in-len1-up.field-0 c.args.bounds.now _ c.b-item.result c.in_ok-rest-in-len1-up.rest o (first-rest c.args.bounds.now c.b-item.result _ c.in-len1-up.len_at_least c.b-item.is) c.in_ok-next_dimension-in-len1-up.ensures c.in_ok-rest-in-len1-up.ensures.defined e)
    c.dummy_first.ensures.defined
