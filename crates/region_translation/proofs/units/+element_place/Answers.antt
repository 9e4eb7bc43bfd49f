use Rattle.std.proofs.Common.{◌≡◌, Option, map}
use Rattle.std.proofs.lemmas.Result.{IfOk-weaker}
use Rattle.f77_ast.specs.Symbols.{bound_tree, symbol_tree, value_in}
use Rattle.affine_forms.specs.declared.affine.Affine.{Affine}
use Rattle.call_equations.proofs.PositionSteps.{first-rest}
use Rattle.region_translation.specs.Units.{element_place}
use Rattle.region_translation.proofs.UnitLaws.{place-more}
use Rattle.region_translation.proofs.units.+element_place.Goals as goal

pub returns-in_ok-rest-in-len1-up-clause-defined : goal.returns-in_ok-rest-in-len1-up-clause-defined
returns-in_ok-rest-in-len1-up-clause-defined t c =
    let value = value_in (map symbol_tree c.args.symbols.now) in
    IfOk-weaker c.place_from.result (λ (o : Option Affine). o ≡ _) (λ (o : Option Affine). o ≡ element_place value c.args.of_caller c.args.k (map bound_tree c.args.bounds.now))
    (λ o e. place-more value c.args.of_caller c.args.k c.in_ok-next_dimension-in-len1-up.field-0 c.args.bounds.now _ c.b-item.result c.in_ok-rest-in-len1-up.rest o (first-rest c.args.bounds.now c.b-item.result _ c.in-len1-up.len_at_least c.b-item.is) c.in_ok-next_dimension-in-len1-up.ensures c.in_ok-rest-in-len1-up.ensures.defined e)
    c.place_from.ensures.defined
