use Rattle.std.proofs.Common.{◌≡◌, ◌∙◌, ap, sym, map, SFits, to_z-of_z, rules}
use Rattle.std.specs.Int.{w32}
use Rattle.f77_ast.specs.Plain.{expr_tree}
use Rattle.f77_ast.specs.declared.constant.Constant.TheVariants.{Int}
use Rattle.f77_ast.specs.declared.constant.ConstantValue.TheVariants.{Is}
use Rattle.f77_ast.specs.Constants.{const_value}
use Rattle.f77_ast.specs.Symbols.{symbol_tree, value_in}
use Rattle.affine_forms.specs.Scalars.{scalars}
use Rattle.affine_forms.specs.Forms.{number_form}
use Rattle.affine_forms.proofs.FormSteps.{affine_constant}
use Rattle.affine_forms.proofs.forms.+affine_of.Goals as goal

pub returns-in-Is-Int-clause-defined : goal.returns-in-Is-Int-clause-defined
returns-in-Is-Int-clause-defined t c =
    let f : SFits w32 c.in-Is-Int.number = search rules in
    let h : const_value (value_in (map symbol_tree c.args.symbols.now)) (expr_tree c.args.e.now) ≡ Is (Int c.in-Is-Int.number) = cc in
    c.number_form.ensures.defined ∙ (ap number_form (to_z-of_z f) ∙ sym (affine_constant (scalars c.args.symbols.now c.args.tracked.now) (expr_tree c.args.e.now) c.in-Is-Int.number h))
