-- The form of a constant expression.
use Rattle.std.proofs.Common.{◌≡◌, ℤ, Option, ap}
use Rattle.f77_ast.specs.Trees.{ExprTree}
use Rattle.f77_ast.specs.Trees as tree
use Rattle.f77_ast.specs.declared.constant.Constant.TheVariants.{Int}
use Rattle.f77_ast.specs.declared.constant.ConstantValue.{ConstantValue}
use Rattle.f77_ast.specs.declared.constant.ConstantValue.TheVariants.{Is}
use Rattle.f77_ast.specs.Constants.{const_value}
use Rattle.affine_forms.specs.declared.affine.Affine.{Affine}
use Rattle.affine_forms.specs.Scalars.{Scalars}
use Rattle.affine_forms.specs.Forms.{affine_of, name_form, number_form, unary_form, binary_form, constant_or}
use Rattle.std.specs.declared.option.Option.TheVariants.{None}

by_const_value : (w : ConstantValue) (f : Option Affine) (n : ℤ) → w ≡ Is (Int n) → constant_or w f ≡ number_form n
by_const_value w f n e = ap (λ v. constant_or v f) e

-- whatever its parts are
pub affine_constant : (k : Scalars) (e : ExprTree) (n : ℤ) → const_value k.value e ≡ Is (Int n) → affine_of k e ≡ number_form n
affine_constant k (tree.int m) n h = by_const_value (const_value k.value (tree.int m)) None n h
affine_constant k (tree.log b) n h = by_const_value (const_value k.value (tree.log b)) None n h
affine_constant k (tree.name x) n h = by_const_value (const_value k.value (tree.name x)) (name_form k x) n h
affine_constant k (tree.element x es) n h = by_const_value (const_value k.value (tree.element x es)) None n h
affine_constant k (tree.paren e) n h = by_const_value (const_value k.value (tree.paren e)) (affine_of k e) n h
affine_constant k (tree.unary o e) n h = by_const_value (const_value k.value (tree.unary o e)) (unary_form o (affine_of k e)) n h
affine_constant k (tree.binary o a b) n h = by_const_value (const_value k.value (tree.binary o a b)) (binary_form o (affine_of k a) (affine_of k b)) n h
affine_constant k (tree.chars x) n h = by_const_value (const_value k.value (tree.chars x)) None n h
