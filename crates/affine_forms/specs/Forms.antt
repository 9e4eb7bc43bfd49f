-- Affine forms of INTEGER expressions: none where there is none, or where a number reaches 2^62.
use Rattle.std.specs.Prelude.{ℕ, ◌^◌, ◌<◌, unsigned_abs, ◌&&◌, if◌then◌else◌, List, [], ◌∷◌, Option, ℤ, pos, negsuc, ◌+ℤ◌, ◌*ℤ◌}
use Rattle.std.specs.declared.option.Option.TheVariants.{Some, None}
use Rattle.affine_systems.specs.declared.row.Term.{Term}
use Rattle.affine_systems.specs.declared.row.Var.TheVariants.{Cell}
use Rattle.affine_systems.specs.Terms.{term, add_terms, has_no_terms}
use Rattle.affine_systems.specs.Rows.{combined_terms}
use Rattle.affine_systems.specs.Normal.{is_small, are_small}
use Rattle.affine_systems.specs.Given.{AreSmall}
use Rattle.f77_ast.specs.declared.expr.UnaryOp.{UnaryOp}
use Rattle.f77_ast.specs.declared.expr.UnaryOp.TheVariants.{Plus, Minus, Not}
use Rattle.f77_ast.specs.declared.expr.BinaryOp.{BinaryOp}
use Rattle.f77_ast.specs.declared.expr.BinaryOp.TheVariants.{Add, Sub, Mul, Div, Pow, Eq, Ne, Lt, Le, Gt, Ge, And, Or, Eqv, Neqv}
use Rattle.f77_ast.specs.Trees.{ExprTree}
use Rattle.f77_ast.specs.Trees as tree
use Rattle.f77_ast.specs.declared.constant.Constant.TheVariants.{Int, Log}
use Rattle.f77_ast.specs.declared.constant.ConstantValue.{ConstantValue}
use Rattle.f77_ast.specs.declared.constant.ConstantValue.TheVariants.{Is, Faults, Varies}
use Rattle.f77_ast.specs.Constants.{const_value}
use Rattle.affine_forms.specs.declared.affine.Affine.{Affine}
use Rattle.affine_forms.specs.Scalars.{Scalars}

abbrev pub affine : List Term → ℤ → Affine
affine ts c = record { terms = ts; constant = c }

-- its numbers are below 2^62 in magnitude
abbrev pub IsSmallForm : Affine → Type 0
IsSmallForm f = AreSmall f.terms × (unsigned_abs f.constant < 2 ^ 62)

-- a form, if its numbers are
abbrev pub limited : Affine → Option Affine
limited f = if is_small f.constant && are_small f.terms then Some f else None

-- one form and k times the other
abbrev pub plus : Affine → ℤ → Affine → Option Affine
plus f k g = limited (affine (combined_terms (pos 1) f.terms k g.terms) (f.constant +ℤ (k *ℤ g.constant)))

abbrev pub times : ℤ → Affine → Option Affine
times k f = limited (affine (add_terms k f.terms []) (k *ℤ f.constant))

abbrev pub sum_of : Option Affine → ℤ → Option Affine → Option Affine
sum_of (Some f) k (Some g) = plus f k g
sum_of (Some f) k None = None
sum_of None k g = None

-- one factor has no terms
abbrev pub product : Affine → Affine → Option Affine
product f g = if has_no_terms f.terms then times f.constant g else if has_no_terms g.terms then times g.constant f else None

abbrev pub product_of : Option Affine → Option Affine → Option Affine
product_of (Some f) (Some g) = product f g
product_of (Some f) None = None
product_of None g = None

abbrev pub times_of : ℤ → Option Affine → Option Affine
times_of k (Some f) = times k f
times_of k None = None

abbrev pub unary_form : UnaryOp → Option Affine → Option Affine
unary_form Plus f = f
unary_form Minus f = times_of (negsuc 0) f
unary_form Not f = None

abbrev pub binary_form : BinaryOp → Option Affine → Option Affine → Option Affine
binary_form Add f g = sum_of f (pos 1) g
binary_form Sub f g = sum_of f (negsuc 0) g
binary_form Mul f g = product_of f g
binary_form Div f g = None
binary_form Pow f g = None
binary_form Eq f g = None
binary_form Ne f g = None
binary_form Lt f g = None
binary_form Le f g = None
binary_form Gt f g = None
binary_form Ge f g = None
binary_form And f g = None
binary_form Or f g = None
binary_form Eqv f g = None
binary_form Neqv f g = None

abbrev pub number_form : ℤ → Option Affine
number_form n = limited (affine [] n)

-- a tracked cell, by its number
abbrev pub cell_form : Option ℕ → Option Affine
cell_form None = None
cell_form (Some c) = Some (affine (term (Cell c) (pos 1) ∷ []) (pos 0))

abbrev pub name_form : Scalars → List ℕ → Option Affine
name_form k x = cell_form (k.cell x)

-- the value of a constant expression whose evaluation gives an INTEGER without a fault, else the form of its parts
abbrev pub constant_or : ConstantValue → Option Affine → Option Affine
constant_or (Is (Int n)) f = number_form n
constant_or (Is (Log b)) f = f
constant_or Faults f = f
constant_or Varies f = f

abbrev pub affine_of : Scalars → ExprTree → Option Affine
affine_of k (tree.int n) = constant_or (const_value k.value (tree.int n)) None
affine_of k (tree.log b) = constant_or (const_value k.value (tree.log b)) None
affine_of k (tree.name x) = constant_or (const_value k.value (tree.name x)) (name_form k x)
affine_of k (tree.element x es) = constant_or (const_value k.value (tree.element x es)) None
affine_of k (tree.paren e) = constant_or (const_value k.value (tree.paren e)) (affine_of k e)
affine_of k (tree.unary o e) = constant_or (const_value k.value (tree.unary o e)) (unary_form o (affine_of k e))
affine_of k (tree.binary o a b) = constant_or (const_value k.value (tree.binary o a b)) (binary_form o (affine_of k a) (affine_of k b))
affine_of k (tree.chars x) = constant_or (const_value k.value (tree.chars x)) None
