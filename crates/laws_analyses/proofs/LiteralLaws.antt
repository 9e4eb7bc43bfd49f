-- INTEGER literals that are read, and the values of constant expressions, have 32 bits.
use Rattle.std.proofs.Common.{◌≡◌, ℕ, suc, ◌<◌, Bool, true, false, ℤ, pos, negsuc, List, [], ◌∷◌, Option, Some, None, refl, sym, ap, ◌∙◌, subst, arith}
use Rattle.std.specs.Prelude.{if◌then◌else◌, ◌&&◌, int_le, ◌+ℤ◌, ◌-ℤ◌, ◌*ℤ◌, neg_ℤ, int_div}
use Rattle.std.specs.Ordering.{int_eq}
use Rattle.std.proofs.lemmas.Bool.{le-leb}
use Rattle.f77_ast.specs.declared.expr.UnaryOp.{UnaryOp}
use Rattle.f77_ast.specs.declared.expr.UnaryOp.TheVariants.{Plus, Minus, Not}
use Rattle.f77_ast.specs.declared.expr.BinaryOp.{BinaryOp}
use Rattle.f77_ast.specs.declared.expr.BinaryOp.TheVariants.{Add, Sub, Mul, Div, Pow, Eq, Ne, Lt, Le, Gt, Ge, And, Or, Eqv, Neqv}
use Rattle.f77_ast.specs.Trees.{ExprTree}
use Rattle.f77_ast.specs.Trees as tree
use Rattle.f77_ast.specs.Numbers.{in_range, kept, quotient, power_of, one_over, power, binary_number}
use Rattle.f77_ast.specs.declared.constant.Constant.{Constant}
use Rattle.f77_ast.specs.declared.constant.Constant.TheVariants as constant
use Rattle.f77_ast.specs.declared.constant.ConstantValue.{ConstantValue}
use Rattle.f77_ast.specs.declared.constant.ConstantValue.TheVariants.{Is, Faults, Varies}
use Rattle.f77_ast.specs.Constants.{number_of, const_value_as, gives_logical, unary_of, unary_const_value, binary_of, binary_const_value, named_const_value, const_value}
use Rattle.laws_programs.specs.roundtrip_programs.Statements.Formed.{Rank, Formed, number, logical, constant as chars, scalar, indexed, enclosed, operand, raised, factor, multiplied, term, signed, added, arithmetic, compared, asserted, denied, conjunct, both, disjunct, either, side, equated}

-- ---- literals

-- each INTEGER literal on which the value of a constant expression rests
abbrev pub Small : ExprTree → Type 0
Small (tree.int n) = in_range n ≡ true
Small (tree.log b) = Unit {0}
Small (tree.name x) = Unit {0}
Small (tree.element x es) = Unit {0}
Small (tree.paren e) = Small e
Small (tree.unary o e) = Small e
Small (tree.binary o a b) = Small a × Small b
Small (tree.chars x) = Unit {0}

literal_small : (n : ℕ) → n < 2147483648 → in_range (pos n) ≡ true
literal_small n h = le-leb n 2147483647 (omega (arith, h))

pub formed_small : {r : Rank} {e : ExprTree} → Formed r e → Small e
formed_small (number n h) = literal_small n h
formed_small (logical b) = tt
formed_small (chars c) = tt
formed_small (scalar n h) = tt
formed_small (indexed n e es h f fs) = tt
formed_small (enclosed e f) = formed_small f
formed_small (operand e f) = formed_small f
formed_small (raised a b f g) = (formed_small f, formed_small g)
formed_small (factor e f) = formed_small f
formed_small (multiplied op a b h f g) = (formed_small f, formed_small g)
formed_small (term e f) = formed_small f
formed_small (signed op e h f) = formed_small f
formed_small (added op a b h f g) = (formed_small f, formed_small g)
formed_small (arithmetic e f) = formed_small f
formed_small (compared op a b h f g) = (formed_small f, formed_small g)
formed_small (asserted e f) = formed_small f
formed_small (denied e f) = formed_small f
formed_small (conjunct e f) = formed_small f
formed_small (both a b f g) = (formed_small f, formed_small g)
formed_small (disjunct e f) = formed_small f
formed_small (either a b f g) = (formed_small f, formed_small g)
formed_small (side e f) = formed_small f
formed_small (equated op a b h f g) = (formed_small f, formed_small g)

-- ---- values

abbrev pub Fits32 : Constant → Type 0
Fits32 (constant.Int n) = in_range n ≡ true
Fits32 (constant.Log b) = Unit {0}

abbrev pub MaybeFits : Option Constant → Type 0
MaybeFits None = Unit {0}
MaybeFits (Some c) = Fits32 c

abbrev pub ConstantValueFits : ConstantValue → Type 0
ConstantValueFits (Is c) = Fits32 c
ConstantValueFits Faults = Unit {0}
ConstantValueFits Varies = Unit {0}

kept_fits : (n : ℤ) → ConstantValueFits (const_value_as false (kept n))
kept_fits n = go (in_range n) refl
  where
    go : (b : Bool) → in_range n ≡ b → ConstantValueFits (const_value_as false (if b then Some n else None))
    go true e = e
    go false e = tt

quotient_fits : (m n : ℤ) → ConstantValueFits (const_value_as false (quotient m n))
quotient_fits m n = go (int_eq n (pos 0))
  where
    go : (b : Bool) → ConstantValueFits (const_value_as false (if b then None else kept (int_div m n)))
    go true = tt
    go false = kept_fits (int_div m n)

over_fits : (o : Option ℤ) → ConstantValueFits (const_value_as false (one_over o))
over_fits None = tt
over_fits (Some n) = quotient_fits (pos 1) n

power_fits : (m n : ℤ) → ConstantValueFits (const_value_as false (power m n))
power_fits m (pos n) = kept_fits (power_of m n)
power_fits m (negsuc n) = over_fits (kept (power_of m (suc n)))

logical_fits : (o : Option ℤ) → ConstantValueFits (const_value_as true o)
logical_fits None = tt
logical_fits (Some n) = tt

if_fits : (b : Bool) (w : ConstantValue) → ConstantValueFits w → ConstantValueFits (if b then w else Faults)
if_fits true w h = h
if_fits false w h = tt

number_fits : (o : BinaryOp) (m n : ℤ) → ConstantValueFits (const_value_as (gives_logical o) (binary_number o m n))
number_fits Add m n = kept_fits (m +ℤ n)
number_fits Sub m n = kept_fits (m -ℤ n)
number_fits Mul m n = kept_fits (m *ℤ n)
number_fits Div m n = quotient_fits m n
number_fits Pow m n = power_fits m n
number_fits Eq m n = tt
number_fits Ne m n = tt
number_fits Lt m n = tt
number_fits Le m n = tt
number_fits Gt m n = tt
number_fits Ge m n = tt
number_fits And m n = tt
number_fits Or m n = tt
number_fits Eqv m n = tt
number_fits Neqv m n = tt

unary_of_fits : (o : UnaryOp) (c : Constant) → Fits32 c → ConstantValueFits (unary_of o c)
unary_of_fits Plus (constant.Int n) h = h
unary_of_fits Plus (constant.Log b) h = tt
unary_of_fits Minus (constant.Int n) h = kept_fits (neg_ℤ n)
unary_of_fits Minus (constant.Log b) h = tt
unary_of_fits Not (constant.Int n) h = tt
unary_of_fits Not (constant.Log b) h = tt

unary_fits : (o : UnaryOp) (w : ConstantValue) → ConstantValueFits w → ConstantValueFits (unary_const_value o w)
unary_fits o (Is c) h = unary_of_fits o c h
unary_fits o Faults h = tt
unary_fits o Varies h = tt

binary_fits : (o : BinaryOp) (w v : ConstantValue) → ConstantValueFits (binary_const_value o w v)
binary_fits o Varies v = tt
binary_fits o Faults Varies = tt
binary_fits o Faults Faults = tt
binary_fits o Faults (Is d) = tt
binary_fits o (Is c) Varies = tt
binary_fits o (Is c) Faults = tt
binary_fits o (Is c) (Is d) = if_fits _ (const_value_as (gives_logical o) (binary_number o (number_of c) (number_of d))) (number_fits o (number_of c) (number_of d))

named_fits : (v : Option Constant) → MaybeFits v → ConstantValueFits (named_const_value v)
named_fits None h = tt
named_fits (Some c) h = h

pub const_value_fits : (v : List ℕ → Option Constant) → ((x : List ℕ) → MaybeFits (v x)) → (e : ExprTree) → Small e → ConstantValueFits (const_value v e)
const_value_fits v f (tree.int n) h = h
const_value_fits v f (tree.log b) h = tt
const_value_fits v f (tree.name x) h = named_fits (v x) (f x)
const_value_fits v f (tree.element x es) h = tt
const_value_fits v f (tree.paren e) h = const_value_fits v f e h
const_value_fits v f (tree.unary o e) h = unary_fits o (const_value v e) (const_value_fits v f e h)
const_value_fits v f (tree.binary o a b) h = binary_fits o (const_value v a) (const_value v b)
const_value_fits v f (tree.chars x) h = tt
