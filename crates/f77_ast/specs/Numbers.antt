-- Arithmetic: INTEGER has 32 bits, and nothing wraps. A result is none where it is fault Arithmetic.
use Rattle.std.specs.Prelude.{ℕ, suc, ◌%◌, ◌^◌, List, [], ◌∷◌, Option, Some, None, Bool, true, false, ◌&&◌, ◌||◌, not, if◌then◌else◌, nat_eq, ℤ, pos, negsuc, ◌+ℤ◌, ◌-ℤ◌, ◌*ℤ◌, neg_ℤ, int_lt, int_le, int_div, int_rem, unsigned_abs, codes, bytes_eq}
use Rattle.std.specs.Ordering.{int_eq}
use Rattle.std.specs.Int.{int_max, int_min}
use Rattle.f77_ast.specs.declared.expr.UnaryOp.{UnaryOp}
use Rattle.f77_ast.specs.declared.expr.UnaryOp.TheVariants.{Plus, Minus, Not}
use Rattle.f77_ast.specs.declared.expr.BinaryOp.{BinaryOp}
use Rattle.f77_ast.specs.declared.expr.BinaryOp.TheVariants.{Add, Sub, Mul, Div, Pow, Eq, Ne, Lt, Le, Gt, Ge, And, Or, Eqv, Neqv}
use Rattle.f77_ast.specs.Store.{Tag, Int, Log, truth}

-- from -2147483648 to 2147483647
abbrev pub in_range : ℤ → Bool
in_range n = int_le (negsuc 2147483647) n && int_le n (pos 2147483647)

abbrev pub kept : ℤ → Option ℤ
kept n = if in_range n then Some n else None

-- rounded toward zero (ANSI X3.9-1978 §6.1.5)
abbrev pub quotient : ℤ → ℤ → Option ℤ
quotient m n = if int_eq n (pos 0) then None else kept (int_div m n)

-- in whole numbers; 0 to the power 0 is 1
abbrev pub power_of : ℤ → ℕ → ℤ
power_of (pos a) n = pos (a ^ n)
power_of (negsuc a) n = if nat_eq (n % 2) 0 then pos (suc a ^ n) else neg_ℤ (pos (suc a ^ n))

abbrev pub one_over : Option ℤ → Option ℤ
one_over None = None
one_over (Some n) = quotient (pos 1) n

-- I**(-J) is 1/(I**J)
abbrev pub power : ℤ → ℤ → Option ℤ
power m (pos n) = kept (power_of m n)
power m (negsuc n) = one_over (kept (power_of m (suc n)))

abbrev pub is_true : ℤ → Bool
is_true n = not (int_eq n (pos 0))

abbrev pub same_truth : Bool → Bool → Bool
same_truth true b = b
same_truth false b = not b

abbrev pub unary_number : UnaryOp → ℤ → Option ℤ
unary_number Plus n = Some n
unary_number Minus n = kept (neg_ℤ n)
unary_number Not n = Some (truth (not (is_true n)))

-- the type of what an operator gives
abbrev pub unary_tag : UnaryOp → Tag
unary_tag Plus = Int
unary_tag Minus = Int
unary_tag Not = Log

-- §6.1, §6.3 and §6.4; both operands are always evaluated
abbrev pub binary_number : BinaryOp → ℤ → ℤ → Option ℤ
binary_number Add m n = kept (m +ℤ n)
binary_number Sub m n = kept (m -ℤ n)
binary_number Mul m n = kept (m *ℤ n)
binary_number Div m n = quotient m n
binary_number Pow m n = power m n
binary_number Eq m n = Some (truth (int_eq m n))
binary_number Ne m n = Some (truth (not (int_eq m n)))
binary_number Lt m n = Some (truth (int_lt m n))
binary_number Le m n = Some (truth (int_le m n))
binary_number Gt m n = Some (truth (int_lt n m))
binary_number Ge m n = Some (truth (int_le n m))
binary_number And m n = Some (truth (is_true m && is_true n))
binary_number Or m n = Some (truth (is_true m || is_true n))
binary_number Eqv m n = Some (truth (same_truth (is_true m) (is_true n)))
binary_number Neqv m n = Some (truth (not (same_truth (is_true m) (is_true n))))

abbrev pub binary_tag : BinaryOp → Tag
binary_tag Add = Int
binary_tag Sub = Int
binary_tag Mul = Int
binary_tag Div = Int
binary_tag Pow = Int
binary_tag Eq = Log
binary_tag Ne = Log
binary_tag Lt = Log
binary_tag Le = Log
binary_tag Gt = Log
binary_tag Ge = Log
binary_tag And = Log
binary_tag Or = Log
binary_tag Eqv = Log
binary_tag Neqv = Log

-- the intrinsic functions (§15.10)
pub data Intrinsic : Type 0 where
  Abs : Intrinsic
  Mod : Intrinsic
  Max : Intrinsic
  Min : Intrinsic

abbrev pub intrinsic_named : List ℕ → Option Intrinsic
intrinsic_named x =
    if bytes_eq x (codes "ABS") || bytes_eq x (codes "IABS") then Some Abs
    else if bytes_eq x (codes "MOD") then Some Mod
    else if bytes_eq x (codes "MAX") || bytes_eq x (codes "MAX0") then Some Max
    else if bytes_eq x (codes "MIN") || bytes_eq x (codes "MIN0") then Some Min
    else None

abbrev pub greatest : ℤ → List ℤ → ℤ
greatest m [] = m
greatest m (n ∷ ns) = greatest (int_max m n) ns

abbrev pub least : ℤ → List ℤ → ℤ
least m [] = m
least m (n ∷ ns) = least (int_min m n) ns

-- m-n*(m/n) in whole numbers
abbrev pub remainder : ℤ → ℤ → Option ℤ
remainder m n = if int_eq n (pos 0) then None else Some (int_rem m n)

-- none also for a number of arguments that reading refuses
abbrev pub intrinsic_number : Intrinsic → List ℤ → Option ℤ
intrinsic_number Abs (m ∷ []) = kept (pos (unsigned_abs m))
intrinsic_number Abs ns = None
intrinsic_number Mod (m ∷ n ∷ []) = remainder m n
intrinsic_number Mod ns = None
intrinsic_number Max (m ∷ ns) = Some (greatest m ns)
intrinsic_number Max [] = None
intrinsic_number Min (m ∷ ns) = Some (least m ns)
intrinsic_number Min [] = None
