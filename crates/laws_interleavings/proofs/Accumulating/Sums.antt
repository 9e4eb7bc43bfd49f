-- Right sides that add to a variable: the plain sum, where it does not fault, and the sum that wraps.
use Rattle.std.proofs.Common.{◌≡◌, arith, ℕ, List, Bool, true, false, ◌&&◌, ◌||◌, refl, sym, ap, subst, ◌∙◌, Some, None, ℤ, pos, ◌+ℤ◌, ◌-ℤ◌, inl, inr}
use Rattle.std.specs.Prelude.{if◌then◌else◌}
use Rattle.std.specs.Int.{int_wrap, w32}
use Rattle.std.proofs.lemmas.Int.{ints, int_wrap-add_left, int_wrap-add_same}
use Rattle.std.proofs.lemmas.Slice.Eq.{bytes_eq-Decides}
use Rattle.f77_ast.specs.declared.expr.BinaryOp.{BinaryOp}
use Rattle.f77_ast.specs.Trees.{ExprTree}
use Rattle.f77_ast.specs.Trees as tree
use Rattle.f77_ast.specs.Store.{Int, Content, content}
use Rattle.f77_ast.specs.Steps.{Steps, Done, ◌>>=◌}
use Rattle.f77_ast.specs.Numbers.{in_range, kept, binary_tag, binary_number}
use Rattle.f77_ast.specs.Places.{Variable, Names, Places}
use Rattle.f77_ast.specs.Values.{given, value}
use Rattle.laws_interleavings.specs.Reductions.{Sum, tag_of, Accumulator, operator_at}
use Rattle.laws_interleavings.specs.Rides.{Phase, Outside, Inside}
use Rattle.laws_interleavings.specs.Accumulating.{has_name, adds, wrapped, sum_value}
use Rattle.laws_interleavings.specs.Accumulated.{IsClear, Joins, IsChain}
use Rattle.laws_interleavings.proofs.Accumulating.To.{RidesTo}
use Rattle.laws_interleavings.proofs.Accumulating.Chains.{Opened, opens, clear_named, one_more}
use Rattle.fx_lists.proofs.Booleans.{or_here}

-- what has been added so far, by both
pub record Added (m n c d : ℤ) : Type 0 where
  pub amount : ℤ
  pub first : c ≡ m +ℤ amount
  pub second : int_wrap w32 d ≡ int_wrap w32 (n +ℤ amount)

pub none_added : (m n : ℤ) → Added m n m n
none_added m n = record { amount = pos 0; first = plus_none m; second = ap (int_wrap w32) (plus_none n) }
  where
    plus_none : (z : ℤ) → z ≡ z +ℤ pos 0
    plus_none z = omega (arith, ints)

pub twice : (z : ℤ) → int_wrap w32 (int_wrap w32 z) ≡ int_wrap w32 z
twice z = ap (int_wrap w32) (plus_none (int_wrap w32 z)) ∙ int_wrap-add_left w32 z (pos 0) ∙ ap (int_wrap w32) (sym (plus_none z))
  where
    plus_none : (z : ℤ) → z ≡ z +ℤ pos 0
    plus_none z = omega (arith, ints)

-- b more; y and z are the two numbers then
pub more_added : (m n c d b y z : ℤ) → Added m n c d → y ≡ c +ℤ b → z ≡ d +ℤ b → Added m n y (int_wrap w32 z)
more_added m n c d b y z h ey ez = record {
  amount = h.amount +ℤ b;
  first = joins m c y h.amount b h.first ey;
  second = twice z ∙ ap (int_wrap w32) ez ∙ int_wrap-add_same w32 d (n +ℤ h.amount) b h.second ∙ ap (int_wrap w32) (turned n h.amount b);
}
  where
    joins : (m c y a b : ℤ) → c ≡ m +ℤ a → y ≡ c +ℤ b → y ≡ m +ℤ (a +ℤ b)
    joins m c y a b e f = omega (arith, ints, e, f)

    turned : (n a b : ℤ) → ((n +ℤ a) +ℤ b) ≡ n +ℤ (a +ℤ b)
    turned n a b = omega (arith, ints)

minus_is : (c k : ℤ) → (c -ℤ k) ≡ c +ℤ (pos 0 -ℤ k)
minus_is c k = omega (arith, ints)

pub chain_named : (x : List ℕ) (C : ExprTree → Type 0) (e : ExprTree) → IsChain Sum x C e → has_name x e ≡ true
chain_named x C (tree.int n) h = absurd h
chain_named x C (tree.log b) h = absurd h
chain_named x C (tree.name y) h = (bytes_eq-Decides x y).1 (sym h)
chain_named x C (tree.element y es) h = absurd h
chain_named x C (tree.paren e) h = absurd h
chain_named x C (tree.unary o e) h = absurd h
chain_named x C (tree.binary o a b) h = or_here (has_name x a) (has_name x b) (chain_named x C a h.1)
chain_named x C (tree.chars t) h = absurd h

pub additive : (o : BinaryOp) → Joins Sum o → adds o ≡ true
additive o (inl e) = ap adds e
additive o (inr e) = ap adds e

-- where the name is in no operand, nothing wraps
pub plain_sum : (x : List ℕ) (w : Names) (at : Places) (e : ExprTree) → has_name x e ≡ false → sum_value x e w at ≡ value e w at
plain_sum x w at (tree.int n) h = refl
plain_sum x w at (tree.log b) h = refl
plain_sum x w at (tree.name y) h = refl
plain_sum x w at (tree.element y es) h = refl
plain_sum x w at (tree.paren e) h = refl
plain_sum x w at (tree.unary o e) h = refl
plain_sum x w at (tree.binary o a b) h = go (adds o) (has_name x a || has_name x b) h
  where
    go : (c d : Bool) → d ≡ false → (if c && d then (sum_value x a w at >>= λ c. sum_value x b w at >>= λ d. Done (content Int (wrapped o c.number d.number))) else value (tree.binary o a b) w at) ≡ value (tree.binary o a b) w at
    go true d e = rw e refl
    go false d e = refl
plain_sum x w at (tree.chars t) h = refl

-- where the first operand has it and the second has not
pub sum_is : (x : List ℕ) (w : Names) (at : Places) (o : BinaryOp) (a b : ExprTree) → adds o ≡ true → has_name x a ≡ true → has_name x b ≡ false →
    sum_value x (tree.binary o a b) w at ≡ (sum_value x a w at >>= λ d. value b w at >>= λ k. Done (content Int (wrapped o d.number k.number)))
sum_is x w at o a b ho ha hb = go (adds o) (has_name x a) (has_name x b) ho ha ∙ ap (λ (s : Steps Content). sum_value x a w at >>= λ d. s >>= λ k. Done (content Int (wrapped o d.number k.number))) (plain_sum x w at b hb)
  where
    go : (c d e : Bool) → c ≡ true → d ≡ true → (if c && (d || e) then (sum_value x a w at >>= λ c. sum_value x b w at >>= λ d. Done (content Int (wrapped o c.number d.number))) else value (tree.binary o a b) w at)
        ≡ (sum_value x a w at >>= λ c. sum_value x b w at >>= λ d. Done (content Int (wrapped o c.number d.number)))
    go c d e p q = rw p (rw q refl)

module _ (as' : List Accumulator) (w : Names) (at : Places) (x : List ℕ) (v : ℕ) (stands : w x ≡ Variable v) (one : operator_at as' (at v).first ≡ Some Sum) (tag : (at v).tag ≡ tag_of Sum) where
  abbrev pub Open : (ℤ → ℤ → ℤ → ℤ → Type 0) → Phase → Content → Content → Type 0
  Open R = Opened as' w at x v stands Sum one tag R

  -- the sum of a number of each, where the plain one is in range
  module _ (R : ℤ → ℤ → ℤ → ℤ → Type 0) (m n y z : ℤ) (holds : in_range y ≡ true → R m n y (int_wrap w32 z)) where
    pub in_sum : RidesTo as' (Open R) (Inside ((at v).first) Sum m n) (given Int (kept y)) (Done (content Int (int_wrap w32 z)))
    in_sum = go (in_range y) refl
      where
        go : (b : Bool) → in_range y ≡ b → RidesTo as' (Open R) (Inside ((at v).first) Sum m n) (given Int (if b then Some y else None)) (Done (content Int (int_wrap w32 z)))
        go true e = (refl, refl, holds e)
        go false e = tt

  pub step : (o : BinaryOp) → Joins Sum o → (R : ℤ → ℤ → ℤ → ℤ → Type 0) → ((m n c d b y z : ℤ) → Added m n c d → y ≡ c +ℤ b → z ≡ d +ℤ b → in_range y ≡ true → R m n y (int_wrap w32 z)) →
      (m n c d k : ℤ) → Added m n c d → RidesTo as' (Open R) (Inside ((at v).first) Sum m n) (given (binary_tag o) (binary_number o c k)) (Done (content Int (wrapped o d k)))
  step o (inl e) R h m n c d k r =
      subst (λ o. RidesTo as' (Open R) (Inside ((at v).first) Sum m n) (given (binary_tag o) (binary_number o c k)) (Done (content Int (wrapped o d k)))) (sym e)
      (in_sum R m n (c +ℤ k) (d +ℤ k) (λ i. h m n c d k (c +ℤ k) (d +ℤ k) r refl refl i))
  step o (inr e) R h m n c d k r =
      subst (λ o. RidesTo as' (Open R) (Inside ((at v).first) Sum m n) (given (binary_tag o) (binary_number o c k)) (Done (content Int (wrapped o d k)))) (sym e)
      (in_sum R m n (c -ℤ k) (d -ℤ k) (λ i. h m n c d (pos 0 -ℤ k) (c -ℤ k) (d -ℤ k) r (minus_is c k) (minus_is d k) i))

  -- a chain
  pub sums : (e : ExprTree) → IsChain Sum x (IsClear as' w at) e → RidesTo as' (Open Added) Outside (value e w at) (sum_value x e w at)
  sums (tree.int n) h = absurd h
  sums (tree.log b) h = absurd h
  sums (tree.name y) h = subst (λ y. RidesTo as' (Open Added) Outside (value (tree.name y) w at) (sum_value x (tree.name y) w at)) (sym h) (opens as' w at x v stands Sum one tag Added none_added)
  sums (tree.element y es) h = absurd h
  sums (tree.paren e) h = absurd h
  sums (tree.unary o e) h = absurd h
  sums (tree.binary o a b) h =
      subst (λ (t : Steps Content). RidesTo as' (Open Added) Outside (value (tree.binary o a b) w at) t)
      (sym (sum_is x w at o a b (additive o h.0) (chain_named x (IsClear as' w at) a h.1) (clear_named as' w at x v stands Sum one tag b h.2)))
      (one_more as' w at x v stands Sum one tag Added (Open Added) o (λ d k. Done (content Int (wrapped o d k))) (step o h.0 Added (λ m n c d b y z r ey ez i. more_added m n c d b y z r ey ez)) b h.2 (value a w at) (sum_value x a w at) (sums a h.1))
  sums (tree.chars t) h = absurd h
