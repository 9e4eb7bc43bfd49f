-- Right sides that accumulate in a variable of a sum.
use Rattle.std.proofs.Common.{◌≡◌, arith, ℕ, List, Bool, true, false, ◌||◌, refl, sym, ap, subst, ◌∙◌, ℤ, pos, negsuc, ◌+ℤ◌, bytes_eq}
use Rattle.std.specs.Prelude.{FitsSigned, int_le, Some, if◌then◌else◌}
use Rattle.std.specs.Int.{int_wrap, w32}
use Rattle.std.proofs.lemmas.Int.{ints, int_wrap_fits}
use Rattle.std.proofs.lemmas.Bool.{and_parts}
use Rattle.std.proofs.lemmas.Slice.Eq.{bytes_eq-Decides}
use Rattle.f77_ast.specs.declared.expr.BinaryOp.{BinaryOp}
use Rattle.f77_ast.specs.declared.expr.BinaryOp.TheVariants as op
use Rattle.f77_ast.specs.Trees.{ExprTree}
use Rattle.f77_ast.specs.Trees as tree
use Rattle.f77_ast.specs.Store.{Int, Content, content}
use Rattle.f77_ast.specs.Steps.{Steps, Done, ◌>>=◌}
use Rattle.f77_ast.specs.Numbers.{in_range, kept}
use Rattle.f77_ast.specs.Places.{Variable, Names, Places}
use Rattle.f77_ast.specs.Values.{given, value}
use Rattle.laws_interleavings.specs.Reductions.{ReduceOp, Sum, tag_of, joined, Accumulator, operator_at}
use Rattle.laws_interleavings.specs.Rides.{Phase, Outside, Inside}
use Rattle.laws_interleavings.specs.Accumulating.{has_name, wrapped, sum_value}
use Rattle.laws_interleavings.specs.Accumulated.{IsClear, Joins, IsChain}
use Rattle.laws_interleavings.proofs.Accumulating.To.{RidesTo, rides_then, rides_alone, reads_clear, Both}
use Rattle.laws_interleavings.proofs.Accumulating.Reading.{reads_value}
use Rattle.laws_interleavings.proofs.Accumulating.Chains.{Opened, opens, clear_named, one_more}
use Rattle.laws_interleavings.proofs.Accumulating.Sums.{Added, none_added, twice, more_added, chain_named, additive, plain_sum, sum_is, in_sum, step, sums}
use Rattle.fx_lists.proofs.Booleans.{or_there}

fits_32 : (z : ℤ) → in_range z ≡ true → FitsSigned w32 z
fits_32 z e = let p = and_parts (int_le (negsuc 2147483647) z) (int_le z (pos 2147483647)) e in grind (arith, ints, p)

wrapped_same : (z : ℤ) → in_range z ≡ true → int_wrap w32 z ≡ z
wrapped_same z e = int_wrap_fits w32 z (fits_32 z e)

-- what both have joined with what they had
pub record Amount (p : ReduceOp) (m n c d : ℤ) : Type 0 where
  pub amount : ℤ
  pub first : c ≡ joined p m amount
  pub second : d ≡ joined p n amount

ended : (m n c d b y z : ℤ) → Added m n c d → y ≡ c +ℤ b → z ≡ d +ℤ b → in_range y ≡ true → Amount Sum m n y (int_wrap w32 z)
ended m n c d b y z h ey ez i =
    let q = more_added m n c d b y z h ey ez in
    record { amount = q.amount; first = sym (wrapped_same y i) ∙ ap (int_wrap w32) q.first; second = sym (twice z) ∙ q.second }

turned : (k m : ℤ) → (k +ℤ m) ≡ (m +ℤ k)
turned k m = omega (arith, ints)

module _ (as' : List Accumulator) (w : Names) (at : Places) (x : List ℕ) (v : ℕ) (stands : w x ≡ Variable v) (one : operator_at as' (at v).first ≡ Some Sum) (tag : (at v).tag ≡ tag_of Sum) where
  abbrev pub Ended : Phase → Content → Content → Type 0
  Ended = Opened as' w at x v stands Sum one tag (Amount Sum)

  -- V+e-f
  pub add_first : (o : BinaryOp) (a b : ExprTree) → Joins Sum o → IsChain Sum x (IsClear as' w at) a → IsClear as' w at b →
      RidesTo as' (Opened as' w at x v stands Sum one tag (Amount Sum)) Outside (value (tree.binary o a b) w at) (sum_value x (tree.binary o a b) w at)
  add_first o a b j ca cb =
      subst (λ (t : Steps Content). RidesTo as' (Opened as' w at x v stands Sum one tag (Amount Sum)) Outside (value (tree.binary o a b) w at) t)
      (sym (sum_is x w at o a b (additive o j) (chain_named x (IsClear as' w at) a ca) (clear_named as' w at x v stands Sum one tag b cb)))
      (one_more as' w at x v stands Sum one tag Added (Opened as' w at x v stands Sum one tag (Amount Sum)) o (λ d k. Done (content Int (wrapped o d k)))
      (step as' w at x v stands one tag o j (Amount Sum) ended) b cb (value a w at) (sum_value x a w at) (sums as' w at x v stands one tag a ca))

  -- ---- e+V

  last_is : (a : ExprTree) → has_name x a ≡ false →
      sum_value x (tree.binary op.Add a (tree.name x)) w at ≡ (value a w at >>= λ c. value (tree.name x) w at >>= λ d. Done (content Int (wrapped op.Add c.number d.number)))
  last_is a h =
      go (has_name x a || has_name x (tree.name x)) (or_there (has_name x a) (bytes_eq x x) ((bytes_eq-Decides x x).1 refl))
      ∙ ap (λ (s : Steps Content). s >>= λ c. value (tree.name x) w at >>= λ d. Done (content Int (wrapped op.Add c.number d.number))) (plain_sum x w at a h)
    where
      go : (b : Bool) → b ≡ true → (if b then (sum_value x a w at >>= λ c. sum_value x (tree.name x) w at >>= λ d. Done (content Int (wrapped op.Add c.number d.number))) else value (tree.binary op.Add a (tree.name x)) w at)
          ≡ (sum_value x a w at >>= λ c. value (tree.name x) w at >>= λ d. Done (content Int (wrapped op.Add c.number d.number)))
      go b e = rw e refl

  after_read : (k : ℤ) (ph : Phase) (c d : Content) → Opened as' w at x v stands Sum one tag Added ph c d →
      RidesTo as' (Opened as' w at x v stands Sum one tag (Amount Sum)) ph (given Int (kept (k +ℤ c.number))) (Done (content Int (int_wrap w32 (k +ℤ d.number))))
  after_read k Outside c d q = absurd q
  after_read k (Inside y o m n) c d q =
      subst (λ y. RidesTo as' (Opened as' w at x v stands Sum one tag (Amount Sum)) (Inside y o m n) (given Int (kept (k +ℤ c.number))) (Done (content Int (int_wrap w32 (k +ℤ d.number))))) (sym q.0)
      (subst (λ o. RidesTo as' (Opened as' w at x v stands Sum one tag (Amount Sum)) (Inside ((at v).first) o m n) (given Int (kept (k +ℤ c.number))) (Done (content Int (int_wrap w32 (k +ℤ d.number))))) (sym q.1)
      (in_sum as' w at x v stands one tag (Amount Sum) m n (k +ℤ c.number) (k +ℤ d.number)
      (λ i. ended m n c.number d.number k (k +ℤ c.number) (k +ℤ d.number) q.2 (turned k c.number) (turned k d.number) i)))

  after_operand : (ph : Phase) (k l : Content) → Both as' Outside ph k l →
      RidesTo as' (Opened as' w at x v stands Sum one tag (Amount Sum)) ph (value (tree.name x) w at >>= λ c. given Int (kept (k.number +ℤ c.number))) (value (tree.name x) w at >>= λ d. Done (content Int (int_wrap w32 (l.number +ℤ d.number))))
  after_operand ph k l both =
      subst (λ ph. RidesTo as' (Opened as' w at x v stands Sum one tag (Amount Sum)) ph (value (tree.name x) w at >>= λ c. given Int (kept (k.number +ℤ c.number))) (value (tree.name x) w at >>= λ d. Done (content Int (int_wrap w32 (l.number +ℤ d.number))))) (sym both.0)
      (subst (λ (l : Content). RidesTo as' (Opened as' w at x v stands Sum one tag (Amount Sum)) Outside (value (tree.name x) w at >>= λ c. given Int (kept (k.number +ℤ c.number))) (value (tree.name x) w at >>= λ d. Done (content Int (int_wrap w32 (l.number +ℤ d.number))))) both.1
      (rides_then as' (Opened as' w at x v stands Sum one tag Added) (Opened as' w at x v stands Sum one tag (Amount Sum)) Outside (value (tree.name x) w at) (value (tree.name x) w at)
      (λ c. given Int (kept (k.number +ℤ c.number))) (λ d. Done (content Int (int_wrap w32 (k.number +ℤ d.number)))) (opens as' w at x v stands Sum one tag Added none_added) (λ p c d q. after_read k.number p c d q)))

  pub add_last : (a : ExprTree) → IsClear as' w at a →
      RidesTo as' (Opened as' w at x v stands Sum one tag (Amount Sum)) Outside (value (tree.binary op.Add a (tree.name x)) w at) (sum_value x (tree.binary op.Add a (tree.name x)) w at)
  add_last a ca =
      subst (λ (t : Steps Content). RidesTo as' (Opened as' w at x v stands Sum one tag (Amount Sum)) Outside (value (tree.binary op.Add a (tree.name x)) w at) t)
      (sym (last_is a (clear_named as' w at x v stands Sum one tag a ca)))
      (rides_then as' (Both as' Outside) (Opened as' w at x v stands Sum one tag (Amount Sum)) Outside (value a w at) (value a w at)
      (λ k. value (tree.name x) w at >>= λ c. given Int (kept (k.number +ℤ c.number))) (λ l. value (tree.name x) w at >>= λ d. Done (content Int (int_wrap w32 (l.number +ℤ d.number))))
      (rides_alone as' (value a w at) (reads_clear as' (value a w at) (reads_value as' w at a ca))) after_operand)
