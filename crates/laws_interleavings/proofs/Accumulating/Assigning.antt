-- Assignments that accumulate.
use Rattle.std.proofs.Common.{◌≡◌, inl, inr, ℕ, List, ◌&&◌, ◌||◌, refl, sym, ap, subst, ◌∙◌, ℤ, Option, Some, None}
use Rattle.std.specs.Prelude.{if◌then◌else◌}
use Rattle.f77_ast.specs.declared.expr.BinaryOp.{BinaryOp}
use Rattle.f77_ast.specs.declared.expr.BinaryOp.TheVariants as op
use Rattle.f77_ast.specs.Trees.{ExprTree}
use Rattle.f77_ast.specs.Trees as tree
use Rattle.f77_ast.specs.Store.{Tag, Content, content}
use Rattle.f77_ast.specs.Faults.{Fault}
use Rattle.f77_ast.specs.Steps.{◌>>=◌}
use Rattle.f77_ast.specs.Numbers as number
use Rattle.f77_ast.specs.Places.{Meant, Variable, Names, Places}
use Rattle.f77_ast.specs.Values.{value, name_target}
use Rattle.f77_ast.specs.Writes.{Locks, written, write}
use Rattle.laws_interleavings.specs.Reductions.{ReduceOp, Sum, Max, Min, And, Or, tag_of, Accumulator, operator_at}
use Rattle.laws_interleavings.specs.Rides.{Phase, Outside, Inside, Accumulates}
use Rattle.laws_interleavings.specs.Accumulating.{is_sum, sum_value}
use Rattle.laws_interleavings.specs.Accumulated.{IsClear, Joins, Adds, First, Last, FirstOfTwo, LastOfTwo}
use Rattle.laws_interleavings.proofs.Accumulating.To.{RidesTo, rides_then, Same}
use Rattle.laws_interleavings.proofs.Accumulating.Chains.{Opened}
use Rattle.laws_interleavings.proofs.Accumulating.Added.{Amount, add_first, add_last}
use Rattle.laws_interleavings.proofs.Accumulating.Truths.{and_laws, or_laws, join_first, join_last}
use Rattle.laws_interleavings.proofs.Accumulating.Greatest.{max_laws, min_laws, pick_first, pick_last}

module _ (as' : List Accumulator) (w : Names) (at : Places) (x : List ℕ) (v : ℕ) (stands : w x ≡ Variable v) where
  last_sum : (one : operator_at as' (at v).first ≡ Some Sum) (tag : (at v).tag ≡ tag_of Sum) (o : BinaryOp) (a : ExprTree) → Joins Sum o → ((o ≡ op.Sub) → ⊥) → IsClear as' w at a →
      RidesTo as' (Opened as' w at x v stands Sum one tag (Amount Sum)) Outside (value (tree.binary o a (tree.name x)) w at) (sum_value x (tree.binary o a (tree.name x)) w at)
  last_sum one tag o a (inl e) minus ca =
      subst (λ o. RidesTo as' (Opened as' w at x v stands Sum one tag (Amount Sum)) Outside (value (tree.binary o a (tree.name x)) w at) (sum_value x (tree.binary o a (tree.name x)) w at)) (sym e) (add_last as' w at x v stands one tag a ca)
  last_sum one tag o a (inr e) minus ca = absurd (minus e)

  pub adds_ride : (p : ReduceOp) (one : operator_at as' (at v).first ≡ Some p) (tag : (at v).tag ≡ tag_of p) (b : ExprTree) → Adds p x w (IsClear as' w at) b →
      RidesTo as' (Opened as' w at x v stands p one tag (Amount p)) Outside (value b w at) (if is_sum p then sum_value x b w at else value b w at)
  adds_ride Sum one tag e (First o a b j ca cb) = add_first as' w at x v stands one tag o a b j ca cb
  adds_ride Sum one tag e (Last o a j minus ca) = last_sum one tag o a j minus ca
  adds_ride Sum one tag e (FirstOfTwo f b isf fn cb) = absurd fn
  adds_ride Sum one tag e (LastOfTwo f a isf fn ca) = absurd fn
  adds_ride Max one tag e (First o a b j ca cb) = absurd j
  adds_ride Max one tag e (Last o a j minus ca) = absurd j
  adds_ride Max one tag e (FirstOfTwo f b isf fn cb) = pick_first Max number.Max max_laws as' w at x v stands one tag f b isf fn cb
  adds_ride Max one tag e (LastOfTwo f a isf fn ca) = pick_last Max number.Max max_laws as' w at x v stands one tag f a isf fn ca
  adds_ride Min one tag e (First o a b j ca cb) = absurd j
  adds_ride Min one tag e (Last o a j minus ca) = absurd j
  adds_ride Min one tag e (FirstOfTwo f b isf fn cb) = pick_first Min number.Min min_laws as' w at x v stands one tag f b isf fn cb
  adds_ride Min one tag e (LastOfTwo f a isf fn ca) = pick_last Min number.Min min_laws as' w at x v stands one tag f a isf fn ca
  adds_ride And one tag e (First o a b j ca cb) = join_first And op.And (λ a b. a && b) and_laws as' w at x v stands one tag o a b j ca cb
  adds_ride And one tag e (Last o a j minus ca) = join_last And op.And (λ a b. a && b) and_laws as' w at x v stands one tag o a j ca
  adds_ride And one tag e (FirstOfTwo f b isf fn cb) = absurd fn
  adds_ride And one tag e (LastOfTwo f a isf fn ca) = absurd fn
  adds_ride Or one tag e (First o a b j ca cb) = join_first Or op.Or (λ a b. a || b) or_laws as' w at x v stands one tag o a b j ca cb
  adds_ride Or one tag e (Last o a j minus ca) = join_last Or op.Or (λ a b. a || b) or_laws as' w at x v stands one tag o a j ca
  adds_ride Or one tag e (FirstOfTwo f b isf fn cb) = absurd fn
  adds_ride Or one tag e (LastOfTwo f a isf fn ca) = absurd fn

-- ---- the write

module _ (as' : List Accumulator) (w : Names) (at : Places) (x : List ℕ) (v : ℕ) (stands : w x ≡ Variable v) (p : ReduceOp) (one : operator_at as' (at v).first ≡ Some p) (tag : (at v).tag ≡ tag_of p) (locked : Locks) where
  writes_unit : (m n : ℤ) (c d : Content) → Accumulates p m n c d → RidesTo as' Same (Inside ((at v).first) p m n) (write locked ((at v).first) c) (write locked ((at v).first) d)
  writes_unit m n c d h = go (locked ((at v).first))
    where
      go : (o : Option Fault) → RidesTo as' Same (Inside ((at v).first) p m n) (written o ((at v).first) c) (written o ((at v).first) d)
      go None = (refl, refl, h, refl)
      go (Some f) = tt

  amounts : (t : Tag) → t ≡ tag_of p → (m n c d : ℤ) → Amount p m n c d → Accumulates p m n (content t c) (content t d)
  amounts t e m n c d h = record {
    amount = h.amount;
    first = ap (λ t. content t c) e ∙ ap (content (tag_of p)) h.first;
    second = ap (λ t. content t d) e ∙ ap (content (tag_of p)) h.second;
  }

  -- after the right side
  writes_so : (ph : Phase) (c d : Content) → Opened as' w at x v stands p one tag (Amount p) ph c d →
      RidesTo as' Same ph (write locked ((at v).first) (content ((at v).tag) c.number)) (write locked ((at v).first) (content ((at v).tag) d.number))
  writes_so Outside c d q = absurd q
  writes_so (Inside y o m n) c d q =
      subst (λ y. RidesTo as' Same (Inside y o m n) (write locked ((at v).first) (content ((at v).tag) c.number)) (write locked ((at v).first) (content ((at v).tag) d.number))) (sym q.0)
      (subst (λ o. RidesTo as' Same (Inside ((at v).first) o m n) (write locked ((at v).first) (content ((at v).tag) c.number)) (write locked ((at v).first) (content ((at v).tag) d.number))) (sym q.1)
      (writes_unit m n (content ((at v).tag) c.number) (content ((at v).tag) d.number) (amounts ((at v).tag) tag m n c.number d.number q.2)))

  pub accumulation_rides : (b : ExprTree) → Adds p x w (IsClear as' w at) b →
      RidesTo as' Same Outside (value b w at >>= λ c. name_target (w x) at >>= λ t. write locked t.unit (content t.tag c.number))
      ((if is_sum p then sum_value x b w at else value b w at) >>= λ c. name_target (w x) at >>= λ t. write locked t.unit (content t.tag c.number))
  accumulation_rides b h =
      subst (λ (m : Meant). RidesTo as' Same Outside (value b w at >>= λ c. name_target m at >>= λ t. write locked t.unit (content t.tag c.number))
      ((if is_sum p then sum_value x b w at else value b w at) >>= λ c. name_target m at >>= λ t. write locked t.unit (content t.tag c.number))) (sym stands)
      (rides_then as' (Opened as' w at x v stands p one tag (Amount p)) Same Outside (value b w at) (if is_sum p then sum_value x b w at else value b w at)
      (λ c. write locked ((at v).first) (content ((at v).tag) c.number)) (λ c. write locked ((at v).first) (content ((at v).tag) c.number)) (adds_ride as' w at x v stands p one tag b h) writes_so)
