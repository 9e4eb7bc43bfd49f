-- Right sides that accumulate whether all, or some, conditions hold.
use Rattle.std.proofs.Common.{◌≡◌, ℕ, List, Bool, true, false, ◌&&◌, ◌||◌, refl, sym, ap, subst, ◌∙◌, ℤ, Some}
use Rattle.f77_ast.specs.declared.expr.BinaryOp.{BinaryOp}
use Rattle.f77_ast.specs.declared.expr.BinaryOp.TheVariants as op
use Rattle.f77_ast.specs.Trees.{ExprTree}
use Rattle.f77_ast.specs.Trees as tree
use Rattle.f77_ast.specs.Store.{Log, Content, content, truth}
use Rattle.f77_ast.specs.Steps.{Steps, Done, ◌>>=◌}
use Rattle.f77_ast.specs.Numbers.{is_true, binary_tag, binary_number}
use Rattle.f77_ast.specs.Places.{Variable, Names, Places}
use Rattle.f77_ast.specs.Values.{given, value}
use Rattle.laws_interleavings.specs.Reductions.{ReduceOp, And, Or, tag_of, joined, Accumulator, operator_at}
use Rattle.laws_interleavings.specs.Rides.{Phase, Outside, Inside}
use Rattle.laws_interleavings.specs.Accumulated.{IsClear, Joins, IsChain}
use Rattle.laws_interleavings.proofs.Accumulating.To.{RidesTo, rides_then, rides_alone, reads_clear, Both}
use Rattle.laws_interleavings.proofs.Accumulating.Reading.{reads_value}
use Rattle.laws_interleavings.proofs.Accumulating.Chains.{Opened, opens, one_more}
use Rattle.laws_interleavings.proofs.Accumulating.Added.{Amount}
use Rattle.f77_ast.proofs.Shared.{truth_true}

-- of .AND. and .OR.
pub record Laws (p : ReduceOp) (o : BinaryOp) (f : Bool → Bool → Bool) : Type 0 where
  pub only : (q : BinaryOp) → Joins p q → q ≡ o
  pub gives : (c k : ℤ) → given (binary_tag o) (binary_number o c k) ≡ Done (content Log (truth (f (is_true c) (is_true k))))
  pub join : (m a : ℤ) → joined p m a ≡ truth (f (is_true m) (is_true a))
  pub none : Bool
  pub none_more : (a : Bool) → a ≡ f a none
  pub assoc : (a b c : Bool) → f (f a b) c ≡ f a (f b c)
  pub comm : (a b : Bool) → f a b ≡ f b a

pub and_laws : Laws And op.And (λ a b. a && b)
and_laws = record {
  only = λ q h. h;
  gives = λ c k. refl;
  join = λ m a. refl;
  none = true;
  none_more = λ a. unit a;
  assoc = λ a b c. assoc a b c;
  comm = λ a b. comm a b;
}
  where
    unit : (a : Bool) → a ≡ (a && true)
    unit true = refl
    unit false = refl

    assoc : (a b c : Bool) → ((a && b) && c) ≡ (a && (b && c))
    assoc true b c = refl
    assoc false b c = refl

    comm : (a b : Bool) → (a && b) ≡ (b && a)
    comm true true = refl
    comm true false = refl
    comm false true = refl
    comm false false = refl

pub or_laws : Laws Or op.Or (λ a b. a || b)
or_laws = record {
  only = λ q h. h;
  gives = λ c k. refl;
  join = λ m a. refl;
  none = false;
  none_more = λ a. unit a;
  assoc = λ a b c. assoc a b c;
  comm = λ a b. comm a b;
}
  where
    unit : (a : Bool) → a ≡ (a || false)
    unit true = refl
    unit false = refl

    assoc : (a b c : Bool) → ((a || b) || c) ≡ (a || (b || c))
    assoc true b c = refl
    assoc false b c = refl

    comm : (a b : Bool) → (a || b) ≡ (b || a)
    comm true true = refl
    comm true false = refl
    comm false true = refl
    comm false false = refl

module _ (p : ReduceOp) (o : BinaryOp) (f : Bool → Bool → Bool) (laws : Laws p o f) (as' : List Accumulator) (w : Names) (at : Places) (x : List ℕ) (v : ℕ) (stands : w x ≡ Variable v) (one : operator_at as' (at v).first ≡ Some p) (tag : (at v).tag ≡ tag_of p) where
  abbrev Open : (ℤ → ℤ → ℤ → ℤ → Type 0) → Phase → Content → Content → Type 0
  Open R = Opened as' w at x v stands p one tag R

  -- what has been joined so far, by both
  record So (m n c d : ℤ) : Type 0 where
    amount : Bool
    first : is_true c ≡ f (is_true m) amount
    second : is_true d ≡ f (is_true n) amount

  none_yet : (m n : ℤ) → So m n m n
  none_yet m n = record { amount = laws.none; first = laws.none_more (is_true m); second = laws.none_more (is_true n) }

  more_side : (c m : ℤ) (a b : Bool) → is_true c ≡ f (is_true m) a → is_true (truth (f (is_true c) b)) ≡ f (is_true m) (f a b)
  more_side c m a b e = truth_true (f (is_true c) b) ∙ ap (λ z. f z b) e ∙ laws.assoc (is_true m) a b

  more : (m n c d k : ℤ) → So m n c d → So m n (truth (f (is_true c) (is_true k))) (truth (f (is_true d) (is_true k)))
  more m n c d k h = record { amount = f h.amount (is_true k); first = more_side c m h.amount (is_true k) h.first; second = more_side d n h.amount (is_true k) h.second }

  end_side : (c m : ℤ) (a b : Bool) → is_true c ≡ f (is_true m) a → truth (f (is_true c) b) ≡ joined p m (truth (f a b))
  end_side c m a b e = ap (λ z. truth (f z b)) e ∙ ap truth (laws.assoc (is_true m) a b) ∙ ap (λ z. truth (f (is_true m) z)) (sym (truth_true (f a b))) ∙ sym (laws.join m (truth (f a b)))

  ended : (m n c d k : ℤ) → So m n c d → Amount p m n (truth (f (is_true c) (is_true k))) (truth (f (is_true d) (is_true k)))
  ended m n c d k h = record { amount = truth (f h.amount (is_true k)); first = end_side c m h.amount (is_true k) h.first; second = end_side d n h.amount (is_true k) h.second }

  step : (q : BinaryOp) → Joins p q → (R : ℤ → ℤ → ℤ → ℤ → Type 0) → ((m n c d k : ℤ) → So m n c d → R m n (truth (f (is_true c) (is_true k))) (truth (f (is_true d) (is_true k)))) →
      (m n c d k : ℤ) → So m n c d → RidesTo as' (Opened as' w at x v stands p one tag R) (Inside ((at v).first) p m n) (given (binary_tag q) (binary_number q c k)) (given (binary_tag q) (binary_number q d k))
  step q j R h m n c d k r =
      subst (λ q. RidesTo as' (Opened as' w at x v stands p one tag R) (Inside ((at v).first) p m n) (given (binary_tag q) (binary_number q c k)) (given (binary_tag q) (binary_number q d k))) (sym (laws.only q j))
      (subst (λ (t : Steps Content). RidesTo as' (Opened as' w at x v stands p one tag R) (Inside ((at v).first) p m n) t (given (binary_tag o) (binary_number o d k))) (sym (laws.gives c k))
      (subst (λ (t : Steps Content). RidesTo as' (Opened as' w at x v stands p one tag R) (Inside ((at v).first) p m n) (Done (content Log (truth (f (is_true c) (is_true k))))) t) (sym (laws.gives d k)) (refl, refl, h m n c d k r)))

  chain : (e : ExprTree) → IsChain p x (IsClear as' w at) e → RidesTo as' (Opened as' w at x v stands p one tag So) Outside (value e w at) (value e w at)
  chain (tree.int n) h = absurd h
  chain (tree.log b) h = absurd h
  chain (tree.name y) h = subst (λ y. RidesTo as' (Opened as' w at x v stands p one tag So) Outside (value (tree.name y) w at) (value (tree.name y) w at)) (sym h) (opens as' w at x v stands p one tag So none_yet)
  chain (tree.element y es) h = absurd h
  chain (tree.paren e) h = absurd h
  chain (tree.unary q e) h = absurd h
  chain (tree.binary q a b) h =
      one_more as' w at x v stands p one tag So (Opened as' w at x v stands p one tag So) q (λ d k. given (binary_tag q) (binary_number q d k)) (step q h.0 So more) b h.2 (value a w at) (value a w at) (chain a h.1)
  chain (tree.chars t) h = absurd h

  pub join_first : (q : BinaryOp) (a b : ExprTree) → Joins p q → IsChain p x (IsClear as' w at) a → IsClear as' w at b →
      RidesTo as' (Opened as' w at x v stands p one tag (Amount p)) Outside (value (tree.binary q a b) w at) (value (tree.binary q a b) w at)
  join_first q a b j ca cb =
      one_more as' w at x v stands p one tag So (Opened as' w at x v stands p one tag (Amount p)) q (λ d k. given (binary_tag q) (binary_number q d k)) (step q j (Amount p) ended) b cb (value a w at) (value a w at) (chain a ca)

  -- ---- e.AND.V

  record Read (m n c d : ℤ) : Type 0 where
    first : c ≡ m
    second : d ≡ n

  was_read : (m n : ℤ) → Read m n m n
  was_read m n = record { first = refl; second = refl }

  -- the operand before it has this number
  last_side : (k c m : ℤ) → c ≡ m → truth (f (is_true k) (is_true c)) ≡ joined p m k
  last_side k c m e = ap (λ z. truth (f (is_true k) (is_true z))) e ∙ ap truth (laws.comm (is_true k) (is_true m)) ∙ sym (laws.join m k)

  last_given : (k : ℤ) (ph : Phase) (c d : Content) → Opened as' w at x v stands p one tag Read ph c d →
      RidesTo as' (Opened as' w at x v stands p one tag (Amount p)) ph (given (binary_tag o) (binary_number o k c.number)) (given (binary_tag o) (binary_number o k d.number))
  last_given k Outside c d q = absurd q
  last_given k (Inside y r m n) c d q =
      subst (λ (t : Steps Content). RidesTo as' (Opened as' w at x v stands p one tag (Amount p)) (Inside y r m n) t (given (binary_tag o) (binary_number o k d.number))) (sym (laws.gives k c.number))
      (subst (λ (t : Steps Content). RidesTo as' (Opened as' w at x v stands p one tag (Amount p)) (Inside y r m n) (Done (content Log (truth (f (is_true k) (is_true c.number))))) t) (sym (laws.gives k d.number))
      (q.0, q.1, record { amount = k; first = last_side k c.number m q.2.first; second = last_side k d.number n q.2.second }))

  last_operand : (ph : Phase) (k l : Content) → Both as' Outside ph k l →
      RidesTo as' (Opened as' w at x v stands p one tag (Amount p)) ph (value (tree.name x) w at >>= λ c. given (binary_tag o) (binary_number o k.number c.number)) (value (tree.name x) w at >>= λ c. given (binary_tag o) (binary_number o l.number c.number))
  last_operand ph k l both =
      subst (λ ph. RidesTo as' (Opened as' w at x v stands p one tag (Amount p)) ph (value (tree.name x) w at >>= λ c. given (binary_tag o) (binary_number o k.number c.number)) (value (tree.name x) w at >>= λ c. given (binary_tag o) (binary_number o l.number c.number))) (sym both.0)
      (subst (λ (l : Content). RidesTo as' (Opened as' w at x v stands p one tag (Amount p)) Outside (value (tree.name x) w at >>= λ c. given (binary_tag o) (binary_number o k.number c.number)) (value (tree.name x) w at >>= λ c. given (binary_tag o) (binary_number o l.number c.number))) both.1
      (rides_then as' (Opened as' w at x v stands p one tag Read) (Opened as' w at x v stands p one tag (Amount p)) Outside (value (tree.name x) w at) (value (tree.name x) w at)
      (λ c. given (binary_tag o) (binary_number o k.number c.number)) (λ c. given (binary_tag o) (binary_number o k.number c.number)) (opens as' w at x v stands p one tag Read was_read) (last_given k.number)))

  pub join_last : (q : BinaryOp) (a : ExprTree) → Joins p q → IsClear as' w at a →
      RidesTo as' (Opened as' w at x v stands p one tag (Amount p)) Outside (value (tree.binary q a (tree.name x)) w at) (value (tree.binary q a (tree.name x)) w at)
  join_last q a j ca =
      subst (λ q. RidesTo as' (Opened as' w at x v stands p one tag (Amount p)) Outside (value (tree.binary q a (tree.name x)) w at) (value (tree.binary q a (tree.name x)) w at)) (sym (laws.only q j))
      (rides_then as' (Both as' Outside) (Opened as' w at x v stands p one tag (Amount p)) Outside (value a w at) (value a w at)
      (λ k. value (tree.name x) w at >>= λ c. given (binary_tag o) (binary_number o k.number c.number)) (λ k. value (tree.name x) w at >>= λ c. given (binary_tag o) (binary_number o k.number c.number))
      (rides_alone as' (value a w at) (reads_clear as' (value a w at) (reads_value as' w at a ca))) last_operand)
