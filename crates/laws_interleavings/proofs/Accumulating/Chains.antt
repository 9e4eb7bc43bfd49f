-- Right sides that accumulate: the value, and the value in which sums wrap, come from what the reduction variable has by one amount.
use Rattle.std.proofs.Common.{◌≡◌, ℕ, List, Bool, true, false, ◌||◌, refl, sym, ap, subst, ◌∙◌, Some, None, ℤ, bytes_eq}
use Rattle.std.specs.Prelude.{if◌then◌else◌, MatchOption}
use Rattle.std.proofs.lemmas.Slice.Eq.{bytes_eq-Decides}
use Rattle.f77_ast.specs.declared.expr.BinaryOp.{BinaryOp}
use Rattle.f77_ast.specs.Trees.{ExprTree, ExprTrees}
use Rattle.f77_ast.specs.Trees as tree
use Rattle.f77_ast.specs.Store.{Tag, Int, Log, Undefined, same_tag, Content, content}
use Rattle.f77_ast.specs.Faults.{Unset}
use Rattle.f77_ast.specs.Steps.{Steps, Done, ◌>>=◌}
use Rattle.f77_ast.specs.Numbers.{binary_tag, binary_number}
use Rattle.f77_ast.specs.Places.{Meant, Variable, Names, Places}
use Rattle.f77_ast.specs.Values.{fault, given, of_type, read_unit, name_value, value}
use Rattle.laws_interleavings.specs.Faults.{StepsFault}
use Rattle.laws_interleavings.specs.Reductions.{ReduceOp, tag_of, Accumulator, operator_at}
use Rattle.laws_interleavings.specs.Rides.{Phase, Outside, Inside}
use Rattle.laws_interleavings.specs.Accumulating.{has_name, have_name}
use Rattle.laws_interleavings.specs.Accumulated.{IsFree, IsClearName, IsClear}
use Rattle.laws_interleavings.specs.Plans.Touched.{AnyNumber, Suits, AllLeaves}
use Rattle.laws_interleavings.proofs.Accumulating.To.{RidesTo, rides_then, rides_inside, Both}
use Rattle.laws_interleavings.proofs.Accumulating.Reading.{reads_value}

same_itself : (t : Tag) → same_tag t t ≡ true
same_itself Int = refl
same_itself Log = refl
same_itself Undefined = refl

match_some : (o p : _) (A : Type 0) (B : ReduceOp → Type 0) → o ≡ Some p → B p → MatchOption o A B
match_some None p A B e h = cc
match_some (Some q) p A B e h = let same : p ≡ q = cc in subst B same h

module _ (as' : List Accumulator) (w : Names) (at : Places) (x : List ℕ) (v : ℕ) (stands : w x ≡ Variable v) (p : ReduceOp) (one : operator_at as' (at v).first ≡ Some p) (tag : (at v).tag ≡ tag_of p) where
  abbrev u : ℕ
  u = (at v).first

  abbrev C : ExprTree → Type 0
  C e = IsClear as' w at e

  -- inside an accumulation of the variable, with this relation of what was read and what is given
  abbrev pub Opened : (ℤ → ℤ → ℤ → ℤ → Type 0) → Phase → Content → Content → Type 0
  Opened R Outside c d = ⊥
  Opened R (Inside y o m n) c d = (y ≡ (at v).first) × (o ≡ p) × R m n c.number d.number

  -- ---- the read of the variable

  of_other : (t : Tag) (c : Content) → same_tag t c.tag ≡ false → StepsFault (of_type t c)
  of_other t c e = go (same_tag t c.tag) e
    where
      go : (b : Bool) → b ≡ false → StepsFault {A = Content} (if b then Done c else fault Unset)
      go true e = cc
      go false e = tt

  of_same : (R : ℤ → ℤ → ℤ → ℤ → Type 0) (t : Tag) (m n : ℤ) → R m n m n → RidesTo as' (Opened R) (Inside ((at v).first) p m n) (of_type t (content t m)) (of_type t (content t n))
  of_same R t m n r = go (same_tag t t) (same_itself t)
    where
      go : (b : Bool) → b ≡ true → RidesTo as' (Opened R) (Inside ((at v).first) p m n) (if b then Done (content t m) else fault Unset) (if b then Done (content t n) else fault Unset)
      go true e = (refl, refl, r)
      go false e = cc

  opens_unit : (R : ℤ → ℤ → ℤ → ℤ → Type 0) → ((m n : ℤ) → R m n m n) → (t : Tag) → t ≡ tag_of p → RidesTo as' (Opened R) Outside (read_unit t (at v).first) (read_unit t (at v).first)
  opens_unit R r t e =
      subst (λ t. RidesTo as' (Opened R) Outside (read_unit t (at v).first) (read_unit t (at v).first)) (sym e)
      (refl, match_some (operator_at as' (at v).first) p _ _ one ((λ c n. of_other (tag_of p) c n), (λ m n. of_same R (tag_of p) m n (r m n))))

  pub opens : (R : ℤ → ℤ → ℤ → ℤ → Type 0) → ((m n : ℤ) → R m n m n) → RidesTo as' (Opened R) Outside (value (tree.name x) w at) (value (tree.name x) w at)
  opens R r = subst (λ z. RidesTo as' (Opened R) Outside (name_value z at) (name_value z at)) (sym stands) (opens_unit R r (at v).tag tag)

  -- ---- other operands

  named_apart : (y : List ℕ) → IsClearName as' w at y → bytes_eq x y ≡ false
  named_apart y h = go (bytes_eq x y) refl
    where
      here : (m : Meant) → m ≡ Variable v → Suits (IsFree as') AnyNumber at m → ⊥
      here m e h =
          let s : Suits (IsFree as') AnyNumber at (Variable v) = subst (Suits (IsFree as') AnyNumber at) e h in
          let none : operator_at as' (at v).first ≡ None = s.0 in
          let no : None ≡ Some p = sym none ∙ one in
          cc

      go : (b : Bool) → bytes_eq x y ≡ b → b ≡ false
      go false e = refl
      go true e = absurd (here (w y) (ap w (sym ((bytes_eq-Decides x y).0 e)) ∙ stands) h)

  or_none : (a b : Bool) → a ≡ false → b ≡ false → (a || b) ≡ false
  or_none a b e f = rw e f

  mutual
    pub clear_named : (e : ExprTree) → IsClear as' w at e → has_name x e ≡ false
    clear_named (tree.int n) h = refl
    clear_named (tree.log b) h = refl
    clear_named (tree.name y) h = named_apart y h
    clear_named (tree.element y es) h = or_none (bytes_eq x y) (have_name x es) (named_apart y h.0) (clear_all es h.1)
    clear_named (tree.paren e) h = clear_named e h
    clear_named (tree.unary o e) h = clear_named e h
    clear_named (tree.binary o a b) h = or_none (has_name x a) (has_name x b) (clear_named a h.0) (clear_named b h.1)
    clear_named (tree.chars t) h = refl

    clear_all : (es : ExprTrees) → AllLeaves (IsClearName as' w at) AnyNumber es → have_name x es ≡ false
    clear_all tree.no_exprs h = refl
    clear_all (tree.more_exprs e es) h = or_none (has_name x e) (have_name x es) (clear_named e h.0) (clear_all es h.1)

  -- ---- a chain

  module _ (R : ℤ → ℤ → ℤ → ℤ → Type 0) (Q : Phase → Content → Content → Type 0) (o : BinaryOp) (second : ℤ → ℤ → Steps Content)
      (step : (m n c d k : ℤ) → R m n c d → RidesTo as' Q (Inside ((at v).first) p m n) (given (binary_tag o) (binary_number o c k)) (second d k)) (b : ExprTree) (clear : IsClear as' w at b) where
    more_inside : (y : ℕ) (q : ReduceOp) (m n : ℤ) (c d : Content) → y ≡ (at v).first → q ≡ p → R m n c.number d.number →
        RidesTo as' Q (Inside y q m n) (value b w at >>= λ k. given (binary_tag o) (binary_number o c.number k.number)) (value b w at >>= λ k. second d.number k.number)
    more_inside y q m n c d ey eq r =
        subst (λ y. RidesTo as' Q (Inside y q m n) (value b w at >>= λ k. given (binary_tag o) (binary_number o c.number k.number)) (value b w at >>= λ k. second d.number k.number)) (sym ey)
        (subst (λ q. RidesTo as' Q (Inside ((at v).first) q m n) (value b w at >>= λ k. given (binary_tag o) (binary_number o c.number k.number)) (value b w at >>= λ k. second d.number k.number)) (sym eq)
        (rides_then as' (Both as' (Inside ((at v).first) p m n)) Q (Inside ((at v).first) p m n) (value b w at) (value b w at) (λ k. given (binary_tag o) (binary_number o c.number k.number)) (λ k. second d.number k.number)
        (rides_inside as' ((at v).first) p m n (value b w at) (reads_value as' w at b clear))
        (λ ph k l both.
        subst (λ ph. RidesTo as' Q ph (given (binary_tag o) (binary_number o c.number k.number)) (second d.number l.number)) (sym both.0)
        (subst (λ (l : Content). RidesTo as' Q (Inside ((at v).first) p m n) (given (binary_tag o) (binary_number o c.number k.number)) (second d.number l.number)) both.1 (step m n c.number d.number k.number r)))))

    after : (ph : Phase) (c d : Content) → Opened R ph c d → RidesTo as' Q ph (value b w at >>= λ k. given (binary_tag o) (binary_number o c.number k.number)) (value b w at >>= λ k. second d.number k.number)
    after Outside c d q = absurd q
    after (Inside y q m n) c d h = more_inside y q m n c d h.0 h.1 h.2

    -- one operand more
    pub one_more : (t h : Steps Content) → RidesTo as' (Opened R) Outside t h →
        RidesTo as' Q Outside (t >>= λ c. value b w at >>= λ k. given (binary_tag o) (binary_number o c.number k.number)) (h >>= λ d. value b w at >>= λ k. second d.number k.number)
    one_more t h r = rides_then as' (Opened R) Q Outside t h (λ c. value b w at >>= λ k. given (binary_tag o) (binary_number o c.number k.number)) (λ d. value b w at >>= λ k. second d.number k.number) r after
