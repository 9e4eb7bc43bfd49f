-- Computations that only look at units, and what they give.
use Rattle.std.proofs.Common.{◌≡◌, ℕ, List, [], ◌∷◌, Bool, true, false, Option, Some, None, ℤ, refl}
use Rattle.std.specs.Prelude.{if◌then◌else◌}
use Rattle.f77_ast.specs.Trees.{ExprTree, ExprTrees}
use Rattle.f77_ast.specs.Trees as tree
use Rattle.f77_ast.specs.Store.{Tag, Int, Log, Content, content, Store, same_tag, truth}
use Rattle.f77_ast.specs.Faults.{Unset}
use Rattle.f77_ast.specs.Steps.{Steps, Done, Breaks, Look, Set, Hold, Forget, Show, Take, Arrive, ◌>>=◌}
use Rattle.f77_ast.specs.Numbers.{unary_number, unary_tag, binary_number, binary_tag, Intrinsic, intrinsic_named, intrinsic_number}
use Rattle.f77_ast.specs.Runs.{Whole, run}
use Rattle.f77_ast.specs.Places.{Meant, Constant, Variable, Function, Names, Place, Places, element_in}
use Rattle.f77_ast.specs.Values.{fault, given, of_type, read_unit, unit_after, element_unit, name_value, intrinsic_value, element_value, value, values}
use Rattle.f77_ast.specs.Executions.{AtEndOf}
use Rattle.fx_lists.proofs.Every.{Anything}

-- it looks at units and does nothing else, and this holds of what it gives, whatever it finds
abbrev pub Asks : {A : Type 0} → (A → Type 0) → Steps A → Type 0
Asks P (Done a) = P a
Asks P (Breaks b) = Unit {0}
Asks P (Look u k) = (c : Content) → Asks P (k c)
Asks P (Set u c t) = ⊥
Asks P (Hold u c t) = ⊥
Asks P (Forget u t) = ⊥
Asks P (Show xs t) = ⊥
Asks P (Take k) = ⊥
Asks P (Arrive p t) = ⊥

pub asks_then : {A B : Type 0} (P : A → Type 0) (Q : B → Type 0) (t : Steps A) (f : A → Steps B) → Asks P t → ((a : A) → P a → Asks Q (f a)) → Asks Q (t >>= f)
asks_then P Q (Done a) f h go = go a h
asks_then P Q (Breaks b) f h go = tt
asks_then P Q (Look u k) f h go = λ c. asks_then P Q (k c) f (h c) go
asks_then P Q (Set u c t) f h go = absurd h
asks_then P Q (Hold u c t) f h go = absurd h
asks_then P Q (Forget u t) f h go = absurd h
asks_then P Q (Show xs t) f h go = absurd h
asks_then P Q (Take k) f h go = absurd h
asks_then P Q (Arrive p t) f h go = absurd h

pub asks_weaker : {A : Type 0} (P Q : A → Type 0) (t : Steps A) → Asks P t → ((a : A) → P a → Q a) → Asks Q t
asks_weaker P Q (Done a) h f = f a h
asks_weaker P Q (Breaks b) h f = tt
asks_weaker P Q (Look u k) h f = λ c. asks_weaker P Q (k c) (h c) f
asks_weaker P Q (Set u c t) h f = absurd h
asks_weaker P Q (Hold u c t) h f = absurd h
asks_weaker P Q (Forget u t) h f = absurd h
asks_weaker P Q (Show xs t) h f = absurd h
asks_weaker P Q (Take k) h f = absurd h
asks_weaker P Q (Arrive p t) h f = absurd h

pub asks_run : {A : Type 0} (P : A → Type 0) (t : Steps A) (s : Store) (i : List Content) → Asks P t → AtEndOf (run t (Whole s) i) (λ a z j. (z ≡ s) × (j ≡ i) × P a)
asks_run P (Done a) s i h = (refl, refl, h)
asks_run P (Breaks b) s i h = tt
asks_run P (Look u k) s i h = asks_run P (k (s u)) s i (h (s u))
asks_run P (Set u c t) s i h = absurd h
asks_run P (Hold u c t) s i h = absurd h
asks_run P (Forget u t) s i h = absurd h
asks_run P (Show xs t) s i h = absurd h
asks_run P (Take k) s i h = absurd h
asks_run P (Arrive p t) s i h = absurd h

-- ---- expressions

given_asks : (t : Tag) (o : Option ℤ) → Asks Anything (given t o)
given_asks t None = tt
given_asks t (Some n) = tt

typed_asks : (t : Tag) (c : Content) → Asks Anything (of_type t c)
typed_asks t c = go (same_tag t c.tag)
  where
    go : (b : Bool) → Asks Anything (if b then Done c else fault Unset)
    go true = tt
    go false = tt

read_asks : (t : Tag) (u : ℕ) → Asks Anything (read_unit t u)
read_asks t u = λ c. typed_asks t c

name_asks : (m : Meant) (at : Places) → Asks Anything (name_value m at)
name_asks (Constant c) at = tt
name_asks (Variable v) at = read_asks (at v).tag (at v).first
name_asks Function at = tt

after_asks : (u : ℕ) (o : Option ℕ) → Asks Anything (unit_after u o)
after_asks u None = tt
after_asks u (Some k) = tt

intrinsic_asks : (f : Option Intrinsic) (ns : List ℤ) → Asks Anything (intrinsic_value f ns)
intrinsic_asks None ns = tt
intrinsic_asks (Some f) ns = given_asks Int (intrinsic_number f ns)

element_asks : (m : Meant) (x : List ℕ) (at : Places) (ns : List ℤ) → Asks Anything (element_value m x at ns)
element_asks (Constant c) x at ns = tt
element_asks (Variable v) x at ns = asks_then Anything Anything (element_unit (at v) ns) (read_unit (at v).tag) (after_asks (at v).first (element_in (at v) ns)) (λ u h. read_asks (at v).tag u)
element_asks Function x at ns = intrinsic_asks (intrinsic_named x) ns

module _ (w : Names) (at : Places) where
  mutual
    pub value_asks : (e : ExprTree) → Asks Anything (value e w at)
    value_asks (tree.int n) = tt
    value_asks (tree.log b) = tt
    value_asks (tree.name x) = name_asks (w x) at
    value_asks (tree.element x es) = asks_then Anything Anything (values es w at) (element_value (w x) x at) (values_ask es) (λ ns h. element_asks (w x) x at ns)
    value_asks (tree.paren e) = value_asks e
    value_asks (tree.unary o e) = asks_then Anything Anything (value e w at) (λ c. given (unary_tag o) (unary_number o c.number)) (value_asks e) (λ c h. given_asks (unary_tag o) (unary_number o c.number))
    value_asks (tree.binary o a b) =
        asks_then Anything Anything (value a w at) (λ c. value b w at >>= λ d. given (binary_tag o) (binary_number o c.number d.number)) (value_asks a)
        (λ c h. asks_then Anything Anything (value b w at) (λ d. given (binary_tag o) (binary_number o c.number d.number)) (value_asks b) (λ d k. given_asks (binary_tag o) (binary_number o c.number d.number)))
    value_asks (tree.chars x) = tt

    pub values_ask : (es : ExprTrees) → Asks Anything (values es w at)
    values_ask tree.no_exprs = tt
    values_ask (tree.more_exprs e es) =
        asks_then Anything Anything (value e w at) (λ c. values es w at >>= λ ns. Done (c.number ∷ ns)) (value_asks e) (λ c h. asks_then Anything Anything (values es w at) (λ ns. Done (c.number ∷ ns)) (values_ask es) (λ ns k. tt))
