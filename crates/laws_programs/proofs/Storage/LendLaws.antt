-- What actuals lend.
use Rattle.std.proofs.Common.{◌≡◌, ℕ, suc, ◌<◌, Bool, true, false, List, ◌∷◌, Option, Some, None, refl, arith}
use Rattle.std.specs.Prelude.{if◌then◌else◌, nat_lt}
use Rattle.std.proofs.lemmas.Bool.{ltb-true}
use Rattle.f77_ast.specs.Trees.{ExprTree, ExprTrees}
use Rattle.f77_ast.specs.Trees as tree
use Rattle.f77_ast.specs.Store.{Content, Store, put, undefined}
use Rattle.f77_ast.specs.Steps.{Steps, Done, Breaks, Look, Set, Hold, Forget, Show, Take, Arrive, ◌>>=◌}
use Rattle.f77_ast.specs.Runs.{Whole, run}
use Rattle.f77_ast.specs.Runs as runs
use Rattle.f77_ast.specs.Places.{Meant, Constant, Variable, Function, Place, Places, within, position, element_in}
use Rattle.f77_ast.specs.Values.{value, values}
use Rattle.f77_ast.specs.Calls.{Actual, stored, rest_after, name_actual, element_actual, actual, actuals}
use Rattle.f77_ast.specs.Executions.{AtEndOf}
use Rattle.f77_ast.specs.Symbols.{SymbolTree}
use Rattle.f77_meaning.specs.Modules.{names}
use Rattle.laws_programs.specs.Storage.Lending.{Lends, lends_variable, lends_element, lends_value, AllLend, ActualsLend}
use Rattle.laws_programs.proofs.Storage.AskLaws.{Asks, value_asks, values_ask}
use Rattle.fx_lists.proofs.Every.{Anything}

-- ---- what a computation gives, whatever it does to the store

abbrev Gives : {A : Type 0} → (A → Type 0) → Steps A → Type 0
Gives P (Done a) = P a
Gives P (Breaks b) = Unit {0}
Gives P (Look u k) = (c : Content) → Gives P (k c)
Gives P (Set u c t) = Gives P t
Gives P (Hold u c t) = Gives P t
Gives P (Forget u t) = Gives P t
Gives P (Show xs t) = Gives P t
Gives P (Take k) = (o : Option Content) → Gives P (k o)
Gives P (Arrive p t) = Gives P t

gives_then : {A B : Type 0} (P : A → Type 0) (Q : B → Type 0) (t : Steps A) (f : A → Steps B) → Gives P t → ((a : A) → P a → Gives Q (f a)) → Gives Q (t >>= f)
gives_then P Q (Done a) f h go = go a h
gives_then P Q (Breaks b) f h go = tt
gives_then P Q (Look u k) f h go = λ c. gives_then P Q (k c) f (h c) go
gives_then P Q (Set u c t) f h go = gives_then P Q t f h go
gives_then P Q (Hold u c t) f h go = gives_then P Q t f h go
gives_then P Q (Forget u t) f h go = gives_then P Q t f h go
gives_then P Q (Show xs t) f h go = gives_then P Q t f h go
gives_then P Q (Take k) f h go = λ o. gives_then P Q (k o) f (h o) go
gives_then P Q (Arrive p t) f h go = gives_then P Q t f h go

gives_run : {A : Type 0} (P : A → Type 0) (t : Steps A) (s : Store) (i : List Content) → Gives P t → AtEndOf (run t (Whole s) i) (λ a z j. P a)
gives_run P (Done a) s i h = h
gives_run P (Breaks b) s i h = tt
gives_run P (Look u k) s i h = gives_run P (k (s u)) s i (h (s u))
gives_run P (Set u c t) s i h = gives_run P t (put s u c) i h
gives_run P (Hold u c t) s i h = gives_run P t (put s u c) i h
gives_run P (Forget u t) s i h = gives_run P t (put s u (undefined (s u))) i h
gives_run P (Show xs t) s i h = gives_run P t s i h
gives_run P (Take k) s i h = gives_run P (k (runs.first_of i)) s (runs.rest_of i) (h (runs.first_of i))
gives_run P (Arrive p t) s i h = gives_run P t s i h

-- what only looks gives so, too
asks_give : {A : Type 0} (t : Steps A) → Asks Anything t → Gives Anything t
asks_give (Done a) h = tt
asks_give (Breaks b) h = tt
asks_give (Look u k) h = λ c. asks_give (k c) (h c)
asks_give (Set u c t) h = absurd h
asks_give (Hold u c t) h = absurd h
asks_give (Forget u t) h = absurd h
asks_give (Show xs t) h = absurd h
asks_give (Take k) h = absurd h
asks_give (Arrive p t) h = absurd h

-- ---- actuals

within_less : (p : Place) (o : Option ℕ) (k : ℕ) → within p o ≡ Some k → k < p.extent
within_less p None k e = cc
within_less p (Some n) k e = go (nat_lt n p.extent) refl e
  where
    go : (b : Bool) → nat_lt n p.extent ≡ b → (if b then Some n else None) ≡ Some k → k < p.extent
    go true q h = let same : n ≡ k = cc in let less = ltb-true n p.extent q in omega (arith, same, less)
    go false q h = cc

module _ (ss : List SymbolTree) (at : Places) where
  abbrev LendsTo : ExprTree → ℕ → Actual → Type 0
  LendsTo e u x = Lends ss at e u x.place

  value_lends : (e : ExprTree) (f : ExprTree) (u : ℕ) → Gives (LendsTo e u) (value f (names ss) at >>= stored u)
  value_lends e f u = gives_then Anything (LendsTo e u) (value f (names ss) at) (stored u) (asks_give (value f (names ss) at) (value_asks (names ss) at f)) (λ c h. lends_value c.tag refl)

  name_lends : (x : List ℕ) (u : ℕ) (m : Meant) → names ss x ≡ m → Gives (LendsTo (tree.name x) u) (name_actual m at u)
  name_lends x u (Constant c) e = lends_value c.tag refl
  name_lends x u (Variable v) e = lends_variable x v refl e refl
  name_lends x u Function e = tt

  element_lends : (x : List ℕ) (es : ExprTrees) (u : ℕ) (m : Meant) → names ss x ≡ m → Gives (LendsTo (tree.element x es) u) (element_actual m (tree.element x es) es (names ss) at u)
  element_lends x es u (Constant c) e = tt
  element_lends x es u (Variable v) e =
      gives_then Anything (LendsTo (tree.element x es) u) (values es (names ss) at) (λ ns. rest_after (at v) (element_in (at v) ns)) (asks_give (values es (names ss) at) (values_ask (names ss) at es)) (λ ns h. rest (element_in (at v) ns) (λ k q. within_less (at v) (position (at v).dims ns) k q))
    where
      rest : (o : Option ℕ) → ((k : ℕ) → o ≡ Some k → k < (at v).extent) → Gives (LendsTo (tree.element x es) u) (rest_after (at v) o)
      rest None f = tt
      rest (Some k) f = lends_element x es v k refl e (f k refl) refl refl
  element_lends x es u Function e = value_lends (tree.element x es) (tree.element x es) u

  actual_lends : (e : ExprTree) (u : ℕ) → Gives (LendsTo e u) (actual e (names ss) at u)
  actual_lends (tree.name x) u = name_lends x u (names ss x) refl
  actual_lends (tree.element x es) u = element_lends x es u (names ss x) refl
  actual_lends (tree.int n) u = value_lends (tree.int n) (tree.int n) u
  actual_lends (tree.log b) u = value_lends (tree.log b) (tree.log b) u
  actual_lends (tree.paren e) u = value_lends (tree.paren e) (tree.paren e) u
  actual_lends (tree.unary o e) u = value_lends (tree.unary o e) (tree.unary o e) u
  actual_lends (tree.binary o a b) u = value_lends (tree.binary o a b) (tree.binary o a b) u
  actual_lends (tree.chars x) u = tt

  all_lend : (own_units : ℕ → ℕ) (es : ExprTrees) (k : ℕ) → Gives (AllLend ss at own_units es k) (actuals es k (names ss) at own_units)
  all_lend own_units tree.no_exprs k = tt
  all_lend own_units (tree.more_exprs e es) k =
      gives_then (LendsTo e (own_units k)) (AllLend ss at own_units (tree.more_exprs e es) k) (actual e (names ss) at (own_units k)) (λ x. actuals es (suc k) (names ss) at own_units >>= λ xs. Done (x ∷ xs)) (actual_lends e (own_units k))
      (λ x h. gives_then (AllLend ss at own_units es (suc k)) (AllLend ss at own_units (tree.more_exprs e es) k) (actuals es (suc k) (names ss) at own_units) (λ xs. Done (x ∷ xs)) (all_lend own_units es (suc k)) (λ xs q. (h, q)))

pub actuals_lend : ActualsLend
actuals_lend ss at own_units es k s i = gives_run (AllLend ss at own_units es k) (actuals es k (names ss) at own_units) s i (all_lend ss at own_units es k)
