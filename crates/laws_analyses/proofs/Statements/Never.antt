-- Lists whose last statement never ends normally: no such list ends normally.
use Rattle.std.proofs.Common.{◌≡◌, ℕ, zero, suc, ◌||◌, List, [], ◌∷◌, Bool, true, false, refl, sym, true≢false}
use Rattle.std.specs.Prelude.{if◌then◌else◌}
use Rattle.f77_ast.specs.Store.{Content, Store}
use Rattle.f77_ast.specs.Steps.{OutOfTurns}
use Rattle.f77_ast.specs.Runs.{Answer, Gave, Broke, Ran, store_of}
use Rattle.f77_ast.specs.Plans.{Flow, Normal, Jump, Returned, Stopped, Plan, Ends, Breaks, ◌▹◌}
use Rattle.f77_ast.specs.Executions.{run_of, AtEnd, AtEndOf, Claim}
use Rattle.f77_ast.specs.Lists.{Part, is_label, has_label, from_label, go_on, in_order, with_jumps}
use Rattle.laws_analyses.specs.Statements.Good.{Ending, Good}
use Rattle.laws_analyses.proofs.Statements.Ends.{both, more, ends_then}

abbrev pub NotNormal : Flow → Type 0
NotNormal Normal = ⊥
NotNormal (Jump l) = Unit {0}
NotNormal Returned = Unit {0}
NotNormal Stopped = Unit {0}

-- it never ends normally, whatever the store is
abbrev pub Never : Plan → Type 0
Never t = (s : Store) → Ending t s (λ f z. NotNormal f)

-- what holds of each end holds where it ends
at_any : {A : Type 0} (a : Answer A) (s : Store) (i : List Content) (P : A → Store → List Content → Type 0) → ((x : A) (z : Store) (j : List Content) → P x z j) → AtEnd a s i P
at_any (Gave a) s i P h = h a s i
at_any (Broke b) s i P h = tt

any_end : {A : Type 0} (q : Ran A) (P : A → Store → List Content → Type 0) → ((x : A) (z : Store) (j : List Content) → P x z j) → AtEndOf q P
any_end q P h = at_any q.answer (store_of q.memory) q.input P h

-- one plan after the other, of which the second does not
never_then : (t : Plan) (f : Flow → Plan) → ((g : Flow) → Never (f g)) → Never (t ▹ f)
never_then t f h s i = ends_then t f s i (λ g z j. NotNormal g) (any_end (run_of t s i) (λ g z j. AtEndOf (run_of (f g) z j) (λ x y l. NotNormal x)) (λ g z j. h g z j))

-- of which neither does
never_both : (t : Plan) (f : Flow → Plan) → Never t → ((g : Flow) → NotNormal g → Never (f g)) → Never (t ▹ f)
never_both t f n h s i =
    ends_then t f s i (λ g z j. NotNormal g)
    (more (run_of t s i) (λ g z j. NotNormal g) (λ g z j. AtEndOf (run_of (f g) z j) (λ x y l. NotNormal x)) (λ g z j k. h g k z j) (n s i))

-- the last of some parts does not
abbrev pub LastNever : List Part → Type 0
LastNever [] = ⊥
LastNever (q ∷ []) = Never q.does
LastNever (q ∷ r ∷ qs) = LastNever (r ∷ qs)

module _ (jump : ℕ → Plan) (all : List Part) (jumps : (l : ℕ) → has_label l all ≡ true → Never (jump l)) where
  jump_never : (l : ℕ) → Never (if has_label l all then jump l else Ends (Jump l))
  jump_never l = go (has_label l all) refl
    where
      go : (b : Bool) → has_label l all ≡ b → Never (if b then jump l else Ends (Jump l))
      go true e = jumps l e
      go false e = λ s i. tt

  after_end : (rest : Plan) → Never rest → (g : Flow) → Never (go_on jump all rest g)
  after_end rest h Normal = h
  after_end rest h (Jump l) = jump_never l
  after_end rest h Returned = λ s i. tt
  after_end rest h Stopped = λ s i. tt

  after_last : (g : Flow) → NotNormal g → Never (go_on jump all (Ends Normal) g)
  after_last Normal h = absurd h
  after_last (Jump l) h = jump_never l
  after_last Returned h = λ s i. tt
  after_last Stopped h = λ s i. tt

  in_order_never : (qs : List Part) → LastNever qs → Never (in_order jump all qs)
  in_order_never [] h = absurd h
  in_order_never (q ∷ []) h = never_both q.does (go_on jump all (Ends Normal)) h after_last
  in_order_never (q ∷ r ∷ qs) h = never_then q.does (go_on jump all (in_order jump all (r ∷ qs))) (after_end (in_order jump all (r ∷ qs)) (in_order_never (r ∷ qs) h))

from_never : (l : ℕ) (qs : List Part) → has_label l qs ≡ true → LastNever qs → LastNever (from_label l qs)
from_never l [] e h = absurd h
from_never l (q ∷ []) e h = go (is_label l q.label) e
  where
    go : (b : Bool) → (b || false) ≡ true → LastNever (if b then q ∷ [] else [])
    go true k = h
    go false k = absurd (true≢false (sym k))
from_never l (q ∷ r ∷ qs) e h = go (is_label l q.label) e (λ k. from_never l (r ∷ qs) k h)
  where
    go : (b : Bool) → (b || has_label l (r ∷ qs)) ≡ true → (has_label l (r ∷ qs) ≡ true → LastNever (from_label l (r ∷ qs))) → LastNever (if b then q ∷ r ∷ qs else from_label l (r ∷ qs))
    go true k ih = h
    go false k ih = ih k

pub jumps_never : (n : ℕ) (all qs : List Part) → LastNever all → LastNever qs → Never (with_jumps n all qs)
jumps_never zero all qs h k = in_order_never (λ l. Breaks OutOfTurns) all (λ l e s i. tt) qs k
jumps_never (suc n) all qs h k =
    in_order_never (λ l. with_jumps n all (from_label l all)) all (λ l e. jumps_never n all (from_label l all) h (from_never l all e h)) qs k

-- with what else is known of its end
pub good_never : (C : Claim) (t : Plan) (s : Store) (Q : Flow → Store → Type 0) → Never t → Good C t s Q → Good C t s (λ f z. Q f z × NotNormal f)
good_never C t s Q n g = record {
  inside = g.inside;
  ending = λ i. both (run_of t s i) (λ f z j. Q f z) (λ f z j. NotNormal f) (λ f z j. Q f z × NotNormal f) (λ f z j a b. (a, b)) (g.ending i) (n s i);
}
