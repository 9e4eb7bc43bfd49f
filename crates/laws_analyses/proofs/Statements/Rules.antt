-- The rules for plans, whatever is claimed of executions.
use Rattle.std.proofs.Common.{◌≡◌, ℕ, List, [], ◌∷◌, Option, Some, None, refl, ap, ◌∙◌, arith, nat_eq, Bool, true, false}
use Rattle.std.specs.Prelude.{if◌then◌else◌}
use Rattle.std.proofs.lemmas.Bool.Decides.{nat_tests}
use Rattle.f77_ast.specs.Store.{Content, Store, put, undefined}
use Rattle.f77_ast.specs.Faults.{Fault}
use Rattle.f77_ast.specs.Steps.{Spot, Shown, Break, Steps}
use Rattle.f77_ast.specs.Runs.{Ran, Whole, run, first_of, rest_of}
use Rattle.f77_ast.specs.Places.{Places}
use Rattle.f77_ast.specs.Writes.{Locks, written, write}
use Rattle.f77_ast.specs.Plans.{Flow, Plan, Ends, Breaks, Look, Set, Hold, Forget, Show, Take, Within, ◌▹◌, first, steps_of}
use Rattle.f77_ast.specs.Executions.{run_of, AtEndOf, Claim}
use Rattle.f77_ast.specs.Calls.{forget_all}
use Rattle.f77_ast.proofs.StepLaws.{Leads, leads_then, first_leads}
use Rattle.f77_meaning.specs.Occurrences.{places_in}
use Rattle.laws_analyses.specs.Statements.Good.{AtEach, Ending, Good}
use Rattle.laws_analyses.proofs.Statements.Ends.{more, ends_then, each_then, each_first}

module _ (C : Claim) where
  pub good_ends : (f : Flow) (s : Store) (Q : Flow → Store → Type 0) → Q f s → Good C (Ends f) s Q
  good_ends f s Q h = record { inside = λ i. tt; ending = λ i. h }

  pub good_breaks : (b : Break) (s : Store) (Q : Flow → Store → Type 0) → Good C (Breaks b) s Q
  good_breaks b s Q = record { inside = λ i. tt; ending = λ i. tt }

  pub good_more : (t : Plan) (s : Store) (Q R : Flow → Store → Type 0) → ((f : Flow) (z : Store) → Q f z → R f z) → Good C t s Q → Good C t s R
  good_more t s Q R m g = record { inside = g.inside; ending = λ i. more (run_of t s i) (λ f z j. Q f z) (λ f z j. R f z) (λ f z j h. m f z h) (g.ending i) }

  -- one after the other
  pub good_then : (t : Plan) (f : Flow → Plan) (s : Store) (Q : Flow → Store → Type 0) → Good C t s (λ g z. Good C (f g) z Q) → Good C (t ▹ f) s Q
  good_then t f s Q h = record {
    inside = λ i. each_then C t f s i (h.inside i) (more (run_of t s i) (λ g z j. Good C (f g) z Q) (λ g z j. AtEach C (f g) z j) (λ g z j e. e.inside j) (h.ending i));
    ending = λ i. ends_then t f s i (λ x y l. Q x y) (more (run_of t s i) (λ g z j. Good C (f g) z Q) (λ g z j. AtEndOf (run_of (f g) z j) (λ x y l. Q x y)) (λ g z j e. e.ending j) (h.ending i));
  }

  -- steps, and then a plan
  pub good_first : {A : Type 0} (t : Steps A) (f : A → Plan) (s : Store) (Q : Flow → Store → Type 0) → ((i : List Content) → Leads t s i (λ a z j. Good C (f a) z Q)) → Good C (first t f) s Q
  good_first t f s Q h = record {
    inside = λ i. each_first C t f s i (more (run t (Whole s) i) (λ a z j. Good C (f a) z Q) (λ a z j. AtEach C (f a) z j) (λ a z j e. e.inside j) (h i));
    ending = λ i. first_leads t f s i (λ x y l. Q x y) (more (run t (Whole s) i) (λ a z j. Good C (f a) z Q) (λ a z j. AtEndOf (run_of (f a) z j) (λ x y l. Q x y)) (λ a z j e. e.ending j) (h i));
  }

  pub good_set : (u : ℕ) (c : Content) (t : Plan) (s : Store) (Q : Flow → Store → Type 0) → Good C t (put s u c) Q → Good C (Set u c t) s Q
  good_set u c t s Q g = record { inside = g.inside; ending = g.ending }

  pub good_hold : (u : ℕ) (c : Content) (t : Plan) (s : Store) (Q : Flow → Store → Type 0) → Good C t (put s u c) Q → Good C (Hold u c t) s Q
  good_hold u c t s Q g = record { inside = g.inside; ending = g.ending }

  pub good_forget : (u : ℕ) (t : Plan) (s : Store) (Q : Flow → Store → Type 0) → Good C t (put s u (undefined (s u))) Q → Good C (Forget u t) s Q
  good_forget u t s Q g = record { inside = g.inside; ending = g.ending }

  pub good_show : (xs : List Shown) (t : Plan) (s : Store) (Q : Flow → Store → Type 0) → Good C t s Q → Good C (Show xs t) s Q
  good_show xs t s Q g = record { inside = g.inside; ending = g.ending }

  pub good_take : (k : Option Content → Plan) (s : Store) (Q : Flow → Store → Type 0) → ((o : Option Content) → Good C (k o) s Q) → Good C (Take k) s Q
  good_take k s Q h = record { inside = λ i. (h (first_of i)).inside (rest_of i); ending = λ i. (h (first_of i)).ending (rest_of i) }

  -- an execution, and what follows it
  pub good_within : (p : Spot) (at : Places) (t : Plan) (k : Flow → Plan) (s : Store) (Q : Flow → Store → Type 0) → ((i : List Content) → C p (places_in p.statement t s i at) s (run_of t s i)) → Good C t s (λ f z. Good C (k f) z Q) → Good C (Within p at t k) s Q
  good_within p at t k s Q c h = record {
    inside = λ i. (c i, h.inside i, more (run_of t s i) (λ f z j. Good C (k f) z Q) (λ f z j. AtEach C (k f) z j) (λ f z j e. e.inside j) (h.ending i));
    ending = λ i. leads_then (steps_of t) (λ f. steps_of (k f)) s i (λ x y l. Q x y) (more (run_of t s i) (λ f z j. Good C (k f) z Q) (λ f z j. AtEndOf (run_of (k f) z j) (λ x y l. Q x y)) (λ f z j e. e.ending j) (h.ending i));
  }

  -- a statement's execution ends as it does
  pub good_at : (p : Spot) (at : Places) (t : Plan) (s : Store) (Q : Flow → Store → Type 0) → ((i : List Content) → C p (places_in p.statement t s i at) s (run_of t s i)) → Good C t s Q → Good C (Within p at t (λ f. Ends f)) s Q
  good_at p at t s Q c g = good_within p at t (λ f. Ends f) s Q c (good_more t s Q (λ f z. Good C (Ends f) z Q) (λ f z h. good_ends f z Q h) g)

  -- units that become undefined keep their numbers
  pub good_forget_all : (us : List ℕ) (t : Plan) (s : Store) (Q : Flow → Store → Type 0) → ((z : Store) → ((u : ℕ) → (z u).number ≡ (s u).number) → Good C t z Q) → Good C (forget_all us t) s Q
  good_forget_all [] t s Q h = h s (λ u. refl)
  good_forget_all (v ∷ us) t s Q h =
      good_forget v (forget_all us t) s Q (good_forget_all us t (put s v (undefined (s v))) Q (λ z e. h z (λ u. e u ∙ same s v u)))
    where
      same : (s : Store) (v u : ℕ) → (put s v (undefined (s v)) u).number ≡ (s u).number
      same s v u = go (nat_eq u v) refl
        where
          go : (b : Bool) → nat_eq u v ≡ b → (if b then undefined (s v) else s u).number ≡ (s u).number
          go true e = ap (λ x. (s x).number) (nat_same u v e)
            where
              nat_same : (a b : ℕ) → nat_eq a b ≡ true → b ≡ a
              nat_same a b q = grind (arith, nat_tests)
          go false e = refl

  -- a write: of a unit that is not locked, or a fault
  pub good_write : (locked : Locks) (u : ℕ) (c : Content) (f : Unit {0} → Plan) (s : Store) (Q : Flow → Store → Type 0) → (locked u ≡ None → Good C (f tt) (put s u c) Q) → Good C (first (write locked u c) f) s Q
  good_write locked u c f s Q h = go (locked u) refl
    where
      go : (o : Option Fault) → locked u ≡ o → Good C (first (written o u c) f) s Q
      go None e = good_set u c (f tt) s Q (h e)
      go (Some g) e = good_breaks _ s Q
