-- Computations that look at units, and put values where no event tells of it.
use Rattle.std.proofs.Common.{◌≡◌, ℕ, List, [], ◌∷◌, ◌++◌, refl, ◌∙◌}
use Rattle.f77_ast.specs.Store.{Content, Store, put, undefined}
use Rattle.f77_ast.specs.Steps.{Spot, Break, Steps, Done, Look, Set, Hold, Forget, Show, Take, Arrive, ◌>>=◌}
use Rattle.f77_ast.specs.Steps as steps
use Rattle.f77_ast.specs.Runs.{Event, Arrived, Read, Answer, Gave, Broke, store_of}
use Rattle.f77_ast.specs.Places.{Places}
use Rattle.f77_ast.specs.Plans.{Flow, Plan, Within, first, steps_of}
use Rattle.f77_ast.specs.Plans as plan
use Rattle.f77_ast.specs.Calls.{forget_all}
use Rattle.f77_ast.specs.Executions.{run_of, AtEnd, Claim}
use Rattle.f77_ast.proofs.StepLaws.{Leads}
use Rattle.affine_forms.specs.Claims.{numbers_of}
use Rattle.f77_meaning.specs.Occurrences.{places_in}
use Rattle.laws_analyses.specs.Statements.Good.{AtEach}
use Rattle.laws_analyses.proofs.Regions.Rules.{Post, Meets, Continues, run_then, Goes, goes_breaks, goes_look}
use Rattle.laws_analyses.proofs.Regions.Looks.{Looked, IfGave}
use Rattle.laws_analyses.proofs.Regions.Starts.{forgotten_same}

-- it does nothing else, and Q holds of its answer, of the store then, and of what it did
abbrev pub Holding : {A : Type 0} → Steps A → Store → Post A → Type 0
Holding (Done a) s Q = Q (Gave a) s []
Holding (steps.Breaks b) s Q = Q (Broke b) s []
Holding (Look u k) s Q = Holding (k (s u)) s (λ a z es. Q a z (Read u (s u) ∷ es))
Holding (Set u c t) s Q = ⊥
Holding (Hold u c t) s Q = Holding t (put s u c) Q
Holding (Forget u t) s Q = ⊥
Holding (Show xs t) s Q = ⊥
Holding (Take k) s Q = ⊥
Holding (Arrive p t) s Q = ⊥

pub holding_more : {A : Type 0} (t : Steps A) (s : Store) (Q R : Post A) → ((a : Answer A) (z : Store) (es : List Event) → Q a z es → R a z es) → Holding t s Q → Holding t s R
holding_more (Done a) s Q R m h = m (Gave a) s [] h
holding_more (steps.Breaks b) s Q R m h = m (Broke b) s [] h
holding_more (Look u k) s Q R m h = holding_more (k (s u)) s (λ a z es. Q a z (Read u (s u) ∷ es)) (λ a z es. R a z (Read u (s u) ∷ es)) (λ a z es q. m a z (Read u (s u) ∷ es) q) h
holding_more (Set u c t) s Q R m h = absurd h
holding_more (Hold u c t) s Q R m h = holding_more t (put s u c) Q R m h
holding_more (Forget u t) s Q R m h = absurd h
holding_more (Show xs t) s Q R m h = absurd h
holding_more (Take k) s Q R m h = absurd h
holding_more (Arrive p t) s Q R m h = absurd h

-- one after the other
pub holding_then : {A B : Type 0} (t : Steps A) (f : A → Steps B) (s : Store) (P : Post A) (Q : Post B) → Holding t s P → ((a : A) (z : Store) (es : List Event) → P (Gave a) z es → Holding (f a) z (λ b y fs. Q b y (es ++ fs))) → ((b : Break) (z : Store) (es : List Event) → P (Broke b) z es → Q (Broke b) z es) → Holding (t >>= f) s Q
holding_then (Done a) f s P Q h next broke = next a s [] h
holding_then (steps.Breaks b) f s P Q h next broke = broke b s [] h
holding_then (Look u k) f s P Q h next broke = holding_then (k (s u)) f s (λ a z es. P a z (Read u (s u) ∷ es)) (λ b z es. Q b z (Read u (s u) ∷ es)) h (λ a z es p. next a z (Read u (s u) ∷ es) p) (λ b z es p. broke b z (Read u (s u) ∷ es) p)
holding_then (Set u c t) f s P Q h next broke = absurd h
holding_then (Hold u c t) f s P Q h next broke = holding_then t f (put s u c) P Q h next broke
holding_then (Forget u t) f s P Q h next broke = absurd h
holding_then (Show xs t) f s P Q h next broke = absurd h
holding_then (Take k) f s P Q h next broke = absurd h
holding_then (Arrive p t) f s P Q h next broke = absurd h

-- one that only looks leaves the store
pub looked_holding : {A : Type 0} (t : Steps A) (s : Store) (Q : Answer A → List Event → Type 0) (R : Post A) → ((a : Answer A) (es : List Event) → Q a es → R a s es) → Looked t s Q → Holding t s R
looked_holding (Done a) s Q R m h = m (Gave a) [] h
looked_holding (steps.Breaks b) s Q R m h = m (Broke b) [] h
looked_holding (Look u k) s Q R m h = looked_holding (k (s u)) s (λ a es. Q a (Read u (s u) ∷ es)) (λ a z es. R a z (Read u (s u) ∷ es)) (λ a es q. m a (Read u (s u) ∷ es) q) h
looked_holding (Set u c t) s Q R m h = absurd h
looked_holding (Hold u c t) s Q R m h = absurd h
looked_holding (Forget u t) s Q R m h = absurd h
looked_holding (Show xs t) s Q R m h = absurd h
looked_holding (Take k) s Q R m h = absurd h
looked_holding (Arrive p t) s Q R m h = absurd h

-- with what is known where it ends
pub holding_with : {A : Type 0} (t : Steps A) (s : Store) (i : List Content) (Q : Post A) (P : A → Store → List Content → Type 0) → Holding t s Q → Leads t s i P → Holding t s (λ a z es. Q a z es × IfGave a (λ x. P x z i))
holding_with (Done a) s i Q P h e = (h, e)
holding_with (steps.Breaks b) s i Q P h e = (h, tt)
holding_with (Look u k) s i Q P h e = holding_with (k (s u)) s i (λ a z es. Q a z (Read u (s u) ∷ es)) P h e
holding_with (Set u c t) s i Q P h e = absurd h
holding_with (Hold u c t) s i Q P h e = holding_with t (put s u c) i Q P h e
holding_with (Forget u t) s i Q P h e = absurd h
holding_with (Show xs t) s i Q P h e = absurd h
holding_with (Take k) s i Q P h e = absurd h
holding_with (Arrive p t) s i Q P h e = absurd h

module _ (D : Claim) where
  pub goes_hold : (u : ℕ) (c : Content) (t : Plan) (s : Store) (Q : Post Flow) → Goes D t (put s u c) Q → Goes D (plan.Hold u c t) s Q
  goes_hold u c t s Q h i = let r = h i in record { inside = r.inside; ending = r.ending }

  pub goes_forget : (u : ℕ) (t : Plan) (s : Store) (Q : Post Flow) → Goes D t (put s u (undefined (s u))) Q → Goes D (plan.Forget u t) s Q
  goes_forget u t s Q h i = let r = h i in record { inside = r.inside; ending = r.ending }

  -- units that become undefined keep their numbers
  pub goes_forget_all : (us : List ℕ) (t : Plan) (s : Store) (Q : Post Flow) → ((z : Store) → numbers_of z ≡ numbers_of s → Goes D t z Q) → Goes D (forget_all us t) s Q
  goes_forget_all [] t s Q h = h s refl
  goes_forget_all (u ∷ us) t s Q h = goes_forget u (forget_all us t) s Q (goes_forget_all us t (put s u (undefined (s u))) Q (λ z e. h z (e ∙ forgotten_same s u)))

  -- and then a plan
  pub goes_holding : {A : Type 0} (t : Steps A) (f : A → Plan) (s : Store) (P : Post A) (Q : Post Flow) → Holding t s P → ((a : A) (z : Store) (es : List Event) → P (Gave a) z es → Goes D (f a) z (λ b y fs. Q b y (es ++ fs))) → ((b : Break) (z : Store) (es : List Event) → P (Broke b) z es → Q (Broke b) z es) → Goes D (first t f) s Q
  goes_holding (Done a) f s P Q h next broke = next a s [] h
  goes_holding (steps.Breaks b) f s P Q h next broke = goes_breaks D b s Q (broke b s [] h)
  goes_holding (Look u k) f s P Q h next broke =
      goes_look D u (λ c. first (k c) f) s Q
      (goes_holding (k (s u)) f s (λ a z es. P a z (Read u (s u) ∷ es)) (λ a z es. Q a z (Read u (s u) ∷ es)) h (λ a z es p. next a z (Read u (s u) ∷ es) p) (λ b z es p. broke b z (Read u (s u) ∷ es) p))
  goes_holding (Set u c t) f s P Q h next broke = absurd h
  goes_holding (Hold u c t) f s P Q h next broke = goes_hold u c (first t f) s Q (goes_holding t f (put s u c) P Q h next broke)
  goes_holding (Forget u t) f s P Q h next broke = absurd h
  goes_holding (Show xs t) f s P Q h next broke = absurd h
  goes_holding (Take k) f s P Q h next broke = absurd h
  goes_holding (Arrive p t) f s P Q h next broke = absurd h

  -- an execution, and what follows it
  pub goes_within : (p : Spot) (at : Places) (t : Plan) (k : Flow → Plan) (s : Store) (P Q : Post Flow) → ((i : List Content) → AtEach D t s i) → ((i : List Content) → Meets P (run_of t s i) × D p (places_in p.statement t s i at) s (run_of t s i)) → ((f : Flow) (z : Store) (es : List Event) → P (Gave f) z es → Goes D (k f) z (λ a y fs. Q a y (Arrived p ∷ (es ++ fs)))) → ((b : Break) (z : Store) (es : List Event) → P (Broke b) z es → Q (Broke b) z (Arrived p ∷ es)) → Goes D (Within p at t k) s Q
  goes_within p at t k s P Q h ends next broke i =
      let q = run_of t s i in
      record {
        inside = ((ends i).1, h i, rest q.answer (ends i).0);
        ending = run_then (steps_of t) (λ f. steps_of (k f)) s i (λ a z es. Q a z (Arrived p ∷ es)) (end q.answer (ends i).0);
      }
    where
      rest : (a : Answer Flow) → P a (store_of (run_of t s i).memory) (run_of t s i).trace → AtEnd a (store_of (run_of t s i).memory) (run_of t s i).input (λ f z j. AtEach D (k f) z j)
      rest (Gave f) p = (next f (store_of (run_of t s i).memory) (run_of t s i).trace p (run_of t s i).input).inside
      rest (Broke b) p = tt

      end : (a : Answer Flow) → P a (store_of (run_of t s i).memory) (run_of t s i).trace → Continues (λ f. steps_of (k f)) (λ b z es. Q b z (Arrived p ∷ es)) a (store_of (run_of t s i).memory) (run_of t s i).input (run_of t s i).trace
      end (Gave f) r = (next f (store_of (run_of t s i).memory) (run_of t s i).trace r (run_of t s i).input).ending
      end (Broke b) r = broke b (store_of (run_of t s i).memory) (run_of t s i).trace r
