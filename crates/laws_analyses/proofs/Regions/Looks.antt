-- Computations that only look at units.
use Rattle.std.proofs.Common.{List, [], ◌∷◌, ◌++◌}
use Rattle.f77_ast.specs.Store.{Content, Store}
use Rattle.f77_ast.specs.Steps.{Break, Steps, Done, Look, Set, Hold, Forget, Show, Take, Arrive, ◌>>=◌}
use Rattle.f77_ast.specs.Steps as steps
use Rattle.f77_ast.specs.Runs.{Event, Read, Answer, Gave, Broke}
use Rattle.f77_ast.specs.Plans.{Flow, Plan, first}
use Rattle.f77_ast.specs.Executions.{Claim}
use Rattle.f77_ast.proofs.StepLaws.{Leads}
use Rattle.laws_analyses.proofs.Regions.Rules.{Post, Goes, goes_breaks, goes_look}

-- it does nothing else, and Q holds of its answer and of what it did
abbrev pub Looked : {A : Type 0} → Steps A → Store → (Answer A → List Event → Type 0) → Type 0
Looked (Done a) s Q = Q (Gave a) []
Looked (steps.Breaks b) s Q = Q (Broke b) []
Looked (Look u k) s Q = Looked (k (s u)) s (λ a es. Q a (Read u (s u) ∷ es))
Looked (Set u c t) s Q = ⊥
Looked (Hold u c t) s Q = ⊥
Looked (Forget u t) s Q = ⊥
Looked (Show xs t) s Q = ⊥
Looked (Take k) s Q = ⊥
Looked (Arrive p t) s Q = ⊥

-- of an answer, if there is one
abbrev pub IfGave : {A : Type 0} → Answer A → (A → Type 0) → Type 0
IfGave (Gave a) P = P a
IfGave (Broke b) P = Unit {0}

pub looked_more : {A : Type 0} (t : Steps A) (s : Store) (Q R : Answer A → List Event → Type 0) → ((a : Answer A) (es : List Event) → Q a es → R a es) → Looked t s Q → Looked t s R
looked_more (Done a) s Q R m h = m (Gave a) [] h
looked_more (steps.Breaks b) s Q R m h = m (Broke b) [] h
looked_more (Look u k) s Q R m h = looked_more (k (s u)) s (λ a es. Q a (Read u (s u) ∷ es)) (λ a es. R a (Read u (s u) ∷ es)) (λ a es q. m a (Read u (s u) ∷ es) q) h
looked_more (Set u c t) s Q R m h = absurd h
looked_more (Hold u c t) s Q R m h = absurd h
looked_more (Forget u t) s Q R m h = absurd h
looked_more (Show xs t) s Q R m h = absurd h
looked_more (Take k) s Q R m h = absurd h
looked_more (Arrive p t) s Q R m h = absurd h

-- one after the other
pub looked_then : {A B : Type 0} (t : Steps A) (f : A → Steps B) (s : Store) (P : Answer A → List Event → Type 0) (Q : Answer B → List Event → Type 0) → Looked t s P → ((a : A) (es : List Event) → P (Gave a) es → Looked (f a) s (λ b fs. Q b (es ++ fs))) → ((b : Break) (es : List Event) → P (Broke b) es → Q (Broke b) es) → Looked (t >>= f) s Q
looked_then (Done a) f s P Q h next broke = next a [] h
looked_then (steps.Breaks b) f s P Q h next broke = broke b [] h
looked_then (Look u k) f s P Q h next broke = looked_then (k (s u)) f s (λ a es. P a (Read u (s u) ∷ es)) (λ b es. Q b (Read u (s u) ∷ es)) h (λ a es p. next a (Read u (s u) ∷ es) p) (λ b es p. broke b (Read u (s u) ∷ es) p)
looked_then (Set u c t) f s P Q h next broke = absurd h
looked_then (Hold u c t) f s P Q h next broke = absurd h
looked_then (Forget u t) f s P Q h next broke = absurd h
looked_then (Show xs t) f s P Q h next broke = absurd h
looked_then (Take k) f s P Q h next broke = absurd h
looked_then (Arrive p t) f s P Q h next broke = absurd h

-- with what is known where it ends
pub looked_with : {A : Type 0} (t : Steps A) (s : Store) (i : List Content) (Q : Answer A → List Event → Type 0) (P : A → Store → List Content → Type 0) → Looked t s Q → Leads t s i P → Looked t s (λ a es. Q a es × IfGave a (λ x. P x s i))
looked_with (Done a) s i Q P h e = (h, e)
looked_with (steps.Breaks b) s i Q P h e = (h, tt)
looked_with (Look u k) s i Q P h e = looked_with (k (s u)) s i (λ a es. Q a (Read u (s u) ∷ es)) P h e
looked_with (Set u c t) s i Q P h e = absurd h
looked_with (Hold u c t) s i Q P h e = absurd h
looked_with (Forget u t) s i Q P h e = absurd h
looked_with (Show xs t) s i Q P h e = absurd h
looked_with (Take k) s i Q P h e = absurd h
looked_with (Arrive p t) s i Q P h e = absurd h

module _ (D : Claim) where
  -- and then a plan
  pub goes_first : {A : Type 0} (t : Steps A) (f : A → Plan) (s : Store) (P : Answer A → List Event → Type 0) (Q : Post Flow) → Looked t s P → ((a : A) (es : List Event) → P (Gave a) es → Goes D (f a) s (λ b y fs. Q b y (es ++ fs))) → ((b : Break) (es : List Event) → P (Broke b) es → Q (Broke b) s es) → Goes D (first t f) s Q
  goes_first (Done a) f s P Q h next broke = next a [] h
  goes_first (steps.Breaks b) f s P Q h next broke = goes_breaks D b s Q (broke b [] h)
  goes_first (Look u k) f s P Q h next broke =
      goes_look D u (λ c. first (k c) f) s Q
      (goes_first (k (s u)) f s (λ a es. P a (Read u (s u) ∷ es)) (λ a z es. Q a z (Read u (s u) ∷ es)) h (λ a es p. next a (Read u (s u) ∷ es) p) (λ b es p. broke b (Read u (s u) ∷ es) p))
  goes_first (Set u c t) f s P Q h next broke = absurd h
  goes_first (Hold u c t) f s P Q h next broke = absurd h
  goes_first (Forget u t) f s P Q h next broke = absurd h
  goes_first (Show xs t) f s P Q h next broke = absurd h
  goes_first (Take k) f s P Q h next broke = absurd h
  goes_first (Arrive p t) f s P Q h next broke = absurd h

  -- and then another, and then a plan
  pub goes_first_then : {A B : Type 0} (t : Steps A) (g : A → Steps B) (f : B → Plan) (s : Store) (P : Answer A → List Event → Type 0) (Q : Post Flow) → Looked t s P → ((a : A) (es : List Event) → P (Gave a) es → Goes D (first (g a) f) s (λ b y fs. Q b y (es ++ fs))) → ((b : Break) (es : List Event) → P (Broke b) es → Q (Broke b) s es) → Goes D (first (t >>= g) f) s Q
  goes_first_then (Done a) g f s P Q h next broke = next a [] h
  goes_first_then (steps.Breaks b) g f s P Q h next broke = goes_breaks D b s Q (broke b [] h)
  goes_first_then (Look u k) g f s P Q h next broke =
      goes_look D u (λ c. first (k c >>= g) f) s Q
      (goes_first_then (k (s u)) g f s (λ a es. P a (Read u (s u) ∷ es)) (λ a z es. Q a z (Read u (s u) ∷ es)) h (λ a es p. next a (Read u (s u) ∷ es) p) (λ b es p. broke b (Read u (s u) ∷ es) p))
  goes_first_then (Set u c t) g f s P Q h next broke = absurd h
  goes_first_then (Hold u c t) g f s P Q h next broke = absurd h
  goes_first_then (Forget u t) g f s P Q h next broke = absurd h
  goes_first_then (Show xs t) g f s P Q h next broke = absurd h
  goes_first_then (Take k) g f s P Q h next broke = absurd h
  goes_first_then (Arrive p t) g f s P Q h next broke = absurd h
