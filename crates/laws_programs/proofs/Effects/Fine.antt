-- Plans whose accesses are allowed, and in which a claim holds of each execution, whatever the store and the input are.
use Rattle.std.proofs.Common.{List, Option}
use Rattle.f77_ast.specs.Store.{Content, Store}
use Rattle.f77_ast.specs.Steps.{Spot, Shown, Steps, ◌>>=◌}
use Rattle.f77_ast.specs.Steps as steps
use Rattle.f77_ast.specs.Runs.{Event}
use Rattle.f77_ast.specs.Places.{Places}
use Rattle.f77_ast.specs.Plans.{Flow, Plan, Ends, Breaks, Look, Set, Hold, Forget, Show, Take, Within, first, ◌▹◌}
use Rattle.f77_ast.specs.Executions.{run_of}
use Rattle.f77_meaning.specs.Occurrences.{Occurrence, places_in}
use Rattle.laws_programs.proofs.Effects.Access.{Reading, Writing, Talking, Allowed, EndsIn, Passing, Under}

-- the claim holds of an execution from each store on each input
abbrev pub Always : (Occurrence → Type 0) → Spot → Places → Plan → Type 0
Always C p at t = (s : Store) (i : List Content) (later : List Event) → C (record { spot = p; places = places_in p.statement t s i at; start = s; ran = run_of t s i; later = later })

abbrev pub Fine : Plan → Passing → (Occurrence → Type 0) → Allowed → Type 0
Fine (Ends f) L C A = EndsIn A f
Fine (Breaks b) L C A = Unit {0}
Fine (Look u k) L C A = A (Reading u) × ((c : Content) → Fine (k c) L C A)
Fine (Set u c t) L C A = A (Writing u) × Fine t L C A
Fine (Hold u c t) L C A = Fine t L C A
Fine (Forget u t) L C A = Fine t L C A
Fine (Show xs t) L C A = A Talking × Fine t L C A
Fine (Take k) L C A = A Talking × ((o : Option Content) → Fine (k o) L C A)
Fine (Within p at t k) L C A = Always C p at t × Fine t L C (Under L p A) × ((f : Flow) → EndsIn A f → Fine (k f) L C A)

-- the steps of an expression or of a simple statement, and what holds of what they give
abbrev pub Doing : {B : Type 0} → Steps B → Allowed → (B → Type 0) → Type 0
Doing (steps.Done b) A P = P b
Doing (steps.Breaks b) A P = Unit {0}
Doing (steps.Look u k) A P = A (Reading u) × ((c : Content) → Doing (k c) A P)
Doing (steps.Set u c t) A P = A (Writing u) × Doing t A P
Doing (steps.Hold u c t) A P = Doing t A P
Doing (steps.Forget u t) A P = Doing t A P
Doing (steps.Show xs t) A P = A Talking × Doing t A P
Doing (steps.Take k) A P = A Talking × ((o : Option Content) → Doing (k o) A P)
Doing (steps.Arrive p t) A P = Doing t A P

-- ---- one after the other

pub doing_bind : {B D : Type 0} (m : Steps B) (f : B → Steps D) (A : Allowed) (P : B → Type 0) (Q : D → Type 0) → Doing m A P → ((b : B) → P b → Doing (f b) A Q) → Doing (m >>= f) A Q
doing_bind (steps.Done b) f A P Q h more = more b h
doing_bind (steps.Breaks b) f A P Q h more = tt
doing_bind (steps.Look u k) f A P Q h more = (h.0, λ c. doing_bind (k c) f A P Q (h.1 c) more)
doing_bind (steps.Set u c t) f A P Q h more = (h.0, doing_bind t f A P Q h.1 more)
doing_bind (steps.Hold u c t) f A P Q h more = doing_bind t f A P Q h more
doing_bind (steps.Forget u t) f A P Q h more = doing_bind t f A P Q h more
doing_bind (steps.Show xs t) f A P Q h more = (h.0, doing_bind t f A P Q h.1 more)
doing_bind (steps.Take k) f A P Q h more = (h.0, λ o. doing_bind (k o) f A P Q (h.1 o) more)
doing_bind (steps.Arrive p t) f A P Q h more = doing_bind t f A P Q h more

pub doing_more : {B : Type 0} (m : Steps B) (A : Allowed) (P Q : B → Type 0) → ((b : B) → P b → Q b) → Doing m A P → Doing m A Q
doing_more (steps.Done b) A P Q f h = f b h
doing_more (steps.Breaks b) A P Q f h = tt
doing_more (steps.Look u k) A P Q f h = (h.0, λ c. doing_more (k c) A P Q f (h.1 c))
doing_more (steps.Set u c t) A P Q f h = (h.0, doing_more t A P Q f h.1)
doing_more (steps.Hold u c t) A P Q f h = doing_more t A P Q f h
doing_more (steps.Forget u t) A P Q f h = doing_more t A P Q f h
doing_more (steps.Show xs t) A P Q f h = (h.0, doing_more t A P Q f h.1)
doing_more (steps.Take k) A P Q f h = (h.0, λ o. doing_more (k o) A P Q f (h.1 o))
doing_more (steps.Arrive p t) A P Q f h = doing_more t A P Q f h

module _ (L : Passing) (C : Occurrence → Type 0) where
  pub fine_first : {B : Type 0} (m : Steps B) (f : B → Plan) (A : Allowed) (P : B → Type 0) → Doing m A P → ((b : B) → P b → Fine (f b) L C A) → Fine (first m f) L C A
  fine_first (steps.Done b) f A P h more = more b h
  fine_first (steps.Breaks b) f A P h more = tt
  fine_first (steps.Look u k) f A P h more = (h.0, λ c. fine_first (k c) f A P (h.1 c) more)
  fine_first (steps.Set u c t) f A P h more = (h.0, fine_first t f A P h.1 more)
  fine_first (steps.Hold u c t) f A P h more = fine_first t f A P h more
  fine_first (steps.Forget u t) f A P h more = fine_first t f A P h more
  fine_first (steps.Show xs t) f A P h more = (h.0, fine_first t f A P h.1 more)
  fine_first (steps.Take k) f A P h more = (h.0, λ o. fine_first (k o) f A P (h.1 o) more)
  fine_first (steps.Arrive p t) f A P h more = fine_first t f A P h more

  pub fine_then : (t : Plan) (f : Flow → Plan) (A : Allowed) → Fine t L C A → ((g : Flow) → EndsIn A g → Fine (f g) L C A) → Fine (t ▹ f) L C A
  fine_then (Ends g) f A h more = more g h
  fine_then (Breaks b) f A h more = tt
  fine_then (Look u k) f A h more = (h.0, λ c. fine_then (k c) f A (h.1 c) more)
  fine_then (Set u c t) f A h more = (h.0, fine_then t f A h.1 more)
  fine_then (Hold u c t) f A h more = fine_then t f A h more
  fine_then (Forget u t) f A h more = fine_then t f A h more
  fine_then (Show xs t) f A h more = (h.0, fine_then t f A h.1 more)
  fine_then (Take k) f A h more = (h.0, λ o. fine_then (k o) f A (h.1 o) more)
  fine_then (Within p at t k) f A h more = (h.0, h.1, λ g e. fine_then (k g) f A (h.2 g e) more)
