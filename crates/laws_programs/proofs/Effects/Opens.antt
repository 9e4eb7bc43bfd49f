-- Plans of entries: what they do before their first execution, and then a fine plan whose accesses go by the places there.
use Rattle.std.proofs.Common.{ℕ, List, [], ◌∷◌}
use Rattle.f77_ast.specs.Store.{Content, Store, put, undefined}
use Rattle.f77_ast.specs.Steps.{Steps}
use Rattle.f77_ast.specs.Steps as steps
use Rattle.f77_ast.specs.Places.{Places}
use Rattle.f77_ast.specs.Plans.{Plan, Ends, Breaks, Look, Set, Hold, Forget, Show, Take, Within, first, steps_of}
use Rattle.f77_ast.specs.Calls.{forget_all}
use Rattle.f77_meaning.specs.Occurrences.{Occurrence, first_places}
use Rattle.laws_programs.proofs.Effects.Access.{Access, Reading, Writing, Talking, Stopping, Allowed, EndsIn, Passing}
use Rattle.laws_programs.proofs.Effects.Fine.{Fine, Doing}
use Rattle.laws_programs.proofs.Effects.Traces.{Along, fine_along}

-- accesses that are allowed wherever the variables may lie; nothing but reads
abbrev pub Wherever : (Places → Type 0) → (Places → Allowed) → Access → Type 0
Wherever P A (Reading u) = (q : Places) → P q → A q (Reading u)
Wherever P A (Writing u) = ⊥
Wherever P A Talking = ⊥
Wherever P A Stopping = ⊥

-- before the first execution there are reads that are allowed wherever the variables may lie; these are the places if there is none
abbrev pub Opens : Plan → Passing → (Occurrence → Type 0) → (Places → Type 0) → (Places → Allowed) → Places → Type 0
Opens (Ends f) L C P A at = P at × EndsIn (A at) f
Opens (Breaks b) L C P A at = P at
Opens (Look u k) L C P A at = Wherever P A (Reading u) × ((c : Content) → Opens (k c) L C P A at)
Opens (Set u c t) L C P A at = ⊥
Opens (Hold u c t) L C P A at = Opens t L C P A at
Opens (Forget u t) L C P A at = Opens t L C P A at
Opens (Show xs t) L C P A at = ⊥
Opens (Take k) L C P A at = ⊥
Opens (Within p q t k) L C P A at = P q × Fine (Within p q t k) L C (A q)

module _ (L : Passing) (C : Occurrence → Type 0) (P : Places → Type 0) (A : Places → Allowed) (at : Places) where
  pub opens_along : (t : Plan) → Opens t L C P A at → (s : Store) (i : List Content) → P (first_places t s i at) × Along (steps_of t) L (A (first_places t s i at)) s i
  opens_along (Ends f) h s i = h
  opens_along (Breaks b) h s i = (h, tt)
  opens_along (Look u k) h s i = let r = opens_along (k (s u)) (h.1 (s u)) s i in (r.0, (h.0 (first_places (k (s u)) s i at) r.0, r.1))
  opens_along (Set u c t) h s i = absurd h
  opens_along (Hold u c t) h s i = opens_along t h (put s u c) i
  opens_along (Forget u t) h s i = opens_along t h (put s u (undefined (s u))) i
  opens_along (Show xs t) h s i = absurd h
  opens_along (Take k) h s i = absurd h
  opens_along (Within p q t k) h s i = (h.0, fine_along L C (Within p q t k) (A q) h.1 s i)

  pub opens_first : {B : Type 0} (m : Steps B) (f : B → Plan) (Q : B → Type 0) → P at → Doing m (Wherever P A) Q → ((b : B) → Q b → Opens (f b) L C P A at) → Opens (first m f) L C P A at
  opens_first (steps.Done b) f Q p h more = more b h
  opens_first (steps.Breaks b) f Q p h more = p
  opens_first (steps.Look u k) f Q p h more = (h.0, λ c. opens_first (k c) f Q p (h.1 c) more)
  opens_first (steps.Set u c t) f Q p h more = absurd h.0
  opens_first (steps.Hold u c t) f Q p h more = opens_first t f Q p h more
  opens_first (steps.Forget u t) f Q p h more = opens_first t f Q p h more
  opens_first (steps.Show xs t) f Q p h more = absurd h.0
  opens_first (steps.Take k) f Q p h more = absurd h.0
  opens_first (steps.Arrive r t) f Q p h more = opens_first t f Q p h more

  pub opens_forget : (us : List ℕ) (t : Plan) → Opens t L C P A at → Opens (forget_all us t) L C P A at
  opens_forget [] t h = h
  opens_forget (u ∷ us) t h = opens_forget us t h
