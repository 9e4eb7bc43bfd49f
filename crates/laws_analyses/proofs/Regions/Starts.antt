-- The places of the first execution in a plan, with how its run ends and what it does.
use Rattle.std.proofs.Common.{◌≡◌, ◌⊎◌, inl, inr, ℕ, zero, suc, List, [], ◌∷◌, ◌++◌, Bool, true, false, refl, sym, ap, ◌∙◌, nat_eq}
use Rattle.std.specs.Prelude.{if◌then◌else◌}
use Rattle.f77_ast.specs.Trees.{StmtTrees}
use Rattle.f77_ast.specs.Trees as tree
use Rattle.f77_ast.specs.Store.{Content, Store, put, undefined}
use Rattle.f77_ast.specs.Steps.{Break, Steps, Done, Look, Set, Hold, Forget, Show, Take, Arrive}
use Rattle.f77_ast.specs.Steps as steps
use Rattle.f77_ast.specs.Runs.{Event, Read, Answer, Gave, Broke}
use Rattle.f77_ast.specs.Places.{Places}
use Rattle.f77_ast.specs.Writes.{Locks}
use Rattle.f77_ast.specs.Plans.{Flow, Plan, first}
use Rattle.f77_ast.specs.Lists.{list_plan}
use Rattle.f77_ast.specs.Calls.{forget_all}
use Rattle.f77_ast.specs.Statements.{Scope, parts, body_plan}
use Rattle.f77_ast.specs.Executions.{run_of}
use Rattle.f77_meaning.specs.Occurrences.{first_places}
use Rattle.affine_forms.specs.Claims.{numbers_of}
use Rattle.laws_analyses.proofs.Regions.Looks.{Looked}
use Rattle.fx_lists.proofs.Numbers.{same_is as nat_same}

-- the places, the answer and the events
abbrev pub Start : Type 1
Start = Places → Answer Flow → List Event → Type 0

abbrev pub Starts : Plan → Store → List Content → Places → Start → Type 0
Starts t s i q R = R (first_places t s i q) (run_of t s i).answer (run_of t s i).trace

pub first_starts : {A : Type 0} (t : Steps A) (f : A → Plan) (s : Store) (i : List Content) (q : Places) (P : Answer A → List Event → Type 0) (R : Start) → Looked t s P → ((a : A) (es : List Event) → P (Gave a) es → Starts (f a) s i q (λ w b fs. R w b (es ++ fs))) → ((b : Break) (es : List Event) → P (Broke b) es → R q (Broke b) es) → Starts (first t f) s i q R
first_starts (Done a) f s i q P R h next broke = next a [] h
first_starts (steps.Breaks b) f s i q P R h next broke = broke b [] h
first_starts (Look u k) f s i q P R h next broke =
    first_starts (k (s u)) f s i q (λ a es. P a (Read u (s u) ∷ es)) (λ w b fs. R w b (Read u (s u) ∷ fs)) h (λ a es p. next a (Read u (s u) ∷ es) p) (λ b es p. broke b (Read u (s u) ∷ es) p)
first_starts (Set u c t) f s i q P R h next broke = absurd h
first_starts (Hold u c t) f s i q P R h next broke = absurd h
first_starts (Forget u t) f s i q P R h next broke = absurd h
first_starts (Show xs t) f s i q P R h next broke = absurd h
first_starts (Take k) f s i q P R h next broke = absurd h
first_starts (Arrive p t) f s i q P R h next broke = absurd h

-- what is forgotten keeps its number
pub forgotten_same : (s : Store) (u : ℕ) → numbers_of (put s u (undefined (s u))) ≡ numbers_of s
forgotten_same s u = λ i v. one v i
  where
    one : (v : ℕ) → numbers_of (put s u (undefined (s u))) v ≡ numbers_of s v
    one v = go (nat_eq v u) refl
      where
        go : (b : Bool) → nat_eq v u ≡ b → (if b then undefined (s u) else s v).number ≡ (s v).number
        go true e = ap (λ w. (s w).number) (sym (nat_same v u e))
        go false e = refl

pub forget_starts : (us : List ℕ) (t : Plan) (s : Store) (i : List Content) (q : Places) (R : Start) → ((z : Store) → numbers_of z ≡ numbers_of s → Starts t z i q R) → Starts (forget_all us t) s i q R
forget_starts [] t s i q R h = h s refl
forget_starts (u ∷ us) t s i q R h = forget_starts us t (put s u (undefined (s u))) i q R (λ z e. h z (e ∙ forgotten_same s u))

-- a body without statements, or the first of them
pub body_starts : (body : StmtTrees) (sc : Scope) (at : Places) (locked : Locks) (s : Store) (i : List Content) (q : Places) → (body ≡ tree.no_stmts) ⊎ (first_places (body_plan body sc at locked) s i q ≡ at)
body_starts tree.no_stmts sc at locked s i q = inl refl
body_starts (tree.more_stmts (tree.stmt n label w) rest) sc at locked s i q = inr (go sc.turns)
  where
    go : (turns : ℕ) → first_places (list_plan turns (parts (tree.more_stmts (tree.stmt n label w) rest) sc at locked)) s i q ≡ at
    go zero = refl
    go (suc m) = refl
