-- What holds of a plan begun with a store, whatever the input: a claim of each execution in it, and how it ends.
use Rattle.std.specs.Prelude.{List}
use Rattle.f77_ast.specs.Store.{Content, Store, put, undefined}
use Rattle.f77_ast.specs.Runs.{Event, first_of, rest_of}
use Rattle.f77_ast.specs.Plans.{Flow, Plan, Ends, Breaks, Look, Set, Hold, Forget, Show, Take, Within}
use Rattle.f77_ast.specs.Executions.{run_of, AtEndOf, Claim}
use Rattle.f77_meaning.specs.Occurrences.{Occurrence, places_in}

-- the claim holds of each execution in the run from the store on the input; at an entry with the places of the first statement, as of Throughout
abbrev pub AtEach : Claim → Plan → Store → List Content → Type 0
AtEach C (Ends f) s i = Unit {0}
AtEach C (Breaks b) s i = Unit {0}
AtEach C (Look u k) s i = AtEach C (k (s u)) s i
AtEach C (Set u c t) s i = AtEach C t (put s u c) i
AtEach C (Hold u c t) s i = AtEach C t (put s u c) i
AtEach C (Forget u t) s i = AtEach C t (put s u (undefined (s u))) i
AtEach C (Show xs t) s i = AtEach C t s i
AtEach C (Take k) s i = AtEach C (k (first_of i)) s (rest_of i)
AtEach C (Within p at t k) s i = C p (places_in p.statement t s i at) s (run_of t s i) × AtEach C t s i × AtEndOf (run_of t s i) (λ f z j. AtEach C (k f) z j)

-- where it ends, by the flow and the store there
abbrev pub Ending : Plan → Store → (Flow → Store → Type 0) → Type 0
Ending t s Q = (i : List Content) → AtEndOf (run_of t s i) (λ f z j. Q f z)

pub record Good (C : Claim) (t : Plan) (s : Store) (Q : Flow → Store → Type 0) : Type 0 where
  pub inside : (i : List Content) → AtEach C t s i
  pub ending : Ending t s Q

-- a claim on occurrences, whatever the run does later
abbrev pub said : (Occurrence → Type 0) → Claim
said C p at s q = (later : List Event) → C (record { spot = p; places = at; start = s; ran = q; later = later })
