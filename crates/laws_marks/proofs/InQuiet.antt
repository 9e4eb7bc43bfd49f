-- What is evaluated writes nothing.
use Rattle.std.proofs.Common.{List, ◌∷◌}
use Rattle.f77_ast.specs.Store.{Store, put}
use Rattle.f77_ast.specs.Steps.{Steps, Done, Look, Set, Hold, Forget, Show, Take, Arrive}
use Rattle.f77_ast.specs.Steps as steps
use Rattle.f77_ast.specs.Runs.{Event, Read, Answer}
use Rattle.laws_analyses.proofs.Regions.Rules.{Post}
use Rattle.laws_analyses.proofs.Regions.Looks.{Looked, looked_more}
use Rattle.laws_analyses.proofs.Regions.Storing.{Holding, holding_more}
use Rattle.laws_marks.proofs.InTaking.{NoWrites, no_writes_none}

pub looked_quiet : {A : Type 0} (t : Steps A) (s : Store) (Q : Answer A → List Event → Type 0) → Looked t s Q → Looked t s (λ a es. Q a es × NoWrites es)
looked_quiet (Done a) s Q h = (h, no_writes_none)
looked_quiet (steps.Breaks b) s Q h = (h, no_writes_none)
looked_quiet (Look v k) s Q h = looked_more (k (s v)) s (λ a es. Q a (Read v (s v) ∷ es) × NoWrites es) (λ a es. Q a (Read v (s v) ∷ es) × NoWrites (Read v (s v) ∷ es)) (λ a es p. (p.0, record { unwritten = p.1.unwritten; unentered = p.1.unentered })) (looked_quiet (k (s v)) s (λ a es. Q a (Read v (s v) ∷ es)) h)
looked_quiet (Set u c t) s Q h = absurd h
looked_quiet (Hold u c t) s Q h = absurd h
looked_quiet (Forget u t) s Q h = absurd h
looked_quiet (Show xs t) s Q h = absurd h
looked_quiet (Take k) s Q h = absurd h
looked_quiet (Arrive p t) s Q h = absurd h

pub holding_quiet : {A : Type 0} (t : Steps A) (s : Store) (Q : Post A) → Holding t s Q → Holding t s (λ a z es. Q a z es × NoWrites es)
holding_quiet (Done a) s Q h = (h, no_writes_none)
holding_quiet (steps.Breaks b) s Q h = (h, no_writes_none)
holding_quiet (Look v k) s Q h = holding_more (k (s v)) s (λ a z es. Q a z (Read v (s v) ∷ es) × NoWrites es) (λ a z es. Q a z (Read v (s v) ∷ es) × NoWrites (Read v (s v) ∷ es)) (λ a z es p. (p.0, record { unwritten = p.1.unwritten; unentered = p.1.unentered })) (holding_quiet (k (s v)) s (λ a z es. Q a z (Read v (s v) ∷ es)) h)
holding_quiet (Set u c t) s Q h = absurd h
holding_quiet (Hold u c t) s Q h = holding_quiet t (put s u c) Q h
holding_quiet (Forget u t) s Q h = absurd h
holding_quiet (Show xs t) s Q h = absurd h
holding_quiet (Take k) s Q h = absurd h
holding_quiet (Arrive p t) s Q h = absurd h
