-- What both runs know before and after a marked loop, and when its iterations may be interleaved.
use Rattle.std.specs.Prelude.{◌≡◌, ℕ, zero, suc, ◌<◌, List, [], ◌∷◌, Bool, true, false, not, ◌&&◌, ◌||◌, nat_eq, if◌then◌else◌}
use Rattle.f77_ast.specs.Store.{Undefined, Store}
use Rattle.f77_ast.specs.Steps.{Shown}
use Rattle.f77_ast.specs.Plans.{steps_of}
use Rattle.f77_ast.specs.Runs.{Event, Arrived, Read, Wrote, Printed, Took, store_of}
use Rattle.f77_meaning.specs.Processes.{Marked, writes}
use Rattle.laws_interleavings.specs.Iterations.{on_store, begun, does, whole_loop, MayInterleave}

-- ---- what is known: units of which both runs have the same contents

abbrev pub grow : List Event → (ℕ → Bool) → ℕ → Bool
grow [] known = known
grow (Arrived p ∷ es) known = grow es known
grow (Read u c ∷ es) known = grow es known
grow (Wrote u c ∷ es) known = grow es (λ x. nat_eq x u || known x)
grow (Printed xs ∷ es) known = grow es known
grow (Took o ∷ es) known = grow es known

abbrev pub known_at : (ℕ → List Event) → (ℕ → Bool) → ℕ → ℕ → Bool
known_at es known zero = known
known_at es known (suc i) = grow (es i) (known_at es known i)

-- each unit that is read is known, from the start or by a write, and has a value
abbrev pub ReadsKnown : (ℕ → Bool) → List Event → Type 0
ReadsKnown known [] = Unit {0}
ReadsKnown known (Arrived p ∷ es) = ReadsKnown known es
ReadsKnown known (Read u c ∷ es) = (known u ≡ true) × (c.tag ≡ Undefined → ⊥) × ReadsKnown known es
ReadsKnown known (Wrote u c ∷ es) = ReadsKnown (λ x. nat_eq x u || known x) es
ReadsKnown known (Printed xs ∷ es) = ReadsKnown known es
ReadsKnown known (Took o ∷ es) = ReadsKnown known es

-- one of the first n iterations wrote the unit
abbrev pub some_wrote : Marked → Store → ℕ → ℕ → Bool
some_wrote m s zero u = false
some_wrote m s (suc n) u = some_wrote m s n u || writes u (on_store (steps_of m.body) (begun m s n)).trace

-- after a marked loop: where both runs left a unit undefined they agree on it
abbrev pub known_after : Marked → (ℕ → Bool) → Store → ℕ → Bool
known_after m known s x =
    if nat_eq x m.index then false
    else if m.named x then (not (some_wrote m s m.count x) && known x)
    else if m.private x then true
    else known_at (does m s) known m.count x

abbrev pub store_left : Marked → Store → Store
store_left m s = store_of (whole_loop m s).memory

-- ---- the premise, on the plain run

abbrev pub NoTake : List Event → Type 0
NoTake [] = Unit {0}
NoTake (Arrived p ∷ es) = NoTake es
NoTake (Read u c ∷ es) = NoTake es
NoTake (Wrote u c ∷ es) = NoTake es
NoTake (Printed xs ∷ es) = NoTake es
NoTake (Took o ∷ es) = ⊥

abbrev pub printed_by : List Event → List (List Shown)
printed_by [] = []
printed_by (Arrived p ∷ es) = printed_by es
printed_by (Read u c ∷ es) = printed_by es
printed_by (Wrote u c ∷ es) = printed_by es
printed_by (Printed xs ∷ es) = xs ∷ printed_by es
printed_by (Took o ∷ es) = printed_by es

-- a private unit that belongs to no name of the directive: of an expression, or of a module that the body calls
abbrev pub is_own : Marked → ℕ → Bool
is_own m x = not (nat_eq x m.index) && (not (m.named x) && m.private x)

-- a marked loop that may be interleaved where it is begun with this store
pub record LoopSound (m : Marked) (known : ℕ → Bool) (s : Store) : Type 0 where
  pub may : MayInterleave m s
  pub names_private : (x : ℕ) → m.named x ≡ true → m.private x ≡ true
  pub reads : (i : ℕ) → i < m.count → ReadsKnown (known_at (does m s) known i) (does m s i)
  pub silent : printed_by (whole_loop m s).trace ≡ []
  pub takes_nothing : NoTake (whole_loop m s).trace
  pub own_before : (x : ℕ) → is_own m x ≡ true → (s x).tag ≡ Undefined
  pub own_after : (x : ℕ) → is_own m x ≡ true → (store_left m s x).tag ≡ Undefined
  pub unwritten : (x : ℕ) → m.named x ≡ true → nat_eq x m.index ≡ false → some_wrote m s m.count x ≡ false → store_left m s x ≡ s x
