-- Processes that share a store: each alone, one after the other, and interleaved.
use Rattle.std.specs.Prelude.{◌≡◌, ◌≢◌, ℕ, zero, suc, ◌+◌, ◌<◌, ◌≤◌, ◌⊎◌, List, [], ◌∷◌, ◌++◌, length}
use Rattle.f77_ast.specs.Store.{Store, put}
use Rattle.f77_ast.specs.Runs.{Event, Arrived, Read, Wrote, Printed, Took}
use Rattle.f77_meaning.specs.Interleavings.{World, Process, ReadNext, WriteNext, Finished, Faults}

-- the store after these events
abbrev pub after : List Event → Store → Store
after [] s = s
after (Arrived p ∷ es) s = after es s
after (Read u c ∷ es) s = after es s
after (Wrote u c ∷ es) s = after es (put s u c)
after (Printed xs ∷ es) s = after es s
after (Took o ∷ es) s = after es s

-- alone on the store, a process that has done these reads and writes does just those, and has then finished
abbrev pub DoesAlone : Process → List Event → Store → List Event → Type 0
DoesAlone p did s [] = p did ≡ Finished
DoesAlone p did s (Arrived a ∷ es) = ⊥
DoesAlone p did s (Read u c ∷ es) = (p did ≡ ReadNext u) × (c ≡ s u) × DoesAlone p (did ++ Read u c ∷ []) s es
DoesAlone p did s (Wrote u c ∷ es) = (p did ≡ WriteNext u c) × DoesAlone p (did ++ Wrote u c ∷ []) (put s u c) es
DoesAlone p did s (Printed xs ∷ es) = ⊥
DoesAlone p did s (Took o ∷ es) = ⊥

-- the store after the first n, one after the other
abbrev pub in_order : (ℕ → List Event) → Store → ℕ → Store
in_order does s zero = s
in_order does s (suc n) = after (does n) (in_order does s n)

abbrev pub Reads : ℕ → List Event → Type 0
Reads u [] = ⊥
Reads u (Arrived p ∷ es) = Reads u es
Reads u (Read x c ∷ es) = (u ≡ x) ⊎ Reads u es
Reads u (Wrote x c ∷ es) = Reads u es
Reads u (Printed xs ∷ es) = Reads u es
Reads u (Took o ∷ es) = Reads u es

abbrev pub Writes : ℕ → List Event → Type 0
Writes u [] = ⊥
Writes u (Arrived p ∷ es) = Writes u es
Writes u (Read x c ∷ es) = Writes u es
Writes u (Wrote x c ∷ es) = (u ≡ x) ⊎ Writes u es
Writes u (Printed xs ∷ es) = Writes u es
Writes u (Took o ∷ es) = Writes u es

-- no unit that one of the first n writes is read or written by another
pub record NoneMeet (n : ℕ) (does : ℕ → List Event) : Type 0 where
  pub write_read : (i j u : ℕ) → i < j → j < n → Writes u (does i) → Reads u (does j) → ⊥
  pub read_write : (i j u : ℕ) → i < j → j < n → Reads u (does i) → Writes u (does j) → ⊥
  pub write_write : (i j u : ℕ) → i < j → j < n → Writes u (does i) → Writes u (does j) → ⊥

abbrev pub IsPart : List Event → List Event → Type 0
IsPart did es = (rest : List Event) × (did ++ rest ≡ es)

-- how many reads and writes they are
abbrev pub actions : (ℕ → List Event) → ℕ → ℕ
actions does zero = 0
actions does (suc n) = actions does n + length (does n)

-- what holds after any picks of what each process has done: it is the beginning of what it does in order; none faults; as many picks as there are actions
-- finish them all; and where all have finished, each has done all of it, and the store is that of doing them in order
pub record AsInOrder (p : ℕ → Process) (n : ℕ) (s : Store) (does : ℕ → List Event) (picks : List ℕ) (w : World) : Type 0 where
  pub begun : (i : ℕ) → i < n → IsPart (w.did i) (does i)
  pub no_fault : (i : ℕ) → i < n → p i (w.did i) ≢ Faults
  pub done : actions does n ≤ length picks → (i : ℕ) → i < n → p i (w.did i) ≡ Finished
  pub whole : ((i : ℕ) → i < n → p i (w.did i) ≡ Finished) → (i : ℕ) → i < n → w.did i ≡ does i
  pub end : ((i : ℕ) → i < n → p i (w.did i) ≡ Finished) → (x : ℕ) → w.store x ≡ in_order does s n x
