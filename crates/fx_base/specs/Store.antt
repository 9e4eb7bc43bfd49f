-- What the calls of a store answer, and why.
use Rattle.std.specs.Prelude.{◌≡◌, ℕ, ◌≤◌, ◌<◌, List, length, Option, Some, None, IfSome, IsSomeAnd}
use Rattle.fx_base.specs.Counts.{Rose}
use Rattle.fx_base.specs.Files.{Files, bytes_of, OthersStay}
use Rattle.fx_base.specs.declared.tally.Tally.{Tally}
use Rattle.fx_base.specs.declared.store.Role.{Role}
use Rattle.fx_base.specs.declared.store.Role.TheVariants.{Base}
use Rattle.fx_base.specs.declared.store.Fetched.{Fetched}
use Rattle.fx_base.specs.declared.store.Fetched.TheVariants.{Got, Absent, TooLong, Failed, Memory}
use Rattle.fx_base.specs.declared.store.Kept.{Kept}
use Rattle.fx_base.specs.declared.store.Kept.TheVariants.{Done, Failed as NotKept, Memory as NoMemory}

-- no count falls
pub record NoneFalls (old new : Tally) : Type 0 where
  pub faults : old.faults ≤ new.faults
  pub misses : old.misses ≤ new.misses
  pub overlong : old.overlong ≤ new.overlong

-- no count falls, and none of another role changes
pub record OnlyCounts (old new : Role → Tally) (role : Role) : Type 0 where
  pub rises : (r : Role) → NoneFalls (old r) (new r)
  pub others : (r : Role) → (r ≡ role → ⊥) → new r ≡ old r

-- no count changes but the faults of the base, which don't fall
pub record OnlyBaseFaults (old new : Role → Tally) : Type 0 where
  pub counts : OnlyCounts old new Base
  pub misses : (new Base).misses ≡ (old Base).misses
  pub overlong : (new Base).overlong ≡ (old Base).overlong

-- what a fetch answers, by the files that are held, where told, and by the counts of its role before and after
abbrev pub FetchedBy : Option Files → Tally → Tally → List ℕ → ℕ → Fetched → Type 0
FetchedBy files old new name limit (Got text) = (length text ≤ limit) × IfSome files (λ held. bytes_of held name ≡ Some text)
FetchedBy files old new name limit Absent = Rose old.misses new.misses × IfSome files (λ held. bytes_of held name ≡ None)
FetchedBy files old new name limit TooLong =
    Rose old.overlong new.overlong × IfSome files (λ held. IsSomeAnd (bytes_of held name) (λ text. limit < length text))
FetchedBy files old new name limit Failed = Rose old.faults new.faults
FetchedBy files old new name limit Memory = Unit {0}

-- what a keep answers, by the files before and after, where told, and by the counts of the base
abbrev pub KeptBy : Option Files → Option Files → Tally → Tally → List ℕ → List ℕ → Kept → Type 0
KeptBy old new before after name text Done = OthersStay old new name × IfSome new (λ held. bytes_of held name ≡ Some text)
KeptBy old new before after name text NotKept = Rose before.faults after.faults × (new ≡ old)
KeptBy old new before after name text NoMemory = new ≡ old

-- a text that was read has at most this many bytes
abbrev pub WithinLimit : ℕ → Fetched → Type 0
WithinLimit limit (Got text) = length text ≤ limit
WithinLimit limit Absent = Unit {0}
WithinLimit limit TooLong = Unit {0}
WithinLimit limit Failed = Unit {0}
WithinLimit limit Memory = Unit {0}
