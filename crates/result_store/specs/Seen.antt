-- A value that was seen is kept.
use Rattle.std.specs.Prelude.{◌≡◌, ℕ, List, slice_get, Some}
use Rattle.pipsmake_meaning.specs.MemoCells.{MemoCell, MemoCells, Stamped, KeepsIn}
use Rattle.pipsmake_meaning.specs.Values.{Value, Item}

-- the same values, of which the one at this place is kept
abbrev pub kept_at : MemoCell → ℕ → List Stamped → MemoCell
kept_at s stamp needs = record { values = s.values; kept = Some (record { stamp = stamp; needs = needs }) }

-- whichever value was seen at this place is kept
abbrev pub KeepsSeen : MemoCells → MemoCells → Item → List ℕ → ℕ → List Stamped → Type 0
KeepsSeen old new item x stamp needs = (v : Value) → slice_get (old item x).values stamp ≡ Some v → KeepsIn old new item x v needs
