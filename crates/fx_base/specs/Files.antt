-- Files as a finite map from names to bytes.
use Rattle.std.specs.Prelude.{◌≡◌, ℕ, List, [], ◌∷◌, Option, Some, None, if◌then◌else◌}
use Rattle.std.specs.Str.{bytes_eq}

-- names with their bytes; the first of a name counts
abbrev pub Files : Type 0
Files = List (List ℕ × List ℕ)

-- the bytes under a name, where it is held
abbrev pub bytes_of : Files → List ℕ → Option (List ℕ)
bytes_of [] name = None
bytes_of (file ∷ others) name = if bytes_eq file.0 name then Some file.1 else bytes_of others name

-- each name but this one holds what it held; of a store that doesn't tell its files, that it still doesn't
abbrev pub OthersStay : Option Files → Option Files → List ℕ → Type 0
OthersStay None new name = new ≡ None
OthersStay (Some old) None name = ⊥
OthersStay (Some old) (Some new) name = (other : List ℕ) → (other ≡ name → ⊥) → bytes_of new other ≡ bytes_of old other
