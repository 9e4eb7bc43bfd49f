-- Elements of arrays are numbered in column order (ANSI X3.9-1978 §5.2.4).
use Rattle.std.specs.Prelude.{◌≡◌, ◌⊎◌, ℕ, suc, ℤ, pos, ◌+ℤ◌, true, List, [], ◌∷◌, map, Some}
use Rattle.f77_ast.specs.Places.{Dim, at_most}
use Rattle.storage_data.specs.Items.{position_at}

-- an element stands next behind another: the first subscript that can go up does, and those before it begin again (§5.2.4)
abbrev pub IsNext : List Dim → List ℤ → List ℤ → Type 0
IsNext [] ns ms = ⊥
IsNext (d ∷ ds) [] ms = ⊥
IsNext (d ∷ ds) (n ∷ ns) [] = ⊥
IsNext (d ∷ ds) (n ∷ ns) (m ∷ ms) = ((at_most m d.high ≡ true) × (m ≡ n +ℤ pos 1) × (ns ≡ ms)) ⊎ ((d.high ≡ Some n) × (m ≡ d.low) × IsNext ds ns ms)

-- the element with all lower bounds has number 0
abbrev pub FirstElementHasNumberZero : Type 0
FirstElementHasNumberZero = (ds : List Dim) (ns : List ℤ) (k : ℕ) → position_at (Some ds) (Some ns) ≡ Some k → position_at (Some ds) (Some (map (λ d. d.low) ds)) ≡ Some 0

-- and each other has the number after that of the one before it
abbrev pub NextElementHasNextNumber : Type 0
NextElementHasNextNumber = (ds : List Dim) (ns ms : List ℤ) (k : ℕ) → position_at (Some ds) (Some ns) ≡ Some k → IsNext ds ns ms → position_at (Some ds) (Some ms) ≡ Some (suc k)
