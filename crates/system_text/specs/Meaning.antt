-- What a side and a row say at a point.
use Rattle.std.specs.Prelude.{◌↔◌, Bool, List, [], ◌∷◌, ℤ, pos, ◌+ℤ◌, ◌*ℤ◌}
use Rattle.affine_systems.specs.Points.{Point, Meets, Holds}
use Rattle.system_text.specs.Reading.{Part, Number, Times, row_of}

-- the sum of its parts, where a factor multiplies the number of its variable
abbrev pub side_value : Point → List Part → ℤ
side_value p [] = pos 0
side_value p (Number n ∷ ps) = pos n +ℤ side_value p ps
side_value p (Times n v ∷ ps) = (pos n *ℤ p v) +ℤ side_value p ps

-- a row that is read holds where its left side is equal to its right side, or at most that
abbrev pub RowsCompareSides : Type 0
RowsCompareSides = (p : Point) (e : Bool) (left right : List Part) → Holds p (row_of e left right) ↔ Meets e (side_value p left) (side_value p right)
