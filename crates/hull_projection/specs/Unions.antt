-- Unions: the points that are in one of a list of systems.
use Rattle.std.specs.Prelude.{◌⊎◌, List, [], ◌∷◌}
use Rattle.affine_systems.specs.declared.row.System.{System}
use Rattle.affine_systems.specs.Points.{Point, HoldsAll}

-- a point is in one of the systems
abbrev pub HoldsSome : Point → List System → Type 0
HoldsSome p [] = ⊥
HoldsSome p (s ∷ ss) = HoldsAll p s.rows ⊎ HoldsSome p ss
