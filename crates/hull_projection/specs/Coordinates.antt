-- Points that are told by the numbers of some variables.
use Rattle.std.specs.Prelude.{List, [], ◌∷◌, if◌then◌else◌, pos}
use Rattle.affine_systems.specs.Points.{Point}
use Rattle.affine_systems.specs.Terms.{var_eq}
use Rattle.hull_projection.specs.declared.points.Coordinate.{Coordinate}

-- the first number that is told of a variable, else 0
abbrev pub point_of : List Coordinate → Point
point_of [] v = pos 0
point_of (c ∷ cs) v = if var_eq c.var v then c.number else point_of cs v
