-- Regions: elements of a variable, as systems on their subscripts (Phi) and on the cells where a statement begins. What a rule makes of a system it
-- makes of each piece of a region, in order.
use Rattle.std.specs.Prelude.{Bool, true, false, not, ◌&&◌, ◌||◌, List, [], ◌∷◌, map}
use Rattle.affine_systems.specs.declared.row.System.{System}
use Rattle.hull_projection.specs.declared.projection.Shadow.{Shadow}
use Rattle.hull_projection.specs.Minus.{AllFit}
use Rattle.f77_ast.specs.declared.variable.Variable.{Variable}
use Rattle.region_sets.specs.declared.region.Access.{Access}
use Rattle.region_sets.specs.declared.region.Region.{Region}

abbrev pub region : Variable → Access → Bool → List System → Region
region v k e ss = record { variable = v; kind = k; exact = e; pieces = ss }

-- each piece is a system that calls take
abbrev pub RegionFits : Region → Type 0
RegionFits r = AllFit r.pieces

abbrev pub any_weak : List System → Bool
any_weak [] = false
any_weak (s ∷ ss) = s.weak || any_weak ss

-- of the variable and the kind of another; never exact where a row was lost
abbrev pub remade : Region → Bool → List System → Region
remade r e ss = region r.variable r.kind (e && not (any_weak ss)) ss

abbrev pub all_exact : List Shadow → Bool
all_exact [] = true
all_exact (s ∷ ss) = s.exact && all_exact ss

abbrev pub systems : List Shadow → List System
systems ss = map (λ (s : Shadow). s.system) ss

-- what a rule makes of each piece; exact where the region is and the rule is for each
abbrev pub each_piece : (System → Shadow) → Region → Region
each_piece f r = remade r (r.exact && all_exact (map f r.pieces)) (systems (map f r.pieces))
