-- The last two of more than four systems become their hull, until four are left; and what was found of rows that a system was asked for.
use Rattle.std.specs.Prelude.{◌≡◌, Bool, false, List, [], ◌∷◌}
use Rattle.affine_systems.specs.declared.row.Row.{Row}
use Rattle.affine_systems.specs.declared.row.System.{System}
use Rattle.hull_projection.specs.Refute.{refuted}
use Rattle.hull_projection.specs.Hull.{hull}
use Rattle.region_sets.specs.declared.within.Asked.{Asked}
use Rattle.region_sets.specs.Trim.{hulls}
use Rattle.region_sets.specs.Within.{gives_row}

abbrev pub joined : List System → List System
joined [] = []
joined (s ∷ []) = s ∷ []
joined (s ∷ t ∷ []) = hull s t ∷ []
joined (s ∷ t ∷ u ∷ ss) = s ∷ joined (t ∷ u ∷ ss)

-- three, and the hull of all others
abbrev pub three_and_hull : List System → List System
three_and_hull (a ∷ b ∷ c ∷ d ∷ ss) = a ∷ b ∷ c ∷ hulls d ss ∷ []
three_and_hull ss = ss

abbrev pub is_lone_refuted : List System → Bool
is_lone_refuted [] = false
is_lone_refuted (s ∷ []) = refuted s.rows
is_lone_refuted (s ∷ t ∷ ss) = false

-- each answer is that of the rows
abbrev pub AreAnswers : List Row → List Asked → Type 0
AreAnswers rs [] = Unit {0}
AreAnswers rs (a ∷ as') = (a.given ≡ gives_row rs a.row) × AreAnswers rs as'
