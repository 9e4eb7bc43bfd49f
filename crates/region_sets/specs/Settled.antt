-- Regions that are trimmed: trimming them again changes nothing, but perhaps where one piece has no points, or where the last of four is a hull.
use Rattle.std.specs.Prelude.{◌≡◌, Bool, true, false, not, List, [], ◌∷◌}
use Rattle.affine_systems.specs.declared.row.Row.{Row}
use Rattle.affine_systems.specs.declared.row.System.{System}
use Rattle.affine_systems.specs.Terms.{has_no_terms}
use Rattle.region_sets.specs.declared.region.Region.{Region}
use Rattle.region_sets.specs.Trim.{trimmed, trim}

-- the first row has no terms, as that of the system without points
abbrev pub is_bare : List Row → Bool
is_bare [] = false
is_bare (r ∷ rs) = has_no_terms r.terms

-- `e` says that the region is exact: then no hull was taken
abbrev pub may_change : Bool → List System → Bool
may_change e [] = false
may_change e (s ∷ []) = is_bare s.rows
may_change e (a ∷ b ∷ []) = false
may_change e (a ∷ b ∷ c ∷ []) = false
may_change e (a ∷ b ∷ c ∷ d ∷ ss) = not e

abbrev pub AreSettled : Bool → List System → Type 0
AreSettled e ss = may_change e ss ≡ false → trimmed ss true ≡ trim ss

abbrev pub IsSettled : Region → Type 0
IsSettled r = AreSettled r.exact r.pieces

abbrev pub AllSettled : List Region → Type 0
AllSettled [] = Unit {0}
AllSettled (r ∷ rs) = IsSettled r × AllSettled rs

-- one of a set: a hull was trimmed with the others
abbrev pub IsFixed : Region → Type 0
IsFixed r = AreSettled true r.pieces

abbrev pub AllFixed : List Region → Type 0
AllFixed [] = Unit {0}
AllFixed (r ∷ rs) = IsFixed r × AllFixed rs
