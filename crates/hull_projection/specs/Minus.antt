-- The difference: a with each negation of a row of b, where that is not refuted.
use Rattle.std.specs.Prelude.{Bool, true, false, ◌||◌, if◌then◌else◌, List, [], ◌∷◌, ◌++◌, map, Option}
use Rattle.std.specs.declared.option.Option.TheVariants.{Some, None}
use Rattle.affine_systems.specs.declared.row.Row.{Row}
use Rattle.affine_systems.specs.declared.row.System.{System}
use Rattle.affine_systems.specs.Rows.{system}
use Rattle.affine_systems.specs.Given.{Fits}
use Rattle.affine_systems.specs.Calls.{push_row, meet}
use Rattle.hull_projection.specs.declared.parts.Minus.{Minus}
use Rattle.hull_projection.specs.Refute.{refuted, negations}
use Rattle.hull_projection.specs.Clean.{clean}
use Rattle.hull_projection.specs.Hull.{hull}

abbrev pub AllFit : List System → Type 0
AllFit [] = Unit {0}
AllFit (s ∷ ss) = Fits s × AllFit ss

abbrev pub difference : Option System → Bool → Minus
difference s e = record { system = s; exact = e }

-- an equal row gives both its negations
abbrev pub all_negations : List Row → List Row
all_negations [] = []
all_negations (r ∷ rs) = negations r ++ all_negations rs

-- unless it is refuted
abbrev pub part_before : System → List System → List System
part_before s ss = if refuted s.rows then ss else s ∷ ss

abbrev pub parts : System → List Row → List System
parts a [] = []
parts a (n ∷ ns) = part_before (push_row a n) (parts a ns)

-- the parts of a outside b, each cleaned
abbrev pub apart : System → System → List System
apart a b = map clean (parts a (all_negations b.rows))

-- from left to right
abbrev pub hull_all : System → List System → System
hull_all s [] = s
hull_all s (t ∷ ts) = hull_all (hull s t) ts

abbrev pub weaker : System → Bool → System
weaker s w = system s.rows (s.weak || w)

-- nothing, one part, or the hull of many
abbrev pub minus_parts : List System → Bool → Minus
minus_parts [] w = difference None true
minus_parts (s ∷ []) w = difference (Some (weaker (clean s) w)) true
minus_parts (s ∷ (t ∷ ts)) w = difference (Some (weaker (hull_all s (t ∷ ts)) w)) false

abbrev pub minus : System → System → Minus
minus a b =
    if refuted (meet a b).rows then difference (Some a) true
    else minus_parts (parts a (all_negations b.rows)) (a.weak || b.weak)
