-- A system within another, as refutation shows.
use Rattle.std.specs.Prelude.{Bool, true, false, ◌&&◌, ◌||◌, if◌then◌else◌, List, [], ◌∷◌}
use Rattle.affine_systems.specs.declared.row.Row.{Row}
use Rattle.affine_systems.specs.declared.row.System.{System}
use Rattle.affine_systems.specs.Terms.{has_no_terms}
use Rattle.hull_projection.specs.Refute.{refuted, entails}

-- rows entail a row; the row that never holds, where they are refuted
abbrev pub gives_row : List Row → Row → Bool
gives_row rs r = if has_no_terms r.terms then refuted rs else entails rs r

abbrev pub gives_rows : List Row → List Row → Bool
gives_rows rs [] = true
gives_rows rs (q ∷ qs) = gives_row rs q && gives_rows rs qs

-- a system entails every row of one of the pieces
abbrev pub within_one : List System → System → Bool
within_one [] s = false
within_one (p ∷ ps) s = gives_rows s.rows p.rows || within_one ps s

-- each piece of the second lies within one of the first
abbrev pub all_within : List System → List System → Bool
all_within ps [] = true
all_within ps (s ∷ ss) = within_one ps s && all_within ps ss
