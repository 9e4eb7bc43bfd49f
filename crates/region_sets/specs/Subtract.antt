-- A region less another of the same variable: what is certainly accessed by the other is taken away.
use Rattle.std.specs.Prelude.{Bool, true, false, ◌&&◌, if◌then◌else◌, List, [], ◌∷◌, ◌++◌, Option, Some, None}
use Rattle.affine_systems.specs.declared.row.Var.{Var}
use Rattle.affine_systems.specs.declared.row.Var.TheVariants.{Cell, Exit, Phi, Aux}
use Rattle.affine_systems.specs.declared.row.Term.{Term}
use Rattle.affine_systems.specs.declared.row.Row.{Row}
use Rattle.affine_systems.specs.declared.row.System.{System}
use Rattle.affine_systems.specs.Calls.{meet}
use Rattle.hull_projection.specs.Refute.{refuted}
use Rattle.hull_projection.specs.Minus.{apart}
use Rattle.region_sets.specs.declared.region.Region.{Region}
use Rattle.region_sets.specs.Regions.{remade}
use Rattle.region_sets.specs.Trim.{trim}

-- ---- rows on subscripts and cells alone

abbrev pub is_place : Var → Bool
is_place (Cell c) = true
is_place (Exit c) = false
is_place (Phi k) = true
is_place (Aux j) = false

abbrev pub are_place_terms : List Term → Bool
are_place_terms [] = true
are_place_terms (t ∷ ts) = is_place t.var && are_place_terms ts

abbrev pub are_place_rows : List Row → Bool
are_place_rows [] = true
are_place_rows (r ∷ rs) = are_place_terms r.terms && are_place_rows rs

-- then one row of each fails at an element, whatever the other variables are
abbrev pub are_places : List System → Bool
are_places [] = true
are_places (s ∷ ss) = are_place_rows s.rows && are_places ss

-- ---- from an exact one

-- a piece less a system: itself where they have no point in common, else its parts outside
abbrev pub less_piece : System → System → List System
less_piece t s = if refuted (meet s t).rows then s ∷ [] else apart s t

abbrev pub less_one : System → List System → List System
less_one t [] = []
less_one t (s ∷ ss) = less_piece t s ++ less_one t ss

-- each system from all that is left
abbrev pub less_all : List System → List System → List System
less_all ss [] = ss
less_all ss (t ∷ ts) = less_all (less_one t ss) ts

abbrev pub unless_empty : Region → Bool → List System → Option Region
unless_empty r e [] = None
unless_empty r e (p ∷ ps) = Some (remade r e (p ∷ ps))

-- what is left, trimmed; None where nothing is
abbrev pub all_left : Region → List System → Option Region
all_left r ss = unless_empty r (r.exact && (trim ss).exact) (trim ss).pieces

-- ---- from one that may have more than is accessed

-- no piece has a point in common with a system, as refutation shows
abbrev pub are_apart : System → List System → Bool
are_apart p [] = true
are_apart p (s ∷ ss) = refuted (meet p s).rows && are_apart p ss

abbrev pub all_apart : List System → List System → Bool
all_apart [] ss = true
all_apart (p ∷ ps) ss = are_apart p ss && all_apart ps ss

-- an exact one is taken away
abbrev pub subtract : Region → Region → Option Region
subtract a b =
    if b.exact && are_places b.pieces then all_left a (less_all a.pieces b.pieces)
    else Some (remade a (a.exact && all_apart a.pieces b.pieces) a.pieces)
