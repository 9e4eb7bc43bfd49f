-- At most four systems, none within another: the pieces of a region are trimmed where a rule has made them, and where the region is put into a set.
use Rattle.std.specs.Prelude.{Bool, true, false, ◌&&◌, if◌then◌else◌, List, [], ◌∷◌, ◌++◌, map, reverse}
use Rattle.affine_systems.specs.declared.row.System.{System}
use Rattle.hull_projection.specs.declared.projection.Shadow.{Shadow}
use Rattle.hull_projection.specs.Refute.{refuted}
use Rattle.hull_projection.specs.Hull.{hull}
use Rattle.affine_forms.specs.Conditions.{infeasible}
use Rattle.region_sets.specs.declared.region.Region.{Region}
use Rattle.region_sets.specs.declared.trimming.Trimmed.{Trimmed}
use Rattle.region_sets.specs.Regions.{remade, all_exact, systems}
use Rattle.region_sets.specs.Within.{within_one}

abbrev pub trimmed : List System → Bool → Trimmed
trimmed ss e = record { pieces = ss; exact = e }

-- the pieces that are not refuted
abbrev pub live_pieces : List System → List System
live_pieces [] = []
live_pieces (s ∷ ss) = if refuted s.rows then live_pieces ss else s ∷ live_pieces ss

-- the first are still to be looked at, the last of them first; the others stay. What lies within another that is left is dropped
abbrev pub sifted : List System → List System → List System
sifted [] ts = ts
sifted (s ∷ ss) ts = if within_one (ss ++ ts) s then sifted ss ts else sifted ss (s ∷ ts)

-- the last two become their hull until one is left
abbrev pub hulls : System → List System → System
hulls s [] = s
hulls s (t ∷ ts) = hull s (hulls t ts)

-- three stay, and all others become one, which may have more
abbrev pub limited : List System → Trimmed
limited (a ∷ b ∷ c ∷ d ∷ e ∷ ss) = trimmed (a ∷ b ∷ c ∷ hulls d (e ∷ ss) ∷ []) false
limited ss = trimmed ss true

-- none is refuted, none lies within another, as far as refutation shows; exact where no hull was taken
abbrev pub trim : List System → Trimmed
trim ss = limited (sifted (reverse (live_pieces ss)) [])

-- of no systems that without points
abbrev pub or_infeasible : List System → List System
or_infeasible [] = infeasible ∷ []
or_infeasible (s ∷ ss) = s ∷ ss

-- of the variable and the kind of another, with trimmed pieces
abbrev pub trimmed_to : Region → Bool → List System → Region
trimmed_to r e ss = remade r (e && (trim ss).exact) (or_infeasible (trim ss).pieces)

-- what a rule makes of each piece, trimmed; exact where the region is, the rule is for each, and no hull was taken
abbrev pub each_trimmed : (System → Shadow) → Region → Region
each_trimmed f r = trimmed_to r (r.exact && all_exact (map f r.pieces)) (systems (map f r.pieces))
