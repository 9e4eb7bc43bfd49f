-- OUT regions: what is written and, in the rest of the run, read before it is written again. They are handed down, from a list to its statements, and are
-- never exact. `us` has what may be read later, as regions of kind OUT.
use Rattle.std.specs.Prelude.{Bool, true, false, ◌||◌, ◌++◌, if◌then◌else◌, List, [], ◌∷◌, map, Option, Some, None}
use Rattle.affine_systems.specs.declared.row.System.{System}
use Rattle.affine_systems.specs.Calls.{meet}
use Rattle.f77_ast.specs.declared.variable.Variable.{Variable}
use Rattle.f77_ast.specs.Symbols.{SymbolTree}
use Rattle.f77_ast.specs.Shared.{overlap}
use Rattle.in_out_regions.specs.region_sets.declared.region.Access.TheVariants.{Out}
use Rattle.in_out_regions.specs.region_sets.declared.region.Region.{Region}
use Rattle.in_out_regions.specs.region_sets.Regions.{region}
use Rattle.in_out_regions.specs.region_sets.Trim.{trim}
use Rattle.in_out_regions.specs.region_sets.Unite.{unite}
use Rattle.in_out_regions.specs.region_sets.Sets.{all_trimmed}
use Rattle.in_out_regions.specs.Kinds.{is_write}
use Rattle.f77_ast.specs.Variables.{same_variable}

abbrev pub as_out : Region → Region
as_out r = region r.variable Out false r.pieces

-- each trimmed, without those of which nothing is left
abbrev pub all_out : List Region → List Region
all_out rs = map as_out (all_trimmed rs)

-- ---- what of a WRITE region is used

-- another variable that shares units with this one is used
abbrev pub is_used_beside : List SymbolTree → List Region → Variable → Bool
is_used_beside ss [] v = false
is_used_beside ss (u ∷ us) v = overlap ss u.variable v || is_used_beside ss us v

-- one region more of a variable
abbrev pub joined : Option Region → Region → Region
joined None u = as_out u
joined (Some r) u = unite r (as_out u)

-- with the regions of a variable among others, united from left to right
abbrev pub used_joined : Variable → Option Region → List Region → Option Region
used_joined v o [] = o
used_joined v o (u ∷ us) = if same_variable v u.variable then used_joined v (Some (joined o u)) us else used_joined v o us

-- what is used of a variable
abbrev pub used_in : Variable → List Region → Option Region
used_in v us = used_joined v None us

abbrev pub is_none : List System → Bool
is_none [] = true
is_none (s ∷ ss) = false

abbrev pub unless_empty : Region → List System → List Region
unless_empty w ss = if is_none ss then [] else region w.variable Out false ss ∷ []

-- each system of the first with each of the second
abbrev pub each_met : List System → List System → List System
each_met [] ts = []
each_met (s ∷ ss) ts = map (meet s) ts ++ each_met ss ts

-- what a region has in common with what is used of its variable, trimmed
abbrev pub met_with : Region → Option Region → List Region
met_with w None = []
met_with w (Some u) = unless_empty w (trim (each_met w.pieces u.pieces)).pieces

-- all of it, where a variable is used that shares units with its own
abbrev pub used_of : List SymbolTree → List Region → Region → List Region
used_of ss us w = if is_used_beside ss us w.variable then as_out w ∷ [] else met_with w (used_in w.variable us)

abbrev pub if_write : List SymbolTree → List Region → Region → List Region
if_write ss us w = if is_write w.kind then used_of ss us w else []

-- what is used of the WRITE regions of a set
abbrev pub used : List SymbolTree → List Region → List Region → List Region
used ss us [] = []
used ss us (w ∷ ws) = if_write ss us w ++ used ss us ws
