-- Sets of regions, in order: at most one of a variable and kind, each trimmed.
use Rattle.std.specs.Prelude.{◌≡◌, ℕ, Bool, ◌&&◌, List, [], ◌∷◌}
use Rattle.std.specs.declared.cmp.Ordering.{Ordering}
use Rattle.std.specs.declared.cmp.Ordering.TheVariants.{Greater}
use Rattle.std.specs.Ordering.{nat_cmp, ordering_then, match_ordering}
use Rattle.affine_systems.specs.declared.row.System.{System}
use Rattle.f77_ast.specs.Variables.{variable_cmp}
use Rattle.region_sets.specs.declared.region.Access.{Access}
use Rattle.region_sets.specs.declared.region.Access.TheVariants.{Read, Write, In, Out}
use Rattle.region_sets.specs.declared.region.Region.{Region}
use Rattle.region_sets.specs.Regions.{remade, RegionFits}
use Rattle.region_sets.specs.Trim.{trim}
use Rattle.region_sets.specs.Unite.{unite}

abbrev pub SetFits : List Region → Type 0
SetFits [] = Unit {0}
SetFits (r ∷ rs) = RegionFits r × SetFits rs

-- ---- order

abbrev pub access_number : Access → ℕ
access_number Read = 0
access_number Write = 1
access_number In = 2
access_number Out = 3

-- by kind, then by variable
abbrev pub region_cmp : Region → Region → Ordering
region_cmp a b = ordering_then (nat_cmp (access_number a.kind) (access_number b.kind)) (variable_cmp a.variable b.variable)

-- each of a list comes before a region
abbrev pub ComeBefore : Region → List Region → Type 0
ComeBefore r [] = Unit {0}
ComeBefore r (q ∷ qs) = (region_cmp r q ≡ Greater) × ComeBefore r qs

-- ---- regions without points

abbrev pub with_pieces : Region → Bool → List System → (Region → List Region) → List Region → List Region
with_pieces r e [] k none = none
with_pieces r e (s ∷ ss) k none = k (remade r e (s ∷ ss))

-- a region with its pieces trimmed, where one is left
abbrev pub if_left : Region → (Region → List Region) → List Region → List Region
if_left r k none = with_pieces r (r.exact && (trim r.pieces).exact) (trim r.pieces).pieces k none

-- ---- gathering

-- united with the region of its variable and kind, or put before the first that comes after it
abbrev pub with_region : Region → List Region → List Region
with_region r [] = r ∷ []
with_region r (q ∷ qs) = match_ordering (region_cmp r q) (r ∷ (q ∷ qs)) (unite q r ∷ qs) (q ∷ with_region r qs)

-- trimmed before, unless nothing is left
abbrev pub with_trimmed : Region → List Region → List Region
with_trimmed r qs = if_left r (λ s. with_region s qs) qs

abbrev pub with_regions : List Region → List Region → List Region
with_regions qs [] = qs
with_regions qs (r ∷ rs) = with_regions (with_trimmed r qs) rs

-- each trimmed, without those of which nothing is left
abbrev pub all_trimmed : List Region → List Region
all_trimmed [] = []
all_trimmed (r ∷ rs) = if_left r (λ s. s ∷ all_trimmed rs) (all_trimmed rs)

-- regions united from left to right
abbrev pub unite_all : List Region → List Region
unite_all rs = all_trimmed (with_regions [] rs)
