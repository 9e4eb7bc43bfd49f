-- IN regions: what is read before it is written. What is read where nothing is written before is so.
use Rattle.std.specs.Prelude.{Bool, true, false, not, ◌&&◌, if◌then◌else◌, List, [], ◌∷◌, map}
use Rattle.array_regions.specs.region_sets.declared.region.Access.{Access}
use Rattle.array_regions.specs.region_sets.declared.region.Access.TheVariants.{Read, Write, In, Out}
use Rattle.array_regions.specs.region_sets.declared.region.Region.{Region}
use Rattle.array_regions.specs.region_sets.Regions.{region, any_weak}

-- a region as one of IN
abbrev pub as_in : Region → Region
as_in r = region r.variable In (r.exact && not (any_weak r.pieces)) r.pieces

abbrev pub all_in : List Region → List Region
all_in rs = map as_in rs

abbrev pub is_read : Access → Bool
is_read Read = true
is_read Write = false
is_read In = false
is_read Out = false

abbrev pub is_write : Access → Bool
is_write Read = false
is_write Write = true
is_write In = false
is_write Out = false

-- IN of what reads before it writes, from its READ and WRITE
abbrev pub first_reads : List Region → List Region
first_reads [] = []
first_reads (r ∷ rs) = if is_read r.kind then as_in r ∷ first_reads rs else first_reads rs
