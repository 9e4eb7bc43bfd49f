-- What a region of the caller is to the module that it calls: regions of the variables of the callee that may have its units.
use Rattle.std.specs.Prelude.{ℕ, false, List, map}
use Rattle.region_sets.specs.declared.region.Region.{Region}
use Rattle.region_sets.specs.Regions.{region}
use Rattle.region_sets.specs.Sets.{unite_all}
use Rattle.call_equations.specs.Sides.{SidesTree}
use Rattle.region_translation.specs.declared.links.CalleeLink.{CalleeLink}
use Rattle.region_translation.specs.CalleePieces.{piece_in_callee}
use Rattle.region_translation.specs.Links.{callee_links, subscripts_of}

-- never exact
abbrev pub by_link : SidesTree → Region → CalleeLink → Region
by_link c r l = region l.variable r.kind false (map (piece_in_callee c l.moved (subscripts_of c r.variable) l.rows) r.pieces)

abbrev pub to_callee : (List ℕ → ℕ) → SidesTree → Region → List Region
to_callee size c r = unite_all (map (by_link c r) (callee_links size c r.variable))
