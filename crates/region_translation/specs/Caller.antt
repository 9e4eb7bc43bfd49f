-- The region of the caller that a region of the callee is.
use Rattle.std.specs.Prelude.{◌&&◌, Option, option_map}
use Rattle.region_sets.specs.declared.region.Region.{Region}
use Rattle.region_sets.specs.Regions.{region, each_piece}
use Rattle.call_equations.specs.declared.link.Link.{Link}
use Rattle.call_equations.specs.Sides.{SidesTree}
use Rattle.call_equations.specs.Links.{link_of}
use Rattle.region_translation.specs.Pieces.{piece_in_caller}

-- piece by piece; exact where the region is, the equations are, and the translation of each piece is
abbrev pub by_link : SidesTree → Region → Link → Region
by_link c r l = each_piece (piece_in_caller c l) (region l.variable r.kind (r.exact && l.exact) r.pieces)

-- None of an expression's unit, and of a local that is not saved
abbrev pub to_caller : SidesTree → Region → Option Region
to_caller c r = option_map (by_link c r) (link_of c r.variable)
