-- One region for two of a variable and kind.
use Rattle.std.specs.Prelude.{◌&&◌, if◌then◌else◌, ◌++◌}
use Rattle.region_sets.specs.declared.region.Region.{Region}
use Rattle.region_sets.specs.Regions.{remade}
use Rattle.region_sets.specs.Within.{all_within}
use Rattle.region_sets.specs.Trim.{trimmed_to}

-- the first, where it has all of the second; else the second, where it has all of the first; else the pieces of both, trimmed
abbrev pub unite : Region → Region → Region
unite a b =
    if all_within a.pieces b.pieces then remade a a.exact a.pieces
    else if all_within b.pieces a.pieces then remade b b.exact b.pieces
    else trimmed_to a (a.exact && b.exact) (a.pieces ++ b.pieces)
