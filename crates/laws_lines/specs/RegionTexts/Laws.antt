-- What is written of a region is read as that region.
use Rattle.std.specs.Prelude.{◌≡◌, List, [], ◌∷◌, Some}
use Rattle.std.specs.List.{AllByRecursion}
use Rattle.affine_systems.specs.declared.row.System.{System}
use Rattle.f77_ast.specs.declared.variable.Variable.{Variable}
use Rattle.f77_ast.specs.declared.variable.Variable.TheVariants.{Own, Block, Saved}
use Rattle.system_text.specs.Reading.{Bytes}
use Rattle.system_text.specs.Printed.{IsOrdered}
use Rattle.laws_programs.specs.roundtrip_programs.Lines.{IsShown, AreShown, IsClaimLine}
use Rattle.in_out_regions.specs.region_sets.declared.region.Region.{Region}
use Rattle.in_out_regions.specs.region_sets.Regions.{RegionFits}
use Rattle.result_lines.specs.RegionLines.{line_of}
use Rattle.laws_lines.specs.RegionTexts.Reading.{read_region_line}
use Rattle.laws_lines.specs.RegionTexts.Printed.{AreOther, IsReadable, as_shown}

abbrev pub RegionLinesReadBack : Type 0
RegionLinesReadBack = (names : List Bytes) (r : Region) → AreOther names → IsReadable names r → read_region_line names (line_of names r) ≡ Some (as_shown r)

-- of one system
abbrev pub OneSystemLinesReadBack : Type 0
OneSystemLinesReadBack = (names : List Bytes) (r : Region) (s : System) → r.pieces ≡ s ∷ [] → AreOther names → IsReadable names r → read_region_line names (line_of names r) ≡ Some r

-- each region that a call of region_sets gives
abbrev pub FittingRegionsAreOrdered : Type 0
FittingRegionsAreOrdered = (r : Region) → RegionFits r → AllByRecursion IsOrdered r.pieces

-- a symbol, or what has a name of printable ASCII
abbrev pub IsShownVariable : Variable → Type 0
IsShownVariable (Own n) = Unit {0}
IsShownVariable (Block b) = IsShown b
IsShownVariable (Saved s x) = IsShown s × IsShown x

-- whatever its systems are
abbrev pub RegionLinesArePassedOver : Type 0
RegionLinesArePassedOver = (names : List Bytes) (r : Region) → AreShown names → IsShownVariable r.variable → IsClaimLine (line_of names r)
