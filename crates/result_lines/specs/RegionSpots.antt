-- The lines on regions before a statement that may have lines of its own.
use Rattle.std.specs.Prelude.{ℕ, List, [], if◌then◌else◌}
use Rattle.f77_printer.specs.declared.added.Added.{Added}
use Rattle.f77_ast.specs.declared.results.At.{At}
use Rattle.transformers.specs.Lists.{value_at}
use Rattle.result_lines.specs.declared.spots.LineSpot.{LineSpot}
use Rattle.region_sets.specs.declared.region.Region.{Region}
use Rattle.result_lines.specs.RegionLines.{found_lines}

abbrev pub spot_lines : List (List ℕ) → List (At (List Region)) → LineSpot → List Added
spot_lines names sets p = if p.changes then found_lines names p.before (value_at sets p.before) else []
