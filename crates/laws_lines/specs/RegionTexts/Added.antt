-- What the lines that are added to a module for its sets of regions are read as.
use Rattle.std.specs.Prelude.{◌≡◌, ◌⊎◌, ℕ, Bool, List, Some}
use Rattle.std.specs.List.{AllByRecursion}
use Rattle.f77_ast.specs.Trees.{StmtTrees}
use Rattle.f77_printer.specs.declared.added.Added.{Added}
use Rattle.f77_ast.specs.declared.results.Results.{Results}
use Rattle.preconditions.specs.transformers.Lists.{value_at}
use Rattle.preconditions.specs.transformer_algebra.Laws.{In}
use Rattle.system_text.specs.Reading.{Bytes}
use Rattle.in_out_regions.specs.region_sets.declared.region.Region.{Region}
use Rattle.result_lines.specs.RegionLines.{region_lines_of}
use Rattle.laws_lines.specs.RegionTexts.Reading.{read_region_line}
use Rattle.laws_lines.specs.RegionTexts.Printed.{AreOther, IsReadable, as_shown}

-- each region of the set of a statement, and of that of the module
pub record AreReadable (names : List Bytes) (sets : Results (List Region)) : Type 0 where
  pub at : (n : ℕ) (rs : List Region) → value_at sets.at n ≡ Some rs → AllByRecursion (IsReadable names) rs
  pub summary : AllByRecursion (IsReadable names) sets.summary

-- a region of the set of the statement of a number, or, by the number 0, of that of the module
abbrev pub IsThere : Results (List Region) → ℕ → Region → Type 0
IsThere sets n r = ((rs : List Region) × (value_at sets.at n ≡ Some rs) × In r rs) ⊎ ((n ≡ 0) × In r sets.summary)

-- a line is read as a region that was found there
abbrev pub MeansRegion : List Bytes → Results (List Region) → Added → Type 0
MeansRegion names sets x = (r : Region) × (read_region_line names x.line ≡ Some (as_shown r)) × IsThere sets x.before r

abbrev pub AddedLinesReadBack : Type 0
AddedLinesReadBack =
    (main : Bool) (body : StmtTrees) (names : List Bytes) (sets : Results (List Region)) → AreOther names → AreReadable names sets → AllByRecursion (MeansRegion names sets) (region_lines_of main body names sets)
