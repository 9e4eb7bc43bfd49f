-- What the code holds, as plain data, and what calls ask of it.
use Rattle.std.specs.Prelude.{List}
use Rattle.f77_ast.specs.declared.results.Results.{Results}
use Rattle.module_phases.specs.ScalarViews.{analysis_tree, AnalysisFits}
use Rattle.in_out_regions.specs.region_sets.declared.region.Region.{Region}
use Rattle.in_out_regions.specs.region_sets.Lists.{SetsFit}
use Rattle.in_out_regions.specs.region_sets.Sets.{SetFits}
use Rattle.module_phases.specs.declared.region_phases.ModuleRegions as code
use Rattle.module_phases.specs.RegionPhases as phases

abbrev pub regions_tree : code.ModuleRegions → phases.ModuleRegions
regions_tree f = record { analysis = analysis_tree f.analysis; regions = f.regions }

-- their systems are such as calls take
abbrev pub RegionsFit : Results (List Region) → Type 0
RegionsFit r = SetsFit r.at × SetFits r.summary

abbrev pub ModuleFits : code.ModuleRegions → Type 0
ModuleFits f = AnalysisFits f.analysis × RegionsFit f.regions
