-- What the code holds, as plain data, and what calls ask of it.
use Rattle.module_phases.specs.RegionViews.{regions_tree, RegionsFit}
use Rattle.module_phases.specs.RegionViews as regions
use Rattle.module_phases.specs.declared.in_phases.ModuleIns as code
use Rattle.module_phases.specs.InPhases as phases

abbrev pub ins_tree : code.ModuleIns → phases.ModuleIns
ins_tree f = record { known = regions_tree f.known; ins = f.ins }

-- their systems are such as calls take
abbrev pub ModuleFits : code.ModuleIns → Type 0
ModuleFits f = regions.ModuleFits f.known × RegionsFit f.ins
