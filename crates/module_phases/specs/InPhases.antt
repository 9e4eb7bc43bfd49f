-- IN of the modules of a program, callees before callers.
use Rattle.std.specs.Prelude.{ℕ, List, [], ◌∷◌, Some, bytes_eq, if◌then◌else◌}
use Rattle.f77_ast.specs.declared.variable.Unit.{Unit as BlockUnit}
use Rattle.f77_ast.specs.declared.results.Results.{Results}
use Rattle.call_graph.specs.declared.graph.Graph.{Graph}
use Rattle.module_phases.specs.ScalarPhases.{scope_of}
use Rattle.in_out_regions.specs.region_sets.declared.region.Region.{Region}
use Rattle.in_out_regions.specs.array_regions.Calls.{Callees}
use Rattle.module_phases.specs.RegionPhases.{ModuleRegions, no_callees}
use Rattle.in_out_regions.specs.Modules.{ins_with}

-- a module with its analyses and its READ and WRITE, and its IN regions
pub record ModuleIns : Type 0 where
  pub known : ModuleRegions
  pub ins : Results (List Region)

-- with one more
abbrev pub with_callee : ModuleIns → Callees → Callees
with_callee f cs x = if bytes_eq f.known.analysis.found.known.read.name x then Some (record { symbols = f.known.analysis.found.known.symbols; value = f.ins.summary }) else cs x

-- from the transformers of a module's statements and their READ and WRITE, with the summaries of what it calls
abbrev pub ins_found : List BlockUnit → Callees → ModuleRegions → Results (List Region)
ins_found untracked cs f = ins_with f.analysis.found.known.read.body (scope_of untracked f.analysis.found.known) untracked f.analysis.found.own.at f.regions.at cs

abbrev pub with_ins : List BlockUnit → Callees → ModuleRegions → ModuleIns
with_ins untracked cs f = record { known = f; ins = ins_found untracked cs f }

-- modules in this order, each with the summaries of those before it
abbrev pub found_in : List BlockUnit → Callees → List ModuleRegions → List ModuleIns
found_in untracked cs [] = []
found_in untracked cs (f ∷ fs) = let n = with_ins untracked cs f in n ∷ found_in untracked (with_callee n cs) fs

-- of the modules of a program, in which callees come before callers
abbrev pub all_ins : Graph → List ModuleRegions → List ModuleIns
all_ins g fs = found_in g.untracked no_callees fs
