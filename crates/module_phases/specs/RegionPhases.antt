-- READ and WRITE of the modules of a program, callees before callers.
use Rattle.std.specs.Prelude.{ℕ, List, [], ◌∷◌, reverse, Some, None, bytes_eq, if◌then◌else◌}
use Rattle.f77_ast.specs.declared.variable.Unit.{Unit as BlockUnit}
use Rattle.f77_ast.specs.declared.results.Results.{Results}
use Rattle.call_graph.specs.declared.graph.Graph.{Graph}
use Rattle.module_phases.specs.ScalarPhases.{scope_of, Analysis}
use Rattle.in_out_regions.specs.region_sets.declared.region.Region.{Region}
use Rattle.in_out_regions.specs.array_regions.Calls.{Callees}
use Rattle.in_out_regions.specs.array_regions.Modules.{regions_with}

-- a module with its analyses, and its regions
pub record ModuleRegions : Type 0 where
  pub analysis : Analysis
  pub regions : Results (List Region)

-- before any module was looked at
abbrev pub no_callees : Callees
no_callees x = None

-- with one more
abbrev pub with_callee : ModuleRegions → Callees → Callees
with_callee f cs x = if bytes_eq f.analysis.found.known.read.name x then Some (record { symbols = f.analysis.found.known.symbols; value = f.regions.summary }) else cs x

-- from the transformers of a module's statements, with the summaries of what it calls
abbrev pub regions_found : List BlockUnit → Callees → Analysis → Results (List Region)
regions_found untracked cs a = regions_with a.found.known.read.body (scope_of untracked a.found.known) untracked a.found.own.at cs

abbrev pub with_regions : List BlockUnit → Callees → Analysis → ModuleRegions
with_regions untracked cs a = record { analysis = a; regions = regions_found untracked cs a }

-- modules in this order, each with the summaries of those before it
abbrev pub found_in : List BlockUnit → Callees → List Analysis → List ModuleRegions
found_in untracked cs [] = []
found_in untracked cs (a ∷ as') = let f = with_regions untracked cs a in f ∷ found_in untracked (with_callee f cs) as'

-- of the modules of a program, from their analyses, in which callers come before callees
abbrev pub all_regions : Graph → List Analysis → List ModuleRegions
all_regions g as' = found_in g.untracked no_callees (reverse as')
