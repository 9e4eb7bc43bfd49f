-- What is claimed of the runs of a program: the IN regions of its modules.
use Rattle.std.specs.Prelude.{◌≡◌, ℕ, Bool, List, [], ◌∷◌, Option, Some, None}
use Rattle.f77_ast.specs.declared.variable.Variable.{Variable}
use Rattle.f77_ast.specs.declared.results.Results.{Results}
use Rattle.f77_ast.specs.Summaries.{SummaryTree}
use Rattle.call_graph.specs.declared.graph.Graph.{Graph}
use Rattle.f77_meaning.specs.Modules.{Known}
use Rattle.f77_meaning.specs.Occurrences.{Occurrence}
use Rattle.preconditions.specs.transformers.Given.{Callees}
use Rattle.preconditions.specs.transformers.Modules.{transformers_of}
use Rattle.in_out_regions.specs.region_sets.declared.region.Region.{Region}
use Rattle.in_out_regions.specs.call_equations.Sides.{changed_cells}
use Rattle.in_out_regions.specs.array_regions.Calls.{Called, Callees as Summaries}
use Rattle.in_out_regions.specs.Calls.{call_in}
use Rattle.in_out_regions.specs.Modules.{ins_of}
use Rattle.laws_analyses.specs.Calls.Parts.{Part}
use Rattle.laws_analyses.specs.Regions.Programs.{regions_in_part}
use Rattle.laws_marks.specs.InClaims.{InRegionsHold}

-- what the CALLs of a module read first: is has the IN regions of what it calls, as its callers see them
abbrev pub ins_called : Graph → Callees → Summaries → Part → Called
ins_called g cs is k = call_in k.scope (changed_cells (transformers_of k.routine.body k.scope cs).at) g.untracked is

-- IN of a module, from the transformers, READ and WRITE of its statements, and the summaries of what it calls: rs of READ and WRITE, is of IN
abbrev pub ins_in_part : Graph → Callees → Summaries → Summaries → Part → Results (List Region)
ins_in_part g cs rs is k = ins_of k.routine.body (record { scope = k.scope; does = k.found.transformer; accesses = (regions_in_part g cs rs k).at; called = ins_called g cs is k })

-- of an execution of a statement, or of the entry, by the name of its module
abbrev pub EachInHolds : List Known → Graph → Callees → (List ℕ → Summaries) → (List ℕ → Summaries) → (List ℕ → Part) → Occurrence → Type 0
EachInHolds ks g cs rs is of x = let k = of x.spot.module_name in InRegionsHold ks g k.scope (ins_in_part g cs (rs k.routine.name) (is k.routine.name) k) x

-- what callers see of a module that they call by a name
abbrev pub ins_for : Graph → Callees → (List ℕ → Summaries) → (List ℕ → Summaries) → Part → SummaryTree (List Region)
ins_for g cs rs is k = record { symbols = k.scope.symbols; value = (ins_in_part g cs (rs k.routine.name) (is k.routine.name) k).summary }
