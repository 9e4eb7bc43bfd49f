-- The analyses of a program as summaries, CALLs and entries by the names of modules.
use Rattle.std.specs.Prelude.{ℕ, List, [], ◌∷◌, if◌then◌else◌, bytes_eq}
use Rattle.affine_systems.specs.declared.row.System.{System}
use Rattle.f77_ast.specs.declared.variable.Unit.{Unit as BlockUnit}
use Rattle.call_graph.specs.declared.graph.Graph.{Graph}
use Rattle.f77_meaning.specs.Modules.{Known}
use Rattle.affine_forms.specs.Conditions.{no_rows}
use Rattle.preconditions.specs.call_translation.Sites.{HoldingSite}
use Rattle.preconditions.specs.transformers.Given.{Callees}
use Rattle.module_phases.specs.ScalarPhases.{module_of, no_callees, with_callee, maybe_found, Analysis, sites_of, analyses}

-- the summaries after these modules, in their order
abbrev pub callees_after : List BlockUnit → List Known → Callees → List (List ℕ) → Callees
callees_after untracked ks cs [] = cs
callees_after untracked ks cs (x ∷ xs) = callees_after untracked ks (with_callee (maybe_found untracked cs (module_of ks x)) cs) xs

abbrev pub callees_of_all : List Known → Graph → Callees
callees_of_all ks g = callees_after g.untracked ks no_callees g.order

-- what holds where the module of a name is entered
abbrev pub summary_named : List Analysis → List ℕ → System
summary_named [] x = no_rows
summary_named (a ∷ as') x = if bytes_eq a.found.known.read.name x then a.holds.summary else summary_named as' x

-- the analyses before that of a name
abbrev pub analyses_before : List Analysis → List ℕ → List Analysis
analyses_before [] x = []
analyses_before (a ∷ as') x = if bytes_eq a.found.known.read.name x then [] else a ∷ analyses_before as' x

abbrev pub analysed_entry : List Known → Graph → Known → System
analysed_entry ks g k = summary_named (analyses ks g) k.read.name

-- the CALLs of a name
abbrev pub analysed_sites : List Known → Graph → List ℕ → List HoldingSite
analysed_sites ks g x = sites_of g.untracked (analyses_before (analyses ks g) x) x
