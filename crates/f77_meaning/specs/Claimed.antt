-- What is claimed of a program: of each execution in every run that no fault ends.
use Rattle.std.specs.Prelude.{ℕ, List, []}
use Rattle.f77_ast.specs.Store.{Content}
use Rattle.f77_ast.specs.Programs.{program_plan, program_run, Conforms}
use Rattle.call_graph.specs.declared.graph.Graph.{Graph}
use Rattle.f77_meaning.specs.Modules.{Known}
use Rattle.f77_meaning.specs.Linked.{program_of}
use Rattle.f77_meaning.specs.Occurrences.{Occurrence, Throughout}

-- in every run, also in one that a fault ends later
abbrev pub InEveryRun : List Known → Graph → (Occurrence → Type 0) → Type 0
InEveryRun ks g C = let p = program_of ks g in (turns : ℕ) (input : List Content) → Throughout C (program_plan p turns) p.initial input (λ f s i. [])

-- in every run that no fault ends
abbrev pub InConformingRuns : List Known → Graph → (Occurrence → Type 0) → Type 0
InConformingRuns ks g C = let p = program_of ks g in (turns : ℕ) (input : List Content) → Conforms (program_run p turns input).answer → Throughout C (program_plan p turns) p.initial input (λ f s i. [])
