-- What the analyses of tracked cells of a program claim of an execution in a run.
use Rattle.std.specs.Prelude.{◌≡◌, ℕ, zero, suc, Bool, List, All, Option, Some, IfSome}
use Rattle.affine_systems.specs.declared.row.System.{System}
use Rattle.call_graph.specs.declared.graph.Graph.{Graph}
use Rattle.f77_meaning.specs.Occurrences.{Occurrence}
use Rattle.f77_meaning.specs.Claims.{PreconditionHolds, TransformerHolds}
use Rattle.affine_forms.specs.Scalars.{is_cell}
use Rattle.preconditions.specs.transformer_algebra.declared.transformer.Transformer.{Transformer}
use Rattle.preconditions.specs.transformer_algebra.Cells.{has}
use Rattle.preconditions.specs.transformers.Lists.{value_at}
use Rattle.laws_analyses.specs.Statements.Results.{SystemHolds, Relates}
use Rattle.module_phases.specs.ScalarPhases.{scope_of, Analysis}

-- what was found to hold where the statement of a number begins, and, by the number 0, where the module is entered
abbrev pub precondition_in : Analysis → ℕ → Option System
precondition_in a zero = Some a.holds.summary
precondition_in a (suc n) = value_at a.holds.at (suc n)

-- what the statement of a number was found to do, and, by the number 0, the module
abbrev pub transformer_in : Analysis → ℕ → Option Transformer
transformer_in a zero = Some a.found.own.summary
transformer_in a (suc n) = value_at a.found.own.at (suc n)

-- its tracked cells
abbrev pub is_tracked : Graph → Analysis → ℕ → Bool
is_tracked g a = is_cell (scope_of g.untracked a.found.known).tracked

-- of an execution of one of its statements, or of its entry: the numbers of the tracked cells at the arrival satisfy the precondition, these and those of the
-- changed cells at a normal end satisfy the transformer, and the other cells have the same there
pub record AnalysisHolds (g : Graph) (a : Analysis) (x : Occurrence) : Type 0 where
  pub precondition : IfSome (precondition_in a x.spot.statement) (λ s. PreconditionHolds (is_tracked g a) (SystemHolds s) x)
  pub transformer : IfSome (transformer_in a x.spot.statement) (λ t. TransformerHolds a.found.known.symbols (is_tracked g a) (has t.cells) (Relates t.system) x)

-- of an execution in whatever module
abbrev pub AnalysesHold : Graph → List Analysis → Occurrence → Type 0
AnalysesHold g as' x = All (λ a. a.found.known.read.name ≡ x.spot.module_name → AnalysisHolds g a x) as'
