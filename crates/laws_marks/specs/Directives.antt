-- Directives that say what is found of the modules of a program.
use Rattle.std.specs.Prelude.{◌≡◌, ℕ, Bool, List, map, Some}
use Rattle.call_graph.specs.declared.graph.Graph.{Graph}
use Rattle.preconditions.specs.transformer_algebra.Laws.{In}
use Rattle.loop_marker.specs.Results.{ModuleResults}
use Rattle.result_lines.specs.declared.reduction.Reduction.{Reduction}
use Rattle.laws_interleavings.specs.Accumulating.{Directive}
use Rattle.laws_interleavings.specs.MarkedPrograms.{Directives}
use Rattle.laws_marks.specs.Names.{marked_names, reduction_named}
use Rattle.laws_marks.specs.Said.{said_at}

-- it says what is found of the DO with this number in the module of this name, which no other module has: the names of which iterations have copies, and the reduction variables
pub record IsFound (g : Graph) (reductions : Bool) (fs : List ModuleResults) (x : List ℕ) (n : ℕ) (e : Directive) : Type 0 where
  pub found : ModuleResults
  pub is_one : In found fs
  pub named : found.known.read.name ≡ x
  pub said : Reduction
  pub is_said : said_at g reductions found n ≡ Some said
  pub private : e.private ≡ marked_names found.known n said.private
  pub clauses : e.reductions ≡ map (reduction_named found.known.symbols) said.parts

-- each directive does; not every DO of which something is said need have one
abbrev pub AreFound : Graph → Bool → List ModuleResults → Directives → Type 0
AreFound g reductions fs d = (x : List ℕ) (n : ℕ) (e : Directive) → d x n ≡ Some e → IsFound g reductions fs x n e
