-- Which variables the analyses of a program speak of.
use Rattle.std.specs.Prelude.{◌≡◌, ℕ, List, All, true}
use Rattle.affine_systems.specs.declared.row.System.{System}
use Rattle.f77_ast.specs.DeclTrees.{ParsedTree}
use Rattle.f77_ast.specs.Symbols.{SymbolTree}
use Rattle.f77_ast.specs.declared.variable.Unit.{Unit as BlockUnit}
use Rattle.call_graph.specs.declared.graph.Graph.{Graph}
use Rattle.f77_ast.specs.declared.results.At.{At}
use Rattle.f77_meaning.specs.Modules.{Known, known_of}
use Rattle.affine_forms.specs.Scalars.{is_cell}
use Rattle.preconditions.specs.transformer_algebra.declared.transformer.Transformer.{Transformer}
use Rattle.loop_marker.specs.module_phases.ScalarPhases.{Analysis, scope_of, analyses}
use Rattle.laws_programs.specs.Programs.{AreTables}
use Rattle.laws_lines.specs.Variables.{IsOver, IsCellOf}
use Rattle.laws_lines.specs.Halves.{IsTransformerOf}

-- a tracked cell of a module, by the number of its symbol
abbrev pub IsTracked : List BlockUnit → Known → ℕ → Type 0
IsTracked untracked k c = is_cell (scope_of untracked k).tracked c ≡ true

-- each precondition of a module speaks of its tracked cells before the statement, and each transformer of these and, after it, of those that it changes: no
-- other variable occurs, and no auxiliary one
pub record AnalysisIsOver (untracked : List BlockUnit) (a : Analysis) : Type 0 where
  pub at : All (λ (x : At System). IsOver (IsCellOf (IsTracked untracked a.found.known)) x.value) a.holds.at
  pub entry : IsOver (IsCellOf (IsTracked untracked a.found.known)) a.holds.summary
  pub own : All (λ (x : At Transformer). IsTransformerOf (IsTracked untracked a.found.known) x.value) a.found.own.at
  pub summary : IsTransformerOf (IsTracked untracked a.found.known) a.found.own.summary

-- of modules with their tables, whatever their links are
abbrev pub AnalysesAreOverCells : Type 0
AnalysesAreOverCells = (ps : List ParsedTree) (sss : List (List SymbolTree)) (g : Graph) → AreTables ps sss → All (AnalysisIsOver g.untracked) (analyses (known_of ps sss) g)
