-- What a line SAFE claims of runs: a reference on it stays inside its array wherever a statement of the module evaluates it.
use Rattle.std.specs.Prelude.{◌≡◌, ℕ, List, Some, slice_get}
use Rattle.f77_ast.specs.Trees.{ExprTree, ExprTrees}
use Rattle.f77_ast.specs.Trees as tree
use Rattle.f77_ast.specs.DeclTrees.{ParsedTree}
use Rattle.f77_ast.specs.Symbols.{SymbolTree}
use Rattle.f77_ast.specs.Store.{Content, Store}
use Rattle.f77_ast.specs.Places.{Names, Places}
use Rattle.f77_ast.specs.Values.{value, values, target, shown}
use Rattle.f77_ast.specs.Calls.{actual}
use Rattle.f77_ast.specs.Plans.{Plan}
use Rattle.f77_ast.specs.Executions.{run_of}
use Rattle.preconditions.specs.transformer_algebra.Laws.{In}
use Rattle.call_graph.specs.declared.graph.Graph.{Graph}
use Rattle.f77_meaning.specs.Modules.{Known, known_of, names}
use Rattle.f77_meaning.specs.Occurrences.{Occurrence}
use Rattle.f77_meaning.specs.Claimed.{InEveryRun}
use Rattle.bound_check.specs.loop_marker.module_phases.ScalarPhases.{scope_of, Analysis, analyses}
use Rattle.laws_programs.specs.Programs.{IsProgram}
use Rattle.bound_check.specs.Checked.{ChecksAt, checked_of}
use Rattle.bound_check.specs.References.{elements}
use Rattle.laws_bounds.specs.Claims.{StaysInside, known_by}
use Rattle.laws_bounds.specs.Evaluations.{Evaluation, evaluations, ComesTo, Does}
use Rattle.laws_bounds.specs.Faults.{NoBounds}
use Rattle.laws_bounds.specs.Lines.{Statement, body_all}

-- ---- faults

abbrev pub subscripts : ExprTree → ExprTrees
subscripts (tree.int n) = tree.no_exprs
subscripts (tree.log b) = tree.no_exprs
subscripts (tree.name x) = tree.no_exprs
subscripts (tree.element x es) = es
subscripts (tree.paren e) = tree.no_exprs
subscripts (tree.unary o e) = tree.no_exprs
subscripts (tree.binary o a b) = tree.no_exprs
subscripts (tree.chars t) = tree.no_exprs

-- where its subscripts are evaluated without a fault of subscripts, so is the reference: as a value, on a left side or as an item of a READ, as an item of a PRINT, and as an actual argument whose own unit would be u
pub record AddsNoFault (w : Names) (at : Places) (z : Store) (e : ExprTree) : Type 0 where
  pub as_value : (i : List Content) → NoBounds (values (subscripts e) w at) z i → NoBounds (value e w at) z i
  pub as_target : (i : List Content) → NoBounds (values (subscripts e) w at) z i → NoBounds (target e w at) z i
  pub as_shown : (i : List Content) → NoBounds (values (subscripts e) w at) z i → NoBounds (shown e w at) z i
  pub as_actual : (u : ℕ) (i : List Content) → NoBounds (values (subscripts e) w at) z i → NoBounds (actual e w at u) z i

-- ---- runs

-- an execution of this statement, begun with the store and some input: wherever it comes to evaluate this expression, the reference stays inside its array and adds no fault
pub record HoldsIn (w : Names) (s : Statement) (v : Evaluation) (e : ExprTree) (x : Occurrence) : Type 0 where
  pub plan : Plan
  pub input : List Content
  pub ran : x.ran ≡ run_of plan x.start input
  pub does : Does w s.number s.what x.places plan
  pub holds : ComesTo w x.places does.locked (does.scope.own_unit s.number) v x.start input (λ z. StaysInside e w x.places z × AddsNoFault w x.places z e)

-- of each arrival of the statement
abbrev pub HoldsAt : Analysis → Statement → Evaluation → ExprTree → Occurrence → Type 0
HoldsAt a s v e x = a.found.known.read.name ≡ x.spot.module_name → x.spot.statement ≡ s.number → HoldsIn (names a.found.known.symbols) s v e x

-- a statement of the module that has its lines at this number evaluates an expression with the reference, and so it is at each arrival of that statement in every run, up to the first fault
pub record IsSafe (ks : List Known) (g : Graph) (a : Analysis) (line : ℕ) (e : ExprTree) : Type 0 where
  pub statement : Statement
  pub stands : In statement (body_all a.found.known.read.body)
  pub line_is : statement.line ≡ line
  pub evaluation : Evaluation
  pub is_evaluated : In evaluation (evaluations statement.what)
  pub refers : In e (elements evaluation.expression (scope_of g.untracked a.found.known))
  pub holds : InEveryRun ks g (HoldsAt a statement evaluation e)

-- each reference on the lines SAFE of a module
abbrev pub SafeLinesHold : List Known → Graph → Analysis → Type 0
SafeLinesHold ks g a = (c : ChecksAt) → In c (checked_of (known_by g a) a.found.known.read.body) → (e : ExprTree) → In e c.checks.safe → IsSafe ks g a c.id e

-- and of each module of a program that is read
abbrev pub ReadSafeLinesHold : Type 0
ReadSafeLinesHold =
    (ps : List ParsedTree) (sss : List (List SymbolTree)) (g : Graph) → IsProgram ps sss g → (j : ℕ) (a : Analysis) → slice_get (analyses (known_of ps sss) g) j ≡ Some a → SafeLinesHold (known_of ps sss) g a
