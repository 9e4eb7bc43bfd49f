-- What is claimed of references that are found safe: where a statement evaluates one, its subscripts are those of an element.
use Rattle.std.specs.Prelude.{◌≡◌, ℕ, zero, suc, true, false, List, All, IsSome}
use Rattle.f77_ast.specs.Trees.{ExprTree, ExprTrees, StmtTrees}
use Rattle.f77_ast.specs.Trees as tree
use Rattle.f77_ast.specs.Store.{Content, Store}
use Rattle.f77_ast.specs.Places.{Meant, Constant, Variable, Function, Names, Places, element_in}
use Rattle.f77_ast.specs.Values.{values}
use Rattle.f77_ast.specs.Runs.{Whole, run}
use Rattle.f77_ast.specs.Plans.{Plan}
use Rattle.f77_ast.specs.Executions.{AtEndOf, run_of}
use Rattle.f77_ast.specs.Claims.{number_in}
use Rattle.call_graph.specs.declared.graph.Graph.{Graph}
use Rattle.f77_meaning.specs.Modules.{names}
use Rattle.f77_meaning.specs.Occurrences.{Occurrence}
use Rattle.affine_forms.specs.Scalars.{is_cell}
use Rattle.preconditions.specs.transformer_algebra.Cells.{has}
use Rattle.preconditions.specs.transformer_algebra.Laws.{In}
use Rattle.preconditions.specs.transformers.Simple.{named_cells}
use Rattle.preconditions.specs.call_translation.Scopes.{ScopeTree}
use Rattle.in_out_regions.specs.call_equations.Sides.{changed_cells}
use Rattle.bound_check.specs.loop_marker.module_phases.ScalarPhases.{scope_of, Analysis}
use Rattle.bound_check.specs.Safe.{is_safe}
use Rattle.bound_check.specs.Checked.{Knowledge, rows_at}
use Rattle.laws_bounds.specs.Evaluations.{Evaluation, evaluations, ComesTo, Does}
use Rattle.laws_bounds.specs.Lines.{Statement, body_all}

-- ---- one reference

-- subscripts that are evaluated at a store without a fault are those of an element of the variable of a name (ANSI X3.9-1978 §5.4.3)
abbrev pub AreOfElement : Meant → ExprTrees → Names → Places → Store → Type 0
AreOfElement (Constant c) es w at z = Unit {0}
AreOfElement (Variable v) es w at z = (i : List Content) → AtEndOf (run (values es w at) (Whole z) i) (λ ns y j. IsSome (element_in (at v) ns))
AreOfElement Function es w at z = Unit {0}

-- a reference to an element does not leave its array
abbrev pub StaysInside : ExprTree → Names → Places → Store → Type 0
StaysInside (tree.int n) w at z = Unit {0}
StaysInside (tree.log b) w at z = Unit {0}
StaysInside (tree.name x) w at z = Unit {0}
StaysInside (tree.element x es) w at z = AreOfElement (w x) es w at z
StaysInside (tree.paren e) w at z = Unit {0}
StaysInside (tree.unary o e) w at z = Unit {0}
StaysInside (tree.binary o a b) w at z = Unit {0}
StaysInside (tree.chars t) w at z = Unit {0}

-- ---- one statement

-- the analysed scalars of a module have at z the numbers that they had at s, except for these
abbrev pub SameBut : ScopeTree → Places → List ℕ → Store → Store → Type 0
SameBut m at written s z = (c : ℕ) → is_cell m.tracked c ≡ true → has written c ≡ false → number_in z at c ≡ number_in s at c

-- a statement begins with the store s: what is found safe stays inside at each store z that the statement has come to, where it has changed
-- these variables alone; the number 0 is that of the entry, which evaluates no statement
abbrev pub SafeHolds : Names → Knowledge → ℕ → Places → Store → Type 0
SafeHolds w k zero at s = Unit {0}
SafeHolds w k (suc n) at s =
    (written : List ℕ) (e : ExprTree) → is_safe k.scope k.changed written (rows_at k (suc n)) e ≡ true → (z : Store) → SameBut k.scope at written s z → StaysInside e w at z

-- ---- modules

-- what is known of a module by its analysis
abbrev pub known_by : Graph → Analysis → Knowledge
known_by g a = record { scope = scope_of g.untracked a.found.known; changed = changed_cells a.found.own.at; preconditions = a.holds.at }

-- an execution does a statement of the module, and where it evaluates an expression the analysed scalars have the numbers of the arrival, but for those that are set by items before
pub record KeepsAt (w : Names) (m : ScopeTree) (body : StmtTrees) (x : Occurrence) : Type 0 where
  pub statement : Statement
  pub stands : In statement (body_all body)
  pub number : statement.number ≡ x.spot.statement
  pub plan : Plan
  pub input : List Content
  pub ran : x.ran ≡ run_of plan x.start input
  pub does : Does w statement.number statement.what x.places plan
  pub keeps : (v : Evaluation) → In v (evaluations statement.what) → ComesTo w x.places does.locked (does.scope.own_unit statement.number) v x.start input (λ z. SameBut m x.places (named_cells m.scalars v.items) x.start z)

-- the entry evaluates no statement
abbrev pub Keeps : Names → ScopeTree → StmtTrees → ℕ → Occurrence → Type 0
Keeps w m body zero x = Unit {0}
Keeps w m body (suc n) x = KeepsAt w m body x

-- of an execution of a statement of the module
pub record ChecksHold (g : Graph) (a : Analysis) (x : Occurrence) : Type 0 where
  pub safe : SafeHolds (names a.found.known.symbols) (known_by g a) x.spot.statement x.places x.start
  pub keeps : Keeps (names a.found.known.symbols) (scope_of g.untracked a.found.known) a.found.known.read.body x.spot.statement x

-- of an execution in whatever module
abbrev pub AllChecksHold : Graph → List Analysis → Occurrence → Type 0
AllChecksHold g as' x = All (λ a. a.found.known.read.name ≡ x.spot.module_name → ChecksHold g a x) as'
