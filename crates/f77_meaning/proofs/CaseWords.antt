-- Words for programs that are written as terms, and for what their runs do.
use Rattle.std.specs.Prelude.{ℕ, Bool, true, false, ℤ, List, [], ◌∷◌, Option, None}
use Rattle.f77_ast.specs.declared.decl.Scalar.{Scalar}
use Rattle.f77_ast.specs.Trees.{ExprTree, StmtTree, StmtTrees, no_stmts, more_stmts, ArmTree, ArmTrees, no_arms, more_arms}
use Rattle.f77_ast.specs.Store.{Content}
use Rattle.f77_ast.specs.Steps.{Shown}
use Rattle.f77_ast.specs.Runs.{Event, Arrived, Read, Wrote, Printed, Took, Answer, Ran}
use Rattle.f77_ast.specs.Plans.{Flow}
use Rattle.f77_ast.specs.Programs.{program_run}
use Rattle.f77_ast.specs.declared.symbol.Place.{Place}
use Rattle.f77_ast.specs.declared.symbol.InitialRun.{InitialRun}
use Rattle.f77_ast.specs.Symbols.{BoundTree, SymbolTree}
use Rattle.call_graph.specs.declared.graph.Graph.{Graph}
use Rattle.call_graph.specs.declared.graph.Edge.{Edge}
use Rattle.call_graph.specs.declared.graph.Block.{Block}
use Rattle.f77_meaning.specs.Modules.{Known}
use Rattle.f77_meaning.specs.Linked.{program_of}

-- ---- programs

abbrev pub stmts_of : List StmtTree → StmtTrees
stmts_of [] = no_stmts
stmts_of (s ∷ ss) = more_stmts s (stmts_of ss)

abbrev pub arms_of : List ArmTree → ArmTrees
arms_of [] = no_arms
arms_of (a ∷ as') = more_arms a (arms_of as')

abbrev pub bound : ExprTree → Option ExprTree → BoundTree
bound low high = record { low = low; high = high }

abbrev pub initial_run : ℕ → ℕ → ℤ → InitialRun
initial_run offset count value = record { offset = offset; count = count; value = value }

abbrev pub symbol : List ℕ → Scalar → List BoundTree → Place → Bool → List InitialRun → SymbolTree
symbol x t bounds place saved runs = record { name = x; scalar = t; bounds = bounds; place = place; saved = saved; initial = runs }

-- without its specification statements: the symbols have what they say
abbrev pub main_module : List ℕ → StmtTrees → List SymbolTree → Known
main_module x body ss = record { read = record { name = x; main = true; titled = true; dummies = []; decls = []; body = body; function = None; references = []; whiles = [] }; symbols = ss }

abbrev pub subroutine : List ℕ → List (List ℕ) → StmtTrees → List SymbolTree → Known
subroutine x ds body ss = record { read = record { name = x; main = false; titled = true; dummies = ds; decls = []; body = body; function = None; references = []; whiles = [] }; symbols = ss }

abbrev pub edge : List ℕ → ℕ → List ℕ → Edge
edge caller n callee = record { caller = caller; at = n; callee = callee }

abbrev pub block_of : List ℕ → ℕ → Block
block_of x n = record { name = x; size = n }

abbrev pub graph : List (List ℕ) → List Edge → List Block → Graph
graph order edges blocks = record { order = order; edges = edges; blocks = blocks; untracked = [] }

-- ---- runs

-- the events of a run, the reads without what they gave
pub data Seen : Type 0 where
  Arrives : List ℕ → ℕ → Seen
  Reads : ℕ → Seen
  Writes : ℕ → Content → Seen
  Prints : List Shown → Seen
  Takes : Option Content → Seen

abbrev pub seen : List Event → List Seen
seen [] = []
seen (Arrived p ∷ es) = Arrives p.module_name p.statement ∷ seen es
seen (Read u c ∷ es) = Reads u ∷ seen es
seen (Wrote u c ∷ es) = Writes u c ∷ seen es
seen (Printed xs ∷ es) = Prints xs ∷ seen es
seen (Took o ∷ es) = Takes o ∷ seen es

-- how a run ended, and the rest of the input
pub record Ending : Type 0 where
  pub answer : Answer Flow
  pub rest : List Content

abbrev pub ending : Answer Flow → List Content → Ending
ending a rest = record { answer = a; rest = rest }

abbrev run_of : List Known → Graph → ℕ → List Content → Ran Flow
run_of ks g turns input = program_run (program_of ks g) turns input

abbrev pub end_of : List Known → Graph → ℕ → List Content → Ending
end_of ks g turns input = let q = run_of ks g turns input in ending q.answer q.input

abbrev pub seen_in : List Known → Graph → ℕ → List Content → List Seen
seen_in ks g turns input = seen (run_of ks g turns input).trace
