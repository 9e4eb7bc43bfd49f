-- kept_local.f: a SAVE local over two calls
use Rattle.std.proofs.Common.{◌≡◌, ℕ, List, [], ◌∷◌, None, true, refl, pos}
use Rattle.std.specs.Prelude.{codes}
use Rattle.f77_ast.specs.declared.expr.BinaryOp.TheVariants as binary_op
use Rattle.f77_ast.specs.declared.decl.Scalar.TheVariants as scalar
use Rattle.f77_ast.specs.Plain.{exprs_of}
use Rattle.f77_ast.specs.Trees.{int, name, binary, no_exprs, stmt, assign, call, print}
use Rattle.f77_ast.specs.Store.{Int, Content, content}
use Rattle.f77_ast.specs.Steps.{Value}
use Rattle.f77_ast.specs.Runs.{Gave}
use Rattle.f77_ast.specs.Plans.{Normal}
use Rattle.f77_ast.specs.declared.symbol.Place.TheVariants as place
use Rattle.call_graph.specs.declared.graph.Graph.{Graph}
use Rattle.f77_meaning.specs.Areas.{Area, group, unit_at}
use Rattle.f77_meaning.specs.Modules.{Known}
use Rattle.f77_meaning.specs.Linked.{numbering}
use Rattle.f77_meaning.proofs.CaseWords.{initial_run, symbol, main_module, subroutine, edge, graph, stmts_of, Arrives, Reads, Writes, Prints, ending, end_of, seen_in}
use Rattle.f77_meaning.proofs.cases.ActiveVariable.{input}

abbrev module_p : Known
module_p = main_module (codes "P")
    (stmts_of (stmt 1 None (call (codes "S") no_exprs) ∷ stmt 2 None (call (codes "S") no_exprs) ∷ []))
    ([])

abbrev module_s : Known
module_s = subroutine (codes "S") []
    (stmts_of (stmt 1 None (assign (name (codes "K")) (binary binary_op.Add (name (codes "K")) (int (pos 1)))) ∷ stmt 2 None (print (exprs_of ((name (codes "K")) ∷ []))) ∷ []))
    (symbol (codes "K") scalar.Int [] (place.Local 1 0) true (initial_run 0 1 (pos 5) ∷ []) ∷
    [])

abbrev modules : List Known
modules = module_p ∷ module_s ∷ []

abbrev links : Graph
links = graph ((codes "S") ∷ (codes "P") ∷ []) (edge (codes "P") 1 (codes "S") ∷ edge (codes "P") 2 (codes "S") ∷ []) []

abbrev at : Area → ℕ → ℕ
at a o = unit_at (numbering modules links) a o

ends : end_of modules links 5 input ≡ ending (Gave Normal) []
ends = refl

sees : seen_in modules links 5 input ≡
    Arrives (codes "P") 0
    ∷ Arrives (codes "P") 1
    ∷ Arrives (codes "S") 0
    ∷ Arrives (codes "S") 1
    ∷ Reads (at (group (codes "S") 1) 0)
    ∷ Writes (at (group (codes "S") 1) 0) (content Int (pos 6))
    ∷ Arrives (codes "S") 2
    ∷ Reads (at (group (codes "S") 1) 0)
    ∷ Prints (Value (content Int (pos 6)) ∷ [])
    ∷ Arrives (codes "P") 2
    ∷ Arrives (codes "S") 0
    ∷ Arrives (codes "S") 1
    ∷ Reads (at (group (codes "S") 1) 0)
    ∷ Writes (at (group (codes "S") 1) 0) (content Int (pos 7))
    ∷ Arrives (codes "S") 2
    ∷ Reads (at (group (codes "S") 1) 0)
    ∷ Prints (Value (content Int (pos 7)) ∷ [])
    ∷ []
sees = refl
