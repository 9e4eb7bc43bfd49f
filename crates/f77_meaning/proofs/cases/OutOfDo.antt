-- out_of_do.f: GO TO leaves a DO
use Rattle.std.proofs.Common.{◌≡◌, ℕ, List, [], ◌∷◌, None, Some, false, refl, pos}
use Rattle.std.specs.Prelude.{codes}
use Rattle.f77_ast.specs.declared.expr.BinaryOp.TheVariants as binary_op
use Rattle.f77_ast.specs.declared.decl.Scalar.TheVariants as scalar
use Rattle.f77_ast.specs.Plain.{exprs_of}
use Rattle.f77_ast.specs.Trees.{int, name, binary, stmt, assign, logical_if, do_loop, goto, print, loop}
use Rattle.f77_ast.specs.Store.{Int, Content, content}
use Rattle.f77_ast.specs.Steps.{Value}
use Rattle.f77_ast.specs.Runs.{Gave}
use Rattle.f77_ast.specs.Plans.{Normal}
use Rattle.f77_ast.specs.declared.symbol.Place.TheVariants as place
use Rattle.call_graph.specs.declared.graph.Graph.{Graph}
use Rattle.f77_meaning.specs.Areas.{Area, group, unit_at}
use Rattle.f77_meaning.specs.Modules.{Known}
use Rattle.f77_meaning.specs.Linked.{numbering}
use Rattle.f77_meaning.proofs.CaseWords.{symbol, main_module, graph, stmts_of, Arrives, Reads, Writes, Prints, ending, end_of, seen_in}
use Rattle.f77_meaning.proofs.cases.ActiveVariable.{input}

abbrev module_p : Known
module_p = main_module (codes "P")
    (stmts_of (stmt 1 None (do_loop (loop (codes "I") (int (pos 1)) (int (pos 5)) None (stmts_of (stmt 2 None (logical_if (binary binary_op.Eq (name (codes "I")) (int (pos 3))) (stmt 3 None (goto 20))) ∷ [])))) ∷ stmt 4 None (assign (name (codes "I")) (int (pos 0))) ∷ stmt 5 (Some 20) (print (exprs_of ((name (codes "I")) ∷ []))) ∷ []))
    (symbol (codes "I") scalar.Int [] (place.Local 1 0) false [] ∷
    [])

abbrev modules : List Known
modules = module_p ∷ []

abbrev links : Graph
links = graph ((codes "P") ∷ []) [] []

abbrev at : Area → ℕ → ℕ
at a o = unit_at (numbering modules links) a o

ends : end_of modules links 5 input ≡ ending (Gave Normal) []
ends = refl

sees : seen_in modules links 5 input ≡
    Arrives (codes "P") 0
    ∷ Arrives (codes "P") 1
    ∷ Writes (at (group (codes "P") 1) 0) (content Int (pos 1))
    ∷ Arrives (codes "P") 2
    ∷ Reads (at (group (codes "P") 1) 0)
    ∷ Writes (at (group (codes "P") 1) 0) (content Int (pos 2))
    ∷ Arrives (codes "P") 2
    ∷ Reads (at (group (codes "P") 1) 0)
    ∷ Writes (at (group (codes "P") 1) 0) (content Int (pos 3))
    ∷ Arrives (codes "P") 2
    ∷ Reads (at (group (codes "P") 1) 0)
    ∷ Arrives (codes "P") 3
    ∷ Arrives (codes "P") 5
    ∷ Reads (at (group (codes "P") 1) 0)
    ∷ Prints (Value (content Int (pos 3)) ∷ [])
    ∷ []
sees = refl
