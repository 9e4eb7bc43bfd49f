-- downwards.f: DO with the step -2
use Rattle.std.proofs.Common.{◌≡◌, ℕ, List, [], ◌∷◌, None, Some, false, refl, pos, negsuc}
use Rattle.std.specs.Prelude.{codes}
use Rattle.f77_ast.specs.declared.expr.UnaryOp.TheVariants as unary_op
use Rattle.f77_ast.specs.declared.expr.BinaryOp.TheVariants as binary_op
use Rattle.f77_ast.specs.declared.decl.Scalar.TheVariants as scalar
use Rattle.f77_ast.specs.Plain.{exprs_of}
use Rattle.f77_ast.specs.Trees.{int, name, unary, binary, stmt, assign, do_loop, print, loop}
use Rattle.f77_ast.specs.Store.{Int, Content, content}
use Rattle.f77_ast.specs.Steps.{Value}
use Rattle.f77_ast.specs.Runs.{Gave}
use Rattle.f77_ast.specs.Plans.{Normal}
use Rattle.f77_ast.specs.declared.symbol.Place.TheVariants as place
use Rattle.call_graph.specs.declared.graph.Graph.{Graph}
use Rattle.f77_meaning.specs.Areas.{Area, group, unit_at}
use Rattle.f77_meaning.specs.Modules.{Known}
use Rattle.f77_meaning.specs.Linked.{numbering}
use Rattle.f77_meaning.proofs.CaseWords.{symbol, main_module, graph, stmts_of, Arrives, Reads, Writes, Prints, ending, end_of, seen_in}
use Rattle.f77_meaning.proofs.cases.ActiveVariable.{input}

abbrev module_p : Known
module_p = main_module (codes "P")
    (stmts_of (stmt 1 None (assign (name (codes "K")) (int (pos 0))) ∷ stmt 2 None (do_loop (loop (codes "I") (int (pos 5)) (int (pos 1)) (Some (unary unary_op.Minus (int (pos 2)))) (stmts_of (stmt 3 None (assign (name (codes "K")) (binary binary_op.Add (binary binary_op.Mul (int (pos 10)) (name (codes "K"))) (name (codes "I")))) ∷ [])))) ∷ stmt 4 None (print (exprs_of ((name (codes "K")) ∷ (name (codes "I")) ∷ []))) ∷ []))
    (symbol (codes "K") scalar.Int [] (place.Local 1 0) false [] ∷
    symbol (codes "I") scalar.Int [] (place.Local 2 0) false [] ∷
    [])

abbrev modules : List Known
modules = module_p ∷ []

abbrev links : Graph
links = graph ((codes "P") ∷ []) [] []

abbrev at : Area → ℕ → ℕ
at a o = unit_at (numbering modules links) a o

ends : end_of modules links 5 input ≡ ending (Gave Normal) []
ends = refl

sees : seen_in modules links 5 input ≡
    Arrives (codes "P") 0
    ∷ Arrives (codes "P") 1
    ∷ Writes (at (group (codes "P") 1) 0) (content Int (pos 0))
    ∷ Arrives (codes "P") 2
    ∷ Writes (at (group (codes "P") 2) 0) (content Int (pos 5))
    ∷ Arrives (codes "P") 3
    ∷ Reads (at (group (codes "P") 1) 0)
    ∷ Reads (at (group (codes "P") 2) 0)
    ∷ Writes (at (group (codes "P") 1) 0) (content Int (pos 5))
    ∷ Writes (at (group (codes "P") 2) 0) (content Int (pos 3))
    ∷ Arrives (codes "P") 3
    ∷ Reads (at (group (codes "P") 1) 0)
    ∷ Reads (at (group (codes "P") 2) 0)
    ∷ Writes (at (group (codes "P") 1) 0) (content Int (pos 53))
    ∷ Writes (at (group (codes "P") 2) 0) (content Int (pos 1))
    ∷ Arrives (codes "P") 3
    ∷ Reads (at (group (codes "P") 1) 0)
    ∷ Reads (at (group (codes "P") 2) 0)
    ∷ Writes (at (group (codes "P") 1) 0) (content Int (pos 531))
    ∷ Writes (at (group (codes "P") 2) 0) (content Int (negsuc 0))
    ∷ Arrives (codes "P") 4
    ∷ Reads (at (group (codes "P") 1) 0)
    ∷ Reads (at (group (codes "P") 2) 0)
    ∷ Prints (Value (content Int (pos 531)) ∷ Value (content Int (negsuc 0)) ∷ [])
    ∷ []
sees = refl
