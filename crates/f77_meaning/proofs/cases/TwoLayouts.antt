-- two_layouts.f: COMMON laid out otherwise in two modules
use Rattle.std.proofs.Common.{◌≡◌, ℕ, List, [], ◌∷◌, None, Some, false, refl, pos}
use Rattle.std.specs.Prelude.{codes}
use Rattle.f77_ast.specs.declared.expr.BinaryOp.TheVariants as binary_op
use Rattle.f77_ast.specs.declared.decl.Scalar.TheVariants as scalar
use Rattle.f77_ast.specs.Plain.{exprs_of}
use Rattle.f77_ast.specs.Trees.{int, name, element, binary, no_exprs, stmt, assign, call, print}
use Rattle.f77_ast.specs.Store.{Int, Content, content}
use Rattle.f77_ast.specs.Steps.{Value}
use Rattle.f77_ast.specs.Runs.{Gave}
use Rattle.f77_ast.specs.Plans.{Normal}
use Rattle.f77_ast.specs.declared.symbol.Place.TheVariants as place
use Rattle.call_graph.specs.declared.graph.Graph.{Graph}
use Rattle.f77_meaning.specs.Areas.{Area, block, unit_at}
use Rattle.f77_meaning.specs.Modules.{Known}
use Rattle.f77_meaning.specs.Linked.{numbering}
use Rattle.f77_meaning.proofs.CaseWords.{bound, symbol, main_module, subroutine, edge, block_of, graph, stmts_of, Arrives, Reads, Writes, Prints, ending, end_of, seen_in}
use Rattle.f77_meaning.proofs.cases.ActiveVariable.{input}

abbrev module_p : Known
module_p = main_module (codes "P")
    (stmts_of (stmt 1 None (assign (name (codes "I")) (int (pos 1))) ∷ stmt 2 None (assign (element (codes "J") (exprs_of ((int (pos 1)) ∷ []))) (int (pos 2))) ∷ stmt 3 None (assign (element (codes "J") (exprs_of ((int (pos 2)) ∷ []))) (int (pos 3))) ∷ stmt 4 None (assign (name (codes "K")) (int (pos 4))) ∷ stmt 5 None (call (codes "S") no_exprs) ∷ stmt 6 None (print (exprs_of ((name (codes "I")) ∷ (element (codes "J") (exprs_of ((int (pos 1)) ∷ []))) ∷ (element (codes "J") (exprs_of ((int (pos 2)) ∷ []))) ∷ (name (codes "K")) ∷ []))) ∷ []))
    (symbol (codes "I") scalar.Int [] (place.Block (codes "B") 0) false [] ∷
    symbol (codes "J") scalar.Int (bound (int (pos 1)) (Some (int (pos 2))) ∷ []) (place.Block (codes "B") 1) false [] ∷
    symbol (codes "K") scalar.Int [] (place.Block (codes "B") 3) false [] ∷
    [])

abbrev module_s : Known
module_s = subroutine (codes "S") []
    (stmts_of (stmt 1 None (assign (element (codes "M") (exprs_of ((int (pos 2)) ∷ []))) (name (codes "N"))) ∷ stmt 2 None (assign (name (codes "N")) (binary binary_op.Add (element (codes "M") (exprs_of ((int (pos 3)) ∷ []))) (element (codes "M") (exprs_of ((int (pos 1)) ∷ []))))) ∷ []))
    (symbol (codes "M") scalar.Int (bound (int (pos 1)) (Some (int (pos 3))) ∷ []) (place.Block (codes "B") 0) false [] ∷
    symbol (codes "N") scalar.Int [] (place.Block (codes "B") 3) false [] ∷
    [])

abbrev modules : List Known
modules = module_p ∷ module_s ∷ []

abbrev links : Graph
links = graph ((codes "S") ∷ (codes "P") ∷ []) (edge (codes "P") 5 (codes "S") ∷ []) (block_of (codes "B") 4 ∷ [])

abbrev at : Area → ℕ → ℕ
at a o = unit_at (numbering modules links) a o

ends : end_of modules links 5 input ≡ ending (Gave Normal) []
ends = refl

sees : seen_in modules links 5 input ≡
    Arrives (codes "P") 0
    ∷ Arrives (codes "P") 1
    ∷ Writes (at (block (codes "B")) 0) (content Int (pos 1))
    ∷ Arrives (codes "P") 2
    ∷ Writes (at (block (codes "B")) 1) (content Int (pos 2))
    ∷ Arrives (codes "P") 3
    ∷ Writes (at (block (codes "B")) 2) (content Int (pos 3))
    ∷ Arrives (codes "P") 4
    ∷ Writes (at (block (codes "B")) 3) (content Int (pos 4))
    ∷ Arrives (codes "P") 5
    ∷ Arrives (codes "S") 0
    ∷ Arrives (codes "S") 1
    ∷ Reads (at (block (codes "B")) 3)
    ∷ Writes (at (block (codes "B")) 1) (content Int (pos 4))
    ∷ Arrives (codes "S") 2
    ∷ Reads (at (block (codes "B")) 2)
    ∷ Reads (at (block (codes "B")) 0)
    ∷ Writes (at (block (codes "B")) 3) (content Int (pos 4))
    ∷ Arrives (codes "P") 6
    ∷ Reads (at (block (codes "B")) 0)
    ∷ Reads (at (block (codes "B")) 1)
    ∷ Reads (at (block (codes "B")) 2)
    ∷ Reads (at (block (codes "B")) 3)
    ∷ Prints (Value (content Int (pos 1)) ∷ Value (content Int (pos 4)) ∷ Value (content Int (pos 3)) ∷ Value (content Int (pos 4)) ∷ [])
    ∷ []
sees = refl
