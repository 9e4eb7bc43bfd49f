-- column.f: a column of a matrix as a vector
use Rattle.std.proofs.Common.{◌≡◌, ℕ, List, [], ◌∷◌, None, Some, false, refl, pos}
use Rattle.std.specs.Prelude.{codes}
use Rattle.f77_ast.specs.declared.expr.BinaryOp.TheVariants as binary_op
use Rattle.f77_ast.specs.declared.decl.Scalar.TheVariants as scalar
use Rattle.f77_ast.specs.Plain.{exprs_of}
use Rattle.f77_ast.specs.Trees.{int, element, binary, stmt, assign, call, print}
use Rattle.f77_ast.specs.Store.{Int, Content, content}
use Rattle.f77_ast.specs.Steps.{Value}
use Rattle.f77_ast.specs.Runs.{Gave}
use Rattle.f77_ast.specs.Plans.{Normal}
use Rattle.f77_ast.specs.declared.symbol.Place.TheVariants as place
use Rattle.call_graph.specs.declared.graph.Graph.{Graph}
use Rattle.f77_meaning.specs.Areas.{Area, group, unit_at}
use Rattle.f77_meaning.specs.Modules.{Known}
use Rattle.f77_meaning.specs.Linked.{numbering}
use Rattle.f77_meaning.proofs.CaseWords.{bound, symbol, main_module, subroutine, edge, graph, stmts_of, Arrives, Reads, Writes, Prints, ending, end_of, seen_in}
use Rattle.f77_meaning.proofs.cases.ActiveVariable.{input}

abbrev module_p : Known
module_p = main_module (codes "P")
    (stmts_of (stmt 1 None (call (codes "S") (exprs_of ((element (codes "M") (exprs_of ((int (pos 1)) ∷ (int (pos 2)) ∷ []))) ∷ []))) ∷ stmt 2 None (print (exprs_of ((element (codes "M") (exprs_of ((int (pos 1)) ∷ (int (pos 2)) ∷ []))) ∷ (element (codes "M") (exprs_of ((int (pos 2)) ∷ (int (pos 2)) ∷ []))) ∷ []))) ∷ []))
    (symbol (codes "M") scalar.Int (bound (int (pos 1)) (Some (int (pos 2))) ∷ bound (int (pos 1)) (Some (int (pos 3))) ∷ []) (place.Local 1 0) false [] ∷
    [])

abbrev module_s : Known
module_s = subroutine (codes "S") ((codes "V") ∷ [])
    (stmts_of (stmt 1 None (assign (element (codes "V") (exprs_of ((int (pos 1)) ∷ []))) (int (pos 4))) ∷ stmt 2 None (assign (element (codes "V") (exprs_of ((int (pos 2)) ∷ []))) (binary binary_op.Add (element (codes "V") (exprs_of ((int (pos 1)) ∷ []))) (int (pos 1)))) ∷ []))
    (symbol (codes "V") scalar.Int (bound (int (pos 1)) (Some (int (pos 2))) ∷ []) (place.Dummy 1) false [] ∷
    [])

abbrev modules : List Known
modules = module_p ∷ module_s ∷ []

abbrev links : Graph
links = graph ((codes "S") ∷ (codes "P") ∷ []) (edge (codes "P") 1 (codes "S") ∷ []) []

abbrev at : Area → ℕ → ℕ
at a o = unit_at (numbering modules links) a o

ends : end_of modules links 5 input ≡ ending (Gave Normal) []
ends = refl

sees : seen_in modules links 5 input ≡
    Arrives (codes "P") 0
    ∷ Arrives (codes "P") 1
    ∷ Arrives (codes "S") 0
    ∷ Arrives (codes "S") 1
    ∷ Writes (at (group (codes "P") 1) 2) (content Int (pos 4))
    ∷ Arrives (codes "S") 2
    ∷ Reads (at (group (codes "P") 1) 2)
    ∷ Writes (at (group (codes "P") 1) 3) (content Int (pos 5))
    ∷ Arrives (codes "P") 2
    ∷ Reads (at (group (codes "P") 1) 2)
    ∷ Reads (at (group (codes "P") 1) 3)
    ∷ Prints (Value (content Int (pos 4)) ∷ Value (content Int (pos 5)) ∷ [])
    ∷ []
sees = refl
