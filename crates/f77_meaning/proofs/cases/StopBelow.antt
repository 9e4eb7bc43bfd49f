-- stop_below.f: STOP two calls below, RETURN out of an IF
use Rattle.std.proofs.Common.{◌≡◌, ℕ, List, [], ◌∷◌, None, false, refl, pos}
use Rattle.std.specs.Prelude.{codes}
use Rattle.f77_ast.specs.declared.expr.BinaryOp.TheVariants as binary_op
use Rattle.f77_ast.specs.declared.decl.Scalar.TheVariants as scalar
use Rattle.f77_ast.specs.Plain.{exprs_of}
use Rattle.f77_ast.specs.Trees.{int, name, binary, no_exprs, stmt, block_if, call, return, stop, print, arm, no_else}
use Rattle.f77_ast.specs.Store.{Int, Content, content}
use Rattle.f77_ast.specs.Steps.{Value}
use Rattle.f77_ast.specs.Runs.{Gave}
use Rattle.f77_ast.specs.Plans.{Stopped}
use Rattle.f77_ast.specs.declared.symbol.Place.TheVariants as place
use Rattle.call_graph.specs.declared.graph.Graph.{Graph}
use Rattle.f77_meaning.specs.Areas.{Area, own, unit_at}
use Rattle.f77_meaning.specs.Modules.{Known}
use Rattle.f77_meaning.specs.Linked.{numbering}
use Rattle.f77_meaning.proofs.CaseWords.{symbol, main_module, subroutine, edge, graph, stmts_of, arms_of, Arrives, Reads, Prints, ending, end_of, seen_in}
use Rattle.f77_meaning.proofs.cases.ActiveVariable.{input}

abbrev module_p : Known
module_p = main_module (codes "P")
    (stmts_of (stmt 1 None (call (codes "A") (exprs_of ((int (pos 1)) ∷ []))) ∷ stmt 2 None (call (codes "A") (exprs_of ((int (pos 2)) ∷ []))) ∷ stmt 3 None (print (exprs_of ((int (pos 0)) ∷ []))) ∷ []))
    ([])

abbrev module_a : Known
module_a = subroutine (codes "A") ((codes "N") ∷ [])
    (stmts_of (stmt 1 None (block_if (arms_of (arm (binary binary_op.Eq (name (codes "N")) (int (pos 1))) (stmts_of (stmt 2 None (print (exprs_of ((int (pos 1)) ∷ []))) ∷ stmt 3 None return ∷ [])) ∷ arm (binary binary_op.Eq (name (codes "N")) (int (pos 2))) (stmts_of (stmt 4 None (call (codes "B") no_exprs) ∷ [])) ∷ [])) no_else) ∷ stmt 5 None (print (exprs_of ((int (pos 2)) ∷ []))) ∷ []))
    (symbol (codes "N") scalar.Int [] (place.Dummy 1) false [] ∷
    [])

abbrev module_b : Known
module_b = subroutine (codes "B") []
    (stmts_of (stmt 1 None (print (exprs_of ((int (pos 3)) ∷ []))) ∷ stmt 2 None (stop None) ∷ []))
    ([])

abbrev modules : List Known
modules = module_p ∷ module_a ∷ module_b ∷ []

abbrev links : Graph
links = graph ((codes "B") ∷ (codes "A") ∷ (codes "P") ∷ []) (edge (codes "P") 1 (codes "A") ∷ edge (codes "P") 2 (codes "A") ∷ edge (codes "A") 4 (codes "B") ∷ []) []

abbrev at : Area → ℕ → ℕ
at a o = unit_at (numbering modules links) a o

ends : end_of modules links 5 input ≡ ending (Gave Stopped) []
ends = refl

sees : seen_in modules links 5 input ≡
    Arrives (codes "P") 0
    ∷ Arrives (codes "P") 1
    ∷ Arrives (codes "A") 0
    ∷ Arrives (codes "A") 1
    ∷ Reads (at (own (codes "P") 1 0) 0)
    ∷ Arrives (codes "A") 2
    ∷ Prints (Value (content Int (pos 1)) ∷ [])
    ∷ Arrives (codes "A") 3
    ∷ Arrives (codes "P") 2
    ∷ Arrives (codes "A") 0
    ∷ Arrives (codes "A") 1
    ∷ Reads (at (own (codes "P") 2 0) 0)
    ∷ Reads (at (own (codes "P") 2 0) 0)
    ∷ Arrives (codes "A") 4
    ∷ Arrives (codes "B") 0
    ∷ Arrives (codes "B") 1
    ∷ Prints (Value (content Int (pos 3)) ∷ [])
    ∷ Arrives (codes "B") 2
    ∷ []
sees = refl
