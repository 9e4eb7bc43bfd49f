-- common_below.f: a unit of a block that only a module further down declares, through a dummy: fault 6
use Rattle.std.proofs.Common.{◌≡◌, ℕ, List, [], ◌∷◌, None, false, refl, pos}
use Rattle.std.specs.Prelude.{codes}
use Rattle.f77_ast.specs.declared.expr.BinaryOp.TheVariants as binary_op
use Rattle.f77_ast.specs.declared.decl.Scalar.TheVariants as scalar
use Rattle.f77_ast.specs.Plain.{exprs_of}
use Rattle.f77_ast.specs.Trees.{int, name, binary, no_exprs, stmt, assign, call, print}
use Rattle.f77_ast.specs.Store.{Int, Content, content}
use Rattle.f77_ast.specs.Faults.{Shared}
use Rattle.f77_ast.specs.Steps.{Faulty}
use Rattle.f77_ast.specs.Runs.{Broke}
use Rattle.f77_ast.specs.declared.symbol.Place.TheVariants as place
use Rattle.call_graph.specs.declared.graph.Graph.{Graph}
use Rattle.f77_meaning.specs.Areas.{Area, block, unit_at}
use Rattle.f77_meaning.specs.Modules.{Known}
use Rattle.f77_meaning.specs.Linked.{numbering}
use Rattle.f77_meaning.proofs.CaseWords.{symbol, main_module, subroutine, edge, block_of, graph, stmts_of, Arrives, Reads, Writes, ending, end_of, seen_in}
use Rattle.f77_meaning.proofs.cases.ActiveVariable.{input}

abbrev module_p : Known
module_p = main_module (codes "P")
    (stmts_of (stmt 1 None (assign (name (codes "I")) (int (pos 1))) ∷ stmt 2 None (call (codes "A") (exprs_of ((name (codes "I")) ∷ []))) ∷ []))
    (symbol (codes "I") scalar.Int [] (place.Block (codes "B") 0) false [] ∷
    [])

abbrev module_a : Known
module_a = subroutine (codes "A") ((codes "N") ∷ [])
    (stmts_of (stmt 1 None (call (codes "C") no_exprs) ∷ stmt 2 None (print (exprs_of ((name (codes "N")) ∷ []))) ∷ stmt 3 None (assign (name (codes "N")) (int (pos 3))) ∷ []))
    (symbol (codes "N") scalar.Int [] (place.Dummy 1) false [] ∷
    [])

abbrev module_c : Known
module_c = subroutine (codes "C") []
    (stmts_of (stmt 1 None (assign (name (codes "J")) (binary binary_op.Add (name (codes "J")) (int (pos 1)))) ∷ []))
    (symbol (codes "J") scalar.Int [] (place.Block (codes "B") 0) false [] ∷
    [])

abbrev modules : List Known
modules = module_p ∷ module_a ∷ module_c ∷ []

abbrev links : Graph
links = graph ((codes "C") ∷ (codes "A") ∷ (codes "P") ∷ []) (edge (codes "P") 2 (codes "A") ∷ edge (codes "A") 1 (codes "C") ∷ []) (block_of (codes "B") 1 ∷ [])

abbrev at : Area → ℕ → ℕ
at a o = unit_at (numbering modules links) a o

ends : end_of modules links 5 input ≡ ending (Broke (Faulty Shared)) []
ends = refl

sees : seen_in modules links 5 input ≡
    Arrives (codes "P") 0
    ∷ Arrives (codes "P") 1
    ∷ Writes (at (block (codes "B")) 0) (content Int (pos 1))
    ∷ Arrives (codes "P") 2
    ∷ Arrives (codes "A") 0
    ∷ Arrives (codes "A") 1
    ∷ Arrives (codes "C") 0
    ∷ Arrives (codes "C") 1
    ∷ Reads (at (block (codes "B")) 0)
    ∷ []
sees = refl
