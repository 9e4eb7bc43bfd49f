-- written_value.f: the callee writes an expression that is an actual: fault 5
use Rattle.std.proofs.Common.{◌≡◌, ℕ, List, [], ◌∷◌, None, false, refl, pos}
use Rattle.std.specs.Prelude.{codes}
use Rattle.f77_ast.specs.declared.expr.BinaryOp.TheVariants as binary_op
use Rattle.f77_ast.specs.declared.decl.Scalar.TheVariants as scalar
use Rattle.f77_ast.specs.Plain.{exprs_of}
use Rattle.f77_ast.specs.Trees.{int, name, binary, stmt, assign, call, print}
use Rattle.f77_ast.specs.Store.{Int, Content, content}
use Rattle.f77_ast.specs.Faults.{Locked}
use Rattle.f77_ast.specs.Steps.{Faulty, Value}
use Rattle.f77_ast.specs.Runs.{Broke}
use Rattle.f77_ast.specs.declared.symbol.Place.TheVariants as place
use Rattle.call_graph.specs.declared.graph.Graph.{Graph}
use Rattle.f77_meaning.specs.Areas.{Area, group, own, unit_at}
use Rattle.f77_meaning.specs.Modules.{Known}
use Rattle.f77_meaning.specs.Linked.{numbering}
use Rattle.f77_meaning.proofs.CaseWords.{symbol, main_module, subroutine, edge, graph, stmts_of, Arrives, Reads, Writes, Prints, ending, end_of, seen_in}
use Rattle.f77_meaning.proofs.cases.ActiveVariable.{input}

abbrev module_p : Known
module_p = main_module (codes "P")
    (stmts_of (stmt 1 None (assign (name (codes "I")) (int (pos 1))) ∷ stmt 2 None (call (codes "S") (exprs_of ((name (codes "I")) ∷ []))) ∷ stmt 3 None (print (exprs_of ((name (codes "I")) ∷ []))) ∷ stmt 4 None (call (codes "S") (exprs_of ((binary binary_op.Add (name (codes "I")) (int (pos 1))) ∷ []))) ∷ []))
    (symbol (codes "I") scalar.Int [] (place.Local 1 0) false [] ∷
    [])

abbrev module_s : Known
module_s = subroutine (codes "S") ((codes "N") ∷ [])
    (stmts_of (stmt 1 None (assign (name (codes "N")) (binary binary_op.Add (name (codes "N")) (int (pos 1)))) ∷ []))
    (symbol (codes "N") scalar.Int [] (place.Dummy 1) false [] ∷
    [])

abbrev modules : List Known
modules = module_p ∷ module_s ∷ []

abbrev links : Graph
links = graph ((codes "S") ∷ (codes "P") ∷ []) (edge (codes "P") 2 (codes "S") ∷ edge (codes "P") 4 (codes "S") ∷ []) []

abbrev at : Area → ℕ → ℕ
at a o = unit_at (numbering modules links) a o

ends : end_of modules links 5 input ≡ ending (Broke (Faulty Locked)) []
ends = refl

sees : seen_in modules links 5 input ≡
    Arrives (codes "P") 0
    ∷ Arrives (codes "P") 1
    ∷ Writes (at (group (codes "P") 1) 0) (content Int (pos 1))
    ∷ Arrives (codes "P") 2
    ∷ Arrives (codes "S") 0
    ∷ Arrives (codes "S") 1
    ∷ Reads (at (group (codes "P") 1) 0)
    ∷ Writes (at (group (codes "P") 1) 0) (content Int (pos 2))
    ∷ Arrives (codes "P") 3
    ∷ Reads (at (group (codes "P") 1) 0)
    ∷ Prints (Value (content Int (pos 2)) ∷ [])
    ∷ Arrives (codes "P") 4
    ∷ Reads (at (group (codes "P") 1) 0)
    ∷ Arrives (codes "S") 0
    ∷ Arrives (codes "S") 1
    ∷ Reads (at (own (codes "P") 4 0) 0)
    ∷ []
sees = refl
