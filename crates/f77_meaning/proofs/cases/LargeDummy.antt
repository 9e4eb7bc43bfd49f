-- large_dummy.f: an array dummy that is larger than what its actual offers: fault 3
use Rattle.std.proofs.Common.{◌≡◌, ℕ, List, [], ◌∷◌, None, Some, false, refl, pos}
use Rattle.std.specs.Prelude.{codes}
use Rattle.f77_ast.specs.declared.decl.Scalar.TheVariants as scalar
use Rattle.f77_ast.specs.Plain.{exprs_of}
use Rattle.f77_ast.specs.Trees.{int, name, element, stmt, assign, call, print}
use Rattle.f77_ast.specs.Store.{Int, Content, content}
use Rattle.f77_ast.specs.Faults.{Bounds}
use Rattle.f77_ast.specs.Steps.{Faulty, Value}
use Rattle.f77_ast.specs.Runs.{Broke}
use Rattle.f77_ast.specs.declared.symbol.Place.TheVariants as place
use Rattle.call_graph.specs.declared.graph.Graph.{Graph}
use Rattle.f77_meaning.specs.Areas.{Area, group, own, unit_at}
use Rattle.f77_meaning.specs.Modules.{Known}
use Rattle.f77_meaning.specs.Linked.{numbering}
use Rattle.f77_meaning.proofs.CaseWords.{bound, symbol, main_module, subroutine, edge, graph, stmts_of, Arrives, Reads, Writes, Prints, ending, end_of, seen_in}
use Rattle.f77_meaning.proofs.cases.ActiveVariable.{input}

abbrev module_p : Known
module_p = main_module (codes "P")
    (stmts_of (stmt 1 None (call (codes "S") (exprs_of ((int (pos 2)) ∷ (name (codes "J")) ∷ []))) ∷ stmt 2 None (print (exprs_of ((element (codes "J") (exprs_of ((int (pos 2)) ∷ []))) ∷ []))) ∷ stmt 3 None (call (codes "S") (exprs_of ((int (pos 3)) ∷ (element (codes "J") (exprs_of ((int (pos 2)) ∷ []))) ∷ []))) ∷ []))
    (symbol (codes "J") scalar.Int (bound (int (pos 1)) (Some (int (pos 3))) ∷ []) (place.Local 1 0) false [] ∷
    [])

abbrev module_s : Known
module_s = subroutine (codes "S") ((codes "N") ∷ (codes "K") ∷ [])
    (stmts_of (stmt 1 None (assign (element (codes "K") (exprs_of ((name (codes "N")) ∷ []))) (name (codes "N"))) ∷ []))
    (symbol (codes "N") scalar.Int [] (place.Dummy 1) false [] ∷
    symbol (codes "K") scalar.Int (bound (int (pos 1)) (Some (name (codes "N"))) ∷ []) (place.Dummy 2) false [] ∷
    [])

abbrev modules : List Known
modules = module_p ∷ module_s ∷ []

abbrev links : Graph
links = graph ((codes "S") ∷ (codes "P") ∷ []) (edge (codes "P") 1 (codes "S") ∷ edge (codes "P") 3 (codes "S") ∷ []) []

abbrev at : Area → ℕ → ℕ
at a o = unit_at (numbering modules links) a o

ends : end_of modules links 5 input ≡ ending (Broke (Faulty Bounds)) []
ends = refl

sees : seen_in modules links 5 input ≡
    Arrives (codes "P") 0
    ∷ Arrives (codes "P") 1
    ∷ Arrives (codes "S") 0
    ∷ Reads (at (own (codes "P") 1 0) 0)
    ∷ Arrives (codes "S") 1
    ∷ Reads (at (own (codes "P") 1 0) 0)
    ∷ Reads (at (own (codes "P") 1 0) 0)
    ∷ Writes (at (group (codes "P") 1) 1) (content Int (pos 2))
    ∷ Arrives (codes "P") 2
    ∷ Reads (at (group (codes "P") 1) 1)
    ∷ Prints (Value (content Int (pos 2)) ∷ [])
    ∷ Arrives (codes "P") 3
    ∷ Arrives (codes "S") 0
    ∷ Reads (at (own (codes "P") 3 0) 0)
    ∷ []
sees = refl
