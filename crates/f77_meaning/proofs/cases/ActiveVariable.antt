-- active_variable.f: a DO variable is written while the DO is active: fault 5
use Rattle.std.proofs.Common.{◌≡◌, ℕ, List, [], ◌∷◌, None, false, refl, pos}
use Rattle.std.specs.Prelude.{codes}
use Rattle.f77_ast.specs.declared.decl.Scalar.TheVariants as scalar
use Rattle.f77_ast.specs.Plain.{exprs_of}
use Rattle.f77_ast.specs.Trees.{int, name, stmt, assign, do_loop, call, print, loop}
use Rattle.f77_ast.specs.Store.{Int, Content, content}
use Rattle.f77_ast.specs.Faults.{Locked}
use Rattle.f77_ast.specs.Steps.{Faulty, Value}
use Rattle.f77_ast.specs.Runs.{Broke}
use Rattle.f77_ast.specs.declared.symbol.Place.TheVariants as place
use Rattle.call_graph.specs.declared.graph.Graph.{Graph}
use Rattle.f77_meaning.specs.Areas.{Area, group, unit_at}
use Rattle.f77_meaning.specs.Modules.{Known}
use Rattle.f77_meaning.specs.Linked.{numbering}
use Rattle.f77_meaning.proofs.CaseWords.{symbol, main_module, subroutine, edge, graph, stmts_of, Arrives, Reads, Writes, Prints, ending, end_of, seen_in}

abbrev module_p : Known
module_p = main_module (codes "P")
    (stmts_of (stmt 1 None (do_loop (loop (codes "I") (int (pos 1)) (int (pos 3)) None (stmts_of (stmt 2 None (call (codes "S") (exprs_of ((name (codes "I")) ∷ []))) ∷ [])))) ∷ []))
    (symbol (codes "I") scalar.Int [] (place.Local 1 0) false [] ∷
    [])

abbrev module_s : Known
module_s = subroutine (codes "S") ((codes "N") ∷ [])
    (stmts_of (stmt 1 None (print (exprs_of ((name (codes "N")) ∷ []))) ∷ stmt 2 None (assign (name (codes "N")) (int (pos 2))) ∷ []))
    (symbol (codes "N") scalar.Int [] (place.Dummy 1) false [] ∷
    [])

abbrev modules : List Known
modules = module_p ∷ module_s ∷ []

abbrev links : Graph
links = graph ((codes "S") ∷ (codes "P") ∷ []) (edge (codes "P") 2 (codes "S") ∷ []) []

abbrev pub input : List Content
input = []

abbrev at : Area → ℕ → ℕ
at a o = unit_at (numbering modules links) a o

ends : end_of modules links 5 input ≡ ending (Broke (Faulty Locked)) []
ends = refl

sees : seen_in modules links 5 input ≡
    Arrives (codes "P") 0
    ∷ Arrives (codes "P") 1
    ∷ Writes (at (group (codes "P") 1) 0) (content Int (pos 1))
    ∷ Arrives (codes "P") 2
    ∷ Arrives (codes "S") 0
    ∷ Arrives (codes "S") 1
    ∷ Reads (at (group (codes "P") 1) 0)
    ∷ Prints (Value (content Int (pos 1)) ∷ [])
    ∷ Arrives (codes "S") 2
    ∷ []
sees = refl
