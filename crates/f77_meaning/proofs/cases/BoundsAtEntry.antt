-- bounds_at_entry.f: adjustable bounds are those at entry
use Rattle.std.proofs.Common.{◌≡◌, ℕ, List, [], ◌∷◌, None, Some, false, refl, pos}
use Rattle.std.specs.Prelude.{codes}
use Rattle.f77_ast.specs.declared.decl.Scalar.TheVariants as scalar
use Rattle.f77_ast.specs.Plain.{exprs_of}
use Rattle.f77_ast.specs.Trees.{int, name, element, stmt, assign, call, print}
use Rattle.f77_ast.specs.Store.{Int, Content, content}
use Rattle.f77_ast.specs.Steps.{Value}
use Rattle.f77_ast.specs.Runs.{Gave}
use Rattle.f77_ast.specs.Plans.{Normal}
use Rattle.f77_ast.specs.declared.symbol.Place.TheVariants as place
use Rattle.call_graph.specs.declared.graph.Graph.{Graph}
use Rattle.f77_meaning.specs.Areas.{Area, group, unit_at}
use Rattle.f77_meaning.specs.Modules.{Known}
use Rattle.f77_meaning.specs.Linked.{numbering}
use Rattle.f77_meaning.proofs.CaseWords.{bound, symbol, main_module, subroutine, edge, graph, stmts_of, Arrives, Reads, Writes, Prints, ending, end_of, seen_in}
use Rattle.f77_meaning.proofs.cases.ActiveVariable.{input}

abbrev module_p : Known
module_p = main_module (codes "P")
    (stmts_of (stmt 1 None (assign (name (codes "N")) (int (pos 2))) ∷ stmt 2 None (call (codes "S") (exprs_of ((name (codes "A")) ∷ (name (codes "N")) ∷ []))) ∷ stmt 3 None (print (exprs_of ((name (codes "N")) ∷ (element (codes "A") (exprs_of ((int (pos 6)) ∷ []))) ∷ []))) ∷ []))
    (symbol (codes "A") scalar.Int (bound (int (pos 1)) (Some (int (pos 6))) ∷ []) (place.Local 1 0) false [] ∷
    symbol (codes "N") scalar.Int [] (place.Local 2 0) false [] ∷
    [])

abbrev module_s : Known
module_s = subroutine (codes "S") ((codes "B") ∷ (codes "N") ∷ [])
    (stmts_of (stmt 1 None (assign (name (codes "N")) (int (pos 7))) ∷ stmt 2 None (assign (element (codes "B") (exprs_of ((int (pos 2)) ∷ (int (pos 2)) ∷ []))) (name (codes "N"))) ∷ []))
    (symbol (codes "B") scalar.Int (bound (int (pos 1)) (Some (name (codes "N"))) ∷ bound (int (pos 0)) (Some (name (codes "N"))) ∷ []) (place.Dummy 1) false [] ∷
    symbol (codes "N") scalar.Int [] (place.Dummy 2) false [] ∷
    [])

abbrev modules : List Known
modules = module_p ∷ module_s ∷ []

abbrev links : Graph
links = graph ((codes "S") ∷ (codes "P") ∷ []) (edge (codes "P") 2 (codes "S") ∷ []) []

abbrev at : Area → ℕ → ℕ
at a o = unit_at (numbering modules links) a o

ends : end_of modules links 5 input ≡ ending (Gave Normal) []
ends = refl

sees : seen_in modules links 5 input ≡
    Arrives (codes "P") 0
    ∷ Arrives (codes "P") 1
    ∷ Writes (at (group (codes "P") 2) 0) (content Int (pos 2))
    ∷ Arrives (codes "P") 2
    ∷ Arrives (codes "S") 0
    ∷ Reads (at (group (codes "P") 2) 0)
    ∷ Reads (at (group (codes "P") 2) 0)
    ∷ Arrives (codes "S") 1
    ∷ Writes (at (group (codes "P") 2) 0) (content Int (pos 7))
    ∷ Arrives (codes "S") 2
    ∷ Reads (at (group (codes "P") 2) 0)
    ∷ Writes (at (group (codes "P") 1) 5) (content Int (pos 7))
    ∷ Arrives (codes "P") 3
    ∷ Reads (at (group (codes "P") 2) 0)
    ∷ Reads (at (group (codes "P") 1) 5)
    ∷ Prints (Value (content Int (pos 7)) ∷ Value (content Int (pos 7)) ∷ [])
    ∷ []
sees = refl
