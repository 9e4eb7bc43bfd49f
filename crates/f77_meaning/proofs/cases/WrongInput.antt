-- wrong_input.f: input of another type: fault 4
use Rattle.std.proofs.Common.{◌≡◌, ℕ, List, [], ◌∷◌, None, Some, false, refl, pos}
use Rattle.std.specs.Prelude.{codes}
use Rattle.f77_ast.specs.declared.decl.Scalar.TheVariants as scalar
use Rattle.f77_ast.specs.Plain.{exprs_of}
use Rattle.f77_ast.specs.Trees.{name, stmt, print, read}
use Rattle.f77_ast.specs.Store.{Int, Content, content}
use Rattle.f77_ast.specs.Faults.{Input}
use Rattle.f77_ast.specs.Steps.{Faulty, Value}
use Rattle.f77_ast.specs.Runs.{Broke}
use Rattle.f77_ast.specs.declared.symbol.Place.TheVariants as place
use Rattle.call_graph.specs.declared.graph.Graph.{Graph}
use Rattle.f77_meaning.specs.Areas.{Area, group, unit_at}
use Rattle.f77_meaning.specs.Modules.{Known}
use Rattle.f77_meaning.specs.Linked.{numbering}
use Rattle.f77_meaning.proofs.CaseWords.{symbol, main_module, graph, stmts_of, Arrives, Reads, Writes, Prints, Takes, ending, end_of, seen_in}

abbrev module_p : Known
module_p = main_module (codes "P")
    (stmts_of (stmt 1 None (read (exprs_of ((name (codes "I")) ∷ []))) ∷ stmt 2 None (print (exprs_of ((name (codes "I")) ∷ []))) ∷ stmt 3 None (read (exprs_of ((name (codes "L")) ∷ []))) ∷ []))
    (symbol (codes "L") scalar.Log [] (place.Local 1 0) false [] ∷
    symbol (codes "I") scalar.Int [] (place.Local 2 0) false [] ∷
    [])

abbrev modules : List Known
modules = module_p ∷ []

abbrev links : Graph
links = graph ((codes "P") ∷ []) [] []

abbrev input : List Content
input = ((content Int (pos 3)) ∷ (content Int (pos 4)) ∷ (content Int (pos 5)) ∷ [])

abbrev at : Area → ℕ → ℕ
at a o = unit_at (numbering modules links) a o

ends : end_of modules links 5 input ≡ ending (Broke (Faulty Input)) ((content Int (pos 5)) ∷ [])
ends = refl

sees : seen_in modules links 5 input ≡
    Arrives (codes "P") 0
    ∷ Arrives (codes "P") 1
    ∷ Takes (Some (content Int (pos 3)))
    ∷ Writes (at (group (codes "P") 2) 0) (content Int (pos 3))
    ∷ Arrives (codes "P") 2
    ∷ Reads (at (group (codes "P") 2) 0)
    ∷ Prints (Value (content Int (pos 3)) ∷ [])
    ∷ Arrives (codes "P") 3
    ∷ Takes (Some (content Int (pos 4)))
    ∷ []
sees = refl
