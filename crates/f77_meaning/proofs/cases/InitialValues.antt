-- initial_values.f: DATA, EQUIVALENCE and PARAMETER
use Rattle.std.proofs.Common.{◌≡◌, ℕ, List, [], ◌∷◌, None, Some, true, false, refl, pos}
use Rattle.std.specs.Prelude.{codes}
use Rattle.f77_ast.specs.declared.decl.Scalar.TheVariants as scalar
use Rattle.f77_ast.specs.Plain.{exprs_of}
use Rattle.f77_ast.specs.Trees.{int, name, element, stmt, assign, print}
use Rattle.f77_ast.specs.Store.{Int, Log, Content, content}
use Rattle.f77_ast.specs.Steps.{Value}
use Rattle.f77_ast.specs.Runs.{Gave}
use Rattle.f77_ast.specs.Plans.{Normal}
use Rattle.f77_ast.specs.declared.symbol.Place.TheVariants as place
use Rattle.call_graph.specs.declared.graph.Graph.{Graph}
use Rattle.f77_meaning.specs.Areas.{Area, group, unit_at}
use Rattle.f77_meaning.specs.Modules.{Known}
use Rattle.f77_meaning.specs.Linked.{numbering}
use Rattle.f77_meaning.proofs.CaseWords.{bound, initial_run, symbol, main_module, graph, stmts_of, Arrives, Reads, Writes, Prints, ending, end_of, seen_in}
use Rattle.f77_meaning.proofs.cases.ActiveVariable.{input}

abbrev module_p : Known
module_p = main_module (codes "P")
    (stmts_of (stmt 1 None (assign (element (codes "B") (exprs_of ((int (pos 1)) ∷ []))) (name (codes "N"))) ∷ stmt 2 None (print (exprs_of ((element (codes "A") (exprs_of ((int (pos 1)) ∷ []))) ∷ (element (codes "A") (exprs_of ((int (pos 2)) ∷ []))) ∷ (element (codes "B") (exprs_of ((int (pos 2)) ∷ []))) ∷ (name (codes "L")) ∷ []))) ∷ []))
    (symbol (codes "A") scalar.Int (bound (int (pos 1)) (Some (int (pos 3))) ∷ []) (place.Local 1 0) true (initial_run 0 2 (pos 1) ∷ initial_run 2 1 (pos 7) ∷ []) ∷
    symbol (codes "B") scalar.Int (bound (int (pos 1)) (Some (int (pos 2))) ∷ []) (place.Local 1 1) true [] ∷
    symbol (codes "L") scalar.Log [] (place.Local 2 0) true (initial_run 0 1 (pos 1) ∷ []) ∷
    symbol (codes "N") scalar.Int [] (place.Constant (pos 3)) false [] ∷
    [])

abbrev modules : List Known
modules = module_p ∷ []

abbrev links : Graph
links = graph ((codes "P") ∷ []) [] []

abbrev at : Area → ℕ → ℕ
at a o = unit_at (numbering modules links) a o

ends : end_of modules links 5 input ≡ ending (Gave Normal) []
ends = refl

sees : seen_in modules links 5 input ≡
    Arrives (codes "P") 0
    ∷ Arrives (codes "P") 1
    ∷ Writes (at (group (codes "P") 1) 1) (content Int (pos 3))
    ∷ Arrives (codes "P") 2
    ∷ Reads (at (group (codes "P") 1) 0)
    ∷ Reads (at (group (codes "P") 1) 1)
    ∷ Reads (at (group (codes "P") 1) 2)
    ∷ Reads (at (group (codes "P") 2) 0)
    ∷ Prints (Value (content Int (pos 1)) ∷ Value (content Int (pos 3)) ∷ Value (content Int (pos 7)) ∷ Value (content Log (pos 1)) ∷ [])
    ∷ []
sees = refl
