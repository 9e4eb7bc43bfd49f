-- doubly_reached.f: a unit that a dummy and COMMON reach is read, and then written: fault 6
use Rattle.std.proofs.Common.{◌≡◌, ℕ, List, [], ◌∷◌, None, false, refl, pos}
use Rattle.std.specs.Prelude.{codes}
use Rattle.f77_ast.specs.declared.decl.Scalar.TheVariants as scalar
use Rattle.f77_ast.specs.Plain.{exprs_of}
use Rattle.f77_ast.specs.Trees.{int, name, stmt, assign, call, print}
use Rattle.f77_ast.specs.Store.{Int, Content, content}
use Rattle.f77_ast.specs.Faults.{Shared}
use Rattle.f77_ast.specs.Steps.{Faulty, Value}
use Rattle.f77_ast.specs.Runs.{Broke}
use Rattle.f77_ast.specs.declared.symbol.Place.TheVariants as place
use Rattle.call_graph.specs.declared.graph.Graph.{Graph}
use Rattle.f77_meaning.specs.Areas.{Area, block, unit_at}
use Rattle.f77_meaning.specs.Modules.{Known}
use Rattle.f77_meaning.specs.Linked.{numbering}
use Rattle.f77_meaning.proofs.CaseWords.{symbol, main_module, subroutine, edge, block_of, graph, stmts_of, Arrives, Reads, Writes, Prints, ending, end_of, seen_in}
use Rattle.f77_meaning.proofs.cases.ActiveVariable.{input}

abbrev module_p : Known
module_p = main_module (codes "P")
    (stmts_of (stmt 1 None (assign (name (codes "I")) (int (pos 1))) ∷ stmt 2 None (call (codes "S") (exprs_of ((name (codes "I")) ∷ []))) ∷ []))
    (symbol (codes "I") scalar.Int [] (place.Block (codes "B") 0) false [] ∷
    [])

abbrev module_s : Known
module_s = subroutine (codes "S") ((codes "N") ∷ [])
    (stmts_of (stmt 1 None (print (exprs_of ((name (codes "N")) ∷ (name (codes "J")) ∷ []))) ∷ stmt 2 None (assign (name (codes "J")) (int (pos 2))) ∷ []))
    (symbol (codes "N") scalar.Int [] (place.Dummy 1) false [] ∷
    symbol (codes "J") scalar.Int [] (place.Block (codes "B") 0) false [] ∷
    [])

abbrev modules : List Known
modules = module_p ∷ module_s ∷ []

abbrev links : Graph
links = graph ((codes "S") ∷ (codes "P") ∷ []) (edge (codes "P") 2 (codes "S") ∷ []) (block_of (codes "B") 1 ∷ [])

abbrev at : Area → ℕ → ℕ
at a o = unit_at (numbering modules links) a o

ends : end_of modules links 5 input ≡ ending (Broke (Faulty Shared)) []
ends = refl

sees : seen_in modules links 5 input ≡
    Arrives (codes "P") 0
    ∷ Arrives (codes "P") 1
    ∷ Writes (at (block (codes "B")) 0) (content Int (pos 1))
    ∷ Arrives (codes "P") 2
    ∷ Arrives (codes "S") 0
    ∷ Arrives (codes "S") 1
    ∷ Reads (at (block (codes "B")) 0)
    ∷ Reads (at (block (codes "B")) 0)
    ∷ Prints (Value (content Int (pos 1)) ∷ Value (content Int (pos 1)) ∷ [])
    ∷ Arrives (codes "S") 2
    ∷ []
sees = refl
