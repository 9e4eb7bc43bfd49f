-- lent_block.f: part of a block as a vector, and a local of the callee
use Rattle.std.proofs.Common.{◌≡◌, ℕ, List, [], ◌∷◌, None, Some, false, refl, pos}
use Rattle.std.specs.Prelude.{codes}
use Rattle.f77_ast.specs.declared.decl.Scalar.TheVariants as scalar
use Rattle.f77_ast.specs.Plain.{exprs_of}
use Rattle.f77_ast.specs.Trees.{int, name, element, stmt, assign, call, print}
use Rattle.f77_ast.specs.Store.{Int, Content, content}
use Rattle.f77_ast.specs.Steps.{Value}
use Rattle.f77_ast.specs.Runs.{Gave}
use Rattle.f77_ast.specs.Plans.{Normal}
use Rattle.f77_ast.specs.declared.symbol.Place.TheVariants as place
use Rattle.call_graph.specs.declared.graph.Graph.{Graph}
use Rattle.f77_meaning.specs.Areas.{Area, block, group, unit_at}
use Rattle.f77_meaning.specs.Modules.{Known}
use Rattle.f77_meaning.specs.Linked.{numbering}
use Rattle.f77_meaning.proofs.CaseWords.{bound, symbol, main_module, subroutine, edge, block_of, graph, stmts_of, Arrives, Reads, Writes, Prints, ending, end_of, seen_in}
use Rattle.f77_meaning.proofs.ClaimCases.{module_p, module_s}
use Rattle.f77_meaning.proofs.cases.ActiveVariable.{input}

abbrev modules : List Known
modules = module_p ∷ module_s ∷ []

abbrev links : Graph
links = graph ((codes "S") ∷ (codes "P") ∷ []) (edge (codes "P") 2 (codes "S") ∷ []) (block_of (codes "B") 3 ∷ [])

abbrev at : Area → ℕ → ℕ
at a o = unit_at (numbering modules links) a o

ends : end_of modules links 5 input ≡ ending (Gave Normal) []
ends = refl

sees : seen_in modules links 5 input ≡
    Arrives (codes "P") 0
    ∷ Arrives (codes "P") 1
    ∷ Writes (at (block (codes "B")) 0) (content Int (pos 5))
    ∷ Arrives (codes "P") 2
    ∷ Arrives (codes "S") 0
    ∷ Arrives (codes "S") 1
    ∷ Writes (at (group (codes "S") 1) 0) (content Int (pos 7))
    ∷ Arrives (codes "S") 2
    ∷ Reads (at (group (codes "S") 1) 0)
    ∷ Writes (at (block (codes "B")) 1) (content Int (pos 7))
    ∷ Arrives (codes "S") 3
    ∷ Reads (at (block (codes "B")) 1)
    ∷ Writes (at (block (codes "B")) 2) (content Int (pos 7))
    ∷ Arrives (codes "P") 3
    ∷ Reads (at (block (codes "B")) 1)
    ∷ Reads (at (block (codes "B")) 2)
    ∷ Prints (Value (content Int (pos 7)) ∷ Value (content Int (pos 7)) ∷ [])
    ∷ []
sees = refl
