-- function_names.f: scalars that are named as functions are
use Rattle.std.proofs.Common.{◌≡◌, ℕ, List, [], ◌∷◌, None, false, refl, pos, negsuc}
use Rattle.std.specs.Prelude.{codes}
use Rattle.f77_ast.specs.declared.expr.UnaryOp.TheVariants as unary_op
use Rattle.f77_ast.specs.declared.decl.Scalar.TheVariants as scalar
use Rattle.f77_ast.specs.Plain.{exprs_of}
use Rattle.f77_ast.specs.Trees.{int, element, unary, stmt, print}
use Rattle.f77_ast.specs.Store.{Int, Content, content}
use Rattle.f77_ast.specs.Steps.{Value}
use Rattle.f77_ast.specs.Runs.{Gave}
use Rattle.f77_ast.specs.Plans.{Normal}
use Rattle.f77_ast.specs.declared.symbol.Place.TheVariants as place
use Rattle.call_graph.specs.declared.graph.Graph.{Graph}
use Rattle.f77_meaning.specs.Areas.{Area, unit_at}
use Rattle.f77_meaning.specs.Modules.{Known}
use Rattle.f77_meaning.specs.Linked.{numbering}
use Rattle.f77_meaning.proofs.CaseWords.{symbol, main_module, graph, stmts_of, Arrives, Prints, ending, end_of, seen_in}
use Rattle.f77_meaning.proofs.cases.ActiveVariable.{input}

abbrev module_p : Known
module_p = main_module (codes "P")
    (stmts_of (stmt 1 None (print (exprs_of ((element (codes "MAX") (exprs_of ((int (pos 1)) ∷ (int (pos 2)) ∷ []))) ∷ (element (codes "MIN") (exprs_of ((int (pos 3)) ∷ (element (codes "MAX") (exprs_of ((int (pos 2)) ∷ (int (pos 9)) ∷ []))) ∷ []))) ∷ (element (codes "MOD") (exprs_of ((unary unary_op.Minus (int (pos 7))) ∷ (int (pos 3)) ∷ []))) ∷ (element (codes "IABS") (exprs_of ((unary unary_op.Minus (int (pos 4))) ∷ []))) ∷ []))) ∷ []))
    (symbol (codes "MAX") scalar.Int [] (place.Local 1 0) false [] ∷
    symbol (codes "MIN") scalar.Log [] (place.Local 2 0) false [] ∷
    [])

abbrev modules : List Known
modules = module_p ∷ []

abbrev links : Graph
links = graph ((codes "P") ∷ []) [] []

abbrev at : Area → ℕ → ℕ
at a o = unit_at (numbering modules links) a o

ends : end_of modules links 5 input ≡ ending (Gave Normal) []
ends = refl

sees : seen_in modules links 5 input ≡
    Arrives (codes "P") 0
    ∷ Arrives (codes "P") 1
    ∷ Prints (Value (content Int (pos 2)) ∷ Value (content Int (pos 3)) ∷ Value (content Int (negsuc 0)) ∷ Value (content Int (pos 4)) ∷ [])
    ∷ []
sees = refl
