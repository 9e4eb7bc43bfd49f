-- The hidden statements of one statement that is written.
use Rattle.std.proofs.Common.{◌≡◌, List, [], ◌∷◌, ◌++◌, refl, ap}
use Rattle.std.proofs.lemmas.List.{map-append}
use Rattle.f77_ast.specs.Trees.{ExprTree, StmtTree, more_exprs, more_stmts}
use Rattle.f77_ast.specs.Plain.{exprs_of}
use Rattle.f77_ast.specs.PlainStmt.{stmts_of}
use Rattle.f77_ast.proofs.Plainly.{expr_cases}
use Rattle.f77_ast.proofs.PlainlyStmt.{what_cases, what_tree-if_alone}
use Rattle.f77_parser.specs.Elaborated.{and_last, and_then_last}

-- one more at the end
pub exprs_of-last : (xs : List ExprTree) (e : ExprTree) → exprs_of (xs ++ e ∷ []) ≡ and_last (exprs_of xs) e
exprs_of-last [] e = refl
exprs_of-last (x ∷ xs) e = ap (more_exprs x) (exprs_of-last xs e)

pub stmts_of-last : (xs : List StmtTree) (s : StmtTree) → stmts_of (xs ++ s ∷ []) ≡ and_then_last (stmts_of xs) s
stmts_of-last [] s = refl
stmts_of-last (x ∷ xs) s = ap (more_stmts x) (stmts_of-last xs s)

pub ruleset blocks = (what_tree-if_alone)

pub ruleset parts = (map-append, expr_cases, what_cases, exprs_of-last, stmts_of-last)
