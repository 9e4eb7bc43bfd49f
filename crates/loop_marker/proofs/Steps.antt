-- Steps of the walks over statements, and of lists that are made one after another.
use Rattle.std.proofs.Common.{◌≡◌, ℕ, ◌+◌, ◌<◌, Option, List, ◌++◌, length, drop, get_or, append_assoc, append-nil, sym, ap, ◌∙◌}
use Rattle.f77_ast.specs.declared.stmt.Loop.{Loop, out-Loop}
use Rattle.f77_ast.specs.declared.stmt.Stmt.{Stmt}
use Rattle.f77_ast.specs.Trees.{LoopTree, StmtTrees}
use Rattle.f77_ast.specs.PlainStmt.{stmt_tree, stmt_trees, loop_tree}
use Rattle.f77_ast.specs.Shapes.{walk_stmt, walk_list}
use Rattle.f77_ast.proofs.PlainlyStmt.{loop_calls, loop_tree-out, stmt_trees-drop}
use Rattle.f77_ast.proofs.WalkLaws.{shape_calls}
use Rattle.f77_ast.specs.Symbols.{number_from}
use Rattle.f77_ast.specs.declared.variable.Variable.{Variable}
use Rattle.f77_ast.specs.declared.results.At.{At}
use Rattle.f77_ast.specs.declared.marks.Mark.{Mark}
use Rattle.loop_marker.specs.Variables.{own_variable, index_of}
use Rattle.loop_marker.specs.Marks.{the_marks}

pub ruleset loops = (loop_calls)

pub index-made : (l : Loop) (names : List (List ℕ)) (made new : List Variable) → new ≡ made ++ own_variable (number_from 1 names (out-Loop l).index) → new ≡ made ++ index_of names (loop_tree l)
index-made l names made new e = e ∙ sym (ap (λ (y : LoopTree). made ++ index_of names y) (loop_tree-out l))

pub ruleset indexes = (index-made)

pub ruleset walks = (shape_calls, append_assoc, append-nil)

pub ruleset lists = (append_assoc, append-nil)

-- the marks of one statement more
pub marks-step : (f : ℕ → Option ℕ → LoopTree → Mark) (ss : List Stmt) (i : ℕ) (s : Stmt) (made new all : List (At Mark)) → i < length ss → s ≡ get_or ss i s → new ≡ made ++ walk_stmt (the_marks f) (stmt_tree s) →
    made ++ walk_list (the_marks f) (stmt_trees (drop i ss)) ≡ all → new ++ walk_list (the_marks f) (stmt_trees (drop (i + 1) ss)) ≡ all
marks-step f ss i s made new all l g e h =
    let rest = walk_list (the_marks f) (stmt_trees (drop (i + 1) ss)) in
    ap (λ (xs : List (At Mark)). xs ++ rest) e
    ∙ (append_assoc made (walk_stmt (the_marks f) (stmt_tree s)) rest
    ∙ (ap (λ (x : Stmt). made ++ (walk_stmt (the_marks f) (stmt_tree x) ++ rest)) g
    ∙ (ap (λ (ts : StmtTrees). made ++ walk_list (the_marks f) ts) (sym (stmt_trees-drop ss i s l)) ∙ h)))
