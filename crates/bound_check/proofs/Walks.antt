-- The items of a READ, and the walk over statements, one step at a time.
use Rattle.std.proofs.Common.{◌≡◌, ℕ, ◌+◌, ◌<◌, ◌≤◌, Bool, true, false, List, [], ◌++◌, Option, length, get_or, drop, sym, ap, ◌∙◌, append_assoc}
use Rattle.std.proofs.lemmas.List.{drop_all}
use Rattle.affine_systems.specs.declared.row.Row.{Row}
use Rattle.f77_ast.specs.declared.expr.Expr.{Expr}
use Rattle.f77_ast.specs.declared.stmt.Stmt.{Stmt}
use Rattle.f77_ast.specs.declared.stmt.Arm.{Arm, out-Arm}
use Rattle.f77_ast.specs.declared.stmt.Loop.{Loop, out-Loop}
use Rattle.f77_ast.specs.Trees.{ExprTree, StmtTree, WhatTree, ArmTrees, LoopTree}
use Rattle.f77_ast.specs.Trees as tree
use Rattle.f77_ast.specs.Plain.{expr_tree, expr_trees}
use Rattle.f77_ast.specs.PlainStmt.{arm_trees, loop_tree, stmt_trees}
use Rattle.f77_ast.specs.Shapes.{walk_arms, walk_body, walk_list, walk_stmt, walk_what}
use Rattle.f77_ast.proofs.Plainly.{expr_trees-drop}
use Rattle.f77_ast.proofs.PlainlyStmt.{arm_trees-drop_at, loop_tree-out}
use Rattle.preconditions.specs.call_translation.Actuals.{named_cell, one_cell}
use Rattle.bound_check.specs.Checked.{ChecksTree, Knowledge, SeenTree, both, header_judged, items_judged, join, judged, own_alone, rows_at, statement, the_references}
use Rattle.bound_check.proofs.Steps.{join-assoc, join-none}

-- ---- the items of a READ

-- what is judged of the items from one on: of that item, and of those after it, where its variable is set
pub items-step : (k : Knowledge) (rs : List Row) (es : List Expr) (i : ℕ) (e : Expr) (w v w' : List ℕ) (cell : Option ℕ) → i < length es → e ≡ get_or es i e → v ≡ w → w' ≡ w ++ one_cell cell → cell ≡ named_cell k.scope.scalars (expr_tree e)
    → items_judged k rs w (expr_trees (drop i es)) ≡ both (judged k rs v (expr_tree e)) (items_judged k rs w' (expr_trees (drop (i + 1) es)))
items-step k rs es i e w v w' cell h at before set named =
    let later = expr_trees (drop (i + 1) es) in
    let after : w ++ one_cell (named_cell k.scope.scalars (expr_tree e)) ≡ w' = ap (λ (c : Option ℕ). w ++ one_cell c) (sym named) ∙ sym set in
    ap (items_judged k rs w) (expr_trees-drop es i e h ∙ ap (λ (x : Expr). tree.more_exprs (expr_tree x) later) (sym at))
    ∙ (λ t. both (judged k rs (sym before t) (expr_tree e)) (items_judged k rs (after t) later))

-- references that were added, with those that are still to come, are all
pub pushed : (old new more rest from all : List ExprTree) → new ≡ old ++ more → from ≡ more ++ rest → old ++ from ≡ all → new ++ rest ≡ all
pushed old new more rest from all e f g = ap (λ (x : List ExprTree). x ++ rest) e ∙ append_assoc old more rest ∙ ap (λ (x : List ExprTree). old ++ x) (sym f) ∙ g

-- ---- statements

-- the last step of a list
pub list-end : (k : Knowledge) (ss list : List Stmt) (i n : ℕ) (seen : SeenTree) → length ss ≤ i → ss ≡ list → join seen (walk_list (the_references k) (stmt_trees (drop i ss)) n true) ≡ walk_list (the_references k) (stmt_trees ss) n true
    → seen ≡ walk_list (the_references k) (stmt_trees list) n true
list-end k ss list i n seen h same e =
    let walk = λ (xs : List Stmt). walk_list (the_references k) (stmt_trees xs) n true in
    sym (join-none seen) ∙ ap (λ (xs : List Stmt). join seen (walk_list (the_references k) (stmt_trees xs) n true)) (sym (drop_all i ss h)) ∙ e ∙ ap walk same

pub arms-end : (k : Knowledge) (xs arms : List Arm) (i n : ℕ) (seen : SeenTree) → length xs ≤ i → xs ≡ arms → join seen (walk_arms (the_references k) (arm_trees (drop i xs)) n true) ≡ walk_arms (the_references k) (arm_trees xs) n true
    → seen ≡ walk_arms (the_references k) (arm_trees arms) n true
arms-end k xs arms i n seen h same e =
    let walk = λ (ys : List Arm). walk_arms (the_references k) (arm_trees ys) n true in
    sym (join-none seen) ∙ ap (λ (ys : List Arm). join seen (walk_arms (the_references k) (arm_trees ys) n true)) (sym (drop_all i xs h)) ∙ e ∙ ap walk same

-- one arm: its test and its statements
pub arm-step : (k : Knowledge) (n : ℕ) (rs : List Row) (xs : List Arm) (i : ℕ) (a : Arm) (all before after test body arm : SeenTree) (checks : ChecksTree) → i < length xs → a ≡ get_or xs i a → rs ≡ rows_at k n
    → checks ≡ judged k rs [] (expr_tree (out-Arm a).test) → test ≡ own_alone checks → body ≡ walk_list (the_references k) (stmt_trees (out-Arm a).body) n true → arm ≡ join test body → after ≡ join before arm
    → join before (walk_arms (the_references k) (arm_trees (drop i xs)) n true) ≡ all → join after (walk_arms (the_references k) (arm_trees (drop (i + 1) xs)) n true) ≡ all
arm-step k n rs xs i a all before after test body arm checks h at holds judges tests bodies made added e =
    let later = walk_arms (the_references k) (arm_trees (drop (i + 1) xs)) n true in
    let own : checks ≡ judged k (rows_at k n) [] (expr_tree (out-Arm a).test) = judges ∙ ap (λ (r : List Row). judged k r [] (expr_tree (out-Arm a).test)) holds in
    let all_tests : test ≡ own_alone (judged k (rows_at k n) [] (expr_tree (out-Arm a).test)) = tests ∙ ap own_alone own in
    let one : arm ≡ join (own_alone (judged k (rows_at k n) [] (expr_tree (out-Arm a).test))) (walk_list (the_references k) (stmt_trees (out-Arm a).body) n true) = made ∙ (λ t. join (all_tests t) (bodies t)) in
    ap (λ (s : SeenTree). join s later) added ∙ join-assoc before arm later ∙ (λ t. join before (join (one t) later))
    ∙ ap (λ (ys : ArmTrees). join before (walk_arms (the_references k) ys n true)) (sym (arm_trees-drop_at xs i a h at)) ∙ e

-- a logical IF
pub inner-step : (k : Knowledge) (n : ℕ) (label : Option ℕ) (w : WhatTree) (test : ExprTree) (s : StmtTree) (outer : ℕ) (lined : Bool) (rs : List Row) (own : ChecksTree) (parts seen : SeenTree) → w ≡ tree.logical_if test s → rs ≡ rows_at k n
    → own ≡ judged k rs [] test → parts ≡ walk_stmt (the_references k) s n false → seen ≡ statement lined n own parts → seen ≡ walk_what (the_references k) n label w outer lined
inner-step k n label w test s outer lined rs own parts seen form holds judges inside e =
    let here : own ≡ judged k (rows_at k n) [] test = judges ∙ ap (λ (r : List Row). judged k r [] test) holds in
    e ∙ (λ t. statement lined n (here t) (inside t)) ∙ ap (λ (x : WhatTree). walk_what (the_references k) n label x outer lined) (sym form)

-- a DO
pub body-step : (k : Knowledge) (n : ℕ) (label : Option ℕ) (w : WhatTree) (l : Loop) (outer : ℕ) (lined : Bool) (rs : List Row) (own : ChecksTree) (parts seen : SeenTree) → w ≡ tree.do_loop (loop_tree l) → rs ≡ rows_at k n
    → own ≡ header_judged k rs (loop_tree l) → parts ≡ walk_list (the_references k) (stmt_trees (out-Loop l).body) n true → seen ≡ statement lined n own parts → seen ≡ walk_what (the_references k) n label w outer lined
body-step k n label w l outer lined rs own parts seen form holds judges inside e =
    let here : own ≡ header_judged k (rows_at k n) (loop_tree l) = judges ∙ ap (λ (r : List Row). header_judged k r (loop_tree l)) holds in
    let within : parts ≡ walk_body (the_references k) (loop_tree l) n true = inside ∙ ap (λ (x : LoopTree). walk_body (the_references k) x n true) (sym (loop_tree-out l)) in
    e ∙ (λ t. statement lined n (here t) (within t)) ∙ ap (λ (x : WhatTree). walk_what (the_references k) n label x outer lined) (sym form)
