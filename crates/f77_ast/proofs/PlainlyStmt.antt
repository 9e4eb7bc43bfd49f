-- The plain tree of each form of a statement.
use Rattle.std.proofs.Common.{◌≡◌, ℕ, sym, ◌+◌, ◌<◌, List, length, get_or, drop, refl, ap, ◌∙◌, add-one, Option, Some, None}
use Rattle.std.proofs.Math.Seq.{drop-cons}
use Rattle.f77_ast.specs.declared.expr.Expr.{Expr}
use Rattle.f77_ast.specs.declared.stmt.Stmt.{Stmt}
use Rattle.f77_ast.specs.declared.stmt.Arm.{Arm, Arm-F, Arm', out-Arm, roll-Arm, out-roll-Arm, outs-Arm'}
use Rattle.f77_ast.specs.declared.stmt.Loop.{Loop, Loop-F, Loop', out-Loop, roll-Loop, out-roll-Loop, outs-Loop'}
use Rattle.f77_ast.specs.declared.stmt.What.{the_lemmas, What, Row_of-Stmt, end_of-Stmt, more_of-Stmt, items-the_row-Stmt, items_hidden-the_row-Stmt-1, items_shown-the_row-Stmt-1, Row_of-Arm, end_of-Arm, more_of-Arm, items-the_row-Arm, items_hidden-the_row-Arm-0, back-What-If-1}
use Rattle.f77_ast.specs.declared.stmt.What.TheVariants.{Assign, If, LogicalIf', Do, Call, Goto, Continue, Return, Stop, Print, Read}
use Rattle.f77_ast.specs.declared.stmt.What.TheBlock.{hidden-the_row-Stmt-1, hidden-the_row-Arm-0}
use Rattle.f77_ast.specs.Trees.{stmt, more_stmts, more_arms, otherwise, arm, loop, assign, block_if, logical_if, do_loop, call, goto, continue, return, stop, print, read, no_else}
use Rattle.f77_ast.specs.Plain.{expr_tree, expr_trees}
use Rattle.f77_ast.specs.PlainStmt.{stmt_tree, stmt_trees, stmt_row, arm_tree, arm_trees, arm_row, held_tree, else_tree, what_tree, loop_tree, maybe_tree}

stmt_row_is : {n : _} → (k : Row_of-Stmt n) → stmt_row k ≡ stmt_trees (items-the_row-Stmt n k)
unfolding what_tree
stmt_row_is end_of-Stmt = refl
stmt_row_is (more_of-Stmt i l w rest) = ap (more_stmts (stmt i l (what_tree w))) (stmt_row_is rest)

stmt_row-hidden : (ss : List Stmt) → stmt_row (hidden-the_row-Stmt-1 ss) ≡ stmt_trees ss
stmt_row-hidden ss = stmt_row_is (hidden-the_row-Stmt-1 ss) ∙ ap stmt_trees (items_hidden-the_row-Stmt-1 ss)

arm_row_is : {n : _} → (k : Row_of-Arm n) → arm_row k ≡ arm_trees (items-the_row-Arm n k)
unfolding what_tree
arm_row_is end_of-Arm = refl
arm_row_is (more_of-Arm a rest) = ap (more_arms (arm_tree a)) (arm_row_is rest)

arm_row-hidden : (ss : List Arm) → arm_row (hidden-the_row-Arm-0 ss) ≡ arm_trees ss
arm_row-hidden ss = arm_row_is (hidden-the_row-Arm-0 ss) ∙ ap arm_trees (items_hidden-the_row-Arm-0 ss)

held_tree-back : (o : Option (List Stmt)) → held_tree (back-What-If-1 o) ≡ else_tree o
unfolding what_tree
held_tree-back None = refl
held_tree-back (Some ss) = ap otherwise (stmt_row-hidden ss)

-- ---- a list from its i-th element on

pub stmt_trees-drop : (ss : List Stmt) (i : ℕ) (d : Stmt) → i < length ss → stmt_trees (drop i ss) ≡ more_stmts (stmt_tree (get_or ss i d)) (stmt_trees (drop (i + 1) ss))
stmt_trees-drop ss i d h = rw (add-one, drop-cons ss i d)

pub arm_trees-drop : (ss : List Arm) (i : ℕ) (d : Arm) → i < length ss → arm_trees (drop i ss) ≡ more_arms (arm_tree (get_or ss i d)) (arm_trees (drop (i + 1) ss))
arm_trees-drop ss i d h = rw (add-one, drop-cons ss i d)

-- ---- each variant, and each struct by its fields

pub arm_tree-out : (a : Arm) → arm_tree a ≡ arm (expr_tree (out-Arm a).test) (stmt_trees (out-Arm a).body)
unfolding what_tree
arm_tree-out (Arm' test shape row) =
    rw (outs-Arm' test shape row) (ap (arm (expr_tree test)) (stmt_row_is row ∙ sym (ap stmt_trees (items_shown-the_row-Stmt-1 shape row))))

pub what_tree-assign : (a b : Expr) → what_tree (Assign a b) ≡ assign (expr_tree a) (expr_tree b)
unfolding what_tree
what_tree-assign a b = refl

pub what_tree-if : (arms : List Arm) (other : Option (List Stmt)) → what_tree (If arms other) ≡ block_if (arm_trees arms) (else_tree other)
unfolding what_tree
what_tree-if arms other = rw (arm_row-hidden arms, held_tree-back other)

pub what_tree-if_alone : (arms : List Arm) → what_tree (If arms None) ≡ block_if (arm_trees arms) no_else
unfolding what_tree
what_tree-if_alone arms = rw (arm_row-hidden arms)

pub what_tree-if_else : (arms : List Arm) (other : List Stmt) → what_tree (If arms (Some other)) ≡ block_if (arm_trees arms) (otherwise (stmt_trees other))
unfolding what_tree
what_tree-if_else arms other = rw (arm_row-hidden arms, stmt_row-hidden other)

pub loop_tree-out : (l : Loop) → loop_tree l ≡ loop (out-Loop l).index (expr_tree (out-Loop l).first) (expr_tree (out-Loop l).last) (maybe_tree (out-Loop l).step) (stmt_trees (out-Loop l).body)
unfolding what_tree
loop_tree-out (Loop' i a b c shape row) =
    rw (outs-Loop' i a b c shape row) (ap (loop i (expr_tree a) (expr_tree b) (maybe_tree c)) (stmt_row_is row ∙ sym (ap stmt_trees (items_shown-the_row-Stmt-1 shape row))))

pub what_tree-do : (l : Loop) → what_tree (Do l) ≡ do_loop (loop_tree l)
unfolding what_tree
what_tree-do l = refl

pub what_tree-logical_if : (e : Expr) (p : _) (i : ℕ) (l : Option ℕ) (w : What) → what_tree (LogicalIf' e p i l w) ≡ logical_if (expr_tree e) (stmt i l (what_tree w))
unfolding what_tree
what_tree-logical_if e p i l w = refl

pub what_tree-call : (n : List ℕ) (es : List Expr) → what_tree (Call n es) ≡ call n (expr_trees es)
unfolding what_tree
what_tree-call n es = refl

pub what_tree-goto : (l : ℕ) → what_tree (Goto l) ≡ goto l
unfolding what_tree
what_tree-goto l = refl

pub what_tree-continue : what_tree Continue ≡ continue
unfolding what_tree
what_tree-continue = refl

pub what_tree-return : what_tree Return ≡ return
unfolding what_tree
what_tree-return = refl

pub what_tree-stop : (t : Option (List ℕ)) → what_tree (Stop t) ≡ stop t
unfolding what_tree
what_tree-stop t = refl

pub what_tree-print : (es : List Expr) → what_tree (Print es) ≡ print (expr_trees es)
unfolding what_tree
what_tree-print es = refl

pub what_tree-read : (es : List Expr) → what_tree (Read es) ≡ read (expr_trees es)
unfolding what_tree
what_tree-read es = refl

-- a struct that the code makes
pub arm_tree-roll : (x : Arm-F What Arm Loop Stmt) → arm_tree (roll-Arm x) ≡ arm (expr_tree x.test) (stmt_trees x.body)
arm_tree-roll x =
    let f = λ (y : Arm-F What Arm Loop Stmt). arm (expr_tree y.test) (stmt_trees y.body) in
    arm_tree-out (roll-Arm x) ∙ ap f (out-roll-Arm x)

pub loop_tree-roll : (x : Loop-F What Arm Loop Stmt) → loop_tree (roll-Loop x) ≡ loop x.index (expr_tree x.first) (expr_tree x.last) (maybe_tree x.step) (stmt_trees x.body)
loop_tree-roll x =
    let f = λ (y : Loop-F What Arm Loop Stmt). loop y.index (expr_tree y.first) (expr_tree y.last) (maybe_tree y.step) (stmt_trees y.body) in
    loop_tree-out (roll-Loop x) ∙ ap f (out-roll-Loop x)

-- an arm that a loop reads, as its fields
pub arm_trees-drop_at : (xs : List Arm) (i : ℕ) (a : Arm) → i < length xs → a ≡ get_or xs i a → arm_trees (drop i xs) ≡ more_arms (arm (expr_tree (out-Arm a).test) (stmt_trees (out-Arm a).body)) (arm_trees (drop (i + 1) xs))
arm_trees-drop_at xs i a h e =
    arm_trees-drop xs i a h ∙ ap (λ x. more_arms (arm_tree x) (arm_trees (drop (i + 1) xs))) (sym e) ∙ ap (λ x. more_arms x (arm_trees (drop (i + 1) xs))) (arm_tree-out a)

-- ---- rulesets

-- each form, for a function that matches
pub ruleset what_cases = (what_tree-assign, what_tree-if, what_tree-do, what_tree-logical_if, what_tree-call, what_tree-goto, what_tree-continue, what_tree-return, what_tree-stop, what_tree-print, what_tree-read)

-- parts that the code makes
pub ruleset made_structs = (arm_tree-roll, loop_tree-roll)

-- parts that the code reads
pub ruleset read_structs = (arm_tree-out, loop_tree-out)

-- loops over a list of statements, and over the parts of a block IF
pub ruleset list_steps = (stmt_trees-drop)

pub ruleset arm_steps = (arm_trees-drop_at)

-- for calls whose callee requires something: the forms and what shows that a part is smaller
pub ruleset what_calls = (what_cases, the_lemmas)

pub ruleset loop_calls = (loop_tree-out, the_lemmas)

pub ruleset list_calls = (stmt_trees-drop, the_lemmas)

pub ruleset arm_calls = (arm_trees-drop_at, the_lemmas)

-- functions that rebuild a statement
pub ruleset copy_cases = (what_cases, what_tree-if_alone, what_tree-if_else)
