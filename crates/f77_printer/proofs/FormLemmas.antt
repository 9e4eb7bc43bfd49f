-- What a block IF stands for, by the parts of its statements.
use Rattle.std.proofs.Common.{◌≡◌, ◌-◌, true, false, List, [], ◌∷◌, length, take, get_or, refl, sym, ap, ◌∙◌, arith}
use Rattle.std.specs.Prelude.{Option, Some, None, is_some, if◌then◌else◌}
use Rattle.f77_ast.specs.declared.expr.Expr.{Expr}
use Rattle.f77_ast.specs.declared.stmt.Stmt.{Stmt}
use Rattle.f77_ast.specs.declared.stmt.Arm.{Arm}
use Rattle.f77_ast.specs.Plain.{expr_tree, expr_trees}
use Rattle.f77_ast.specs.PlainStmt.{stmt_tree, stmt_trees, arm_tree, arm_trees, else_tree}
use Rattle.f77_ast.proofs.PlainlyStmt.{what_cases, arm_tree-out}
use Rattle.f77_ast.proofs.Plainly.{expr_cases}
use Rattle.f77_ast.specs.Trees.{ExprTree, StmtTree, ArmTree, ArmTrees, ElseTree, StmtTrees}
use Rattle.f77_ast.specs.Trees as tree
use Rattle.f77_ast.specs.Hidden.{is_hidden, block, all_but_last, without_last, form_of_one, form_of_three, form_of_body, form_of_if}
use Rattle.f77_printer.specs.Forms.{is_true, only_arm, only_arm_in, form_of_arm, form_labelled, number_of, label_of, what_of, started, called, taken, form_of_parts}

pub ruleset form_cases = (what_cases, expr_cases)

pub three_parts : (s t u : StmtTree) → form_of_three s t u ≡ form_of_parts (is_hidden (number_of s)) (started s) (called t) (taken u)
three_parts (tree.stmt n None (tree.assign (tree.name f) zero)) (tree.stmt m None (tree.call g es)) (tree.stmt k None (tree.assign left (tree.name h))) = refl
three_parts s t u = refl

pub one_parts : (s : StmtTree) → form_of_one s ≡ form_labelled (is_hidden (number_of s)) (label_of s) (only_arm_in (what_of s))
one_parts (tree.stmt n (Some l) (tree.block_if (tree.more_arms (tree.arm test body) tree.no_arms) tree.no_else)) = refl
one_parts s = refl

arm_form : (test : ExprTree) (body : StmtTrees) → form_of_if (tree.more_arms (tree.arm test body) tree.no_arms) tree.no_else ≡ (if is_true test then form_of_body body else block)
arm_form (tree.log true) body = refl
arm_form test body = refl

pub if_parts : (arms : ArmTrees) (other : ElseTree) → form_of_if arms other ≡ form_of_arm (only_arm arms other)
if_parts (tree.more_arms (tree.arm test body) tree.no_arms) tree.no_else = arm_form test body
if_parts (tree.more_arms (tree.arm (tree.log true) body) tree.no_arms) (tree.otherwise list) = refl
if_parts (tree.more_arms (tree.arm (tree.log true) body) (tree.more_arms a arms)) other = refl
if_parts arms other = refl

-- ---- lists by their lengths

pub one_statement : (ss : List Stmt) (a : Stmt) → length ss ≡ 1 → a ≡ get_or ss 0 a → form_of_one (stmt_tree a) ≡ form_of_body (stmt_trees ss)
one_statement [] a n p = absurd (omega (arith, n))
one_statement (x ∷ []) a n p = ap (λ w. form_of_one (stmt_tree w)) p
one_statement (x ∷ y ∷ ss) a n p = absurd (omega (arith, n))

pub three_statements : (ss : List Stmt) (a b d : Stmt) → length ss ≡ 3 → a ≡ get_or ss 0 a → b ≡ get_or ss 1 b → d ≡ get_or ss 2 d
    → form_of_three (stmt_tree a) (stmt_tree b) (stmt_tree d) ≡ form_of_body (stmt_trees ss)
three_statements [] a b d n p q s = absurd (omega (arith, n))
three_statements (x ∷ []) a b d n p q s = absurd (omega (arith, n))
three_statements (x ∷ y ∷ []) a b d n p q s = absurd (omega (arith, n))
three_statements (x ∷ y ∷ z ∷ []) a b d n p q s =
    ap (λ w. form_of_three (stmt_tree w) (stmt_tree b) (stmt_tree d)) p ∙ ap (λ w. form_of_three (stmt_tree x) (stmt_tree w) (stmt_tree d)) q ∙ ap (λ w. form_of_three (stmt_tree x) (stmt_tree y) (stmt_tree w)) s
three_statements (x ∷ y ∷ z ∷ w ∷ ss) a b d n p q s = absurd (omega (arith, n))

pub other_statements : (ss : List Stmt) → (length ss ≡ 1 → ⊥) → (length ss ≡ 3 → ⊥) → block ≡ form_of_body (stmt_trees ss)
other_statements [] one three = refl
other_statements (x ∷ []) one three = absurd (one refl)
other_statements (x ∷ y ∷ []) one three = refl
other_statements (x ∷ y ∷ z ∷ []) one three = absurd (three refl)
other_statements (x ∷ y ∷ z ∷ w ∷ ss) one three = refl

pub one_arm : (arms : List Arm) (a : Arm) (o : Option (List Stmt)) → length arms ≡ 1 → a ≡ get_or arms 0 a → is_some o ≡ false → Some (arm_tree a) ≡ only_arm (arm_trees arms) (else_tree o)
one_arm arms a (Some body) n p q = cc
one_arm [] a None n p q = absurd (omega (arith, n))
one_arm (x ∷ []) a None n p q = ap (λ w. Some (arm_tree w)) p
one_arm (x ∷ y ∷ arms) a None n p q = absurd (omega (arith, n))

pub other_arms : (arms : List Arm) (o : Option (List Stmt)) → (length arms ≡ 1 → ⊥) → None ≡ only_arm (arm_trees arms) (else_tree o)
other_arms [] o other = refl
other_arms (x ∷ []) o other = absurd (other refl)
other_arms (x ∷ y ∷ arms) o other = refl

-- ---- without the last

but_last : (e : Expr) (es : List Expr) → all_but_last (expr_tree e) (expr_trees es) ≡ expr_trees (take (length es) (e ∷ es))
but_last e [] = refl
but_last e (d ∷ es) = ap (tree.more_exprs (expr_tree e)) (but_last d es)

pub without_last_taken : (es : List Expr) → without_last (expr_trees es) ≡ expr_trees (take (length es - 1) es)
without_last_taken [] = refl
without_last_taken (e ∷ es) =
    let n : length (e ∷ es) - 1 ≡ length es = omega arith in
    but_last e es ∙ sym (ap (λ k. expr_trees (take k (e ∷ es))) n)

pub ruleset form_steps = (three_parts, one_parts, if_parts, arm_tree-out)
