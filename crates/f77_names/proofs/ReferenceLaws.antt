-- What stands before the actual arguments of a function, by the statements of a block IF.
use Rattle.std.proofs.Common.{◌≡◌, ℕ, Bool, true, false, List, [], ◌∷◌, length, get_or, refl, sym, ap, ◌∙◌, arith}
use Rattle.std.specs.Prelude.{Option, Some, None, is_some, if◌then◌else◌}
use Rattle.f77_ast.specs.declared.stmt.Stmt.{Stmt}
use Rattle.f77_ast.specs.declared.stmt.Arm.{Arm, out-Arm}
use Rattle.f77_ast.specs.Plain.{expr_tree}
use Rattle.f77_ast.specs.PlainStmt.{stmt_tree, stmt_trees, arm_tree, arm_trees, else_tree}
use Rattle.f77_ast.proofs.PlainlyStmt.{what_cases, arm_tree-out}
use Rattle.f77_ast.proofs.Plainly.{expr_cases}
use Rattle.f77_ast.specs.Trees.{ExprTree, StmtTree, ArmTree, ArmTrees, ElseTree, StmtTrees}
use Rattle.f77_ast.specs.Trees as tree
use Rattle.f77_ast.specs.Hidden.{is_hidden, block, reference, do_while, without_last, form_of_one, form_of_three, form_of_body, form_of_if}
use Rattle.f77_names.specs.Appearing.{head_of}
use Rattle.f77_names.specs.References.{head_of_three, is_true}

pub three_heads : (s t u : StmtTree) → head_of (form_of_three s t u) ≡ head_of_three s t u
three_heads (tree.stmt n None (tree.assign (tree.name f) zero)) (tree.stmt m None (tree.call g es)) (tree.stmt k None (tree.assign left (tree.name h))) = go (is_hidden n)
  where
    go : (b : Bool) → head_of (if b then reference left f (without_last es) else block) ≡ (if b then Some (left, f) else None)
    go true = refl
    go false = refl
three_heads s t u = refl

pub one_head : (s : StmtTree) → head_of (form_of_one s) ≡ None
one_head (tree.stmt n (Some l) (tree.block_if (tree.more_arms (tree.arm test body) tree.no_arms) tree.no_else)) = go (is_hidden n)
  where
    go : (b : Bool) → head_of (if b then do_while l test body else block) ≡ None
    go true = refl
    go false = refl
one_head s = refl

pub if_head : (test : ExprTree) (body : StmtTrees) → head_of (form_of_if (tree.more_arms (tree.arm test body) tree.no_arms) tree.no_else) ≡ (if is_true test then head_of (form_of_body body) else None)
if_head (tree.log true) body = refl
if_head test body = refl

pub ruleset reference_cases = (what_cases, expr_cases)

many : (a b : ArmTree) (arms : ArmTrees) (other : ElseTree) → None ≡ head_of (form_of_if (tree.more_arms a (tree.more_arms b arms)) other)
many (tree.arm (tree.log true) body) b arms tree.no_else = refl
many (tree.arm test body) b arms other = refl

-- ---- lists by their lengths

pub three_statements : (ss : List Stmt) (a b d : Stmt) (r : Option (ExprTree × List ℕ)) → length ss ≡ 3 → a ≡ get_or ss 0 a → b ≡ get_or ss 1 b → d ≡ get_or ss 2 d
    → r ≡ head_of_three (stmt_tree a) (stmt_tree b) (stmt_tree d) → r ≡ head_of (form_of_body (stmt_trees ss))
three_statements [] a b d r n p q s e = absurd (omega (arith, n))
three_statements (x ∷ []) a b d r n p q s e = absurd (omega (arith, n))
three_statements (x ∷ y ∷ []) a b d r n p q s e = absurd (omega (arith, n))
three_statements (x ∷ y ∷ z ∷ []) a b d r n p q s e =
    e ∙ ap (λ w. head_of_three (stmt_tree w) (stmt_tree b) (stmt_tree d)) p ∙ ap (λ w. head_of_three (stmt_tree x) (stmt_tree w) (stmt_tree d)) q ∙ ap (λ w. head_of_three (stmt_tree x) (stmt_tree y) (stmt_tree w)) s
    ∙ sym (three_heads (stmt_tree x) (stmt_tree y) (stmt_tree z))
three_statements (x ∷ y ∷ z ∷ w ∷ ss) a b d r n p q s e = absurd (omega (arith, n))

pub not_three : (ss : List Stmt) → (length ss ≡ 3 → ⊥) → None ≡ head_of (form_of_body (stmt_trees ss))
not_three [] other = refl
not_three (x ∷ []) other = sym (one_head (stmt_tree x))
not_three (x ∷ y ∷ []) other = refl
not_three (x ∷ y ∷ z ∷ []) other = absurd (other refl)
not_three (x ∷ y ∷ z ∷ w ∷ ss) other = refl

pub one_arm : (arms : List Arm) (a : Arm) (o : Option (List Stmt)) → length arms ≡ 1 → a ≡ get_or arms 0 a → is_some o ≡ false
    → head_of (form_of_if (arm_trees arms) (else_tree o)) ≡ (if is_true (expr_tree (out-Arm a).test) then head_of (form_of_body (stmt_trees (out-Arm a).body)) else None)
one_arm arms a (Some body) n p q = cc
one_arm [] a None n p q = absurd (omega (arith, n))
one_arm (x ∷ []) a None n p q =
    ap (λ w. head_of (form_of_if (tree.more_arms w tree.no_arms) tree.no_else)) (ap arm_tree (sym p) ∙ arm_tree-out a) ∙ if_head (expr_tree (out-Arm a).test) (stmt_trees (out-Arm a).body)
one_arm (x ∷ y ∷ arms) a None n p q = absurd (omega (arith, n))

pub not_one : (arms : List Arm) (o : Option (List Stmt)) → (length arms ≡ 1 → ⊥) → None ≡ head_of (form_of_if (arm_trees arms) (else_tree o))
not_one [] o other = refl
not_one (x ∷ []) o other = absurd (other refl)
not_one (x ∷ y ∷ arms) o other = many (arm_tree x) (arm_tree y) (arm_trees arms) (else_tree o)

pub arm_taken : (arms : List Arm) (a : Arm) (o : Option (List Stmt)) (r : Option (ExprTree × List ℕ)) → length arms ≡ 1 → a ≡ get_or arms 0 a → is_some o ≡ false → is_true (expr_tree (out-Arm a).test) ≡ true
    → r ≡ head_of (form_of_body (stmt_trees (out-Arm a).body)) → r ≡ head_of (form_of_if (arm_trees arms) (else_tree o))
arm_taken arms a o r n p q t e = e ∙ sym (one_arm arms a o n p q ∙ ap (λ (b : Bool). if b then head_of (form_of_body (stmt_trees (out-Arm a).body)) else None) t)

pub arm_left : (arms : List Arm) (a : Arm) (o : Option (List Stmt)) → length arms ≡ 1 → a ≡ get_or arms 0 a → is_some o ≡ false → is_true (expr_tree (out-Arm a).test) ≡ false
    → None ≡ head_of (form_of_if (arm_trees arms) (else_tree o))
arm_left arms a o n p q t = sym (one_arm arms a o n p q ∙ ap (λ (b : Bool). if b then head_of (form_of_body (stmt_trees (out-Arm a).body)) else None) t)
