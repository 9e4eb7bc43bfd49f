-- What the tests of statements decide.
use Rattle.std.proofs.Common.{◌≡◌, ◌≤◌, ℕ, suc, drop, length, arith, Bool, true, false, ◌&&◌, List, [], ◌∷◌, Option, Some, None, refl, sym, ap, ◌∙◌, subst}
use Rattle.std.specs.Prelude.{nat_eq, bytes_eq}
use Rattle.std.specs.Cmp.Lexicographic.{bytes_decides}
use Rattle.std.proofs.lemmas.Bool.{eqb-true, eq-eqb, ne_eqb, and_parts, and_from}
use Rattle.std.proofs.lemmas.List.{drop_all}
use Rattle.f77_ast.specs.declared.stmt.Stmt.{Stmt}
use Rattle.f77_ast.specs.declared.stmt.Arm.{Arm}
use Rattle.f77_ast.specs.PlainStmt.{stmt_trees, arm_trees}
use Rattle.f77_ast.specs.Trees.{ExprTree, StmtTree, stmt, WhatTree, assign, block_if, logical_if, do_loop, call, goto, continue, return, stop, print, read, ArmTree, arm, ArmTrees, no_arms, more_arms, ElseTree, no_else, otherwise, LoopTree, loop, StmtTrees, no_stmts, more_stmts}
use Rattle.f77_ast.proofs.PlainlyStmt.{arm_trees-drop}
use Rattle.same_values.specs.Tests.{expr_test, exprs_test}
use Rattle.same_values.specs.SymbolTests.{maybe_test}
use Rattle.same_values.specs.StmtTests.{number_test, text_test, stmt_test, what_test, arm_test, arms_test, else_test, loop_test, stmts_test}
use Rattle.same_values.proofs.TestLaws.{expr_decides, exprs_decides}

-- two tests of one fact agree
pub agree : {P : Type 0} (r s : Bool) → (r ≡ true → P) × (P → r ≡ true) → (s ≡ true → P) × (P → s ≡ true) → r ≡ s
agree true true f g = refl
agree true false f g = let e : false ≡ true = g.1 (f.0 refl) in cc
agree false true f g = let e : false ≡ true = f.1 (g.0 refl) in cc
agree false false f g = refl

pub number-true : (a b : Option ℕ) → number_test a b ≡ true → a ≡ b
number-true None None e = refl
number-true None (Some m) e = cc
number-true (Some n) None e = cc
number-true (Some n) (Some m) e = ap Some (eqb-true n m e)

pub number_self : (a : Option ℕ) → number_test a a ≡ true
number_self None = refl
number_self (Some n) = eq-eqb n n refl

text-true : (a b : Option (List ℕ)) → text_test a b ≡ true → a ≡ b
text-true None None e = refl
text-true None (Some y) e = cc
text-true (Some x) None e = cc
text-true (Some x) (Some y) e = ap Some ((bytes_decides x y).0 e)

text_self : (a : Option (List ℕ)) → text_test a a ≡ true
text_self None = refl
text_self (Some x) = (bytes_decides x x).1 refl

pub maybe-true : (a b : Option ExprTree) → maybe_test a b ≡ true → a ≡ b
maybe-true None None e = refl
maybe-true None (Some b) e = cc
maybe-true (Some a) None e = cc
maybe-true (Some a) (Some b) e = ap Some ((expr_decides a b).0 e)

pub maybe_self : (a : Option ExprTree) → maybe_test a a ≡ true
maybe_self None = refl
maybe_self (Some a) = (expr_decides a a).1 refl

-- ---- where the test holds, the statements are one

mutual
  stmt_test-true : (a b : StmtTree) → stmt_test a b ≡ true → a ≡ b
  stmt_test-true (stmt i l w) (stmt j k v) e =
      let h2 = and_parts (nat_eq i j && number_test l k) (what_test w v) e in
      let h1 = and_parts (nat_eq i j) (number_test l k) h2.0 in
      ap (λ z. stmt z l w) (eqb-true i j h1.0)
      ∙ ap (λ z. stmt j z w) (number-true l k h1.1)
      ∙ ap (λ z. stmt j k z) (what_test-true w v h2.1)

  what_test-true : (a b : WhatTree) → what_test a b ≡ true → a ≡ b
  what_test-true (assign a b) (assign c d) e =
      let h1 = and_parts (expr_test a c) (expr_test b d) e in
      ap (λ z. assign z b) ((expr_decides a c).0 h1.0)
      ∙ ap (λ z. assign c z) ((expr_decides b d).0 h1.1)
  what_test-true (assign a b) (block_if u0 u1) e = cc
  what_test-true (assign a b) (logical_if u0 u1) e = cc
  what_test-true (assign a b) (do_loop u0) e = cc
  what_test-true (assign a b) (call u0 u1) e = cc
  what_test-true (assign a b) (goto u0) e = cc
  what_test-true (assign a b) continue e = cc
  what_test-true (assign a b) return e = cc
  what_test-true (assign a b) (stop u0) e = cc
  what_test-true (assign a b) (print u0) e = cc
  what_test-true (assign a b) (read u0) e = cc
  what_test-true (block_if arms o) (assign u0 u1) e = cc
  what_test-true (block_if arms o) (block_if others q) e =
      let h1 = and_parts (arms_test arms others) (else_test o q) e in
      ap (λ z. block_if z o) (arms_test-true arms others h1.0)
      ∙ ap (λ z. block_if others z) (else_test-true o q h1.1)
  what_test-true (block_if arms o) (logical_if u0 u1) e = cc
  what_test-true (block_if arms o) (do_loop u0) e = cc
  what_test-true (block_if arms o) (call u0 u1) e = cc
  what_test-true (block_if arms o) (goto u0) e = cc
  what_test-true (block_if arms o) continue e = cc
  what_test-true (block_if arms o) return e = cc
  what_test-true (block_if arms o) (stop u0) e = cc
  what_test-true (block_if arms o) (print u0) e = cc
  what_test-true (block_if arms o) (read u0) e = cc
  what_test-true (logical_if e0 s) (assign u0 u1) e = cc
  what_test-true (logical_if e0 s) (block_if u0 u1) e = cc
  what_test-true (logical_if e0 s) (logical_if d0 t) e =
      let h1 = and_parts (expr_test e0 d0) (stmt_test s t) e in
      ap (λ z. logical_if z s) ((expr_decides e0 d0).0 h1.0)
      ∙ ap (λ z. logical_if d0 z) (stmt_test-true s t h1.1)
  what_test-true (logical_if e0 s) (do_loop u0) e = cc
  what_test-true (logical_if e0 s) (call u0 u1) e = cc
  what_test-true (logical_if e0 s) (goto u0) e = cc
  what_test-true (logical_if e0 s) continue e = cc
  what_test-true (logical_if e0 s) return e = cc
  what_test-true (logical_if e0 s) (stop u0) e = cc
  what_test-true (logical_if e0 s) (print u0) e = cc
  what_test-true (logical_if e0 s) (read u0) e = cc
  what_test-true (do_loop l) (assign u0 u1) e = cc
  what_test-true (do_loop l) (block_if u0 u1) e = cc
  what_test-true (do_loop l) (logical_if u0 u1) e = cc
  what_test-true (do_loop l) (do_loop m) e =
      ap (λ z. do_loop z) (loop_test-true l m e)
  what_test-true (do_loop l) (call u0 u1) e = cc
  what_test-true (do_loop l) (goto u0) e = cc
  what_test-true (do_loop l) continue e = cc
  what_test-true (do_loop l) return e = cc
  what_test-true (do_loop l) (stop u0) e = cc
  what_test-true (do_loop l) (print u0) e = cc
  what_test-true (do_loop l) (read u0) e = cc
  what_test-true (call x es) (assign u0 u1) e = cc
  what_test-true (call x es) (block_if u0 u1) e = cc
  what_test-true (call x es) (logical_if u0 u1) e = cc
  what_test-true (call x es) (do_loop u0) e = cc
  what_test-true (call x es) (call y ds) e =
      let h1 = and_parts (bytes_eq x y) (exprs_test es ds) e in
      ap (λ z. call z es) ((bytes_decides x y).0 h1.0)
      ∙ ap (λ z. call y z) ((exprs_decides es ds).0 h1.1)
  what_test-true (call x es) (goto u0) e = cc
  what_test-true (call x es) continue e = cc
  what_test-true (call x es) return e = cc
  what_test-true (call x es) (stop u0) e = cc
  what_test-true (call x es) (print u0) e = cc
  what_test-true (call x es) (read u0) e = cc
  what_test-true (goto n) (assign u0 u1) e = cc
  what_test-true (goto n) (block_if u0 u1) e = cc
  what_test-true (goto n) (logical_if u0 u1) e = cc
  what_test-true (goto n) (do_loop u0) e = cc
  what_test-true (goto n) (call u0 u1) e = cc
  what_test-true (goto n) (goto m) e =
      ap (λ z. goto z) (eqb-true n m e)
  what_test-true (goto n) continue e = cc
  what_test-true (goto n) return e = cc
  what_test-true (goto n) (stop u0) e = cc
  what_test-true (goto n) (print u0) e = cc
  what_test-true (goto n) (read u0) e = cc
  what_test-true continue (assign u0 u1) e = cc
  what_test-true continue (block_if u0 u1) e = cc
  what_test-true continue (logical_if u0 u1) e = cc
  what_test-true continue (do_loop u0) e = cc
  what_test-true continue (call u0 u1) e = cc
  what_test-true continue (goto u0) e = cc
  what_test-true continue continue e = refl
  what_test-true continue return e = cc
  what_test-true continue (stop u0) e = cc
  what_test-true continue (print u0) e = cc
  what_test-true continue (read u0) e = cc
  what_test-true return (assign u0 u1) e = cc
  what_test-true return (block_if u0 u1) e = cc
  what_test-true return (logical_if u0 u1) e = cc
  what_test-true return (do_loop u0) e = cc
  what_test-true return (call u0 u1) e = cc
  what_test-true return (goto u0) e = cc
  what_test-true return continue e = cc
  what_test-true return return e = refl
  what_test-true return (stop u0) e = cc
  what_test-true return (print u0) e = cc
  what_test-true return (read u0) e = cc
  what_test-true (stop t) (assign u0 u1) e = cc
  what_test-true (stop t) (block_if u0 u1) e = cc
  what_test-true (stop t) (logical_if u0 u1) e = cc
  what_test-true (stop t) (do_loop u0) e = cc
  what_test-true (stop t) (call u0 u1) e = cc
  what_test-true (stop t) (goto u0) e = cc
  what_test-true (stop t) continue e = cc
  what_test-true (stop t) return e = cc
  what_test-true (stop t) (stop u) e =
      ap (λ z. stop z) (text-true t u e)
  what_test-true (stop t) (print u0) e = cc
  what_test-true (stop t) (read u0) e = cc
  what_test-true (print es) (assign u0 u1) e = cc
  what_test-true (print es) (block_if u0 u1) e = cc
  what_test-true (print es) (logical_if u0 u1) e = cc
  what_test-true (print es) (do_loop u0) e = cc
  what_test-true (print es) (call u0 u1) e = cc
  what_test-true (print es) (goto u0) e = cc
  what_test-true (print es) continue e = cc
  what_test-true (print es) return e = cc
  what_test-true (print es) (stop u0) e = cc
  what_test-true (print es) (print ds) e =
      ap (λ z. print z) ((exprs_decides es ds).0 e)
  what_test-true (print es) (read u0) e = cc
  what_test-true (read es) (assign u0 u1) e = cc
  what_test-true (read es) (block_if u0 u1) e = cc
  what_test-true (read es) (logical_if u0 u1) e = cc
  what_test-true (read es) (do_loop u0) e = cc
  what_test-true (read es) (call u0 u1) e = cc
  what_test-true (read es) (goto u0) e = cc
  what_test-true (read es) continue e = cc
  what_test-true (read es) return e = cc
  what_test-true (read es) (stop u0) e = cc
  what_test-true (read es) (print u0) e = cc
  what_test-true (read es) (read ds) e =
      ap (λ z. read z) ((exprs_decides es ds).0 e)

  arm_test-true : (a b : ArmTree) → arm_test a b ≡ true → a ≡ b
  arm_test-true (arm x ss) (arm y ts) e =
      let h1 = and_parts (expr_test x y) (stmts_test ss ts) e in
      ap (λ z. arm z ss) ((expr_decides x y).0 h1.0)
      ∙ ap (λ z. arm y z) (stmts_test-true ss ts h1.1)

  arms_test-true : (a b : ArmTrees) → arms_test a b ≡ true → a ≡ b
  arms_test-true no_arms no_arms e = refl
  arms_test-true no_arms (more_arms b bs) e = cc
  arms_test-true (more_arms a rest) no_arms e = cc
  arms_test-true (more_arms a rest) (more_arms b bs) e =
      let h1 = and_parts (arm_test a b) (arms_test rest bs) e in
      ap (λ z. more_arms z rest) (arm_test-true a b h1.0)
      ∙ ap (λ z. more_arms b z) (arms_test-true rest bs h1.1)

  else_test-true : (a b : ElseTree) → else_test a b ≡ true → a ≡ b
  else_test-true no_else no_else e = refl
  else_test-true no_else (otherwise ts) e = cc
  else_test-true (otherwise ss) no_else e = cc
  else_test-true (otherwise ss) (otherwise ts) e =
      ap (λ z. otherwise z) (stmts_test-true ss ts e)

  loop_test-true : (a b : LoopTree) → loop_test a b ≡ true → a ≡ b
  loop_test-true (loop x a b s body) (loop y c d t other) e =
      let h4 = and_parts (bytes_eq x y && expr_test a c && expr_test b d && maybe_test s t) (stmts_test body other) e in
      let h3 = and_parts (bytes_eq x y && expr_test a c && expr_test b d) (maybe_test s t) h4.0 in
      let h2 = and_parts (bytes_eq x y && expr_test a c) (expr_test b d) h3.0 in
      let h1 = and_parts (bytes_eq x y) (expr_test a c) h2.0 in
      ap (λ z. loop z a b s body) ((bytes_decides x y).0 h1.0)
      ∙ ap (λ z. loop y z b s body) ((expr_decides a c).0 h1.1)
      ∙ ap (λ z. loop y c z s body) ((expr_decides b d).0 h2.1)
      ∙ ap (λ z. loop y c d z body) (maybe-true s t h3.1)
      ∙ ap (λ z. loop y c d t z) (stmts_test-true body other h4.1)

  stmts_test-true : (a b : StmtTrees) → stmts_test a b ≡ true → a ≡ b
  stmts_test-true no_stmts no_stmts e = refl
  stmts_test-true no_stmts (more_stmts b bs) e = cc
  stmts_test-true (more_stmts a rest) no_stmts e = cc
  stmts_test-true (more_stmts a rest) (more_stmts b bs) e =
      let h1 = and_parts (stmt_test a b) (stmts_test rest bs) e in
      ap (λ z. more_stmts z rest) (stmt_test-true a b h1.0)
      ∙ ap (λ z. more_stmts b z) (stmts_test-true rest bs h1.1)

mutual
  stmt_test_self : (a : StmtTree) → stmt_test a a ≡ true
  stmt_test_self (stmt i l w) = and_from (nat_eq i i && number_test l l) (what_test w w) (and_from (nat_eq i i) (number_test l l) (eq-eqb i i refl) (number_self l)) (what_test_self w)

  what_test_self : (a : WhatTree) → what_test a a ≡ true
  what_test_self (assign a b) = and_from (expr_test a a) (expr_test b b) ((expr_decides a a).1 refl) ((expr_decides b b).1 refl)
  what_test_self (block_if arms o) = and_from (arms_test arms arms) (else_test o o) (arms_test_self arms) (else_test_self o)
  what_test_self (logical_if e0 s) = and_from (expr_test e0 e0) (stmt_test s s) ((expr_decides e0 e0).1 refl) (stmt_test_self s)
  what_test_self (do_loop l) = loop_test_self l
  what_test_self (call x es) = and_from (bytes_eq x x) (exprs_test es es) ((bytes_decides x x).1 refl) ((exprs_decides es es).1 refl)
  what_test_self (goto n) = eq-eqb n n refl
  what_test_self continue = refl
  what_test_self return = refl
  what_test_self (stop t) = text_self t
  what_test_self (print es) = (exprs_decides es es).1 refl
  what_test_self (read es) = (exprs_decides es es).1 refl

  arm_test_self : (a : ArmTree) → arm_test a a ≡ true
  arm_test_self (arm x ss) = and_from (expr_test x x) (stmts_test ss ss) ((expr_decides x x).1 refl) (stmts_test_self ss)

  arms_test_self : (a : ArmTrees) → arms_test a a ≡ true
  arms_test_self no_arms = refl
  arms_test_self (more_arms a rest) = and_from (arm_test a a) (arms_test rest rest) (arm_test_self a) (arms_test_self rest)

  else_test_self : (a : ElseTree) → else_test a a ≡ true
  else_test_self no_else = refl
  else_test_self (otherwise ss) = stmts_test_self ss

  loop_test_self : (a : LoopTree) → loop_test a a ≡ true
  loop_test_self (loop x a b s body) =
      and_from (bytes_eq x x && expr_test a a && expr_test b b && maybe_test s s) (stmts_test body body) (and_from (bytes_eq x x && expr_test a a && expr_test b b) (maybe_test s s) (and_from (bytes_eq x x && expr_test a a) (expr_test b b) (and_from (bytes_eq x x) (expr_test a a) ((bytes_decides x x).1 refl) ((expr_decides a a).1 refl)) ((expr_decides b b).1 refl)) (maybe_self s)) (stmts_test_self body)

  stmts_test_self : (a : StmtTrees) → stmts_test a a ≡ true
  stmts_test_self no_stmts = refl
  stmts_test_self (more_stmts a rest) = and_from (stmt_test a a) (stmts_test rest rest) (stmt_test_self a) (stmts_test_self rest)

pub stmts_decide : (a b : StmtTrees) → (stmts_test a b ≡ true → a ≡ b) × (a ≡ b → stmts_test a b ≡ true)
stmts_decide a b = (stmts_test-true a b, λ e. subst (λ c. stmts_test a c ≡ true) e (stmts_test_self a))

-- ---- for the code

pub ruleset arm_items = (arm_trees-drop)

-- where the first list has ended
stmts_none : (ys : List Stmt) → stmts_test no_stmts (stmt_trees ys) ≡ nat_eq (length ys) 0
stmts_none [] = refl
stmts_none (y ∷ ys) = sym (ne_eqb (suc (length ys)) 0 (λ e. omega (arith, e)))

pub stmts_over : (xs ys right : List Stmt) (i : ℕ) → length xs ≤ i → stmts_test (stmt_trees (drop i xs)) (stmt_trees right) ≡ stmts_test (stmt_trees xs) (stmt_trees ys) → nat_eq (length right) 0 ≡ stmts_test (stmt_trees xs) (stmt_trees ys)
stmts_over xs ys right i h e = sym (stmts_none right) ∙ sym (ap (λ z. stmts_test (stmt_trees z) (stmt_trees right)) (drop_all i xs h)) ∙ e

arms_none : (ys : List Arm) → arms_test no_arms (arm_trees ys) ≡ nat_eq (length ys) 0
arms_none [] = refl
arms_none (y ∷ ys) = sym (ne_eqb (suc (length ys)) 0 (λ e. omega (arith, e)))

pub arms_over : (xs ys right : List Arm) (i : ℕ) → length xs ≤ i → arms_test (arm_trees (drop i xs)) (arm_trees right) ≡ arms_test (arm_trees xs) (arm_trees ys) → nat_eq (length right) 0 ≡ arms_test (arm_trees xs) (arm_trees ys)
arms_over xs ys right i h e = sym (arms_none right) ∙ sym (ap (λ z. arms_test (arm_trees z) (arm_trees right)) (drop_all i xs h)) ∙ e
