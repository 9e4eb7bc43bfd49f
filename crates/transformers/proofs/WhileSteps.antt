-- The parts of a DO WHILE, as the code finds them.
use Rattle.std.proofs.Common.{◌≡◌, ℕ, ◌-◌, ◌&&◌, not, Bool, false, List, [], ◌∷◌, length, take, take_all, drop, get_or, ◌≤◌, ◌<◌, refl, sym, ap, subst, ◌∙◌, arith, rules}
use Rattle.std.specs.Prelude.{Option, Some, None, IfSome, if◌then◌else◌}
use Rattle.f77_ast.specs.declared.stmt.Stmt.{Stmt, size-Stmt, the_lemmas as stmt_lemmas}
use Rattle.f77_ast.specs.declared.stmt.Arm.{Arm, out-Arm, size-Arm}
use Rattle.f77_ast.specs.declared.stmt.What.{What, size-What, the_lemmas}
use Rattle.f77_ast.specs.declared.stmt.What.TheVariants.{If}
use denote.Param.Weighed.{most, w_this}
use Rattle.f77_ast.specs.Trees.{StmtTree, WhatTree, ArmTree, StmtTrees}
use Rattle.f77_ast.specs.Trees as tree
use Rattle.f77_ast.specs.Hidden.{is_hidden}
use Rattle.f77_ast.specs.Plain.{expr_tree}
use Rattle.f77_ast.specs.PlainStmt.{stmt_tree, stmt_trees, arm_tree, arm_trees, else_tree}
use Rattle.f77_ast.proofs.PlainlyStmt.{arm_tree-out}
use Rattle.affine_forms.specs.declared.conditions.Condition.{Condition}
use Rattle.affine_forms.specs.Conditions.{condition_of}
use Rattle.call_translation.specs.transformer_algebra.declared.transformer.Transformer.{Transformer}
use Rattle.call_translation.specs.transformer_algebra.Transformers.{test, followed, iterate, AllFit}
use Rattle.call_translation.specs.Scopes.{ScopeTree}
use Rattle.transformers.specs.declared.whiles.While.{While}
use Rattle.transformers.specs.Jumps.{stmt_has, is_end}
use Rattle.transformers.specs.Lists.{list_of}
use Rattle.transformers.specs.Whiles.{only_last, goes_back, only_arm, only_arm_in, while_labelled, while_at, while_in, all_before_last, while_body, while_iteration, while_does}
use Rattle.transformers.specs.Statement.{if_does}
use Rattle.transformers.specs.WhileParts.{arm_while, labelled_does, IsStatement, IsOnly}

pub other_arms : (arms : List Arm) (o : Option (List Stmt)) → (length arms ≡ 1 → ⊥) → None ≡ only_arm (arm_trees arms) (else_tree o)
other_arms [] o other = refl
other_arms (x ∷ []) o other = absurd (other refl)
other_arms (x ∷ y ∷ arms) o other = refl

pub other_lists : (ss : List Stmt) → (length ss ≡ 1 → ⊥) → None ≡ while_in (stmt_trees ss)
other_lists [] other = refl
other_lists (x ∷ []) other = absurd (other refl)
other_lists (x ∷ y ∷ ss) other = refl

alone_is : (ss : List Stmt) (s : Stmt) → length ss ≡ 1 → s ≡ get_or ss 0 s → ss ≡ s ∷ []
alone_is [] s n p = absurd (omega (arith, n))
alone_is (x ∷ []) s n p = ap (λ (y : Stmt). y ∷ []) (sym p)
alone_is (x ∷ y ∷ ss) s n p = absurd (omega (arith, n))

pub only_within : (o : Option While) (ss : List Stmt) (s : Stmt) → length ss ≡ 1 → s ≡ get_or ss 0 s → IfSome o (λ w. IsStatement w s) → IfSome o (λ w. IsOnly w ss)
only_within None ss s n p h = tt
only_within (Some w) ss s n p h = (s, alone_is ss s n p, h)

-- ---- a GO TO back

pub only_last_more : (such : WhatTree → Bool) (s : StmtTree) (rest : StmtTrees) → is_end rest ≡ false → stmt_has such s ≡ false → only_last such (tree.more_stmts s rest) ≡ only_last such rest
only_last_more such s tree.no_stmts e h = cc
only_last_more such s (tree.more_stmts r rest) e h = ap (λ (b : Bool). not b && only_last such (tree.more_stmts r rest)) h

pub only_last_step : (such : WhatTree → Bool) (ss : List Stmt) (s : Stmt) → 1 ≤ length ss → s ≡ get_or ss 0 s → is_end (stmt_trees (take (length ss - 1) (drop 1 ss))) ≡ false → stmt_has such (stmt_tree s) ≡ false
    → only_last such (stmt_trees (take (length ss - 1) (drop 1 ss))) ≡ only_last such (stmt_trees ss)
only_last_step such [] s l p e h = absurd (omega (arith, l))
only_last_step such (x ∷ xs) s l p e h =
    let t : take (length (x ∷ xs) - 1) xs ≡ xs = take_all (length (x ∷ xs) - 1) xs (omega arith) in
    ap (λ (ys : List Stmt). only_last such (stmt_trees ys)) t
    ∙ sym (only_last_more such (stmt_tree x) (stmt_trees xs) (sym (ap (λ (ys : List Stmt). is_end (stmt_trees ys)) t) ∙ e) (sym (ap (λ (y : Stmt). stmt_has such (stmt_tree y)) p) ∙ h))

-- ---- the labelled block IF

arm_is : (hidden back : Bool) (l : ℕ) (a : ArmTree) → (hidden && goes_back l (arm_while a).body) ≡ back → while_labelled hidden (Some l) (Some a) ≡ (if back then Some (arm_while a) else None)
arm_is hidden back l (tree.arm e body) h = ap (λ (b : Bool). if b then Some (record { test = e; body = body }) else None) h

pub while_is : (n l : ℕ) (w : WhatTree) (a : ArmTree) (back : Bool) → Some a ≡ only_arm_in w → back ≡ (is_hidden n && goes_back l (arm_while a).body) → (if back then Some (arm_while a) else None) ≡ while_at (tree.stmt n (Some l) w)
while_is n l w a back e h = sym (sym (ap (λ (o : Option ArmTree). while_labelled (is_hidden n) (Some l) o) e) ∙ arm_is (is_hidden n) back l a (sym h))

-- ---- without the last

from_first : (t : Transformer) (ts : List Transformer) → take (length ts) (t ∷ ts) ≡ all_before_last (t ∷ ts)
from_first t [] = refl
from_first t (u ∷ ts) = ap (λ (us : List Transformer). t ∷ us) (from_first u ts)

pub all_before_last_taken : (ts : List Transformer) → take (length ts - 1) ts ≡ all_before_last ts
all_before_last_taken [] = refl
all_before_last_taken (t ∷ ts) =
    let n : length (t ∷ ts) - 1 ≡ length ts = omega arith in
    ap (λ (k : ℕ). take k (t ∷ ts)) n ∙ from_first t ts

pub fits_before_last : (ts : List Transformer) → AllFit ts → AllFit (all_before_last ts)
fits_before_last [] h = tt
fits_before_last (t ∷ []) h = tt
fits_before_last (t ∷ u ∷ ts) h = (h.0, fits_before_last (u ∷ ts) h.1)

-- ---- what is made of the parts

pub labelled_made : (m : ScopeTree) (a : Arm) (ts : List Transformer) (does : Transformer) → does ≡ list_of false (stmt_trees (out-Arm a).body) ts → if_does m (expr_tree (out-Arm a).test) does ≡ labelled_does m (arm_while (arm_tree a)) ts
labelled_made m a ts does e =
    ap (λ (t : Transformer). if_does m (expr_tree (out-Arm a).test) t) e ∙ sym (ap (λ (x : ArmTree). labelled_does m (arm_while x) ts) (arm_tree-out a))

pub iteration_made : (m : ScopeTree) (a : Arm) (ts : List Transformer) (body begun : Transformer) (k : Condition) → k ≡ condition_of m.scalars (expr_tree (out-Arm a).test) → begun ≡ test k.yes → body ≡ while_body (stmt_trees (out-Arm a).body) ts → followed begun body ≡ while_iteration m (arm_while (arm_tree a)) ts
iteration_made m a ts body begun k e f g =
    ap (λ (t : Transformer). followed begun t) g
    ∙ (ap (λ (t : Transformer). followed t (while_body (stmt_trees (out-Arm a).body) ts)) (f ∙ ap (λ (c : Condition). test c.yes) e)
    ∙ sym (ap (λ (x : ArmTree). while_iteration m (arm_while x) ts) (arm_tree-out a)))

pub while_made : (m : ScopeTree) (a : Arm) (ts : List Transformer) (once any ended : Transformer) (k : Condition) → k ≡ condition_of m.scalars (expr_tree (out-Arm a).test) → once ≡ while_iteration m (arm_while (arm_tree a)) ts → any ≡ iterate once → ended ≡ test k.no → followed any ended ≡ while_does m (arm_while (arm_tree a)) ts
while_made m a ts once any ended k e f g h =
    ap (λ (t : Transformer). followed t ended) (g ∙ ap iterate f)
    ∙ (ap (λ (t : Transformer). followed (iterate (while_iteration m (arm_while (arm_tree a)) ts)) t) (h ∙ ap (λ (c : Condition). test c.no) e)
    ∙ ap (λ (x : ArmTree). followed (iterate (while_iteration m (arm_while (arm_tree a)) ts)) (test (condition_of m.scalars (arm_while x).test).no)) (sym (arm_tree-out a)))

-- ---- it is less deep than its list

arms_less : (a : Arm) → most ((w_this).weight Arm size-Arm) (a ∷ []) < size-What (If (a ∷ []) None)
arms_less a = search (rules, the_lemmas)

what_less : (s : Stmt) → size-What s.what < size-Stmt s
what_less s = search (rules, stmt_lemmas)

arm_in : (i : ℕ) (l : Option ℕ) (a : Arm) → size-Arm a < most ((w_this).weight Stmt size-Stmt) (record { id = i; label = l; what = If (a ∷ []) None } ∷ [])
arm_in i l a =
    let s : Stmt = record { id = i; label = l; what = If (a ∷ []) None } in
    omega (arith, arms_less a, what_less s)

pub arm_less : (ss : List Stmt) (s : Stmt) (a : Arm) → ss ≡ s ∷ [] → s.what ≡ If (a ∷ []) None → size-Arm a < most ((w_this).weight Stmt size-Stmt) ss
arm_less ss s a e f =
    let w : What → Stmt = λ (v : What). record { id = s.id; label = s.label; what = v } in
    subst (λ (ys : List Stmt). size-Arm a < most ((w_this).weight Stmt size-Stmt) ys) (sym (e ∙ ap (λ (v : What). w v ∷ []) f)) (arm_in s.id s.label a)
