-- The list of a DO WHILE, and what the code has of it.
use Rattle.std.proofs.Common.{◌≡◌, ℕ, Bool, true, false, ◌&&◌, List, [], ◌∷◌, ◌++◌, Option, Some, None, refl, sym, ap, ap₂, ◌∙◌, append-nil, true≢false}
use Rattle.std.specs.Prelude.{if◌then◌else◌}
use Rattle.f77_ast.specs.declared.stmt.Stmt.{Stmt}
use Rattle.f77_ast.specs.declared.stmt.Arm.{Arm, out-Arm}
use Rattle.f77_ast.specs.declared.results.At.{At}
use Rattle.f77_ast.specs.Trees.{ExprTree, StmtTree, WhatTree, ArmTree, ArmTrees, ElseTree, StmtTrees}
use Rattle.f77_ast.specs.Trees as tree
use Rattle.f77_ast.specs.PlainStmt.{stmt_trees, what_tree, arm_tree}
use Rattle.f77_ast.proofs.PlainlyStmt.{arm_tree-out, what_tree-if_alone}
use Rattle.f77_ast.specs.Hidden.{is_hidden}
use Rattle.call_translation.specs.transformer_algebra.declared.transformer.Transformer.{Transformer}
use Rattle.call_translation.specs.Scopes.{ScopeTree}
use Rattle.transformers.specs.declared.whiles.While.{While}
use Rattle.transformers.specs.Given.{Callees}
use Rattle.transformers.specs.Jumps.{goes_to}
use Rattle.transformers.specs.Lists.{list_of}
use Rattle.transformers.specs.Whiles.{goes_back, WhileTree, while_arm, while_labelled, while_at, while_in, while_does, while_or}
use Rattle.transformers.specs.WhileParts.{arm_while, while_tree, IsOnly, labelled_does, at_while}
use Rattle.transformers.specs.Statement.{if_does, each_transformer, inner_transformers, inner_of_arm, arm_list_transformer, list_transformer, at, at_list}

-- ---- the statements of a DO WHILE are no list of another one, since they end with a GO TO

no_back : (l n : ℕ) (label : Option ℕ) (w : WhatTree) → goes_to (l ∷ []) w ≡ true → while_at (tree.stmt n label w) ≡ None
no_back l n None w h = refl
no_back l n (Some k) (tree.assign a b) h = refl
no_back l n (Some k) (tree.block_if arms other) h = absurd (true≢false (sym h))
no_back l n (Some k) (tree.logical_if test s) h = refl
no_back l n (Some k) (tree.do_loop x) h = refl
no_back l n (Some k) (tree.call x es) h = refl
no_back l n (Some k) (tree.goto x) h = refl
no_back l n (Some k) tree.continue h = refl
no_back l n (Some k) tree.return h = refl
no_back l n (Some k) (tree.stop text) h = refl
no_back l n (Some k) (tree.print es) h = refl
no_back l n (Some k) (tree.read es) h = refl

pub back_alone : (l : ℕ) (body : StmtTrees) → goes_back l body ≡ true → while_in body ≡ None
back_alone l tree.no_stmts h = refl
back_alone l (tree.more_stmts (tree.stmt n label w) tree.no_stmts) h = no_back l n label w h
back_alone l (tree.more_stmts s (tree.more_stmts r rest)) h = refl

-- ---- a DO WHILE, by the parts of its statement

both : (a b : Bool) → (a && b) ≡ true → b ≡ true
both true b h = h
both false b h = absurd (true≢false (sym h))

arm_found : (hidden : Bool) (l : ℕ) (e : ExprTree) (body : StmtTrees) (w : WhileTree) → while_arm hidden l (tree.arm e body) ≡ Some w → (w ≡ record { test = e; body = body }) × (goes_back l body ≡ true)
arm_found hidden l e body w h = go (hidden && goes_back l body) refl h
  where
    go : (b : Bool) → (hidden && goes_back l body) ≡ b → (if b then Some (record { test = e; body = body }) else None) ≡ Some w → (w ≡ record { test = e; body = body }) × (goes_back l body ≡ true)
    go true q k = (cc, both hidden (goes_back l body) q)
    go false q k = cc

pub labelled_found : (hidden : Bool) (label : Option ℕ) (e : ExprTree) (body : StmtTrees) (w : WhileTree) → while_labelled hidden label (Some (tree.arm e body)) ≡ Some w → (w ≡ record { test = e; body = body }) × (while_in body ≡ None)
labelled_found hidden None e body w h = cc
labelled_found hidden (Some l) e body w h = let k = arm_found hidden l e body w h in (k.0, back_alone l body k.1)

-- what a DO WHILE does, or another list
pub while_cases : (P : Transformer → Type 0) (o : Option WhileTree) (m : ScopeTree) (ts : List Transformer) (t : Transformer) → ((w : WhileTree) → P (while_does m w ts)) → P t → P (while_or o m ts t)
while_cases P None m ts t f h = h
while_cases P (Some w) m ts t f h = f w

-- the list with this statement alone
abbrev pub alone : ℕ → Option ℕ → ArmTree → StmtTrees
alone n label a = tree.more_stmts (tree.stmt n label (tree.block_if (tree.more_arms a tree.no_arms) tree.no_else)) tree.no_stmts

pub alone_does : (n : ℕ) (label : Option ℕ) (a : ArmTree) (m : ScopeTree) (cs : Callees) (w : WhileTree) → while_in (alone n label a) ≡ Some w → arm_list_transformer (alone n label a) m cs ≡ while_does m w (inner_of_arm a m cs)
alone_does n label (tree.arm e body) m cs w h =
    ap (λ (o : Option WhileTree). while_or o m (each_transformer body m cs false) (list_of false (alone n label (tree.arm e body)) (each_transformer (alone n label (tree.arm e body)) m cs false))) h

no_more : (as' : List (At Transformer)) → ((as' ++ []) ++ []) ++ [] ≡ as'
no_more as' = append-nil ((as' ++ []) ++ []) ∙ append-nil (as' ++ []) ∙ append-nil as'

pub alone_found : (n : ℕ) (label : Option ℕ) (a : ArmTree) (m : ScopeTree) (cs : Callees) (w : WhileTree) → while_in (alone n label a) ≡ Some w → at_list (alone n label a) m cs false ≡ at_while n a m cs
alone_found n label (tree.arm e body) m cs w h =
    let ts = each_transformer body m cs false in
    let at_head : Option WhileTree → At Transformer = λ (o : Option WhileTree). at n (if_does m e (while_or o m (inner_transformers body m cs) (list_of false body ts))) in
    ap₂ (λ (x : At Transformer) (xs : List (At Transformer)). x ∷ xs)
    (ap at_head (labelled_found (is_hidden n) label e body w h).1)
    (no_more (at_list body m cs false))

-- ---- as the code has it

pub only_tree : (w : While) (ss : List Stmt) (o : IsOnly w ss) → stmt_trees ss ≡ alone w.id o.0.label (arm_tree w.arm.now)
only_tree w ss o =
    let s = o.0 in
    let one : ℕ → WhatTree → StmtTrees = λ (n : ℕ) (v : WhatTree). tree.more_stmts (tree.stmt n s.label v) tree.no_stmts in
    ap stmt_trees o.1 ∙ ap₂ one o.2.0 (ap what_tree o.2.1 ∙ what_tree-if_alone (w.arm.now ∷ []))

pub only_does : (w : While) (ss : List Stmt) (m : ScopeTree) (cs : Callees) → IsOnly w ss → Some (while_tree w) ≡ while_in (stmt_trees ss) → while_does m (while_tree w) (inner_of_arm (arm_tree w.arm.now) m cs) ≡ arm_list_transformer (stmt_trees ss) m cs
only_does w ss m cs o h =
    let e = only_tree w ss o in
    sym (ap (λ (x : StmtTrees). arm_list_transformer x m cs) e ∙ alone_does w.id o.0.label (arm_tree w.arm.now) m cs (while_tree w) (sym (ap while_in e) ∙ sym h))

pub only_found : (w : While) (ss : List Stmt) (m : ScopeTree) (cs : Callees) → IsOnly w ss → Some (while_tree w) ≡ while_in (stmt_trees ss) → at_while w.id (arm_tree w.arm.now) m cs ≡ at_list (stmt_trees ss) m cs false
only_found w ss m cs o h =
    let e = only_tree w ss o in
    sym (ap (λ (x : StmtTrees). at_list x m cs false) e ∙ alone_found w.id o.0.label (arm_tree w.arm.now) m cs (while_tree w) (sym (ap while_in e) ∙ sym h))

-- another list
pub other_does : (ss : StmtTrees) (m : ScopeTree) (cs : Callees) → None ≡ while_in ss → list_transformer ss m cs false ≡ arm_list_transformer ss m cs
other_does ss m cs h = ap (λ (o : Option WhileTree). while_or o m (inner_transformers ss m cs) (list_transformer ss m cs false)) h

-- ---- the labelled block IF, from the arm as the code has it

pub each_made : (a : Arm) (m : ScopeTree) (cs : Callees) → each_transformer (stmt_trees (out-Arm a).body) m cs false ≡ inner_of_arm (arm_tree a) m cs
each_made a m cs = sym (ap (λ (x : ArmTree). inner_of_arm x m cs) (arm_tree-out a))

pub value_made : (a : Arm) (m : ScopeTree) (cs : Callees) (ts : List Transformer) (t : Transformer) → ts ≡ each_transformer (stmt_trees (out-Arm a).body) m cs false → t ≡ while_does m (arm_while (arm_tree a)) ts → t ≡ while_does m (arm_while (arm_tree a)) (inner_of_arm (arm_tree a) m cs)
value_made a m cs ts t e f = f ∙ ap (λ (us : List Transformer). while_does m (arm_while (arm_tree a)) us) (e ∙ each_made a m cs)

labelled_at : (n : ℕ) (x : ArmTree) (m : ScopeTree) (cs : Callees) → at n (labelled_does m (arm_while x) (inner_of_arm x m cs)) ∷ at_list (arm_while x).body m cs false ≡ at_while n x m cs
labelled_at n (tree.arm e body) m cs = refl

pub found_made : (n : ℕ) (a : Arm) (m : ScopeTree) (cs : Callees) (ts : List Transformer) (t : Transformer) → ts ≡ each_transformer (stmt_trees (out-Arm a).body) m cs false → t ≡ labelled_does m (arm_while (arm_tree a)) ts → at n t ∷ at_list (stmt_trees (out-Arm a).body) m cs false ≡ at_while n (arm_tree a) m cs
found_made n a m cs ts t e f =
    let first : t ≡ labelled_does m (arm_while (arm_tree a)) (inner_of_arm (arm_tree a) m cs) = f ∙ ap (λ (us : List Transformer). labelled_does m (arm_while (arm_tree a)) us) (e ∙ each_made a m cs) in
    ap₂ (λ (x : At Transformer) (xs : List (At Transformer)). x ∷ xs) (ap (at n) first) (sym (ap (λ (x : ArmTree). at_list (arm_while x).body m cs false) (arm_tree-out a)))
    ∙ labelled_at n (arm_tree a) m cs
