-- The list of a DO WHILE: which it is, and where the GO TO behind its statements leads.
use Rattle.std.proofs.Common.{◌≡◌, ℕ, List, [], ◌∷◌, ◌||◌, ◌&&◌, not, Option, Some, None, Bool, true, false, refl, sym, ap, subst, nat_eq, true≢false}
use Rattle.std.specs.Prelude.{if◌then◌else◌}
use Rattle.f77_ast.specs.Trees.{StmtTree, WhatTree, ArmTree, ArmTrees, ElseTree, StmtTrees}
use Rattle.f77_ast.specs.Trees as tree
use Rattle.f77_ast.specs.Hidden.{is_hidden}
use Rattle.f77_ast.specs.Places.{Places}
use Rattle.f77_ast.specs.Writes.{Locks}
use Rattle.f77_ast.specs.Statements.{Scope, parts}
use Rattle.preconditions.specs.transformers.Jumps.{stmt_has, goes_to}
use Rattle.preconditions.specs.transformers.Whiles.{does_such, only_last, goes_back, WhileTree, only_arm, while_arm, while_labelled, while_at, while_in}
use Rattle.laws_analyses.specs.Statements.Leads.{stmt_leads}
use Rattle.laws_analyses.proofs.Statements.LeadLaws.{leads_has}
use Rattle.laws_analyses.proofs.Statements.Never.{LastNever}
use Rattle.fx_lists.proofs.Booleans.{clash as clashes, and_parts, not_true}
use Rattle.fx_lists.proofs.Numbers.{same_is as nat_same}

-- ---- the GO TO

-- a GO TO this label
pub goto_is : (l : ℕ) (w : WhatTree) → goes_to (l ∷ []) w ≡ true → w ≡ tree.goto l
goto_is l (tree.assign a b) h = absurd (true≢false (sym h))
goto_is l (tree.block_if arms other) h = absurd (true≢false (sym h))
goto_is l (tree.logical_if e s) h = absurd (true≢false (sym h))
goto_is l (tree.do_loop x) h = absurd (true≢false (sym h))
goto_is l (tree.call x es) h = absurd (true≢false (sym h))
goto_is l (tree.goto k) h = go (nat_eq l k) refl h
  where
    go : (b : Bool) → nat_eq l k ≡ b → (b || false) ≡ true → tree.goto k ≡ tree.goto l
    go true e q = ap tree.goto (sym (nat_same l k e))
    go false e q = absurd (true≢false (sym q))
goto_is l tree.continue h = absurd (true≢false (sym h))
goto_is l tree.return h = absurd (true≢false (sym h))
goto_is l (tree.stop text) h = absurd (true≢false (sym h))
goto_is l (tree.print es) h = absurd (true≢false (sym h))
goto_is l (tree.read es) h = absurd (true≢false (sym h))

-- none of the others leads there
pub other_leads : (l : ℕ) (s : StmtTree) → stmt_has (goes_to (l ∷ [])) s ≡ false → stmt_leads s (l ∷ []) ≡ false
other_leads l s h = go (stmt_leads s (l ∷ [])) refl
  where
    go : (b : Bool) → stmt_leads s (l ∷ []) ≡ b → stmt_leads s (l ∷ []) ≡ false
    go true e = clashes (stmt_has (goes_to (l ∷ [])) s) (leads_has s (l ∷ []) (l ∷ []) (λ k q. q) e) h
    go false e = e

-- one of the others, and what follows
pub others_first : (such : WhatTree → Bool) (s r : StmtTree) (rest : StmtTrees) → only_last such (tree.more_stmts s (tree.more_stmts r rest)) ≡ true → (stmt_has such s ≡ false) × (only_last such (tree.more_stmts r rest) ≡ true)
others_first such s r rest h = let k = and_parts (not (stmt_has such s)) (only_last such (tree.more_stmts r rest)) h in (not_true (stmt_has such s) k.0, k.1)

-- ---- it never ends normally

module _ (sc : Scope) (at : Places) (locked : Locks) where
  one_never : (l : ℕ) (s : StmtTree) → does_such (goes_to (l ∷ [])) s ≡ true → LastNever (parts (tree.more_stmts s tree.no_stmts) sc at locked)
  one_never l (tree.stmt n label w) h =
      subst (λ v. LastNever (parts (tree.more_stmts (tree.stmt n label v) tree.no_stmts) sc at locked)) (sym (goto_is l w h)) (λ s i. tt)

  pub parts_never : (l : ℕ) (ss : StmtTrees) → goes_back l ss ≡ true → LastNever (parts ss sc at locked)
  parts_never l tree.no_stmts h = absurd (true≢false (sym h))
  parts_never l (tree.more_stmts s tree.no_stmts) h = one_never l s h
  parts_never l (tree.more_stmts s (tree.more_stmts r rest)) h = parts_never l (tree.more_stmts r rest) (others_first (goes_to (l ∷ [])) s r rest h).1

-- ---- the list of a DO WHILE

abbrev pub while_list : ℕ → ℕ → WhileTree → StmtTrees
while_list n l w = tree.more_stmts (tree.stmt n (Some l) (tree.block_if (tree.more_arms (tree.arm w.test w.body) tree.no_arms) tree.no_else)) tree.no_stmts

pub record WhileShape (body : StmtTrees) (w : WhileTree) : Type 0 where
  pub number : ℕ
  pub label : ℕ
  pub is_list : body ≡ while_list number label w
  pub back : goes_back label w.body ≡ true

arm_shape : (n l : ℕ) (a : ArmTree) (w : WhileTree) → while_arm (is_hidden n) l a ≡ Some w → WhileShape (tree.more_stmts (tree.stmt n (Some l) (tree.block_if (tree.more_arms a tree.no_arms) tree.no_else)) tree.no_stmts) w
arm_shape n l (tree.arm test body) w h = go (is_hidden n && goes_back l body) refl h
  where
    same : (v : WhileTree) → Some v ≡ Some w → v ≡ w
    same v k = cc

    go : (b : Bool) → (is_hidden n && goes_back l body) ≡ b → (if b then Some (record { test = test; body = body }) else None) ≡ Some w → WhileShape (while_list n l (record { test = test; body = body })) w
    go true q k =
        subst (λ v. WhileShape (while_list n l (record { test = test; body = body })) v) (same (record { test = test; body = body }) k)
        (record { number = n; label = l; is_list = refl; back = (and_parts (is_hidden n) (goes_back l body) q).1 })
    go false q k = cc

arms_shape : (n l : ℕ) (arms : ArmTrees) (other : ElseTree) (w : WhileTree) → while_labelled (is_hidden n) (Some l) (only_arm arms other) ≡ Some w → WhileShape (tree.more_stmts (tree.stmt n (Some l) (tree.block_if arms other)) tree.no_stmts) w
arms_shape n l tree.no_arms other w h = cc
arms_shape n l (tree.more_arms a tree.no_arms) tree.no_else w h = arm_shape n l a w h
arms_shape n l (tree.more_arms a tree.no_arms) (tree.otherwise body) w h = cc
arms_shape n l (tree.more_arms a (tree.more_arms b rest)) other w h = cc

stmt_shape : (n : ℕ) (label : Option ℕ) (v : WhatTree) (w : WhileTree) → while_at (tree.stmt n label v) ≡ Some w → WhileShape (tree.more_stmts (tree.stmt n label v) tree.no_stmts) w
stmt_shape n None v w h = cc
stmt_shape n (Some l) (tree.assign a b) w h = cc
stmt_shape n (Some l) (tree.block_if arms other) w h = arms_shape n l arms other w h
stmt_shape n (Some l) (tree.logical_if e s) w h = cc
stmt_shape n (Some l) (tree.do_loop x) w h = cc
stmt_shape n (Some l) (tree.call x es) w h = cc
stmt_shape n (Some l) (tree.goto x) w h = cc
stmt_shape n (Some l) tree.continue w h = cc
stmt_shape n (Some l) tree.return w h = cc
stmt_shape n (Some l) (tree.stop text) w h = cc
stmt_shape n (Some l) (tree.print es) w h = cc
stmt_shape n (Some l) (tree.read es) w h = cc

pub while_shape : (body : StmtTrees) (w : WhileTree) → while_in body ≡ Some w → WhileShape body w
while_shape tree.no_stmts w h = cc
while_shape (tree.more_stmts (tree.stmt n label v) tree.no_stmts) w h = stmt_shape n label v w h
while_shape (tree.more_stmts s (tree.more_stmts r rest)) w h = cc

-- ---- of the first arm of the block IF with which a list begins

abbrev pub OfArm : (StmtTrees → Type 0) → ArmTree → Type 0
OfArm B (tree.arm e body) = B body

abbrev pub OfArms : (StmtTrees → Type 0) → ArmTrees → Type 0
OfArms B tree.no_arms = Unit {0}
OfArms B (tree.more_arms a rest) = OfArm B a

abbrev pub OfWhat : (StmtTrees → Type 0) → WhatTree → Type 0
OfWhat B (tree.assign a b) = Unit {0}
OfWhat B (tree.block_if arms other) = OfArms B arms
OfWhat B (tree.logical_if e s) = Unit {0}
OfWhat B (tree.do_loop l) = Unit {0}
OfWhat B (tree.call x es) = Unit {0}
OfWhat B (tree.goto l) = Unit {0}
OfWhat B tree.continue = Unit {0}
OfWhat B tree.return = Unit {0}
OfWhat B (tree.stop text) = Unit {0}
OfWhat B (tree.print es) = Unit {0}
OfWhat B (tree.read es) = Unit {0}

abbrev pub OfStmt : (StmtTrees → Type 0) → StmtTree → Type 0
OfStmt B (tree.stmt n label w) = OfWhat B w

abbrev pub OfInner : (StmtTrees → Type 0) → StmtTrees → Type 0
OfInner B tree.no_stmts = Unit {0}
OfInner B (tree.more_stmts s rest) = OfStmt B s

-- of the first statement of a list
abbrev pub OfFirst : (StmtTree → Type 0) → StmtTrees → Type 0
OfFirst B tree.no_stmts = Unit {0}
OfFirst B (tree.more_stmts s rest) = B s
