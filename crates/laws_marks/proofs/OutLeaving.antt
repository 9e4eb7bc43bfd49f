-- A list that is left before its end may be left, as its text says.
use Rattle.std.proofs.Common.{◌≡◌, ℕ, List, [], ◌∷◌, ◌||◌, ◌&&◌, Option, Bool, true, false, refl, sym, ap, ◌∙◌, true≢false, nat_eq}
use Rattle.std.specs.Prelude.{not, if◌then◌else◌}
use Rattle.std.proofs.lemmas.Bool.{or_left, or_right}
use Rattle.f77_ast.specs.Trees.{StmtTree, WhatTree, ArmTree, ArmTrees, ElseTree, LoopTree, StmtTrees}
use Rattle.f77_ast.specs.Trees as tree
use Rattle.preconditions.specs.transformer_algebra.Cells.{has}
use Rattle.preconditions.specs.transformers.Jumps.{stmt_has, parts_have, list_has, arms_have, arm_has, else_has, loop_has, goes_to, returns_early, goes_beyond}
use Rattle.loop_marker.specs.out_regions.Leaving.{stmt_labels, list_labels, returns, leaves, stmt_leaves}
use Rattle.laws_analyses.specs.Statements.Leads.{stmt_leads, each_leads}
use Rattle.laws_analyses.proofs.Statements.LeadLaws.{leads_has, list_goes}
use Rattle.fx_lists.proofs.Booleans.{or_map as either}
use Rattle.fx_lists.proofs.Numbers.{same_is as nat_same}
use Rattle.f77_ast.specs.Shapes.{is_return}

module _ (f g : WhatTree → Bool) (more : (w : WhatTree) → f w ≡ true → g w ≡ true) where
  mutual
    pub stmt_more : (s : StmtTree) → stmt_has f s ≡ true → stmt_has g s ≡ true
    stmt_more (tree.stmt n label w) h = either (f w) (parts_have f w) (g w) (parts_have g w) (more w) (parts_more w) h

    parts_more : (w : WhatTree) → parts_have f w ≡ true → parts_have g w ≡ true
    parts_more (tree.assign a b) h = h
    parts_more (tree.block_if arms other) h = either (arms_have f arms) (else_has f other) (arms_have g arms) (else_has g other) (arms_more arms) (else_more other) h
    parts_more (tree.logical_if e s) h = stmt_more s h
    parts_more (tree.do_loop l) h = loop_more l h
    parts_more (tree.call x es) h = h
    parts_more (tree.goto l) h = h
    parts_more tree.continue h = h
    parts_more tree.return h = h
    parts_more (tree.stop text) h = h
    parts_more (tree.print es) h = h
    parts_more (tree.read es) h = h

    pub list_more : (ss : StmtTrees) → list_has f ss ≡ true → list_has g ss ≡ true
    list_more tree.no_stmts h = h
    list_more (tree.more_stmts s rest) h = either (stmt_has f s) (list_has f rest) (stmt_has g s) (list_has g rest) (stmt_more s) (list_more rest) h

    arms_more : (arms : ArmTrees) → arms_have f arms ≡ true → arms_have g arms ≡ true
    arms_more tree.no_arms h = h
    arms_more (tree.more_arms a rest) h = either (arm_has f a) (arms_have f rest) (arm_has g a) (arms_have g rest) (arm_more a) (arms_more rest) h

    arm_more : (a : ArmTree) → arm_has f a ≡ true → arm_has g a ≡ true
    arm_more (tree.arm e body) h = list_more body h

    else_more : (other : ElseTree) → else_has f other ≡ true → else_has g other ≡ true
    else_more tree.no_else h = h
    else_more (tree.otherwise body) h = list_more body h

    loop_more : (l : LoopTree) → loop_has f l ≡ true → loop_has g l ≡ true
    loop_more (tree.loop index first last step body) h = list_more body h

-- a GO TO a label that is none of these leads beyond them
beyond : (ls : List ℕ) (l : ℕ) → has ls l ≡ false → (w : WhatTree) → goes_to (l ∷ []) w ≡ true → goes_beyond ls w ≡ true
beyond ls l h (tree.assign a b) e = absurd (true≢false (sym e))
beyond ls l h (tree.block_if arms other) e = absurd (true≢false (sym e))
beyond ls l h (tree.logical_if t s) e = absurd (true≢false (sym e))
beyond ls l h (tree.do_loop d) e = absurd (true≢false (sym e))
beyond ls l h (tree.call x es) e = absurd (true≢false (sym e))
beyond ls l h (tree.goto m) e = go (nat_eq l m) refl e
  where
    go : (b : Bool) → nat_eq l m ≡ b → (b || false) ≡ true → not (has ls m) ≡ true
    go true q r = ap not (ap (has ls) (sym (nat_same l m q)) ∙ h)
    go false q r = absurd (true≢false (sym r))
beyond ls l h tree.continue e = absurd (true≢false (sym e))
beyond ls l h tree.return e = absurd (true≢false (sym e))
beyond ls l h (tree.stop text) e = absurd (true≢false (sym e))
beyond ls l h (tree.print es) e = absurd (true≢false (sym e))
beyond ls l h (tree.read es) e = absurd (true≢false (sym e))

-- by a jump
pub stmt_jumps : (whole : Bool) (s : StmtTree) (l : ℕ) → stmt_leads s (l ∷ []) ≡ true → has (stmt_labels s) l ≡ false → stmt_leaves whole s ≡ true
stmt_jumps whole s l h q =
    or_left (stmt_has (goes_beyond (stmt_labels s)) s) (if whole then returns_early true s else stmt_has is_return s)
    (stmt_more (goes_to (l ∷ [])) (goes_beyond (stmt_labels s)) (beyond (stmt_labels s) l q) s (leads_has s (l ∷ []) (l ∷ []) (λ m r. r) h))

pub list_jumps : (whole : Bool) (ss : StmtTrees) (l : ℕ) → each_leads ss (l ∷ []) ≡ true → has (list_labels ss) l ≡ false → leaves whole ss ≡ true
list_jumps whole ss l h q =
    or_left (list_has (goes_beyond (list_labels ss)) ss) (returns whole ss)
    (list_more (goes_to (l ∷ [])) (goes_beyond (list_labels ss)) (beyond (list_labels ss) l q) ss (list_goes ss (l ∷ []) (l ∷ []) (λ m r. r) h))

-- by a RETURN, of a list that is not the body of a module
pub list_returns : (ss : StmtTrees) → list_has is_return ss ≡ true → leaves false ss ≡ true
list_returns ss h = or_right (list_has (goes_beyond (list_labels ss)) ss) (list_has is_return ss) h

-- or not the last one of that body
pub stmt_returns : (whole : Bool) (n : ℕ) (label : Option ℕ) (w : WhatTree) → stmt_has is_return (tree.stmt n label w) ≡ true → (whole ≡ true → is_return w ≡ false) → stmt_leaves whole (tree.stmt n label w) ≡ true
stmt_returns whole n label w h f = or_right (stmt_has (goes_beyond (stmt_labels (tree.stmt n label w))) (tree.stmt n label w)) (if whole then returns_early true (tree.stmt n label w) else stmt_has is_return (tree.stmt n label w)) (go whole refl)
  where
    part : (a b : Bool) → a ≡ false → (a || b) ≡ true → b ≡ true
    part true b e q = absurd (true≢false e)
    part false b e q = q

    go : (b : Bool) → whole ≡ b → (if b then returns_early true (tree.stmt n label w) else stmt_has is_return (tree.stmt n label w)) ≡ true
    go true e = or_left (parts_have is_return w) (is_return w && not true) (part (is_return w) (parts_have is_return w) (f e) h)
    go false e = h
