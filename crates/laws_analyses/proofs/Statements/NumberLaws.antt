-- Results stand at the statements in the order of the text.
use Rattle.std.proofs.Common.{◌≡◌, ℕ, zero, suc, List, [], ◌∷◌, ◌++◌, ◌&&◌, map, Option, Some, None, Bool, true, false, refl, sym, ap, ap₂, ◌∙◌, subst}
use Rattle.std.specs.Prelude.{if◌then◌else◌, slice_get}
use Rattle.affine_systems.specs.declared.row.System.{System}
use Rattle.f77_ast.specs.Trees.{StmtTree, WhatTree, ArmTree, ArmTrees, ElseTree, LoopTree, StmtTrees}
use Rattle.f77_ast.specs.Trees as tree
use Rattle.f77_ast.specs.declared.results.At.{At}
use Rattle.preconditions.specs.call_translation.Scopes.{ScopeTree}
use Rattle.preconditions.specs.transformers.Given.{Callees}
use Rattle.preconditions.specs.transformers.Jumps.{is_end, unstructured}
use Rattle.preconditions.specs.transformers.Whiles.{WhileTree, while_in}
use Rattle.preconditions.specs.transformers.Statement as transformers
use Rattle.preconditions.specs.Statement as preconditions
use Rattle.preconditions.specs.Statement.{PreconditionList, if_true, past_arm, past_arms, each_iteration, throughout, while_begins, while_found, after}
use Rattle.f77_ast.specs.StatementNumbers.{stmt_numbers, part_numbers, list_numbers, arms_numbers, arm_numbers, else_numbers, loop_numbers, HasNumbers}
use Rattle.laws_analyses.specs.Statements.Laws.{HaveOwnNumbers}

abbrev pub ids : {T : Type 0} → List (At T) → List ℕ
ids [] = []
ids (a ∷ as') = a.id ∷ ids as'

ids_parts : {T : Type 0} (xs ys : List (At T)) (ms ns : List ℕ) → ids xs ≡ ms → ids ys ≡ ns → ids (xs ++ ys) ≡ ms ++ ns
ids_parts [] ys ms ns e f = subst (λ m. ids ys ≡ m ++ ns) e f
ids_parts (x ∷ xs) ys ms ns e f = subst (λ m. (x.id ∷ ids (xs ++ ys)) ≡ m ++ ns) e (ap (λ l. x.id ∷ l) (ids_parts xs ys (ids xs) ns refl f))

pub own_numbers : {T : Type 0} (as' : List (At T)) (body : StmtTrees) → ids as' ≡ list_numbers body → HasNumbers body → HaveOwnNumbers as'
own_numbers {T} as' body e h = record {
  once = λ i j a b q r s. h.once i j a.id (number i a q) (number j b r ∙ ap Some (sym s));
  above = λ i a q. h.above i a.id (number i a q);
}
  where
    at : {T : Type 0} (xs : List (At T)) (i : ℕ) (a : At T) → slice_get xs i ≡ Some a → slice_get (ids xs) i ≡ Some a.id
    at [] i a q = cc
    at (x ∷ xs) zero a q = let same : x ≡ a = cc in ap (λ y. Some y.id) same
    at (x ∷ xs) (suc i) a q = at xs i a q

    number : (i : ℕ) (a : At T) → slice_get as' i ≡ Some a → slice_get (list_numbers body) i ≡ Some a.id
    number i a q = ap (λ ns. slice_get ns i) (sym e) ∙ at as' i a q

module _ (m : ScopeTree) (cs : Callees) where
  mutual
    t_stmt : (s : StmtTree) (last : Bool) → ids (transformers.at_stmt s m cs last) ≡ stmt_numbers s
    t_stmt (tree.stmt n label w) last = ap (λ l. n ∷ l) (t_parts w)

    t_parts : (w : WhatTree) → ids (transformers.at_parts w m cs) ≡ part_numbers w
    t_parts (tree.assign a b) = refl
    t_parts (tree.block_if arms other) = ids_parts (transformers.at_arms arms m cs) (transformers.at_else other m cs) (arms_numbers arms) (else_numbers other) (t_arms arms) (t_else other)
    t_parts (tree.logical_if e s) = t_stmt s false
    t_parts (tree.do_loop l) = t_loop l
    t_parts (tree.call x es) = refl
    t_parts (tree.goto l) = refl
    t_parts tree.continue = refl
    t_parts tree.return = refl
    t_parts (tree.stop text) = refl
    t_parts (tree.print es) = refl
    t_parts (tree.read es) = refl

    pub t_list : (ss : StmtTrees) (whole : Bool) → ids (transformers.at_list ss m cs whole) ≡ list_numbers ss
    t_list tree.no_stmts whole = refl
    t_list (tree.more_stmts s rest) whole = ids_parts (transformers.at_stmt s m cs (whole && is_end rest)) (transformers.at_list rest m cs whole) (stmt_numbers s) (list_numbers rest) (t_stmt s (whole && is_end rest)) (t_list rest whole)

    t_arms : (arms : ArmTrees) → ids (transformers.at_arms arms m cs) ≡ arms_numbers arms
    t_arms tree.no_arms = refl
    t_arms (tree.more_arms a rest) = ids_parts (transformers.at_arm a m cs) (transformers.at_arms rest m cs) (arm_numbers a) (arms_numbers rest) (t_arm a) (t_arms rest)

    t_arm : (a : ArmTree) → ids (transformers.at_arm a m cs) ≡ arm_numbers a
    t_arm (tree.arm e body) = t_list body false

    t_else : (other : ElseTree) → ids (transformers.at_else other m cs) ≡ else_numbers other
    t_else tree.no_else = refl
    t_else (tree.otherwise body) = t_list body false

    t_loop : (l : LoopTree) → ids (transformers.at_loop l m cs) ≡ loop_numbers l
    t_loop (tree.loop index first last step body) = t_list body false

either_ids : (b : Bool) (xs ys : List (At System)) (ns : List ℕ) → ids xs ≡ ns → ids ys ≡ ns → ids (if b then xs else ys) ≡ ns
either_ids true xs ys ns e f = e
either_ids false xs ys ns e f = f

while_ids : (o : Option WhileTree) (xs ys : List (At System)) (ns : List ℕ) → ids xs ≡ ns → ids ys ≡ ns → ids (while_found o xs ys) ≡ ns
while_ids None xs ys ns e f = f
while_ids (Some w) xs ys ns e f = e

module _ (m : ScopeTree) (t : PreconditionList) where
  mutual
    p_stmt : (s : StmtTree) (p : System) → ids (preconditions.at_stmt s m t p) ≡ stmt_numbers s
    p_stmt (tree.stmt n label w) p = ap (λ l. n ∷ l) (p_parts w p)

    p_parts : (w : WhatTree) (p : System) → ids (preconditions.at_parts w m t p) ≡ part_numbers w
    p_parts (tree.assign a b) p = refl
    p_parts (tree.block_if arms other) p = ids_parts (preconditions.at_arms arms m t p) (preconditions.at_else other m t (past_arms arms m p)) (arms_numbers arms) (else_numbers other) (p_arms arms p) (p_else other (past_arms arms m p))
    p_parts (tree.logical_if e s) p = p_stmt s (if_true m e p)
    p_parts (tree.do_loop l) p = p_loop l p
    p_parts (tree.call x es) p = refl
    p_parts (tree.goto l) p = refl
    p_parts tree.continue p = refl
    p_parts tree.return p = refl
    p_parts (tree.stop text) p = refl
    p_parts (tree.print es) p = refl
    p_parts (tree.read es) p = refl

    p_each : (ss : StmtTrees) (p : System) → ids (preconditions.at_each ss m t p) ≡ list_numbers ss
    p_each tree.no_stmts p = refl
    p_each (tree.more_stmts s rest) p = ids_parts (preconditions.at_stmt s m t p) (preconditions.at_each rest m t (after s m t p)) (stmt_numbers s) (list_numbers rest) (p_stmt s p) (p_each rest (after s m t p))

    p_all : (ss : StmtTrees) (p : System) → ids (preconditions.at_all ss m t p) ≡ list_numbers ss
    p_all tree.no_stmts p = refl
    p_all (tree.more_stmts s rest) p = ids_parts (preconditions.at_stmt s m t p) (preconditions.at_all rest m t p) (stmt_numbers s) (list_numbers rest) (p_stmt s p) (p_all rest p)

    p_arms : (arms : ArmTrees) (p : System) → ids (preconditions.at_arms arms m t p) ≡ arms_numbers arms
    p_arms tree.no_arms p = refl
    p_arms (tree.more_arms a rest) p = ids_parts (preconditions.at_arm a m t p) (preconditions.at_arms rest m t (past_arm a m p)) (arm_numbers a) (arms_numbers rest) (p_arm a p) (p_arms rest (past_arm a m p))

    p_arm : (a : ArmTree) (p : System) → ids (preconditions.at_arm a m t p) ≡ arm_numbers a
    p_arm (tree.arm e body) p =
        let begins = while_begins (while_in body) m t (if_true m e p) in
        while_ids (while_in body) (preconditions.at_all body m t begins) (preconditions.at_list false body m t (if_true m e p)) (list_numbers body) (p_all body begins)
        (either_ids (unstructured false body) (preconditions.at_all body m t (throughout false body t (if_true m e p))) (preconditions.at_each body m t (if_true m e p)) (list_numbers body) (p_all body (throughout false body t (if_true m e p))) (p_each body (if_true m e p)))

    p_else : (other : ElseTree) (p : System) → ids (preconditions.at_else other m t p) ≡ else_numbers other
    p_else tree.no_else p = refl
    p_else (tree.otherwise body) p = either_ids (unstructured false body) (preconditions.at_all body m t (throughout false body t p)) (preconditions.at_each body m t p) (list_numbers body) (p_all body (throughout false body t p)) (p_each body p)

    p_loop : (l : LoopTree) (p : System) → ids (preconditions.at_loop l m t p) ≡ loop_numbers l
    p_loop (tree.loop index first last step body) p =
        let q = each_iteration (tree.loop index first last step body) m t p in
        either_ids (unstructured false body) (preconditions.at_all body m t (throughout false body t q)) (preconditions.at_each body m t q) (list_numbers body) (p_all body (throughout false body t q)) (p_each body q)

  pub p_list : (whole : Bool) (ss : StmtTrees) (p : System) → ids (preconditions.at_list whole ss m t p) ≡ list_numbers ss
  p_list whole ss p = either_ids (unstructured whole ss) (preconditions.at_all ss m t (throughout whole ss t p)) (preconditions.at_each ss m t p) (list_numbers ss) (p_all ss (throughout whole ss t p)) (p_each ss p)
