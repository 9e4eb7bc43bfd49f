-- Steps over the statements of a list, the arms of an IF, and the body of a DO.
use Rattle.std.proofs.Common.{◌≡◌, ℕ, ◌+◌, ◌<◌, Bool, false, refl, List, [], ◌∷◌, ◌++◌, Option, Result, Ok, Err, IfOk, length, ◌-◌, take, take_all, drop, length-drop, get_or, arith, append_assoc, ap, ap₂, sym, subst, ◌∙◌}
use Rattle.std.specs.Prelude.{if◌then◌else◌}
use Rattle.std.proofs.lemmas.List.Elements.{All-push}
use Rattle.affine_systems.specs.declared.row.System.{System}
use Rattle.affine_systems.specs.Given.{Fits}
use Rattle.f77_ast.specs.declared.stmt.Stmt.{Stmt}
use Rattle.f77_ast.specs.declared.stmt.Arm.{Arm, out-Arm}
use Rattle.f77_ast.specs.Trees.{ExprTree, StmtTree, StmtTrees, ArmTrees, LoopTree}
use Rattle.f77_ast.specs.Trees as tree
use Rattle.f77_ast.specs.Plain.{expr_tree}
use Rattle.f77_ast.specs.PlainStmt.{stmt_tree, stmt_trees, arm_trees}
use Rattle.f77_ast.proofs.PlainlyStmt.{stmt_trees-drop, arm_trees-drop_at}
use Rattle.f77_ast.specs.declared.results.At.{At}
use Rattle.transformers.specs.transformer_algebra.declared.transformer.Transformer.{Transformer}
use Rattle.transformers.specs.transformer_algebra.declared.loop_parts.LoopParts.{LoopParts}
use Rattle.transformers.specs.transformer_algebra.Loops.{iteration, at_iteration, after_loop}
use Rattle.transformers.specs.call_translation.Scopes.{ScopeTree}
use Rattle.transformers.specs.Jumps.{is_end}
use Rattle.transformers.specs.Lists.{list_at}
use Rattle.transformers.specs.Loops.{loop_parts}
use Rattle.transformers.specs.Statement.{at}
use Rattle.preconditions.specs.Statement.{PreconditionList, EachFits, AllFit, parts_of, each_iteration, done, if_true, if_false, past_arms, after, before_last, after_arms, after_arm_list, after_list, after_loop_of, at_stmt, at_each, at_all, at_arms, at_arm_list, at_list, at_loop}

-- ---- one more

pub each_pushed : (old new : List (At System)) (n : ℕ) (p : System) → new ≡ old ++ at n p ∷ [] → EachFits old → Fits p → EachFits new
each_pushed old new n p e h k = subst EachFits (sym e) (All-push (λ (a : At System). Fits a.value) old (at n p) h k)

pub all_pushed : (old new : List System) (s : System) → new ≡ old ++ s ∷ [] → AllFit old → Fits s → AllFit new
all_pushed old new s e h k = subst AllFit (sym e) (All-push Fits old s h k)

-- what holds of no result holds of any
pub whichever : {A E P : Type 0} (r : Result A E) → P → IfOk r (λ _. P)
whichever (Ok a) p = p
whichever (Err e) p = tt

-- ---- a list of statements

stmt_at : (ss : List Stmt) (i : ℕ) (s : Stmt) → i < length ss → s ≡ get_or ss i s → stmt_trees (drop i ss) ≡ tree.more_stmts (stmt_tree s) (stmt_trees (drop (i + 1) ss))
stmt_at ss i s l g = stmt_trees-drop ss i s l ∙ ap (λ (x : Stmt). tree.more_stmts (stmt_tree x) (stmt_trees (drop (i + 1) ss))) (sym g)

pub same_added : (m : ScopeTree) (t : PreconditionList) (p : System) (old new : List (At System)) (ss : List Stmt) (i : ℕ) (s : Stmt) → i < length ss → s ≡ get_or ss i s → new ≡ old ++ at_stmt (stmt_tree s) m t p → new ++ at_all (stmt_trees (drop (i + 1) ss)) m t p ≡ old ++ at_all (stmt_trees (drop i ss)) m t p
same_added m t p old new ss i s l g f =
    let rest : List (At System) = at_all (stmt_trees (drop (i + 1) ss)) m t p in
    ap (λ (xs : List (At System)). xs ++ rest) f
    ∙ (append_assoc old (at_stmt (stmt_tree s) m t p) rest
    ∙ ap (λ (xs : List (At System)). old ++ xs) (sym (ap (λ (xs : StmtTrees). at_all xs m t p) (stmt_at ss i s l g))))

-- ---- a list of which the last statement ends it

before_more : (s : StmtTree) (rest : StmtTrees) (m : ScopeTree) (t : PreconditionList) (p : System) → before_last (tree.more_stmts s rest) m t p ≡ before_last rest m t (if is_end rest then p else after s m t p)
before_more s tree.no_stmts m t p = refl
before_more s (tree.more_stmts r rest) m t p = refl

each_more : (s : StmtTree) (rest : StmtTrees) (m : ScopeTree) (t : PreconditionList) (p : System) → at_each (tree.more_stmts s rest) m t p ≡ at_stmt s m t p ++ at_each rest m t (if is_end rest then p else after s m t p)
each_more s tree.no_stmts m t p = refl
each_more s (tree.more_stmts r rest) m t p = refl

-- b is a copy of what holds, p; e holds after the statement, and h is kept
kept_is : (m : ScopeTree) (t : PreconditionList) (s : StmtTree) (rest : StmtTrees) (p b e h : System) (last : Bool) → last ≡ is_end rest → b ≡ p → e ≡ after s m t b → h ≡ (if last then p else e) → h ≡ (if is_end rest then p else after s m t p)
kept_is m t s rest p b e h last f g k q =
    q ∙ (ap (λ (x : Bool). if x then p else e) f ∙ ap (λ (x : System). if is_end rest then p else x) (k ∙ ap (after s m t) g))

pub before_step : (m : ScopeTree) (t : PreconditionList) (ss : List Stmt) (i : ℕ) (s : Stmt) (p b e h : System) (last : Bool) → i < length ss → s ≡ get_or ss i s → last ≡ is_end (stmt_trees (drop (i + 1) ss)) → b ≡ p → e ≡ after (stmt_tree s) m t b → h ≡ (if last then p else e) → before_last (stmt_trees (drop (i + 1) ss)) m t h ≡ before_last (stmt_trees (drop i ss)) m t p
before_step m t ss i s p b e h last l g f c k q =
    let rest = stmt_trees (drop (i + 1) ss) in
    ap (λ (x : System). before_last rest m t x) (kept_is m t (stmt_tree s) rest p b e h last f c k q)
    ∙ sym (ap (λ (xs : StmtTrees). before_last xs m t p) (stmt_at ss i s l g) ∙ before_more (stmt_tree s) rest m t p)

pub each_step : (m : ScopeTree) (t : PreconditionList) (ss : List Stmt) (i : ℕ) (s : Stmt) (p b e h : System) (last : Bool) (old new : List (At System)) → i < length ss → s ≡ get_or ss i s → last ≡ is_end (stmt_trees (drop (i + 1) ss)) → b ≡ p → e ≡ after (stmt_tree s) m t b → h ≡ (if last then p else e) → new ≡ old ++ at_stmt (stmt_tree s) m t b
    → new ++ at_each (stmt_trees (drop (i + 1) ss)) m t h ≡ old ++ at_each (stmt_trees (drop i ss)) m t p
each_step m t ss i s p b e h last old new l g f c k q z =
    let rest = stmt_trees (drop (i + 1) ss) in
    let more : System → List (At System) = λ (x : System). at_each rest m t x in
    ap (λ (xs : List (At System)). xs ++ more h) (z ∙ ap (λ (x : System). old ++ at_stmt (stmt_tree s) m t x) c)
    ∙ (append_assoc old (at_stmt (stmt_tree s) m t p) (more h)
    ∙ ap (λ (xs : List (At System)). old ++ xs)
    (ap (λ (x : System). at_stmt (stmt_tree s) m t p ++ more x) (kept_is m t (stmt_tree s) rest p b e h last f c k q)
    ∙ sym (ap (λ (xs : StmtTrees). at_each xs m t p) (stmt_at ss i s l g) ∙ each_more (stmt_tree s) rest m t p)))

-- what is left of a list from a place on
pub rest_is : (ss : List Stmt) (k : ℕ) → take (length ss - k) (drop k ss) ≡ drop k ss
rest_is ss k = take_all (length ss - k) (drop k ss) (omega (arith, length-drop k ss))

-- ---- the arms of an IF

pub arm_value : (m : ScopeTree) (p q : System) (xs : List Arm) (i : ℕ) (a : Arm) → i < length xs → a ≡ get_or xs i a → q ≡ if_false m (expr_tree (out-Arm a).test) p → past_arms (arm_trees (drop (i + 1) xs)) m q ≡ past_arms (arm_trees (drop i xs)) m p
arm_value m p q xs i a l g e =
    ap (λ (x : System). past_arms (arm_trees (drop (i + 1) xs)) m x) e ∙ sym (ap (λ (ys : ArmTrees). past_arms ys m p) (arm_trees-drop_at xs i a l g))

-- q holds where the test is true, r at the end of the arm, and s where the test is false
pub arm_end : (m : ScopeTree) (t : PreconditionList) (p q r s : System) (old new : List System) (xs : List Arm) (i : ℕ) (a : Arm) → i < length xs → a ≡ get_or xs i a → q ≡ if_true m (expr_tree (out-Arm a).test) p → r ≡ after_arm_list (stmt_trees (out-Arm a).body) m t q → s ≡ if_false m (expr_tree (out-Arm a).test) p → new ≡ old ++ r ∷ [] → new ++ after_arms (arm_trees (drop (i + 1) xs)) m t s ≡ old ++ after_arms (arm_trees (drop i xs)) m t p
arm_end m t p q r s old new xs i a l g e f h k =
    let rest : System → List System = λ (x : System). after_arms (arm_trees (drop (i + 1) xs)) m t x in
    let test = expr_tree (out-Arm a).test in
    let end : r ≡ after_arm_list (stmt_trees (out-Arm a).body) m t (if_true m test p) = f ∙ ap (λ (x : System). after_arm_list (stmt_trees (out-Arm a).body) m t x) e in
    ap (λ (ys : List System). ys ++ rest s) k
    ∙ (append_assoc old (r ∷ []) (rest s)
    ∙ (ap₂ (λ (x y : System). old ++ x ∷ rest y) end h
    ∙ ap (λ (ys : List System). old ++ ys) (sym (ap (λ (ys : ArmTrees). after_arms ys m t p) (arm_trees-drop_at xs i a l g)))))

pub arm_added : (m : ScopeTree) (t : PreconditionList) (p q s : System) (old new : List (At System)) (xs : List Arm) (i : ℕ) (a : Arm) → i < length xs → a ≡ get_or xs i a → q ≡ if_true m (expr_tree (out-Arm a).test) p → s ≡ if_false m (expr_tree (out-Arm a).test) p → new ≡ old ++ at_arm_list (stmt_trees (out-Arm a).body) m t q → new ++ at_arms (arm_trees (drop (i + 1) xs)) m t s ≡ old ++ at_arms (arm_trees (drop i xs)) m t p
arm_added m t p q s old new xs i a l g e h k =
    let rest : System → List (At System) = λ (x : System). at_arms (arm_trees (drop (i + 1) xs)) m t x in
    let here : System → List (At System) = λ (x : System). at_arm_list (stmt_trees (out-Arm a).body) m t x in
    ap (λ (ys : List (At System)). ys ++ rest s) k
    ∙ (append_assoc old (here q) (rest s)
    ∙ (ap₂ (λ (x y : System). old ++ (here x ++ rest y)) e h
    ∙ ap (λ (ys : List (At System)). old ++ ys) (sym (ap (λ (ys : ArmTrees). at_arms ys m t p) (arm_trees-drop_at xs i a l g)))))

-- ---- a DO: e holds at the beginning of each iteration, q at the end of its body, and r after it

turn_is : (l : LoopTree) (m : ScopeTree) (t : PreconditionList) (p e : System) (once : Transformer) (parts : LoopParts) → parts ≡ parts_of l m t → once ≡ iteration parts → e ≡ at_iteration parts once p → e ≡ each_iteration l m t p
turn_is l m t p e once parts a b c =
    c ∙ (ap (λ (o : Transformer). at_iteration parts o p) b ∙ ap (λ (ps : LoopParts). at_iteration ps (iteration ps) p) a)

done_is : (l : LoopTree) (m : ScopeTree) (t : PreconditionList) (p q r : System) (once : Transformer) (parts : LoopParts) → parts ≡ parts_of l m t → once ≡ iteration parts → r ≡ after_loop parts once p q → r ≡ done l m t p q
done_is l m t p q r once parts a b c =
    c ∙ (ap (λ (o : Transformer). after_loop parts o p q) b ∙ ap (λ (ps : LoopParts). after_loop ps (iteration ps) p q) a)

parts_are : (l : LoopTree) (m : ScopeTree) (t : PreconditionList) (index : List ℕ) (first last : ExprTree) (step : Option ExprTree) (body : StmtTrees) (x : Transformer) (parts : LoopParts) → l ≡ tree.loop index first last step body → x ≡ list_at t false body → parts ≡ loop_parts m l x → parts ≡ parts_of l m t
parts_are l m t index first last step body x parts e f g =
    let s = tree.loop index first last step body in
    g ∙ (ap (λ (k : LoopTree). loop_parts m k x) e ∙ (ap (loop_parts m s) f ∙ sym (ap (λ (k : LoopTree). parts_of k m t) e)))

pub loop_value : (l : LoopTree) (m : ScopeTree) (t : PreconditionList) (p e q r : System) (index : List ℕ) (first last : ExprTree) (step : Option ExprTree) (body : StmtTrees) (x once : Transformer) (parts : LoopParts) → l ≡ tree.loop index first last step body → x ≡ list_at t false body → parts ≡ loop_parts m l x → once ≡ iteration parts → e ≡ at_iteration parts once p → q ≡ after_list false body m t e → r ≡ after_loop parts once p q → r ≡ after_loop_of l m t p
loop_value l m t p e q r index first last step body x once parts is a b c d f g =
    let s = tree.loop index first last step body in
    let same : parts ≡ parts_of l m t = parts_are l m t index first last step body x parts is a b in
    let begin : e ≡ each_iteration l m t p = turn_is l m t p e once parts same c d in
    let end : q ≡ after_list false body m t (each_iteration l m t p) = f ∙ ap (λ (y : System). after_list false body m t y) begin in
    done_is l m t p q r once parts same c g
    ∙ (ap (λ (y : System). done l m t p y) end
    ∙ (ap (λ (k : LoopTree). done k m t p (after_list false body m t (each_iteration k m t p))) is
    ∙ sym (ap (λ (k : LoopTree). after_loop_of k m t p) is)))

pub loop_added : (l : LoopTree) (m : ScopeTree) (t : PreconditionList) (p e : System) (index : List ℕ) (first last : ExprTree) (step : Option ExprTree) (body : StmtTrees) (x once : Transformer) (parts : LoopParts) (old new : List (At System)) → l ≡ tree.loop index first last step body → x ≡ list_at t false body → parts ≡ loop_parts m l x → once ≡ iteration parts → e ≡ at_iteration parts once p → new ≡ old ++ at_list false body m t e → new ≡ old ++ at_loop l m t p
loop_added l m t p e index first last step body x once parts old new is a b c d f =
    let same : parts ≡ parts_of l m t = parts_are l m t index first last step body x parts is a b in
    let begin : e ≡ each_iteration l m t p = turn_is l m t p e once parts same c d in
    f
    ∙ (ap (λ (y : System). old ++ at_list false body m t y) begin
    ∙ (ap (λ (k : LoopTree). old ++ at_list false body m t (each_iteration k m t p)) is
    ∙ sym (ap (λ (k : LoopTree). old ++ at_loop k m t p) is)))
