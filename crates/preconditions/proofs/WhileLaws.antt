-- The list of a DO WHILE, and what the code has of it.
use Rattle.std.proofs.Common.{◌≡◌, ℕ, false, List, [], ◌∷◌, ◌++◌, Option, Some, None, sym, ap, ap₂, ◌∙◌, append_assoc, append-nil}
use Rattle.affine_systems.specs.declared.row.System.{System}
use Rattle.hull_projection.specs.Clean.{clean}
use Rattle.hull_projection.specs.Hull.{hull}
use Rattle.f77_ast.specs.declared.stmt.Stmt.{Stmt}
use Rattle.f77_ast.specs.declared.stmt.Arm.{Arm, out-Arm}
use Rattle.f77_ast.specs.declared.results.At.{At}
use Rattle.f77_ast.specs.Trees.{ExprTree, StmtTrees, ArmTree}
use Rattle.f77_ast.specs.Trees as tree
use Rattle.f77_ast.specs.Plain.{expr_tree}
use Rattle.f77_ast.specs.PlainStmt.{stmt_trees, arm_tree}
use Rattle.f77_ast.proofs.PlainlyStmt.{arm_tree-out}
use Rattle.f77_ast.specs.Hidden.{is_hidden}
use Rattle.transformers.specs.transformer_algebra.declared.transformer.Transformer.{Transformer}
use Rattle.transformers.specs.transformer_algebra.Transformers.{iterate, apply}
use Rattle.transformers.specs.call_translation.Scopes.{ScopeTree}
use Rattle.transformers.specs.declared.whiles.While.{While}
use Rattle.transformers.specs.Lists.{each_at}
use Rattle.transformers.specs.Whiles.{WhileTree, while_in, while_iteration}
use Rattle.transformers.specs.WhileParts.{arm_while, while_tree, IsOnly}
use Rattle.transformers.specs.Statement.{at}
use Rattle.transformers.proofs.WhileLaws.{labelled_found, alone, only_tree}
use Rattle.preconditions.specs.Statement.{PreconditionList, if_true, if_false, each_while, while_begins, while_done, while_ends, while_found, after_list, after_arm_list, at_goto, goto_of_arm, at_all, at_list, at_arm_list}
use Rattle.preconditions.specs.WhileParts.{last_begins, at_while}

-- ---- the list with its statement alone

pub alone_ends : (n : ℕ) (label : Option ℕ) (a : ArmTree) (m : ScopeTree) (t : PreconditionList) (p : System) (w : WhileTree) → while_in (alone n label a) ≡ Some w → after_arm_list (alone n label a) m t p ≡ while_done w m p (goto_of_arm a m t (each_while w m t p))
alone_ends n label a m t p w h =
    ap (λ (o : Option WhileTree). while_ends o m p (goto_of_arm a m t (while_begins o m t p)) (after_list false (alone n label a) m t p)) h

no_more : (as' : List (At System)) → ((as' ++ []) ++ []) ++ [] ≡ as'
no_more as' = append-nil ((as' ++ []) ++ []) ∙ append-nil (as' ++ []) ∙ append-nil as'

-- the statements of the labelled block IF are no list of another DO WHILE
parts_at : (n : ℕ) (label : Option ℕ) (a : ArmTree) (m : ScopeTree) (t : PreconditionList) (p : System) (w : WhileTree) → while_in (alone n label a) ≡ Some w → at_all (alone n label a) m t p ≡ at_while n a m t p
parts_at n label (tree.arm e body) m t p w h =
    let q = if_true m e p in
    ap (λ (xs : List (At System)). at n p ∷ xs)
    (no_more (at_arm_list body m t q)
    ∙ ap (λ (o : Option WhileTree). while_found o (at_all body m t (while_begins o m t q)) (at_list false body m t q)) (labelled_found (is_hidden n) label e body w h).1)

pub alone_at : (n : ℕ) (label : Option ℕ) (a : ArmTree) (m : ScopeTree) (t : PreconditionList) (p : System) (w : WhileTree) → while_in (alone n label a) ≡ Some w → at_arm_list (alone n label a) m t p ≡ at_while n a m t (each_while w m t p)
alone_at n label a m t p w h =
    ap (λ (o : Option WhileTree). while_found o (at_all (alone n label a) m t (while_begins o m t p)) (at_list false (alone n label a) m t p)) h
    ∙ parts_at n label a m t (each_while w m t p) w h

-- ---- as the code has it

pub only_ends : (w : While) (ss : List Stmt) (m : ScopeTree) (t : PreconditionList) (p : System) → IsOnly w ss → Some (while_tree w) ≡ while_in (stmt_trees ss) → while_done (while_tree w) m p (goto_of_arm (arm_tree w.arm.now) m t (each_while (while_tree w) m t p)) ≡ after_arm_list (stmt_trees ss) m t p
only_ends w ss m t p o h =
    let e = only_tree w ss o in
    sym (ap (λ (x : StmtTrees). after_arm_list x m t p) e ∙ alone_ends w.id o.0.label (arm_tree w.arm.now) m t p (while_tree w) (sym (ap while_in e) ∙ sym h))

pub only_at : (w : While) (ss : List Stmt) (m : ScopeTree) (t : PreconditionList) (p : System) → IsOnly w ss → Some (while_tree w) ≡ while_in (stmt_trees ss) → at_while w.id (arm_tree w.arm.now) m t (each_while (while_tree w) m t p) ≡ at_arm_list (stmt_trees ss) m t p
only_at w ss m t p o h =
    let e = only_tree w ss o in
    sym (ap (λ (x : StmtTrees). at_arm_list x m t p) e ∙ alone_at w.id o.0.label (arm_tree w.arm.now) m t p (while_tree w) (sym (ap while_in e) ∙ sym h))

-- another list
pub other_ends : (ss : StmtTrees) (m : ScopeTree) (t : PreconditionList) (p : System) → None ≡ while_in ss → after_list false ss m t p ≡ after_arm_list ss m t p
other_ends ss m t p h = ap (λ (o : Option WhileTree). while_ends o m p (at_goto ss m t (while_begins o m t p)) (after_list false ss m t p)) h

pub other_at : (ss : StmtTrees) (m : ScopeTree) (t : PreconditionList) (p : System) → None ≡ while_in ss → at_list false ss m t p ≡ at_arm_list ss m t p
other_at ss m t p h = ap (λ (o : Option WhileTree). while_found o (at_all ss m t (while_begins o m t p)) (at_list false ss m t p)) h

-- ---- from the arm as the code has it

pub each_made : (a : Arm) (m : ScopeTree) (t : PreconditionList) (ts : List Transformer) (once any : Transformer) (p each : System) → ts ≡ each_at t (stmt_trees (out-Arm a).body) → once ≡ while_iteration m (arm_while (arm_tree a)) ts → any ≡ iterate once → each ≡ apply any p → clean each ≡ each_while (arm_while (arm_tree a)) m t p
each_made a m t ts once any p each e f g h =
    let w = arm_while (arm_tree a) in
    let body : ts ≡ each_at t w.body = e ∙ sym (ap (λ (x : ArmTree). each_at t (arm_while x).body) (arm_tree-out a)) in
    ap clean (h ∙ ap (λ (x : Transformer). apply x p) (g ∙ ap iterate (f ∙ ap (λ (us : List Transformer). while_iteration m w us) body)))

pub done_made : (a : Arm) (m : ScopeTree) (p q none some : System) → none ≡ if_false m (expr_tree (out-Arm a).test) p → some ≡ if_false m (expr_tree (out-Arm a).test) q → hull none some ≡ while_done (arm_while (arm_tree a)) m p q
done_made a m p q none some e f = ap₂ hull e f ∙ sym (ap (λ (x : ArmTree). while_done (arm_while x) m p q) (arm_tree-out a))

-- `each` holds where its test comes next, and `end` at its GO TO
pub goto_made : (a : Arm) (m : ScopeTree) (t : PreconditionList) (p each met end : System) → each ≡ each_while (arm_while (arm_tree a)) m t p → met ≡ if_true m (expr_tree (out-Arm a).test) each → end ≡ last_begins (stmt_trees (out-Arm a).body) m t met → end ≡ goto_of_arm (arm_tree a) m t (each_while (arm_while (arm_tree a)) m t p)
goto_made a m t p each met end e f g =
    g ∙ (ap (λ (x : System). last_begins (stmt_trees (out-Arm a).body) m t x) (f ∙ ap (if_true m (expr_tree (out-Arm a).test)) e)
    ∙ sym (ap (λ (x : ArmTree). goto_of_arm x m t (each_while (arm_while (arm_tree a)) m t p)) (arm_tree-out a)))

pub at_made : (n : ℕ) (a : Arm) (m : ScopeTree) (t : PreconditionList) (p each met : System) (old begun new : List (At System)) → each ≡ each_while (arm_while (arm_tree a)) m t p → met ≡ if_true m (expr_tree (out-Arm a).test) each → begun ≡ old ++ at n each ∷ [] → new ≡ begun ++ at_list false (stmt_trees (out-Arm a).body) m t met
    → new ≡ old ++ at_while n (arm_tree a) m t (each_while (arm_while (arm_tree a)) m t p)
at_made n a m t p each met old begun new e f g h =
    let test = expr_tree (out-Arm a).test in
    let body = stmt_trees (out-Arm a).body in
    h ∙ (ap (λ (xs : List (At System)). xs ++ at_list false body m t met) g
    ∙ (append_assoc old (at n each ∷ []) (at_list false body m t met)
    ∙ (ap (λ (x : System). old ++ at n each ∷ at_list false body m t x) f
    ∙ (ap (λ (x : System). old ++ at n x ∷ at_list false body m t (if_true m test x)) e
    ∙ sym (ap (λ (x : ArmTree). old ++ at_while n x m t (each_while (arm_while (arm_tree a)) m t p)) (arm_tree-out a))))))

-- ---- by the two kinds of lists

pub ends_cases : (P : System → Type 0) (o : Option WhileTree) (m : ScopeTree) (p q r : System) → ((w : WhileTree) → P (while_done w m p q)) → P r → P (while_ends o m p q r)
ends_cases P None m p q r f h = h
ends_cases P (Some w) m p q r f h = f w

pub found_cases : (P : List (At System) → Type 0) (o : Option WhileTree) (as' bs : List (At System)) → P as' → P bs → P (while_found o as' bs)
found_cases P None as' bs f g = g
found_cases P (Some w) as' bs f g = f
