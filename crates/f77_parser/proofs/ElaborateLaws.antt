-- The statements that stand for those that are written.
use Rattle.std.proofs.Common.{◌≡◌, ◌∙◌, ℕ, ◌+◌, ◌≤◌, Bool, true, false, List, [], ◌∷◌, ◌++◌, length, drop, map, Option, Some, None, refl, sym, ap, subst, append_assoc, append-nil}
use Rattle.f77_ast.specs.Trees.{ExprTree, ExprTrees, WhatTree, StmtTree, StmtTrees, no_stmts, more_stmts, ArmTree, ArmTrees, no_arms, more_arms}
use Rattle.f77_ast.specs.Trees as tree
use Rattle.f77_ast.specs.declared.stmt.Stmt.{Stmt}
use Rattle.f77_ast.specs.declared.stmt.Arm.{Arm}
use Rattle.f77_ast.specs.DeclTrees.{ModuleTree}
use Rattle.f77_ast.specs.PlainStmt.{stmts_of, arms_of, stmt_trees, arm_trees}
use Rattle.f77_parser.specs.Elaborated.{Meant, meant_in, is_value, assigned, value_block, hidden_by, values_by, values_in, elaborated_in, elaborated_arms, elaborated}
use Rattle.f77_parser.specs.References.{Application, application, application_in}
use Rattle.f77_ast.proofs.PlainlyStmt as plain
use Rattle.std.proofs.lemmas.List.{map-append, drop_all}

-- ---- assignments

pub no_application : (m : Meant) (e : ExprTree) → None ≡ application_in e → is_value m e ≡ false
no_application m (tree.int i) q = refl
no_application m (tree.log c) q = refl
no_application m (tree.name x) q = refl
no_application m (tree.element f es) q = cc
no_application m (tree.paren e) q = refl
no_application m (tree.unary op e) q = refl
no_application m (tree.binary op c d) q = refl
no_application m (tree.chars c) q = refl

abbrev value_of : Option Application → ExprTree
value_of None = tree.log false
value_of (Some a) = tree.element a.name a.arguments

pub applied : (e : ExprTree) (f : List ℕ) (es : ExprTrees) → Some (application f es) ≡ application_in e → e ≡ tree.element f es
applied (tree.int i) f es q = cc
applied (tree.log c) f es q = cc
applied (tree.name x) f es q = cc
applied (tree.element g ds) f es q = sym (ap value_of q)
applied (tree.paren e) f es q = cc
applied (tree.unary op e) f es q = cc
applied (tree.binary op c d) f es q = cc
applied (tree.chars c) f es q = cc

-- what an assignment becomes, how many hidden statements are up to its end, and what is counted
pub record Becomes (m : Meant) (h n : ℕ) (v e : ExprTree) (w : WhatTree) (k : ℕ) (ns : List ℕ) : Type 0 where
  pub what : w ≡ assigned m h v e
  pub hidden : k ≡ hidden_by m h n (tree.assign v e)
  pub values : ns ≡ values_by m n (tree.assign v e)

pub as_written : (m : Meant) (h n : ℕ) (v e : ExprTree) → is_value m e ≡ false → Becomes m h n v e (tree.assign v e) h []
as_written m h n v (tree.int i) q = record { what = refl; hidden = refl; values = refl }
as_written m h n v (tree.log c) q = record { what = refl; hidden = refl; values = refl }
as_written m h n v (tree.name x) q = record { what = refl; hidden = refl; values = refl }
as_written m h n v (tree.element f es) q = record { what = rw q refl; hidden = rw q refl; values = rw q refl }
as_written m h n v (tree.paren e) q = record { what = refl; hidden = refl; values = refl }
as_written m h n v (tree.unary op e) q = record { what = refl; hidden = refl; values = refl }
as_written m h n v (tree.binary op c d) q = record { what = refl; hidden = refl; values = refl }
as_written m h n v (tree.chars c) q = record { what = refl; hidden = refl; values = refl }

pub as_value : (m : Meant) (h n : ℕ) (v : ExprTree) (f : List ℕ) (es : ExprTrees) → m.is_function f ≡ true
    → Becomes m h n v (tree.element f es) (value_block m h v f es) (3 + h) (n ∷ [])
as_value m h n v f es q = record { what = rw q refl; hidden = rw q refl; values = rw q refl }

-- without a name with arguments on the right side, and with one that is no function, it stays
pub plain_assigned : (m : Meant) (h n : ℕ) (v e : ExprTree) → None ≡ application_in e → Becomes m h n v e (tree.assign v e) h []
plain_assigned m h n v e q = as_written m h n v e (no_application m e q)

pub array_assigned : (m : Meant) (h n : ℕ) (v e : ExprTree) (f : List ℕ) (es : ExprTrees) → Some (application f es) ≡ application_in e → m.is_function f ≡ false
    → Becomes m h n v e (tree.assign v e) h []
array_assigned m h n v e f es q r = as_written m h n v e (ap (is_value m) (applied e f es q) ∙ r)

pub value_assigned : (m : Meant) (h n : ℕ) (v e : ExprTree) (f : List ℕ) (es : ExprTrees) → Some (application f es) ≡ application_in e → m.is_function f ≡ true
    → Becomes m h n v e (value_block m h v f es) (3 + h) (n ∷ [])
value_assigned m h n v e f es q r = subst (λ x. Becomes m h n v x (value_block m h v f es) (3 + h) (n ∷ [])) (sym (applied e f es q)) (as_value m h n v f es r)

pub ruleset assignments = (append-nil, plain_assigned, array_assigned, value_assigned)

-- ---- lists

-- trees before others
abbrev pub onto : List StmtTree → StmtTrees → StmtTrees
onto [] rest = rest
onto (s ∷ ss) rest = more_stmts s (onto ss rest)

pub onto-last : (ss : List StmtTree) (s : StmtTree) (rest : StmtTrees) → onto (ss ++ s ∷ []) rest ≡ onto ss (more_stmts s rest)
onto-last [] s rest = refl
onto-last (x ∷ ss) s rest = ap (more_stmts x) (onto-last ss s rest)

pub onto-none : (ss : List StmtTree) → onto ss no_stmts ≡ stmts_of ss
onto-none [] = refl
onto-none (s ∷ ss) = ap (more_stmts s) (onto-none ss)

abbrev pub arms_onto : List ArmTree → ArmTrees → ArmTrees
arms_onto [] rest = rest
arms_onto (a ∷ as') rest = more_arms a (arms_onto as' rest)

pub arms_onto-last : (as' : List ArmTree) (a : ArmTree) (rest : ArmTrees) → arms_onto (as' ++ a ∷ []) rest ≡ arms_onto as' (more_arms a rest)
arms_onto-last [] a rest = refl
arms_onto-last (x ∷ as') a rest = ap (more_arms x) (arms_onto-last as' a rest)

pub arms_onto-none : (as' : List ArmTree) → arms_onto as' no_arms ≡ arms_of as'
arms_onto-none [] = refl
arms_onto-none (a ∷ as') = ap (more_arms a) (arms_onto-none as')

-- ---- for functions that go through statements

pub ruleset what_calls = (plain.copy_cases, plain.what_calls, append-nil, append_assoc)

pub ruleset loop_calls = (plain.loop_calls, plain.made_structs, append-nil, append_assoc)

pub ruleset list_calls = (plain.list_calls, map-append, onto-last, onto-none, append-nil, append_assoc)

pub ruleset arm_calls = (plain.copy_cases, plain.arm_calls, arms_onto-last, arms_onto-none, append-nil, append_assoc)

-- the last of the loops
pub list_made : (ss : List Stmt) (made : List StmtTree) (i : ℕ) (m : Meant) (h : ℕ) (all : StmtTrees) → length ss ≤ i
    → onto made (elaborated_in m h (stmt_trees (drop i ss))) ≡ all → stmts_of made ≡ all
list_made ss made i m h all e q = sym (onto-none made) ∙ (ap (λ xs. onto made (elaborated_in m h (stmt_trees xs))) (sym (drop_all i ss e)) ∙ q)

pub arms_made : (as' : List Arm) (made : List ArmTree) (i : ℕ) (m : Meant) (h : ℕ) (all : ArmTrees) → length as' ≤ i
    → arms_onto made (elaborated_arms m h (arm_trees (drop i as'))) ≡ all → arms_of made ≡ all
arms_made as' made i m h all e q = sym (arms_onto-none made) ∙ (ap (λ xs. arms_onto made (elaborated_arms m h (arm_trees xs))) (sym (drop_all i as' e)) ∙ q)

-- ---- modules

pub elaborated-walked : (m : ModuleTree) (k : Meant) (body : StmtTrees) (ns : List ℕ) → k ≡ meant_in m → body ≡ elaborated_in k 0 m.body → ns ≡ values_in k m.body
    → record m { body = body; references = ns } ≡ elaborated m
unfolding elaborated
elaborated-walked m k body ns e p q = rw (p, q, e) refl
