-- Modules in which no statement stands for another are as they are written.
use Rattle.std.proofs.Common.{◌≡◌, ◌∙◌, ℕ, ◌+◌, Bool, true, false, List, [], ◌∷◌, ◌++◌, Option, refl, sym, ap, append-nil}
use Rattle.std.specs.Prelude.{not, if◌then◌else◌}
use Rattle.f77_ast.specs.Trees.{ExprTree, StmtTree, stmt, WhatTree, ArmTrees, ElseTree, LoopTree, StmtTrees, more_stmts}
use Rattle.f77_ast.specs.Trees as tree
use Rattle.f77_ast.specs.DeclTrees.{ModuleTree}
use Rattle.f77_ast.specs.Shapes.{IsLeaf}
use Rattle.f77_ast.proofs.WalkLaws.{shape_calls}
use Rattle.f77_structure.specs.Lists.{is_none_of}
use Rattle.f77_names.specs.Kinds.{kinds_of}
use Rattle.f77_parser.specs.Functions.{is_external, bounded_names, integer_names, logical_names}
use Rattle.f77_parser.specs.Elaborated.{Meant, meant_by, is_value, assigned, hidden_to, hidden_by, hidden_loop, hidden_arms, hidden_else, hidden_in, elaborated_stmt, elaborated_what, elaborated_loop, elaborated_arms, elaborated_else, elaborated_in, values_of, values_by, values_loop, values_arms, values_else, values_in, elaborated}
use Rattle.f77_parser.specs.Known.{meant_without}
use Rattle.f77_parser.specs.References.{is_reference, assigned_in, application_in}

-- ---- lists with nothing in them

pub none_of-first : {A : Type 0} (xs ys : List A) → is_none_of xs ≡ false → is_none_of (xs ++ ys) ≡ false
none_of-first [] ys e = cc
none_of-first (x ∷ xs) ys e = refl

pub none_of-rest : {A : Type 0} (xs ys : List A) → is_none_of xs ≡ true → is_none_of (xs ++ ys) ≡ is_none_of ys
none_of-rest [] ys e = refl
none_of-rest (x ∷ xs) ys e = cc

pub none_of-parts : {A : Type 0} (xs ys : List A) → is_none_of (xs ++ ys) ≡ true → (is_none_of xs ≡ true) × (is_none_of ys ≡ true)
none_of-parts [] ys e = (refl, e)
none_of-parts (x ∷ xs) ys e = cc

-- ---- one statement

one_value : (c : Bool) (n : ℕ) → is_none_of (if c then n ∷ [] else []) ≡ not c
one_value true n = refl
one_value false n = refl

assigned_value : (b : List (List ℕ)) (n : ℕ) (e : ExprTree) → is_none_of (if is_value (meant_without b) e then n ∷ [] else []) ≡ not (is_reference b (application_in e))
assigned_value b n (tree.int i) = refl
assigned_value b n (tree.log c) = refl
assigned_value b n (tree.name x) = refl
assigned_value b n (tree.element f es) = one_value (is_external b f) n
assigned_value b n (tree.paren e) = refl
assigned_value b n (tree.unary op e) = refl
assigned_value b n (tree.binary op c d) = refl
assigned_value b n (tree.chars c) = refl

pub leaf_value : (b : List (List ℕ)) (n : ℕ) (label : Option ℕ) (w : WhatTree) → IsLeaf w → is_none_of (values_of (meant_without b) (stmt n label w)) ≡ not (is_reference b (assigned_in w))
leaf_value b n label (tree.assign v e) h = assigned_value b n e
leaf_value b n label (tree.block_if arms other) h = cc
leaf_value b n label (tree.logical_if test s) h = cc
leaf_value b n label (tree.do_loop l) h = cc
leaf_value b n label (tree.call x es) h = refl
leaf_value b n label (tree.goto l) h = refl
leaf_value b n label tree.continue h = refl
leaf_value b n label tree.return h = refl
leaf_value b n label (tree.stop text) h = refl
leaf_value b n label (tree.print es) h = refl
leaf_value b n label (tree.read es) h = refl

pub ruleset value_calls = (shape_calls, leaf_value, none_of-first, none_of-rest, append-nil)

-- ---- statements without the value of a function, in a module without a DO WHILE

-- a statement as it is written, where so many hidden statements are before, and behind it as well
pub record IsPlain {A : Type 0} (made written : A) (behind before : ℕ) (ns : List ℕ) : Type 0 where
  pub same : made ≡ written
  pub hidden : behind ≡ before
  pub values : ns ≡ []

module _ (b : List (List ℕ)) (m : Meant) (functions : (f : List ℕ) → m.is_function f ≡ is_external b f) (none : (n : ℕ) → m.is_while n ≡ false) where
  plain_value : (h n : ℕ) (v : ExprTree) (f : List ℕ) (es : _) (c : Bool) → m.is_function f ≡ c → is_none_of (if c then n ∷ [] else []) ≡ true
      → IsPlain (assigned m h v (tree.element f es)) (tree.assign v (tree.element f es)) (if m.is_function f then 3 + h else h) h (if m.is_function f then n ∷ [] else [])
  plain_value h n v f es true e q = cc
  plain_value h n v f es false e q = rw e (record { same = refl; hidden = refl; values = refl })

  plain_assign : (h n : ℕ) (v e : ExprTree) → is_none_of (values_by (meant_without b) n (tree.assign v e)) ≡ true
      → IsPlain (elaborated_what m h n (tree.assign v e)) (tree.assign v e) (hidden_by m h n (tree.assign v e)) h (values_by m n (tree.assign v e))
  plain_assign h n v (tree.int i) q = record { same = refl; hidden = refl; values = refl }
  plain_assign h n v (tree.log c) q = record { same = refl; hidden = refl; values = refl }
  plain_assign h n v (tree.name x) q = record { same = refl; hidden = refl; values = refl }
  plain_assign h n v (tree.element f es) q = plain_value h n v f es (is_external b f) (functions f) q
  plain_assign h n v (tree.paren e) q = record { same = refl; hidden = refl; values = refl }
  plain_assign h n v (tree.unary op e) q = record { same = refl; hidden = refl; values = refl }
  plain_assign h n v (tree.binary op c d) q = record { same = refl; hidden = refl; values = refl }
  plain_assign h n v (tree.chars c) q = record { same = refl; hidden = refl; values = refl }

  mutual
    plain_stmt : (h : ℕ) (s : StmtTree) → is_none_of (values_of (meant_without b) s) ≡ true → IsPlain (elaborated_stmt m h s) s (hidden_to m h s) h (values_of m s)
    plain_stmt h (tree.stmt n label w) q =
        let p = plain_what h n w q in
        record { same = ap (stmt n label) p.same; hidden = p.hidden; values = p.values }

    plain_what : (h n : ℕ) (w : WhatTree) → is_none_of (values_by (meant_without b) n w) ≡ true → IsPlain (elaborated_what m h n w) w (hidden_by m h n w) h (values_by m n w)
    plain_what h n (tree.assign v e) q = plain_assign h n v e q
    plain_what h n (tree.block_if arms other) q =
        let parts = none_of-parts (values_arms (meant_without b) arms) (values_else (meant_without b) other) q in
        let p = plain_arms h arms parts.0 in
        let r = plain_else h other parts.1 in
        rw (none n) (record {
          same = rw (p.same, p.hidden, r.same) refl;
          hidden = rw p.hidden r.hidden;
          values = rw (p.values, r.values) refl;
        })
    plain_what h n (tree.logical_if test s) q =
        let p = plain_stmt h s q in
        record { same = ap (tree.logical_if test) p.same; hidden = p.hidden; values = p.values }
    plain_what h n (tree.do_loop l) q =
        let p = plain_loop h l q in
        record { same = ap tree.do_loop p.same; hidden = p.hidden; values = p.values }
    plain_what h n (tree.call x es) q = record { same = refl; hidden = refl; values = refl }
    plain_what h n (tree.goto l) q = record { same = refl; hidden = refl; values = refl }
    plain_what h n tree.continue q = record { same = refl; hidden = refl; values = refl }
    plain_what h n tree.return q = record { same = refl; hidden = refl; values = refl }
    plain_what h n (tree.stop text) q = record { same = refl; hidden = refl; values = refl }
    plain_what h n (tree.print es) q = record { same = refl; hidden = refl; values = refl }
    plain_what h n (tree.read es) q = record { same = refl; hidden = refl; values = refl }

    plain_loop : (h : ℕ) (l : LoopTree) → is_none_of (values_loop (meant_without b) l) ≡ true → IsPlain (elaborated_loop m h l) l (hidden_loop m h l) h (values_loop m l)
    plain_loop h (tree.loop index first last step body) q =
        let p = plain_list h body q in
        record { same = ap (tree.loop index first last step) p.same; hidden = p.hidden; values = p.values }

    plain_arms : (h : ℕ) (arms : ArmTrees) → is_none_of (values_arms (meant_without b) arms) ≡ true → IsPlain (elaborated_arms m h arms) arms (hidden_arms m h arms) h (values_arms m arms)
    plain_arms h tree.no_arms q = record { same = refl; hidden = refl; values = refl }
    plain_arms h (tree.more_arms (tree.arm test body) others) q =
        let parts = none_of-parts (values_in (meant_without b) body) (values_arms (meant_without b) others) q in
        let p = plain_list h body parts.0 in
        let r = plain_arms h others parts.1 in
        record {
          same = rw (p.same, p.hidden, r.same) refl;
          hidden = rw p.hidden r.hidden;
          values = rw (p.values, r.values) refl;
        }

    plain_else : (h : ℕ) (other : ElseTree) → is_none_of (values_else (meant_without b) other) ≡ true → IsPlain (elaborated_else m h other) other (hidden_else m h other) h (values_else m other)
    plain_else h tree.no_else q = record { same = refl; hidden = refl; values = refl }
    plain_else h (tree.otherwise body) q =
        let p = plain_list h body q in
        record { same = ap tree.otherwise p.same; hidden = p.hidden; values = p.values }

    pub plain_list : (h : ℕ) (list : StmtTrees) → is_none_of (values_in (meant_without b) list) ≡ true → IsPlain (elaborated_in m h list) list (hidden_in m h list) h (values_in m list)
    plain_list h tree.no_stmts q = record { same = refl; hidden = refl; values = refl }
    plain_list h (tree.more_stmts s others) q =
        let parts = none_of-parts (values_of (meant_without b) s) (values_in (meant_without b) others) q in
        let p = plain_stmt h s parts.0 in
        let r = plain_list h others parts.1 in
        record {
          same = rw (p.same, p.hidden, r.same) refl;
          hidden = rw p.hidden r.hidden;
          values = rw (p.values, r.values) refl;
        }

-- ---- modules

pub elaborated-plain : (m : ModuleTree) (bounded : List (List ℕ)) → bounded ≡ bounded_names m.decls → m.whiles ≡ [] → is_none_of (values_in (meant_without bounded) m.body) ≡ true
    → elaborated m ≡ record m { references = [] }
unfolding elaborated
elaborated-plain m bounded e none q =
    let is = kinds_of m.decls in
    let p = plain_list bounded (meant_by bounded (integer_names m.decls) (logical_names m.decls) is []) (λ f. refl) (λ n. refl) 0 m.body q in
    rw (none, sym e, p.same, p.values) refl
