-- The runs of a straight main program alone are those of the straight program.
use Rattle.std.proofs.Common.{◌≡◌, ℕ, suc, ℤ, Bool, true, false, List, Option, Some, None, refl, sym, subst}
use Rattle.std.specs.Prelude.{if◌then◌else◌, nat_eq, ◌&&◌}
use Rattle.std.proofs.lemmas.Bool.{and_parts, and_from}
use Rattle.f77_ast.specs.Trees.{ExprTree, ExprTrees, StmtTree, StmtTrees, WhatTree}
use Rattle.f77_ast.specs.Trees as tree
use Rattle.f77_ast.specs.Store.{Tag, Int, Content, content, same_tag}
use Rattle.f77_ast.specs.Steps.{Done, ◌>>=◌}
use Rattle.f77_ast.specs.Numbers.{unary_tag, unary_number, binary_tag, binary_number}
use Rattle.f77_ast.specs.Places.{Meant, Variable, Function, Names, Places, scalar_place}
use Rattle.f77_ast.specs.Faults.{Unset}
use Rattle.f77_ast.specs.Values.{fault, given, of_type, read_unit, name_value, value, name_target, shown, all_shown}
use Rattle.f77_ast.specs.Writes.{no_locks, write, assigned}
use Rattle.f77_ast.specs.Calls.{Meaning}
use Rattle.f77_ast.specs.Statements.{Scope, execution, parts, body_plan}
use Rattle.f77_ast.specs.Straight.{is_straight_what, is_straight_stmt, are_straight_from, is_straight_expr, is_straight_term, are_straight_exprs, is_integer_variable, is_number, is_product, is_sum, is_sign, straight_places}
use Rattle.f77_meaning.proofs.Alike.{Like, like_done, like_breaks, like_look, like_set, Alike, alike_ends, alike_show, alike_within, like_then, alike_first, Parts, no_parts, more_parts, lists_alike}

-- ---- what has no element

-- numbers, names, and operators on them
abbrev is_plain : ExprTree → Bool
is_plain (tree.int n) = true
is_plain (tree.log b) = false
is_plain (tree.name x) = true
is_plain (tree.element x es) = false
is_plain (tree.paren e) = false
is_plain (tree.unary o e) = is_plain e
is_plain (tree.binary o a b) = is_plain a && is_plain b
is_plain (tree.chars x) = false

number_plain : (e : ExprTree) → is_number e ≡ true → is_plain e ≡ true
number_plain (tree.int n) h = refl
number_plain (tree.log b) h = cc
number_plain (tree.name x) h = cc
number_plain (tree.element x es) h = cc
number_plain (tree.paren e) h = cc
number_plain (tree.unary o e) h = cc
number_plain (tree.binary o a b) h = cc
number_plain (tree.chars x) h = cc

variable_plain : (e : ExprTree) → is_integer_variable e ≡ true → is_plain e ≡ true
variable_plain (tree.int n) h = cc
variable_plain (tree.log b) h = cc
variable_plain (tree.name x) h = refl
variable_plain (tree.element x es) h = cc
variable_plain (tree.paren e) h = cc
variable_plain (tree.unary o e) h = cc
variable_plain (tree.binary o a b) h = cc
variable_plain (tree.chars x) h = cc

term_plain : (e : ExprTree) → is_straight_term e ≡ true → is_plain e ≡ true
term_plain (tree.int n) h = refl
term_plain (tree.log b) h = cc
term_plain (tree.name x) h = refl
term_plain (tree.element x es) h = cc
term_plain (tree.paren e) h = cc
term_plain (tree.unary o e) h = cc
term_plain (tree.binary o a b) h =
    let p = and_parts (is_product o) (is_number a && is_integer_variable b) h in
    let q = and_parts (is_number a) (is_integer_variable b) p.1 in
    and_from (is_plain a) (is_plain b) (number_plain a q.0) (variable_plain b q.1)
term_plain (tree.chars x) h = cc

expr_plain : (e : ExprTree) → is_straight_expr e ≡ true → is_plain e ≡ true
expr_plain (tree.int n) h = refl
expr_plain (tree.log b) h = cc
expr_plain (tree.name x) h = refl
expr_plain (tree.element x es) h = cc
expr_plain (tree.paren e) h = cc
expr_plain (tree.unary o e) h = let p = and_parts (is_sign o) (is_straight_term e) h in term_plain e p.1
expr_plain (tree.binary o a b) h = go (is_sum o) h (expr_plain a)
  where
    go : (s : Bool) → (if s then is_straight_expr a && is_straight_term b else is_straight_term (tree.binary o a b)) ≡ true → (is_straight_expr a ≡ true → is_plain a ≡ true) → (is_plain a && is_plain b) ≡ true
    go true e ih = let p = and_parts (is_straight_expr a) (is_straight_term b) e in and_from (is_plain a) (is_plain b) (ih p.0) (term_plain b p.1)
    go false e ih = term_plain (tree.binary o a b) e
expr_plain (tree.chars x) h = cc

-- ---- statements, by what the names stand for

-- the same name stands for the same variable, which has its unit
pub data Alias (D : ℕ → Bool) : Meant → Meant → Type 0 where
  alias_function : Alias D Function Function
  alias_variable : {v : ℕ} → D v ≡ true → Alias D (Variable v) (Variable v)

module _ (f : ℕ → ℕ) (D : ℕ → Bool) (at' : Places) (placed : (v : ℕ) → D v ≡ true → at' v ≡ scalar_place (f v) Int) where
  tag_like : (c : Content) → Like f D (of_type Int c) (of_type Int c)
  tag_like c = go (same_tag Int c.tag)
    where
      go : (b : Bool) → Like f D (if b then Done c else fault Unset) (if b then Done c else fault Unset)
      go true = like_done
      go false = like_breaks

  given_like : (t : Tag) (o : Option ℤ) → Like f D (given t o) (given t o)
  given_like t None = like_breaks
  given_like t (Some n) = like_done

  name_like : {m m' : Meant} → Alias D m m' → Like f D (name_value m straight_places) (name_value m' at')
  name_like alias_function = like_breaks
  name_like (alias_variable {v = v} d) = subst (λ p. Like f D (read_unit Int v) (read_unit p.tag p.first)) (sym (placed v d)) (like_look tag_like)

  stored_like : (n : ℤ) {m m' : Meant} → Alias D m m' → Like f D (name_target m straight_places >>= λ t. write no_locks t.unit (content t.tag n)) (name_target m' at' >>= λ t. write no_locks t.unit (content t.tag n))
  stored_like n alias_function = like_breaks
  stored_like n (alias_variable {v = v} d) = subst (λ p. Like f D (write no_locks v (content Int n)) (write no_locks p.first (content p.tag n))) (sym (placed v d)) (like_set d like_done)

  module _ (w w' : Names) (named : (x : List ℕ) → Alias D (w x) (w' x)) where
    value_like : (e : ExprTree) → is_plain e ≡ true → Like f D (value e w straight_places) (value e w' at')
    value_like (tree.int n) h = like_done
    value_like (tree.log b) h = cc
    value_like (tree.name x) h = name_like (named x)
    value_like (tree.element x es) h = cc
    value_like (tree.paren e) h = cc
    value_like (tree.unary o e) h = like_then (value_like e h) (λ c. given_like (unary_tag o) (unary_number o c.number))
    value_like (tree.binary o a b) h =
        let p = and_parts (is_plain a) (is_plain b) h in
        like_then (value_like a p.0) (λ c. like_then (value_like b p.1) (λ d. given_like (binary_tag o) (binary_number o c.number d.number)))
    value_like (tree.chars x) h = cc

    shown_like : (e : ExprTree) → is_plain e ≡ true → Like f D (shown e w straight_places) (shown e w' at')
    shown_like (tree.int n) h = like_done
    shown_like (tree.log b) h = cc
    shown_like (tree.name x) h = like_then (value_like (tree.name x) h) (λ c. like_done)
    shown_like (tree.element x es) h = cc
    shown_like (tree.paren e) h = cc
    shown_like (tree.unary o e) h = like_then (value_like (tree.unary o e) h) (λ c. like_done)
    shown_like (tree.binary o a b) h = like_then (value_like (tree.binary o a b) h) (λ c. like_done)
    shown_like (tree.chars x) h = cc

    all_shown_like : (es : ExprTrees) → are_straight_exprs es ≡ true → Like f D (all_shown es w straight_places) (all_shown es w' at')
    all_shown_like tree.no_exprs h = like_done
    all_shown_like (tree.more_exprs e es) h =
        let p = and_parts (is_straight_expr e) (are_straight_exprs es) h in
        like_then (shown_like e (expr_plain e p.0)) (λ x. like_then (all_shown_like es p.1) (λ xs. like_done))

    assigned_like : (left right : ExprTree) → is_integer_variable left ≡ true → is_straight_expr right ≡ true → Like f D (assigned left right w straight_places no_locks) (assigned left right w' at' no_locks)
    assigned_like (tree.int n) right h i = cc
    assigned_like (tree.log b) right h i = cc
    assigned_like (tree.name x) right h i = like_then (value_like right (expr_plain right i)) (λ c. stored_like c.number (named x))
    assigned_like (tree.element x es) right h i = cc
    assigned_like (tree.paren e) right h i = cc
    assigned_like (tree.unary o e) right h i = cc
    assigned_like (tree.binary o a b) right h i = cc
    assigned_like (tree.chars x) right h i = cc

    module _ (m : List ℕ) (turns : ℕ) (own own' : ℕ → ℕ → ℕ) (callee callee' : List ℕ → Meaning) where
      abbrev sc : Scope
      sc = record { module_name = m; names = w; turns = turns; own_unit = own; callee = callee }

      abbrev sc' : Scope
      sc' = record { module_name = m; names = w'; turns = turns; own_unit = own'; callee = callee' }

      what_alike : (a : WhatTree) (n : ℕ) → is_straight_what a ≡ true → Alike f D straight_places at' (execution a n sc straight_places no_locks) (execution a n sc' at' no_locks)
      what_alike (tree.assign left right) n h =
          let p = and_parts (is_integer_variable left) (is_straight_expr right) h in
          alike_first (assigned_like left right p.0 p.1) (λ o. alike_ends)
      what_alike (tree.print es) n h = alike_first (all_shown_like es h) (λ xs. alike_show alike_ends)
      what_alike tree.continue n h = alike_ends
      what_alike (tree.block_if arms rest) n h = cc
      what_alike (tree.logical_if e s) n h = cc
      what_alike (tree.do_loop l) n h = cc
      what_alike (tree.call x es) n h = cc
      what_alike (tree.goto l) n h = cc
      what_alike tree.return n h = cc
      what_alike (tree.stop text) n h = cc
      what_alike (tree.read es) n h = cc

      parts_alike : (n : ℕ) (ss : StmtTrees) → are_straight_from n ss ≡ true → Parts f D straight_places at' (parts ss sc straight_places no_locks) (parts ss sc' at' no_locks)
      parts_alike n tree.no_stmts h = no_parts
      parts_alike n (tree.more_stmts (tree.stmt id label a) ss) h =
          let p = and_parts (is_straight_stmt n (tree.stmt id label a)) (are_straight_from (suc n) ss) h in
          let q = and_parts (nat_eq id n) (is_straight_what a) p.0 in
          more_parts (alike_within (what_alike a id q.1) (λ g. alike_ends)) (parts_alike (suc n) ss p.1)

      pub body_alike : (ss : StmtTrees) → are_straight_from 1 ss ≡ true → Alike f D straight_places at' (body_plan ss sc straight_places no_locks) (body_plan ss sc' at' no_locks)
      body_alike ss h = lists_alike turns (parts_alike 1 ss h)
