-- What is not refused at one line is not refused at another.
use Rattle.std.proofs.Common.{◌≡◌, ℕ, Bool, true, false, List, Option, Some, None, refl}
use Rattle.std.specs.Prelude.{not, nat_eq}
use Rattle.f77_ast.specs.Trees.{ExprTree, ExprTrees}
use Rattle.f77_ast.specs.Trees as tree
use Rattle.f77_ast.specs.Constants.{turns_logical, joins_logical}
use Rattle.fx_lists.specs.declared.code.Code.{Code}
use Rattle.fx_lists.specs.declared.code.Code.TheVariants.{SubscriptCount, TypeMismatch, NotAnArray}
use Rattle.fx_lists.specs.declared.refusal.Refusal.{Refusal}
use Rattle.f77_names.specs.declared.functions.Function.{Function}
use Rattle.fx_lists.specs.Refusals.{refuse_if}
use Rattle.f77_names.specs.Functions.{function_of, takes}
use Rattle.f77_names.specs.Entries.{has_shape}
use Rattle.f77_names.specs.Tables.{NameTable}
use Rattle.f77_checks.specs.declared.sort.Sort.{Sort}
use Rattle.f77_checks.specs.Expressions.{sort_of, is_int, is_log, count, check_bare, dimensions_of, check_call, check_count, wants_int, wants, check_expr, check_subscripts}
use Rattle.storage_data.specs.Items.{element_fault, item_fault}
use Rattle.laws_programs.proofs.SymbolTables.StatementRefusals.{noted_back, counted_back, wants_back, int_back, expr_back, subscripts_back}

noted_other : (b : Bool) (m n : ℕ) (c : Code) (o q : Option Refusal) → refuse_if b m c o ≡ None → q ≡ None → refuse_if b n c q ≡ None
unfolding refuse_if
noted_other true m n c o q e h = cc
noted_other false m n c o q e h = h

bare_other : (f : Option Function) (b : Bool) (m n : ℕ) (o q : Option Refusal) → check_bare f b m o ≡ None → q ≡ None → check_bare f b n q ≡ None
bare_other None b m n o q e h = noted_other b m n NotAnArray o q e h
bare_other (Some f) b m n o q e h = noted_other true m n SubscriptCount o q e h

call_other : (f : Option Function) (k m n : ℕ) (o q : Option Refusal) → check_call f k m o ≡ None → q ≡ None → check_call f k n q ≡ None
call_other None k m n o q e h = noted_other true m n NotAnArray o q e h
call_other (Some f) k m n o q e h = noted_other (not (takes f k)) m n SubscriptCount o q e h

counted_other : (d : Option ℕ) (f : Option Function) (k m n : ℕ) (o q : Option Refusal) → check_count d f k m o ≡ None → q ≡ None → check_count d f k n q ≡ None
counted_other None f k m n o q e h = call_other f k m n o q e h
counted_other (Some d) f k m n o q e h = noted_other (not (nat_eq k d)) m n SubscriptCount o q e h

wants_other : (b : Bool) (s : Sort) (m n : ℕ) (o q : Option Refusal) → wants b s m o ≡ None → q ≡ None → wants b s n q ≡ None
wants_other true s m n o q e h = noted_other (not (is_log s)) m n TypeMismatch o q e h
wants_other false s m n o q e h = noted_other (not (is_int s)) m n TypeMismatch o q e h

mutual
  expr_other : (t : NameTable) (x : ExprTree) (m n : ℕ) (o q : Option Refusal) → check_expr t x m o ≡ None → q ≡ None → check_expr t x n q ≡ None
  expr_other t (tree.int k) m n o q e h = h
  expr_other t (tree.log b) m n o q e h = h
  expr_other t (tree.name x) m n o q e h = bare_other (function_of t.arrays x) (has_shape x t.entries) m n o q e h
  expr_other t (tree.element x es) m n o q e h =
      counted_other (dimensions_of t x) (function_of t.arrays x) (count es) m n (check_subscripts t es m o) (check_subscripts t es n q) e
      (subscripts_other t es m n o q (counted_back (dimensions_of t x) (function_of t.arrays x) (count es) m (check_subscripts t es m o) e) h)
  expr_other t (tree.paren x) m n o q e h = expr_other t x m n o q e h
  expr_other t (tree.unary u x) m n o q e h =
      wants_other (turns_logical u) (sort_of t x) m n (check_expr t x m o) (check_expr t x n q) e (expr_other t x m n o q (wants_back (turns_logical u) (sort_of t x) m (check_expr t x m o) e) h)
  expr_other t (tree.binary u a b) m n o q e h =
      let left = wants (joins_logical u) (sort_of t a) m (check_expr t a m o) in
      let right = wants (joins_logical u) (sort_of t a) n (check_expr t a n q) in
      let both = wants_back (joins_logical u) (sort_of t b) m (check_expr t b m left) e in
      let first = expr_back t b m left both in
      let a_quiet = wants_back (joins_logical u) (sort_of t a) m (check_expr t a m o) first in
      wants_other (joins_logical u) (sort_of t b) m n (check_expr t b m left) (check_expr t b n right) e
      (expr_other t b m n left right both (wants_other (joins_logical u) (sort_of t a) m n (check_expr t a m o) (check_expr t a n q) first (expr_other t a m n o q a_quiet h)))
  expr_other t (tree.chars x) m n o q e h = h

  subscripts_other : (t : NameTable) (es : ExprTrees) (m n : ℕ) (o q : Option Refusal) → check_subscripts t es m o ≡ None → q ≡ None → check_subscripts t es n q ≡ None
  subscripts_other t tree.no_exprs m n o q e h = h
  subscripts_other t (tree.more_exprs x es) m n o q e h =
      let left = wants_int (sort_of t x) m (check_expr t x m o) in
      let right = wants_int (sort_of t x) n (check_expr t x n q) in
      let quiet = subscripts_back t es m left e in
      subscripts_other t es m n left right e (noted_other (not (is_int (sort_of t x))) m n TypeMismatch (check_expr t x m o) (check_expr t x n q) quiet (expr_other t x m n o q (int_back (sort_of t x) m (check_expr t x m o) quiet) h))

element_other : (b : Bool) (t : NameTable) (x : List ℕ) (es : ExprTrees) (m n : ℕ) → element_fault b t x es m ≡ None → element_fault b t x es n ≡ None
element_other true t x es m n e = expr_other t (tree.element x es) m n None None e refl
element_other false t x es m n e = noted_other true m n NotAnArray (check_subscripts t es m None) (check_subscripts t es n None) e (subscripts_other t es m n None None (noted_back true m NotAnArray (check_subscripts t es m None) e) refl)

pub item_other : (t : NameTable) (i : ExprTree) (m n : ℕ) → item_fault t i m ≡ None → item_fault t i n ≡ None
item_other t (tree.element x es) m n e = element_other (has_shape x t.entries) t x es m n e
item_other t (tree.name x) m n e = refl
item_other t (tree.int k) m n e = refl
item_other t (tree.log b) m n e = refl
item_other t (tree.paren x) m n e = refl
item_other t (tree.unary o x) m n e = refl
item_other t (tree.binary o a b) m n e = refl
item_other t (tree.chars x) m n e = refl
