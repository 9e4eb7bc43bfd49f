-- The types and shapes of expressions are judged the same, whatever the lines.
use Rattle.std.proofs.Common.{◌≡◌, ℕ, Bool, true, false, List, Option, Some, None, refl, ap, subst}
use Rattle.std.specs.Prelude.{not}
use Rattle.f77_ast.specs.Trees.{ExprTree, ExprTrees}
use Rattle.f77_ast.specs.Trees as tree
use Rattle.f77_ast.specs.Constants.{turns_logical, joins_logical}
use Rattle.fx_lists.specs.declared.refusal.Refusal.{Refusal}
use Rattle.f77_names.specs.declared.functions.Function.{Function}
use Rattle.f77_names.specs.Functions.{function_of}
use Rattle.f77_names.specs.Kinds.{kind_of_name}
use Rattle.f77_names.specs.Entries.{ShapeTree}
use Rattle.f77_names.specs.Tables.{NameTable, entry_kind, kind_in}
use Rattle.f77_checks.specs.declared.sort.Sort.{Sort}
use Rattle.f77_checks.specs.Expressions.{sort_of_kind, sort_or, sort_of, is_int, is_log, count, check_bare, check_name, dimensions, dimensions_of, check_call, check_count, wants_int, wants_log, wants, check_expr, check_subscripts, check_int, check_log}
use Rattle.roundtrip_programs.proofs.Found.{SameFound, noted_same}
use Rattle.roundtrip_programs.proofs.Bare.{bare_shape, bare_table, asked, shape_bare}

-- ---- types

pub kind_bare : (t : NameTable) (x : List ℕ) → kind_in t x ≡ kind_in (bare_table t) x
unfolding kind_in entry_kind
kind_bare t x = asked (kind_of_name t.kinds x) (entry_kind t.kinds) (entry_kind t.kinds) (λ e. refl) x t.entries

pub sort_bare : (t : NameTable) (e : ExprTree) → sort_of t e ≡ sort_of (bare_table t) e
sort_bare t (tree.int n) = refl
sort_bare t (tree.log b) = refl
sort_bare t (tree.name x) = ap (λ k. sort_or (sort_of_kind k) (function_of t.arrays x)) (kind_bare t x)
sort_bare t (tree.element x es) = ap (λ k. sort_or (sort_of_kind k) (function_of t.arrays x)) (kind_bare t x)
sort_bare t (tree.paren e) = sort_bare t e
sort_bare t (tree.unary o e) = refl
sort_bare t (tree.binary o a b) = refl
sort_bare t (tree.chars x) = refl

-- ---- expressions

pub wants_int_same : (r s : Sort) (l m : ℕ) → r ≡ s → {f g : Option Refusal} → SameFound f g → SameFound (wants_int r l f) (wants_int s m g)
wants_int_same r s l m e h = noted_same _ _ _ _ _ _ (ap (λ k. not (is_int k)) e) h

pub wants_log_same : (r s : Sort) (l m : ℕ) → r ≡ s → {f g : Option Refusal} → SameFound f g → SameFound (wants_log r l f) (wants_log s m g)
wants_log_same r s l m e h = noted_same _ _ _ _ _ _ (ap (λ k. not (is_log k)) e) h

wants_same : (logical : Bool) (r s : Sort) (l m : ℕ) → r ≡ s → {f g : Option Refusal} → SameFound f g → SameFound (wants logical r l f) (wants logical s m g)
wants_same true r s l m e h = wants_log_same r s l m e h
wants_same false r s l m e h = wants_int_same r s l m e h

bare_same : (o : Option Function) (b c : Bool) (l m : ℕ) → b ≡ c → {f g : Option Refusal} → SameFound f g → SameFound (check_bare o b l f) (check_bare o c m g)
bare_same None b c l m e h = noted_same _ _ _ _ _ _ e h
bare_same (Some o) b c l m e h = noted_same _ _ _ _ _ _ refl h

pub name_same : (t : NameTable) (x : List ℕ) (l m : ℕ) {f g : Option Refusal} → SameFound f g → SameFound (check_name t x l f) (check_name (bare_table t) x m g)
name_same t x l m h = bare_same (function_of t.arrays x) _ _ l m (shape_bare x t.entries) h

dimensions_same : (s : Option ShapeTree) → dimensions s ≡ dimensions (bare_shape s)
dimensions_same None = refl
dimensions_same (Some s) = refl

dimensions_bare : (t : NameTable) (x : List ℕ) → dimensions_of t x ≡ dimensions_of (bare_table t) x
dimensions_bare t x = asked None (λ e. dimensions e.shape) (λ e. dimensions e.shape) (λ e. dimensions_same e.shape) x t.entries

call_same : (o : Option Function) (n l m : ℕ) {f g : Option Refusal} → SameFound f g → SameFound (check_call o n l f) (check_call o n m g)
call_same None n l m h = noted_same _ _ _ _ _ _ refl h
call_same (Some o) n l m h = noted_same _ _ _ _ _ _ refl h

counted_same : (d : Option ℕ) (o : Option Function) (n l m : ℕ) {f g : Option Refusal} → SameFound f g → SameFound (check_count d o n l f) (check_count d o n m g)
counted_same None o n l m h = call_same o n l m h
counted_same (Some k) o n l m h = noted_same _ _ _ _ _ _ refl h

mutual
  pub expr_same : (t : NameTable) (e : ExprTree) (l m : ℕ) {f g : Option Refusal} → SameFound f g → SameFound (check_expr t e l f) (check_expr (bare_table t) e m g)
  expr_same t (tree.int n) l m h = h
  expr_same t (tree.log b) l m h = h
  expr_same t (tree.name x) l m h = name_same t x l m h
  expr_same t (tree.element x es) l m {f} {g} h =
      subst (λ d. SameFound (check_count (dimensions_of t x) (function_of t.arrays x) (count es) l (check_subscripts t es l f)) (check_count d (function_of t.arrays x) (count es) m (check_subscripts (bare_table t) es m g)))
      (dimensions_bare t x) (counted_same (dimensions_of t x) (function_of t.arrays x) (count es) l m (subscripts_same t es l m h))
  expr_same t (tree.paren e) l m h = expr_same t e l m h
  expr_same t (tree.unary o e) l m h = wants_same (turns_logical o) _ _ l m (sort_bare t e) (expr_same t e l m h)
  expr_same t (tree.binary o a b) l m h =
      wants_same (joins_logical o) _ _ l m (sort_bare t b) (expr_same t b l m (wants_same (joins_logical o) _ _ l m (sort_bare t a) (expr_same t a l m h)))
  expr_same t (tree.chars x) l m h = h

  pub subscripts_same : (t : NameTable) (es : ExprTrees) (l m : ℕ) {f g : Option Refusal} → SameFound f g → SameFound (check_subscripts t es l f) (check_subscripts (bare_table t) es m g)
  subscripts_same t tree.no_exprs l m h = h
  subscripts_same t (tree.more_exprs e es) l m h = subscripts_same t es l m (wants_int_same _ _ l m (sort_bare t e) (expr_same t e l m h))

pub int_same : (t : NameTable) (e : ExprTree) (l m : ℕ) {f g : Option Refusal} → SameFound f g → SameFound (check_int t e l f) (check_int (bare_table t) e m g)
int_same t e l m h = wants_int_same _ _ l m (sort_bare t e) (expr_same t e l m h)

pub log_same : (t : NameTable) (e : ExprTree) (l m : ℕ) {f g : Option Refusal} → SameFound f g → SameFound (check_log t e l f) (check_log (bare_table t) e m g)
log_same t e l m h = wants_log_same _ _ l m (sort_bare t e) (expr_same t e l m h)
