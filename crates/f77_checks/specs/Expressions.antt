-- The types and shapes of expressions (ANSI X3.9-1978 §5.4, §6).
use Rattle.std.specs.Prelude.{ℕ, suc, Bool, true, false, not, nat_eq, List, length, Option, Some, None, if◌then◌else◌}
use Rattle.f77_ast.specs.Trees.{ExprTree, ExprTrees}
use Rattle.f77_ast.specs.Trees as tree
use Rattle.f77_ast.specs.Constants.{turns_logical, joins_logical, gives_logical}
use Rattle.fx_lists.specs.declared.code.Code.TheVariants.{SubscriptCount, TypeMismatch, NotAnArray}
use Rattle.fx_lists.specs.declared.refusal.Refusal.{Refusal}
use Rattle.f77_names.specs.declared.functions.Function.{Function}
use Rattle.f77_names.specs.declared.kinds.Kind.{Kind}
use Rattle.f77_names.specs.declared.kinds.Kind.TheVariants as kind
use Rattle.fx_lists.specs.Refusals.{refuse_if}
use Rattle.f77_names.specs.Functions.{function_of, takes}
use Rattle.f77_names.specs.Entries.{ShapeTree, find, of_entry, has_shape}
use Rattle.f77_names.specs.Tables.{NameTable, kind_in}
use Rattle.f77_checks.specs.declared.sort.Sort.{Sort}
use Rattle.f77_checks.specs.declared.sort.Sort.TheVariants.{Int, Log, Chars, Unknown}

-- ---- types

-- nothing is asked of a name that comes out REAL: it is refused itself
abbrev pub sort_of_kind : Kind → Sort
sort_of_kind kind.Int = Int
sort_of_kind kind.Log = Log
sort_of_kind kind.Real = Unknown

abbrev pub sort_or : Sort → Option Function → Sort
sort_or s None = s
sort_or s (Some f) = Int

-- functions are INTEGER
abbrev pub named_sort : NameTable → List ℕ → Sort
named_sort t x = sort_or (sort_of_kind (kind_in t x)) (function_of t.arrays x)

abbrev pub logical_or_not : Bool → Sort
logical_or_not logical = if logical then Log else Int

abbrev pub sort_of : NameTable → ExprTree → Sort
sort_of t (tree.int n) = Int
sort_of t (tree.log b) = Log
sort_of t (tree.name x) = named_sort t x
sort_of t (tree.element x es) = named_sort t x
sort_of t (tree.paren e) = sort_of t e
sort_of t (tree.unary o e) = logical_or_not (turns_logical o)
sort_of t (tree.binary o a b) = logical_or_not (gives_logical o)
sort_of t (tree.chars x) = Chars

abbrev pub is_int : Sort → Bool
is_int Int = true
is_int Log = false
is_int Chars = false
is_int Unknown = true

abbrev pub is_log : Sort → Bool
is_log Int = false
is_log Log = true
is_log Chars = false
is_log Unknown = true

abbrev pub is_chars : Sort → Bool
is_chars Int = false
is_chars Log = false
is_chars Chars = true
is_chars Unknown = false

-- of one type, as far as it is known
abbrev pub fits : Sort → Sort → Bool
fits Int s = is_int s
fits Log s = is_log s
fits Chars s = false
fits Unknown s = not (is_chars s)

-- ---- expressions

abbrev pub count : ExprTrees → ℕ
count tree.no_exprs = 0
count (tree.more_exprs e es) = suc (count es)

-- a name without subscripts: a function wants its arguments, and an array its subscripts unless it may stand whole
abbrev pub check_bare : Option Function → Bool → ℕ → Option Refusal → Option Refusal
check_bare None array line found = refuse_if array line NotAnArray found
check_bare (Some f) array line found = refuse_if true line SubscriptCount found

abbrev pub check_name : NameTable → List ℕ → ℕ → Option Refusal → Option Refusal
check_name t x line found = check_bare (function_of t.arrays x) (has_shape x t.entries) line found

abbrev pub dimensions : Option ShapeTree → Option ℕ
dimensions None = None
dimensions (Some s) = Some (length s.bounds)

-- how many bounds an array has
abbrev pub dimensions_of : NameTable → List ℕ → Option ℕ
dimensions_of t x = of_entry None (λ e. dimensions e.shape) (find x t.entries)

abbrev pub check_call : Option Function → ℕ → ℕ → Option Refusal → Option Refusal
check_call None n line found = refuse_if true line NotAnArray found
check_call (Some f) n line found = refuse_if (not (takes f n)) line SubscriptCount found

-- so many subscripts or arguments
abbrev pub check_count : Option ℕ → Option Function → ℕ → ℕ → Option Refusal → Option Refusal
check_count None f n line found = check_call f n line found
check_count (Some m) f n line found = refuse_if (not (nat_eq n m)) line SubscriptCount found

abbrev pub wants_int : Sort → ℕ → Option Refusal → Option Refusal
wants_int s line found = refuse_if (not (is_int s)) line TypeMismatch found

abbrev pub wants_log : Sort → ℕ → Option Refusal → Option Refusal
wants_log s line found = refuse_if (not (is_log s)) line TypeMismatch found

abbrev pub wants : Bool → Sort → ℕ → Option Refusal → Option Refusal
wants logical s line found = if logical then wants_log s line found else wants_int s line found

abbrev mutual
  -- the first refusal, also of an expression
  pub check_expr : NameTable → ExprTree → ℕ → Option Refusal → Option Refusal
  check_expr t (tree.int n) line found = found
  check_expr t (tree.log b) line found = found
  check_expr t (tree.name x) line found = check_name t x line found
  check_expr t (tree.element x es) line found =
      check_count (dimensions_of t x) (function_of t.arrays x) (count es) line (check_subscripts t es line found)
  check_expr t (tree.paren e) line found = check_expr t e line found
  check_expr t (tree.unary o e) line found = wants (turns_logical o) (sort_of t e) line (check_expr t e line found)
  check_expr t (tree.binary o a b) line found =
      wants (joins_logical o) (sort_of t b) line (check_expr t b line (wants (joins_logical o) (sort_of t a) line (check_expr t a line found)))
  check_expr t (tree.chars x) line found = found

  -- also of subscripts or arguments, which are INTEGER
  pub check_subscripts : NameTable → ExprTrees → ℕ → Option Refusal → Option Refusal
  check_subscripts t tree.no_exprs line found = found
  check_subscripts t (tree.more_exprs e es) line found = check_subscripts t es line (wants_int (sort_of t e) line (check_expr t e line found))

-- an INTEGER expression
abbrev pub check_int : NameTable → ExprTree → ℕ → Option Refusal → Option Refusal
check_int t e line found = wants_int (sort_of t e) line (check_expr t e line found)

-- a LOGICAL expression
abbrev pub check_log : NameTable → ExprTree → ℕ → Option Refusal → Option Refusal
check_log t e line found = wants_log (sort_of t e) line (check_expr t e line found)
