-- The parts of specification statements.
use Rattle.std.specs.Prelude.{ℕ, List, [], ◌∷◌, length, Option, Some, None, if◌then◌else◌, nat_le, pos, codes, true, false}
use Rattle.std.specs.Char.{is_ascii_uppercase}
use Rattle.f77_ast.specs.declared.expr.UnaryOp.{UnaryOp}
use Rattle.f77_ast.specs.declared.expr.UnaryOp.TheVariants.{Plus, Minus}
use Rattle.f77_ast.specs.declared.decl.Scalar.{Scalar}
use Rattle.f77_ast.specs.declared.decl.Scalar.TheVariants.{Int, Log}
use Rattle.f77_ast.specs.declared.decl.Letters.{Letters}
use Rattle.f77_ast.specs.declared.decl.ImplicitPart.{ImplicitPart}
use Rattle.f77_ast.specs.declared.decl.SaveItem.{SaveItem}
use Rattle.f77_ast.specs.declared.decl.SaveItem.TheVariants.{Name, Block}
use Rattle.f77_ast.specs.Trees.{ExprTree, int, log, unary}
use Rattle.f77_ast.specs.DeclTrees.{ExtentTree, EntityTree, SettingTree, CommonTree, DataValueTree, DataTree}
use Rattle.f77_exprs.specs.State.{State, Reader, parse_word, or_done, or_else, ◌>>=◌}
use Rattle.f77_exprs.specs.Lexical.{name_at, number, number_first}
use Rattle.f77_exprs.specs.Grammar.{expression, variable, literal, Between, comma, more_by, items, items_by}
use Rattle.f77_statements.specs.Lists.{ending, skip_comma}

-- ---- IMPLICIT

abbrev pub letter_of : State → List ℕ → Option (ℕ × State)
letter_of s [] = None
letter_of s (c ∷ cs) = if is_ascii_uppercase c then Some (c, record s { rest = cs }) else None

-- one letter
unfoldable pub letter : Reader ℕ
letter s = letter_of s s.rest

-- a range that does not run backwards
abbrev pub range : ℕ → ℕ × State → Option (Letters × State)
range first l = if nat_le first l.0 then Some (record { first = first; last = l.0 }, l.1) else None

-- a letter, or two with `-` between them
unfoldable pub letters : Reader Letters
letters s = letter s >>= λ a. or_done (record { first = a.0; last = a.0 }) a.1 (parse_word (codes "-") a.1) (λ t. letter t >>= range a.0)

-- the ranges behind a type
unfoldable pub ranges : Scalar → Reader ImplicitPart
ranges scalar s = do
  t ← parse_word (codes "(") s
  ls ← ending (codes ")") (items letters) t
  Some (record { scalar = scalar; ranges = ls.0 }, ls.1)

-- a type and its ranges
unfoldable pub implicit_part : Reader ImplicitPart
implicit_part s =
    or_else (parse_word (codes "INTEGER") s) (ranges Int)
    (or_else (parse_word (codes "LOGICAL") s) (ranges Log) None)

-- ---- names with bounds

-- what follows a lower bound
unfoldable pub upper : ExprTree → Reader ExtentTree
upper low s =
    or_else (parse_word (codes "*") s) (λ t. Some (record { low = Some low; high = None }, t))
    (expression s >>= λ e. Some (record { low = Some low; high = Some e.0 }, e.1))

-- `*`, an upper bound, or both bounds with a colon between them
unfoldable pub extent : Reader ExtentTree
extent s =
    or_else (parse_word (codes "*") s) (λ t. Some (record { low = None; high = None }, t))
    (expression s >>= λ e. or_done (record { low = None; high = Some e.0 }) e.1 (parse_word (codes ":") e.1) (upper e.0))

-- the bounds behind the opening parenthesis
unfoldable pub bounds : List ℕ → Reader EntityTree
bounds n s = ending (codes ")") (items extent) s >>= λ b. Some (record { name = n; bounds = b.0 }, b.1)

-- a name, with bounds or without
unfoldable pub entity : Reader EntityTree
entity s = name_at s >>= λ n. or_done (record { name = n.0; bounds = [] }) n.1 (parse_word (codes "(") n.1) (bounds n.0)

-- a name with bounds
unfoldable pub array : Reader EntityTree
array s = do
  n ← name_at s
  t ← parse_word (codes "(") n.1
  bounds n.0 t

-- ---- PARAMETER, EQUIVALENCE, SAVE

-- n=e
unfoldable pub setting : Reader SettingTree
setting s = do
  n ← name_at s
  t ← parse_word (codes "=") n.1
  e ← expression t
  Some (record { name = n.0; value = e.0 }, e.1)

-- two or more names or elements in parentheses
unfoldable pub group : Reader (List ExprTree)
group s = do
  t ← parse_word (codes "(") s
  v ← variable t
  u ← parse_word (codes ",") v.1
  w ← variable u
  vs ← more_by comma variable (length w.1.rest) (v.0 ∷ w.0 ∷ []) w.1
  x ← parse_word (codes ")") vs.1
  Some (vs.0, x)

-- the name of a block behind its first slash
unfoldable pub block_name : Reader (List ℕ)
block_name = ending (codes "/") name_at

-- a name, or a block between slashes
unfoldable pub save_item : Reader SaveItem
save_item s =
    or_else (parse_word (codes "/") s) (λ t. block_name t >>= λ b. Some (Block b.0, b.1))
    (name_at s >>= λ n. Some (Name n.0, n.1))

-- ---- COMMON

abbrev pub unless : Option State → Option State → Option State
unless (Some t) other = None
unless None other = other

-- a comma between two members: the one before the slash of the next block is none
abbrev pub member_comma : Between
member_comma s = unless (parse_word (codes ",/") s) (parse_word (codes ",") s)

-- the members of a block
unfoldable pub members : List ℕ → Reader CommonTree
members b s = items_by member_comma entity s >>= λ ms. Some (record { block = b; members = ms.0 }, ms.1)

-- a block behind its first slash, and its members; the blank block has no name
unfoldable pub block : Reader CommonTree
block s = or_else (parse_word (codes "/") s) (members []) (block_name s >>= λ b. members b.0 b.1)

-- the blank block may begin the statement without its slashes
unfoldable pub first_block : Reader CommonTree
first_block s = or_else (parse_word (codes "/") s) block (members [] s)

abbrev pub or_this : Option State → Option State → Option State
or_this (Some t) other = Some t
or_this None other = other

-- the first slash of the next block, with a comma before it or none
abbrev pub next_block : Between
next_block s = or_this (parse_word (codes ",/") s) (parse_word (codes "/") s)

-- ---- DATA

-- an integer
unfoldable pub integer : Reader ExprTree
integer s = if number_first s.rest then Some (literal s) else None

unfoldable pub signed_integer : UnaryOp → Reader ExprTree
signed_integer op s = integer s >>= λ n. Some (unary op n.0, n.1)

-- an integer with a sign or none, or a logical constant
unfoldable pub data_constant : Reader ExprTree
data_constant s =
    or_else (parse_word (codes ".TRUE.") s) (λ t. Some (log true, t))
    (or_else (parse_word (codes ".FALSE.") s) (λ t. Some (log false, t))
    (or_else (parse_word (codes "+") s) (signed_integer Plus)
    (or_else (parse_word (codes "-") s) (signed_integer Minus) (integer s))))

-- a constant behind its repeat count
unfoldable pub repeat_value : ℕ → Reader DataValueTree
repeat_value n s = data_constant s >>= λ c. Some (record { repeat = Some n; value = c.0 }, c.1)

-- a number, and a constant behind it where `*` follows
unfoldable pub value_or_count : ℕ → Reader DataValueTree
value_or_count n s = or_done (record { repeat = None; value = int (pos n) }) s (parse_word (codes "*") s) (repeat_value n)

-- a constant, with a repeat count before it or none
unfoldable pub data_value : Reader DataValueTree
data_value s =
    if number_first s.rest
    then value_or_count (number s).0 (number s).1
    else (data_constant s >>= λ c. Some (record { repeat = None; value = c.0 }, c.1))

-- names or elements, and values between slashes
unfoldable pub data_group : Reader DataTree
data_group s = do
  ts ← ending (codes "/") (items variable) s
  vs ← ending (codes "/") (items data_value) ts.1
  Some (record { targets = ts.0; values = vs.0 }, vs.1)

abbrev pub next_of : List ℕ → State → Option State
next_of [] s = None
next_of (c ∷ cs) s = Some (skip_comma s)

-- what follows a group before the end of the statement, without a comma
abbrev pub next_group : Between
next_group s = next_of s.rest s
