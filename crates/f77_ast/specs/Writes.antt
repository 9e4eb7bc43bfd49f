-- Writes of units, some of which are locked.
use Rattle.std.specs.Prelude.{ℕ, Option, Some, None, Bool, false, ◌&&◌, ◌||◌, if◌then◌else◌, ℤ, pos, nat_eq}
use Rattle.std.specs.Ordering.{int_eq}
use Rattle.f77_ast.specs.Trees.{ExprTree, ExprTrees}
use Rattle.f77_ast.specs.Trees as tree
use Rattle.f77_ast.specs.Store.{Tag, Int, Log, Undefined, same_tag, Content, content}
use Rattle.f77_ast.specs.Faults.{Fault, Input}
use Rattle.f77_ast.specs.Steps.{Steps, Done, Set, Take, ◌>>=◌}
use Rattle.f77_ast.specs.Numbers.{in_range}
use Rattle.f77_ast.specs.Places.{Names, Places}
use Rattle.f77_ast.specs.Values.{fault, value, Target, target}

-- the units that may not be written, each with its fault
abbrev pub Locks : Type 0
Locks = ℕ → Option Fault

abbrev pub no_locks : Locks
no_locks u = None

abbrev pub first_lock : Option Fault → Fault → Option Fault
first_lock None f = Some f
first_lock (Some g) f = Some g

-- a unit that is locked already keeps its fault
abbrev pub lock : Locks → ℕ → Fault → Locks
lock locked u f x = if nat_eq x u then first_lock (locked x) f else locked x

abbrev pub written : Option Fault → ℕ → Content → Steps (Unit {0})
written None u c = Set u c (Done tt)
written (Some f) u c = fault f

abbrev pub write : Locks → ℕ → Content → Steps (Unit {0})
write locked u c = written (locked u) u c

-- the right side, then the subscripts on the left, then the write (ANSI X3.9-1978 §10.1, §10.2)
abbrev pub assigned : ExprTree → ExprTree → Names → Places → Locks → Steps (Unit {0})
assigned left right w at locked = value right w at >>= λ c. target left w at >>= λ t. write locked t.unit (content t.tag c.number)

-- whether a number is one of a type's values
abbrev pub is_value : Tag → ℤ → Bool
is_value Int n = in_range n
is_value Log n = int_eq n (pos 0) || int_eq n (pos 1)
is_value Undefined n = false

abbrev pub taken : Locks → Target → Option Content → Steps (Unit {0})
taken locked t None = fault Input
taken locked t (Some c) = if same_tag t.tag c.tag && is_value t.tag c.number then write locked t.unit c else fault Input

-- each item in order: its subscripts, the next of the input, the write (§12.8)
abbrev pub items_read : ExprTrees → Names → Places → Locks → Steps (Unit {0})
items_read tree.no_exprs w at locked = Done tt
items_read (tree.more_exprs e es) w at locked = target e w at >>= λ t. Take (taken locked t) >>= λ o. items_read es w at locked
