-- Which units the steps of a plan touch, and which numbers they write.
use Rattle.std.specs.Prelude.{◌≡◌, ℕ, ℤ, true, false, nat_eq, List, [], ◌∷◌, Option, Some, None}
use Rattle.f77_ast.specs.Trees.{ExprTree, ExprTrees, StmtTree, StmtTrees, WhatTree, ArmTree, ArmTrees, ElseTree, LoopTree}
use Rattle.f77_ast.specs.Trees as tree
use Rattle.f77_ast.specs.Store.{Content, Store}
use Rattle.f77_ast.specs.Numbers.{in_range}
use Rattle.f77_ast.specs.Runs.{Event, Arrived, Read, Wrote, Printed, Took, store_of}
use Rattle.f77_ast.specs.Places.{Meant, Constant, Variable, Function, Place, Places}
use Rattle.f77_ast.specs.Writes.{Locks}
use Rattle.f77_ast.specs.Calls.{BoundTree, Dummy, Meaning, in_place}
use Rattle.f77_ast.specs.Plans.{Flow, Plan, Ends, Breaks, Look, Set, Hold, Forget, Show, Take, Within}
use Rattle.f77_ast.specs.Executions.{run_of}
use Rattle.f77_ast.specs.Programs.{Routine}
use Rattle.f77_meaning.specs.Accesses.{is_read, is_written}
use Rattle.laws_interleavings.specs.Typed.{IsNoDummy}

-- ---- plans

-- each unit that a step touches is of the first kind; and each number that is written is of the second, where those are that are read
abbrev pub EachStep : (ℕ → Type 0) → (ℤ → Type 0) → Plan → Type 0
EachStep U N (Ends f) = Unit {0}
EachStep U N (Breaks b) = Unit {0}
EachStep U N (Look u k) = U u × ((c : Content) → N c.number → EachStep U N (k c))
EachStep U N (Set u c t) = U u × N c.number × EachStep U N t
EachStep U N (Hold u c t) = U u × N c.number × EachStep U N t
EachStep U N (Forget u t) = U u × EachStep U N t
EachStep U N (Show xs t) = EachStep U N t
EachStep U N (Take k) = (o : Option Content) → EachStep U N (k o)
EachStep U N (Within p at t k) = EachStep U N t × ((f : Flow) → EachStep U N (k f))

abbrev pub IsOther : ℕ → ℕ → Type 0
IsOther v u = nat_eq u v ≡ false

abbrev pub AnyNumber : ℤ → Type 0
AnyNumber n = Unit {0}

-- no step touches the unit
abbrev pub Avoids : ℕ → Plan → Type 0
Avoids v t = EachStep (IsOther v) AnyNumber t

abbrev pub AnyUnit : ℕ → Type 0
AnyUnit u = Unit {0}

-- a number of 32 bits
abbrev pub InRange : ℤ → Type 0
InRange n = in_range n ≡ true

-- where numbers of 32 bits are read, such are written
abbrev pub Ranged : Plan → Type 0
Ranged t = EachStep AnyUnit InRange t

-- ---- names and literals

-- each unit that the place reaches is of the kind
abbrev pub Reaches : (ℕ → Type 0) → Place → Type 0
Reaches U p = U p.first × ((u : ℕ) → in_place p u ≡ true → U u)

abbrev pub AllReach : (ℕ → Type 0) → List Place → Type 0
AllReach U [] = Unit {0}
AllReach U (p ∷ ps) = Reaches U p × AllReach U ps

-- what a name stands for
abbrev pub Suits : (ℕ → Type 0) → (ℤ → Type 0) → Places → Meant → Type 0
Suits U N at (Constant c) = N c.number
Suits U N at (Variable v) = Reaches U (at v)
Suits U N at Function = Unit {0}

abbrev mutual
  -- of each name and each literal of an expression
  pub Leaves : (List ℕ → Type 0) → (ℤ → Type 0) → ExprTree → Type 0
  Leaves P N (tree.int n) = N n
  Leaves P N (tree.log b) = Unit {0}
  Leaves P N (tree.name x) = P x
  Leaves P N (tree.element x es) = P x × AllLeaves P N es
  Leaves P N (tree.paren e) = Leaves P N e
  Leaves P N (tree.unary o e) = Leaves P N e
  Leaves P N (tree.binary o a b) = Leaves P N a × Leaves P N b
  Leaves P N (tree.chars x) = Unit {0}

  pub AllLeaves : (List ℕ → Type 0) → (ℤ → Type 0) → ExprTrees → Type 0
  AllLeaves P N tree.no_exprs = Unit {0}
  AllLeaves P N (tree.more_exprs e es) = Leaves P N e × AllLeaves P N es

abbrev pub OptionLeaves : (List ℕ → Type 0) → (ℤ → Type 0) → Option ExprTree → Type 0
OptionLeaves P N None = Unit {0}
OptionLeaves P N (Some e) = Leaves P N e

abbrev mutual
  -- the same of a statement, and of the statements inside it
  pub StatementLeaves : (List ℕ → Type 0) → (ℤ → Type 0) → StmtTree → Type 0
  StatementLeaves P N (tree.stmt n label w) = WhatLeaves P N w

  pub WhatLeaves : (List ℕ → Type 0) → (ℤ → Type 0) → WhatTree → Type 0
  WhatLeaves P N (tree.assign a b) = Leaves P N a × Leaves P N b
  WhatLeaves P N (tree.block_if arms other) = ArmsLeaves P N arms × ElseLeaves P N other
  WhatLeaves P N (tree.logical_if test s) = Leaves P N test × StatementLeaves P N s
  WhatLeaves P N (tree.do_loop l) = LoopLeaves P N l
  WhatLeaves P N (tree.call x es) = AllLeaves P N es
  WhatLeaves P N (tree.goto l) = Unit {0}
  WhatLeaves P N tree.continue = Unit {0}
  WhatLeaves P N tree.return = Unit {0}
  WhatLeaves P N (tree.stop text) = Unit {0}
  WhatLeaves P N (tree.print es) = AllLeaves P N es
  WhatLeaves P N (tree.read es) = AllLeaves P N es

  pub ArmsLeaves : (List ℕ → Type 0) → (ℤ → Type 0) → ArmTrees → Type 0
  ArmsLeaves P N tree.no_arms = Unit {0}
  ArmsLeaves P N (tree.more_arms a as') = ArmLeaves P N a × ArmsLeaves P N as'

  pub ArmLeaves : (List ℕ → Type 0) → (ℤ → Type 0) → ArmTree → Type 0
  ArmLeaves P N (tree.arm test body) = Leaves P N test × ListLeaves P N body

  pub ElseLeaves : (List ℕ → Type 0) → (ℤ → Type 0) → ElseTree → Type 0
  ElseLeaves P N tree.no_else = Unit {0}
  ElseLeaves P N (tree.otherwise body) = ListLeaves P N body

  pub LoopLeaves : (List ℕ → Type 0) → (ℤ → Type 0) → LoopTree → Type 0
  LoopLeaves P N (tree.loop index e1 e2 e3 body) = P index × Leaves P N e1 × Leaves P N e2 × OptionLeaves P N e3 × ListLeaves P N body

  pub ListLeaves : (List ℕ → Type 0) → (ℤ → Type 0) → StmtTrees → Type 0
  ListLeaves P N tree.no_stmts = Unit {0}
  ListLeaves P N (tree.more_stmts s ss) = StatementLeaves P N s × ListLeaves P N ss

-- ---- modules

-- what a call does, with places of the kind
abbrev pub MeaningKeeps : (ℕ → Type 0) → (ℤ → Type 0) → Meaning → Type 0
MeaningKeeps U N m = (ps : List Place) (locked : Locks) → AllReach U ps → EachStep U N (m ps locked)

abbrev pub MeaningAvoids : ℕ → Meaning → Type 0
MeaningAvoids v m = MeaningKeeps (IsOther v) AnyNumber m

abbrev pub AnyName : List ℕ → Type 0
AnyName x = Unit {0}

abbrev pub BoundsLeaves : (List ℕ → Type 0) → (ℤ → Type 0) → List BoundTree → Type 0
BoundsLeaves P N [] = Unit {0}
BoundsLeaves P N (b ∷ bs) = Leaves P N b.low × OptionLeaves P N b.high × BoundsLeaves P N bs

abbrev pub DummiesLeaves : (List ℕ → Type 0) → (ℤ → Type 0) → List Dummy → Type 0
DummiesLeaves P N [] = Unit {0}
DummiesLeaves P N (d ∷ ds) = BoundsLeaves P N d.bounds × DummiesLeaves P N ds

abbrev pub EachUnit : (ℕ → Type 0) → List ℕ → Type 0
EachUnit U [] = Unit {0}
EachUnit U (u ∷ us) = U u × EachUnit U us

-- the units of its variables but dummies, of its locals, and of expressions that are actuals in it; its constants; and its literals
pub record Keeps (U : ℕ → Type 0) (N : ℤ → Type 0) (r : Routine) : Type 0 where
  pub fixed : (x : List ℕ) (v : ℕ) → r.names x ≡ Variable v → IsNoDummy r.dummies v → Reaches U (r.fixed v)
  pub constants : (x : List ℕ) (c : Content) → r.names x ≡ Constant c → N c.number
  pub locals : EachUnit U r.locals
  pub own : (n k : ℕ) → U (r.own_unit n k)
  pub bounds : DummiesLeaves AnyName N r.dummies
  pub literals : ListLeaves AnyName N r.body

abbrev pub AllKeep : (ℕ → Type 0) → (ℤ → Type 0) → List Routine → Type 0
AllKeep U N [] = Unit {0}
AllKeep U N (r ∷ rs) = Keeps U N r × AllKeep U N rs

-- none of its variables but dummies reaches the unit, and none of its locals, and of the units of expressions in it, is that
pub record IsUnused (v : ℕ) (r : Routine) : Type 0 where
  pub fixed : (x : List ℕ) (w : ℕ) → r.names x ≡ Variable w → IsNoDummy r.dummies w → Reaches (IsOther v) (r.fixed w)
  pub locals : EachUnit (IsOther v) r.locals
  pub own : (n k : ℕ) → IsOther v (r.own_unit n k)

abbrev pub AllUnused : ℕ → List Routine → Type 0
AllUnused v [] = Unit {0}
AllUnused v (r ∷ rs) = IsUnused v r × AllUnused v rs

-- its constants and literals are numbers of 32 bits
pub record HasNumbers (r : Routine) : Type 0 where
  pub constants : (x : List ℕ) (c : Content) → r.names x ≡ Constant c → InRange c.number
  pub bounds : DummiesLeaves AnyName InRange r.dummies
  pub literals : ListLeaves AnyName InRange r.body

abbrev pub AllHaveNumbers : List Routine → Type 0
AllHaveNumbers [] = Unit {0}
AllHaveNumbers (r ∷ rs) = HasNumbers r × AllHaveNumbers rs

-- ---- runs

-- the same but for the unit
abbrev pub DifferAt : ℕ → Store → Store → Type 0
DifferAt v s z = (x : ℕ) → nat_eq x v ≡ false → s x ≡ z x

-- two runs do the same, and touch nothing of the unit
pub record RunsAlike (v : ℕ) (t : Plan) (s z : Store) (i : List Content) : Type 0 where
  pub answer : (run_of t s i).answer ≡ (run_of t z i).answer
  pub input : (run_of t s i).input ≡ (run_of t z i).input
  pub trace : (run_of t s i).trace ≡ (run_of t z i).trace
  pub ends : DifferAt v (store_of (run_of t s i).memory) (store_of (run_of t z i).memory)
  pub kept : store_of (run_of t s i).memory v ≡ s v
  pub unread : is_read v (run_of t s i).trace ≡ false
  pub unwritten : is_written v (run_of t s i).trace ≡ false

abbrev pub StoreInRange : Store → Type 0
StoreInRange s = (u : ℕ) → InRange (s u).number

-- what is read and written
abbrev pub EventsInRange : List Event → Type 0
EventsInRange [] = Unit {0}
EventsInRange (Arrived p ∷ es) = EventsInRange es
EventsInRange (Read u c ∷ es) = InRange c.number × EventsInRange es
EventsInRange (Wrote u c ∷ es) = InRange c.number × EventsInRange es
EventsInRange (Printed xs ∷ es) = EventsInRange es
EventsInRange (Took o ∷ es) = EventsInRange es
