-- CALL: its actual arguments, and how dummy arguments are associated with them (ANSI X3.9-1978 §15.6.2, §15.9).
use Rattle.std.specs.Prelude.{ℕ, suc, ◌+◌, ◌-◌, List, [], ◌∷◌, Option, Some, None, Bool, true, false, ◌&&◌, ◌||◌, if◌then◌else◌, nat_eq, nat_lt, nat_le, ℤ}
use Rattle.f77_ast.specs.Trees.{ExprTree, ExprTrees}
use Rattle.f77_ast.specs.Trees as tree
use Rattle.f77_ast.specs.Store.{Tag, Undefined, Content, put}
use Rattle.f77_ast.specs.Faults.{Unset, Bounds, Locked, Shared}
use Rattle.f77_ast.specs.Steps.{Steps, Done, Hold, ◌>>=◌}
use Rattle.f77_ast.specs.Places.{Meant, Constant, Variable, Function, Names, Dim, Place, Places, scalar_place, total_size, element_in}
use Rattle.f77_ast.specs.Values.{fault, value, values}
use Rattle.f77_ast.specs.Writes.{Locks, lock, first_lock}
use Rattle.f77_ast.specs.Plans.{Flow, Normal, Jump, Returned, Stopped, Plan, Ends, Forget, first, ◌▹◌}

-- an actual argument: what it offers, and whether it is an expression, which has a unit of its own
pub record Actual : Type 0 where
  pub place : Place
  pub own : Bool

abbrev pub passed_by_reference : Place → Actual
passed_by_reference p = record { place = p; own = false }

-- an expression's value is stored without an event
abbrev pub stored : ℕ → Content → Steps Actual
stored u c = Hold u c (Done (record { place = scalar_place u c.tag; own = true }))

abbrev pub rest_after : Place → Option ℕ → Steps Actual
rest_after p None = fault Bounds
rest_after p (Some k) = Done (passed_by_reference (record { first = p.first + k; extent = p.extent - k; tag = p.tag; dims = [] }))

abbrev pub name_actual : Meant → Places → ℕ → Steps Actual
name_actual (Constant c) at u = stored u c
name_actual (Variable v) at u = Done (passed_by_reference (at v))
name_actual Function at u = fault Unset

-- an element offers itself and the rest of its array
abbrev pub element_actual : Meant → ExprTree → ExprTrees → Names → Places → ℕ → Steps Actual
element_actual (Constant c) e es w at u = fault Unset
element_actual (Variable v) e es w at u = values es w at >>= λ ns. rest_after (at v) (element_in (at v) ns)
element_actual Function e es w at u = value e w at >>= stored u

-- an actual whose own unit would be u
abbrev pub actual : ExprTree → Names → Places → ℕ → Steps Actual
actual (tree.name x) w at u = name_actual (w x) at u
actual (tree.element x es) w at u = element_actual (w x) (tree.element x es) es w at u
actual (tree.int n) w at u = value (tree.int n) w at >>= stored u
actual (tree.log b) w at u = value (tree.log b) w at >>= stored u
actual (tree.paren e) w at u = value (tree.paren e) w at >>= stored u
actual (tree.unary o e) w at u = value (tree.unary o e) w at >>= stored u
actual (tree.binary o a b) w at u = value (tree.binary o a b) w at >>= stored u
actual (tree.chars x) w at u = fault Unset

-- from left to right; own gives each place of an actual its unit
abbrev pub actuals : ExprTrees → ℕ → Names → Places → (ℕ → ℕ) → Steps (List Actual)
actuals tree.no_exprs k w at own = Done []
actuals (tree.more_exprs e es) k w at own = actual e w at (own k) >>= λ x. actuals es (suc k) w at own >>= λ xs. Done (x ∷ xs)

abbrev pub places_of : List Actual → List Place
places_of [] = []
places_of (x ∷ xs) = x.place ∷ places_of xs

-- the units of expressions
abbrev pub own_units : List Actual → List ℕ
own_units [] = []
own_units (x ∷ xs) = if x.own then x.place.first ∷ own_units xs else own_units xs

-- they are locked while the call is active
abbrev pub lock_own : Locks → List ℕ → Locks
lock_own locked [] = locked
lock_own locked (u ∷ us) = lock_own (lock locked u Locked) us

abbrev pub forget_all : List ℕ → Plan → Plan
forget_all [] t = t
forget_all (u ∷ us) t = Forget u (forget_all us t)

-- after a call: its units become undefined, and RETURN has ended it (§15.8, §17.3)
abbrev pub after_call : List ℕ → Flow → Plan
after_call us Normal = forget_all us (Ends Normal)
after_call us Returned = forget_all us (Ends Normal)
after_call us Stopped = Ends Stopped
after_call us (Jump l) = Ends (Jump l)

-- what a call of a module does with the places of its actuals
abbrev pub Meaning : Type 0
Meaning = List Place → Locks → Plan

abbrev pub call_plan : Steps (List Actual) → Meaning → Locks → Plan
call_plan actuals callee locked = first actuals (λ xs. callee (places_of xs) (lock_own locked (own_units xs)) ▹ after_call (own_units xs))

-- a bound as it is written; the upper one may be `*`
pub record BoundTree : Type 0 where
  pub low : ExprTree
  pub high : Option ExprTree

-- a dummy argument, by the number of its symbol
pub record Dummy : Type 0 where
  pub symbol : ℕ
  pub tag : Tag
  pub bounds : List BoundTree

-- a dummy that has no actual, which reading refuses
abbrev pub nowhere : Place
nowhere = scalar_place 0 Undefined

abbrev pub first_place : List Place → Place
first_place [] = nowhere
first_place (p ∷ ps) = p

abbrev pub other_places : List Place → List Place
other_places [] = []
other_places (p ∷ ps) = ps

-- each dummy as a scalar at the first unit of its actual
abbrev pub scalars_bound : List Dummy → List Place → Places → Places
scalars_bound [] ps at = at
scalars_bound (d ∷ ds) ps at = put (scalars_bound ds (other_places ps) at) d.symbol (scalar_place (first_place ps).first d.tag)

abbrev pub high_value : Option ExprTree → Names → Places → Steps (Option ℤ)
high_value None w at = Done None
high_value (Some e) w at = value e w at >>= λ c. Done (Some c.number)

abbrev pub dims_read : List BoundTree → Names → Places → Steps (List Dim)
dims_read [] w at = Done []
dims_read (b ∷ bs) w at = value b.low w at >>= λ m. high_value b.high w at >>= λ n. dims_read bs w at >>= λ ds. Done (record { low = m.number; high = n } ∷ ds)

abbrev pub ends_open : Option ℤ → Bool → Bool
ends_open None rest = true
ends_open (Some h) rest = rest

-- whether an upper bound is `*`
abbrev pub is_open : List Dim → Bool
is_open [] = false
is_open (d ∷ ds) = ends_open d.high (is_open ds)

abbrev pub array_at : Place → Tag → List Dim → ℕ → Place
array_at p t ds n = record { first = p.first; extent = n; tag = t; dims = ds }

-- what an array with `*` reaches: all that the actual offers, but no unit where another dimension has no subscript
abbrev pub open_extent : Place → List Dim → ℕ
open_extent p ds = if nat_eq (total_size ds) 0 then 0 else p.extent

-- an array takes its declared size, which the actual must offer, or with `*` what it reaches
abbrev pub array_place : Place → Tag → List Dim → Steps Place
array_place p t ds =
    if is_open ds then Done (array_at p t ds (open_extent p ds))
    else if nat_le (total_size ds) p.extent then Done (array_at p t ds (total_size ds))
    else fault Bounds

abbrev pub dummy_bound : Dummy → Place → List Dim → Places → Steps Places
dummy_bound d p [] at = Done at
dummy_bound d p (m ∷ ms) at = array_place p d.tag (m ∷ ms) >>= λ q. Done (put at d.symbol q)

-- then the arrays, whose bounds are read now (§5.5)
abbrev pub arrays_bound : List Dummy → List Place → Names → Places → Steps Places
arrays_bound [] ps w at = Done at
arrays_bound (d ∷ ds) ps w at = dims_read d.bounds w at >>= λ ms. dummy_bound d (first_place ps) ms at >>= arrays_bound ds (other_places ps) w

abbrev pub in_place : Place → ℕ → Bool
in_place p u = nat_le p.first u && nat_lt u (p.first + p.extent)

abbrev pub in_dummies : List Dummy → Places → ℕ → Bool
in_dummies [] at u = false
in_dummies (d ∷ ds) at u = in_place (at d.symbol) u || in_dummies ds at u

-- reached by two dummies, or by one and as a unit of COMMON
abbrev pub doubly_reached : List Dummy → Places → (ℕ → Bool) → ℕ → Bool
doubly_reached [] at common u = false
doubly_reached (d ∷ ds) at common u = (in_place (at d.symbol) u && (in_dummies ds at u || common u)) || doubly_reached ds at common u

abbrev pub lock_doubly : Locks → List Dummy → Places → (ℕ → Bool) → Locks
lock_doubly locked ds at common u = if doubly_reached ds at common u then first_lock (locked u) Shared else locked u
