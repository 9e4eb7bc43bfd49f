-- A loop with reduction variables: its iterations as processes, each with a copy of its own of every reduction variable, and how the copies are combined in the end.
use Rattle.std.specs.Prelude.{ℕ, zero, suc, ◌%◌, List, [], ◌∷◌, ◌++◌, length, Option, Some, None, is_some, Bool, false, ◌&&◌, ◌||◌, if◌then◌else◌, nat_eq, slice_get, ℤ, pos, negsuc, ◌+ℤ◌}
use Rattle.std.specs.Int.{int_max, int_min, int_wrap, w32}
use Rattle.f77_ast.specs.Store.{Tag, Int, Log, same_tag, Content, Store, content, truth, put, undefined}
use Rattle.f77_ast.specs.Numbers.{is_true}
use Rattle.f77_ast.specs.Runs.{Event, Ran, Script, run, store_of}
use Rattle.f77_ast.specs.Plans.{Flow, Plan, steps_of}
use Rattle.f77_meaning.specs.Interleavings.{Process, World, unfinished, picked, act_by}
use Rattle.f77_meaning.specs.Processes.{Marked, own_store, shared, answers, action_after, writes}

-- ---- operators

-- of the clauses REDUCTION(+:V), (MAX:V), (MIN:V), (.AND.:V) and (.OR.:V)
pub data ReduceOp : Type 0 where
  Sum : ReduceOp
  Max : ReduceOp
  Min : ReduceOp
  And : ReduceOp
  Or : ReduceOp

-- the type of the variable
abbrev pub tag_of : ReduceOp → Tag
tag_of Sum = Int
tag_of Max = Int
tag_of Min = Int
tag_of And = Log
tag_of Or = Log

-- the number that a copy begins with
abbrev pub start_of : ReduceOp → ℤ
start_of Sum = pos 0
start_of Max = negsuc 2147483647
start_of Min = pos 2147483647
start_of And = pos 1
start_of Or = pos 0

-- two numbers by the operator; a sum is taken modulo 2^32 into the range of INTEGER
abbrev pub joined : ReduceOp → ℤ → ℤ → ℤ
joined Sum m n = int_wrap w32 (m +ℤ n)
joined Max m n = int_max m n
joined Min m n = int_min m n
joined And m n = truth (is_true m && is_true n)
joined Or m n = truth (is_true m || is_true n)

-- ---- the loop

-- a reduction variable: its unit, and its operator
pub record Accumulator : Type 0 where
  pub unit : ℕ
  pub op : ReduceOp

-- the operator of the reduction variable at a unit, if there is one
abbrev pub operator_at : List Accumulator → ℕ → Option ReduceOp
operator_at [] u = None
operator_at (a ∷ as') u = if nat_eq u a.unit then Some a.op else operator_at as' u

abbrev pub is_accumulator : List Accumulator → ℕ → Bool
is_accumulator as' u = is_some (operator_at as' u)

-- a loop with reduction variables that has evaluated its expressions: the loop without reductions, whose private units have none of these variables among them;
-- its body as the processes execute it, in which sums wrap; and its reduction variables, in the order of their symbols
pub record Reduced : Type 0 where
  pub loop : Marked
  pub body : Plan
  pub accumulators : List Accumulator

-- the units that each process has for itself: those of the loop without reductions, and its copies
abbrev pub own : Reduced → ℕ → Bool
own d u = d.loop.private u || is_accumulator d.accumulators u

abbrev pub start_or : Option ReduceOp → Content → Content
start_or None c = c
start_or (Some o) c = content (tag_of o) (start_of o)

-- the store, but that each copy has the number that it begins with
abbrev pub with_starts : List Accumulator → Store → Store
with_starts as' s u = start_or (operator_at as' u) (s u)

-- an iteration begins with its own units undefined, but for the loop's variable and its copies
abbrev pub reduced_store : Reduced → ℕ → Store
reduced_store d i = with_starts d.accumulators (own_store d.loop i)

abbrev pub reduced_iteration : Reduced → ℕ → List Event → Ran Flow
reduced_iteration d i did = run (steps_of d.body) (Script (own d) (reduced_store d i) (answers did)) []

-- its next action: the access to a unit that it shares after those that it has done
abbrev pub reduced_process : Reduced → ℕ → Process
reduced_process d i did = let r = reduced_iteration d i did in action_after (slice_get (shared (own d) r.trace) (length did)) r.answer

-- ---- copies

-- a copy that an iteration wrote: of which reduction variable, and its number in the end
pub record Copy : Type 0 where
  pub of_unit : ℕ
  pub op : ReduceOp
  pub number : ℤ

abbrev pub copy_of : Accumulator → Ran Flow → Copy
copy_of a r = record { of_unit = a.unit; op = a.op; number = (store_of r.memory a.unit).number }

-- those of one iteration, in the order of their variables
abbrev pub copies_in : List Accumulator → Ran Flow → List Copy
copies_in [] r = []
copies_in (a ∷ as') r = if writes a.unit r.trace then copy_of a r ∷ copies_in as' r else copies_in as' r

-- those of the first n iterations, one iteration after the other
abbrev pub copies : Reduced → World → ℕ → List Copy
copies d w zero = []
copies d w (suc n) = copies d w n ++ copies_in d.accumulators (reduced_iteration d n (w.did n))

-- the copy of a number from 0, and the others; past the end it is the last
abbrev pub copy_at : ℕ → Copy → List Copy → Copy
copy_at zero c cs = c
copy_at (suc k) c [] = c
copy_at (suc k) c (x ∷ xs) = copy_at k x xs

abbrev pub other_copies : ℕ → Copy → List Copy → List Copy
other_copies zero c cs = cs
other_copies (suc k) c [] = []
other_copies (suc k) c (x ∷ xs) = c ∷ other_copies k x xs

-- ---- their combination

-- how it came out: all copies are combined; or some are left when the picks end; or a variable that is to be combined has no value of its type
pub data Combination : Type 0 where
  AllCombined : Store → Combination
  CopiesLeft : Store → Combination
  NoValue : Store → Combination

abbrev pub with_copy : Store → Copy → Store
with_copy s c = put s c.of_unit (content (tag_of c.op) (joined c.op (s c.of_unit).number c.number))

-- at each pick one copy is combined with its variable: their count goes round
abbrev pub combined : List ℕ → Store → List Copy → Combination
combined [] s [] = AllCombined s
combined [] s (c ∷ cs) = CopiesLeft s
combined (p ∷ ps) s [] = AllCombined s
combined (p ∷ ps) s (c ∷ cs) =
    let k = p % length (c ∷ cs) in
    let x = copy_at k c cs in
    if same_tag (tag_of x.op) (s x.of_unit).tag then combined ps (with_copy s x) (other_copies k c cs) else NoValue s

-- the picks that are left when all processes have finished
abbrev pub picks_if : List ℕ → List ℕ → List ℕ → List ℕ
picks_if [] ks rest = ks
picks_if (i ∷ is) ks rest = rest

abbrev pub picks_left : (ℕ → Process) → ℕ → List ℕ → World → List ℕ
picks_left p n [] w = []
picks_left p n (k ∷ ks) w = picks_if (unfinished p w n) (k ∷ ks) (picks_left p n ks (act_by p w (picked (unfinished p w n) k)))

-- ---- after the loop

-- whether some of the first n iterations wrote its copy of a unit
abbrev pub some_iteration_writes : Reduced → World → ℕ → ℕ → Bool
some_iteration_writes d w u zero = false
some_iteration_writes d w u (suc n) = some_iteration_writes d w u n || writes u (reduced_iteration d n (w.did n)).trace

-- its variable, and each unit of a private name of the directive that some iteration wrote, is undefined
abbrev pub is_lost_after : Reduced → World → ℕ → Bool
is_lost_after d w u = nat_eq u d.loop.index || (d.loop.named u && some_iteration_writes d w u d.loop.count)

abbrev pub reduced_after : Reduced → World → Store → Store
reduced_after d w s u = if is_lost_after d w u then undefined (s u) else s u
