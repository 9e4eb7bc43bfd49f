-- A marked loop, DO I=1,2 with K=I*I and A(I)=A(I)+K in it and with PRIVATE(K), interleaved in two ways, by computation.
use Rattle.std.proofs.Common.{◌≡◌, ℕ, [], ◌∷◌, None, Some, Bool, ◌||◌, if◌then◌else◌, nat_eq, refl, pos}
use Rattle.std.specs.Prelude.{codes, bytes_eq}
use Rattle.f77_ast.specs.declared.expr.BinaryOp.TheVariants.{Add, Mul}
use Rattle.f77_ast.specs.Plain.{exprs_of}
use Rattle.f77_ast.specs.Trees.{ExprTree, name, element, binary, stmt, assign}
use Rattle.f77_ast.specs.Store.{Int, Undefined, Store, content, put, empty_store}
use Rattle.f77_ast.specs.Faults.{Locked, Unset}
use Rattle.f77_ast.specs.Places.{Variable, Function, Names, Place, Places, scalar_place}
use Rattle.f77_ast.specs.Writes.{no_locks, lock}
use Rattle.f77_ast.specs.Plans.{Plan, Breaks}
use Rattle.f77_ast.specs.Steps.{Faulty}
use Rattle.f77_ast.specs.Statements.{Scope, body_plan}
use Rattle.f77_meaning.specs.Interleavings.{World, AllFinished, OutOfPicks, start, interleaved, outcome}
use Rattle.f77_meaning.specs.Processes.{Marked, process, store_after}
use Rattle.f77_meaning.proofs.CaseWords.{stmts_of}
use Rattle.f77_ast.proofs.Example.{i}

-- the units: I is 0, K is 1, A(1) is 2, A(2) is 3
abbrev names_here : Names
names_here x = if bytes_eq x (codes "I") then Variable 1 else if bytes_eq x (codes "K") then Variable 2 else if bytes_eq x (codes "A") then Variable 3 else Function

abbrev array_a : Place
array_a = record { first = 2; extent = 2; tag = Int; dims = record { low = pos 1; high = Some (pos 2) } ∷ [] }

abbrev places_here : Places
places_here v = if nat_eq v 1 then scalar_place 0 Int else if nat_eq v 2 then scalar_place 1 Int else array_a

abbrev scope : Scope
scope = record { module_name = codes "P"; names = names_here; turns = 0; own_unit = λ s k. 4; callee = λ x places locked. Breaks (Faulty Unset) }

abbrev a_of_i : ExprTree
a_of_i = element (codes "A") (exprs_of (i ∷ []))

abbrev body : Plan
body = body_plan (stmts_of (stmt 2 None (assign (name (codes "K")) (binary Mul i i)) ∷ stmt 3 None (assign a_of_i (binary Add a_of_i (name (codes "K")))) ∷ []))
    scope places_here (lock no_locks 0 Locked)

abbrev is_k : ℕ → Bool
is_k u = nat_eq u 1

abbrev loop : Marked
loop = record { body = body; index = 0; first = pos 1; step = pos 1; count = 2; private = λ u. nat_eq u 0 || is_k u; named = is_k }

-- A(1) is 10, A(2) is 20, K is 7
abbrev before : Store
before = put (put (put (put empty_store 0 (content Int (pos 1))) 1 (content Int (pos 7))) 2 (content Int (pos 10))) 3 (content Int (pos 20))

abbrev by_turns : World
by_turns = interleaved (process loop) 2 (0 ∷ 1 ∷ 0 ∷ 1 ∷ []) (start before)

abbrev second_first : World
second_first = interleaved (process loop) 2 (1 ∷ 1 ∷ 0 ∷ 0 ∷ []) (start before)

abbrev too_short : World
too_short = interleaved (process loop) 2 (1 ∷ 0 ∷ 0 ∷ []) (start before)

by_turns_ends : outcome (process loop) by_turns 2 ≡ AllFinished
by_turns_ends = refl

second_first_ends : outcome (process loop) second_first 2 ≡ AllFinished
second_first_ends = refl

too_short_is_out : outcome (process loop) too_short 2 ≡ OutOfPicks
too_short_is_out = refl

first_element : store_after loop by_turns 2 ≡ content Int (pos 11)
first_element = refl

second_element : store_after loop by_turns 3 ≡ content Int (pos 24)
second_element = refl

first_element_again : store_after loop second_first 2 ≡ content Int (pos 11)
first_element_again = refl

second_element_again : store_after loop second_first 3 ≡ content Int (pos 24)
second_element_again = refl

-- after the loop its variable and K are undefined; the shared unit of K was not touched
index_is_lost : (store_after loop by_turns 0).tag ≡ Undefined
index_is_lost = refl

copy_is_lost : store_after loop by_turns 1 ≡ content Undefined (pos 7)
copy_is_lost = refl
