-- A loop with three reduction variables, run by three schedules, by computation: B(1)=2147483647, B(2)=-10, B(3)=5, K=0, L=.TRUE., M=-7, then DO 20 I=1,3 with K=K+B(I), L=L.AND.B(I).GT.0
-- and M=MAX(M,B(I)) in it, then PRINT *,K,L,M. And a loop that uses the variable of its sum otherwise.
use Rattle.std.proofs.Common.{◌≡◌, ℕ, List, [], ◌∷◌, ◌++◌, None, Some, true, false, if◌then◌else◌, nat_eq, bytes_eq, refl, arith, pos, negsuc}
use Rattle.std.specs.Prelude.{codes}
use Rattle.std.specs.Int.{int_wrap}
use Rattle.f77_ast.specs.declared.decl.Scalar.TheVariants as scalar
use Rattle.f77_ast.specs.declared.expr.UnaryOp.TheVariants.{Minus}
use Rattle.f77_ast.specs.declared.expr.BinaryOp.TheVariants.{Add, And, Gt}
use Rattle.f77_ast.specs.declared.symbol.Place.TheVariants.{Local}
use Rattle.f77_ast.specs.Plain.{exprs_of}
use Rattle.f77_ast.specs.Trees.{ExprTree, StmtTrees, int, log, name, element, unary, binary, stmt, assign, do_loop, loop, print}
use Rattle.f77_ast.specs.Store.{Int, Log, content}
use Rattle.f77_ast.specs.Steps.{Shown, Value}
use Rattle.f77_ast.specs.Places.{Meant, Constant, Variable, Function, Names, Places, scalar_place}
use Rattle.f77_ast.specs.Writes.{no_locks}
use Rattle.f77_ast.specs.Plans.{Plan, Normal, steps_of}
use Rattle.f77_ast.specs.Lists.{list_plan}
use Rattle.f77_ast.specs.Statements.{Scope, parts}
use Rattle.f77_ast.specs.Programs.{Program, no_module}
use Rattle.f77_meaning.specs.Modules.{Known}
use Rattle.f77_meaning.specs.Linked.{program_of}
use Rattle.f77_meaning.proofs.CaseWords.{bound, symbol, main_module, graph, stmts_of}
use Rattle.laws_interleavings.specs.Reductions.{Sum, Max, And as AndOp}
use Rattle.laws_interleavings.specs.Rides.{Outside, Rides}
use Rattle.laws_interleavings.specs.Marks.{Ended, OutOfPicks, Parallel}
use Rattle.laws_interleavings.specs.Accumulating.{Reduction, summed_parts}
use Rattle.laws_interleavings.specs.MarkedPrograms.{Directives, marked_run}
use Rattle.f77_ast.proofs.Example.{i}
use Rattle.f77_ast.proofs.ExampleLoops.{k}

-- ---- the program

abbrev l : ExprTree
l = name (codes "L")

abbrev m : ExprTree
m = name (codes "M")

abbrev element_of_b : ExprTree → ExprTree
element_of_b e = element (codes "B") (exprs_of (e ∷ []))

abbrev body : StmtTrees
body = stmts_of (
    stmt 8 None (assign k (binary Add k (element_of_b i)))
    ∷ stmt 9 None (assign l (binary And l (binary Gt (element_of_b i) (int (pos 0)))))
    ∷ stmt 10 (Some 20) (assign m (element (codes "MAX") (exprs_of (m ∷ element_of_b i ∷ []))))
    ∷ [])

abbrev module_p : Known
module_p = main_module (codes "P")
    (stmts_of (
    stmt 1 None (assign (element_of_b (int (pos 1))) (int (pos 2147483647)))
    ∷ stmt 2 None (assign (element_of_b (int (pos 2))) (unary Minus (int (pos 10))))
    ∷ stmt 3 None (assign (element_of_b (int (pos 3))) (int (pos 5)))
    ∷ stmt 4 None (assign k (int (pos 0)))
    ∷ stmt 5 None (assign l (log true))
    ∷ stmt 6 None (assign m (unary Minus (int (pos 7))))
    ∷ stmt 7 None (do_loop (loop (codes "I") (int (pos 1)) (int (pos 3)) None body))
    ∷ stmt 11 None (print (exprs_of (k ∷ l ∷ m ∷ [])))
    ∷ []))
    (symbol (codes "B") scalar.Int (bound (int (pos 1)) (Some (int (pos 3))) ∷ []) (Local 1 0) false []
    ∷ symbol (codes "I") scalar.Int [] (Local 2 0) false []
    ∷ symbol (codes "K") scalar.Int [] (Local 3 0) false []
    ∷ symbol (codes "L") scalar.Log [] (Local 4 0) false []
    ∷ symbol (codes "M") scalar.Int [] (Local 5 0) false []
    ∷ [])

abbrev program : Program
program = program_of (module_p ∷ []) (graph (codes "P" ∷ []) [] [])

abbrev clauses : List Reduction
clauses = record { name = codes "K"; op = Sum } ∷ record { name = codes "L"; op = AndOp } ∷ record { name = codes "M"; op = Max } ∷ []

-- statement 7 has a directive with these clauses
abbrev directive : Directives
directive x s = if nat_eq s 7 then Some (record { private = []; reductions = clauses }) else None

abbrev run_by : List ℕ → Parallel
run_by picks = marked_run program 0 directive (picks ∷ []) []

abbrev line : List (List Shown)
line = (Value (content Int (pos 2147483642)) ∷ Value (content Log (pos 0)) ∷ Value (content Int (pos 2147483647)) ∷ []) ∷ []

-- ---- an iteration shares its three reads of B; then there are nine copies, those of K, L and M of the first iteration first

abbrev one_by_one : List ℕ
one_by_one = 0 ∷ 0 ∷ 0 ∷ 0 ∷ 0 ∷ 0 ∷ 0 ∷ 0 ∷ 0 ∷ []

abbrev in_turn : List ℕ
in_turn = 2 ∷ 1 ∷ 0 ∷ 2 ∷ 1 ∷ 0 ∷ 0 ∷ 0 ∷ 0 ∷ []

-- the copies in their order
abbrev in_order : Parallel
in_order = run_by (one_by_one ++ one_by_one)

in_order_ends : in_order.outcome ≡ Ended Normal
unfolding int_wrap
in_order_ends = refl

in_order_prints : in_order.printed ≡ line
unfolding int_wrap
in_order_prints = refl

-- of K those of the first iteration and of the third before that of the second: the sum passes 2147483647 on the way
abbrev third_before_second : List ℕ
third_before_second = 0 ∷ 5 ∷ 2 ∷ 0 ∷ 0 ∷ 0 ∷ 0 ∷ 0 ∷ 0 ∷ []

abbrev on_the_way : Parallel
on_the_way = run_by (in_turn ++ 0 ∷ 5 ∷ [])

abbrev unit_in : Meant → ℕ
unit_in (Constant c) = 0
unit_in (Variable v) = (program.main.fixed v).first
unit_in Function = 0

abbrev unit_of_k : ℕ
unit_of_k = unit_in (program.main.names (codes "K"))

wraps_on_the_way : on_the_way.store unit_of_k ≡ content Int (negsuc 2147483643)
unfolding int_wrap
wraps_on_the_way = refl

is_out_there : on_the_way.outcome ≡ OutOfPicks
unfolding int_wrap
is_out_there = refl

abbrev overflows : Parallel
overflows = run_by (in_turn ++ third_before_second)

overflows_ends : overflows.outcome ≡ Ended Normal
unfolding int_wrap
overflows_ends = refl

overflows_prints : overflows.printed ≡ line
unfolding int_wrap
overflows_prints = refl

-- the last copy first
abbrev backwards : Parallel
backwards = run_by (in_turn ++ 8 ∷ 7 ∷ 6 ∷ 5 ∷ 4 ∷ 3 ∷ 2 ∷ 1 ∷ 0 ∷ [])

backwards_ends : backwards.outcome ≡ Ended Normal
unfolding int_wrap
backwards_ends = refl

backwards_prints : backwards.printed ≡ line
unfolding int_wrap
backwards_prints = refl

-- ---- K=K+1 and then J=K: the loop uses K otherwise

abbrev names : Names
names x = if bytes_eq x (codes "K") then Variable 0 else if bytes_eq x (codes "J") then Variable 1 else Function

abbrev places : Places
places v = scalar_place v Int

abbrev sc : Scope
sc = record { module_name = codes "Q"; names = names; turns = 0; own_unit = λ n a. 2; callee = λ x. no_module }

abbrev sum_of_k : List Reduction
sum_of_k = record { name = codes "K"; op = Sum } ∷ []

abbrev uses_k : StmtTrees
uses_k = stmts_of (stmt 2 None (assign k (binary Add k (int (pos 1)))) ∷ stmt 3 None (assign (name (codes "J")) k) ∷ [])

abbrev plain_body : Plan
plain_body = list_plan 0 (parts uses_k sc places no_locks)

abbrev body_of_processes : Plan
body_of_processes = list_plan 0 (summed_parts sum_of_k uses_k sc places no_locks)

-- after the read of K that is to begin an accumulation J is written
is_refused : Rides (record { unit = 0; op = Sum } ∷ []) Outside (steps_of plain_body) (steps_of body_of_processes) → ⊥
is_refused r = let q : 1 ≡ 0 = ((r.1.1.1 (pos 0) (pos 0)).3.1.1.1 (pos 0) (pos 0)).0 in absurd (omega (arith, q))
