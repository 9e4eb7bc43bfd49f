-- A program with one marked loop, run by two schedules, by computation: N=10, then DO 10 I=1,2 with K=I*I and A(I)=K+N in it and with PRIVATE(K), then PRINT *,A(1),A(2).
-- And loops with REDUCTION(+:K) in which nothing is added to K.
use Rattle.std.proofs.Common.{◌≡◌, ℕ, List, [], ◌∷◌, None, Some, true, false, if◌then◌else◌, nat_eq, refl, sym, ap, ◌∙◌, true≢false, ℤ, pos}
use Rattle.std.specs.Prelude.{codes}
use Rattle.f77_ast.specs.declared.decl.Scalar.TheVariants as scalar
use Rattle.f77_ast.specs.declared.expr.BinaryOp.TheVariants.{Add, Mul, Gt}
use Rattle.f77_ast.specs.Plain.{exprs_of}
use Rattle.f77_ast.specs.Trees.{ExprTree, WhatTree, int, name, element, binary, stmt, assign, logical_if, do_loop, loop, print}
use Rattle.f77_ast.specs.Store.{Int, Undefined, content, undefined}
use Rattle.f77_ast.specs.Steps.{Shown, Value}
use Rattle.f77_ast.specs.Plans.{Flow, Normal}
use Rattle.f77_ast.specs.Programs.{Program, program_run}
use Rattle.f77_ast.specs.Runs.{Ran, store_of}
use Rattle.f77_ast.specs.declared.symbol.Place.TheVariants.{Local}
use Rattle.f77_meaning.specs.Modules.{Known}
use Rattle.f77_meaning.specs.Linked.{program_of}
use Rattle.f77_meaning.proofs.CaseWords.{bound, symbol, main_module, graph, stmts_of}
use Rattle.laws_interleavings.specs.Marks.{Ended, Faulted, OutOfPicks, Parallel}
use Rattle.laws_interleavings.specs.Sound.{may_lose_one_of, SameEnd}
use Rattle.laws_interleavings.specs.Reductions.{Sum}
use Rattle.laws_interleavings.specs.MarkedPrograms.{Directives, private_only, marked_run}
use Rattle.f77_ast.proofs.Example.{i}
use Rattle.f77_ast.proofs.ExampleLoops.{k}

-- ---- the program

abbrev n : ExprTree
n = name (codes "N")

abbrev element_of_a : ExprTree → ExprTree
element_of_a e = element (codes "A") (exprs_of (e ∷ []))

abbrev module_p : Known
module_p = main_module (codes "P")
    (stmts_of (
    stmt 1 None (assign n (int (pos 10)))
    ∷ stmt 2 None (do_loop (loop (codes "I") (int (pos 1)) (int (pos 2)) None (stmts_of (
    stmt 3 None (assign k (binary Mul i i)) ∷ stmt 4 (Some 10) (assign (element_of_a i) (binary Add k n)) ∷ []))))
    ∷ stmt 5 None (print (exprs_of (element_of_a (int (pos 1)) ∷ element_of_a (int (pos 2)) ∷ [])))
    ∷ []))
    (symbol (codes "A") scalar.Int (bound (int (pos 1)) (Some (int (pos 2))) ∷ []) (Local 1 0) false []
    ∷ symbol (codes "I") scalar.Int [] (Local 2 0) false []
    ∷ symbol (codes "K") scalar.Int [] (Local 3 0) false []
    ∷ symbol (codes "N") scalar.Int [] (Local 4 0) false []
    ∷ [])

abbrev program : Program
program = program_of (module_p ∷ []) (graph (codes "P" ∷ []) [] [])

-- statement 2 has a directive, with these names in PRIVATE
abbrev directive : List (List ℕ) → Directives
directive xs = private_only (λ x s. if nat_eq s 2 then Some xs else None)

abbrev run_by : List (List ℕ) → List ℕ → Parallel
run_by xs picks = marked_run program 0 (directive xs) (picks ∷ []) []

abbrev private_k : List (List ℕ)
private_k = codes "K" ∷ []

abbrev printed_line : ℤ → ℤ → List (List Shown)
printed_line a b = (Value (content Int a) ∷ Value (content Int b) ∷ []) ∷ []

-- ---- the two accesses of an iteration that are shared: it reads N, and writes its element

-- the second iteration after the first
abbrev in_order : Parallel
in_order = run_by private_k (0 ∷ 0 ∷ 0 ∷ 0 ∷ [])

-- in turn, the second first
abbrev in_turn : Parallel
in_turn = run_by private_k (1 ∷ 0 ∷ 1 ∷ 0 ∷ [])

in_order_ends : in_order.outcome ≡ Ended Normal
in_order_ends = refl

in_order_prints : in_order.printed ≡ printed_line (pos 11) (pos 14)
in_order_prints = refl

in_turn_ends : in_turn.outcome ≡ Ended Normal
in_turn_ends = refl

in_turn_prints : in_turn.printed ≡ printed_line (pos 11) (pos 14)
in_turn_prints = refl

-- with a pick too few nothing is printed
abbrev too_short : Parallel
too_short = run_by private_k (1 ∷ 0 ∷ 1 ∷ [])

too_short_is_out : too_short.outcome ≡ OutOfPicks
too_short_is_out = refl

too_short_prints : too_short.printed ≡ []
too_short_prints = refl

-- ---- without PRIVATE they share K, too: the second iteration writes it before the first one reads it

abbrev shares_k : Parallel
shares_k = run_by [] (0 ∷ 1 ∷ 0 ∷ 0 ∷ 0 ∷ 0 ∷ 0 ∷ 0 ∷ [])

shares_k_prints : shares_k.printed ≡ printed_line (pos 14) (pos 14)
shares_k_prints = refl

-- with PRIVATE(N), too, N has no value in an iteration, which faults where it reads it: by whatever schedule, also one without a pick

abbrev private_n : List (List ℕ)
private_n = codes "K" ∷ codes "N" ∷ []

faults : (run_by private_n (0 ∷ 0 ∷ [])).outcome ≡ Faulted
faults = refl

faults_at_once : (run_by private_n []).outcome ≡ Faulted
faults_at_once = refl

-- ---- what has a value in the end: the symbols are A, I, K and N

abbrev unit_of_k : ℕ
unit_of_k = (program.main.fixed 3).first

abbrev unit_of_n : ℕ
unit_of_n = (program.main.fixed 4).first

-- K is left without a value, as a name of the directive may be
k_is_lost : (in_turn.store unit_of_k).tag ≡ Undefined
k_is_lost = refl

k_may_be_lost : may_lose_one_of in_turn.loops unit_of_k ≡ true
k_may_be_lost = refl

n_may_not : may_lose_one_of in_turn.loops unit_of_n ≡ false
n_may_not = refl

-- so a run that leaves N without a value does not end as the plain run

abbrev plain : Ran Flow
plain = program_run program 0 []

abbrev without_n : Parallel
without_n = record {
  outcome = in_turn.outcome;
  store = λ u. if nat_eq u unit_of_n then undefined (in_turn.store u) else in_turn.store u;
  printed = in_turn.printed;
  loops = in_turn.loops;
  schedule = in_turn.schedule;
  input = in_turn.input;
}

n_has_a_value : store_of plain.memory unit_of_n ≡ content Int (pos 10)
n_has_a_value = refl

int_is_a_type : Int ≡ Undefined → ⊥
int_is_a_type e = cc

n_stays : SameEnd plain without_n → ⊥
n_stays e = true≢false (sym (e.lost unit_of_n (λ t. int_is_a_type (ap (λ c. c.tag) (sym n_has_a_value) ∙ t)) refl))

-- ---- K=5, then DO I=1,last with one statement and with REDUCTION(+:K), then PRINT *,K

abbrev summing : ExprTree → WhatTree → Program
summing last what = program_of
    (main_module (codes "P")
    (stmts_of (
    stmt 1 None (assign k (int (pos 5)))
    ∷ stmt 2 None (do_loop (loop (codes "I") (int (pos 1)) last None (stmts_of (stmt 3 None what ∷ []))))
    ∷ stmt 5 None (print (exprs_of (k ∷ [])))
    ∷ []))
    (symbol (codes "I") scalar.Int [] (Local 1 0) false [] ∷ symbol (codes "K") scalar.Int [] (Local 2 0) false [] ∷ []) ∷ [])
    (graph (codes "P" ∷ []) [] [])

abbrev sum_of_k : Directives
sum_of_k x s = if nat_eq s 2 then Some (record { private = []; reductions = record { name = codes "K"; op = Sum } ∷ [] }) else None

abbrev five : List (List Shown)
five = (Value (content Int (pos 5)) ∷ []) ∷ []

-- no iteration
abbrev empty : Parallel
empty = marked_run (summing (int (pos 0)) (assign k (binary Add k i))) 0 sum_of_k ([] ∷ []) []

empty_ends : empty.outcome ≡ Ended Normal
empty_ends = refl

empty_prints : empty.printed ≡ five
empty_prints = refl

-- IF (I.GT.5) K=K+I: no iteration writes its copy, so there is none to combine
abbrev idle : Parallel
idle = marked_run (summing (int (pos 2)) (logical_if (binary Gt i (int (pos 5))) (stmt 4 None (assign k (binary Add k i))))) 0 sum_of_k ([] ∷ []) []

idle_ends : idle.outcome ≡ Ended Normal
idle_ends = refl

idle_prints : idle.printed ≡ five
idle_prints = refl
