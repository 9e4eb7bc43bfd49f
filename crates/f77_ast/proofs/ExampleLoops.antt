-- Loops, jumps, calls, input and elements run, as equations.
use Rattle.std.proofs.Common.{◌≡◌, ℕ, zero, suc, List, [], ◌∷◌, ◌++◌, None, Some, false, refl, pos, negsuc}
use Rattle.std.specs.Prelude.{codes}
use Rattle.f77_ast.specs.declared.expr.BinaryOp.TheVariants.{Add, Lt}
use Rattle.f77_ast.specs.Trees.{ExprTree, int, name, element, binary, no_exprs, more_exprs, StmtTrees, WhatTree, stmt, assign, print, read, goto, call, logical_if, do_loop, loop, no_stmts, more_stmts}
use Rattle.f77_ast.specs.Store.{Int, content, empty_store}
use Rattle.f77_ast.specs.Faults.{Arithmetic, Bounds, Input, Locked, Shared}
use Rattle.f77_ast.specs.Steps.{Faulty, OutOfTurns, Value, Shown}
use Rattle.f77_ast.specs.Runs.{Event, Arrived, Read, Wrote, Printed, Took, Broke, Answer}
use Rattle.f77_ast.specs.Plans.{Flow}
use Rattle.f77_ast.specs.Places.{Places, scalar_place}
use Rattle.f77_ast.specs.Calls.{Dummy}
use Rattle.f77_ast.specs.Numbers.{power, quotient, remainder}
use Rattle.f77_ast.specs.Programs.{Program, Routine, program_run}
use Rattle.f77_ast.specs.Straight.{numbered}
use Rattle.f77_ast.proofs.Example.{i}

abbrev pub k : ExprTree
k = name (codes "K")

abbrev n : ℕ → ExprTree
n m = int (pos m)

-- J(e)
abbrev pub j_at : ExprTree → ExprTree
j_at e = element (codes "J") (more_exprs e no_exprs)

infixr 10 ◌⨾◌
abbrev ◌⨾◌ : ℕ × WhatTree → StmtTrees → StmtTrees
q ⨾ ss = more_stmts (stmt q.0 None q.1) ss

abbrev print_of : ExprTree → WhatTree
print_of e = print (more_exprs e no_exprs)

abbrev printed : List Event → List Shown
printed [] = []
printed (Arrived p ∷ t) = printed t
printed (Read u c ∷ t) = printed t
printed (Wrote u c ∷ t) = printed t
printed (Printed xs ∷ t) = xs ++ printed t
printed (Took o ∷ t) = printed t

-- I and K are scalars, J is an array of 3 elements from unit 10 on
abbrev places : Places
places zero = scalar_place 0 Int
places (suc zero) = scalar_place 1 Int
places (suc (suc zero)) = scalar_place 2 Int
places (suc (suc (suc m))) = record { first = 10; extent = 3; tag = Int; dims = record { low = pos 1; high = Some (pos 3) } ∷ [] }

abbrev routine : List ℕ → List Dummy → StmtTrees → Routine
routine x ds body = record { name = x; names = numbered (codes "I" ∷ codes "K" ∷ codes "J" ∷ []); dummies = ds; fixed = places; locals = []; common = λ u. false; own_unit = λ m p. 50; body = body }

abbrev program : StmtTrees → Program
program body = record { main = routine (codes "MAIN") [] body; others = []; initial = empty_store }

abbrev shows : Program → List Shown
shows p = printed (program_run p 5 []).trace

abbrev ends : Program → Answer Flow
ends p = (program_run p 5 []).answer

-- K=0; DO I=1,3; K=K+I; END DO; PRINT K; PRINT I
abbrev sums : Program
sums = program
    ((1, assign k (n 0))
    ⨾ (2, do_loop (loop (codes "I") (n 1) (n 3) None ((3, assign k (binary Add k i)) ⨾ no_stmts)))
    ⨾ (4, print_of k)
    ⨾ (5, print_of i) ⨾ no_stmts)

sums_shows : shows sums ≡ Value (content Int (pos 6)) ∷ Value (content Int (pos 4)) ∷ []
sums_shows = refl

-- DO I=3,1,-2; J(I)=I; END DO; PRINT J(1); PRINT J(2)
downwards_shows : ends (program
    ((1, do_loop (loop (codes "I") (n 3) (n 1) (Some (int (negsuc 1))) ((2, assign (j_at i) i) ⨾ no_stmts)))
    ⨾ (3, print_of (j_at (n 1)))
    ⨾ (4, print_of (j_at (n 4))) ⨾ no_stmts)) ≡ Broke (Faulty Bounds)
downwards_shows = refl

-- DO I=1,3; I=2; END DO
active_variable : ends (program ((1, do_loop (loop (codes "I") (n 1) (n 3) None ((2, assign i (n 2)) ⨾ no_stmts))) ⨾ no_stmts)) ≡ Broke (Faulty Locked)
active_variable = refl

-- DO I=1,3; DO I=1,2; END DO; END DO
inner_variable : ends (program ((1, do_loop (loop (codes "I") (n 1) (n 3) None ((2, do_loop (loop (codes "I") (n 1) (n 2) None no_stmts)) ⨾ no_stmts))) ⨾ no_stmts)) ≡ Broke (Faulty Locked)
inner_variable = refl

-- DO I=1,2147483647,2147483647; END DO
variable_overflows : ends (program ((1, do_loop (loop (codes "I") (n 1) (n 2147483647) (Some (n 2147483647)) no_stmts)) ⨾ no_stmts)) ≡ Broke (Faulty Arithmetic)
variable_overflows = refl

-- I=0; 10 I=I+1; IF (I.LT.3) GO TO 10; PRINT I
abbrev jumps : Program
jumps = program
    ((1, assign i (n 0))
    ⨾ more_stmts (stmt 2 (Some 10) (assign i (binary Add i (n 1))))
    ((3, logical_if (binary Lt i (n 3)) (stmt 4 None (goto 10)))
    ⨾ (5, print_of i) ⨾ no_stmts))

jumps_shows : shows jumps ≡ Value (content Int (pos 3)) ∷ []
jumps_shows = refl

too_few_turns : (program_run jumps 1 []).answer ≡ Broke OutOfTurns
too_few_turns = refl

-- READ I; PRINT I
reads_shows : printed (program_run (program ((1, read (more_exprs i no_exprs)) ⨾ (2, print_of i) ⨾ no_stmts)) 5 (content Int (pos 7) ∷ [])).trace ≡ Value (content Int (pos 7)) ∷ []
reads_shows = refl

no_input : ends (program ((1, read (more_exprs i no_exprs)) ⨾ no_stmts)) ≡ Broke (Faulty Input)
no_input = refl

-- SUBROUTINE ADD(I,K); I=I+K; END
abbrev add : Routine
add = routine (codes "ADD") (record { symbol = 1; tag = Int; bounds = [] } ∷ record { symbol = 2; tag = Int; bounds = [] } ∷ []) ((1, assign i (binary Add i k)) ⨾ no_stmts)

abbrev calling : ExprTree → ExprTree → Program
calling a b = record {
  main = routine (codes "MAIN") [] ((1, assign i (n 1)) ⨾ (2, call (codes "ADD") (more_exprs a (more_exprs b no_exprs))) ⨾ (3, print_of i) ⨾ no_stmts);
  others = add ∷ [];
  initial = empty_store;
}

-- CALL ADD(I,I+1); PRINT I
call_shows : shows (calling i (binary Add i (n 1))) ≡ Value (content Int (pos 3)) ∷ []
call_shows = refl

-- CALL ADD(I,I)
doubly_reached : ends (calling i i) ≡ Broke (Faulty Shared)
doubly_reached = refl

-- CALL ADD(I+1,I)
expression_written : ends (calling (binary Add i (n 1)) i) ≡ Broke (Faulty Locked)
expression_written = refl

-- SUBROUTINE LAST(K,J); INTEGER J(K); J(K)=K; END
abbrev last : Routine
last = routine (codes "LAST") (record { symbol = 2; tag = Int; bounds = [] } ∷ record { symbol = 3; tag = Int; bounds = record { low = n 1; high = Some k } ∷ [] } ∷ []) ((1, assign (j_at k) k) ⨾ no_stmts)

abbrev calling_last : ExprTree → ExprTree → Program
calling_last a b = record {
  main = routine (codes "MAIN") [] ((1, call (codes "LAST") (more_exprs a (more_exprs b no_exprs))) ⨾ (2, print_of (j_at (n 3))) ⨾ no_stmts);
  others = add ∷ last ∷ [];
  initial = empty_store;
}

-- CALL LAST(2,J(2)); PRINT J(3)
element_shows : shows (calling_last (n 2) (j_at (n 2))) ≡ Value (content Int (pos 2)) ∷ []
element_shows = refl

-- CALL LAST(4,J)
too_large : ends (calling_last (n 4) (name (codes "J"))) ≡ Broke (Faulty Bounds)
too_large = refl

-- 0**0, 2**31, 2**(-31), (-2)**31, 2**(-1), (-1)**(-3)
powers : power (pos 0) (pos 0) ∷ power (pos 2) (pos 31) ∷ power (pos 2) (negsuc 30) ∷ power (negsuc 1) (pos 31) ∷ power (pos 2) (negsuc 0) ∷ power (negsuc 0) (negsuc 2) ∷ []
    ≡ Some (pos 1) ∷ None ∷ None ∷ Some (negsuc 2147483647) ∷ Some (pos 0) ∷ Some (negsuc 0) ∷ []
powers = refl

-- -7/2, -2147483648/(-1), and MOD of the same
quotients : quotient (negsuc 6) (pos 2) ∷ quotient (negsuc 2147483647) (negsuc 0) ∷ remainder (negsuc 6) (pos 2) ∷ remainder (negsuc 2147483647) (negsuc 0) ∷ []
    ≡ Some (negsuc 2) ∷ None ∷ Some (negsuc 0) ∷ Some (pos 0) ∷ []
quotients = refl
