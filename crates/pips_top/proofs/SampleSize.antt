-- A sample program is no longer than an input may be.
use Rattle.std.proofs.Common.{ℕ, zero, suc, ◌*◌, ◌≤◌, ◌<◌, Bool, true, false, List, ◌++◌, length, codes, decimal, arith, length-append}
use Rattle.std.specs.Prelude.{◌%◌, nat_eq, if◌then◌else◌}
use Rattle.std.proofs.lemmas.Fmt.{length-decimal-le_succ}
use Rattle.pips_top.specs.Sample.{sum_part, recurrence_part, stride_part, call_part, part, parts_to, beginning, ending, sample_program}

numbered : (a b : List ℕ) (k : ℕ) → k < 256 → length a ≤ 100 → length b ≤ 100 → length (a ++ (decimal k ++ b)) ≤ 500
numbered a b k small h e =
    omega (arith, length-append a (decimal k ++ b), length-append (decimal k) b, length-decimal-le_succ k (omega (arith, small)), small, h, e)

choice : (t : Bool) (xs ys : List ℕ) → length xs ≤ 500 → length ys ≤ 500 → length (if t then xs else ys) ≤ 500
choice true xs ys h e = h
choice false xs ys h e = e

part_short : (k : ℕ) → k < 256 → length (part k) ≤ 500
part_short k small =
    choice (nat_eq (k % 4) 0) (sum_part k) (if nat_eq (k % 4) 1 then recurrence_part k else if nat_eq (k % 4) 2 then stride_part k else call_part)
    (numbered (codes "      DO I=1,100\n      A(I)=B(I)+") (codes "\n      END DO\n") k small (omega arith) (omega arith))
    (choice (nat_eq (k % 4) 1) (recurrence_part k) (if nat_eq (k % 4) 2 then stride_part k else call_part)
    (numbered (codes "      DO I=2,100\n      A(I)=A(I-1)+") (codes "\n      END DO\n") k small (omega arith) (omega arith))
    (choice (nat_eq (k % 4) 2) (stride_part k) call_part
    (numbered (codes "      DO I=1,50\n      B(I)=A(2*I)+") (codes "\n      END DO\n") k small (omega arith) (omega arith))
    (omega arith)))

parts_short : (n : ℕ) → n < 256 → length (parts_to n) ≤ n * 500
parts_short zero small = omega arith
parts_short (suc n) small =
    omega (arith, length-append (parts_to n) (part (suc n)), parts_short n (omega (arith, small)), part_short (suc n) small)

pub sample_short : (n : ℕ) → n < 256 → length (sample_program n) ≤ 1048576
sample_short n small =
    let start : length beginning ≤ 1000 = omega arith in
    let end : length ending ≤ 1000 = omega arith in
    omega (arith, length-append (beginning ++ parts_to n) ending, length-append beginning (parts_to n), parts_short n small, small, start, end)
