-- The text of a program of loops and CALLs.
use Rattle.std.specs.Prelude.{ℕ, zero, suc, ◌%◌, nat_eq, List, [], ◌++◌, codes, decimal, if◌then◌else◌}

-- iterations that do not depend on one another
abbrev pub sum_part : ℕ → List ℕ
sum_part k = codes "      DO I=1,100\n      A(I)=B(I)+" ++ (decimal k ++ codes "\n      END DO\n")

-- each iteration reads what the one before wrote
abbrev pub recurrence_part : ℕ → List ℕ
recurrence_part k = codes "      DO I=2,100\n      A(I)=A(I-1)+" ++ (decimal k ++ codes "\n      END DO\n")

-- every second element is read
abbrev pub stride_part : ℕ → List ℕ
stride_part k = codes "      DO I=1,50\n      B(I)=A(2*I)+" ++ (decimal k ++ codes "\n      END DO\n")

abbrev pub call_part : List ℕ
call_part = codes "      CALL S(A,100)\n"

-- by the rest of the division by 4
abbrev pub part : ℕ → List ℕ
part k =
    if nat_eq (k % 4) 0 then sum_part k
    else if nat_eq (k % 4) 1 then recurrence_part k
    else if nat_eq (k % 4) 2 then stride_part k
    else call_part

-- the parts up to this one
abbrev pub parts_to : ℕ → List ℕ
parts_to zero = []
parts_to (suc n) = parts_to n ++ part (suc n)

abbrev pub beginning : List ℕ
beginning = codes "      PROGRAM G\n      INTEGER A(100),B(100)\n      DATA A/100*0/,B/100*0/\n"

abbrev pub ending : List ℕ
ending = codes "      END\n      SUBROUTINE S(X,N)\n      INTEGER X(N)\n      DO I=1,N\n      X(I)=X(I)+1\n      END DO\n      END\n"

-- a main program of so many parts, and the subroutine that it calls
abbrev pub sample_program : ℕ → List ℕ
sample_program n = (beginning ++ parts_to n) ++ ending
