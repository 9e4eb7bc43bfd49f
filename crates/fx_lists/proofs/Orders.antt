-- Lemmas on comparisons.
use Rattle.std.proofs.Common.{Ordering, arith, false, refl, true, ℕ, ◌≡◌}
use Rattle.std.proofs.lemmas.Bool.Decides.{nat_tests}
use Rattle.std.specs.Ordering.{MatchOrdering, is_eq, is_lt, nat_cmp, ordering_reverse, ordering_then}
use Rattle.std.specs.declared.cmp.Ordering.TheVariants.{Equal, Greater, Less}

pub at_equal : (A B C : Type 0) (o : Ordering) → MatchOrdering o A B C → o ≡ Equal → B
at_equal A B C Less m e = cc
at_equal A B C Equal m e = m
at_equal A B C Greater m e = cc

pub neither_eq : (o : Ordering) → is_lt o ≡ false → is_lt (ordering_reverse o) ≡ false → is_eq o ≡ true
neither_eq Less a b = cc
neither_eq Equal a b = refl
neither_eq Greater a b = cc

pub same_numbers : (m n : ℕ) → nat_cmp m n ≡ Equal → m ≡ n
same_numbers m n e = grind (arith, nat_tests)

pub then_equal : (o p : Ordering) → ordering_then o p ≡ Equal → (o ≡ Equal) × (p ≡ Equal)
then_equal Less p e = cc
then_equal Equal p e = (refl, e)
then_equal Greater p e = cc

pub then_nothing : (o : Ordering) → ordering_then o Equal ≡ o
then_nothing Less = refl
then_nothing Equal = refl
then_nothing Greater = refl

pub no_equal_less : {A : Type 0} → Equal ≡ Less → A
no_equal_less e = absurd (cc)
