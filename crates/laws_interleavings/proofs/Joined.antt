-- The operators of reductions: amounts may be joined in any order.
use Rattle.std.proofs.Common.{◌≡◌, List, [], ◌∷◌, ◌++◌, Bool, true, false, ◌&&◌, ◌||◌, ℤ, pos, negsuc, ◌+ℤ◌, refl, sym, ap, ◌∙◌, arith}
use Rattle.std.specs.Prelude.{int_le}
use Rattle.std.specs.Int.{int_max, int_min, int_wrap, w32}
use Rattle.std.proofs.lemmas.Int.{ints, int_wrap-add_left, int_wrap-add_right}
use Rattle.std.proofs.lemmas.Bool.{and_parts}
use Rattle.f77_ast.specs.Store.{truth}
use Rattle.f77_ast.specs.Numbers.{in_range, is_true}
use Rattle.laws_interleavings.specs.Reductions.{ReduceOp, Sum, Max, Min, And, Or, start_of, joined}
use Rattle.laws_interleavings.specs.ReducedLoops.{HasRange}
use Rattle.fx_lists.proofs.Booleans.{and_true, or_assoc, or_false}
use Rattle.f77_ast.proofs.Shared.{truth_true as truth_back}

and_assoc : (a b c : Bool) → (a && (b && c)) ≡ ((a && b) && c)
and_assoc true b c = refl
and_assoc false b c = refl

and_comm : (a b : Bool) → (a && b) ≡ (b && a)
and_comm true true = refl
and_comm true false = refl
and_comm false true = refl
and_comm false false = refl

or_comm : (a b : Bool) → (a || b) ≡ (b || a)
or_comm true true = refl
or_comm true false = refl
or_comm false true = refl
or_comm false false = refl

sum_assoc : (x y z : ℤ) → (x +ℤ (y +ℤ z)) ≡ ((x +ℤ y) +ℤ z)
sum_assoc x y z = omega (arith, ints)

sum_comm : (x y : ℤ) → (x +ℤ y) ≡ (y +ℤ x)
sum_comm x y = omega (arith, ints)

max_assoc : (x y z : ℤ) → int_max x (int_max y z) ≡ int_max (int_max x y) z
max_assoc x y z = grind (arith, ints)

max_comm : (x y : ℤ) → int_max x y ≡ int_max y x
max_comm x y = grind (arith, ints)

min_assoc : (x y z : ℤ) → int_min x (int_min y z) ≡ int_min (int_min x y) z
min_assoc x y z = grind (arith, ints)

min_comm : (x y : ℤ) → int_min x y ≡ int_min y x
min_comm x y = grind (arith, ints)

pub joined_assoc : (o : ReduceOp) (x y z : ℤ) → joined o x (joined o y z) ≡ joined o (joined o x y) z
joined_assoc Sum x y z = int_wrap-add_right w32 x (y +ℤ z) ∙ ap (int_wrap w32) (sum_assoc x y z) ∙ sym (int_wrap-add_left w32 (x +ℤ y) z)
joined_assoc Max x y z = max_assoc x y z
joined_assoc Min x y z = min_assoc x y z
joined_assoc And x y z =
    ap (λ b. truth (is_true x && b)) (truth_back (is_true y && is_true z))
    ∙ ap truth (and_assoc (is_true x) (is_true y) (is_true z))
    ∙ ap (λ b. truth (b && is_true z)) (sym (truth_back (is_true x && is_true y)))
joined_assoc Or x y z =
    ap (λ b. truth (is_true x || b)) (truth_back (is_true y || is_true z))
    ∙ ap truth (or_assoc (is_true x) (is_true y) (is_true z))
    ∙ ap (λ b. truth (b || is_true z)) (sym (truth_back (is_true x || is_true y)))

pub joined_comm : (o : ReduceOp) (x y : ℤ) → joined o x y ≡ joined o y x
joined_comm Sum x y = ap (int_wrap w32) (sum_comm x y)
joined_comm Max x y = max_comm x y
joined_comm Min x y = min_comm x y
joined_comm And x y = ap truth (and_comm (is_true x) (is_true y))
joined_comm Or x y = ap truth (or_comm (is_true x) (is_true y))

pub joined_turned : (o : ReduceOp) (x a b : ℤ) → joined o (joined o x a) b ≡ joined o (joined o x b) a
joined_turned o x a b = sym (joined_assoc o x a b) ∙ ap (joined o x) (joined_comm o a b) ∙ joined_assoc o x b a

-- the number after these amounts, one after the other
abbrev pub accumulated : ReduceOp → ℤ → List ℤ → ℤ
accumulated o m [] = m
accumulated o m (a ∷ as') = accumulated o (joined o m a) as'

pub accumulated_append : (o : ReduceOp) (m : ℤ) (xs ys : List ℤ) → accumulated o m (xs ++ ys) ≡ accumulated o (accumulated o m xs) ys
accumulated_append o m [] ys = refl
accumulated_append o m (x ∷ xs) ys = accumulated_append o (joined o m x) xs ys

pub joined_accumulated : (o : ReduceOp) (x y : ℤ) (as' : List ℤ) → joined o x (accumulated o y as') ≡ accumulated o (joined o x y) as'
joined_accumulated o x y [] = refl
joined_accumulated o x y (a ∷ as') = joined_accumulated o x (joined o y a) as' ∙ ap (λ n. accumulated o n as') (joined_assoc o x y a)

-- the number that a copy begins with makes no difference where an amount is joined
abbrev pub Absorbs : ReduceOp → ℤ → Type 0
Absorbs o x = (a : ℤ) → joined o (joined o x (start_of o)) a ≡ joined o x a

absorbs_more : (o : ReduceOp) (x b : ℤ) → Absorbs o x → Absorbs o (joined o x b)
absorbs_more o x b k a =
    ap (λ n. joined o n a) (joined_turned o x b (start_of o))
    ∙ joined_turned o (joined o x (start_of o)) b a
    ∙ ap (λ n. joined o n b) (k a)
    ∙ joined_turned o x a b

pub absorbs_all : (o : ReduceOp) (x : ℤ) (as' : List ℤ) → Absorbs o x → Absorbs o (accumulated o x as')
absorbs_all o x [] k = k
absorbs_all o x (a ∷ as') k = absorbs_all o (joined o x a) as' (absorbs_more o x a k)

-- a copy with these amounts, joined
pub joined_copy : (o : ReduceOp) (x a : ℤ) (as' : List ℤ) → Absorbs o x → joined o x (accumulated o (start_of o) (a ∷ as')) ≡ accumulated o x (a ∷ as')
joined_copy o x a as' k = joined_accumulated o x (start_of o) (a ∷ as') ∙ ap (λ n. accumulated o n as') (k a)

-- ---- numbers in range

zero_more : (x : ℤ) → (x +ℤ pos 0) ≡ x
zero_more x = omega (arith, ints)

max_keeps : (x : ℤ) → in_range x ≡ true → int_max x (negsuc 2147483647) ≡ x
max_keeps x e = let q = and_parts (int_le (negsuc 2147483647) x) (int_le x (pos 2147483647)) e in grind (arith, ints)

min_keeps : (x : ℤ) → in_range x ≡ true → int_min x (pos 2147483647) ≡ x
min_keeps x e = let q = and_parts (int_le (negsuc 2147483647) x) (int_le x (pos 2147483647)) e in grind (arith, ints)

pub range_absorbs : (o : ReduceOp) (x : ℤ) → HasRange o x → Absorbs o x
range_absorbs Sum x e a = int_wrap-add_left w32 (x +ℤ pos 0) a ∙ ap (λ n. int_wrap w32 (n +ℤ a)) (zero_more x)
range_absorbs Max x e a = ap (λ n. int_max n a) (max_keeps x e)
range_absorbs Min x e a = ap (λ n. int_min n a) (min_keeps x e)
range_absorbs And x e a = ap (λ b. truth (b && is_true a)) (truth_back (is_true x && true) ∙ and_true (is_true x))
range_absorbs Or x e a = ap (λ b. truth (b || is_true a)) (truth_back (is_true x || false) ∙ or_false (is_true x))
