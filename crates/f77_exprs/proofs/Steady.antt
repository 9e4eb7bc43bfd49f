-- Names, numbers and constants do not lengthen the rest.
use Rattle.std.proofs.Common.{ℕ, ◌≤◌, List, [], ◌∷◌, length, arith, Option, Some, None, Bool, true, false, if◌then◌else◌}
use Rattle.std.specs.Prelude.{nat_eq, ◌||◌}
use Rattle.std.specs.Char.{is_ascii_digit}
use Rattle.f77_exprs.specs.State.{State, ◌>>=◌}
use Rattle.f77_exprs.specs.Lexical.{in_name, digit_first, letter_first, skip_name, skip_digits, name_at, after_point, after_digits, skip_sign, after_exponent, exponent_or, real_end, after_real, number, number_by, constant, with_front}
use Rattle.f77_exprs.specs.Grammar.{constant_at}
use Rattle.f77_exprs.proofs.Same.{Within}
use Rattle.fx_lists.proofs.Lists.{if_short}

abbrev pub Fits : Option (List ℕ) → ℕ → Type 0
Fits None k = Unit {0}
Fits (Some r) k = length r ≤ k

fits-le : (o : Option (List ℕ)) (j k : ℕ) → Fits o j → j ≤ k → Fits o k
fits-le None j k h l = tt
fits-le (Some r) j k h l = omega (arith, h)

if_fits : (t : Bool) (o p : Option (List ℕ)) (k : ℕ) → Fits o k → Fits p k → Fits (if t then o else p) k
if_fits true o p k x y = x
if_fits false o p k x y = y

name_short : (text : List ℕ) → length (skip_name text) ≤ length text
name_short [] = omega arith
name_short (c ∷ cs) = if_short (in_name c) (skip_name cs) (c ∷ cs) (length (c ∷ cs)) (omega (arith, name_short cs)) (omega arith)

digits_short : (text : List ℕ) → length (skip_digits text) ≤ length text
digits_short [] = omega arith
digits_short (c ∷ cs) = if_short (is_ascii_digit c) (skip_digits cs) (c ∷ cs) (length (c ∷ cs)) (omega (arith, digits_short cs)) (omega arith)

sign_short : (text : List ℕ) → length (skip_sign text) ≤ length text
sign_short [] = omega arith
sign_short (c ∷ cs) = if_short (nat_eq c 43 || nat_eq c 45) cs (c ∷ cs) (length (c ∷ cs)) (omega arith) (omega arith)

point_fits : (had : Bool) (text : List ℕ) → Fits (after_point had text) (length text)
point_fits had [] = tt
point_fits had (c ∷ cs) = if_fits _ (Some (skip_digits cs)) None (length (c ∷ cs)) (omega (arith, digits_short cs)) tt

exponent_fits : (text : List ℕ) → Fits (after_exponent text) (length text)
exponent_fits [] = tt
exponent_fits (c ∷ cs) =
    let d : Fits (after_digits (skip_sign cs)) (length (skip_sign cs)) = if_fits (digit_first (skip_sign cs)) (Some (skip_digits (skip_sign cs))) None (length (skip_sign cs)) (digits_short (skip_sign cs)) tt in
    if_fits (nat_eq c 68 || nat_eq c 69) (after_digits (skip_sign cs)) None (length (c ∷ cs))
    (fits-le (after_digits (skip_sign cs)) (length (skip_sign cs)) (length (c ∷ cs)) d (omega (arith, sign_short cs))) tt

with_short : (text : List ℕ) (o : Option (List ℕ)) → Fits o (length text) → length (exponent_or text o) ≤ length text
with_short text (Some r) h = h
with_short text None h = omega arith

end_fits : (text : List ℕ) (o : Option (List ℕ)) → Fits o (length text) → Fits (real_end text o) (length text)
end_fits text None h = exponent_fits text
end_fits text (Some r) h = omega (arith, with_short r (after_exponent r) (exponent_fits r), h)

real_fits : (text : List ℕ) → Fits (after_real text) (length text)
real_fits text = fits-le (after_real text) (length (skip_digits text)) (length text)
    (end_fits (skip_digits text) (after_point (digit_first text) (skip_digits text)) (point_fits (digit_first text) (skip_digits text))) (digits_short text)

number_fits : (s : State) (o : Option (List ℕ)) → Fits o (length s.rest) → Within (Some (number_by s o)) (length s.rest)
number_fits s (Some r) h = h
number_fits s None h = digits_short s.rest

pub number-within : (s : State) → Within (Some (number s)) (length s.rest)
unfolding number
number-within s = number_fits s (after_real s.rest) (real_fits s.rest)

if_within : {A : Type 0} (t : Bool) (o : A × State) (k : ℕ) → length o.1.rest ≤ k → Within (if t then Some o else None) k
if_within true o k h = h
if_within false o k h = tt

pub name_at-within : (s : State) → Within (name_at s) (length s.rest)
unfolding name_at
name_at-within s = if_within (letter_first s.rest) _ (length s.rest) (name_short s.rest)

abbrev pub Ends : Option (List ℕ × List ℕ) → ℕ → Type 0
Ends None k = Unit {0}
Ends (Some r) k = length r.1 ≤ k

front_ends : (f : List ℕ) (o : Option (List ℕ × List ℕ)) (j k : ℕ) → Ends o j → j ≤ k → Ends (with_front f o) k
front_ends f None j k h l = tt
front_ends f (Some r) j k h l = omega (arith, h)

if_ends : (t : Bool) (o p : Option (List ℕ × List ℕ)) (k : ℕ) → Ends o k → Ends p k → Ends (if t then o else p) k
if_ends true o p k x y = x
if_ends false o p k x y = y

constant_ends : (text : List ℕ) → Ends (constant text) (length text)
constant_ends [] = tt
constant_ends (c ∷ []) = if_ends (nat_eq c 39) (Some ([], [])) None 1 (omega arith) tt
constant_ends (c ∷ d ∷ cs) =
    if_ends (nat_eq c 39) _ (with_front (c ∷ []) (constant (d ∷ cs))) (length (c ∷ d ∷ cs))
    (if_ends (nat_eq d 39) (with_front (39 ∷ []) (constant cs)) (Some ([], d ∷ cs)) (length (c ∷ d ∷ cs))
    (front_ends (39 ∷ []) (constant cs) (length cs) (length (c ∷ d ∷ cs)) (constant_ends cs) (omega arith)) (omega arith))
    (front_ends (c ∷ []) (constant (d ∷ cs)) (length (d ∷ cs)) (length (c ∷ d ∷ cs)) (constant_ends (d ∷ cs)) (omega arith))

chars_within : {A : Type 0} (o : Option (List ℕ × List ℕ)) (s : State) (f : List ℕ → A) → Ends o (length s.rest)
    → Within (o >>= λ c. Some (f c.0, record s { rest = c.1 })) (length s.rest)
chars_within None s f h = tt
chars_within (Some c) s f h = h

pub constant_at-within : (s : State) → Within (constant_at s) (length s.rest)
unfolding constant_at
constant_at-within s = chars_within (constant s.rest) s _ (constant_ends s.rest)
