-- The normal form of a row.
use Rattle.std.specs.Prelude.{◌≡◌, ◌⊎◌, ℕ, zero, suc, ◌%◌, ◌^◌, max, Bool, true, false, ◌&&◌, if◌then◌else◌, nat_eq, nat_lt, List, [], ◌∷◌, map, ℤ, pos, neg_ℤ, int_lt, unsigned_abs}
use Rattle.std.specs.List.{list_all}
use Rattle.std.specs.Ordering.{int_eq}
use Rattle.std.specs.Int.{int_div_euclid}
use Rattle.affine_systems.specs.declared.row.Term.{Term}
use Rattle.affine_systems.specs.declared.row.Row.{Row}
use Rattle.affine_systems.specs.declared.row.Norm.{Norm}
use Rattle.affine_systems.specs.declared.row.Norm.TheVariants as answer
use Rattle.affine_systems.specs.Terms.{term, negated_terms}
use Rattle.affine_systems.specs.Rows.{row}

-- one of Euclid's steps; what follows is passed as a function, so that it is computed only where it is needed
abbrev pub euclid : ℕ → ℕ → (ℕ → ℕ → ℕ) → ℕ
euclid a zero next = a
euclid a (suc b) next = next (suc b) (a % suc b)

-- Euclid's steps, at most so many; 1 where they do not suffice
abbrev pub gcd_within : ℕ → ℕ → ℕ → ℕ
gcd_within zero a b = 1
gcd_within (suc n) a b = euclid a b (λ x y. gcd_within n x y)

unfoldable pub gcd : ℕ → ℕ → ℕ
gcd a b = gcd_within (suc (suc b)) a b

abbrev pub gcd_of : List Term → ℕ → ℕ
gcd_of [] g = g
gcd_of (t ∷ ts) g = gcd_of ts (gcd (unsigned_abs t.factor) g)

-- a number is the magnitude of one of the factors
abbrev pub IsSize : ℕ → List Term → Type 0
IsSize n [] = ⊥
IsSize n (t ∷ ts) = (n ≡ unsigned_abs t.factor) ⊎ IsSize n ts

-- what a row is divided by; at least 1
unfoldable pub divisor : List Term → ℕ → ℕ
divisor ts m = max 1 (gcd_of ts m)

-- the quotients, rounded down
abbrev pub divided : ℕ → List Term → List Term
divided g ts = map (λ t. term t.var (int_div_euclid t.factor (pos g))) ts

abbrev pub last_is_negative : List Term → Bool
last_is_negative [] = false
last_is_negative (t ∷ []) = int_lt t.factor (pos 0)
last_is_negative (t ∷ (u ∷ us)) = last_is_negative (u ∷ us)

-- below 2^62 in magnitude
unfoldable pub is_small : ℤ → Bool
is_small z = nat_lt (unsigned_abs z) (2 ^ 62)

abbrev pub are_small : List Term → Bool
are_small ts = list_all (λ (t : Term). is_small t.factor) ts

pub data Normal : Type 0 where
  Kept : Row → Normal
  Always : Normal
  Never : Normal
  TooBig : Normal

-- a row without terms
abbrev pub without_terms : Bool → ℤ → Normal
without_terms true b = if int_eq b (pos 0) then Always else Never
without_terms false b = if int_lt b (pos 0) then Never else Always

-- the second, where the first is small
abbrev pub if_small : Row → Row → Normal
if_small r s = if is_small r.bound && are_small r.terms then Kept s else TooBig

-- an equal row with its last factor positive
abbrev pub turned : Row → Row
turned r = if last_is_negative r.terms then row true (negated_terms r.terms) (neg_ℤ r.bound) else r

abbrev pub kept_if_small : Row → Normal
kept_if_small r = if_small r r

abbrev pub turned_if_small : Row → Normal
turned_if_small r = if_small r (turned r)

-- a row divided: the bound of an at-most row is rounded down; an equal row never holds where its bound is no multiple
abbrev pub divided_by : ℕ → Bool → List Term → ℤ → Normal
divided_by g true ts b =
    if nat_eq (unsigned_abs b % g) 0 then turned_if_small (row true (divided g ts) (int_div_euclid b (pos g))) else Never
divided_by g false ts b = kept_if_small (row false (divided g ts) (int_div_euclid b (pos g)))

-- where the gcd of the factors starts: a rational row is divided by that of factors and bound together, and so never rounded
abbrev pub start_of : Bool → ℤ → ℕ
start_of rational b = if rational then unsigned_abs b else 0

abbrev pub normal_terms : Bool → Bool → List Term → ℤ → Normal
normal_terms rational e [] b = without_terms e b
normal_terms rational e (t ∷ ts) b = divided_by (divisor (t ∷ ts) (start_of rational b)) e (t ∷ ts) b

abbrev pub normal : Bool → Row → Normal
normal rational r = normal_terms rational r.equal r.terms r.bound

-- a row divided, with the last factor of an equal row positive
abbrev pub turned_if : Bool → Row → Row
turned_if true r = turned r
turned_if false r = r

abbrev pub turned_divided : ℕ → Row → Row
turned_divided g r = turned_if r.equal (row r.equal (divided g r.terms) (int_div_euclid r.bound (pos g)))

-- the row that is kept, or the answer beside the row as it was
abbrev pub Answers : Normal → Norm → Row → Row → Type 0
Answers (Kept r) n old new = (n ≡ answer.Kept) × (new ≡ r)
Answers Always n old new = (n ≡ answer.True) × (new ≡ old)
Answers Never n old new = (n ≡ answer.False) × (new ≡ old)
Answers TooBig n old new = (n ≡ answer.TooBig) × (new ≡ old)
