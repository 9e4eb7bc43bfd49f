-- Operators, functions and the input give numbers of 32 bits, where they are given such.
use Rattle.std.proofs.Common.{◌≡◌, ℕ, zero, suc, ◌≤◌, ◌%◌, nat_eq, List, [], ◌∷◌, Option, Some, None, Bool, true, false, ◌&&◌, ◌||◌, ℤ, pos, negsuc, ◌+ℤ◌, ◌-ℤ◌, ◌*ℤ◌, refl, sym, subst, arith, true≢false}
use Rattle.std.specs.Prelude.{if◌then◌else◌, not, int_lt, int_le, int_div, int_rem, unsigned_abs, neg_ℤ}
use Rattle.std.specs.Ordering.{int_eq}
use Rattle.std.specs.Int.{int_max, int_min}
use Rattle.std.proofs.lemmas.Int.{ints}
use Rattle.std.proofs.Math.Nat.{mod-le}
use Rattle.f77_ast.specs.declared.expr.UnaryOp.{UnaryOp}
use Rattle.f77_ast.specs.declared.expr.UnaryOp.TheVariants.{Plus, Minus, Not}
use Rattle.f77_ast.specs.declared.expr.BinaryOp.{BinaryOp}
use Rattle.f77_ast.specs.declared.expr.BinaryOp.TheVariants.{Add, Sub, Mul, Div, Pow, Eq, Ne, Lt, Le, Gt, Ge, And, Or, Eqv, Neqv}
use Rattle.f77_ast.specs.Store.{Tag, Int, Log, Undefined, Content, Store, truth, put, undefined}
use Rattle.f77_ast.specs.Steps.{Steps, Done, Breaks, Look, Set, Hold, Forget, Show, Take, Arrive}
use Rattle.f77_ast.specs.Runs.{Ran, Whole, run, first_of, rest_of, store_of}
use Rattle.f77_ast.specs.Numbers.{in_range, kept, quotient, power_of, one_over, power, is_true, same_truth, unary_number, binary_number, Intrinsic, Abs, Mod, Max, Min, greatest, least, remainder, intrinsic_number}
use Rattle.f77_ast.specs.Places.{Meant, Constant, Variable, Function}
use Rattle.f77_ast.specs.Writes.{is_value, no_locks}
use Rattle.f77_ast.specs.Plans.{Plan, steps_of}
use Rattle.f77_ast.specs.Programs.{Routine, Program, program_plan, meanings, program_run}
use Rattle.laws_interleavings.specs.Plans.Touched.{AnyUnit, InRange, Ranged, Suits, EachUnit, Keeps, AllKeep, HasNumbers, AllHaveNumbers, StoreInRange, EventsInRange}
use Rattle.laws_interleavings.proofs.Plans.Touching.{AllNumbers, IsClosed, Good, good_steps, each_meanings, each_body_of}
use Rattle.fx_lists.proofs.Options.{some_is}
use Rattle.fx_lists.proofs.Every.{Anything}

-- ---- numbers

kept_range : (n m : ℤ) → kept n ≡ Some m → InRange m
kept_range n m = go (in_range n) refl
  where
    none : None ≡ Some m → ⊥
    none e = cc

    go : (b : Bool) → in_range n ≡ b → (if b then Some n else None) ≡ Some m → InRange m
    go true e q = subst InRange (some_is n m q) e
    go false e q = absurd (none q)

given_range : (k m : ℤ) → InRange k → Some k ≡ Some m → InRange m
given_range k m h e = subst InRange (some_is k m e) h

truth_range : (b : Bool) → InRange (truth b)
truth_range true = refl
truth_range false = refl

quotient_range : (m n k : ℤ) → quotient m n ≡ Some k → InRange k
quotient_range m n k = go (int_eq n (pos 0))
  where
    none : None ≡ Some k → ⊥
    none e = cc

    go : (b : Bool) → (if b then None else kept (int_div m n)) ≡ Some k → InRange k
    go true e = absurd (none e)
    go false e = kept_range (int_div m n) k e

one_over_range : (o : Option ℤ) (k : ℤ) → one_over o ≡ Some k → InRange k
one_over_range None k e = absurd (none e)
  where
    none : None ≡ Some k → ⊥
    none e = cc
one_over_range (Some n) k e = quotient_range (pos 1) n k e

power_range : (m n k : ℤ) → power m n ≡ Some k → InRange k
power_range m (pos n) k e = kept_range (power_of m n) k e
power_range m (negsuc n) k e = one_over_range (kept (power_of m (suc n))) k e

unary_range : (o : UnaryOp) (m n : ℤ) → InRange m → unary_number o m ≡ Some n → InRange n
unary_range Plus m n h e = given_range m n h e
unary_range Minus m n h e = kept_range (neg_ℤ m) n e
unary_range Not m n h e = given_range (truth (not (is_true m))) n (truth_range (not (is_true m))) e

binary_range : (o : BinaryOp) (m k n : ℤ) → InRange m → InRange k → binary_number o m k ≡ Some n → InRange n
binary_range Add m k n h l e = kept_range (m +ℤ k) n e
binary_range Sub m k n h l e = kept_range (m -ℤ k) n e
binary_range Mul m k n h l e = kept_range (m *ℤ k) n e
binary_range Div m k n h l e = quotient_range m k n e
binary_range Pow m k n h l e = power_range m k n e
binary_range Eq m k n h l e = given_range (truth (int_eq m k)) n (truth_range (int_eq m k)) e
binary_range Ne m k n h l e = given_range (truth (not (int_eq m k))) n (truth_range (not (int_eq m k))) e
binary_range Lt m k n h l e = given_range (truth (int_lt m k)) n (truth_range (int_lt m k)) e
binary_range Le m k n h l e = given_range (truth (int_le m k)) n (truth_range (int_le m k)) e
binary_range Gt m k n h l e = given_range (truth (int_lt k m)) n (truth_range (int_lt k m)) e
binary_range Ge m k n h l e = given_range (truth (int_le k m)) n (truth_range (int_le k m)) e
binary_range And m k n h l e = given_range (truth (is_true m && is_true k)) n (truth_range (is_true m && is_true k)) e
binary_range Or m k n h l e = given_range (truth (is_true m || is_true k)) n (truth_range (is_true m || is_true k)) e
binary_range Eqv m k n h l e = given_range (truth (same_truth (is_true m) (is_true k))) n (truth_range (same_truth (is_true m) (is_true k))) e
binary_range Neqv m k n h l e = given_range (truth (not (same_truth (is_true m) (is_true k)))) n (truth_range (not (same_truth (is_true m) (is_true k)))) e

choice : (b : Bool) (m n : ℤ) → InRange m → InRange n → InRange (if b then m else n)
choice true m n h k = h
choice false m n h k = k

greatest_range : (m : ℤ) (ns : List ℤ) → InRange m → AllNumbers InRange ns → InRange (greatest m ns)
greatest_range m [] h l = h
greatest_range m (n ∷ ns) h l = greatest_range (int_max m n) ns (choice (int_lt n m) m n h l.0) l.1

least_range : (m : ℤ) (ns : List ℤ) → InRange m → AllNumbers InRange ns → InRange (least m ns)
least_range m [] h l = h
least_range m (n ∷ ns) h l = least_range (int_min m n) ns (choice (int_lt n m) n m l.0 h) l.1

-- a number nearer to 0
nearer_positive : (a b : ℕ) → a ≤ b → InRange (pos b) → InRange (pos a)
nearer_positive a b l h = grind (arith, ints)

nearer_negative : (a b : ℕ) → a ≤ suc b → InRange (negsuc b) → InRange (neg_ℤ (pos a))
nearer_negative zero b l h = refl
nearer_negative (suc a) b l h = grind (arith, ints)

rem_range : (m n : ℤ) → InRange m → InRange (int_rem m n)
rem_range (pos a) n h = nearer_positive (a % unsigned_abs n) a (mod-le a (unsigned_abs n)) h
rem_range (negsuc a) n h = nearer_negative (suc a % unsigned_abs n) a (mod-le (suc a) (unsigned_abs n)) h

remainder_range : (m n k : ℤ) → InRange m → remainder m n ≡ Some k → InRange k
remainder_range m n k h = go (int_eq n (pos 0))
  where
    none : None ≡ Some k → ⊥
    none e = cc

    go : (b : Bool) → (if b then None else Some (int_rem m n)) ≡ Some k → InRange k
    go true e = absurd (none e)
    go false e = given_range (int_rem m n) k (rem_range m n h) e

function_range : (f : Intrinsic) (ns : List ℤ) (n : ℤ) → AllNumbers InRange ns → intrinsic_number f ns ≡ Some n → InRange n
function_range Abs [] n h e = absurd (let q : None ≡ Some n = e in cc)
function_range Abs (m ∷ []) n h e = kept_range (pos (unsigned_abs m)) n e
function_range Abs (m ∷ k ∷ ns) n h e = absurd (let q : None ≡ Some n = e in cc)
function_range Mod [] n h e = absurd (let q : None ≡ Some n = e in cc)
function_range Mod (m ∷ []) n h e = absurd (let q : None ≡ Some n = e in cc)
function_range Mod (m ∷ k ∷ []) n h e = remainder_range m k n h.0 e
function_range Mod (m ∷ k ∷ j ∷ ns) n h e = absurd (let q : None ≡ Some n = e in cc)
function_range Max [] n h e = absurd (let q : None ≡ Some n = e in cc)
function_range Max (m ∷ ns) n h e = given_range (greatest m ns) n (greatest_range m ns h.0 h.1) e
function_range Min [] n h e = absurd (let q : None ≡ Some n = e in cc)
function_range Min (m ∷ ns) n h e = given_range (least m ns) n (least_range m ns h.0 h.1) e

bit_range : (n : ℤ) → (int_eq n (pos 0) || int_eq n (pos 1)) ≡ true → InRange n
bit_range (pos zero) e = refl
bit_range (pos (suc zero)) e = refl
bit_range (pos (suc (suc n))) e = absurd (grind (arith, ints))
bit_range (negsuc n) e = absurd (grind (arith, ints))

value_range : (t : Tag) (n : ℤ) → is_value t n ≡ true → InRange n
value_range Int n e = e
value_range Log n e = bit_range n e
value_range Undefined n e = absurd (true≢false (sym e))

in_range_closed : IsClosed InRange
in_range_closed = record {
  unary = unary_range;
  binary = binary_range;
  function = function_range;
  truths = truth_range;
  stepped = kept_range;
  input = value_range;
}

-- ---- runs

pub put_range : (s : Store) (u : ℕ) (c : Content) → InRange c.number → StoreInRange s → StoreInRange (put s u c)
put_range s u c h l x = go (nat_eq x u)
  where
    go : (b : Bool) → InRange (if b then c else s x).number
    go true = h
    go false = l x

abbrev pub on : {A : Type 0} → Steps A → Store → List Content → Ran A
on t s i = run t (Whole s) i

ranged : {A : Type 0} (t : Steps A) → Good AnyUnit InRange Anything t → (s : Store) → StoreInRange s → (i : List Content) → EventsInRange (on t s i).trace × StoreInRange (store_of (on t s i).memory)
ranged (Done a) h s l i = (tt, l)
ranged (Breaks b) h s l i = (tt, l)
ranged (Look u k) h s l i = let e = ranged (k (s u)) (h.1 (s u) (l u)) s l i in ((l u, e.0), e.1)
ranged (Set u c t) h s l i = let e = ranged t h.2 (put s u c) (put_range s u c h.1 l) i in ((h.1, e.0), e.1)
ranged (Hold u c t) h s l i = ranged t h.2 (put s u c) (put_range s u c h.1 l) i
ranged (Forget u t) h s l i = ranged t h.1 (put s u (undefined (s u))) (put_range s u (undefined (s u)) (l u) l) i
ranged (Show xs t) h s l i = ranged t h s l i
ranged (Take k) h s l i = ranged (k (first_of i)) (h (first_of i)) s l (rest_of i)
ranged (Arrive p t) h s l i = ranged t h s l i

each_any : (us : List ℕ) → EachUnit AnyUnit us
each_any [] = tt
each_any (u ∷ us) = (tt, each_any us)

keeps : (r : Routine) → HasNumbers r → Keeps AnyUnit InRange r
keeps r h = record {
  fixed = λ x v e n. (tt, λ u i. tt);
  constants = h.constants;
  locals = each_any r.locals;
  own = λ n k. tt;
  bounds = h.bounds;
  literals = h.literals;
}

all_keep : (rs : List Routine) → AllHaveNumbers rs → AllKeep AnyUnit InRange rs
all_keep [] h = tt
all_keep (r ∷ rs) h = (keeps r h.0, all_keep rs h.1)

pub program_ranged : (p : Program) (turns : ℕ) → HasNumbers p.main → AllHaveNumbers p.others → Ranged (program_plan p turns)
program_ranged p turns h k = (
  each_body_of AnyUnit InRange in_range_closed tt p.main turns (meanings p.others turns) (keeps p.main h) (λ x. each_meanings AnyUnit InRange in_range_closed tt p.others turns (all_keep p.others k) x) [] p.main.fixed no_locks tt suits,
  λ f. tt,
)
  where
    suits : (x : List ℕ) → Suits AnyUnit InRange p.main.fixed (p.main.names x)
    suits x = go (p.main.names x) refl
      where
        go : (m : Meant) → p.main.names x ≡ m → Suits AnyUnit InRange p.main.fixed m
        go (Constant c) e = h.constants x c e
        go (Variable v) e = (tt, λ u i. tt)
        go Function e = tt

pub numbers_in_range : (p : Program) (turns : ℕ) (input : List Content) → HasNumbers p.main → AllHaveNumbers p.others → StoreInRange p.initial → EventsInRange (program_run p turns input).trace × StoreInRange (store_of (program_run p turns input).memory)
numbers_in_range p turns input h k l = ranged (steps_of (program_plan p turns)) (good_steps AnyUnit InRange (program_plan p turns) (program_ranged p turns h k)) p.initial l input

-- the same of any plan
pub plans_stay_in_range : (t : Plan) → Ranged t → (s : Store) → StoreInRange s → (i : List Content) → EventsInRange (on (steps_of t) s i).trace × StoreInRange (store_of (on (steps_of t) s i).memory)
plans_stay_in_range t h s l i = ranged (steps_of t) (good_steps AnyUnit InRange t h) s l i
