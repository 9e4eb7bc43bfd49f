-- What the shared accesses of an iteration are, and what stays as it is.
use Rattle.std.proofs.Common.{◌≡◌, ℕ, ⊎_elim, List, [], ◌∷◌, Bool, true, false, ◌||◌, refl, sym, ap, ap₂, ◌∙◌, arith, nat_eq, true≢false}
use Rattle.std.specs.Prelude.{if◌then◌else◌}
use Rattle.std.proofs.lemmas.Bool.Decides.{nat_tests}
use Rattle.f77_ast.specs.Store.{Store, put, undefined}
use Rattle.f77_ast.specs.Steps.{Steps, Done, Breaks, Look, Set, Hold, Forget, Show, Take, Arrive}
use Rattle.f77_ast.specs.Runs.{Event, Arrived, Read, Wrote, Printed, Took, store_of}
use Rattle.f77_ast.specs.Plans.{Flow}
use Rattle.f77_meaning.specs.Accesses.{is_read, is_written}
use Rattle.f77_meaning.specs.Processes.{shared, writes}
use Rattle.laws_interleavings.specs.Alone.{Reads, Writes}
use Rattle.laws_interleavings.specs.Iterations.{on_store}
use Rattle.laws_interleavings.specs.Strict.{Quiet}
use Rattle.laws_interleavings.specs.Sound.{NoTake}
use Rattle.laws_interleavings.proofs.Stores.{put_other}
use Rattle.fx_lists.proofs.Numbers.{apart_of}
use Rattle.fx_lists.proofs.Booleans.{or_there, or_neither as or_false, or_here}

-- ---- Booleans

pub eq_same : (u v : ℕ) → u ≡ v → nat_eq v u ≡ true
eq_same u v e = grind (arith, nat_tests)

eq_swap : (u v : ℕ) → nat_eq u v ≡ nat_eq v u
eq_swap u v = grind (arith, nat_tests)

-- ---- shared accesses

pub shared_read : (p : ℕ → Bool) (es : List Event) (x : ℕ) → Reads x (shared p es) → is_read x es ≡ true
shared_read p [] x w = absurd w
shared_read p (Arrived a ∷ es) x w = shared_read p es x w
shared_read p (Read u c ∷ es) x w = go (λ v. shared_read p es x v) (p u) w
  where
    go : (Reads x (shared p es) → is_read x es ≡ true) → (b : Bool) → Reads x (if b then shared p es else Read u c ∷ shared p es) → (nat_eq u x || is_read x es) ≡ true
    go ih true w = or_there (nat_eq u x) (is_read x es) (ih w)
    go ih false w = ⊎_elim (λ q. or_here (nat_eq u x) (is_read x es) (eq_same x u q)) (λ v. or_there (nat_eq u x) (is_read x es) (ih v)) w
shared_read p (Wrote u c ∷ es) x w = go (λ v. shared_read p es x v) (p u) w
  where
    go : (Reads x (shared p es) → is_read x es ≡ true) → (b : Bool) → Reads x (if b then shared p es else Wrote u c ∷ shared p es) → is_read x es ≡ true
    go ih true w = ih w
    go ih false w = ih w
shared_read p (Printed xs ∷ es) x w = shared_read p es x w
shared_read p (Took o ∷ es) x w = shared_read p es x w

pub shared_write : (p : ℕ → Bool) (es : List Event) (x : ℕ) → Writes x (shared p es) → is_written x es ≡ true
shared_write p [] x w = absurd w
shared_write p (Arrived a ∷ es) x w = shared_write p es x w
shared_write p (Read u c ∷ es) x w = go (λ v. shared_write p es x v) (p u) w
  where
    go : (Writes x (shared p es) → is_written x es ≡ true) → (b : Bool) → Writes x (if b then shared p es else Read u c ∷ shared p es) → is_written x es ≡ true
    go ih true w = ih w
    go ih false w = ih w
shared_write p (Wrote u c ∷ es) x w = go (λ v. shared_write p es x v) (p u) w
  where
    go : (Writes x (shared p es) → is_written x es ≡ true) → (b : Bool) → Writes x (if b then shared p es else Wrote u c ∷ shared p es) → (nat_eq u x || is_written x es) ≡ true
    go ih true w = or_there (nat_eq u x) (is_written x es) (ih w)
    go ih false w = ⊎_elim (λ q. or_here (nat_eq u x) (is_written x es) (eq_same x u q)) (λ v. or_there (nat_eq u x) (is_written x es) (ih v)) w
shared_write p (Printed xs ∷ es) x w = shared_write p es x w
shared_write p (Took o ∷ es) x w = shared_write p es x w

-- two words for one thing
pub written_writes : (es : List Event) (x : ℕ) → is_written x es ≡ writes x es
written_writes [] x = refl
written_writes (Arrived p ∷ es) x = written_writes es x
written_writes (Read u c ∷ es) x = written_writes es x
written_writes (Wrote u c ∷ es) x = ap₂ (λ a b. a || b) (eq_swap u x) (written_writes es x)
written_writes (Printed xs ∷ es) x = written_writes es x
written_writes (Took o ∷ es) x = written_writes es x

-- ---- what changes without an event

pub quiet_more : (p q : ℕ → Bool) → ((u : ℕ) → p u ≡ true → q u ≡ true) → (t : Steps Flow) → Quiet p t → Quiet q t
quiet_more p q m (Done a) h = tt
quiet_more p q m (Breaks b) h = tt
quiet_more p q m (Look u k) h = λ c. quiet_more p q m (k c) (h c)
quiet_more p q m (Set u c t) h = quiet_more p q m t h
quiet_more p q m (Hold u c t) h = (m u h.0, quiet_more p q m t h.1)
quiet_more p q m (Forget u t) h = (m u h.0, quiet_more p q m t h.1)
quiet_more p q m (Show xs t) h = quiet_more p q m t h
quiet_more p q m (Take k) h = λ o. quiet_more p q m (k o) (h o)
quiet_more p q m (Arrive a t) h = quiet_more p q m t h

-- what no event writes, and does not change without one, stays
pub stays : (own : ℕ → Bool) (t : Steps Flow) (s : Store) (x : ℕ) → Quiet own t → NoTake (on_store t s).trace → own x ≡ false → writes x (on_store t s).trace ≡ false → store_of (on_store t s).memory x ≡ s x
stays own (Done a) s x q nt free w = refl
stays own (Breaks b) s x q nt free w = refl
stays own (Look u k) s x q nt free w = stays own (k (s u)) s x (q (s u)) nt free w
stays own (Set u c t) s x q nt free w = let e = or_false (nat_eq x u) _ w in stays own t (put s u c) x q nt free e.1 ∙ put_other s u c x (apart_of u x e.0)
stays own (Hold u c t) s x q nt free w = stays own t (put s u c) x q.1 nt free w ∙ put_other s u c x (λ e. true≢false (sym q.0 ∙ ap own (sym e) ∙ free))
stays own (Forget u t) s x q nt free w = stays own t (put s u (undefined (s u))) x q.1 nt free w ∙ put_other s u (undefined (s u)) x (λ e. true≢false (sym q.0 ∙ ap own (sym e) ∙ free))
stays own (Show xs t) s x q nt free w = stays own t s x q nt free w
stays own (Take k) s x q nt free w = absurd nt
stays own (Arrive a t) s x q nt free w = stays own t s x q nt free w
