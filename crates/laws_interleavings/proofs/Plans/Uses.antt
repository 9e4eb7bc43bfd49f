-- What fine plans give.
use Rattle.std.proofs.Common.{◌≡◌, ℕ, List, ◌||◌, Bool, true, false, refl, sym, ap, ap₂, ◌∙◌, arith, nat_eq, true≢false}
use Rattle.std.proofs.lemmas.Bool.Decides.{nat_tests}
use Rattle.f77_ast.specs.Store.{Content, Store, put, undefined}
use Rattle.f77_ast.specs.Steps.{Faulty, Wants, OutOfTurns, Steps, ◌>>=◌}
use Rattle.f77_ast.specs.Steps as steps
use Rattle.f77_ast.specs.Runs.{Event, Whole, Answer, Gave, Broke, Ran, store_of, first_of, rest_of}
use Rattle.f77_ast.specs.Plans.{Flow, Plan, Ends, Breaks, Look, Set, Hold, Forget, Show, Take, Within, steps_of}
use Rattle.f77_ast.specs.Executions.{run_of}
use Rattle.f77_meaning.specs.Processes.{writes}
use Rattle.laws_interleavings.specs.Faults.{IsFault, StepsFault}
use Rattle.laws_interleavings.specs.Strict.{Strict, Quiet}
use Rattle.laws_interleavings.proofs.Runs.{run_bind, on_from, stays_whole}
use Rattle.laws_interleavings.proofs.LaterReads.{written_append}
use Rattle.laws_interleavings.specs.Plans.Fine.{IsFine}
use Rattle.laws_interleavings.specs.Plans.Uses.{FinePlansServe}
use Rattle.laws_interleavings.proofs.Plans.Fine.{fault_after as fault_on}

fault_steps : (t : Plan) → IsFault t → StepsFault (steps_of t)
fault_steps (Breaks (Faulty f)) h = tt
fault_steps (Breaks (Wants u)) h = absurd h
fault_steps (Breaks OutOfTurns) h = absurd h
fault_steps (Ends f) h = absurd h
fault_steps (Look u k) h = absurd h
fault_steps (Set u c t) h = absurd h
fault_steps (Hold u c t) h = absurd h
fault_steps (Forget u t) h = absurd h
fault_steps (Show xs t) h = absurd h
fault_steps (Take k) h = absurd h
fault_steps (Within p at t k) h = absurd h

strict_bind : {A B : Type 0} (t : Steps A) (f : A → Steps B) → Strict t → ((a : A) → Strict (f a)) → Strict (t >>= f)
strict_bind (steps.Done a) f h g = g a
strict_bind (steps.Breaks b) f h g = tt
strict_bind (steps.Look u k) f h g = (λ c e. fault_on (k c) f (h.0 c e), λ c. strict_bind (k c) f (h.1 c) g)
strict_bind (steps.Set u c t) f h g = strict_bind t f h g
strict_bind (steps.Hold u c t) f h g = strict_bind t f h g
strict_bind (steps.Forget u t) f h g = strict_bind t f h g
strict_bind (steps.Show xs t) f h g = strict_bind t f h g
strict_bind (steps.Take k) f h g = λ o. strict_bind (k o) f (h o) g
strict_bind (steps.Arrive p t) f h g = strict_bind t f h g

quiet_bind : {A B : Type 0} (p : ℕ → Bool) (t : Steps A) (f : A → Steps B) → Quiet p t → ((a : A) → Quiet p (f a)) → Quiet p (t >>= f)
quiet_bind p (steps.Done a) f h g = g a
quiet_bind p (steps.Breaks b) f h g = tt
quiet_bind p (steps.Look u k) f h g = λ c. quiet_bind p (k c) f (h c) g
quiet_bind p (steps.Set u c t) f h g = quiet_bind p t f h g
quiet_bind p (steps.Hold u c t) f h g = (h.0, quiet_bind p t f h.1 g)
quiet_bind p (steps.Forget u t) f h g = (h.0, quiet_bind p t f h.1 g)
quiet_bind p (steps.Show xs t) f h g = quiet_bind p t f h g
quiet_bind p (steps.Take k) f h g = λ o. quiet_bind p (k o) f (h o) g
quiet_bind p (steps.Arrive a t) f h g = quiet_bind p t f h g

module _ (free own : ℕ → Bool) where
  pub strict_of : (t : Plan) → IsFine free own t → Strict (steps_of t)
  strict_of (Ends f) h = tt
  strict_of (Breaks b) h = tt
  strict_of (Look u k) h = (λ c e. fault_steps (k c) (h.1 c e), λ c. strict_of (k c) (h.0 c))
  strict_of (Set u c t) h = strict_of t h.1
  strict_of (Hold u c t) h = strict_of t h.1
  strict_of (Forget u t) h = strict_of t h.1
  strict_of (Show xs t) h = strict_of t h
  strict_of (Take k) h = λ o. strict_of (k o) (h o)
  strict_of (Within p at t k) h = strict_bind (steps_of t) (λ f. steps_of (k f)) (strict_of t h.0) (λ f. strict_of (k f) (h.1 f))

  pub quiet_of : (t : Plan) → IsFine free own t → Quiet own (steps_of t)
  quiet_of (Ends f) h = tt
  quiet_of (Breaks b) h = tt
  quiet_of (Look u k) h = λ c. quiet_of (k c) (h.0 c)
  quiet_of (Set u c t) h = quiet_of t h.1
  quiet_of (Hold u c t) h = (h.0, quiet_of t h.1)
  quiet_of (Forget u t) h = (h.0, quiet_of t h.1)
  quiet_of (Show xs t) h = quiet_of t h
  quiet_of (Take k) h = λ o. quiet_of (k o) (h o)
  quiet_of (Within p at t k) h = quiet_bind own (steps_of t) (λ f. steps_of (k f)) (quiet_of t h.0) (λ f. quiet_of (k f) (h.1 f))

  differs : (u v : ℕ) → free v ≡ true → free u ≡ false → nat_eq u v ≡ false
  differs u v e h = go (nat_eq u v) refl
    where
      go : (b : Bool) → nat_eq u v ≡ b → b ≡ false
      go true q = let same : u ≡ v = grind (arith, nat_tests) in absurd (true≢false (sym e ∙ ap free (sym same) ∙ h))
      go false q = refl

  pub unwritten_of : (t : Plan) → IsFine free own t → (s : Store) (i : List Content) (u : ℕ) → free u ≡ false → writes u (run_of t s i).trace ≡ false
  unwritten_of (Ends f) h s i u n = refl
  unwritten_of (Breaks b) h s i u n = refl
  unwritten_of (Look v k) h s i u n = unwritten_of (k (s v)) (h.0 (s v)) s i u n
  unwritten_of (Set v c t) h s i u n = ap₂ (λ a b. a || b) (differs u v h.0 n) (unwritten_of t h.1 (put s v c) i u n)
  unwritten_of (Hold v c t) h s i u n = unwritten_of t h.1 (put s v c) i u n
  unwritten_of (Forget v t) h s i u n = unwritten_of t h.1 (put s v (undefined (s v))) i u n
  unwritten_of (Show xs t) h s i u n = unwritten_of t h s i u n
  unwritten_of (Take k) h s i u n = unwritten_of (k (first_of i)) (h (first_of i)) s (rest_of i) u n
  unwritten_of (Within p at t k) h s i u n =
      let q = run_of t s i in
      ap (λ (r : Ran Flow). writes u r.trace) (run_bind (steps_of t) (λ f. steps_of (k f)) (Whole s) i ∙ (λ j. on_from q.answer (stays_whole (steps_of t) s i j) q.input q.trace (λ f. steps_of (k f))))
      ∙ go q.answer (store_of q.memory) q.input q.trace (unwritten_of t h.0 s i u n) (λ f z j. unwritten_of (k f) (h.1 f) z j u n)
    where
      go : (a : Answer Flow) (z : Store) (j : List Content) (es : List Event) → writes u es ≡ false → ((f : Flow) (y : Store) (l : List Content) → writes u (run_of (k f) y l).trace ≡ false) → writes u (on_from a (Whole z) j es (λ f. steps_of (k f))).trace ≡ false
      go (Gave f) z j es e later = written_append u es (run_of (k f) z j).trace e (later f z j)
      go (Broke b) z j es e later = e

pub serve : FinePlansServe
serve free own t h = record { strict = strict_of free own t h; quiet = quiet_of free own t h; unwritten = unwritten_of free own t h }
