-- An iteration as a process does all that it does on the store, also to its private units.
use Rattle.std.proofs.Common.{◌≡◌, ℕ, zero, suc, ◌<◌, ⊎_elim, List, [], ◌∷◌, Some, Bool, true, false, ◌||◌, refl, sym, ap, ap₂, ◌∙◌, subst, arith, true≢false}
use Rattle.std.specs.Prelude.{if◌then◌else◌}
use Rattle.f77_ast.specs.Store.{Content, Store, put, undefined}
use Rattle.f77_ast.specs.Steps.{Steps, Done, Breaks, Look, Set, Hold, Forget, Show, Take, Arrive}
use Rattle.f77_ast.specs.Runs.{Event, Arrived, Read, Wrote, Printed, Took, Script, run, on_look, answer_from, store_of}
use Rattle.f77_ast.specs.Plans.{Flow, steps_of}
use Rattle.f77_meaning.specs.Processes.{Marked, shared, answers, writes, iteration, some_writes}
use Rattle.f77_meaning.specs.Interleavings.{World}
use Rattle.laws_interleavings.specs.Alone.{Writes}
use Rattle.laws_interleavings.specs.Iterations.{on_store, OwnFirst, with_unit, without_unit, begun}
use Rattle.laws_interleavings.specs.Sound.{some_wrote}
use Rattle.std.proofs.lemmas.Bool.Decides.{eqb_tells}
use Rattle.laws_interleavings.proofs.Stores.{put_other}
use Rattle.laws_interleavings.proofs.Scripts.{Agree, agree_set, agree_without, agree_other}
use Rattle.f77_ast.proofs.Shared.{put_same}

module _ (p : ℕ → Bool) where
  abbrev on_script : Steps Flow → Store → List Event → List Event
  on_script t q h = (run t (Script p q (answers h)) []).trace

  pub whole_trace : (t : Steps Flow) (known : ℕ → Bool) (q s : Store) → Agree p known q s → OwnFirst p t known s → on_script t q (shared p (on_store t s).trace) ≡ (on_store t s).trace
  whole_trace (Done a) known q s agree own = refl
  whole_trace (Breaks b) known q s agree own = refl
  whole_trace (Look u k) known q s agree own = go (whole_trace (k (s u)) known q s agree own.1) (p u) refl
    where
      go : on_script (k (s u)) q (shared p (on_store (k (s u)) s).trace) ≡ (on_store (k (s u)) s).trace → (b : Bool) → p u ≡ b → (let sh = shared p (on_store (k (s u)) s).trace in let as' = answers (if b then sh else Read u (s u) ∷ sh) in (on_look (if b then Some (q u, Script p q as') else answer_from p q as') u (Script p q as') [] (λ c n. run (k c) n [])).trace) ≡ Read u (s u) ∷ (on_store (k (s u)) s).trace
      go ih true pu = subst (λ c. Read u c ∷ on_script (k c) q (shared p (on_store (k (s u)) s).trace) ≡ Read u (s u) ∷ (on_store (k (s u)) s).trace) (sym (agree u pu (own.0 pu))) (ap (λ l. Read u (s u) ∷ l) ih)
      go ih false pu = ap (λ l. Read u (s u) ∷ l) ih
  whole_trace (Set u c t) known q s agree own = go (λ y a. whole_trace t (with_unit u known) y (put s u c) a own) (p u) refl
    where
      go : ((y : Store) → Agree p (with_unit u known) y (put s u c) → on_script t y (shared p (on_store t (put s u c)).trace) ≡ (on_store t (put s u c)).trace) → (b : Bool) → p u ≡ b → (let sh = shared p (on_store t (put s u c)).trace in Wrote u c ∷ (run t (Script p (if b then put q u c else q) (answers (if b then sh else Wrote u c ∷ sh))) []).trace) ≡ Wrote u c ∷ (on_store t (put s u c)).trace
      go ih true pu = ap (λ l. Wrote u c ∷ l) (ih (put q u c) (agree_set p known q s u c agree))
      go ih false pu = ap (λ l. Wrote u c ∷ l) (ih q (agree_other p known q s u c pu agree))
  whole_trace (Hold u c t) known q s agree own =
      subst (λ b. (run t (Script p (if b then put q u c else q) (answers (shared p (on_store t (put s u c)).trace))) []).trace ≡ (on_store t (put s u c)).trace) (sym own.0)
      (whole_trace t (with_unit u known) (put q u c) (put s u c) (agree_set p known q s u c agree) own.1)
  whole_trace (Forget u t) known q s agree own =
      subst (λ b. (run t (Script p (if b then put q u (undefined (q u)) else q) (answers (shared p (on_store t (put s u (undefined (s u)))).trace))) []).trace ≡ (on_store t (put s u (undefined (s u)))).trace) (sym own.0)
      (whole_trace t (without_unit u known) (put q u (undefined (q u))) (put s u (undefined (s u))) (agree_without p known q s u (undefined (q u)) (undefined (s u)) agree) own.1)
  whole_trace (Show xs t) known q s agree own = ap (λ l. Printed xs ∷ l) (whole_trace t known q s agree own)
  whole_trace (Take k) known q s agree own = absurd own
  whole_trace (Arrive a t) known q s agree own = ap (λ l. Arrived a ∷ l) (whole_trace t known q s agree own)

-- a private unit that has the same contents at first has the same in the end
module _ (p : ℕ → Bool) where
  abbrev end_on_script : Steps Flow → Store → List Event → Store
  end_on_script t q h = store_of (run t (Script p q (answers h)) []).memory

  same_put : (q s : Store) (u : ℕ) (c d : Content) (x : ℕ) → p x ≡ true → q x ≡ s x → (u ≡ x → c ≡ d) → (b : Bool) → p u ≡ b → (if b then put q u c else q) x ≡ put s u d x
  same_put q s u c d x px e cd true pu =
      ⊎_elim
      (λ n. subst (λ y. put q u c y ≡ put s u d y) (sym n.1) (put_same q u c ∙ cd (sym n.1) ∙ sym (put_same s u d)))
      (λ n. put_other q u c x n.1 ∙ e ∙ sym (put_other s u d x n.1))
      (eqb_tells x u)
  same_put q s u c d x px e cd false pu = e ∙ sym (put_other s u d x (λ n. true≢false (sym px ∙ ap p n ∙ pu)))

  pub private_end : (t : Steps Flow) (known : ℕ → Bool) (q s : Store) (x : ℕ) → Agree p known q s → OwnFirst p t known s → p x ≡ true → q x ≡ s x → end_on_script t q (shared p (on_store t s).trace) x ≡ store_of (on_store t s).memory x
  private_end (Done a) known q s x agree own px e = e
  private_end (Breaks b) known q s x agree own px e = e
  private_end (Look u k) known q s x agree own px e = go (private_end (k (s u)) known q s x agree own.1 px e) (p u) refl
    where
      go : end_on_script (k (s u)) q (shared p (on_store (k (s u)) s).trace) x ≡ store_of (on_store (k (s u)) s).memory x → (b : Bool) → p u ≡ b → (let sh = shared p (on_store (k (s u)) s).trace in let as' = answers (if b then sh else Read u (s u) ∷ sh) in store_of (on_look (if b then Some (q u, Script p q as') else answer_from p q as') u (Script p q as') [] (λ c n. run (k c) n [])).memory x) ≡ store_of (on_store (k (s u)) s).memory x
      go ih true pu = subst (λ c. end_on_script (k c) q (shared p (on_store (k (s u)) s).trace) x ≡ store_of (on_store (k (s u)) s).memory x) (sym (agree u pu (own.0 pu))) ih
      go ih false pu = ih
  private_end (Set u c t) known q s x agree own px e = go (λ y a n. private_end t (with_unit u known) y (put s u c) x a own px n) (p u) refl
    where
      go : ((y : Store) → Agree p (with_unit u known) y (put s u c) → y x ≡ put s u c x → end_on_script t y (shared p (on_store t (put s u c)).trace) x ≡ store_of (on_store t (put s u c)).memory x) → (b : Bool) → p u ≡ b → (let sh = shared p (on_store t (put s u c)).trace in store_of (run t (Script p (if b then put q u c else q) (answers (if b then sh else Wrote u c ∷ sh))) []).memory x) ≡ store_of (on_store t (put s u c)).memory x
      go ih true pu = ih (put q u c) (agree_set p known q s u c agree) (same_put q s u c c x px e (λ n. refl) true pu)
      go ih false pu = ih q (agree_other p known q s u c pu agree) (same_put q s u c c x px e (λ n. refl) false pu)
  private_end (Hold u c t) known q s x agree own px e =
      subst (λ b. store_of (run t (Script p (if b then put q u c else q) (answers (shared p (on_store t (put s u c)).trace))) []).memory x ≡ store_of (on_store t (put s u c)).memory x) (sym own.0)
      (private_end t (with_unit u known) (put q u c) (put s u c) x (agree_set p known q s u c agree) own.1 px (same_put q s u c c x px e (λ n. refl) true own.0))
  private_end (Forget u t) known q s x agree own px e =
      subst (λ b. store_of (run t (Script p (if b then put q u (undefined (q u)) else q) (answers (shared p (on_store t (put s u (undefined (s u)))).trace))) []).memory x ≡ store_of (on_store t (put s u (undefined (s u)))).memory x) (sym own.0)
      (private_end t (without_unit u known) (put q u (undefined (q u))) (put s u (undefined (s u))) x (agree_without p known q s u (undefined (q u)) (undefined (s u)) agree) own.1 px
      (same_put q s u (undefined (q u)) (undefined (s u)) x px e (λ n. ap undefined (ap q n ∙ e ∙ ap s (sym n))) true own.0))
  private_end (Show xs t) known q s x agree own px e = private_end t known q s x agree own px e
  private_end (Take k) known q s x agree own px e = absurd own
  private_end (Arrive a t) known q s x agree own px e = private_end t known q s x agree own px e

-- what some process wrote is what some iteration wrote, where each does so
pub some_same : (m : Marked) (w : World) (s : Store) (n x : ℕ) → ((i : ℕ) → i < n → writes x (iteration m i (w.did i)).trace ≡ writes x (on_store (steps_of m.body) (begun m s i)).trace) → some_writes m w x n ≡ some_wrote m s n x
some_same m w s zero x h = refl
some_same m w s (suc n) x h = ap₂ (λ a b. a || b) (some_same m w s n x (λ i lt. h i (omega arith))) (h n (omega arith))

-- the shared events write no private unit
pub write_shared : (p : ℕ → Bool) (es : List Event) (x : ℕ) → Writes x (shared p es) → p x ≡ false
write_shared p [] x w = absurd w
write_shared p (Arrived a ∷ es) x w = write_shared p es x w
write_shared p (Read u c ∷ es) x w = go (λ v. write_shared p es x v) (p u) w
  where
    go : (Writes x (shared p es) → p x ≡ false) → (b : Bool) → Writes x (if b then shared p es else Read u c ∷ shared p es) → p x ≡ false
    go ih true w = ih w
    go ih false w = ih w
write_shared p (Wrote u c ∷ es) x w = go (λ v. write_shared p es x v) (p u) refl w
  where
    go : (Writes x (shared p es) → p x ≡ false) → (b : Bool) → p u ≡ b → Writes x (if b then shared p es else Wrote u c ∷ shared p es) → p x ≡ false
    go ih true e w = ih w
    go ih false e w = ⊎_elim (λ q. ap p q ∙ e) ih w
write_shared p (Printed xs ∷ es) x w = write_shared p es x w
write_shared p (Took o ∷ es) x w = write_shared p es x w
