-- In a run that no fault ends, nothing reads a unit without a value before it has one again.
use Rattle.std.proofs.Common.{◌≡◌, ◌⊎◌, ⊎_elim, ℕ, List, ◌++◌, Bool, true, false, ◌&&◌, ◌||◌, refl, sym, ap, ◌∙◌, subst, true≢false, nat_eq}
use Rattle.std.specs.Prelude.{not, if◌then◌else◌}
use Rattle.f77_ast.specs.Store.{Undefined, Content, Store, put, undefined}
use Rattle.f77_ast.specs.Steps.{Faulty, Wants, OutOfTurns}
use Rattle.f77_ast.specs.Runs.{Event, Memory, Answer, Gave, Broke, Ran, store_of, first_of, rest_of}
use Rattle.f77_ast.specs.Plans.{Flow, Plan, Ends, Breaks, Look, Set, Hold, Forget, Show, Take, Within, steps_of}
use Rattle.f77_ast.specs.Executions.{run_of, AtEnd}
use Rattle.f77_ast.specs.Programs.{Conforms}
use Rattle.f77_meaning.specs.Accesses.{is_written, is_read_first}
use Rattle.laws_marks.proofs.InFirsts.{not_so, first_split, written_left, written_right}
use Rattle.laws_interleavings.specs.Faults.{IsFault}
use Rattle.laws_marks.specs.OutRests.{IsStrict}
use Rattle.laws_marks.proofs.OutRuns.{on_from, run_after}
use Rattle.fx_lists.proofs.Numbers.{same_is as nat_same, swapped}

put_off : (s : Store) (v u : ℕ) (c : Content) → nat_eq u v ≡ false → put s v c u ≡ s u
put_off s v u c h = ap (λ b. if b then c else s u) h

fault_ends : (t : Plan) (s : Store) (i : List Content) → IsFault t → Conforms (run_of t s i).answer → ⊥
fault_ends (Ends f) s i x c = x
fault_ends (Breaks (Faulty f)) s i x c = c
fault_ends (Breaks (Wants u)) s i x c = x
fault_ends (Breaks OutOfTurns) s i x c = x
fault_ends (Look u k) s i x c = x
fault_ends (Set u c t) s i x y = x
fault_ends (Hold u c t) s i x y = x
fault_ends (Forget u t) s i x c = x
fault_ends (Show xs t) s i x c = x
fault_ends (Take k) s i x c = x
fault_ends (Within p at t k) s i x c = x

-- it is not read first, and where it is not written it has no value at the end
abbrev pub Unread : ℕ → Ran Flow → Type 0
Unread u q = (is_read_first u q.trace ≡ false) × AtEnd q.answer (store_of q.memory) q.input (λ f z j. is_written u q.trace ≡ false → (z u).tag ≡ Undefined)

-- the same of parts of a run
abbrev UnreadIn : ℕ → Answer Flow → Memory → List Content → List Event → Type 0
UnreadIn u a m j es = (is_read_first u es ≡ false) × AtEnd a (store_of m) j (λ f z l. is_written u es ≡ false → (z u).tag ≡ Undefined)

module _ (lost : ℕ → Bool) where
  pub unread : (t : Plan) → IsStrict lost t → (u : ℕ) → lost u ≡ true → (s : Store) (i : List Content) → (s u).tag ≡ Undefined → Conforms (run_of t s i).answer → Unread u (run_of t s i)
  unread (Ends f) h u l s i d c = (refl, λ w. d)
  unread (Breaks b) h u l s i d c = (refl, tt)
  unread (Look v k) h u l s i d c = go (nat_eq v u) refl (unread (k (s v)) (h.0 (s v)) u l s i d c)
    where
      go : (b : Bool) → nat_eq v u ≡ b → Unread u (run_of (k (s v)) s i) → ((b || is_read_first u (run_of (k (s v)) s i).trace) ≡ false) × AtEnd (run_of (k (s v)) s i).answer (store_of (run_of (k (s v)) s i).memory) (run_of (k (s v)) s i).input (λ f z j. is_written u (run_of (k (s v)) s i).trace ≡ false → (z u).tag ≡ Undefined)
      go true e ih = absurd (fault_ends (k (s v)) s i (h.1 (s v) (subst (λ x. (s x).tag ≡ Undefined) (sym (nat_same v u e)) d)) c)
      go false e ih = ih
  unread (Set v x t) h u l s i d c = go (nat_eq v u) refl (λ e. unread t h u l (put s v x) i e c)
    where
      go : (b : Bool) → nat_eq v u ≡ b → ((put s v x u).tag ≡ Undefined → Unread u (run_of t (put s v x) i)) →
          ((not b && is_read_first u (run_of t (put s v x) i).trace) ≡ false) × AtEnd (run_of t (put s v x) i).answer (store_of (run_of t (put s v x) i).memory) (run_of t (put s v x) i).input (λ f z j. (b || is_written u (run_of t (put s v x) i).trace) ≡ false → (z u).tag ≡ Undefined)
      go true e ih = (refl, fin (run_of t (put s v x) i).answer (run_of t (put s v x) i).memory (run_of t (put s v x) i).input)
        where
          fin : (a : Answer Flow) (m : Memory) (j : List Content) → AtEnd a (store_of m) j (λ f y o. true ≡ false → (y u).tag ≡ Undefined)
          fin (Gave f) m j = λ w. absurd (true≢false w)
          fin (Broke b) m j = tt
      go false e ih = ih (ap (λ y. y.tag) (put_off s v u x (swapped v u e)) ∙ d)
  unread (Hold v x t) h u l s i d c = unread t h.1 u l (put s v x) i (ap (λ y. y.tag) (put_off s v u x (not_so (nat_eq u v) (λ e. true≢false (sym l ∙ (ap lost (nat_same u v e) ∙ h.0))))) ∙ d) c
  unread (Forget v t) h u l s i d c = unread t h u l (put s v (undefined (s v))) i (go (nat_eq u v)) c
    where
      go : (b : Bool) → (if b then undefined (s v) else s u).tag ≡ Undefined
      go true = refl
      go false = d
  unread (Show xs t) h u l s i d c = unread t h u l s i d c
  unread (Take k) h u l s i d c = unread (k (first_of i)) (h (first_of i)) u l s (rest_of i) d c
  unread (Within p at t k) h u l s i d c =
      subst (λ q. Unread u q) (sym (run_after (steps_of t) (λ g. steps_of (k g)) s i))
      (go (run_of t s i).answer (run_of t s i).memory (run_of t s i).input (run_of t s i).trace (λ g z j e w. unread (k g) (h.1 g) u l z j e w) (unread t h.0 u l s i d)
      (subst (λ q. Conforms q.answer) (run_after (steps_of t) (λ g. steps_of (k g)) s i) c))
    where
      go : (a : Answer Flow) (m : Memory) (j : List Content) (es : List Event) → ((g : Flow) (y : Store) (n : List Content) → (y u).tag ≡ Undefined → Conforms (run_of (k g) y n).answer → Unread u (run_of (k g) y n)) →
          (Conforms a → UnreadIn u a m j es) → Conforms (on_from a m j es (λ g y n. run_of (k g) y n)).answer → Unread u (on_from a m j es (λ g y n. run_of (k g) y n))
      go (Broke b) m j es ih here cf = ((here cf).0, tt)
      go (Gave g) m j es ih here cf = pick (is_written u es) refl
        where
          y : Ran Flow
          y = run_of (k g) (store_of m) j

          in_none : (is_read_first u (run_of (k g) (store_of m) j).trace ≡ true → is_written u es ≡ false → ⊥) → (is_read_first u es ≡ true) ⊎ ((is_written u es ≡ false) × (is_read_first u (run_of (k g) (store_of m) j).trace ≡ true)) → ⊥
          in_none f h = ⊎_elim (λ x. true≢false (sym x ∙ (here tt).0)) (λ x. f x.1 x.0) h

          pick : (b : Bool) → is_written u es ≡ b → UnreadIn u (run_of (k g) (store_of m) j).answer (run_of (k g) (store_of m) j).memory (run_of (k g) (store_of m) j).input (es ++ (run_of (k g) (store_of m) j).trace)
          pick true e = (not_so (is_read_first u (es ++ (run_of (k g) (store_of m) j).trace)) (λ x. in_none (λ r w. true≢false (sym e ∙ w)) (first_split u es (run_of (k g) (store_of m) j).trace x)), fin (run_of (k g) (store_of m) j).answer (run_of (k g) (store_of m) j).memory (run_of (k g) (store_of m) j).input)
            where
              fin : (a : Answer Flow) (n : Memory) (l : List Content) → AtEnd a (store_of n) l (λ f x o. is_written u (es ++ (run_of (k g) (store_of m) j).trace) ≡ false → (x u).tag ≡ Undefined)
              fin (Gave f) n l = λ w. absurd (true≢false (sym (written_left u es (run_of (k g) (store_of m) j).trace e) ∙ w))
              fin (Broke b) n l = tt
          pick false e = after (ih g (store_of m) j ((here tt).1 e) cf)
            where
              after : Unread u (run_of (k g) (store_of m) j) → UnreadIn u (run_of (k g) (store_of m) j).answer (run_of (k g) (store_of m) j).memory (run_of (k g) (store_of m) j).input (es ++ (run_of (k g) (store_of m) j).trace)
              after h = (not_so (is_read_first u (es ++ (run_of (k g) (store_of m) j).trace)) (λ x. in_none (λ r w. true≢false (sym r ∙ h.0)) (first_split u es (run_of (k g) (store_of m) j).trace x)), fin (run_of (k g) (store_of m) j).answer (run_of (k g) (store_of m) j).memory (run_of (k g) (store_of m) j).input h.1)
                where
                  fin : (a : Answer Flow) (n : Memory) (l : List Content) → AtEnd a (store_of n) l (λ f x o. is_written u (run_of (k g) (store_of m) j).trace ≡ false → (x u).tag ≡ Undefined) → AtEnd a (store_of n) l (λ f x o. is_written u (es ++ (run_of (k g) (store_of m) j).trace) ≡ false → (x u).tag ≡ Undefined)
                  fin (Gave f) n l o = λ w. o (not_so (is_written u (run_of (k g) (store_of m) j).trace) (λ q. true≢false (sym (written_right u es (run_of (k g) (store_of m) j).trace q) ∙ w)))
                  fin (Broke b) n l o = tt
