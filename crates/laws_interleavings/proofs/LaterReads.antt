-- What the iterations of a loop read, of all that the run does from the loop on.
use Rattle.std.proofs.Common.{◌≡◌, ℕ, zero, suc, ◌+◌, ◌<◌, ◌≤◌, ⊎_elim, List, [], ◌∷◌, ◌++◌, None, Bool, true, false, not, ◌&&◌, ◌||◌, refl, sym, ap, ap₂, ◌∙◌, subst, arith, nat_eq, true≢false, append_assoc}
use Rattle.std.specs.Prelude.{if◌then◌else◌}
use Rattle.std.proofs.lemmas.Bool.Decides.{eqb_tells}
use Rattle.f77_ast.specs.Store.{Undefined, Int, Content, Store, content, put, undefined}
use Rattle.f77_ast.specs.Steps.{Steps, Done, Breaks, Look, Set, Hold, Forget, Show, Take, Arrive}
use Rattle.f77_ast.specs.Runs.{Event, Arrived, Read, Wrote, Printed, Took, Gave}
use Rattle.f77_ast.specs.Plans.{Flow, Normal, steps_of}
use Rattle.f77_ast.specs.Programs.{Conforms}
use Rattle.f77_meaning.specs.Accesses.{is_read_first}
use Rattle.f77_meaning.specs.Processes.{Marked, number_in, shared, writes}
use Rattle.laws_interleavings.specs.Iterations.{on_store, begun, whole_loop}
use Rattle.laws_interleavings.specs.Sound.{grow, known_at, ReadsKnown, some_wrote}
use Rattle.laws_interleavings.specs.Strict.{Strict}
use Rattle.laws_interleavings.proofs.Loops.{rest_of_loop, iterations_left, iteration_normal, one_trace}
use Rattle.laws_interleavings.proofs.OwnFirst.{fault_ends}
use Rattle.fx_lists.proofs.Numbers.{eq_refl, swapped, unequal_numbers}
use Rattle.fx_lists.proofs.Booleans.{not_and, or_neither as or_false}

-- ---- reads are of units with values

abbrev Defined : List Event → Type 0
Defined [] = Unit {0}
Defined (Arrived p ∷ es) = Defined es
Defined (Read u c ∷ es) = (c.tag ≡ Undefined → ⊥) × Defined es
Defined (Wrote u c ∷ es) = Defined es
Defined (Printed xs ∷ es) = Defined es
Defined (Took o ∷ es) = Defined es

defined : (t : Steps Flow) (s : Store) → Strict t → Conforms (on_store t s).answer → Defined (on_store t s).trace
defined (Done a) s st nf = tt
defined (Breaks b) s st nf = tt
defined (Look u k) s st nf = (λ e. fault_ends (k (s u)) s (st.0 (s u) e) nf, defined (k (s u)) s (st.1 (s u)) nf)
defined (Set u c t) s st nf = defined t (put s u c) st nf
defined (Hold u c t) s st nf = defined t (put s u c) st nf
defined (Forget u t) s st nf = defined t (put s u (undefined (s u))) st nf
defined (Show xs t) s st nf = defined t s st nf
defined (Take k) s st nf = defined (k None) s (st None) nf
defined (Arrive p t) s st nf = defined t s st nf

-- ---- and of what is known, where what is not known is not read first

module _ (p : ℕ → Bool) where
  abbrev pub Kept : (ℕ → Bool) → List Event → Type 0
  Kept known es = (x : ℕ) → p x ≡ false → known x ≡ false → is_read_first x es ≡ false

  abbrev Known : (ℕ → Bool) → List Event → List Event → Type 0
  Known known es rest = ReadsKnown known es × Kept (grow es known) rest

  reads_known : (es rest : List Event) (known : ℕ → Bool) → Defined es → Kept known (es ++ rest) → Known known (shared p es) rest
  reads_known [] rest known d h = (tt, h)
  reads_known (Arrived a ∷ es) rest known d h = reads_known es rest known d h
  reads_known (Printed xs ∷ es) rest known d h = reads_known es rest known d h
  reads_known (Took o ∷ es) rest known d h = reads_known es rest known d h
  reads_known (Read u c ∷ es) rest known d h =
      go (reads_known es rest known d.1 (λ x px kx. (or_false (nat_eq u x) _ (h x px kx)).1)) (p u) refl
    where
      knows : p u ≡ false → (b : Bool) → known u ≡ b → b ≡ true
      knows pu true e = refl
      knows pu false e = absurd (true≢false (sym (eq_refl u) ∙ (or_false (nat_eq u u) _ (h u pu e)).0))

      go : Known known (shared p es) rest → (b : Bool) → p u ≡ b → Known known (if b then shared p es else Read u c ∷ shared p es) rest
      go q true pu = q
      go q false pu = ((knows pu (known u) refl, d.0, q.0), q.1)
  reads_known (Wrote u c ∷ es) rest known d h = go (λ k l. reads_known es rest k d l) (p u) refl
    where
      next : (x : ℕ) → p x ≡ false → known x ≡ false → nat_eq u x ≡ false → is_read_first x (es ++ rest) ≡ false
      next x px kx ne = not_and (nat_eq u x) _ ne (h x px kx)

      go : ((k : ℕ → Bool) → Kept k (es ++ rest) → Known k (shared p es) rest) → (b : Bool) → p u ≡ b → Known known (if b then shared p es else Wrote u c ∷ shared p es) rest
      go ih true pu = ih known (λ x px kx. next x px kx (unequal_numbers u x (λ e. true≢false (sym pu ∙ ap p e ∙ px))))
      go ih false pu = ih (λ x. nat_eq x u || known x) (λ x px kx. let q = or_false (nat_eq x u) (known x) kx in next x px q.1 (swapped x u q.0))

-- what is not written in a part, and not read first from it on, is not read first after it
pub first_after : (x : ℕ) (es rest : List Event) → writes x es ≡ false → is_read_first x (es ++ rest) ≡ false → is_read_first x rest ≡ false
first_after x [] rest w h = h
first_after x (Arrived p ∷ es) rest w h = first_after x es rest w h
first_after x (Read u c ∷ es) rest w h = first_after x es rest w (or_false (nat_eq u x) _ h).1
first_after x (Wrote u c ∷ es) rest w h = let q = or_false (nat_eq x u) _ w in first_after x es rest q.1 (not_and (nat_eq u x) _ (swapped x u q.0) h)
first_after x (Printed xs ∷ es) rest w h = first_after x es rest w h
first_after x (Took o ∷ es) rest w h = first_after x es rest w h

pub written_append : (x : ℕ) (es fs : List Event) → writes x es ≡ false → writes x fs ≡ false → writes x (es ++ fs) ≡ false
written_append x [] fs a b = b
written_append x (Arrived p ∷ es) fs a b = written_append x es fs a b
written_append x (Read u c ∷ es) fs a b = written_append x es fs a b
written_append x (Wrote u c ∷ es) fs a b = let q = or_false (nat_eq x u) _ a in ap₂ (λ m n. m || n) q.0 (written_append x es fs q.1 b)
written_append x (Printed xs ∷ es) fs a b = written_append x es fs a b
written_append x (Took o ∷ es) fs a b = written_append x es fs a b

module _ (m : Marked) (s : Store) (normal : (whole_loop m s).answer ≡ Gave Normal) where
  abbrev pub trace_from : ℕ → ℕ → List Event
  trace_from k i = (rest_of_loop m k (number_in m.first m.step i) (begun m s i)).trace

  abbrev pub own_trace : ℕ → List Event
  own_trace i = (on_store (steps_of m.body) (begun m s i)).trace

  abbrev pub next_number : ℕ → Content
  next_number i = content Int (number_in m.first m.step (suc i))

  pub trace_splits : (i k : ℕ) → i + suc k ≡ m.count → trace_from (suc k) i ≡ own_trace i ++ Wrote m.index (next_number i) ∷ trace_from k (suc i)
  trace_splits i k e = one_trace m k (number_in m.first m.step i) (begun m s i) (iterations_left m s normal i (suc k) e).0

  -- what the iterations do to units that are not among these
  abbrev pub outside : (ℕ → Bool) → ℕ → List Event
  outside p j = shared p (own_trace j)

  pub record LoopReads (p known : ℕ → Bool) (i : ℕ) (rest : List Event) : Type 0 where
    pub reads : (j : ℕ) → i ≤ j → j < m.count → ReadsKnown (known_at (outside p) known j) (outside p j)
    pub later : Kept p (known_at (outside p) known m.count) rest

  pub loop_reads : (p known : ℕ → Bool) (rest : List Event) → Strict (steps_of m.body) → p m.index ≡ true → (k i : ℕ) → i + k ≡ m.count → Kept p (known_at (outside p) known i) (trace_from k i ++ rest) → LoopReads p known i rest
  loop_reads p known rest st pu zero i e h =
      let q : i ≡ m.count = omega (arith, e) in
      record { reads = λ j l lt. absurd (omega (arith, l, lt, q)); later = subst (λ n. Kept p (known_at (outside p) known n) rest) q h }
  loop_reads p known rest st pu (suc k) i e h =
      let tail = Wrote m.index (next_number i) ∷ (trace_from k (suc i) ++ rest) in
      let same : trace_from (suc k) i ++ rest ≡ own_trace i ++ tail = ap (λ l. l ++ rest) (trace_splits i k e) ∙ append_assoc (own_trace i) _ rest in
      let fine = iteration_normal m s normal i (omega (arith, e)) in
      let d = defined (steps_of m.body) (begun m s i) st (subst Conforms (sym fine) tt) in
      let q = reads_known p (own_trace i) tail (known_at (outside p) known i) d (λ x px kx. subst (λ l. is_read_first x l ≡ false) same (h x px kx)) in
      let ih = loop_reads p known rest st pu k (suc i) (omega (arith, e)) (λ x px kx. not_and (nat_eq m.index x) _ (unequal_numbers m.index x (λ z. true≢false (sym pu ∙ ap p z ∙ px))) (q.1 x px kx)) in
      record {
        reads = λ j l lt. ⊎_elim (λ z. subst (λ n. ReadsKnown (known_at (outside p) known n) (outside p n)) (sym z.1) q.0) (λ z. ih.reads j (omega (arith, l, z.1)) lt) (eqb_tells j i);
        later = ih.later;
      }

  pub some_false : (n x : ℕ) → some_wrote m s n x ≡ false → (j : ℕ) → j < n → writes x (own_trace j) ≡ false
  some_false zero x e j lt = absurd (omega arith)
  some_false (suc n) x e j lt =
      let q = or_false (some_wrote m s n x) (writes x (own_trace n)) e in
      ⊎_elim (λ z. subst (λ y. writes x (own_trace y) ≡ false) (sym z.1) q.1) (λ z. some_false n x q.0 j (omega (arith, z.1))) (eqb_tells j n)

  pub loop_unwritten : (x : ℕ) → nat_eq x m.index ≡ false → some_wrote m s m.count x ≡ false → (k i : ℕ) → i + k ≡ m.count → writes x (trace_from k i) ≡ false
  loop_unwritten x ne w zero i e = refl
  loop_unwritten x ne w (suc k) i e =
      ap (writes x) (trace_splits i k e)
      ∙ written_append x (own_trace i) _ (some_false m.count x w i (omega (arith, e)))
      (ap₂ (λ a b. a || b) ne (loop_unwritten x ne w k (suc i) (omega (arith, e))))
