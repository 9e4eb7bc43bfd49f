-- A loop whose iterations are interleaved.
use Rattle.std.proofs.Common.{◌≡◌, ◌≢◌, ℕ, zero, suc, ◌+◌, ◌-◌, ◌<◌, ◌≤◌, ⊎_elim, List, [], ◌∷◌, ◌++◌, Option, Some, None, Bool, true, false, refl, sym, ap, ◌∙◌, subst, arith, ℤ, ◌+ℤ◌, nat_eq, true≢false}
use Rattle.std.specs.Prelude.{if◌then◌else◌}
use Rattle.std.proofs.lemmas.Bool.Decides.{eqb_tells}
use Rattle.f77_ast.specs.Store.{Int, Store, content, put, undefined, empty_store}
use Rattle.f77_ast.specs.Steps.{Steps, Done, Breaks, Look, Set, Hold, Forget, Show, Take, Arrive, ◌>>=◌}
use Rattle.f77_ast.specs.Runs.{Read, Wrote, Answer, Gave, Broke, Ran, Whole, run, store_of}
use Rattle.f77_ast.specs.Numbers.{kept}
use Rattle.f77_ast.specs.Values.{given}
use Rattle.f77_ast.specs.Plans.{Flow, Normal, Jump, Returned, Stopped, Plan, Set as SetPlan, first, on_normal, steps_of}
use Rattle.f77_ast.specs.Loops.{iterations_from}
use Rattle.f77_meaning.specs.Interleavings.{start, interleaved}
use Rattle.f77_meaning.specs.Processes.{Marked, number_in, own_store, shared, process}
use Rattle.laws_interleavings.specs.Alone.{after, DoesAlone, in_order}
use Rattle.laws_interleavings.specs.Iterations.{on_store, OwnFirst, with_unit, without_unit, begun, does, whole_loop, MayInterleave, LoopInterleaves}
use Rattle.laws_interleavings.proofs.Stores.{put_other, put_cong}
use Rattle.laws_interleavings.proofs.Picks.{as_in_order}
use Rattle.laws_interleavings.proofs.Runs.{after_part, broken_part, trace_part}
use Rattle.laws_interleavings.proofs.Scripts.{iteration_alone, Agree}
use Rattle.f77_ast.proofs.Shared.{put_same, steps_then}
use Rattle.f77_ast.proofs.KeptNumbers.{kept_is}

-- the shared events alone give each unit that is not private its contents
pub shared_after : (p : ℕ → Bool) (t : Steps Flow) (known : ℕ → Bool) (s z : Store) → OwnFirst p t known s → ((x : ℕ) → p x ≡ false → s x ≡ z x) → (x : ℕ) → p x ≡ false → store_of (on_store t s).memory x ≡ after (shared p (on_store t s).trace) z x
shared_after p (Done a) known s z own same x px = same x px
shared_after p (Breaks b) known s z own same x px = same x px
shared_after p (Look u k) known s z own same x px = go (p u) (shared_after p (k (s u)) known s z own.1 same x px)
  where
    go : (b : Bool) → store_of (on_store (k (s u)) s).memory x ≡ after (shared p (on_store (k (s u)) s).trace) z x → store_of (on_store (k (s u)) s).memory x ≡ after (if b then shared p (on_store (k (s u)) s).trace else Read u (s u) ∷ shared p (on_store (k (s u)) s).trace) z x
    go true e = e
    go false e = e
shared_after p (Set u c t) known s z own same x px = go (λ y h. shared_after p t (with_unit u known) (put s u c) y own h x px) (p u) refl
  where
    go : ((y : Store) → ((v : ℕ) → p v ≡ false → put s u c v ≡ y v) → store_of (on_store t (put s u c)).memory x ≡ after (shared p (on_store t (put s u c)).trace) y x) → (b : Bool) → p u ≡ b → store_of (on_store t (put s u c)).memory x ≡ after (if b then shared p (on_store t (put s u c)).trace else Wrote u c ∷ shared p (on_store t (put s u c)).trace) z x
    go ih true pu = ih z (λ v pv. put_other s u c v (λ e. true≢false (sym pu ∙ ap p (sym e) ∙ pv)) ∙ same v pv)
    go ih false pu = ih (put z u c) (λ v pv. put_cong s z u c v (same v pv))
shared_after p (Hold u c t) known s z own same x px = shared_after p t (with_unit u known) (put s u c) z own.1 (λ y py. put_other s u c y (λ e. true≢false (sym own.0 ∙ ap p (sym e) ∙ py)) ∙ same y py) x px
shared_after p (Forget u t) known s z own same x px = shared_after p t (without_unit u known) (put s u (undefined (s u))) z own.1 (λ y py. put_other s u (undefined (s u)) y (λ e. true≢false (sym own.0 ∙ ap p (sym e) ∙ py)) ∙ same y py) x px
shared_after p (Show xs t) known s z own same x px = shared_after p t known s z own same x px
shared_after p (Take k) known s z own same x px = absurd own
shared_after p (Arrive a t) known s z own same x px = shared_after p t known s z own same x px

abbrev pub IsNormal : Flow → Type 0
IsNormal Normal = Unit {0}
IsNormal (Jump l) = ⊥
IsNormal Returned = ⊥
IsNormal Stopped = ⊥

abbrev pub IsNormalAnswer : Answer Flow → Type 0
IsNormalAnswer (Gave f) = IsNormal f
IsNormalAnswer (Broke b) = ⊥

module _ (m : Marked) where
  abbrev body : Steps Flow
  body = steps_of m.body

  -- with so many iterations left, where the variable has the number
  abbrev pub rest_of_loop : ℕ → ℤ → Store → Ran Flow
  rest_of_loop k n s = on_store (steps_of (iterations_from k n m.step m.index m.body)) s

  abbrev next_plan : ℕ → ℤ → Flow → Plan
  next_plan k n f = on_normal f (first (given Int (kept (n +ℤ m.step))) (λ c. SetPlan m.index c (iterations_from k c.number m.step m.index m.body)))

  -- after one of them, by its next number, if that is in range
  abbrev onward : ℕ → Store → Option ℤ → Ran Flow
  onward k y o = run (steps_of (first (given Int o) (λ c. SetPlan m.index c (iterations_from k c.number m.step m.index m.body)))) (Whole y) []

  abbrev after_one : ℤ → Store → Store
  after_one n s = put (store_of (on_store body s).memory) m.index (content Int (n +ℤ m.step))

  -- a loop that ends normally: its first iteration does, and the rest is the loop of the others
  abbrev Splits : ℕ → ℤ → Store → Type 0
  Splits k n s =
      ((on_store body s).answer ≡ Gave Normal)
      × ((rest_of_loop (suc k) n s).answer ≡ (rest_of_loop k (n +ℤ m.step) (after_one n s)).answer)
      × ((rest_of_loop (suc k) n s).memory ≡ (rest_of_loop k (n +ℤ m.step) (after_one n s)).memory)

  one_split : (k : ℕ) (n : ℤ) (s : Store) → (rest_of_loop (suc k) n s).answer ≡ Gave Normal → Splits k n s
  one_split k n s normal = go (on_store body s).answer refl
    where
      next : Flow → Steps Flow
      next f = steps_of (next_plan k n f)

      is : rest_of_loop (suc k) n s ≡ on_store (body >>= next) s
      is = ap (λ t. on_store t s) (steps_then m.body (next_plan k n))

      ends : (on_store (body >>= next) s).answer ≡ Gave Normal
      ends = ap (λ q. q.answer) (sym is) ∙ normal

      y : Store
      y = store_of (on_store body s).memory

      no : (f : Flow) → (on_store body s).answer ≡ Gave f → (IsNormal f → ⊥) → (run (next f) (Whole y) []).answer ≡ Gave f → Splits k n s
      no f e not same = absurd (not (subst IsNormalAnswer (sym ends ∙ (after_part body next s f e).0 ∙ same) tt))

      on : (on_store body s).answer ≡ Gave Normal → (o : Option ℤ) → kept (n +ℤ m.step) ≡ o → Splits k n s
      on e None q =
          absurd (subst IsNormalAnswer (sym ends ∙ (after_part body next s Normal e).0 ∙ ap (λ o. (onward k y o).answer) q) tt)
      on e (Some z) q =
          let x = after_part body next s Normal e in
          let same : n +ℤ m.step ≡ z = kept_is (n +ℤ m.step) z q in
          let a : (onward k y (Some z)).answer ≡ (rest_of_loop k (n +ℤ m.step) (after_one n s)).answer = ap (λ w. (rest_of_loop k w (put y m.index (content Int w))).answer) (sym same) in
          let b : (onward k y (Some z)).memory ≡ (rest_of_loop k (n +ℤ m.step) (after_one n s)).memory = ap (λ w. (rest_of_loop k w (put y m.index (content Int w))).memory) (sym same) in (
            e,
            ap (λ r. r.answer) is ∙ x.0 ∙ ap (λ o. (onward k y o).answer) q ∙ a,
            ap (λ r. r.memory) is ∙ x.1 ∙ ap (λ o. (onward k y o).memory) q ∙ b,
          )

      go : (q : Answer Flow) → (on_store body s).answer ≡ q → Splits k n s
      go (Broke b) e = absurd (subst IsNormalAnswer (sym ends ∙ broken_part body next s b e) tt)
      go (Gave Normal) e = on e (kept (n +ℤ m.step)) refl
      go (Gave (Jump l)) e = no (Jump l) e (λ z. z) refl
      go (Gave Returned) e = no Returned e (λ z. z) refl
      go (Gave Stopped) e = no Stopped e (λ z. z) refl

  -- what a loop that ends normally does: its first iteration, the write of its variable, and the loop of the others
  pub one_trace : (k : ℕ) (n : ℤ) (s : Store) → (rest_of_loop (suc k) n s).answer ≡ Gave Normal → (rest_of_loop (suc k) n s).trace ≡ (on_store body s).trace ++ Wrote m.index (content Int (n +ℤ m.step)) ∷ (rest_of_loop k (n +ℤ m.step) (after_one n s)).trace
  one_trace k n s normal = go (kept (n +ℤ m.step)) refl
    where
      next : Flow → Steps Flow
      next f = steps_of (next_plan k n f)

      is : rest_of_loop (suc k) n s ≡ on_store (body >>= next) s
      is = ap (λ t. on_store t s) (steps_then m.body (next_plan k n))

      y : Store
      y = store_of (on_store body s).memory

      e : (on_store body s).answer ≡ Gave Normal
      e = (one_split k n s normal).0

      go : (o : Option ℤ) → kept (n +ℤ m.step) ≡ o → (rest_of_loop (suc k) n s).trace ≡ (on_store body s).trace ++ Wrote m.index (content Int (n +ℤ m.step)) ∷ (rest_of_loop k (n +ℤ m.step) (after_one n s)).trace
      go None q = absurd (subst IsNormalAnswer (sym (ap (λ r. r.answer) (sym is) ∙ normal) ∙ (after_part body next s Normal e).0 ∙ ap (λ o. (onward k y o).answer) q) tt)
      go (Some z) q =
          let same : n +ℤ m.step ≡ z = kept_is (n +ℤ m.step) z q in
          let a : (onward k y (Some z)).trace ≡ Wrote m.index (content Int (n +ℤ m.step)) ∷ (rest_of_loop k (n +ℤ m.step) (after_one n s)).trace = ap (λ w. Wrote m.index (content Int w) ∷ (rest_of_loop k w (put y m.index (content Int w))).trace) (sym same) in
          ap (λ r. r.trace) is ∙ trace_part body next s Normal e ∙ ap (λ l. (on_store body s).trace ++ l) (ap (λ o. (onward k y o).trace) q ∙ a)

  -- the other iterations end as the whole loop does
  pub iterations_left : (s : Store) → (whole_loop m s).answer ≡ Gave Normal → (i k : ℕ) → i + k ≡ m.count → ((rest_of_loop k (number_in m.first m.step i) (begun m s i)).answer ≡ Gave Normal) × ((rest_of_loop k (number_in m.first m.step i) (begun m s i)).memory ≡ (whole_loop m s).memory)
  iterations_left s normal zero k e =
      let q : k ≡ m.count = omega (arith, e) in
      (ap (λ j. (rest_of_loop j m.first (begun m s 0)).answer) q ∙ normal, ap (λ j. (rest_of_loop j m.first (begun m s 0)).memory) q)
  iterations_left s normal (suc i) k e =
      let before = iterations_left s normal i (suc k) (omega (arith, e)) in
      let x = one_split k (number_in m.first m.step i) (begun m s i) before.0 in
      (sym x.1 ∙ before.0, sym x.2 ∙ before.1)

  pub iteration_normal : (s : Store) → (whole_loop m s).answer ≡ Gave Normal → (i : ℕ) → i < m.count → (on_store body (begun m s i)).answer ≡ Gave Normal
  iteration_normal s normal i lt =
      let before = iterations_left s normal i (suc (m.count - suc i)) (omega arith) in
      (one_split (m.count - suc i) (number_in m.first m.step i) (begun m s i) before.0).0

  not_index : (x : ℕ) → m.private m.index ≡ true → m.private x ≡ false → x ≢ m.index
  not_index x pu px e = true≢false (sym pu ∙ ap m.private (sym e) ∙ px)

  -- outside the private units the store is that of the shared events
  begun_shared : (s : Store) → MayInterleave m s → (i x : ℕ) → i ≤ m.count → m.private x ≡ false → begun m s i x ≡ in_order (does m s) s i x
  begun_shared s may zero x le px = put_other s m.index (content Int m.first) x (not_index x may.index_private px)
  begun_shared s may (suc i) x le px =
      put_other (store_of (on_store body (begun m s i)).memory) m.index (content Int (number_in m.first m.step (suc i))) x (not_index x may.index_private px)
      ∙ shared_after m.private body (λ y. nat_eq y m.index) (begun m s i) (in_order (does m s) s i) (may.own_first i le) (λ y py. begun_shared s may i y (omega arith) py) x px

  index_is : (s : Store) (i : ℕ) → begun m s i m.index ≡ content Int (number_in m.first m.step i)
  index_is s zero = put_same s m.index _
  index_is s (suc i) = put_same (store_of (on_store body (begun m s i)).memory) m.index (content Int (number_in m.first m.step (suc i)))

  pub knows_index : (s : Store) (i : ℕ) → Agree m.private (λ x. nat_eq x m.index) (own_store m i) (begun m s i)
  knows_index s i x px k =
      ⊎_elim
      (λ e. subst (λ y. own_store m i y ≡ begun m s i y) (sym e.1) (put_same empty_store m.index (content Int (number_in m.first m.step i)) ∙ sym (index_is s i)))
      (λ e. absurd (true≢false (sym k ∙ e.0)))
      (eqb_tells x m.index)

  pub does_alone : (s : Store) → MayInterleave m s → (i : ℕ) → i < m.count → DoesAlone (process m i) [] (in_order (does m s) s i) (does m s i)
  does_alone s may i lt =
      iteration_alone m.private body (λ x. nat_eq x m.index) (own_store m i) (begun m s i) (in_order (does m s) s i) (knows_index s i) (λ x px. begun_shared s may i x (omega arith) px) (may.own_first i lt) (iteration_normal s may.normal i lt)

  -- outside the private units the loop leaves what its shared events leave
  pub loop_shared : (s : Store) → MayInterleave m s → (x : ℕ) → m.private x ≡ false → store_of (whole_loop m s).memory x ≡ in_order (does m s) s m.count x
  loop_shared s may x px = sym (ap (λ q. store_of q x) (iterations_left s may.normal m.count 0 (omega arith)).1) ∙ begun_shared s may m.count x (omega arith) px

  pub loop_interleaves : (s : Store) → MayInterleave m s → (picks : List ℕ) → LoopInterleaves m s picks (interleaved (process m) m.count picks (start s))
  loop_interleaves s may picks =
      let steps = as_in_order (process m) m.count s (does m s) (does_alone s may) may.apart picks in
      record { steps = steps; ends = λ fin x px. steps.end fin x ∙ sym (loop_shared s may x px) }
