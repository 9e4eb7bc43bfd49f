-- A run that meets a loop with reduction variables, by a schedule.
use Rattle.std.proofs.Common.{◌≡◌, ℕ, ◌+◌, ◌*◌, ◌≤◌, ◌⊎◌, inl, inr, ⊎_elim, List, [], ◌∷◌, ◌++◌, length, not, ◌&&◌, ◌||◌, Bool, true, false, refl, sym, ap, ap₂, ◌∙◌, subst, arith, nat_eq, true≢false}
use Rattle.std.specs.Prelude.{if◌then◌else◌}
use Rattle.f77_ast.specs.Store.{Int, Content, Store, content}
use Rattle.f77_ast.specs.Steps.{Steps}
use Rattle.f77_ast.specs.Plans.{Flow, Normal, steps_of}
use Rattle.f77_ast.specs.Runs.{Wrote, Gave, Ran, Whole, run, after_event, store_of}
use Rattle.f77_meaning.specs.Interleavings.{World, start, unfinished, interleaved, any_fault, when_left}
use Rattle.f77_meaning.specs.Processes.{Marked}
use Rattle.laws_interleavings.specs.Alone.{actions}
use Rattle.laws_interleavings.specs.Iterations.{begun, loop_plan, whole_loop}
use Rattle.laws_interleavings.specs.Reductions.{Reduced, is_accumulator, reduced_process, copies, Combination, AllCombined, CopiesLeft, combined, picks_left, reduced_after}
use Rattle.laws_interleavings.specs.Marks.{MarkedPlan, Reduce, plain, plain_run, OutOfPicks, Parallel, first_picks, other_picks, behind, when_done, when_combined, parallel_run}
use Rattle.laws_interleavings.specs.Sound.{some_wrote, known_at, store_left, printed_by, Alike, outcome_of, may_lose_one_of, IsForgotten, SameRun, IsPrefix, IsShort}
use Rattle.laws_interleavings.specs.ReducedLoops.{reduced_does, known_reduced, ReducedSound}
use Rattle.laws_interleavings.proofs.Picks.{all_finished}
use Rattle.laws_interleavings.proofs.Runs.{on_from}
use Rattle.laws_interleavings.proofs.Same.{printed_append, free_part, none_faults}
use Rattle.laws_interleavings.proofs.ReducedSame.{reduced_in_order, no_process_left, combination, reduced_same, all_combined}
use Rattle.laws_interleavings.proofs.Copies.{known_at_false}
use Rattle.fx_lists.proofs.Booleans.{or_true}
use Rattle.f77_ast.proofs.Shared.{steps_then}

abbrev onward : (Flow → MarkedPlan) → Flow → Steps Flow
onward k f = steps_of (plain (k f))

-- ---- the plain run

module _ (d : Reduced) (k : Flow → MarkedPlan) (known : ℕ → Bool) (s : Store) (i : List Content) (sound : ReducedSound d known s) where
  abbrev m : Marked
  m = d.loop

  abbrev rest : Ran Flow
  rest = plain_run (k Normal) (store_left m s) i

  abbrev whole : Ran Flow
  whole = plain_run (Reduce d k) s i

  part : whole ≡ after_event (Wrote m.index (content Int m.first)) (on_from (Gave Normal) (Whole (store_left m s)) i (whole_loop m s).trace (onward k))
  part =
      ap (λ t. after_event (Wrote m.index (content Int m.first)) (run t (Whole (begun m s 0)) i)) (steps_then (loop_plan m) (λ f. plain (k f)))
      ∙ ap (after_event (Wrote m.index (content Int m.first))) (free_part (steps_of (loop_plan m)) (onward k) (begun m s 0) i Normal sound.takes_nothing sound.may.normal)

  same_printed : printed_by rest.trace ≡ printed_by whole.trace
  same_printed = ap (λ x. x ++ printed_by rest.trace) (sym sound.silent) ∙ sym (printed_append (whole_loop m s).trace rest.trace) ∙ ap (λ (r : Ran Flow). printed_by r.trace) (sym part)

  -- what is not known after the loop
  forgotten : (after : ℕ → Bool) (ms : List Marked) → IsForgotten (known_reduced d known s) after ms → IsForgotten known after (m ∷ ms)
  forgotten after ms h x e =
      ⊎_elim
      (λ f. by_kind (nat_eq x m.index) (m.named x) (m.private x) (is_accumulator d.accumulators x) refl refl f)
      (λ g. inr (ap (λ c. (nat_eq x m.index || m.named x) || c) g ∙ or_true (nat_eq x m.index || m.named x)))
      (h x e)
    where
      by_kind : (b1 b2 b3 b4 : Bool) → nat_eq x m.index ≡ b1 → m.named x ≡ b2 →
          (if b1 then false else if b2 then (not (some_wrote m s m.count x) && known x) else if b3 then true else if b4 then known x else known_at (reduced_does d s) known m.count x) ≡ false →
          (known x ≡ false) ⊎ (may_lose_one_of (m ∷ ms) x ≡ true)
      by_kind true b2 b3 b4 e1 e2 f = inr (ap (λ c. (c || m.named x) || may_lose_one_of ms x) e1)
      by_kind false true b3 b4 e1 e2 f = inr (ap₂ (λ c g. (c || g) || may_lose_one_of ms x) e1 e2)
      by_kind false false true b4 e1 e2 f = absurd (true≢false f)
      by_kind false false false true e1 e2 f = inl f
      by_kind false false false false e1 e2 f = inl (known_at_false (reduced_does d s) known m.count x f)

  pub same_whole : (after : ℕ → Bool) (ls : List (List ℕ)) (r : Parallel) → SameRun (known_reduced d known s) after ls rest r → SameRun known after ls whole (behind m r)
  same_whole after ls r e = record {
    outcome = e.outcome ∙ ap (λ (q : Ran Flow). outcome_of q.answer) (sym part);
    printed = e.printed ∙ same_printed;
    store = subst (λ y. Alike after y r.store) (sym (ap (λ (q : Ran Flow). store_of q.memory) part)) e.store;
    forgotten = forgotten after r.loops e.forgotten;
    schedule = e.schedule;
    input = e.input ∙ ap (λ (q : Ran Flow). q.input) (sym part);
  }

  pub short_whole : (r : Parallel) → IsShort rest r → IsShort whole (behind m r)
  short_whole r e = record { outcome = e.outcome; printed = subst (IsPrefix r.printed) same_printed e.printed }

-- ---- the run by a schedule

module _ (d : Reduced) (k : Flow → MarkedPlan) (known : ℕ → Bool) (s z : Store) (ls : List (List ℕ)) (i : List Content) (alike : Alike known s z) (sound : ReducedSound d known s) where
  abbrev picks : List ℕ
  picks = first_picks ls

  abbrev w : World
  w = interleaved (reduced_process d) d.loop.count (first_picks ls) (start z)

  abbrev next : Store → Parallel
  next y = behind d.loop (parallel_run (k Normal) (reduced_after d w y) (other_picks ls) i)

  abbrev came : Combination
  came = combined (picks_left (reduced_process d) d.loop.count (first_picks ls) (start z)) w.store (copies d w d.loop.count)

  no_fault : any_fault (reduced_process d) w d.loop.count ≡ false
  no_fault = none_faults (reduced_process d) w d.loop.count (reduced_in_order d known s z alike sound picks).no_fault

  as_it_came : (js : List ℕ) (c : Combination) → unfinished (reduced_process d) w d.loop.count ≡ js → came ≡ c → parallel_run (Reduce d k) z ls i ≡ when_done (when_left false js) (other_picks ls) i w.store (when_combined c (other_picks ls) i next)
  as_it_came js c e f = λ j. when_done (when_left (no_fault j) (e j)) (other_picks ls) i w.store (when_combined (f j) (other_picks ls) i next)

  -- it goes on from a store that is alike
  pub record GoesOn : Type 0 where
    pub store : Store
    pub known_alike : Alike (known_reduced d known s) (store_left d.loop s) store
    pub is : parallel_run (Reduce d k) z ls i ≡ behind d.loop (parallel_run (k Normal) store (other_picks ls) i)

  -- or the picks have ended
  pub record IsOut : Type 0 where
    pub outcome : (parallel_run (Reduce d k) z ls i).outcome ≡ OutOfPicks
    pub printed : (parallel_run (Reduce d k) z ls i).printed ≡ []

  pub goes_or_out : GoesOn ⊎ IsOut
  goes_or_out = go (unfinished (reduced_process d) w d.loop.count) refl
    where
      go : (js : List ℕ) → unfinished (reduced_process d) w d.loop.count ≡ js → GoesOn ⊎ IsOut
      go (j ∷ js) e = let q = as_it_came (j ∷ js) came e refl in inr (record { outcome = ap (λ (r : Parallel). r.outcome) q; printed = ap (λ (r : Parallel). r.printed) q })
      go [] e =
          let fin = all_finished (reduced_process d) w d.loop.count e in
          ⊎_elim
          (λ a. inl (record { store = reduced_after d w a.0; known_alike = reduced_same d known s z alike sound picks fin a.0 a.2; is = as_it_came [] (AllCombined a.0) e a.1 }))
          (λ b. let q = as_it_came [] (CopiesLeft b.0) e b.1 in inr (record { outcome = ap (λ (r : Parallel). r.outcome) q; printed = ap (λ (r : Parallel). r.printed) q }))
          (combination d known s z alike sound picks fin (picks_left (reduced_process d) d.loop.count picks (start z)))

  pub goes_on : actions (reduced_does d s) d.loop.count + d.loop.count * length d.accumulators ≤ length (first_picks ls) → GoesOn
  goes_on enough =
      let fin = (reduced_in_order d known s z alike sound picks).done (omega (arith, enough)) in
      let e = no_process_left d known s z alike sound picks fin in
      ⊎_elim
      (λ a. record { store = reduced_after d w a.0; known_alike = reduced_same d known s z alike sound picks fin a.0 a.2; is = as_it_came [] (AllCombined a.0) e a.1 })
      (λ b. absurd (all_combined d known s z alike sound picks enough b.2))
      (combination d known s z alike sound picks fin (picks_left (reduced_process d) d.loop.count picks (start z)))
