-- A run by any schedule: it does what the plain run does, or the schedule is too short.
use Rattle.std.proofs.Common.{⊎_elim, inl, inr, ◌⊎◌, ◌≡◌, ℕ, List, [], ◌∷◌, ◌++◌, ◌||◌, Bool, true, false, refl, sym, ap, ap₂, ◌∙◌, subst, nat_eq, append_assoc}
use Rattle.f77_ast.specs.Store.{Int, Content, Store, content, put, undefined}
use Rattle.f77_ast.specs.Steps.{Shown, Steps, ◌>>=◌}
use Rattle.f77_ast.specs.Plans.{Flow, Normal, steps_of}
use Rattle.f77_ast.specs.Runs.{Event, Wrote, Answer, Gave, Broke, Ran, Whole, run, after_event, first_of, rest_of, store_of}
use Rattle.f77_meaning.specs.Interleavings.{World, start, unfinished, interleaved, when_left}
use Rattle.f77_meaning.specs.Processes.{Marked, process, store_after}
use Rattle.laws_interleavings.specs.Iterations.{begun, loop_plan, whole_loop}
use Rattle.laws_interleavings.specs.Marks.{MarkedPlan, Ends, Breaks, Look, Set, Hold, Forget, Show, Take, Within, Loop, Reduce, plain, OutOfPicks, Parallel, first_picks, other_picks, behind, when_done, then_parallel, parallel_run, plain_run}
use Rattle.laws_interleavings.specs.Sound.{known_after, store_left, on_gave, OnGave, known_end, picks_end, printed_by, LoopSound, Sound, Alike, outcome_of, SameRun, IsPrefix, IsShort, IsReadable, IsForgotten}
use Rattle.laws_interleavings.specs.ReducedLoops.{known_reduced}
use Rattle.laws_interleavings.proofs.Picks.{all_finished}
use Rattle.laws_interleavings.proofs.Runs.{run_bind, on_from, stays_whole}
use Rattle.laws_interleavings.proofs.Same.{alike_put, equal_at, loop_same, none_faulted, printed_append, free_part}
use Rattle.laws_interleavings.proofs.ReducedRuns.{same_whole, short_whole, goes_or_out}
use Rattle.laws_interleavings.proofs.Copies.{none_forgotten, forgotten_less, forgotten_then, forgotten_behind}
use Rattle.f77_ast.proofs.Shared.{steps_then}

abbrev pub Either : (known after : ℕ → Bool) → List (List ℕ) → Ran Flow → Parallel → Type 0
Either known after ls q r = SameRun known after ls q r ⊎ IsShort q r

more_printed : (ps qs rs : List (List Shown)) → IsPrefix qs rs → IsPrefix (ps ++ qs) (ps ++ rs)
more_printed ps qs rs h = record { rest = h.rest; is = append_assoc ps qs h.rest ∙ ap (λ l. ps ++ l) h.is }

longer : (ps qs rs : List (List Shown)) → IsPrefix ps qs → IsPrefix ps (qs ++ rs)
longer ps qs rs h = record { rest = h.rest ++ rs; is = sym (append_assoc ps h.rest rs) ∙ ap (λ l. l ++ rs) h.is }

abbrev pub onward : (Flow → MarkedPlan) → Flow → Steps Flow
onward k f = steps_of (plain (k f))

abbrev pub parallel_onward : (Flow → MarkedPlan) → Flow → Store → List (List ℕ) → List Content → Parallel
parallel_onward k f y ms rest = parallel_run (k f) y ms rest

-- a part that was done, and what comes after it
after_same : (known K : ℕ → Bool) (M : List (List ℕ)) (k : Flow → MarkedPlan) (y : Store) (i : List Content) → ((f : Flow) (z : Store) → Alike K y z → Sound (k f) K y i → Either K (known_end (k f) K y i) (picks_end (k f) y M i) (plain_run (k f) y i) (parallel_run (k f) z M i)) → (x : Answer Flow) (es : List Event) (r : Parallel) → r.outcome ≡ outcome_of x → r.printed ≡ printed_by es → Alike K y r.store → IsForgotten known K r.loops → r.schedule ≡ M → r.input ≡ i → OnGave x y (λ f w. Sound (k f) K w i) → Either known (on_gave x y K (λ f w. known_end (k f) K w i)) (on_gave x y M (λ f w. picks_end (k f) w M i)) (on_from x (Whole y) i es (onward k)) (then_parallel r.outcome r (parallel_onward k))
after_same known K M k y i ih (Broke b) es r o p g fo m j sound =
    inl (subst (λ c. SameRun known K M (on_from (Broke b) (Whole y) i es (onward k)) (then_parallel c r (parallel_onward k))) (sym o)
    (record { outcome = o; printed = p; store = g; forgotten = fo; schedule = m; input = j }))
after_same known K M k y i ih (Gave f) es r o p g fo m j sound =
    let q = on_from (Gave f) (Whole y) i es (onward k) in
    subst (λ c. Either known (known_end (k f) K y i) (picks_end (k f) y M i) q c)
    (λ h. then_parallel (sym o h) (record { outcome = r.outcome; store = r.store; printed = r.printed; loops = r.loops; schedule = sym m h; input = sym j h }) (parallel_onward k))
    (⊎_elim
    (λ e. inl (record { outcome = e.outcome; printed = ap₂ (λ a b. a ++ b) p e.printed ∙ sym (printed_append es _); store = e.store; forgotten = forgotten_then known K (known_end (k f) K y i) r.loops _ fo e.forgotten; schedule = e.schedule; input = e.input }))
    (λ e. inr (record { outcome = e.outcome; printed = subst (λ l. IsPrefix (l ++ (parallel_run (k f) r.store M i).printed) (printed_by (es ++ (plain_run (k f) y i).trace))) (sym p) (subst (IsPrefix (printed_by es ++ (parallel_run (k f) r.store M i).printed)) (sym (printed_append es (plain_run (k f) y i).trace)) (more_printed (printed_by es) _ _ e.printed)) }))
    (ih f r.store g sound))

-- a part that was not done
after_short : (k : Flow → MarkedPlan) (y : Store) (i : List Content) (x : Answer Flow) (es : List Event) (r : Parallel) → r.outcome ≡ OutOfPicks → IsPrefix r.printed (printed_by es) → IsShort (on_from x (Whole y) i es (onward k)) (then_parallel r.outcome r (parallel_onward k))
after_short k y i x es r o p =
    subst (λ c. IsShort (on_from x (Whole y) i es (onward k)) (then_parallel c r (parallel_onward k))) (sym o) (go x)
  where
    go : (x : Answer Flow) → IsShort (on_from x (Whole y) i es (onward k)) (then_parallel OutOfPicks r (parallel_onward k))
    go (Broke b) = record { outcome = o; printed = p }
    go (Gave f) = record { outcome = o; printed = subst (IsPrefix r.printed) (sym (printed_append es (plain_run (k f) y i).trace)) (longer r.printed (printed_by es) (printed_by (plain_run (k f) y i).trace) p) }

same_or : {J J' K : ℕ → Bool} {M : List (List ℕ)} {q q' : Ran Flow} {r r' : Parallel} → Either J K M q r → (SameRun J K M q r → SameRun J' K M q' r') → (IsShort q r → IsShort q' r') → Either J' K M q' r'
same_or e f g = ⊎_elim (λ s. inl (f s)) (λ s. inr (g s)) e

module _ (m : Marked) (k : Flow → MarkedPlan) (known : ℕ → Bool) (s z : Store) (ls : List (List ℕ)) (i : List Content) where
  abbrev w : World
  w = interleaved (process m) m.count (first_picks ls) (start z)

  abbrev left_store : Store
  left_store = store_after m w

  abbrev rest : Ran Flow
  rest = plain_run (k Normal) (store_left m s) i

  abbrev whole : Ran Flow
  whole = plain_run (Loop m k) s i

  abbrev on : Parallel
  on = parallel_run (k Normal) left_store (other_picks ls) i

  part : LoopSound m known s → whole ≡ after_event (Wrote m.index (content Int m.first)) (on_from (Gave Normal) (Whole (store_left m s)) i (whole_loop m s).trace (onward k))
  part sound =
      ap (λ t. after_event (Wrote m.index (content Int m.first)) (run t (Whole (begun m s 0)) i)) (steps_then (loop_plan m) (λ f. plain (k f)))
      ∙ ap (after_event (Wrote m.index (content Int m.first))) (free_part (steps_of (loop_plan m)) (onward k) (begun m s 0) i Normal sound.takes_nothing sound.may.normal)

  same_printed : LoopSound m known s → printed_by rest.trace ≡ printed_by whole.trace
  same_printed sound = ap (λ x. x ++ printed_by rest.trace) (sym sound.silent) ∙ sym (printed_append (whole_loop m s).trace rest.trace) ∙ ap (λ r. printed_by r.trace) (sym (part sound))

  loop_anyhow : Alike known s z → LoopSound m known s → (Alike (known_after m known s) (store_left m s) left_store → Either (known_after m known s) (known_end (k Normal) (known_after m known s) (store_left m s) i) (picks_end (k Normal) (store_left m s) (other_picks ls) i) rest on) → Either known (known_end (Loop m k) known s i) (picks_end (Loop m k) s ls i) whole (parallel_run (Loop m k) z ls i)
  loop_anyhow agree sound ih =
      subst (λ b. Either known (known_end (Loop m k) known s i) (picks_end (Loop m k) s ls i) whole (when_done (when_left b (unfinished (process m) w m.count)) (other_picks ls) i w.store (behind m on))) (sym (none_faulted m known s z (first_picks ls) agree sound))
      (go (unfinished (process m) w m.count) refl)
    where
      go : (js : List ℕ) → unfinished (process m) w m.count ≡ js → Either known (known_end (Loop m k) known s i) (picks_end (Loop m k) s ls i) whole (when_done (when_left false js) (other_picks ls) i w.store (behind m on))
      go (j ∷ js) e = inr (record { outcome = refl; printed = record { rest = printed_by whole.trace; is = refl } })
      go [] e =
          same_or (ih (loop_same m known s z (first_picks ls) agree sound (all_finished (process m) w m.count e)))
          (λ e. record {
            outcome = e.outcome ∙ ap (λ r. outcome_of r.answer) (sym (part sound));
            printed = e.printed ∙ same_printed sound;
            store = subst (λ y. Alike (known_end (k Normal) (known_after m known s) (store_left m s) i) y on.store) (sym (ap (λ r. store_of r.memory) (part sound))) e.store;
            forgotten = forgotten_behind m s known (known_end (k Normal) (known_after m known s) (store_left m s) i) on.loops e.forgotten;
            schedule = e.schedule;
            input = e.input ∙ ap (λ r. r.input) (sym (part sound));
          })
          (λ e. record { outcome = e.outcome; printed = subst (IsPrefix on.printed) (same_printed sound) e.printed })

pub run_anyhow : (t : MarkedPlan) (known : ℕ → Bool) (s z : Store) (ls : List (List ℕ)) (i : List Content) → Alike known s z → Sound t known s i → Either known (known_end t known s i) (picks_end t s ls i) (plain_run t s i) (parallel_run t z ls i)
run_anyhow (Ends f) known s z ls i agree sound = inl (record { outcome = refl; printed = refl; store = agree; forgotten = none_forgotten known; schedule = refl; input = refl })
run_anyhow (Breaks b) known s z ls i agree sound = inl (record { outcome = refl; printed = refl; store = agree; forgotten = none_forgotten known; schedule = refl; input = refl })
run_anyhow (Look u k) known s z ls i agree sound =
    same_or
    (subst (λ c. Either known (known_end (k (s u)) known s i) (picks_end (k (s u)) s ls i) (plain_run (k (s u)) s i) (parallel_run (k c) z ls i)) (equal_at (s u) (z u) ((agree u).0 sound.0) sound.1) (run_anyhow (k (s u)) known s z ls i agree sound.2))
    (λ e. record { outcome = e.outcome; printed = e.printed; store = e.store; forgotten = e.forgotten; schedule = e.schedule; input = e.input })
    (λ e. record { outcome = e.outcome; printed = e.printed })
run_anyhow (Set u c t) known s z ls i agree sound =
    same_or
    (run_anyhow t (λ x. nat_eq x u || known x) (put s u c) (put z u c) ls i (alike_put known s z u c c (inl refl) agree) sound)
    (λ e. record { outcome = e.outcome; printed = e.printed; store = e.store; forgotten = forgotten_less known (known_end t (λ x. nat_eq x u || known x) (put s u c) i) u _ e.forgotten; schedule = e.schedule; input = e.input })
    (λ e. record { outcome = e.outcome; printed = e.printed })
run_anyhow (Hold u c t) known s z ls i agree sound =
    same_or
    (run_anyhow t (λ x. nat_eq x u || known x) (put s u c) (put z u c) ls i (alike_put known s z u c c (inl refl) agree) sound)
    (λ e. record { outcome = e.outcome; printed = e.printed; store = e.store; forgotten = forgotten_less known (known_end t (λ x. nat_eq x u || known x) (put s u c) i) u _ e.forgotten; schedule = e.schedule; input = e.input })
    (λ e. record { outcome = e.outcome; printed = e.printed })
run_anyhow (Forget u t) known s z ls i agree sound =
    same_or
    (run_anyhow t (λ x. nat_eq x u || known x) (put s u (undefined (s u))) (put z u (undefined (z u))) ls i (alike_put known s z u (undefined (s u)) (undefined (z u)) (inr (refl, refl)) agree) sound)
    (λ e. record { outcome = e.outcome; printed = e.printed; store = e.store; forgotten = forgotten_less known (known_end t (λ x. nat_eq x u || known x) (put s u (undefined (s u))) i) u _ e.forgotten; schedule = e.schedule; input = e.input })
    (λ e. record { outcome = e.outcome; printed = e.printed })
run_anyhow (Show xs t) known s z ls i agree sound =
    same_or
    (run_anyhow t known s z ls i agree sound)
    (λ e. record { outcome = e.outcome; printed = ap (λ l. xs ∷ l) e.printed; store = e.store; forgotten = e.forgotten; schedule = e.schedule; input = e.input })
    (λ e. record { outcome = e.outcome; printed = record { rest = e.printed.rest; is = ap (λ l. xs ∷ l) e.printed.is } })
run_anyhow (Take k) known s z ls i agree sound =
    same_or
    (run_anyhow (k (first_of i)) known s z ls (rest_of i) agree sound)
    (λ e. record { outcome = e.outcome; printed = e.printed; store = e.store; forgotten = e.forgotten; schedule = e.schedule; input = e.input })
    (λ e. record { outcome = e.outcome; printed = e.printed })
run_anyhow (Within p at t k) known s z ls i agree sound =
    let q = plain_run t s i in
    let path = run_bind (steps_of (plain t)) (onward k) (Whole s) i ∙ (λ j. on_from q.answer (stays_whole (steps_of (plain t)) s i j) q.input q.trace (onward k)) in
    let K = known_end t known s i in
    let M = picks_end t s ls i in
    let y = store_of q.memory in
    let r = parallel_run t z ls i in
    let joined = run (steps_of (plain t) >>= onward k) (Whole s) i in
    let both : Either known (on_gave q.answer y K (λ f w. known_end (k f) K w q.input)) (on_gave q.answer y M (λ f w. picks_end (k f) w M q.input)) joined (parallel_run (Within p at t k) z ls i) =
    subst (λ c. Either known (on_gave q.answer y K (λ f w. known_end (k f) K w q.input)) (on_gave q.answer y M (λ f w. picks_end (k f) w M q.input)) c (parallel_run (Within p at t k) z ls i)) (sym path)
    (⊎_elim
    (λ e. after_same known K M k y q.input (λ f z' a so. run_anyhow (k f) K y z' M q.input a so) q.answer q.trace r e.outcome e.printed e.store e.forgotten e.schedule e.input sound.1)
    (λ e. inr (after_short k y q.input q.answer q.trace r e.outcome e.printed))
    (run_anyhow t known s z ls i agree sound.0)) in
    same_or both
    (λ e. record { outcome = e.outcome; printed = e.printed; store = e.store; forgotten = e.forgotten; schedule = e.schedule; input = e.input })
    (λ e. record { outcome = e.outcome; printed = e.printed })
run_anyhow (Loop m k) known s z ls i agree sound =
    loop_anyhow m k known s z ls i agree sound.0
    (λ l. run_anyhow (k Normal) (known_after m known s) (store_left m s) (left_store m k known s z ls i) (other_picks ls) i l sound.1)
run_anyhow (Reduce d k) known s z ls i agree sound =
    ⊎_elim
    (λ g.
    subst (Either known (known_end (Reduce d k) known s i) (picks_end (Reduce d k) s ls i) (plain_run (Reduce d k) s i)) (sym g.is)
    (⊎_elim
    (λ e. inl (same_whole d k known s i sound.0 (known_end (Reduce d k) known s i) (picks_end (Reduce d k) s ls i) (parallel_run (k Normal) g.store (other_picks ls) i) e))
    (λ e. inr (short_whole d k known s i sound.0 (parallel_run (k Normal) g.store (other_picks ls) i) e))
    (run_anyhow (k Normal) (known_reduced d known s) (store_left d.loop s) g.store (other_picks ls) i g.known_alike sound.1)))
    (λ o. inr (record { outcome = o.outcome; printed = subst (λ ps. IsPrefix ps (printed_by (plain_run (Reduce d k) s i).trace)) (sym o.printed) (record { rest = printed_by (plain_run (Reduce d k) s i).trace; is = refl }) }))
    (goes_or_out d k known s z ls i agree sound.0)

pub readable : (t : MarkedPlan) (s z : Store) (ls : List (List ℕ)) (i : List Content) (K : ℕ → Bool) → Alike K (store_of (plain_run t s i).memory) (parallel_run t z ls i).store → IsReadable (plain_run t s i) (parallel_run t z ls i)
readable t s z ls i K h x defined = go (K x) refl
  where
    go : (b : Bool) → K x ≡ b → store_of (plain_run t s i).memory x ≡ (parallel_run t z ls i).store x
    go true e = ⊎_elim (λ q. q) (λ q. absurd (defined q.1)) ((h x).0 e)
    go false e = absurd (defined ((h x).1 e))
