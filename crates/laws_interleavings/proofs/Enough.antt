-- A run by a schedule that is long enough does what the plain run does.
use Rattle.std.proofs.Common.{◌≡◌, ℕ, inl, inr, List, ◌∷◌, ◌++◌, ◌||◌, Bool, refl, sym, ap, ap₂, ◌∙◌, subst, nat_eq}
use Rattle.f77_ast.specs.Store.{Int, Content, Store, content, put, undefined}
use Rattle.f77_ast.specs.Plans.{Flow, Normal, steps_of}
use Rattle.f77_ast.specs.Runs.{Event, Wrote, Answer, Gave, Broke, Ran, Whole, run, after_event, first_of, rest_of, store_of}
use Rattle.f77_meaning.specs.Interleavings.{start, interleaved, Outcome}
use Rattle.f77_meaning.specs.Processes.{process, store_after}
use Rattle.laws_interleavings.specs.Iterations.{begun, loop_plan, whole_loop}
use Rattle.laws_interleavings.specs.Marks.{MarkedPlan, Ends, Breaks, Look, Set, Hold, Forget, Show, Take, Within, Loop, Reduce, plain, Parallel, first_picks, other_picks, behind, when_done, then_parallel, parallel_run, plain_run}
use Rattle.laws_interleavings.specs.Sound.{known_after, store_left, on_gave, OnGave, known_end, picks_end, printed_by, Sound, Alike, outcome_of, SameRun, IsForgotten, Enough}
use Rattle.laws_interleavings.specs.ReducedLoops.{known_reduced}
use Rattle.laws_interleavings.proofs.ReducedRuns.{same_whole, goes_on}
use Rattle.laws_interleavings.proofs.Runs.{run_bind, on_from, stays_whole}
use Rattle.laws_interleavings.proofs.Same.{alike_put, equal_at, loop_in_order, loop_same, all_done, printed_append, free_part}
use Rattle.laws_interleavings.proofs.Copies.{none_forgotten, forgotten_less, forgotten_then, forgotten_behind}
use Rattle.laws_interleavings.proofs.Anyhow.{onward, parallel_onward}
use Rattle.f77_ast.proofs.Shared.{steps_then}

-- a part, and what comes after it
part_same : (known K : ℕ → Bool) (M : List (List ℕ)) (k : Flow → MarkedPlan) (y : Store) (i : List Content) → ((f : Flow) (z : Store) → Alike K y z → Sound (k f) K y i → Enough (k f) y M i → SameRun K (known_end (k f) K y i) (picks_end (k f) y M i) (plain_run (k f) y i) (parallel_run (k f) z M i)) → (x : Answer Flow) (es : List Event) (r : Parallel) → r.outcome ≡ outcome_of x → r.printed ≡ printed_by es → Alike K y r.store → IsForgotten known K r.loops → r.schedule ≡ M → r.input ≡ i → OnGave x y (λ f w. Sound (k f) K w i) → OnGave x y (λ f w. Enough (k f) w M i) → SameRun known (on_gave x y K (λ f w. known_end (k f) K w i)) (on_gave x y M (λ f w. picks_end (k f) w M i)) (on_from x (Whole y) i es (onward k)) (then_parallel r.outcome r (parallel_onward k))
part_same known K M k y i ih (Broke b) es r o p g fo m j sound enough =
    subst (λ c. SameRun known K M (on_from (Broke b) (Whole y) i es (onward k)) (then_parallel c r (parallel_onward k))) (sym o)
    (record { outcome = o; printed = p; store = g; forgotten = fo; schedule = m; input = j })
part_same known K M k y i ih (Gave f) es r o p g fo m j sound enough =
    let e = ih f r.store g sound enough in
    let q = on_from (Gave f) (Whole y) i es (onward k) in
    subst (λ c. SameRun known (known_end (k f) K y i) (picks_end (k f) y M i) q c)
    (λ h. then_parallel (sym o h) (record { outcome = r.outcome; store = r.store; printed = r.printed; loops = r.loops; schedule = sym m h; input = sym j h }) (parallel_onward k))
    (record { outcome = e.outcome; printed = ap₂ (λ a b. a ++ b) p e.printed ∙ sym (printed_append es _); store = e.store; forgotten = forgotten_then known K (known_end (k f) K y i) r.loops _ fo e.forgotten; schedule = e.schedule; input = e.input })

pub run_same : (t : MarkedPlan) (known : ℕ → Bool) (s z : Store) (ls : List (List ℕ)) (i : List Content) → Alike known s z → Sound t known s i → Enough t s ls i → SameRun known (known_end t known s i) (picks_end t s ls i) (plain_run t s i) (parallel_run t z ls i)
run_same (Ends f) known s z ls i agree sound enough = record { outcome = refl; printed = refl; store = agree; forgotten = none_forgotten known; schedule = refl; input = refl }
run_same (Breaks b) known s z ls i agree sound enough = record { outcome = refl; printed = refl; store = agree; forgotten = none_forgotten known; schedule = refl; input = refl }
run_same (Look u k) known s z ls i agree sound enough =
    let e = run_same (k (s u)) known s z ls i agree sound.2 enough in
    let e' = subst (λ c. SameRun known (known_end (k (s u)) known s i) (picks_end (k (s u)) s ls i) (plain_run (k (s u)) s i) (parallel_run (k c) z ls i)) (equal_at (s u) (z u) ((agree u).0 sound.0) sound.1) e in
    record { outcome = e'.outcome; printed = e'.printed; store = e'.store; forgotten = e'.forgotten; schedule = e'.schedule; input = e'.input }
run_same (Set u c t) known s z ls i agree sound enough =
    let e = run_same t (λ x. nat_eq x u || known x) (put s u c) (put z u c) ls i (alike_put known s z u c c (inl refl) agree) sound enough in
    record { outcome = e.outcome; printed = e.printed; store = e.store; forgotten = forgotten_less known (known_end t (λ x. nat_eq x u || known x) (put s u c) i) u _ e.forgotten; schedule = e.schedule; input = e.input }
run_same (Hold u c t) known s z ls i agree sound enough =
    let e = run_same t (λ x. nat_eq x u || known x) (put s u c) (put z u c) ls i (alike_put known s z u c c (inl refl) agree) sound enough in
    record { outcome = e.outcome; printed = e.printed; store = e.store; forgotten = forgotten_less known (known_end t (λ x. nat_eq x u || known x) (put s u c) i) u _ e.forgotten; schedule = e.schedule; input = e.input }
run_same (Forget u t) known s z ls i agree sound enough =
    let e = run_same t (λ x. nat_eq x u || known x) (put s u (undefined (s u))) (put z u (undefined (z u))) ls i (alike_put known s z u _ _ (inr (refl, refl)) agree) sound enough in
    record { outcome = e.outcome; printed = e.printed; store = e.store; forgotten = forgotten_less known (known_end t (λ x. nat_eq x u || known x) (put s u (undefined (s u))) i) u _ e.forgotten; schedule = e.schedule; input = e.input }
run_same (Show xs t) known s z ls i agree sound enough =
    let e = run_same t known s z ls i agree sound enough in
    record { outcome = e.outcome; printed = ap (λ l. xs ∷ l) e.printed; store = e.store; forgotten = e.forgotten; schedule = e.schedule; input = e.input }
run_same (Take k) known s z ls i agree sound enough =
    let e = run_same (k (first_of i)) known s z ls (rest_of i) agree sound enough in
    record { outcome = e.outcome; printed = e.printed; store = e.store; forgotten = e.forgotten; schedule = e.schedule; input = e.input }
run_same (Within p at t k) known s z ls i agree sound enough =
    let q = plain_run t s i in
    let e = run_same t known s z ls i agree sound.0 enough.0 in
    let path = run_bind (steps_of (plain t)) (onward k) (Whole s) i ∙ (λ j. on_from q.answer (stays_whole (steps_of (plain t)) s i j) q.input q.trace (onward k)) in
    let K = known_end t known s i in
    let M = picks_end t s ls i in
    let y = store_of q.memory in
    let both = part_same known K M k y q.input (λ f z' a so en. run_same (k f) K y z' M q.input a so en) q.answer q.trace (parallel_run t z ls i) e.outcome e.printed e.store e.forgotten e.schedule e.input sound.1 enough.1 in
    record {
      outcome = both.outcome ∙ ap (λ (r : Ran Flow). outcome_of r.answer) (sym path);
      printed = both.printed ∙ ap (λ (r : Ran Flow). printed_by r.trace) (sym path);
      store = subst (λ w. Alike (known_end (Within p at t k) known s i) w (parallel_run (Within p at t k) z ls i).store) (sym (ap (λ (r : Ran Flow). store_of r.memory) path)) both.store;
      forgotten = both.forgotten;
      schedule = both.schedule;
      input = both.input ∙ ap (λ (r : Ran Flow). r.input) (sym path);
    }
run_same (Loop m k) known s z ls i agree sound enough =
    let picks = first_picks ls in
    let w = interleaved (process m) m.count picks (start z) in
    let fin = (loop_in_order m known s z picks agree sound.0).done enough.0 in
    let s' = store_left m s in
    let z' = store_after m w in
    let known' = known_after m known s in
    let e = run_same (k Normal) known' s' z' (other_picks ls) i (loop_same m known s z picks agree sound.0 fin) sound.1 enough.1 in
    let part : plain_run (Loop m k) s i ≡ after_event (Wrote m.index (content Int m.first)) (on_from (Gave Normal) (Whole s') i (whole_loop m s).trace (onward k)) =
    ap (λ t. after_event (Wrote m.index (content Int m.first)) (run t (Whole (begun m s 0)) i)) (steps_then (loop_plan m) (λ f. plain (k f)))
    ∙ ap (after_event (Wrote m.index (content Int m.first))) (free_part (steps_of (loop_plan m)) (onward k) (begun m s 0) i Normal sound.0.takes_nothing sound.0.may.normal) in
    subst (λ (o : Outcome). SameRun known (known_end (Loop m k) known s i) (picks_end (Loop m k) s ls i) (plain_run (Loop m k) s i) (when_done o (other_picks ls) i w.store (behind m (parallel_run (k Normal) z' (other_picks ls) i)))) (sym (all_done m known s z picks agree sound.0 fin))
    (record {
      outcome = e.outcome ∙ ap (λ (r : Ran Flow). outcome_of r.answer) (sym part);
      printed = e.printed ∙ ap (λ x. x ++ printed_by (plain_run (k Normal) s' i).trace) (sym sound.0.silent) ∙ sym (printed_append (whole_loop m s).trace _) ∙ ap (λ (r : Ran Flow). printed_by r.trace) (sym part);
      store = subst (λ y. Alike (known_end (k Normal) known' s' i) y (parallel_run (k Normal) z' (other_picks ls) i).store) (sym (ap (λ (r : Ran Flow). store_of r.memory) part)) e.store;
      forgotten = forgotten_behind m s known (known_end (k Normal) known' s' i) (parallel_run (k Normal) z' (other_picks ls) i).loops e.forgotten;
      schedule = e.schedule;
      input = e.input ∙ ap (λ (r : Ran Flow). r.input) (sym part);
    })
run_same (Reduce d k) known s z ls i agree sound enough =
    let g = goes_on d k known s z ls i agree sound.0 enough.0 in
    subst (SameRun known (known_end (Reduce d k) known s i) (picks_end (Reduce d k) s ls i) (plain_run (Reduce d k) s i)) (sym g.is)
    (same_whole d k known s i sound.0 (known_end (Reduce d k) known s i) (picks_end (Reduce d k) s ls i) (parallel_run (k Normal) g.store (other_picks ls) i)
    (run_same (k Normal) (known_reduced d known s) (store_left d.loop s) g.store (other_picks ls) i g.known_alike sound.1 enough.1))
