-- A loop that control does not leave ends normally, and a run that takes no input is the same without input.
use Rattle.std.proofs.Common.{◌≡◌, ℕ, suc, List, [], ◌∷◌, ◌++◌, Some, ⊎_elim, refl, sym, ap, ◌∙◌, subst, arith, true≢false}
use Rattle.std.specs.Prelude.{slice_get}
use Rattle.f77_ast.specs.Store.{Int, Content, Store, content, put, undefined}
use Rattle.f77_ast.specs.Trees.{LoopTree}
use Rattle.f77_ast.specs.Places.{Places}
use Rattle.f77_ast.specs.Writes.{Locks}
use Rattle.f77_ast.specs.Steps.{Shown, Steps, Done, Breaks, Look, Set, Hold, Forget, Show, Take, Arrive, ◌>>=◌}
use Rattle.f77_ast.specs.Runs.{Event, Arrived, Read, Wrote, Printed, Took, Answer, Gave, Broke, Ran, Whole, run, after_event, store_of, first_of, rest_of}
use Rattle.f77_ast.specs.Plans.{Flow, Normal, Jump, Returned, Stopped, Plan, steps_of}
use Rattle.f77_ast.specs.Plans as plan
use Rattle.f77_ast.specs.Executions.{run_of}
use Rattle.f77_ast.specs.Statements.{Scope, do_plan}
use Rattle.f77_meaning.specs.Processes.{Marked}
use Rattle.laws_interleavings.specs.Iterations.{begun, loop_plan}
use Rattle.laws_interleavings.specs.Sound.{NoTake, printed_by}
use Rattle.laws_interleavings.proofs.Runs.{run_bind, on_from, stays_whole}
use Rattle.laws_interleavings.proofs.Same.{with_input, printed_append}
use Rattle.laws_interleavings.proofs.Loops.{IsNormalAnswer}
use Rattle.laws_marks.specs.ConflictIterations.{Iteration, unless_over, after_part, iterations_since, iterations}
use Rattle.laws_marks.specs.ConflictClaims.{LeavesBy, body_list}
use Rattle.laws_marks.proofs.ConflictParts.{iterations_are_parts}
use Rattle.laws_marks.specs.MarkedEnding.{EndsQuietly, loop_run, StaysIn, IsQuietRun, IsQuietDo}
use Rattle.laws_marks.specs.MarkedBegun.{iterations_of}
use Rattle.laws_marks.specs.MarkedBegins.{Begins}
use Rattle.laws_marks.proofs.MarkedBegun.{parse_part}

-- ---- without input

-- a run that takes none
pub free_on : {A : Type 0} (t : Steps A) (s : Store) (i : List Content) → NoTake (run t (Whole s) i).trace → run t (Whole s) i ≡ with_input i (run t (Whole s) [])
free_on (Done a) s i h = refl
free_on (Breaks b) s i h = refl
free_on (Look u k) s i h = ap (after_event (Read u (s u))) (free_on (k (s u)) s i h)
free_on (Set u c t) s i h = ap (after_event (Wrote u c)) (free_on t (put s u c) i h)
free_on (Hold u c t) s i h = free_on t (put s u c) i h
free_on (Forget u t) s i h = free_on t (put s u (undefined (s u))) i h
free_on (Show xs t) s i h = ap (after_event (Printed xs)) (free_on t s i h)
free_on (Take k) s i h = absurd h
free_on (Arrive p t) s i h = ap (after_event (Arrived p)) (free_on t s i h)

-- ---- control stays in it

abbrev AllStay : List Iteration → Type 0
AllStay xs = (j : ℕ) (x : Iteration) → slice_get xs j ≡ Some x → StaysIn x.ended

-- where it ends, it ends normally
abbrev EndsNormal : Answer Flow → Type 0
EndsNormal (Gave Normal) = Unit {0}
EndsNormal (Gave (Jump l)) = ⊥
EndsNormal (Gave Returned) = ⊥
EndsNormal (Gave Stopped) = ⊥
EndsNormal (Broke b) = Unit {0}

stays_over : (b : Store) (es : List Event) (f : Flow) → AllStay (unless_over f (record { start = b; did = es; ended = Gave f })) → EndsNormal (Gave f)
stays_over b es Normal h = tt
stays_over b es (Jump l) h = h 0 (record { start = b; did = es; ended = Gave (Jump l) }) refl
stays_over b es Returned h = h 0 (record { start = b; did = es; ended = Gave Returned }) refl
stays_over b es Stopped h = h 0 (record { start = b; did = es; ended = Gave Stopped }) refl

since_ends : (b : Store) (t : Plan) (es : List Event) (s : Store) (i : List Content) → AllStay (iterations_since b es t s i) → EndsNormal (run_of t s i).answer
since_ends b (plan.Ends f) es s i h = stays_over b es f h
since_ends b (plan.Breaks c) es s i h = tt
since_ends b (plan.Look u k) es s i h = since_ends b (k (s u)) (es ++ Read u (s u) ∷ []) s i h
since_ends b (plan.Set u c t) es s i h = since_ends (put s u c) t [] (put s u c) i (λ j x e. h (suc j) x e)
since_ends b (plan.Hold u c t) es s i h = since_ends b t es (put s u c) i h
since_ends b (plan.Forget u t) es s i h = since_ends b t es (put s u (undefined (s u))) i h
since_ends b (plan.Show xs t) es s i h = since_ends b t (es ++ Printed xs ∷ []) s i h
since_ends b (plan.Take k) es s i h = since_ends b (k (first_of i)) (es ++ Took (first_of i) ∷ []) s (rest_of i) h
since_ends b (plan.Within p at t k) es s i h =
    subst (λ (r : Ran Flow). EndsNormal r.answer) (sym path) (go q.answer (store_of q.memory) q.input q.trace (λ f w. since_ends b (k f) (es ++ Arrived p ∷ q.trace) (store_of q.memory) q.input w) h)
  where
    q : Ran Flow
    q = run_of t s i

    onward : Flow → Steps Flow
    onward f = steps_of (k f)

    path : run (steps_of t >>= onward) (Whole s) i ≡ on_from q.answer (Whole (store_of q.memory)) q.input q.trace onward
    path = run_bind (steps_of t) onward (Whole s) i ∙ (λ j. on_from q.answer (stays_whole (steps_of t) s i j) q.input q.trace onward)

    go : (a : Answer Flow) (z : Store) (j : List Content) (ts : List Event) → ((f : Flow) → AllStay (iterations_since b (es ++ Arrived p ∷ ts) (k f) z j) → EndsNormal (run_of (k f) z j).answer) →
        AllStay (after_part a (λ f. iterations_since b (es ++ Arrived p ∷ ts) (k f) z j) (λ c. record { start = b; did = es ++ Arrived p ∷ ts; ended = Broke c } ∷ [])) → EndsNormal (on_from a (Whole z) j ts onward).answer
    go (Gave f) z j ts ih w = ih f w
    go (Broke c) z j ts ih w = tt

normal_is : (f : Flow) → EndsNormal (Gave f) → f ≡ Normal
normal_is Normal h = refl
normal_is (Jump l) h = absurd h
normal_is Returned h = absurd h
normal_is Stopped h = absurd h

pub ends_quietly : (m : Marked) (s : Store) (i : List Content) → IsQuietRun m s i → EndsQuietly m s
ends_quietly m s i h =
    let same = free_on (steps_of (loop_plan m)) (begun m s 0) i h.takes_nothing in
    let n : EndsNormal (loop_run m s i).answer = since_ends (begun m s 0) (loop_plan m) [] (begun m s 0) i h.stays in
    record {
      normal = sym (ap (λ (q : Ran Flow). q.answer) same) ∙ h.ends ∙ ap Gave (normal_is h.flow (subst EndsNormal h.ends n));
      silent = sym (ap (λ (q : Ran Flow). printed_by q.trace) same) ∙ h.silent;
      takes_nothing = subst (λ (q : Ran Flow). NoTake q.trace) same h.takes_nothing;
    }

-- ---- the DO of the loop

last_none : (a b : List (List Shown)) → a ++ b ≡ [] → b ≡ []
last_none [] b e = e
last_none (x ∷ a) b e = absurd (let z : x ∷ (a ++ b) ≡ [] = e in grind arith)

module _ (sc : Scope) (variable : List ℕ) (l : LoopTree) (at : Places) (locked : Locks) (m : Marked) (s : Store) (i : List Content) (b : Begins sc variable l at locked m s i) (h : IsQuietDo sc l at locked s i) where
  abbrev behind_looks : List Event
  behind_looks = Wrote m.index (content Int m.first) ∷ (loop_run m s i).trace

  stays_in : (j : ℕ) (x : Iteration) → slice_get (iterations_of m s i) j ≡ Some x → StaysIn x.ended
  stays_in j x e = go x.ended refl (h.leaves j x at_place)
    where
      at_place : slice_get (iterations (do_plan l sc at locked) s i) j ≡ Some x
      at_place = ap (λ ys. slice_get ys j) b.cut ∙ e

      no_stop : x.ended ≡ Gave Stopped → ⊥
      no_stop q =
          ⊎_elim
          (λ n. subst IsNormalAnswer (sym n ∙ q) tt)
          (λ d. h.no_stop (sym d ∙ q))
          (iterations_are_parts (do_plan l sc at locked) s i j x at_place).ended

      go : (a : Answer Flow) → x.ended ≡ a → LeavesBy (body_list l) a → StaysIn a
      go (Gave Normal) q lv = tt
      go (Gave (Jump n)) q lv = h.no_jump n lv
      go (Gave Returned) q lv = true≢false (sym lv ∙ h.no_return)
      go (Gave Stopped) q lv = no_stop q
      go (Broke c) q lv = tt

  pub loop_is_quiet : IsQuietRun m s i
  loop_is_quiet = record {
    flow = h.flow;
    ends = sym (ap (λ (q : Ran Flow). q.answer) b.run) ∙ h.ends;
    stays = stays_in;
    silent = last_none (printed_by b.looks) (printed_by behind_looks) (sym (printed_append b.looks behind_looks) ∙ sym (ap (λ (q : Ran Flow). printed_by q.trace) b.run) ∙ h.silent);
    takes_nothing = (parse_part b.looks behind_looks (subst (λ (q : Ran Flow). NoTake q.trace) b.run h.takes_nothing)).1;
  }
