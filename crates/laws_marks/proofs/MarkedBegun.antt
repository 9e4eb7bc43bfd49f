-- The plan of a marked DO is cut into the iterations of its loop.
use Rattle.std.proofs.Common.{◌≡◌, ℕ, zero, suc, ◌+◌, ◌<◌, ◌≤◌, ⊎_elim, List, [], ◌∷◌, ◌++◌, Option, Some, None, refl, sym, ap, ◌∙◌, subst, arith, ℤ, ◌+ℤ◌, append_assoc, append-nil}
use Rattle.std.specs.Prelude.{slice_get}
use Rattle.std.proofs.lemmas.Bool.Decides.{eqb_tells}
use Rattle.f77_ast.specs.Trees.{StmtTrees}
use Rattle.f77_ast.specs.Trees as tree
use Rattle.f77_ast.specs.Places.{Places}
use Rattle.f77_ast.specs.Store.{Int, Content, Store, content, put, undefined}
use Rattle.f77_ast.specs.Steps.{Steps, ◌>>=◌}
use Rattle.f77_ast.specs.Runs.{Event, Arrived, Read, Wrote, Printed, Took, Answer, Gave, Broke, Ran, Whole, run, store_of, first_of, rest_of}
use Rattle.f77_ast.specs.Numbers.{kept}
use Rattle.f77_ast.specs.Values.{given}
use Rattle.f77_ast.specs.Writes.{Locks}
use Rattle.f77_ast.specs.Plans.{Flow, Normal, Plan, ◌▹◌, first, on_normal, steps_of}
use Rattle.f77_ast.specs.Plans as plan
use Rattle.f77_ast.specs.Executions.{run_of}
use Rattle.f77_ast.specs.Loops.{iterations_from}
use Rattle.f77_ast.specs.Statements.{Scope, parts, body_plan}
use Rattle.f77_meaning.specs.Processes.{Marked, number_in}
use Rattle.laws_interleavings.specs.Iterations.{on_store, begun, whole_loop}
use Rattle.laws_interleavings.specs.Sound.{NoTake}
use Rattle.laws_interleavings.proofs.Runs.{run_bind, on_from, stays_whole, after_part as part_answer}
use Rattle.laws_interleavings.proofs.Loops.{IsNormalAnswer, rest_of_loop, iterations_left, iteration_normal}
use Rattle.laws_interleavings.proofs.Same.{free_run}
use Rattle.laws_interleavings.proofs.LaterReads.{trace_from, trace_splits}
use Rattle.laws_marks.specs.ConflictIterations.{Iteration, after_part, iterations_since}
use Rattle.laws_marks.proofs.ConflictCuts.{NoSets}
use Rattle.laws_marks.proofs.ConflictLists.{AllNoSets, jumps_no_sets}
use Rattle.laws_marks.specs.MarkedBegun.{iterations_of, did_in, iteration_at, AreBegun}
use Rattle.f77_ast.proofs.Shared.{steps_then}
use Rattle.f77_ast.proofs.KeptNumbers.{kept_is}

-- ---- bodies

-- the statements of a list write in their executions alone
pub body_no_sets : (ss : StmtTrees) (sc : Scope) (at : Places) (locked : Locks) → NoSets (body_plan ss sc at locked)
body_no_sets ss sc at locked = jumps_no_sets sc.turns (parts ss sc at locked) (each ss) (parts ss sc at locked) (each ss)
  where
    each : (ss : StmtTrees) → AllNoSets (parts ss sc at locked)
    each tree.no_stmts = tt
    each (tree.more_stmts (tree.stmt n label w) rest) = (λ f. tt, each rest)

-- ---- what takes no input

pub parse_part : (es fs : List Event) → NoTake (es ++ fs) → NoTake es × NoTake fs
parse_part [] fs h = (tt, h)
parse_part (Arrived p ∷ es) fs h = parse_part es fs h
parse_part (Read u c ∷ es) fs h = parse_part es fs h
parse_part (Wrote u c ∷ es) fs h = parse_part es fs h
parse_part (Printed xs ∷ es) fs h = parse_part es fs h
parse_part (Took o ∷ es) fs h = absurd h

-- ---- a body, and what comes after it

-- the iteration that was begun with the store b
module _ (b : Store) (f : Flow → Plan) where
  -- the iterations that follow, where it has done these
  abbrev pub following : List Event → Answer Flow → Store → List Content → List Iteration
  following fs a z i = after_part a (λ g. iterations_since b fs (f g) z i) (λ c. record { start = b; did = fs; ended = Broke c } ∷ [])

  pub since_then : (t : Plan) → NoSets t → (es : List Event) (s : Store) (i : List Content) → iterations_since b es (t ▹ f) s i ≡ following (es ++ (run_of t s i).trace) (run_of t s i).answer (store_of (run_of t s i).memory) (run_of t s i).input
  since_then (plan.Ends g) n es s i = ap (λ fs. iterations_since b fs (f g) s i) (sym (append-nil es))
  since_then (plan.Breaks c) n es s i = ap (λ (fs : List Event). following fs (Broke c) s i) (sym (append-nil es))
  since_then (plan.Look u k) n es s i =
      let q = run_of (k (s u)) s i in
      since_then (k (s u)) (n (s u)) (es ++ Read u (s u) ∷ []) s i ∙ ap (λ fs. following fs q.answer (store_of q.memory) q.input) (append_assoc es (Read u (s u) ∷ []) q.trace)
  since_then (plan.Set u c t) n es s i = absurd n
  since_then (plan.Hold u c t) n es s i = since_then t n es (put s u c) i
  since_then (plan.Forget u t) n es s i = since_then t n es (put s u (undefined (s u))) i
  since_then (plan.Show xs t) n es s i =
      let q = run_of t s i in
      since_then t n (es ++ Printed xs ∷ []) s i ∙ ap (λ fs. following fs q.answer (store_of q.memory) q.input) (append_assoc es (Printed xs ∷ []) q.trace)
  since_then (plan.Take k) n es s i =
      let q = run_of (k (first_of i)) s (rest_of i) in
      since_then (k (first_of i)) (n (first_of i)) (es ++ Took (first_of i) ∷ []) s (rest_of i) ∙ ap (λ fs. following fs q.answer (store_of q.memory) q.input) (append_assoc es (Took (first_of i) ∷ []) q.trace)
  since_then (plan.Within p at t k) n es s i =
      go q.answer (store_of q.memory) q.input q.trace (λ h. since_then (k h) (n h) (es ++ Arrived p ∷ q.trace) (store_of q.memory) q.input)
      ∙ ap (λ (r : Ran Flow). following (es ++ Arrived p ∷ r.trace) r.answer (store_of r.memory) r.input) (sym path)
    where
      q : Ran Flow
      q = run_of t s i

      onward : Flow → Steps Flow
      onward h = steps_of (k h)

      path : run (steps_of t >>= onward) (Whole s) i ≡ on_from q.answer (Whole (store_of q.memory)) q.input q.trace onward
      path = run_bind (steps_of t) onward (Whole s) i ∙ (λ j. on_from q.answer (stays_whole (steps_of t) s i j) q.input q.trace onward)

      go : (a : Answer Flow) (z : Store) (j : List Content) (ts : List Event) →
          ((h : Flow) → iterations_since b (es ++ Arrived p ∷ ts) (k h ▹ f) z j ≡ following ((es ++ Arrived p ∷ ts) ++ (run_of (k h) z j).trace) (run_of (k h) z j).answer (store_of (run_of (k h) z j).memory) (run_of (k h) z j).input) →
          after_part a (λ h. iterations_since b (es ++ Arrived p ∷ ts) (k h ▹ f) z j) (λ c. record { start = b; did = es ++ Arrived p ∷ ts; ended = Broke c } ∷ [])
          ≡ following (es ++ Arrived p ∷ (on_from a (Whole z) j ts onward).trace) (on_from a (Whole z) j ts onward).answer (store_of (on_from a (Whole z) j ts onward).memory) (on_from a (Whole z) j ts onward).input
      go (Gave h) z j ts ih =
          let r = run_of (k h) z j in
          ih h ∙ ap (λ fs. following fs r.answer (store_of r.memory) r.input) (append_assoc es (Arrived p ∷ ts) r.trace)
      go (Broke c) z j ts ih = refl

-- ---- a loop

module _ (m : Marked) (s : Store) (normal : (whole_loop m s).answer ≡ Gave Normal) where
  abbrev number : ℕ → ℤ
  number a = number_in m.first m.step a

  -- what comes after an iteration with so many behind it
  abbrev next_plan : ℕ → ℕ → Option ℤ → Plan
  next_plan k a o = first (given Int o) (λ c. plan.Set m.index c (iterations_from k c.number m.step m.index m.body))

  -- the next number is in range
  next_kept : (k a : ℕ) → a + suc k ≡ m.count → kept (number a +ℤ m.step) ≡ Some (number a +ℤ m.step)
  next_kept k a e = go (kept (number a +ℤ m.step)) refl
    where
      body : Steps Flow
      body = steps_of m.body

      y : Store
      y = store_of (on_store body (begun m s a)).memory

      next : Flow → Plan
      next f = on_normal f (next_plan k a (kept (number a +ℤ m.step)))

      lt : a < m.count
      lt = omega (arith, e)

      after : (rest_of_loop m (suc k) (number a) (begun m s a)).answer ≡ (run (steps_of (next_plan k a (kept (number a +ℤ m.step)))) (Whole y) []).answer
      after = ap (λ t. (on_store t (begun m s a)).answer) (steps_then m.body next) ∙ (part_answer body (λ f. steps_of (next f)) (begun m s a) Normal (iteration_normal m s normal a lt)).0

      go : (o : Option ℤ) → kept (number a +ℤ m.step) ≡ o → kept (number a +ℤ m.step) ≡ Some (number a +ℤ m.step)
      go None q = absurd (subst IsNormalAnswer (sym (sym after ∙ (iterations_left m s normal a (suc k) e).0) ∙ ap (λ o. (run (steps_of (next_plan k a o)) (Whole y) []).answer) q) tt)
      go (Some z) q = q ∙ ap Some (sym (kept_is (number a +ℤ m.step) z q))

  -- so many iterations, from one on
  abbrev some_from : ℕ → ℕ → List Iteration
  some_from zero a = []
  some_from (suc k) a = iteration_at m s a ∷ some_from k (suc a)

  some_at : (k a j : ℕ) → j < k → slice_get (some_from k a) j ≡ Some (iteration_at m s (a + j))
  some_at zero a j lt = absurd (omega (arith, lt))
  some_at (suc k) a zero lt = let e : a ≡ a + 0 = omega arith in ap (λ n. Some (iteration_at m s n)) e
  some_at (suc k) a (suc j) lt =
      let e : suc a + j ≡ a + suc j = omega arith in
      some_at k (suc a) j (omega (arith, lt)) ∙ ap (λ n. Some (iteration_at m s n)) e

  -- an iteration takes no input where the loop takes none
  pub iteration_takes : (k a j : ℕ) → a + k ≡ m.count → a ≤ j → j < m.count → NoTake (trace_from m s normal k a) → NoTake (did_in m s j)
  iteration_takes zero a j e l lt h = absurd (omega (arith, e, l, lt))
  iteration_takes (suc k) a j e l lt h =
      let q = parse_part (did_in m s a) (Wrote m.index (content Int (number (suc a))) ∷ trace_from m s normal k (suc a)) (subst NoTake (trace_splits m s normal a k e) h) in
      ⊎_elim
      (λ z. subst (λ n. NoTake (did_in m s n)) (sym z.1) q.0)
      (λ z. iteration_takes k (suc a) j (omega (arith, e)) (omega (arith, l, z.1)) lt q.1)
      (eqb_tells j a)

  module _ (plain : NoSets m.body) (i : List Content) where
    all_from : (k a : ℕ) → a + k ≡ m.count → NoTake (trace_from m s normal k a) → iterations_since (begun m s a) [] (iterations_from k (number a) m.step m.index m.body) (begun m s a) i ≡ some_from k a
    all_from zero a e h = refl
    all_from (suc k) a e h =
        let y = begun m s a in
        let r = on_store (steps_of m.body) y in
        let z = store_of r.memory in
        let parts = parse_part r.trace (Wrote m.index (content Int (number (suc a))) ∷ trace_from m s normal k (suc a)) (subst NoTake (trace_splits m s normal a k e) h) in
        let next : (Flow → Plan) = λ f. on_normal f (next_plan k a (kept (number a +ℤ m.step))) in
        since_then y next m.body plain [] y i
        ∙ ap (λ (q : Ran Flow). following y next q.trace q.answer (store_of q.memory) q.input) (free_run (steps_of m.body) y i parts.0)
        ∙ ap (λ w. following y next r.trace w z i) (iteration_normal m s normal a (omega (arith, e)))
        ∙ ap (λ o. iterations_since y r.trace (next_plan k a o) z i) (next_kept k a e)
        ∙ ap (λ l. iteration_at m s a ∷ l) (all_from k (suc a) (omega (arith, e)) parts.1)

    pub are_begun : NoTake (whole_loop m s).trace → AreBegun m s (iterations_of m s i)
    are_begun h j lt =
        let e : 0 + j ≡ j = omega arith in
        ap (λ l. slice_get l j) (all_from m.count 0 (omega arith) h) ∙ some_at m.count 0 j lt ∙ ap (λ n. Some (iteration_at m s n)) e
