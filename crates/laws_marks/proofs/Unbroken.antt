-- In a run that comes to an end each execution does; and claims of each execution, together.
use Rattle.std.proofs.Common.{◌≡◌, List, refl, sym, ap, ◌∙◌, subst}
use Rattle.f77_ast.specs.Store.{Content, Store, put, undefined}
use Rattle.f77_ast.specs.Steps.{Steps, ◌>>=◌}
use Rattle.f77_ast.specs.Runs.{Event, Answer, Gave, Broke, Ran, Whole, run, store_of, first_of, rest_of}
use Rattle.f77_ast.specs.Plans.{Flow, Plan, Ends, Breaks, Look, Set, Hold, Forget, Show, Take, Within, steps_of}
use Rattle.f77_ast.specs.Executions.{run_of, AtEnd}
use Rattle.f77_ast.proofs.StepLaws.{at_end_more}
use Rattle.f77_meaning.specs.Occurrences.{Onward, events_from}
use Rattle.laws_interleavings.proofs.Runs.{run_bind, on_from, stays_whole}
use Rattle.laws_marks.specs.ConflictExecutions.{Execution}
use Rattle.laws_marks.specs.Known.{Finishes}
use Rattle.laws_marks.specs.Rests.{EachWithRest}
use Rattle.laws_marks.proofs.Together.{both_ends}

-- of an execution
abbrev pub IsUnbroken : Execution → List Event → Type 0
IsUnbroken x later = Finishes (run_of x.does x.start x.input).answer

abbrev next : (Flow → Plan) → Flow → Steps Flow
next k f = steps_of (k f)

parts_unbroken : (k : Flow → Plan) (a : Answer Flow) (y : Store) (j : List Content) (es : List Event) → Finishes (on_from a (Whole y) j es (next k)).answer → Finishes a × AtEnd a y j (λ f z l. Finishes (run_of (k f) z l).answer)
parts_unbroken k (Gave f) y j es h = (tt, h)
parts_unbroken k (Broke b) y j es h = absurd h

pub unbroken : (t : Plan) (s : Store) (i : List Content) (onward : Onward) → Finishes (run_of t s i).answer → EachWithRest IsUnbroken t s i onward
unbroken (Ends f) s i onward h = tt
unbroken (Breaks b) s i onward h = tt
unbroken (Look u k) s i onward h = unbroken (k (s u)) s i onward h
unbroken (Set u c t) s i onward h = unbroken t (put s u c) i onward h
unbroken (Hold u c t) s i onward h = unbroken t (put s u c) i onward h
unbroken (Forget u t) s i onward h = unbroken t (put s u (undefined (s u))) i onward h
unbroken (Show xs t) s i onward h = unbroken t s i onward h
unbroken (Take k) s i onward h = unbroken (k (first_of i)) s (rest_of i) onward h
unbroken (Within p at t k) s i onward h =
    let q = run_of t s i in
    let y = store_of q.memory in
    let path : run (steps_of t >>= next k) (Whole s) i ≡ on_from q.answer (Whole y) q.input q.trace (next k) =
    run_bind (steps_of t) (next k) (Whole s) i ∙ (λ j. on_from q.answer (stays_whole (steps_of t) s i j) q.input q.trace (next k)) in
    let both = parts_unbroken k q.answer y q.input q.trace (subst (λ (r : Ran Flow). Finishes r.answer) path h) in (
      both.0,
      unbroken t s i (λ f z j. events_from (k f) onward z j) both.0,
      at_end_more q.answer y q.input (λ f z j. Finishes (run_of (k f) z j).answer) (λ f z j. EachWithRest IsUnbroken (k f) z j onward) (λ f z j g. unbroken (k f) z j onward g) both.1,
    )

-- ---- claims together

pub each_both : (C D : Execution → List Event → Type 0) (t : Plan) (s : Store) (i : List Content) (onward : Onward) → EachWithRest C t s i onward → EachWithRest D t s i onward → EachWithRest (λ x later. C x later × D x later) t s i onward
each_both C D (Ends f) s i onward h g = tt
each_both C D (Breaks b) s i onward h g = tt
each_both C D (Look u k) s i onward h g = each_both C D (k (s u)) s i onward h g
each_both C D (Set u c t) s i onward h g = each_both C D t (put s u c) i onward h g
each_both C D (Hold u c t) s i onward h g = each_both C D t (put s u c) i onward h g
each_both C D (Forget u t) s i onward h g = each_both C D t (put s u (undefined (s u))) i onward h g
each_both C D (Show xs t) s i onward h g = each_both C D t s i onward h g
each_both C D (Take k) s i onward h g = each_both C D (k (first_of i)) s (rest_of i) onward h g
each_both C D (Within p at t k) s i onward h g =
    let q = run_of t s i in (
      (h.0, g.0),
      each_both C D t s i (λ f z j. events_from (k f) onward z j) h.1 g.1,
      both_ends q.answer (store_of q.memory) q.input (λ f z j. EachWithRest C (k f) z j onward) (λ f z j. EachWithRest D (k f) z j onward) (λ f z j. EachWithRest (λ x later. C x later × D x later) (k f) z j onward) (λ f z j a b. each_both C D (k f) z j onward a b) h.2 g.2,
    )
