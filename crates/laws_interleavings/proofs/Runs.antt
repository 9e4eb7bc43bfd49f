-- Computations one after the other, and their runs.
use Rattle.std.proofs.Common.{◌≡◌, ℕ, List, [], ◌∷◌, ◌++◌, Option, Some, None, refl, ap, ◌∙◌, sym}
use Rattle.f77_ast.specs.Store.{Content, Store, put, undefined}
use Rattle.f77_ast.specs.Steps.{Break, Steps, Done, Breaks, Look, Set, Hold, Forget, Show, Take, Arrive, ◌>>=◌}
use Rattle.f77_ast.specs.Runs.{Memory, Whole, Event, Arrived, Read, Wrote, Printed, Took, Answer, Gave, Broke, Ran, run, after_event, look_in, on_look, set_in, forget_in, first_of, rest_of, store_of}
use Rattle.f77_ast.specs.Plans.{Flow, Plan, steps_of, ◌▹◌}
use Rattle.f77_ast.specs.Plans as plan
use Rattle.f77_ast.proofs.Shared.{bind_assoc, steps_then}

-- goes on from the end of a run
abbrev pub on_from : {A B : Type 0} → Answer A → Memory → List Content → List Event → (A → Steps B) → Ran B
on_from (Broke b) m i es f = record { answer = Broke b; memory = m; input = i; trace = es }
on_from (Gave a) m i es f = let q = run (f a) m i in record { answer = q.answer; memory = q.memory; input = q.input; trace = es ++ q.trace }

abbrev pub then_run : {A B : Type 0} → Ran A → (A → Steps B) → Ran B
then_run r f = on_from r.answer r.memory r.input r.trace f

after_then : {A B : Type 0} (e : Event) (a : Answer A) (m : Memory) (i : List Content) (es : List Event) (f : A → Steps B) → after_event e (on_from a m i es f) ≡ on_from a m i (e ∷ es) f
after_then e (Gave a) m i es f = refl
after_then e (Broke b) m i es f = refl

after_then_run : {A B : Type 0} (e : Event) (r : Ran A) (f : A → Steps B) → after_event e (then_run r f) ≡ then_run (after_event e r) f
after_then_run e r f = after_then e r.answer r.memory r.input r.trace f

look_bind : {A B : Type 0} (o : Option (Content × Memory)) (u : ℕ) (m : Memory) (i : List Content) (k : Content → Steps A) (f : A → Steps B) → ((c : Content) (n : Memory) → run (k c >>= f) n i ≡ then_run (run (k c) n i) f) → on_look o u m i (λ c n. run (k c >>= f) n i) ≡ then_run (on_look o u m i (λ c n. run (k c) n i)) f
look_bind None u m i k f h = refl
look_bind (Some q) u m i k f h = ap (after_event (Read u q.0)) (h q.0 q.1) ∙ after_then_run (Read u q.0) (run (k q.0) q.1 i) f

pub run_bind : {A B : Type 0} (t : Steps A) (f : A → Steps B) (m : Memory) (i : List Content) → run (t >>= f) m i ≡ then_run (run t m i) f
run_bind (Done a) f m i = refl
run_bind (Breaks b) f m i = refl
run_bind (Look u k) f m i = look_bind (look_in m u) u m i k f (λ c n. run_bind (k c) f n i)
run_bind (Set u c t) f m i = ap (after_event (Wrote u c)) (run_bind t f (set_in m u c) i) ∙ after_then_run (Wrote u c) (run t (set_in m u c) i) f
run_bind (Hold u c t) f m i = run_bind t f (set_in m u c) i
run_bind (Forget u t) f m i = run_bind t f (forget_in m u) i
run_bind (Show xs t) f m i = ap (after_event (Printed xs)) (run_bind t f m i) ∙ after_then_run (Printed xs) (run t m i) f
run_bind (Take k) f m i = ap (after_event (Took (first_of i))) (run_bind (k (first_of i)) f m (rest_of i)) ∙ after_then_run (Took (first_of i)) (run (k (first_of i)) m (rest_of i)) f
run_bind (Arrive p t) f m i = ap (after_event (Arrived p)) (run_bind t f m i) ∙ after_then_run (Arrived p) (run t m i) f

-- a store stays a store
pub stays_whole : {A : Type 0} (t : Steps A) (s : Store) (i : List Content) → (run t (Whole s) i).memory ≡ Whole (store_of (run t (Whole s) i).memory)
stays_whole (Done a) s i = refl
stays_whole (Breaks b) s i = refl
stays_whole (Look u k) s i = stays_whole (k (s u)) s i
stays_whole (Set u c t) s i = stays_whole t (put s u c) i
stays_whole (Hold u c t) s i = stays_whole t (put s u c) i
stays_whole (Forget u t) s i = stays_whole t (put s u (undefined (s u))) i
stays_whole (Show xs t) s i = stays_whole t s i
stays_whole (Take k) s i = stays_whole (k (first_of i)) s (rest_of i)
stays_whole (Arrive p t) s i = stays_whole t s i

-- without input none is left
pub no_input : {A : Type 0} (t : Steps A) (s : Store) → (run t (Whole s) []).input ≡ []
no_input (Done a) s = refl
no_input (Breaks b) s = refl
no_input (Look u k) s = no_input (k (s u)) s
no_input (Set u c t) s = no_input t (put s u c)
no_input (Hold u c t) s = no_input t (put s u c)
no_input (Forget u t) s = no_input t (put s u (undefined (s u)))
no_input (Show xs t) s = no_input t s
no_input (Take k) s = no_input (k None) s
no_input (Arrive p t) s = no_input t s

-- what comes after a part that ended
pub after_part : {A B : Type 0} (t : Steps A) (f : A → Steps B) (s : Store) (a : A) → (run t (Whole s) []).answer ≡ Gave a →
    ((run (t >>= f) (Whole s) []).answer ≡ (run (f a) (Whole (store_of (run t (Whole s) []).memory)) []).answer)
    × ((run (t >>= f) (Whole s) []).memory ≡ (run (f a) (Whole (store_of (run t (Whole s) []).memory)) []).memory)
after_part t f s a e =
    let r = run t (Whole s) [] in
    let q = run_bind t f (Whole s) [] ∙ (λ i. on_from (e i) (stays_whole t s [] i) (no_input t s i) r.trace f) in
    (ap (λ z. z.answer) q, ap (λ z. z.memory) q)

pub broken_part : {A B : Type 0} (t : Steps A) (f : A → Steps B) (s : Store) (b : Break) → (run t (Whole s) []).answer ≡ Broke b → (run (t >>= f) (Whole s) []).answer ≡ Broke b
broken_part t f s b e =
    let r = run t (Whole s) [] in
    ap (λ z. z.answer) (run_bind t f (Whole s) []) ∙ ap (λ a. (on_from a r.memory r.input r.trace f).answer) e

pub trace_part : {A B : Type 0} (t : Steps A) (f : A → Steps B) (s : Store) (a : A) → (run t (Whole s) []).answer ≡ Gave a → (run (t >>= f) (Whole s) []).trace ≡ (run t (Whole s) []).trace ++ (run (f a) (Whole (store_of (run t (Whole s) []).memory)) []).trace
trace_part t f s a e =
    let r = run t (Whole s) [] in
    ap (λ z. z.trace) (run_bind t f (Whole s) [] ∙ (λ i. on_from (e i) (stays_whole t s [] i) (no_input t s i) r.trace f))
