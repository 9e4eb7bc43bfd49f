-- Where the claims on marked loops hold along a plain run without a fault, its marked loops may be interleaved.
use Rattle.std.proofs.Common.{◌≡◌, ℕ, List, [], ◌∷◌, ◌++◌, Bool, true, false, not, ◌&&◌, ◌||◌, refl, sym, ap, ap₂, ◌∙◌, subst, arith, nat_eq, true≢false, append_assoc}
use Rattle.std.specs.Prelude.{if◌then◌else◌}
use Rattle.std.proofs.lemmas.Bool.Decides.{nat_tests}
use Rattle.f77_ast.specs.Store.{Int, Content, Store, content, put, undefined}
use Rattle.f77_ast.specs.Steps.{Faulty, Wants, OutOfTurns, Steps, ◌>>=◌}
use Rattle.f77_ast.specs.Runs.{Event, Arrived, Read, Wrote, Printed, Took, Answer, Gave, Broke, Ran, Whole, run, after_event, first_of, rest_of, store_of}
use Rattle.f77_ast.specs.Plans.{Flow, Normal, steps_of}
use Rattle.f77_ast.specs.Programs.{Conforms}
use Rattle.f77_meaning.specs.Accesses.{is_read_first}
use Rattle.f77_meaning.specs.Processes.{Marked}
use Rattle.laws_interleavings.specs.Iterations.{begun, does, loop_plan, whole_loop}
use Rattle.laws_interleavings.specs.Marks.{MarkedPlan, Ends, Breaks, Look, Set, Hold, Forget, Show, Take, Within, Loop, Reduce, plain, plain_run}
use Rattle.laws_interleavings.specs.Sound.{some_wrote, known_at, known_after, store_left, OnGave, on_gave, Sound, known_end}
use Rattle.laws_interleavings.specs.Strict.{IsFaultPlan, StrictPlan}
use Rattle.laws_interleavings.specs.Holds.{later_events, LoopHolds, MarksHold}
use Rattle.laws_interleavings.specs.Reductions.{is_accumulator}
use Rattle.laws_interleavings.specs.ReducedLoops.{known_reduced}
use Rattle.laws_interleavings.proofs.ReducedReads.{reads, before, unread_after}
use Rattle.laws_interleavings.proofs.Runs.{run_bind, on_from, stays_whole}
use Rattle.laws_interleavings.proofs.Same.{free_part}
use Rattle.laws_interleavings.proofs.LaterReads.{Kept, first_after, loop_reads, loop_unwritten}
use Rattle.laws_interleavings.proofs.Anyhow.{onward}
use Rattle.fx_lists.proofs.Booleans.{or_neither as or_false, not_and}
use Rattle.fx_lists.proofs.Numbers.{eq_refl, unequal_numbers}
use Rattle.f77_ast.proofs.Shared.{steps_then}

-- what is not known is not read first
abbrev pub Unread : (ℕ → Bool) → List Event → Type 0
Unread known es = (x : ℕ) → known x ≡ false → is_read_first x es ≡ false

abbrev pub Left : Answer Flow → (ℕ → Bool) → List Event → Type 0
Left (Gave f) known rest = Unread known rest
Left (Broke b) known rest = Unit {0}

fault_in : (t : MarkedPlan) (s : Store) (i : List Content) → IsFaultPlan t → Conforms (plain_run t s i).answer → ⊥
fault_in (Breaks (Faulty f)) s i h n = n
fault_in (Breaks (Wants u)) s i h n = h
fault_in (Breaks OutOfTurns) s i h n = h
fault_in (Ends f) s i h n = h
fault_in (Look u k) s i h n = h
fault_in (Set u c t) s i h n = h
fault_in (Hold u c t) s i h n = h
fault_in (Forget u t) s i h n = h
fault_in (Show xs t) s i h n = h
fault_in (Take k) s i h n = h
fault_in (Within p at t k) s i h n = h
fault_in (Loop m k) s i h n = h
fault_in (Reduce d k) s i h n = h

first_part : (x : ℕ) (es rest : List Event) → is_read_first x (es ++ rest) ≡ false → is_read_first x (es ++ []) ≡ false
first_part x [] rest h = refl
first_part x (Arrived p ∷ es) rest h = first_part x es rest h
first_part x (Read u c ∷ es) rest h = let q = or_false (nat_eq u x) _ h in ap₂ (λ m l. m || l) q.0 (first_part x es rest q.1)
first_part x (Wrote u c ∷ es) rest h = go (first_part x es rest) (nat_eq u x) h
  where
    go : (is_read_first x (es ++ rest) ≡ false → is_read_first x (es ++ []) ≡ false) → (b : Bool) → (not b && is_read_first x (es ++ rest)) ≡ false → (not b && is_read_first x (es ++ [])) ≡ false
    go ih true e = refl
    go ih false e = ih e
first_part x (Printed xs ∷ es) rest h = first_part x es rest h
first_part x (Took o ∷ es) rest h = first_part x es rest h

unread_set : (known : ℕ → Bool) (u : ℕ) (c : Content) (es : List Event) → Unread known (Wrote u c ∷ es) → Unread (λ x. nat_eq x u || known x) es
unread_set known u c es h x k =
    let q = or_false (nat_eq x u) (known x) k in
    not_and (nat_eq u x) _ (unequal_numbers u x (λ e. true≢false (sym (eq_refl x) ∙ ap (λ z. nat_eq x z) (sym e) ∙ q.0))) (h x q.1)

unread_more : (known : ℕ → Bool) (u : ℕ) (es : List Event) → Unread known es → Unread (λ x. nat_eq x u || known x) es
unread_more known u es h x k = h x (or_false (nat_eq x u) (known x) k).1

-- a part, and what comes after it
part_events : (k : Flow → MarkedPlan) (known : ℕ → Bool) (x : Answer Flow) (y : Store) (i : List Content) (es rest : List Event) → Unread known ((on_from x (Whole y) i es (onward k)).trace ++ rest) → Unread known (es ++ later_events x y i k rest)
part_events k known (Gave f) y i es rest h v kv = subst (λ l. is_read_first v l ≡ false) (append_assoc es _ rest) (h v kv)
part_events k known (Broke b) y i es rest h v kv = first_part v es rest (h v kv)

part_conforms : (k : Flow → MarkedPlan) (x : Answer Flow) (y : Store) (i : List Content) (es : List Event) → Conforms (on_from x (Whole y) i es (onward k)).answer → Conforms x
part_conforms k (Gave f) y i es h = tt
part_conforms k (Broke b) y i es h = h

part_sound : (K : ℕ → Bool) (k : Flow → MarkedPlan) (y : Store) (i : List Content) (rest : List Event) → ((f : Flow) → Conforms (plain_run (k f) y i).answer → MarksHold (k f) y i rest → Unread K ((plain_run (k f) y i).trace ++ rest) → Sound (k f) K y i × Left (plain_run (k f) y i).answer (known_end (k f) K y i) rest) → (x : Answer Flow) (es : List Event) → Conforms (on_from x (Whole y) i es (onward k)).answer → OnGave x y (λ f w. MarksHold (k f) w i rest) → Left x K (later_events x y i k rest) → OnGave x y (λ f w. Sound (k f) K w i) × Left (on_from x (Whole y) i es (onward k)).answer (on_gave x y K (λ f w. known_end (k f) K w i)) rest
part_sound K k y i rest ih (Gave f) es nf m l = ih f nf m l
part_sound K k y i rest ih (Broke b) es nf m l = (tt, tt)

-- what is not known after a marked loop
after_loop : (m : Marked) (known : ℕ → Bool) (s : Store) (rest : List Event) → LoopHolds m s rest → ((x : ℕ) → known x ≡ false → nat_eq m.index x ≡ false → is_read_first x ((whole_loop m s).trace ++ rest) ≡ false) → Kept m.private (known_at (does m s) known m.count) rest →
    (x : ℕ) (b1 b2 b3 b4 : Bool) → nat_eq x m.index ≡ b1 → m.named x ≡ b2 → m.private x ≡ b3 → some_wrote m s m.count x ≡ b4 → (if b1 then false else if b2 then (not b4 && known x) else if b3 then true else known_at (does m s) known m.count x) ≡ false → is_read_first x rest ≡ false
after_loop m known s rest l all kept x true b2 b3 b4 e1 e2 e3 e4 k =
    let q : x ≡ m.index = grind (arith, nat_tests) in subst (λ z. is_read_first z rest ≡ false) (sym q) l.index_later
after_loop m known s rest l all kept x false true b3 true e1 e2 e3 e4 k = l.named_later x e2 e4
after_loop m known s rest l all kept x false true b3 false e1 e2 e3 e4 k =
    let ne : nat_eq m.index x ≡ false = unequal_numbers m.index x (λ q. true≢false (sym (eq_refl x) ∙ ap (λ z. nat_eq x z) (sym q) ∙ e1)) in
    first_after x (whole_loop m s).trace rest (loop_unwritten m s l.may.normal x e1 e4 m.count 0 (omega arith)) (all x k ne)
after_loop m known s rest l all kept x false false true b4 e1 e2 e3 e4 k = absurd (true≢false k)
after_loop m known s rest l all kept x false false false b4 e1 e2 e3 e4 k = kept x e3 k

pub sound_from : (t : MarkedPlan) (known : ℕ → Bool) (s : Store) (i : List Content) (rest : List Event) → StrictPlan t → Conforms (plain_run t s i).answer → MarksHold t s i rest → Unread known ((plain_run t s i).trace ++ rest) → Sound t known s i × Left (plain_run t s i).answer (known_end t known s i) rest
sound_from (Ends f) known s i rest st nf m h = (tt, h)
sound_from (Breaks b) known s i rest st nf m h = (tt, tt)
sound_from (Look u k) known s i rest st nf m h =
    let e = sound_from (k (s u)) known s i rest (st.1 (s u)) nf m (λ x kx. (or_false (nat_eq u x) _ (h x kx)).1) in
    ((knows (known u) refl, λ q. fault_in (k (s u)) s i (st.0 (s u) q) nf, e.0), e.1)
  where
    knows : (b : Bool) → known u ≡ b → b ≡ true
    knows true e = refl
    knows false e = absurd (true≢false (sym (eq_refl u) ∙ (or_false (nat_eq u u) _ (h u e)).0))
sound_from (Set u c t) known s i rest st nf m h = sound_from t (λ x. nat_eq x u || known x) (put s u c) i rest st nf m (unread_set known u c ((plain_run t (put s u c) i).trace ++ rest) h)
sound_from (Hold u c t) known s i rest st nf m h = sound_from t (λ x. nat_eq x u || known x) (put s u c) i rest st nf m (unread_more known u ((plain_run t (put s u c) i).trace ++ rest) h)
sound_from (Forget u t) known s i rest st nf m h = sound_from t (λ x. nat_eq x u || known x) (put s u (undefined (s u))) i rest st nf m (unread_more known u ((plain_run t (put s u (undefined (s u))) i).trace ++ rest) h)
sound_from (Show xs t) known s i rest st nf m h = sound_from t known s i rest st nf m h
sound_from (Take k) known s i rest st nf m h = sound_from (k (first_of i)) known s (rest_of i) rest (st (first_of i)) nf m h
sound_from (Within p at t k) known s i rest st nf m h =
    let q = plain_run t s i in
    let y = store_of q.memory in
    let path = run_bind (steps_of (plain t)) (onward k) (Whole s) i ∙ (λ j. on_from q.answer (stays_whole (steps_of (plain t)) s i j) q.input q.trace (onward k)) in
    let joined : Ran Flow = run (steps_of (plain t) >>= onward k) (Whole s) i in
    let nf' = subst (λ (r : Ran Flow). Conforms r.answer) path nf in
    let h' = subst (λ (r : Ran Flow). Unread known (r.trace ++ rest)) path h in
    let K = known_end t known s i in
    let e = sound_from t known s i (later_events q.answer y q.input k rest) st.0 (part_conforms k q.answer y q.input q.trace nf') m.0 (part_events k known q.answer y q.input q.trace rest h') in
    let both = part_sound K k y q.input rest (λ f n z a. sound_from (k f) K y q.input rest (st.1 f) n z a) q.answer q.trace nf' m.1 e.1 in
    ((e.0, both.0), subst (λ (r : Ran Flow). Left r.answer (known_end (Within p at t k) known s i) rest) (sym path) both.1)
sound_from (Loop m k) known s i rest st nf mh h =
    let l = mh.0 in
    let y = store_left m s in
    let part : plain_run (Loop m k) s i ≡ after_event (Wrote m.index (content Int m.first)) (on_from (Gave Normal) (Whole y) i (whole_loop m s).trace (onward k)) =
    ap (λ t. after_event (Wrote m.index (content Int m.first)) (run t (Whole (begun m s 0)) i)) (steps_then (loop_plan m) (λ f. plain (k f)))
    ∙ ap (after_event (Wrote m.index (content Int m.first))) (free_part (steps_of (loop_plan m)) (onward k) (begun m s 0) i Normal l.takes_nothing l.may.normal) in
    let rest' = (plain_run (k Normal) y i).trace ++ rest in
    let W = (whole_loop m s).trace in
    let h' = subst (λ (r : Ran Flow). Unread known (r.trace ++ rest)) part h in
    let all : (x : ℕ) → known x ≡ false → nat_eq m.index x ≡ false → is_read_first x (W ++ rest') ≡ false = λ x kx ne.
    subst (λ z. is_read_first x z ≡ false) (append_assoc W (plain_run (k Normal) y i).trace rest) (not_and (nat_eq m.index x) _ ne (h' x kx)) in
    let lr = loop_reads m s l.may.normal m.private known rest' st.0 l.may.index_private m.count 0 (omega arith)
    (λ x px kx. all x kx (unequal_numbers m.index x (λ z. true≢false (sym l.may.index_private ∙ ap m.private z ∙ px)))) in
    let known' = known_after m known s in
    let all' : Unread known' rest' = λ x kx. after_loop m known s rest' l all lr.later x (nat_eq x m.index) (m.named x) (m.private x) (some_wrote m s m.count x) refl refl refl refl kx in
    let e = sound_from (k Normal) known' y i rest (st.1 Normal) (subst (λ (r : Ran Flow). Conforms r.answer) part nf) mh.1 all' in (
      (
        record {
          may = l.may;
          names_private = l.names_private;
          reads = λ j lt. lr.reads j (omega arith) lt;
          silent = l.silent;
          takes_nothing = l.takes_nothing;
          own_before = l.own_before;
          own_after = l.own_after;
          unwritten = l.unwritten;
        },
        e.0,
      ),
      subst (λ (r : Ran Flow). Left r.answer (known_end (Loop m k) known s i) rest) (sym part) e.1,
    )
sound_from (Reduce d k) known s i rest st nf mh h =
    let l = mh.0 in
    let m = d.loop in
    let y = store_left m s in
    let part : plain_run (Reduce d k) s i ≡ after_event (Wrote m.index (content Int m.first)) (on_from (Gave Normal) (Whole y) i (whole_loop m s).trace (onward k)) =
    ap (λ t. after_event (Wrote m.index (content Int m.first)) (run t (Whole (begun m s 0)) i)) (steps_then (loop_plan m) (λ f. plain (k f)))
    ∙ ap (after_event (Wrote m.index (content Int m.first))) (free_part (steps_of (loop_plan m)) (onward k) (begun m s 0) i Normal l.takes_nothing l.may.normal) in
    let rest' = (plain_run (k Normal) y i).trace ++ rest in
    let W = (whole_loop m s).trace in
    let h' = subst (λ (r : Ran Flow). Unread known (r.trace ++ rest)) part h in
    let all : (x : ℕ) → known x ≡ false → nat_eq m.index x ≡ false → is_read_first x (W ++ rest') ≡ false = λ x kx ne.
    subst (λ z. is_read_first x z ≡ false) (append_assoc W (plain_run (k Normal) y i).trace rest) (not_and (nat_eq m.index x) _ ne (h' x kx)) in
    let lr = reads d s l.may known rest' all st.0 in
    let known' = known_reduced d known s in
    let all' : Unread known' rest' = λ x kx. unread_after d s l.may known rest' all l lr.later x (nat_eq x m.index) (m.named x) (m.private x) (some_wrote m s m.count x) (is_accumulator d.accumulators x) refl refl refl refl refl kx in
    let e = sound_from (k Normal) known' y i rest (st.1 Normal) (subst (λ (r : Ran Flow). Conforms r.answer) part nf) mh.1 all' in (
      (
        record {
          may = l.may;
          names_private = l.names_private;
          reads = λ j lt. lr.reads j (omega arith) lt;
          silent = l.silent;
          takes_nothing = l.takes_nothing;
          own_before = l.own_before;
          own_after = l.own_after;
          unwritten = l.unwritten;
          have_range = l.have_range;
          before = before d s l.may known rest' all;
        },
        e.0,
      ),
      subst (λ (r : Ran Flow). Left r.answer (known_end (Reduce d k) known s i) rest) (sym part) e.1,
    )
