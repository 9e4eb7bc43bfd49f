-- A loop whose iterations are interleaved from a store that is alike.
use Rattle.std.proofs.Common.{⊎_elim, inl, inr, ◌≡◌, ◌≢◌, ℕ, zero, suc, ◌<◌, List, [], ◌∷◌, ◌++◌, not, ◌&&◌, ◌||◌, Bool, true, false, refl, sym, ap, ap₂, ◌∙◌, subst, arith, nat_eq, true≢false}
use Rattle.std.specs.Prelude.{if◌then◌else◌}
use Rattle.f77_ast.specs.Store.{Undefined, Content, Store, put, undefined}
use Rattle.f77_ast.specs.Steps.{Steps, Done, Breaks, Look, Set, Hold, Forget, Show, Take, Arrive, ◌>>=◌}
use Rattle.f77_ast.specs.Runs.{Event, Arrived, Read, Wrote, Printed, Took, Gave, Ran, Whole, Script, run, after_event, store_of}
use Rattle.f77_ast.specs.Plans.{Flow, steps_of}
use Rattle.f77_meaning.specs.Interleavings.{Action, ReadNext, WriteNext, Finished, Faults, Process, World, start, interleaved, unfinished, is_finished, is_fault, any_fault, when_left, outcome, AllFinished}
use Rattle.f77_meaning.specs.Processes.{Marked, answers, writes, own_store, process, store_after}
use Rattle.laws_interleavings.specs.Alone.{after, in_order, DoesAlone, AsInOrder}
use Rattle.laws_interleavings.specs.Iterations.{on_store, begun, does}
use Rattle.laws_interleavings.specs.Sound.{grow, known_at, ReadsKnown, some_wrote, known_after, store_left, NoTake, printed_by, is_own, LoopSound, Same, Alike}
use Rattle.laws_interleavings.proofs.Stores.{in_order_untouched}
use Rattle.laws_interleavings.proofs.Picks.{as_in_order}
use Rattle.laws_interleavings.proofs.Runs.{run_bind, on_from, stays_whole}
use Rattle.laws_interleavings.proofs.Loops.{does_alone, loop_shared, knows_index}
use Rattle.laws_interleavings.proofs.Traces.{whole_trace, some_same, write_shared}

-- a unit is given contents in both runs
pub alike_put : (known : ℕ → Bool) (s y : Store) (u : ℕ) (c d : Content) → Same c d → Alike known s y → Alike (λ x. nat_eq x u || known x) (put s u c) (put y u d)
alike_put known s y u c d same h x = (λ k. go (nat_eq x u) k, λ k. other (nat_eq x u) k)
  where
    go : (b : Bool) → (b || known x) ≡ true → Same (if b then c else s x) (if b then d else y x)
    go true e = same
    go false e = (h x).0 e

    other : (b : Bool) → (b || known x) ≡ false → (if b then d else y x).tag ≡ Undefined
    other true e = absurd (true≢false e)
    other false e = (h x).1 e

-- what an iteration writes is alike
alike_after : (es : List Event) (known : ℕ → Bool) (s z : Store) → Alike known s z → Alike (grow es known) (after es s) (after es z)
alike_after [] known s z h = h
alike_after (Arrived p ∷ es) known s z h = alike_after es known s z h
alike_after (Read u c ∷ es) known s z h = alike_after es known s z h
alike_after (Wrote u c ∷ es) known s z h = alike_after es _ (put s u c) (put z u c) (alike_put known s z u c c (inl refl) h)
alike_after (Printed xs ∷ es) known s z h = alike_after es known s z h
alike_after (Took o ∷ es) known s z h = alike_after es known s z h

pub alike_in_order : (es : ℕ → List Event) (known : ℕ → Bool) (s z : Store) → Alike known s z → (n : ℕ) → Alike (known_at es known n) (in_order es s n) (in_order es z n)
alike_in_order es known s z h zero = h
alike_in_order es known s z h (suc n) = alike_after (es n) (known_at es known n) (in_order es s n) (in_order es z n) (alike_in_order es known s z h n)

-- what is known and has a value is equal
pub equal_at : (c d : Content) → Same c d → (c.tag ≡ Undefined → ⊥) → c ≡ d
equal_at c d same defined = ⊎_elim (λ e. e) (λ e. absurd (defined e.0)) same

-- what reads only units that are known and have values is the same on a store that is alike
pub alone_known : (f : Process) (es did : List Event) (known : ℕ → Bool) (s z : Store) → Alike known s z → ReadsKnown known es → DoesAlone f did s es → DoesAlone f did z es
alone_known f [] did known s z alike reads e = e
alone_known f (Arrived p ∷ es) did known s z alike reads e = absurd e
alone_known f (Read u c ∷ es) did known s z alike reads e =
    let eq = equal_at (s u) (z u) ((alike u).0 reads.0) (λ q. reads.1 (ap (λ y. y.tag) e.1 ∙ q)) in
    (e.0, e.1 ∙ eq, alone_known f es (did ++ Read u c ∷ []) known s z alike reads.2 e.2)
alone_known f (Wrote u c ∷ es) did known s z alike reads e =
    (e.0, alone_known f es (did ++ Wrote u c ∷ []) _ (put s u c) (put z u c) (alike_put known s z u c c (inl refl) alike) reads e.1)
alone_known f (Printed xs ∷ es) did known s z alike reads e = absurd e
alone_known f (Took o ∷ es) did known s z alike reads e = absurd e

pub none_unfinished : (p : ℕ → Process) (w : World) (n : ℕ) → ((i : ℕ) → i < n → p i (w.did i) ≡ Finished) → unfinished p w n ≡ []
none_unfinished p w zero h = refl
none_unfinished p w (suc n) h =
    ap₂ (λ l a. l ++ (if is_finished a then [] else n ∷ [])) (none_unfinished p w n (λ i lt. h i (omega arith))) (h n (omega arith))

no_fault_next : (a : Action) → a ≢ Faults → is_fault a ≡ false
no_fault_next (ReadNext u) h = refl
no_fault_next (WriteNext u c) h = refl
no_fault_next Finished h = refl
no_fault_next Faults h = absurd (h refl)

pub none_faults : (p : ℕ → Process) (w : World) (n : ℕ) → ((i : ℕ) → i < n → p i (w.did i) ≢ Faults) → any_fault p w n ≡ false
none_faults p w zero h = refl
none_faults p w (suc n) h = ap₂ (λ a b. a || b) (none_faults p w n (λ i lt. h i (omega arith))) (no_fault_next (p n (w.did n)) (h n (omega arith)))

pub printed_append : (a b : List Event) → printed_by (a ++ b) ≡ printed_by a ++ printed_by b
printed_append [] b = refl
printed_append (Arrived p ∷ a) b = printed_append a b
printed_append (Read u c ∷ a) b = printed_append a b
printed_append (Wrote u c ∷ a) b = printed_append a b
printed_append (Printed xs ∷ a) b = ap (λ l. xs ∷ l) (printed_append a b)
printed_append (Took o ∷ a) b = printed_append a b

abbrev pub with_input : {A : Type 0} → List Content → Ran A → Ran A
with_input i r = record { answer = r.answer; memory = r.memory; input = i; trace = r.trace }

-- a run that takes no input is the same with any
pub free_run : {A : Type 0} (t : Steps A) (s : Store) (i : List Content) → NoTake (run t (Whole s) []).trace → run t (Whole s) i ≡ with_input i (run t (Whole s) [])
free_run (Done a) s i h = refl
free_run (Breaks b) s i h = refl
free_run (Look u k) s i h = ap (after_event (Read u (s u))) (free_run (k (s u)) s i h)
free_run (Set u c t) s i h = ap (after_event (Wrote u c)) (free_run t (put s u c) i h)
free_run (Hold u c t) s i h = free_run t (put s u c) i h
free_run (Forget u t) s i h = free_run t (put s u (undefined (s u))) i h
free_run (Show xs t) s i h = ap (after_event (Printed xs)) (free_run t s i h)
free_run (Take k) s i h = absurd h
free_run (Arrive p t) s i h = ap (after_event (Arrived p)) (free_run t s i h)

-- a part that takes no input and ends, and what comes after it
pub free_part : (t : Steps Flow) (f : Flow → Steps Flow) (s : Store) (i : List Content) (g : Flow) → NoTake (on_store t s).trace → (on_store t s).answer ≡ Gave g → run (t >>= f) (Whole s) i ≡ on_from (Gave g) (Whole (store_of (on_store t s).memory)) i (on_store t s).trace f
free_part t f s i g free e =
    let r = on_store t s in
    run_bind t f (Whole s) i ∙ ap (λ (q : Ran Flow). on_from q.answer q.memory q.input q.trace f) (free_run t s i free) ∙ (λ j. on_from (e j) (stays_whole t s [] j) i r.trace f)

abbrev Both : Bool → Content → Content → Type 0
Both k c d = (k ≡ true → Same c d) × (k ≡ false → d.tag ≡ Undefined)

module _ (m : Marked) (known : ℕ → Bool) (s z : Store) where
  -- what a loop leaves in a unit, by its kind
  by_kind : Alike known s z → LoopSound m known s → (x : ℕ) (y : Store) → (m.private x ≡ true → y x ≡ z x) → (m.private x ≡ false → y x ≡ in_order (does m s) z m.count x) →
      (b1 b2 b3 b4 : Bool) → nat_eq x m.index ≡ b1 → m.named x ≡ b2 → m.private x ≡ b3 → some_wrote m s m.count x ≡ b4 →
      Both (if b1 then false else if b2 then (not b4 && known x) else if b3 then true else known_at (does m s) known m.count x) (store_left m s x) (if b1 || (b2 && b4) then undefined (y x) else y x)
  by_kind alike sound x y mine ours true b2 b3 b4 e1 e2 e3 e4 = (λ k. absurd (true≢false (sym k)), λ k. refl)
  by_kind alike sound x y mine ours false true b3 true e1 e2 e3 e4 = (λ k. absurd (true≢false (sym k)), λ k. refl)
  by_kind alike sound x y mine ours false true b3 false e1 e2 e3 e4 =
      let same = sound.unwritten x e2 e1 e4 in
      let yz = mine (sound.names_private x e2) in
      (λ k. subst (λ c. Same c (y x)) (sym same) (subst (Same (s x)) (sym yz) ((alike x).0 k)), λ k. ap (λ c. c.tag) yz ∙ (alike x).1 k)
  by_kind alike sound x y mine ours false false true b4 e1 e2 e3 e4 =
      let own : is_own m x ≡ true = rw e1 (rw e2 (rw e3 refl)) in
      (λ k. inr (sound.own_after x own, ap (λ c. c.tag) (mine e3) ∙ undefined_in own (known x) refl), λ k. absurd (true≢false k))
    where
      undefined_in : is_own m x ≡ true → (b : Bool) → known x ≡ b → (z x).tag ≡ Undefined
      undefined_in own true e = ⊎_elim (λ q. sym (ap (λ c. c.tag) q) ∙ sound.own_before x own) (λ q. q.1) ((alike x).0 e)
      undefined_in own false e = (alike x).1 e
  by_kind alike sound x y mine ours false false false b4 e1 e2 e3 e4 =
      let sx = loop_shared m s sound.may x e3 in
      let yx = ours e3 in
      let al = alike_in_order (does m s) known s z alike m.count x in
      (λ k. subst (λ c. Same c (y x)) (sym sx) (subst (Same (in_order (does m s) s m.count x)) (sym yx) (al.0 k)), λ k. ap (λ c. c.tag) yx ∙ al.1 k)

  -- whatever the picks, the processes do what the iterations of the plain run do
  pub loop_in_order : (picks : List ℕ) → Alike known s z → LoopSound m known s → AsInOrder (process m) m.count z (does m s) picks (interleaved (process m) m.count picks (start z))
  loop_in_order picks alike sound =
      as_in_order (process m) m.count z (does m s)
      (λ i lt. alone_known (process m i) (does m s i) [] (known_at (does m s) known i) (in_order (does m s) s i) (in_order (does m s) z i) (alike_in_order (does m s) known s z alike i) (sound.reads i lt) (does_alone m s sound.may i lt)) sound.may.apart picks

  pub loop_same : (picks : List ℕ) → Alike known s z → LoopSound m known s → ((i : ℕ) → i < m.count → process m i ((interleaved (process m) m.count picks (start z)).did i) ≡ Finished) →
      Alike (known_after m known s) (store_left m s) (store_after m (interleaved (process m) m.count picks (start z)))
  loop_same picks alike sound fin =
      let w = interleaved (process m) m.count picks (start z) in
      let as_ordered = loop_in_order picks alike sound in
      let did = as_ordered.whole fin in
      let wrote = λ (x : ℕ). some_same m w s m.count x (λ i lt.
      ap (λ h. writes x (run (steps_of m.body) (Script m.private (own_store m i) (answers h)) []).trace) (did i lt)
      ∙ ap (writes x) (whole_trace m.private (steps_of m.body) (λ y. nat_eq y m.index) (own_store m i) (begun m s i) (knows_index m s i) (sound.may.own_first i lt))) in
      λ x.
      subst (λ b. Both (known_after m known s x) (store_left m s x) (if nat_eq x m.index || (m.named x && b) then undefined (w.store x) else w.store x)) (sym (wrote x))
      (by_kind alike sound x w.store
      (λ px. as_ordered.end fin x ∙ in_order_untouched (does m s) z m.count x (λ j l v. true≢false (sym px ∙ write_shared m.private (on_store (steps_of m.body) (begun m s j)).trace x v)))
      (λ px. as_ordered.end fin x)
      (nat_eq x m.index) (m.named x) (m.private x) (some_wrote m s m.count x) refl refl refl refl)

  -- no iteration faults, so how they came out is told by those that have not finished
  pub none_faulted : (picks : List ℕ) → Alike known s z → LoopSound m known s → any_fault (process m) (interleaved (process m) m.count picks (start z)) m.count ≡ false
  none_faulted picks alike sound = none_faults (process m) (interleaved (process m) m.count picks (start z)) m.count (loop_in_order picks alike sound).no_fault

  pub all_done : (picks : List ℕ) → Alike known s z → LoopSound m known s → ((i : ℕ) → i < m.count → process m i ((interleaved (process m) m.count picks (start z)).did i) ≡ Finished) → outcome (process m) (interleaved (process m) m.count picks (start z)) m.count ≡ AllFinished
  all_done picks alike sound fin = let w = interleaved (process m) m.count picks (start z) in ap₂ when_left (none_faulted picks alike sound) (none_unfinished (process m) w m.count fin)
