-- The iterations of a loop with reduction variables, as processes.
use Rattle.std.proofs.Common.{◌≡◌, ◌≢◌, ℕ, zero, suc, ◌<◌, ◌≤◌, List, [], ◌∷◌, ◌++◌, Option, Some, None, Bool, true, false, ◌||◌, ℤ, refl, sym, ap, ap₂, ◌∙◌, subst, arith, nat_eq, append-nil, true≢false}
use Rattle.std.specs.Prelude.{if◌then◌else◌, is_some}
use Rattle.std.proofs.lemmas.Bool.Decides.{nat_tests}
use Rattle.f77_ast.specs.Store.{Int, Content, Store, content}
use Rattle.f77_ast.specs.Steps.{Steps}
use Rattle.f77_ast.specs.Runs.{Event, Arrived, Read, Wrote, Printed, Took, Ran, store_of}
use Rattle.f77_ast.specs.Plans.{Flow, Normal, steps_of}
use Rattle.f77_meaning.specs.Interleavings.{World}
use Rattle.f77_meaning.specs.Processes.{Marked, number_in, own_store, shared, writes}
use Rattle.laws_interleavings.specs.Alone.{after, DoesAlone, in_order}
use Rattle.laws_interleavings.specs.Iterations.{OwnFirst, begun}
use Rattle.laws_interleavings.specs.Reductions.{ReduceOp, tag_of, start_of, Accumulator, operator_at, is_accumulator, Reduced, own, start_or, with_starts, reduced_store, reduced_iteration, reduced_process, copies_in, copies}
use Rattle.laws_interleavings.specs.Rides.{Outside}
use Rattle.laws_interleavings.specs.Sound.{some_wrote, store_left}
use Rattle.laws_interleavings.specs.ReducedLoops.{reduced_does, MayReduce}
use Rattle.laws_interleavings.proofs.Stores.{put_other}
use Rattle.laws_interleavings.proofs.Scripts.{Agree, iteration_alone}
use Rattle.laws_interleavings.proofs.Traces.{whole_trace, private_end}
use Rattle.laws_interleavings.proofs.Loops.{shared_after, iterations_left, iteration_normal, knows_index}
use Rattle.laws_interleavings.proofs.Joined.{accumulated, accumulated_append, Absorbs, absorbs_all, joined_copy}
use Rattle.laws_interleavings.proofs.Riding.{at_end, trace_of, Gained, some_amount, Off, AreTyped, Rode, ride, no_accumulator}
use Rattle.laws_interleavings.proofs.Combining.{numbers_of, numbers_append, AreOf, are_append, one_of, are_copies}

-- ---- events

wider : (p q : ℕ → Bool) (es : List Event) → shared (λ x. p x || q x) es ≡ shared p (shared q es)
wider p q [] = refl
wider p q (Arrived a ∷ es) = wider p q es
wider p q (Read u c ∷ es) = go (wider p q es) (p u) (q u) refl
  where
    go : shared (λ x. p x || q x) es ≡ shared p (shared q es) → (a b : Bool) → p u ≡ a → (if a || b then shared (λ x. p x || q x) es else Read u c ∷ shared (λ x. p x || q x) es) ≡ shared p (if b then shared q es else Read u c ∷ shared q es)
    go ih true true e = ih
    go ih true false e = rw e ih
    go ih false true e = ih
    go ih false false e = rw e (ap (λ l. Read u c ∷ l) ih)
wider p q (Wrote u c ∷ es) = go (wider p q es) (p u) (q u) refl
  where
    go : shared (λ x. p x || q x) es ≡ shared p (shared q es) → (a b : Bool) → p u ≡ a → (if a || b then shared (λ x. p x || q x) es else Wrote u c ∷ shared (λ x. p x || q x) es) ≡ shared p (if b then shared q es else Wrote u c ∷ shared q es)
    go ih true true e = ih
    go ih true false e = rw e ih
    go ih false true e = ih
    go ih false false e = rw e (ap (λ l. Wrote u c ∷ l) ih)
wider p q (Printed xs ∷ es) = wider p q es
wider p q (Took o ∷ es) = wider p q es

-- what is written among the events of other units
writes_shared : (q : ℕ → Bool) (x : ℕ) (es : List Event) → q x ≡ false → writes x (shared q es) ≡ writes x es
writes_shared q x [] e = refl
writes_shared q x (Arrived a ∷ es) e = writes_shared q x es e
writes_shared q x (Read u c ∷ es) e = go (writes_shared q x es e) (q u)
  where
    go : writes x (shared q es) ≡ writes x es → (b : Bool) → writes x (if b then shared q es else Read u c ∷ shared q es) ≡ writes x es
    go h true = h
    go h false = h
writes_shared q x (Wrote u c ∷ es) e = go (writes_shared q x es e) (q u) refl
  where
    go : writes x (shared q es) ≡ writes x es → (b : Bool) → q u ≡ b → writes x (if b then shared q es else Wrote u c ∷ shared q es) ≡ (nat_eq x u || writes x es)
    go h true f = h ∙ ap (λ b. b || writes x es) (sym (other (nat_eq x u) refl))
      where
        other : (b : Bool) → nat_eq x u ≡ b → nat_eq x u ≡ false
        other false n = n
        other true n = absurd (true≢false (sym f ∙ ap q (sym (is_same n)) ∙ e))
          where
            is_same : nat_eq x u ≡ true → x ≡ u
            is_same n = grind (arith, nat_tests)
    go h false f = ap (λ b. nat_eq x u || b) h
writes_shared q x (Printed xs ∷ es) e = writes_shared q x es e
writes_shared q x (Took o ∷ es) e = writes_shared q x es e

-- ---- amounts

some_append : (xs ys : List ℤ) → some_amount (xs ++ ys) ≡ (some_amount xs || some_amount ys)
some_append [] ys = refl
some_append (x ∷ xs) ys = refl

gained_append : (o : ReduceOp) (xs ys : List ℤ) (c d e : Content) → Gained o xs c d → Gained o ys d e → Gained o (xs ++ ys) c e
gained_append o [] ys c d e g h = subst (λ y. Gained o ys y e) g h
gained_append o (x ∷ xs) [] c d e g h = (g.0, h ∙ g.1 ∙ ap (λ l. content (tag_of o) (accumulated o c.number l)) (sym (append-nil (x ∷ xs))))
gained_append o (x ∷ xs) (y ∷ ys) c d e g h = (
  g.0,
  h.1
      ∙ ap (λ k. content (tag_of o) (accumulated o k.number (y ∷ ys))) g.1
      ∙ ap (content (tag_of o)) (sym (accumulated_append o c.number (x ∷ xs) (y ∷ ys))),
)

-- the number of a copy that joined these amounts, if there are any
abbrev copied_number : ReduceOp → List ℤ → List ℤ
copied_number o g = if some_amount g then accumulated o (start_of o) g ∷ [] else []

copy_number : (o : ReduceOp) (g : List ℤ) (c e : Content) → c.number ≡ start_of o → Gained o g c e → (if some_amount g then e.number ∷ [] else []) ≡ copied_number o g
copy_number o [] c e n h = refl
copy_number o (a ∷ g) c e n h = ap (λ k. k ∷ []) (ap (λ k. k.number) h.1 ∙ ap (λ k. accumulated o k (a ∷ g)) n)

joined_number : (o : ReduceOp) (g : List ℤ) (y : ℤ) → Absorbs o y → accumulated o y (copied_number o g) ≡ accumulated o y g
joined_number o [] y k = refl
joined_number o (a ∷ g) y k = joined_copy o y a g k

some_number : (o : ReduceOp) (g : List ℤ) → some_amount (copied_number o g) ≡ some_amount g
some_number o [] = refl
some_number o (a ∷ g) = refl

-- ---- one iteration

module _ (d : Reduced) (s : Store) (may : MayReduce d s) where
  abbrev m : Marked
  m = d.loop

  abbrev units : List Accumulator
  units = d.accumulators

  abbrev plain_body : Steps Flow
  plain_body = steps_of d.loop.body

  abbrev body : Steps Flow
  body = steps_of d.body

  -- the store where an iteration begins on its copies
  abbrev pub copied : ℕ → Store
  copied i = with_starts d.accumulators (begun d.loop s i)

  off_starts : (i : ℕ) → Off units (begun m s i) (copied i)
  off_starts i x none = sym (ap (λ a. start_or a (begun m s i x)) none)

  typed_starts : (i : ℕ) → AreTyped units (copied i)
  typed_starts i v o some = ap (λ a. (start_or a (begun m s i v)).tag) some

  pub rode : (i : ℕ) → i < m.count → Rode units Outside plain_body body (begun m s i) (copied i) Normal
  rode i lt = ride units Outside plain_body body (begun m s i) (copied i) Normal may.rides (off_starts i) (typed_starts i) tt (iteration_normal m s may.normal i lt)

  abbrev pub known_first : ℕ → Bool
  known_first x = nat_eq x d.loop.index || is_accumulator d.accumulators x

  own_first : (i : ℕ) → i < m.count → OwnFirst (own d) body known_first (copied i)
  own_first i lt = (rode i lt).own m.private (λ x. nat_eq x m.index) known_first (may.own_first i lt) (λ x e. e)

  pub does_same : (i : ℕ) → i < m.count → shared (own d) (trace_of body (copied i)) ≡ reduced_does d s i
  does_same i lt =
      wider m.private (is_accumulator units) (trace_of body (copied i))
      ∙ ap (shared m.private) (rode i lt).events
      ∙ sym (wider m.private (is_accumulator units) (trace_of plain_body (begun m s i)))

  -- a unit that is nobody's own
  not_own : (x : ℕ) → own d x ≡ false → (m.private x ≡ false) × (operator_at units x ≡ None)
  not_own x e = go (m.private x) (operator_at units x) e
    where
      go : (b : Bool) (a : Option ReduceOp) → (b || is_some a) ≡ false → (b ≡ false) × (a ≡ None)
      go true a e = absurd (true≢false e)
      go false None e = (refl, refl)
      go false (Some o) e = absurd (true≢false e)

  not_index : (x : ℕ) → m.private x ≡ false → x ≢ m.index
  not_index x px e = true≢false (sym may.index_private ∙ ap m.private (sym e) ∙ px)

  pub begun_shared : (i x : ℕ) → i ≤ m.count → own d x ≡ false → begun m s i x ≡ in_order (reduced_does d s) s i x
  begun_shared zero x le px = put_other s m.index (content Int m.first) x (not_index x (not_own x px).0)
  begun_shared (suc i) x le px =
      put_other (at_end plain_body (begun m s i)) m.index (content Int (number_in m.first m.step (suc i))) x (not_index x (not_own x px).0)
      ∙ (rode i le).same x (not_own x px).1
      ∙ shared_after (own d) body known_first (copied i) (in_order (reduced_does d s) s i) (own_first i le) (λ y py. sym (off_starts i y (not_own y py).1) ∙ begun_shared i y (omega arith) py) x px
      ∙ ap (λ l. after l (in_order (reduced_does d s) s i) x) (does_same i le)

  pub knows : (i : ℕ) → Agree (own d) known_first (reduced_store d i) (copied i)
  knows i x px k = go (operator_at units x) refl
    where
      or_left : (b : Bool) → (b || false) ≡ true → b ≡ true
      or_left true e = refl
      or_left false e = e

      go : (a : Option ReduceOp) → operator_at units x ≡ a → start_or a (own_store m i x) ≡ start_or a (begun m s i x)
      go (Some o) e = refl
      go None e = knows_index m s i x (or_left (m.private x) (ap (λ b. m.private x || b) (sym (no_accumulator units x e)) ∙ px)) (or_left (nat_eq x m.index) (ap (λ b. nat_eq x m.index || b) (sym (no_accumulator units x e)) ∙ k))

  pub reduced_alone : (i : ℕ) → i < m.count → DoesAlone (reduced_process d i) [] (in_order (reduced_does d s) s i) (reduced_does d s i)
  reduced_alone i lt =
      subst (DoesAlone (reduced_process d i) [] (in_order (reduced_does d s) s i)) (does_same i lt)
      (iteration_alone (own d) body known_first (reduced_store d i) (copied i) (in_order (reduced_does d s) s i) (knows i)
      (λ x px. sym (off_starts i x (not_own x px).1) ∙ begun_shared i x (omega arith) px) (own_first i lt) (rode i lt).answer)

  pub left_is : (x : ℕ) → store_left m s x ≡ begun m s m.count x
  left_is x = sym (ap (λ q. store_of q x) (iterations_left m s may.normal m.count 0 (omega arith)).1)

  -- ---- the copies of processes that have done what the iterations do

  module _ (w : World) where
    abbrev run_on : ℕ → Ran Flow
    run_on i = reduced_iteration d i (w.did i)

    pub run_trace : (i : ℕ) → i < m.count → w.did i ≡ reduced_does d s i → (run_on i).trace ≡ trace_of body (copied i)
    run_trace i lt did = ap (λ l. (reduced_iteration d i l).trace) (did ∙ sym (does_same i lt)) ∙ whole_trace (own d) body known_first (reduced_store d i) (copied i) (knows i) (own_first i lt)

    run_end : (i v : ℕ) (o : ReduceOp) → i < m.count → w.did i ≡ reduced_does d s i → operator_at units v ≡ Some o → store_of (run_on i).memory v ≡ at_end body (copied i) v
    run_end i v o lt did some =
        let mine : own d v ≡ true = right (m.private v) (ap is_some some) in
        let known : known_first v ≡ true = right (nat_eq v m.index) (ap is_some some) in
        ap (λ l. store_of (reduced_iteration d i l).memory v) (did ∙ sym (does_same i lt))
        ∙ private_end (own d) body known_first (reduced_store d i) (copied i) v (knows i) (own_first i lt) mine (knows i v mine known)
      where
        right : (a : Bool) {b : Bool} → b ≡ true → (a || b) ≡ true
        right true e = refl
        right false e = e

    -- what a reduction variable and its copies have joined in the first n iterations
    pub record Joins (v : ℕ) (o : ReduceOp) (n : ℕ) : Type 0 where
      pub amounts : List ℤ
      pub plain : Gained o amounts (s v) (begun m s n v)
      pub wrote : some_wrote m s n v ≡ some_amount amounts
      pub copied_some : some_amount (numbers_of v (copies d w n)) ≡ some_amount amounts
      pub sum : (x : ℤ) → Absorbs o x → accumulated o x (numbers_of v (copies d w n)) ≡ accumulated o x amounts

    pub joins : (v : ℕ) (o : ReduceOp) → operator_at units v ≡ Some o → (n : ℕ) → n ≤ m.count → ((i : ℕ) → i < n → w.did i ≡ reduced_does d s i) → Joins v o n
    joins v o some zero le did = record {
      amounts = [];
      plain = put_other s m.index (content Int m.first) v (not_index v (may.none_private v (ap is_some some)));
      wrote = refl;
      copied_some = refl;
      sum = λ x k. refl;
    }
    joins v o some (suc n) le did =
        let before = joins v o some n (omega arith) (λ i lt. did i (omega arith)) in
        let r = rode n le in
        let g = r.gains v in
        let q = r.sums v o some in
        let last : numbers_of v (copies_in units (run_on n)) ≡ copied_number o g =
        one_of units (run_on n) v o may.distinct some
        ∙ ap₂ (λ b k. if b then k ∷ [] else []) (ap (writes v) (run_trace n le (did n (omega arith))) ∙ q.copied) (ap (λ c. c.number) (run_end n v o le (did n (omega arith)) some))
        ∙ copy_number o g (copied n v) (at_end body (copied n) v) (ap (λ a. (start_or a (begun m s n v)).number) some) q.second in
        let all : numbers_of v (copies d w (suc n)) ≡ numbers_of v (copies d w n) ++ copied_number o g =
        numbers_append v (copies d w n) (copies_in units (run_on n)) ∙ ap (λ l. numbers_of v (copies d w n) ++ l) last in
        record {
          amounts = before.amounts ++ g;
          plain = gained_append o before.amounts g (s v) (begun m s n v) (begun m s (suc n) v) before.plain
              (subst (Gained o g (begun m s n v)) (sym (put_other (at_end plain_body (begun m s n)) m.index (content Int (number_in m.first m.step (suc n))) v (not_index v (may.none_private v (ap is_some some))))) q.first);
          wrote = ap₂ (λ a b. a || b) before.wrote q.wrote ∙ sym (some_append before.amounts g);
          copied_some = ap some_amount all ∙ some_append (numbers_of v (copies d w n)) (copied_number o g) ∙ ap₂ (λ a b. a || b) before.copied_some (some_number o g) ∙ sym (some_append before.amounts g);
          sum = λ x k.
              ap (accumulated o x) all
              ∙ accumulated_append o x (numbers_of v (copies d w n)) (copied_number o g)
              ∙ ap (λ y. accumulated o y (copied_number o g)) (before.sum x k)
              ∙ joined_number o g (accumulated o x before.amounts) (absorbs_all o x before.amounts k)
              ∙ sym (accumulated_append o x before.amounts g);
        }

    pub all_copies : (n : ℕ) → AreOf units (copies d w n)
    all_copies zero = tt
    all_copies (suc n) = are_append units (copies d w n) (copies_in units (run_on n)) (all_copies n) (are_copies units (run_on n) may.distinct)

    -- other units are written alike
    pub writes_same : (x i : ℕ) → operator_at units x ≡ None → i < m.count → w.did i ≡ reduced_does d s i → writes x (run_on i).trace ≡ writes x (trace_of plain_body (begun m s i))
    writes_same x i none lt did =
        ap (writes x) (run_trace i lt did)
        ∙ sym (writes_shared (is_accumulator units) x (trace_of body (copied i)) (no_accumulator units x none))
        ∙ ap (writes x) (rode i lt).events
        ∙ writes_shared (is_accumulator units) x (trace_of plain_body (begun m s i)) (no_accumulator units x none)
