-- What the iterations of a loop with reduction variables read, of all that the run does from the loop on.
use Rattle.std.proofs.Common.{◌≡◌, ℕ, zero, suc, ◌+◌, ◌<◌, ◌≤◌, ⊎_elim, List, [], ◌∷◌, ◌++◌, Option, Some, None, Bool, true, false, not, ◌&&◌, ◌||◌, ℤ, refl, sym, ap, ap₂, ◌∙◌, subst, arith, nat_eq, true≢false, append_assoc}
use Rattle.std.specs.Prelude.{if◌then◌else◌, is_some}
use Rattle.std.proofs.lemmas.Bool.Decides.{eqb_tells, nat_tests}
use Rattle.f77_ast.specs.Store.{Content, Store}
use Rattle.f77_ast.specs.Runs.{Event, Wrote}
use Rattle.f77_ast.specs.Plans.{steps_of}
use Rattle.f77_meaning.specs.Accesses.{is_read_first}
use Rattle.f77_meaning.specs.Processes.{Marked, writes}
use Rattle.laws_interleavings.specs.Iterations.{begun, whole_loop}
use Rattle.laws_interleavings.specs.Strict.{Strict}
use Rattle.laws_interleavings.specs.Reductions.{ReduceOp, tag_of, operator_at, is_accumulator, Reduced, own}
use Rattle.laws_interleavings.specs.Sound.{known_at, some_wrote}
use Rattle.laws_interleavings.specs.ReducedLoops.{reduced_does, MayReduce, ReducedHolds}
use Rattle.laws_interleavings.proofs.Riding.{Gained, some_amount}
use Rattle.laws_interleavings.proofs.ReducedIterations.{rode, joins}
use Rattle.laws_interleavings.proofs.LaterReads.{Kept, LoopReads, loop_reads, trace_from, own_trace, next_number, trace_splits, first_after, loop_unwritten}
use Rattle.fx_lists.proofs.Numbers.{swapped, unequal_numbers}
use Rattle.fx_lists.proofs.Booleans.{or_neither as or_false, not_and}

gained_tag : (o : ReduceOp) (g : List ℤ) (c e : Content) → some_amount g ≡ true → Gained o g c e → c.tag ≡ tag_of o
gained_tag o [] c e some h = absurd (true≢false (sym some))
gained_tag o (a ∷ g) c e some h = h.0

module _ (d : Reduced) (s : Store) (may : MayReduce d s) where
  abbrev m : Marked
  m = d.loop

  own_index : own d m.index ≡ true
  own_index = ap (λ b. b || is_accumulator d.accumulators m.index) may.index_private

  -- where a reduction variable is not read first, no iteration writes it
  unused : (v : ℕ) (o : ReduceOp) → operator_at d.accumulators v ≡ Some o → (rest : List Event) (k i : ℕ) → i + k ≡ m.count → is_read_first v (trace_from m s may.normal k i ++ rest) ≡ false → (j : ℕ) → i ≤ j → j < m.count → writes v (own_trace m s may.normal j) ≡ false
  unused v o some rest zero i e h j l lt = absurd (omega (arith, e))
  unused v o some rest (suc k) i e h j l lt =
      let tail = Wrote m.index (next_number m s may.normal i) ∷ (trace_from m s may.normal k (suc i) ++ rest) in
      let same : trace_from m s may.normal (suc k) i ++ rest ≡ own_trace m s may.normal i ++ tail =
      ap (λ l. l ++ rest) (trace_splits m s may.normal i k e) ∙ append_assoc (own_trace m s may.normal i) (Wrote m.index (next_number m s may.normal i) ∷ trace_from m s may.normal k (suc i)) rest in
      let r = rode d s may i (omega (arith, e)) in
      let q = r.sums v o some in
      let none = or_false (some_amount (r.gains v)) (is_read_first v tail) (sym (q.reads refl tail) ∙ ap (is_read_first v) (sym same) ∙ h) in
      let other : nat_eq m.index v ≡ false = unequal_numbers m.index v (λ z. true≢false (sym may.index_private ∙ ap m.private z ∙ may.none_private v (ap is_some some))) in
      let later = unused v o some rest k (suc i) (omega (arith, e)) (not_and (nat_eq m.index v) (is_read_first v (trace_from m s may.normal k (suc i) ++ rest)) other none.1) in
      ⊎_elim
      (λ z. subst (λ n. writes v (own_trace m s may.normal n) ≡ false) (sym z.1) (q.wrote ∙ none.0))
      (λ z. later j (omega (arith, l, z.1)) lt)
      (eqb_tells j i)

  none_wrote : (v n : ℕ) → ((j : ℕ) → j < n → writes v (own_trace m s may.normal j) ≡ false) → some_wrote m s n v ≡ false
  none_wrote v zero h = refl
  none_wrote v (suc n) h = ap₂ (λ a b. a || b) (none_wrote v n (λ j lt. h j (omega arith))) (h n (omega arith))

  module _ (known : ℕ → Bool) (rest : List Event) (all : (x : ℕ) → known x ≡ false → nat_eq m.index x ≡ false → is_read_first x ((whole_loop m s).trace ++ rest) ≡ false) where
    other_index : (x : ℕ) → own d x ≡ false → nat_eq m.index x ≡ false
    other_index x px = unequal_numbers m.index x (λ z. true≢false (sym own_index ∙ ap (own d) z ∙ px))

    pub reads : Strict (steps_of m.body) → LoopReads m s may.normal (own d) known 0 rest
    reads strict = loop_reads m s may.normal (own d) known rest strict own_index m.count 0 (omega arith) (λ x px kx. all x kx (other_index x px))

    -- a reduction variable that is written is known, and has a value of its type
    pub before : (x : ℕ) (o : ReduceOp) → operator_at d.accumulators x ≡ Some o → some_wrote m s m.count x ≡ true → (known x ≡ true) × ((s x).tag ≡ tag_of o)
    before x o some wrote =
        let j = joins d s may (record { store = s; did = reduced_does d s }) x o some m.count (omega arith) (λ i lt. refl) in
        (go (known x) refl, gained_tag o j.amounts (s x) (begun m s m.count x) (sym j.wrote ∙ wrote) j.plain)
      where
        go : (b : Bool) → known x ≡ b → known x ≡ true
        go true e = e
        go false e =
            let other : nat_eq m.index x ≡ false = unequal_numbers m.index x (λ z. true≢false (sym may.index_private ∙ ap m.private z ∙ may.none_private x (ap is_some some))) in
            absurd (true≢false (sym wrote ∙ none_wrote x m.count (λ i lt. unused x o some rest m.count 0 (omega arith) (all x e other) i (omega arith) lt)))

    -- what is not known after the loop is not read first
    pub unread_after : ReducedHolds d s rest → Kept (own d) (known_at (reduced_does d s) known m.count) rest →
        (x : ℕ) (b1 b2 b3 b4 b5 : Bool) → nat_eq x m.index ≡ b1 → m.named x ≡ b2 → m.private x ≡ b3 → some_wrote m s m.count x ≡ b4 → is_accumulator d.accumulators x ≡ b5 →
        (if b1 then false else if b2 then (not b4 && known x) else if b3 then true else if b5 then known x else known_at (reduced_does d s) known m.count x) ≡ false → is_read_first x rest ≡ false
    unread_after l kept x true b2 b3 b4 b5 e1 e2 e3 e4 e5 k =
        let q : x ≡ m.index = grind (arith, nat_tests) in subst (λ z. is_read_first z rest ≡ false) (sym q) l.index_later
    unread_after l kept x false true b3 true b5 e1 e2 e3 e4 e5 k = l.named_later x e2 e4
    unread_after l kept x false true b3 false b5 e1 e2 e3 e4 e5 k =
        first_after x (whole_loop m s).trace rest (loop_unwritten m s may.normal x e1 e4 m.count 0 (omega arith)) (all x k (swapped x m.index e1))
    unread_after l kept x false false true b4 b5 e1 e2 e3 e4 e5 k = absurd (true≢false k)
    unread_after l kept x false false false b4 true e1 e2 e3 e4 e5 k = go (operator_at d.accumulators x) refl e5
      where
        unwritten : (o : ReduceOp) → operator_at d.accumulators x ≡ Some o → (b : Bool) → some_wrote m s m.count x ≡ b → some_wrote m s m.count x ≡ false
        unwritten o some false w = w
        unwritten o some true w = absurd (true≢false (sym (before x o some w).0 ∙ k))

        go : (a : Option ReduceOp) → operator_at d.accumulators x ≡ a → is_some a ≡ true → is_read_first x rest ≡ false
        go None e f = absurd (true≢false (sym f))
        go (Some o) e f =
            first_after x (whole_loop m s).trace rest (loop_unwritten m s may.normal x e1 (unwritten o e (some_wrote m s m.count x) refl) m.count 0 (omega arith)) (all x k (swapped x m.index e1))
    unread_after l kept x false false false b4 false e1 e2 e3 e4 e5 k = kept x (ap₂ (λ a b. a || b) e3 e5) k
