-- A loop with reduction variables whose iterations are interleaved from a store that is alike.
use Rattle.std.proofs.Common.{◌≡◌, ℕ, zero, suc, ◌+◌, ◌*◌, ◌<◌, ◌≤◌, inl, inr, ⊎_elim, List, [], ◌∷◌, length, Option, Some, None, Bool, true, false, not, ◌&&◌, ◌||◌, ℤ, refl, sym, ap, ap₂, ◌∙◌, subst, arith, nat_eq, length-append, true≢false}
use Rattle.std.specs.Prelude.{if◌then◌else◌, is_some}
use Rattle.f77_ast.specs.Store.{Tag, Int, Log, Undefined, Content, Store, content, undefined}
use Rattle.f77_ast.specs.Plans.{steps_of}
use Rattle.f77_meaning.specs.Interleavings.{World, Finished, start, interleaved, unfinished}
use Rattle.f77_meaning.specs.Processes.{Marked}
use Rattle.laws_interleavings.specs.Alone.{DoesAlone, AsInOrder, in_order, actions}
use Rattle.laws_interleavings.specs.Iterations.{on_store, begun}
use Rattle.laws_interleavings.specs.Reductions.{ReduceOp, Sum, Max, Min, And, Or, tag_of, Accumulator, operator_at, is_accumulator, Reduced, own, reduced_iteration, reduced_process, copies_in, copies, picks_left, some_iteration_writes, reduced_after}
use Rattle.laws_interleavings.specs.Sound.{known_at, some_wrote, store_left, is_own, Same, Alike}
use Rattle.laws_interleavings.specs.ReducedLoops.{reduced_does, known_reduced, ReducedSound}
use Rattle.laws_interleavings.proofs.Stores.{in_order_untouched}
use Rattle.laws_interleavings.proofs.Picks.{as_in_order, picks_used}
use Rattle.laws_interleavings.proofs.Traces.{write_shared}
use Rattle.laws_interleavings.proofs.Same.{equal_at, alone_known, alike_in_order, none_unfinished}
use Rattle.laws_interleavings.proofs.Joined.{accumulated, Absorbs, range_absorbs}
use Rattle.laws_interleavings.proofs.Riding.{Gained, some_amount}
use Rattle.laws_interleavings.proofs.Combining.{numbers_of, HaveValues, AreCombined, Combines, combines, few_copies}
use Rattle.laws_interleavings.proofs.ReducedIterations.{reduced_alone, begun_shared, left_is, Joins, joins, all_copies, writes_same}

abbrev Both : Bool → Content → Content → Type 0
Both k c e = (k ≡ true → Same c e) × (k ≡ false → e.tag ≡ Undefined)

no_value : (o : ReduceOp) (t : Tag) → t ≡ tag_of o → t ≡ Undefined → ⊥
no_value Sum t e f = let q : Int ≡ Undefined = sym e ∙ f in cc
no_value Max t e f = let q : Int ≡ Undefined = sym e ∙ f in cc
no_value Min t e f = let q : Int ≡ Undefined = sym e ∙ f in cc
no_value And t e f = let q : Log ≡ Undefined = sym e ∙ f in cc
no_value Or t e f = let q : Log ≡ Undefined = sym e ∙ f in cc

-- contents that have joined the same amounts
gained_same : (o : ReduceOp) (g g' : List ℤ) (c c' e e' : Content) → c ≡ e → some_amount g' ≡ some_amount g → accumulated o c.number g' ≡ accumulated o c.number g → Gained o g c c' → Gained o g' e e' → some_amount g ≡ true → c' ≡ e'
gained_same o [] g' c c' e e' q some sum a b any = absurd (true≢false (sym any))
gained_same o (x ∷ xs) [] c c' e e' q some sum a b any = absurd (true≢false (sym some))
gained_same o (x ∷ xs) (y ∷ ys) c c' e e' q some sum a b any =
    a.1 ∙ ap (content (tag_of o)) (sym sum) ∙ ap (λ k. content (tag_of o) (accumulated o k.number (y ∷ ys))) q ∙ sym b.1

gained_none : (o : ReduceOp) (g : List ℤ) (c e : Content) → some_amount g ≡ false → Gained o g c e → e ≡ c
gained_none o [] c e n h = h
gained_none o (x ∷ xs) c e n h = absurd (true≢false n)

module _ (d : Reduced) (known : ℕ → Bool) (s z : Store) (alike : Alike known s z) (sound : ReducedSound d known s) where
  abbrev m : Marked
  m = d.loop

  abbrev units : List Accumulator
  units = d.accumulators

  -- whatever the picks, the processes do what the iterations do on the store that is alike
  alone_there : (i : ℕ) → i < m.count → DoesAlone (reduced_process d i) [] (in_order (reduced_does d s) z i) (reduced_does d s i)
  alone_there i lt =
      alone_known (reduced_process d i) (reduced_does d s i) [] (known_at (reduced_does d s) known i) (in_order (reduced_does d s) s i) (in_order (reduced_does d s) z i) (alike_in_order (reduced_does d s) known s z alike i) (sound.reads i lt) (reduced_alone d s sound.may i lt)

  pub reduced_in_order : (picks : List ℕ) → AsInOrder (reduced_process d) m.count z (reduced_does d s) picks (interleaved (reduced_process d) m.count picks (start z))
  reduced_in_order picks = as_in_order (reduced_process d) m.count z (reduced_does d s) alone_there sound.may.apart picks

  pub enough_left : (picks : List ℕ) → length picks ≤ actions (reduced_does d s) m.count + length (picks_left (reduced_process d) m.count picks (start z))
  enough_left picks = picks_used (reduced_process d) m.count z (reduced_does d s) alone_there sound.may.apart picks

  pub no_process_left : (picks : List ℕ) → ((i : ℕ) → i < m.count → reduced_process d i ((interleaved (reduced_process d) m.count picks (start z)).did i) ≡ Finished) → unfinished (reduced_process d) (interleaved (reduced_process d) m.count picks (start z)) m.count ≡ []
  no_process_left picks fin = none_unfinished (reduced_process d) (interleaved (reduced_process d) m.count picks (start z)) m.count fin

  module _ (picks : List ℕ) (fin : (i : ℕ) → i < m.count → reduced_process d i ((interleaved (reduced_process d) m.count picks (start z)).did i) ≡ Finished) where
    abbrev w : World
    w = interleaved (reduced_process d) m.count picks (start z)

    did : (i : ℕ) → i < m.count → w.did i ≡ reduced_does d s i
    did i lt = (reduced_in_order picks).whole fin i lt

    -- units that processes have for themselves are as before
    untouched : (x : ℕ) → own d x ≡ true → w.store x ≡ z x
    untouched x px =
        (reduced_in_order picks).end fin x
        ∙ in_order_untouched (reduced_does d s) z m.count x (λ j l v. true≢false (sym px ∙ write_shared (own d) (on_store (steps_of m.body) (begun m s j)).trace x v))

    mine : (x : ℕ) (o : ReduceOp) → operator_at units x ≡ Some o → own d x ≡ true
    mine x o some = right (m.private x) (ap is_some some)
      where
        right : (a : Bool) {b : Bool} → b ≡ true → (a || b) ≡ true
        right true e = refl
        right false e = e

    all_joined : (v : ℕ) (o : ReduceOp) → operator_at units v ≡ Some o → Joins d s sound.may w v o m.count
    all_joined v o some = joins d s sound.may w v o some m.count (omega arith) did

    -- a reduction variable that is written has the same value in both stores
    same_before : (v : ℕ) (o : ReduceOp) → operator_at units v ≡ Some o → some_wrote m s m.count v ≡ true → (s v ≡ z v) × ((s v).tag ≡ tag_of o)
    same_before v o some wrote =
        let b = sound.before v o some wrote in
        (equal_at (s v) (z v) ((alike v).0 b.0) (no_value o (s v).tag b.1), b.1)

    values : HaveValues units (copies d w m.count) w.store
    values v o some any =
        let j = all_joined v o some in
        let b = same_before v o some (j.wrote ∙ sym j.copied_some ∙ any) in
        ap (λ c. c.tag) (untouched v (mine v o some) ∙ sym b.0) ∙ b.1

    pub combination : (ps : List ℕ) → Combines units ps w.store (copies d w m.count)
    combination ps = combines units ps w.store (copies d w m.count) (all_copies d s sound.may w m.count) values

    some_writes_same : (x : ℕ) → operator_at units x ≡ None → (n : ℕ) → n ≤ m.count → some_iteration_writes d w x n ≡ some_wrote m s n x
    some_writes_same x none zero le = refl
    some_writes_same x none (suc n) le = ap₂ (λ a b. a || b) (some_writes_same x none n (omega arith)) (writes_same d s sound.may w x n none le (did n le))

    -- what the loop leaves in a reduction variable
    accumulator_same : (x : ℕ) (o : ReduceOp) (y : Store) → operator_at units x ≡ Some o → Gained o (numbers_of x (copies d w m.count)) (w.store x) (y x) → Both (known x) (store_left m s x) (y x)
    accumulator_same x o y some summed = go (some_amount j.amounts) refl
      where
        j : Joins d s sound.may w x o m.count
        j = all_joined x o some

        wz : w.store x ≡ z x
        wz = untouched x (mine x o some)

        left : store_left m s x ≡ begun m s m.count x
        left = left_is d s sound.may x

        go : (b : Bool) → some_amount j.amounts ≡ b → Both (known x) (store_left m s x) (y x)
        go false e =
            let same : store_left m s x ≡ s x = left ∙ gained_none o j.amounts (s x) (begun m s m.count x) e j.plain in
            let there : y x ≡ z x = gained_none o (numbers_of x (copies d w m.count)) (w.store x) (y x) (j.copied_some ∙ e) summed ∙ wz in
            (λ k. subst (λ c. Same c (y x)) (sym same) (subst (Same (s x)) (sym there) ((alike x).0 k)), λ k. ap (λ c. c.tag) there ∙ (alike x).1 k)
        go true e =
            let wrote : some_wrote m s m.count x ≡ true = j.wrote ∙ e in
            let b = same_before x o some wrote in
            let absorbs : Absorbs o (s x).number = range_absorbs o (s x).number (sound.have_range x o some b.1) in
            let same : store_left m s x ≡ y x =
            left ∙ gained_same o j.amounts (numbers_of x (copies d w m.count)) (s x) (begun m s m.count x) (w.store x) (y x) (b.0 ∙ sym wz) j.copied_some (j.sum (s x).number absorbs) j.plain summed e in
            (λ k. inl same, λ k. absurd (true≢false (sym (sound.before x o some wrote).0 ∙ k)))

    -- what it leaves in a unit, by its kind
    by_kind : (x : ℕ) (y : Store) → AreCombined units (copies d w m.count) w.store y →
        (b1 b2 b3 b4 : Bool) (a : Option ReduceOp) → nat_eq x m.index ≡ b1 → m.named x ≡ b2 → m.private x ≡ b3 → some_wrote m s m.count x ≡ b4 → operator_at units x ≡ a →
        Both (if b1 then false else if b2 then (not b4 && known x) else if b3 then true else if is_some a then known x else known_at (reduced_does d s) known m.count x) (store_left m s x)
        (if b1 || (b2 && b4) then undefined (y x) else y x)
    by_kind x y c true b2 b3 b4 a e1 e2 e3 e4 e5 = (λ k. absurd (true≢false (sym k)), λ k. refl)
    by_kind x y c false true b3 true a e1 e2 e3 e4 e5 = (λ k. absurd (true≢false (sym k)), λ k. refl)
    by_kind x y c false true b3 false None e1 e2 e3 e4 e5 =
        let same = sound.unwritten x e2 e1 e4 in
        let there : y x ≡ z x = c.others x e5 ∙ untouched x (ap (λ b. b || is_accumulator units x) (sound.names_private x e2)) in
        (λ k. subst (λ e. Same e (y x)) (sym same) (subst (Same (s x)) (sym there) ((alike x).0 k)), λ k. ap (λ e. e.tag) there ∙ (alike x).1 k)
    by_kind x y c false true b3 false (Some o) e1 e2 e3 e4 e5 = absurd (true≢false (sym (sound.names_private x e2) ∙ sound.may.none_private x (ap is_some e5)))
    by_kind x y c false false true b4 None e1 e2 e3 e4 e5 =
        let mine_alone : is_own m x ≡ true = rw e1 (rw e2 (rw e3 refl)) in
        let there : y x ≡ z x = c.others x e5 ∙ untouched x (ap (λ b. b || is_accumulator units x) e3) in
        (λ k. inr (sound.own_after x mine_alone, ap (λ e. e.tag) there ∙ undefined_in mine_alone (known x) refl), λ k. absurd (true≢false k))
      where
        undefined_in : is_own m x ≡ true → (b : Bool) → known x ≡ b → (z x).tag ≡ Undefined
        undefined_in here true e = ⊎_elim (λ q. sym (ap (λ c. c.tag) q) ∙ sound.own_before x here) (λ q. q.1) ((alike x).0 e)
        undefined_in here false e = (alike x).1 e
    by_kind x y c false false true b4 (Some o) e1 e2 e3 e4 e5 = absurd (true≢false (sym e3 ∙ sound.may.none_private x (ap is_some e5)))
    by_kind x y c false false false b4 (Some o) e1 e2 e3 e4 e5 = accumulator_same x o y e5 (c.sums x o e5)
    by_kind x y c false false false b4 None e1 e2 e3 e4 e5 =
        let nobody : own d x ≡ false = ap₂ (λ a b. a || b) e3 (ap is_some e5) in
        let sx = left_is d s sound.may x ∙ begun_shared d s sound.may m.count x (omega arith) nobody in
        let there : y x ≡ in_order (reduced_does d s) z m.count x = c.others x e5 ∙ (reduced_in_order picks).end fin x in
        let al = alike_in_order (reduced_does d s) known s z alike m.count x in
        (λ k. subst (λ e. Same e (y x)) (sym sx) (subst (Same (in_order (reduced_does d s) s m.count x)) (sym there) (al.0 k)), λ k. ap (λ e. e.tag) there ∙ al.1 k)

    lost_same : (x : ℕ) (c : Content) (b : Bool) → m.named x ≡ b → (if nat_eq x m.index || (b && some_iteration_writes d w x m.count) then undefined c else c) ≡ (if nat_eq x m.index || (b && some_wrote m s m.count x) then undefined c else c)
    lost_same x c false e = refl
    lost_same x c true e =
        let none : operator_at units x ≡ None = no_name (operator_at units x) refl in
        ap (λ k. if nat_eq x m.index || k then undefined c else c) (some_writes_same x none m.count (omega arith))
      where
        no_name : (a : Option ReduceOp) → operator_at units x ≡ a → operator_at units x ≡ None
        no_name None n = n
        no_name (Some o) n = absurd (true≢false (sym (sound.names_private x e) ∙ sound.may.none_private x (ap is_some n)))

    -- after the combination the stores are alike again
    pub reduced_same : (y : Store) → AreCombined units (copies d w m.count) w.store y → Alike (known_reduced d known s) (store_left m s) (reduced_after d w y)
    reduced_same y c x =
        subst (Both (known_reduced d known s x) (store_left m s x)) (sym (lost_same x (y x) (m.named x) refl))
        (by_kind x y c (nat_eq x m.index) (m.named x) (m.private x) (some_wrote m s m.count x) (operator_at units x) refl refl refl refl refl)

  few : (w : World) (n : ℕ) → length (copies d w n) ≤ n * length units
  few w zero = omega arith
  few w (suc n) =
      let a = few w n in
      let b = few_copies units (reduced_iteration d n (w.did n)) in
      let c = length-append (copies d w n) (copies_in units (reduced_iteration d n (w.did n))) in
      more_times n (length units) (length (copies d w n)) (length (copies_in units (reduced_iteration d n (w.did n)))) (length (copies d w (suc n))) a b c
    where
      more_times : (n k a b c : ℕ) → a ≤ n * k → b ≤ k → c ≡ a + b → c ≤ suc n * k
      more_times n k a b c p q e = omega arith

  -- as many picks as actions and copies combine all
  pub all_combined : (picks : List ℕ) → actions (reduced_does d s) m.count + m.count * length units ≤ length picks → length (picks_left (reduced_process d) m.count picks (start z)) < length (copies d (interleaved (reduced_process d) m.count picks (start z)) m.count) → ⊥
  all_combined picks enough short =
      let a = enough_left picks in
      let b = few (interleaved (reduced_process d) m.count picks (start z)) m.count in
      omega (arith, a, b, enough, short)
