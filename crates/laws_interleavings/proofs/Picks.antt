-- The invariant of interleaved processes.
use Rattle.std.proofs.Common.{◌≡◌, ◌≢◌, ℕ, zero, suc, ◌+◌, ◌-◌, ◌%◌, ◌<◌, ◌≤◌, ◌⊎◌, inl, inr, ⊎_elim, List, [], ◌∷◌, ◌++◌, length, Some, Bool, true, false, refl, sym, ap, ◌∙◌, subst, arith, append_assoc, append-nil, mod-lt, true≢false}
use Rattle.std.specs.Prelude.{slice_get, if◌then◌else◌}
use Rattle.std.proofs.lemmas.Bool.Decides.{eqb_tells}
use Rattle.f77_ast.specs.Store.{Content, Store, put}
use Rattle.f77_ast.specs.Runs.{Event, Arrived, Read, Wrote, Printed, Took}
use Rattle.f77_meaning.specs.Interleavings.{Action, ReadNext, WriteNext, Finished, Faults, Process, World, act, act_by, is_finished, unfinished, picked, interleaved, start}
use Rattle.laws_interleavings.specs.Alone.{after, AsInOrder, DoesAlone, in_order, Reads, Writes, NoneMeet, actions}
use Rattle.laws_interleavings.specs.Reductions.{picks_if, picks_left}
use Rattle.laws_interleavings.proofs.Stores.{put_other, put_cong, after_snoc, alone_at, in_order_untouched, in_order_writer, writer, alone}
use Rattle.f77_ast.proofs.Shared.{put_same}

-- what holds of the new value and of the others holds of each
put_each : {A B : Type 0} (P : ℕ → A → B → Type 0) (f : ℕ → A) (g : ℕ → B) (i : ℕ) (a : A) (b : B) → P i a b → ((j : ℕ) → j ≢ i → P j (f j) (g j)) → (j : ℕ) → P j (put f i a j) (put g i b j)
put_each P f g i a b here others j =
    ⊎_elim
    (λ e. subst (λ k. P k (put f i a k) (put g i b k)) (sym e.1) (subst (λ c. P i c (put g i b i)) (sym (put_same f i a)) (subst (P i a) (sym (put_same g i b)) here)))
    (λ e. subst (λ c. P j c (put g i b j)) (sym (put_other f i a j e.1)) (subst (P j (f j)) (sym (put_other g i b j e.1)) (others j e.1)))
    (eqb_tells j i)

writes_in : (h : List Event) (u : ℕ) (v : Content) (r : List Event) → Writes u (h ++ Wrote u v ∷ r)
writes_in [] u v r = inl refl
writes_in (Arrived p ∷ h) u v r = writes_in h u v r
writes_in (Printed xs ∷ h) u v r = writes_in h u v r
writes_in (Took o ∷ h) u v r = writes_in h u v r
writes_in (Read x c ∷ h) u v r = writes_in h u v r
writes_in (Wrote x c ∷ h) u v r = inr (writes_in h u v r)

reads_in : (h : List Event) (u : ℕ) (v : Content) (r : List Event) → Reads u (h ++ Read u v ∷ r)
reads_in [] u v r = inl refl
reads_in (Arrived p ∷ h) u v r = reads_in h u v r
reads_in (Printed xs ∷ h) u v r = reads_in h u v r
reads_in (Took o ∷ h) u v r = reads_in h u v r
reads_in (Read x c ∷ h) u v r = inr (reads_in h u v r)
reads_in (Wrote x c ∷ h) u v r = reads_in h u v r

actions_put : (rest : ℕ → List Event) (n i : ℕ) (e : Event) (r : List Event) → i < n → rest i ≡ e ∷ r → actions rest n ≡ suc (actions (put rest i r) n)
actions_put rest zero i e r lt is = absurd (omega arith)
actions_put rest (suc n) i e r lt is =
    ⊎_elim
    (λ q. let a = same n (omega (arith, q.1)) in let b : put rest i r n ≡ r = subst (λ k. put rest i r k ≡ r) q.1 (put_same rest i r) in let c : rest n ≡ e ∷ r = subst (λ k. rest k ≡ e ∷ r) q.1 is in omega (arith, a, ap length b, ap length c))
    (λ q. let a = actions_put rest n i e r (omega (arith, q.1)) is in let b = put_other rest i r n (λ z. q.1 (sym z)) in omega (arith, a, ap length b))
    (eqb_tells i n)
  where
    same : (m : ℕ) → m ≤ i → actions (put rest i r) m ≡ actions rest m
    same zero l = refl
    same (suc m) l = let a = same m (omega arith) in let b = put_other rest i r m (omega arith) in omega (arith, a, ap length b)

-- no process but i writes the unit
abbrev OnlyBy : (ℕ → List Event) → ℕ → ℕ → ℕ → Type 0
OnlyBy t n i x = (j : ℕ) → j < n → j ≢ i → Writes x (t j) → ⊥

-- each process has done a part of its process, and goes on with the rest as if it were alone from the start; each unit has what its only writer gave it
record Inv (p : ℕ → Process) (n : ℕ) (s : Store) (t : ℕ → List Event) (w : World) (rest : ℕ → List Event) : Type 0 where
  whole : (i : ℕ) → i < n → w.did i ++ rest i ≡ t i
  going : (i : ℕ) → i < n → DoesAlone (p i) (w.did i) (after (w.did i) s) (rest i)
  own : (i : ℕ) → i < n → (x : ℕ) → OnlyBy t n i x → w.store x ≡ after (w.did i) s x
  free : (x : ℕ) → ((j : ℕ) → j < n → Writes x (t j) → ⊥) → w.store x ≡ s x

module _ (p : ℕ → Process) (n : ℕ) (s : Store) (t : ℕ → List Event) where
  advance : (w : World) (rest : ℕ → List Event) → Inv p n s t w rest → (i : ℕ) → i < n → (e : Event) (r : List Event) → rest i ≡ e ∷ r → DoesAlone (p i) (w.did i ++ e ∷ []) (after (w.did i ++ e ∷ []) s) r → (store : Store) → ((x : ℕ) → OnlyBy t n i x → store x ≡ after (w.did i ++ e ∷ []) s x) → ((x : ℕ) → (Writes x (t i) → ⊥) → store x ≡ w.store x) → Inv p n s t (record { store = store; did = put w.did i (w.did i ++ e ∷ []) }) (put rest i r)
  advance w rest v i lt e r is f store mine others = record {
    whole = put_each (λ j d q. j < n → d ++ q ≡ t j) w.did rest i (w.did i ++ e ∷ []) r
        (λ l. append_assoc (w.did i) (e ∷ []) r ∙ ap (λ q. w.did i ++ q) (sym is) ∙ v.whole i lt)
        (λ j ne l. v.whole j l);
    going = put_each (λ j d q. j < n → DoesAlone (p j) d (after d s) q) w.did rest i (w.did i ++ e ∷ []) r
        (λ l. f)
        (λ j ne l. v.going j l);
    own = put_each (λ j d q. j < n → (x : ℕ) → OnlyBy t n j x → store x ≡ after d s x) w.did rest i (w.did i ++ e ∷ []) r
        (λ l. mine)
        (λ j ne l x only. others x (only i lt (λ q. ne (sym q))) ∙ v.own j l x only);
    free = λ x none. others x (none i lt) ∙ v.free x none;
  }

  read_step : NoneMeet n t → (w : World) (rest : ℕ → List Event) → Inv p n s t w rest → (i : ℕ) → i < n → (u : ℕ) (c : Content) (r : List Event) → rest i ≡ Read u c ∷ r → DoesAlone (p i) (w.did i) (after (w.did i) s) (Read u c ∷ r) → Inv p n s t (act (ReadNext u) i w) (put rest i r)
  read_step apart w rest v i lt u c r is f =
      let in_t : Reads u (t i) = subst (Reads u) (ap (λ q. w.did i ++ q) (sym is) ∙ v.whole i lt) (reads_in (w.did i) u c r) in
      let got : w.store u ≡ c = v.own i lt u (alone n t apart i u lt (inl in_t)) ∙ sym f.1 in
      let snoc = after_snoc (w.did i) (Read u c) s in
      subst (λ a. Inv p n s t (record { store = w.store; did = put w.did i (w.did i ++ Read u a ∷ []) }) (put rest i r)) (sym got)
      (advance w rest v i lt (Read u c) r is
      (subst (λ a. DoesAlone (p i) (w.did i ++ Read u c ∷ []) a r) (sym snoc) f.2)
      w.store
      (λ x only. v.own i lt x only ∙ ap (λ a. a x) (sym snoc))
      (λ x no. refl))

  write_step : NoneMeet n t → (w : World) (rest : ℕ → List Event) → Inv p n s t w rest → (i : ℕ) → i < n → (u : ℕ) (c : Content) (r : List Event) → rest i ≡ Wrote u c ∷ r → DoesAlone (p i) (w.did i) (after (w.did i) s) (Wrote u c ∷ r) → Inv p n s t (act (WriteNext u c) i w) (put rest i r)
  write_step apart w rest v i lt u c r is f =
      let in_t : Writes u (t i) = subst (Writes u) (ap (λ q. w.did i ++ q) (sym is) ∙ v.whole i lt) (writes_in (w.did i) u c r) in
      let snoc = after_snoc (w.did i) (Wrote u c) s in
      advance w rest v i lt (Wrote u c) r is
      (subst (λ a. DoesAlone (p i) (w.did i ++ Wrote u c ∷ []) a r) (sym snoc) f.1)
      (put w.store u c)
      (λ x only. put_cong w.store (after (w.did i) s) u c x (v.own i lt x only) ∙ ap (λ a. a x) (sym snoc))
      (λ x no. put_other w.store u c x (λ e. no (subst (λ z. Writes z (t i)) (sym e) in_t)))

  step : NoneMeet n t → (w : World) (rest : ℕ → List Event) → Inv p n s t w rest → (i : ℕ) → i < n → is_finished (p i (w.did i)) ≡ false → (next : ℕ → List Event) × Inv p n s t (act (p i (w.did i)) i w) next × (actions rest n ≡ suc (actions next n))
  step apart w rest v i lt busy = go (rest i) refl (v.going i lt)
    where
      go : (q : List Event) → rest i ≡ q → DoesAlone (p i) (w.did i) (after (w.did i) s) q → (next : ℕ → List Event) × Inv p n s t (act (p i (w.did i)) i w) next × (actions rest n ≡ suc (actions next n))
      go [] is f = absurd (true≢false (sym (ap is_finished f) ∙ busy))
      go (Arrived a ∷ r) is f = absurd f
      go (Printed xs ∷ r) is f = absurd f
      go (Took o ∷ r) is f = absurd f
      go (Read u c ∷ r) is f = (put rest i r, subst (λ a. Inv p n s t (act a i w) (put rest i r)) (sym f.0) (read_step apart w rest v i lt u c r is f), actions_put rest n i (Read u c) r lt is)
      go (Wrote u c ∷ r) is f = (put rest i r, subst (λ a. Inv p n s t (act a i w) (put rest i r)) (sym f.0) (write_step apart w rest v i lt u c r is f), actions_put rest n i (Wrote u c) r lt is)

-- holds of each element
abbrev Each : (ℕ → Type 0) → List ℕ → Type 0
Each P [] = Unit {0}
Each P (i ∷ is) = P i × Each P is

each_append : (P : ℕ → Type 0) (is js : List ℕ) → Each P is → Each P js → Each P (is ++ js)
each_append P [] js a b = b
each_append P (i ∷ is) js a b = (a.0, each_append P is js a.1 b)

each_more : (P Q : ℕ → Type 0) (is : List ℕ) → ((i : ℕ) → P i → Q i) → Each P is → Each Q is
each_more P Q [] f a = tt
each_more P Q (i ∷ is) f a = (f i a.0, each_more P Q is f a.1)

each_get : (P : ℕ → Type 0) (is : List ℕ) (k : ℕ) → k < length is → Each P is → (i : ℕ) × (slice_get is k ≡ Some i) × P i
each_get P [] k lt a = absurd (omega arith)
each_get P (i ∷ is) zero lt a = (i, refl, a.0)
each_get P (i ∷ is) (suc k) lt a = each_get P is k (omega arith) a.1

each_picked : (P : ℕ → Type 0) (is : List ℕ) (k : ℕ) → Each P is → ((i : ℕ) × (picked is k ≡ Some i) × P i) ⊎ (is ≡ [])
each_picked P [] k a = inr refl
each_picked P (i ∷ is) k a = inl (each_get P (i ∷ is) (k % length (i ∷ is)) (mod-lt k (omega arith)) a)

abbrev Busy : (ℕ → Process) → World → ℕ → ℕ → Type 0
Busy p w n i = (i < n) × (is_finished (p i (w.did i)) ≡ false)

busy : (p : ℕ → Process) (w : World) (n : ℕ) → Each (Busy p w n) (unfinished p w n)
busy p w zero = tt
busy p w (suc n) =
    each_append (Busy p w (suc n)) (unfinished p w n) _
    (each_more (Busy p w n) (Busy p w (suc n)) (unfinished p w n) (λ i b. (omega (arith, b.0), b.1)) (busy p w n))
    (last (is_finished (p n (w.did n))) refl)
  where
    last : (b : Bool) → is_finished (p n (w.did n)) ≡ b → Each (Busy p w (suc n)) (if b then [] else n ∷ [])
    last true e = tt
    last false e = ((omega arith, e), tt)

finished : (a : Action) → is_finished a ≡ true → a ≡ Finished
finished Finished e = refl
finished (ReadNext u) e = absurd (true≢false (sym e))
finished (WriteNext u v) e = absurd (true≢false (sym e))
finished Faults e = absurd (true≢false (sym e))

-- the last of a list is no end
no_end : (is : List ℕ) (i : ℕ) → is ++ i ∷ [] ≡ [] → ⊥
no_end [] i e = grind arith
no_end (j ∷ is) i e = grind arith

pub all_finished : (p : ℕ → Process) (w : World) (n : ℕ) → unfinished p w n ≡ [] → (i : ℕ) → i < n → p i (w.did i) ≡ Finished
all_finished p w zero e i lt = absurd (omega arith)
all_finished p w (suc n) e i lt = go (λ z. all_finished p w n z i) (is_finished (p n (w.did n))) refl e
  where
    go : (unfinished p w n ≡ [] → i < n → p i (w.did i) ≡ Finished) → (b : Bool) → is_finished (p n (w.did n)) ≡ b → unfinished p w n ++ (if b then [] else n ∷ []) ≡ [] → p i (w.did i) ≡ Finished
    go ih true f e =
        ⊎_elim
        (λ q. subst (λ k. p k (w.did k) ≡ Finished) (sym q.1) (finished (p n (w.did n)) f))
        (λ q. ih (sym (append-nil (unfinished p w n)) ∙ e) (omega (arith, q.1)))
        (eqb_tells i n)
    go ih false f e = absurd (no_end (unfinished p w n) n e)

module _ (p : ℕ → Process) (n : ℕ) (s : Store) (t : ℕ → List Event) where
  -- a process that has finished has done its process
  nothing_left : (w : World) (rest : ℕ → List Event) → Inv p n s t w rest → (i : ℕ) → i < n → p i (w.did i) ≡ Finished → rest i ≡ []
  nothing_left w rest v i lt fin = go (rest i) (v.going i lt)
    where
      go : (q : List Event) → DoesAlone (p i) (w.did i) (after (w.did i) s) q → q ≡ []
      go [] f = refl
      go (Arrived a ∷ r) f = absurd f
      go (Printed xs ∷ r) f = absurd f
      go (Took o ∷ r) f = absurd f
      go (Read u c ∷ r) f = absurd (true≢false (sym (ap is_finished fin) ∙ ap is_finished f.0))
      go (Wrote u c ∷ r) f = absurd (true≢false (sym (ap is_finished fin) ∙ ap is_finished f.0))

  all_left : (rest : ℕ → List Event) (m : ℕ) → ((i : ℕ) → i < m → rest i ≡ []) → actions rest m ≡ 0
  all_left rest zero h = refl
  all_left rest (suc m) h = let a = all_left rest m (λ i lt. h i (omega arith)) in omega (arith, a, ap length (h m (omega arith)))

  pick_step : NoneMeet n t → (k : ℕ) (w : World) (rest : ℕ → List Event) → Inv p n s t w rest → (next : ℕ → List Event) × Inv p n s t (act_by p w (picked (unfinished p w n) k)) next × (actions next n ≤ actions rest n - 1)
  pick_step apart k w rest v =
      ⊎_elim
      (λ c. let a = step p n s t apart w rest v c.0 c.2.0 c.2.1 in (a.0, subst (λ o. Inv p n s t (act_by p w o) a.0) (sym c.1) a.1, omega (arith, a.2)))
      (λ e. (rest, subst (λ o. Inv p n s t (act_by p w (picked o k)) rest) (sym e) v, let z = all_left rest n (λ i lt. nothing_left w rest v i lt (all_finished p w n e i lt)) in omega (arith, z)))
      (each_picked (Busy p w n) (unfinished p w n) k (busy p w n))

  picks : NoneMeet n t → (ks : List ℕ) (w : World) (rest : ℕ → List Event) → Inv p n s t w rest → (next : ℕ → List Event) × Inv p n s t (interleaved p n ks w) next × (actions next n ≤ actions rest n - length ks)
  picks apart [] w rest v = (rest, v, omega arith)
  picks apart (k ∷ ks) w rest v =
      let a = pick_step apart k w rest v in
      let b = picks apart ks (act_by p w (picked (unfinished p w n) k)) a.0 a.1 in
      (b.0, b.1, omega (arith, a.2, b.2))

  begin : ((i : ℕ) → i < n → DoesAlone (p i) [] (in_order t s i) (t i)) → NoneMeet n t → Inv p n s t (start s) t
  begin runs apart = record {
    whole = λ i lt. refl;
    going = λ i lt. alone_at (p i) (t i) [] (in_order t s i) s (λ x touch. in_order_untouched t s i x (λ j l w. alone n t apart i x lt touch j (omega arith) (omega arith) w)) (runs i lt);
    own = λ i lt x only. refl;
    free = λ x none. refl;
  }

  nothing_left_to_do : (rest : ℕ → List Event) (m i : ℕ) → i < m → actions rest m ≡ 0 → rest i ≡ []
  nothing_left_to_do rest zero i lt e = absurd (omega arith)
  nothing_left_to_do rest (suc m) i lt e =
      ⊎_elim
      (λ q. let z : length (rest m) ≡ 0 = omega (arith, e) in subst (λ k. rest k ≡ []) (sym q.1) (none (rest m) z))
      (λ q. nothing_left_to_do rest m i (omega (arith, q.1)) (omega (arith, e)))
      (eqb_tells i m)
    where
      none : (q : List Event) → length q ≡ 0 → q ≡ []
      none [] z = refl
      none (x ∷ q) z = absurd (omega arith)

  no_fault : (h : List Event) (z : Store) (i : ℕ) (q : List Event) → DoesAlone (p i) h z q → p i h ≢ Faults
  no_fault h z i (Arrived b ∷ r) f e = absurd f
  no_fault h z i (Printed xs ∷ r) f e = absurd f
  no_fault h z i (Took o ∷ r) f e = absurd f
  no_fault h z i [] f e = let a : Finished ≡ Faults = sym f ∙ e in grind arith
  no_fault h z i (Read u c ∷ r) f e = let a : ReadNext u ≡ Faults = sym f.0 ∙ e in grind arith
  no_fault h z i (Wrote u c ∷ r) f e = let a : WriteNext u c ≡ Faults = sym f.0 ∙ e in grind arith

  more_left : (k : ℕ) (ks js r : List ℕ) (x y : ℕ) → x ≡ suc y → length ks ≤ y + length r → length (k ∷ ks) ≤ x + length (picks_if js (k ∷ ks) r)
  more_left k ks [] r x y e h = omega arith
  more_left k ks (j ∷ js) r x y e h = omega arith

  used : NoneMeet n t → (ks : List ℕ) (w : World) (rest : ℕ → List Event) → Inv p n s t w rest → length ks ≤ actions rest n + length (picks_left p n ks w)
  used apart [] w rest v = omega arith
  used apart (k ∷ ks) w rest v =
      ⊎_elim
      (λ c.
      let a = step p n s t apart w rest v c.0 c.2.0 c.2.1 in
      let after = act_by p w (picked (unfinished p w n) k) in
      more_left k ks (unfinished p w n) (picks_left p n ks after) (actions rest n) (actions a.0 n) a.2 (used apart ks after a.0 (subst (λ o. Inv p n s t (act_by p w o) a.0) (sym c.1) a.1)))
      (λ e. subst (λ js. length (k ∷ ks) ≤ actions rest n + length (picks_if js (k ∷ ks) (picks_left p n ks (act_by p w (picked (unfinished p w n) k))))) (sym e) (omega arith))
      (each_picked (Busy p w n) (unfinished p w n) k (busy p w n))

  -- a pick is used up by an action alone
  pub picks_used : ((i : ℕ) → i < n → DoesAlone (p i) [] (in_order t s i) (t i)) → NoneMeet n t → (ks : List ℕ) → length ks ≤ actions t n + length (picks_left p n ks (start s))
  picks_used runs apart ks = used apart ks (start s) t (begin runs apart)

  pub as_in_order : ((i : ℕ) → i < n → DoesAlone (p i) [] (in_order t s i) (t i)) → NoneMeet n t → (ks : List ℕ) → AsInOrder p n s t ks (interleaved p n ks (start s))
  as_in_order runs apart ks = finish (picks apart ks (start s) t (begin runs apart))
    where
      finish : (a : (next : ℕ → List Event) × Inv p n s t (interleaved p n ks (start s)) next × (actions next n ≤ actions t n - length ks)) → AsInOrder p n s t ks (interleaved p n ks (start s))
      finish a =
          let w = interleaved p n ks (start s) in
          let v = a.1 in
          record {
            begun = λ i lt. (a.0 i, v.whole i lt);
            no_fault = λ i lt. no_fault (w.did i) (after (w.did i) s) i (a.0 i) (v.going i lt);
            done = λ enough i lt. subst (DoesAlone (p i) (w.did i) (after (w.did i) s)) (nothing_left_to_do a.0 n i lt (omega (arith, a.2, enough))) (v.going i lt);
            whole = λ fin i lt. sym (append-nil (w.did i)) ∙ ap (λ q. w.did i ++ q) (sym (nothing_left w a.0 v i lt (fin i lt))) ∙ v.whole i lt;
            end = λ fin x.
                ⊎_elim
                (λ c.
                let i = c.0 in
                let did : w.did i ≡ t i = sym (append-nil (w.did i)) ∙ ap (λ q. w.did i ++ q) (sym (nothing_left w a.0 v i c.1 (fin i c.1))) ∙ v.whole i c.1 in
                let only = alone n t apart i x c.1 (inr c.2) in
                v.own i c.1 x only ∙ ap (λ h. after h s x) did ∙ sym (in_order_writer t s n i x c.1 only))
                (λ none. v.free x none ∙ sym (in_order_untouched t s n x none))
                (writer t n x);
          }
