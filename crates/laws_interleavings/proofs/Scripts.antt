-- An iteration on a script does what it does on the store.
use Rattle.std.proofs.Common.{◌≡◌, ℕ, ⊎_elim, List, [], ◌∷◌, ◌++◌, ◌||◌, ◌&&◌, not, length, Some, Bool, true, false, refl, sym, ap, ◌∙◌, subst, arith, nat_eq, append_assoc, append-nil, true≢false}
use Rattle.std.specs.Prelude.{if◌then◌else◌, slice_get}
use Rattle.std.proofs.lemmas.Bool.Decides.{eqb_tells}
use Rattle.f77_ast.specs.Store.{Content, Store, put, undefined}
use Rattle.f77_ast.specs.Steps.{Steps, Done, Breaks, Look, Set, Hold, Forget, Show, Take, Arrive}
use Rattle.f77_ast.specs.Runs.{Event, Arrived, Read, Wrote, Printed, Took, Answer, Gave, Broke, Ran, Script, run, after_event, on_look, answer_from}
use Rattle.f77_ast.specs.Plans.{Flow, Normal}
use Rattle.f77_meaning.specs.Interleavings.{Process, Action, Finished}
use Rattle.f77_meaning.specs.Processes.{shared, answers, action_of, action_at_end, action_after}
use Rattle.laws_interleavings.specs.Alone.{DoesAlone}
use Rattle.laws_interleavings.specs.Iterations.{on_store, scripted, OwnFirst, with_unit, without_unit}
use Rattle.laws_interleavings.proofs.Stores.{put_other, put_cong}
use Rattle.laws_interleavings.proofs.Riding.{IsGave}

-- what comes at the head of these events, or the end
abbrev head_action : List Event → Action
head_action [] = Finished
head_action (e ∷ t) = action_of e

-- the private store knows what the shared one has
abbrev pub Agree : (ℕ → Bool) → (ℕ → Bool) → Store → Store → Type 0
Agree p known q s = (u : ℕ) → p u ≡ true → known u ≡ true → q u ≡ s u

pub agree_set : (p known : ℕ → Bool) (q s : Store) (u : ℕ) (c : Content) → Agree p known q s → Agree p (λ x. nat_eq x u || known x) (put q u c) (put s u c)
agree_set p known q s u c h x px k = go (nat_eq x u) k
  where
    go : (b : Bool) → (b || known x) ≡ true → (if b then c else q x) ≡ (if b then c else s x)
    go true e = refl
    go false e = h x px e

pub agree_without : (p known : ℕ → Bool) (q s : Store) (u : ℕ) (c d : Content) → Agree p known q s → Agree p (without_unit u known) (put q u c) (put s u d)
agree_without p known q s u c d h x px k = go (nat_eq x u) k
  where
    go : (b : Bool) → (not b && known x) ≡ true → (if b then c else q x) ≡ (if b then d else s x)
    go true e = absurd (true≢false (sym e))
    go false e = h x px e

pub agree_other : (p known : ℕ → Bool) (q s : Store) (u : ℕ) (c : Content) → p u ≡ false → Agree p known q s → Agree p (λ x. nat_eq x u || known x) q (put s u c)
agree_other p known q s u c pu h x px k =
    ⊎_elim
    (λ e. absurd (true≢false (sym px ∙ ap p e.1 ∙ pu)))
    (λ e. h x px (subst (λ b. (b || known x) ≡ true) e.0 k) ∙ sym (put_other s u c x e.1))
    (eqb_tells x u)

nil_parts : (h rest : List Event) → h ++ rest ≡ [] → (h ≡ []) × (rest ≡ [])
nil_parts [] rest e = (refl, e)
nil_parts (x ∷ h) rest e = absurd (let z : x ∷ (h ++ rest) ≡ [] = e in grind arith)

abbrev tail_of : List Event → List Event
tail_of [] = []
tail_of (x ∷ t) = t

abbrev content_of : Content → List Event → Content
content_of d [] = d
content_of d (Arrived a ∷ t) = d
content_of d (Read u c ∷ t) = c
content_of d (Wrote u c ∷ t) = c
content_of d (Printed xs ∷ t) = d
content_of d (Took o ∷ t) = d

abbrev IsReadHead : List Event → Type 0
IsReadHead [] = ⊥
IsReadHead (Arrived a ∷ t) = ⊥
IsReadHead (Read u c ∷ t) = Unit {0}
IsReadHead (Wrote u c ∷ t) = ⊥
IsReadHead (Printed xs ∷ t) = ⊥
IsReadHead (Took o ∷ t) = ⊥

abbrev IsWriteHead : List Event → Type 0
IsWriteHead [] = ⊥
IsWriteHead (Arrived a ∷ t) = ⊥
IsWriteHead (Read u c ∷ t) = ⊥
IsWriteHead (Wrote u c ∷ t) = Unit {0}
IsWriteHead (Printed xs ∷ t) = ⊥
IsWriteHead (Took o ∷ t) = ⊥

module _ (p : ℕ → Bool) where
  -- the next action of a run on the script of h
  abbrev acts : Ran Flow → List Event → Action
  acts r h = action_after (slice_get (shared p r.trace) (length h)) r.answer

  -- what the theorem says of one tree
  abbrev Follower : Steps Flow → Type 0
  Follower t = (known : ℕ → Bool) (q s : Store) → Agree p known q s → OwnFirst p t known s → (on_store t s).answer ≡ Gave Normal → (h rest : List Event) → h ++ rest ≡ shared p (on_store t s).trace → scripted t p q h ≡ head_action rest

  look_next : (u : ℕ) (k : Content → Steps Flow) → ((c : Content) → Follower (k c)) → Follower (Look u k)
  look_next u k ih known q s agree own normal h rest e = go (p u) refl e
    where
      answered : p u ≡ false → (h' : List Event) → h' ++ rest ≡ shared p (on_store (k (s u)) s).trace → (c : Content) → c ≡ s u → acts (after_event (Read u c) (run (k c) (Script p q (answers h')) [])) (Read u c ∷ h') ≡ head_action rest
      answered pu h' e' c is = rw pu (subst (λ d. scripted (k d) p q h' ≡ head_action rest) (sym is) (ih (s u) known q s agree own.1 normal h' rest e'))

      other : p u ≡ false → (h' : List Event) → h' ++ rest ≡ Read u (s u) ∷ shared p (on_store (k (s u)) s).trace → acts (on_look (answer_from p q (answers h')) u (Script p q (answers h')) [] (λ c n. run (k c) n [])) h' ≡ head_action rest
      other pu [] e' = ap head_action (sym e')
      other pu (Read x c ∷ h') e' = answered pu h' (ap tail_of e') c (ap (content_of c) e')
      other pu (Arrived x ∷ h') e' = absurd (subst IsReadHead (sym e') tt)
      other pu (Wrote x c ∷ h') e' = absurd (subst IsReadHead (sym e') tt)
      other pu (Printed x ∷ h') e' = absurd (subst IsReadHead (sym e') tt)
      other pu (Took x ∷ h') e' = absurd (subst IsReadHead (sym e') tt)

      go : (b : Bool) → p u ≡ b → h ++ rest ≡ (if b then shared p (on_store (k (s u)) s).trace else Read u (s u) ∷ shared p (on_store (k (s u)) s).trace) → acts (on_look (if b then Some (q u, Script p q (answers h)) else answer_from p q (answers h)) u (Script p q (answers h)) [] (λ c n. run (k c) n [])) h ≡ head_action rest
      go true pu e' = rw pu (subst (λ d. scripted (k d) p q h ≡ head_action rest) (sym (agree u pu (own.0 pu))) (ih (s u) known q s agree own.1 normal h rest e'))
      go false pu e' = other pu h e'

  set_next : (u : ℕ) (c : Content) (t : Steps Flow) → Follower t → Follower (Set u c t)
  set_next u c t ih known q s agree own normal h rest e = go (p u) refl e
    where
      others : p u ≡ false → (h' : List Event) → h' ++ rest ≡ Wrote u c ∷ shared p (on_store t (put s u c)).trace → acts (after_event (Wrote u c) (run t (Script p q (answers h')) [])) h' ≡ head_action rest
      others pu [] e' = rw pu (ap head_action (sym e'))
      others pu (Wrote x d ∷ h') e' = rw pu (ih (λ x. nat_eq x u || known x) q (put s u c) (agree_other p known q s u c pu agree) own normal h' rest (ap tail_of e'))
      others pu (Arrived x ∷ h') e' = absurd (subst IsWriteHead (sym e') tt)
      others pu (Read x d ∷ h') e' = absurd (subst IsWriteHead (sym e') tt)
      others pu (Printed x ∷ h') e' = absurd (subst IsWriteHead (sym e') tt)
      others pu (Took x ∷ h') e' = absurd (subst IsWriteHead (sym e') tt)

      go : (b : Bool) → p u ≡ b → h ++ rest ≡ (if b then shared p (on_store t (put s u c)).trace else Wrote u c ∷ shared p (on_store t (put s u c)).trace) → acts (after_event (Wrote u c) (run t (Script p (if b then put q u c else q) (answers h)) [])) h ≡ head_action rest
      go true pu e' = rw pu (ih (λ x. nat_eq x u || known x) (put q u c) (put s u c) (agree_set p known q s u c agree) own normal h rest e')
      go false pu e' = others pu h e'

  hold_next : (u : ℕ) (c : Content) (t : Steps Flow) → Follower t → Follower (Hold u c t)
  hold_next u c t ih known q s agree own normal h rest e =
      subst (λ b. acts (run t (Script p (if b then put q u c else q) (answers h)) []) h ≡ head_action rest) (sym own.0)
      (ih (with_unit u known) (put q u c) (put s u c) (agree_set p known q s u c agree) own.1 normal h rest e)

  forget_next : (u : ℕ) (t : Steps Flow) → Follower t → Follower (Forget u t)
  forget_next u t ih known q s agree own normal h rest e =
      subst (λ b. acts (run t (Script p (if b then put q u (undefined (q u)) else q) (answers h)) []) h ≡ head_action rest) (sym own.0)
      (ih (without_unit u known) (put q u (undefined (q u))) (put s u (undefined (s u))) (agree_without p known q s u (undefined (q u)) (undefined (s u)) agree) own.1 normal h rest e)

  -- after any part of what the iteration does on the store, the process does what comes next
  next_is : (t : Steps Flow) → Follower t
  next_is (Done a) known q s agree own normal h rest e =
      let n = nil_parts h rest e in
      subst (λ l. scripted (Done a) p q l ≡ head_action rest) (sym n.0) (subst (λ l. action_at_end (Gave a) ≡ head_action l) (sym n.1) (ap action_at_end normal))
  next_is (Breaks b) known q s agree own normal h rest e = absurd (subst IsGave (sym normal) tt)
  next_is (Look u k) known q s agree own normal h rest e = look_next u k (λ c. next_is (k c)) known q s agree own normal h rest e
  next_is (Set u c t) known q s agree own normal h rest e = set_next u c t (next_is t) known q s agree own normal h rest e
  next_is (Hold u c t) known q s agree own normal h rest e = hold_next u c t (next_is t) known q s agree own normal h rest e
  next_is (Forget u t) known q s agree own normal h rest e = forget_next u t (next_is t) known q s agree own normal h rest e
  next_is (Show n t) known q s agree own normal h rest e = next_is t known q s agree own normal h rest e
  next_is (Take k) known q s agree own normal h rest e = absurd own
  next_is (Arrive n t) known q s agree own normal h rest e = next_is t known q s agree own normal h rest e

  -- f does what comes next of these events, after h
  abbrev Nexts : Process → List Event → List Event → Type 0
  Nexts f h t = (h' rest : List Event) → h' ++ rest ≡ t → f (h ++ h') ≡ head_action rest

  nexts_now : (f : Process) (h t : List Event) → Nexts f h t → f h ≡ head_action t
  nexts_now f h t n = ap f (sym (append-nil h)) ∙ n [] t refl

  nexts_on : (f : Process) (h t : List Event) (x : Event) → Nexts f h (x ∷ t) → Nexts f (h ++ x ∷ []) t
  nexts_on f h t x n = λ h' rest e. ap f (append_assoc h (x ∷ []) h') ∙ n (x ∷ h') rest (ap (λ l. x ∷ l) e)

  -- a iteration on the store alone its shared events
  alone : (f : Process) (t : Steps Flow) (known : ℕ → Bool) (s z : Store) → OwnFirst p t known s → ((x : ℕ) → p x ≡ false → s x ≡ z x) → (h : List Event) → Nexts f h (shared p (on_store t s).trace) → DoesAlone f h z (shared p (on_store t s).trace)
  alone f (Done a) known s z own same h next = nexts_now f h [] next
  alone f (Breaks b) known s z own same h next = nexts_now f h [] next
  alone f (Look u k) known s z own same h next = go (λ l n. alone f (k (s u)) known s z own.1 same l n) (p u) refl next
    where
      go : ((l : List Event) → Nexts f l (shared p (on_store (k (s u)) s).trace) → DoesAlone f l z (shared p (on_store (k (s u)) s).trace)) → (b : Bool) → p u ≡ b → Nexts f h (if b then shared p (on_store (k (s u)) s).trace else Read u (s u) ∷ shared p (on_store (k (s u)) s).trace) → DoesAlone f h z (if b then shared p (on_store (k (s u)) s).trace else Read u (s u) ∷ shared p (on_store (k (s u)) s).trace)
      go ih true pu n = ih h n
      go ih false pu n = (nexts_now f h _ n, same u pu, ih (h ++ Read u (s u) ∷ []) (nexts_on f h _ (Read u (s u)) n))
  alone f (Set u c t) known s z own same h next = go (λ l y e n. alone f t (with_unit u known) (put s u c) y own e l n) (p u) refl next
    where
      go : ((l : List Event) (y : Store) → ((x : ℕ) → p x ≡ false → put s u c x ≡ y x) → Nexts f l (shared p (on_store t (put s u c)).trace) → DoesAlone f l y (shared p (on_store t (put s u c)).trace)) → (b : Bool) → p u ≡ b → Nexts f h (if b then shared p (on_store t (put s u c)).trace else Wrote u c ∷ shared p (on_store t (put s u c)).trace) → DoesAlone f h z (if b then shared p (on_store t (put s u c)).trace else Wrote u c ∷ shared p (on_store t (put s u c)).trace)
      go ih true pu n = ih h z (λ x px. put_other s u c x (λ e. true≢false (sym pu ∙ ap p (sym e) ∙ px)) ∙ same x px) n
      go ih false pu n = (nexts_now f h _ n, ih (h ++ Wrote u c ∷ []) (put z u c) (λ x px. put_cong s z u c x (same x px)) (nexts_on f h _ (Wrote u c) n))
  alone f (Hold u c t) known s z own same h next = alone f t (with_unit u known) (put s u c) z own.1 (λ x px. put_other s u c x (λ e. true≢false (sym own.0 ∙ ap p (sym e) ∙ px)) ∙ same x px) h next
  alone f (Forget u t) known s z own same h next = alone f t (without_unit u known) (put s u (undefined (s u))) z own.1 (λ x px. put_other s u _ x (λ e. true≢false (sym own.0 ∙ ap p (sym e) ∙ px)) ∙ same x px) h next
  alone f (Show n t) known s z own same h next = alone f t known s z own same h next
  alone f (Take k) known s z own same h next = absurd own
  alone f (Arrive n t) known s z own same h next = alone f t known s z own same h next

  -- so a iteration of the loop, as a process, does on the shared store what it does alone
  pub iteration_alone : (t : Steps Flow) (known : ℕ → Bool) (q s z : Store) → Agree p known q s → ((x : ℕ) → p x ≡ false → s x ≡ z x) → OwnFirst p t known s → (on_store t s).answer ≡ Gave Normal → DoesAlone (scripted t p q) [] z (shared p (on_store t s).trace)
  iteration_alone t known q s z agree same own normal = alone (scripted t p q) t known s z own same [] (λ h rest e. next_is t known q s agree own normal h rest e)
