-- Units of modules and CALLs that are not active: what begins without a value in them ends without one.
use Rattle.std.proofs.Common.{◌≡◌, ◌⊎◌, inl, inr, ⊎_elim, ℕ, zero, suc, ◌+◌, ◌-◌, List, [], ◌∷◌, Option, Some, None, Bool, true, false, ◌||◌, ◌&&◌, refl, sym, ap, ◌∙◌, subst, arith, nat_eq, nat_le, nat_lt, true≢false, ℤ, ◌+ℤ◌, bytes_eq}
use Rattle.std.specs.Prelude.{not, if◌then◌else◌}
use Rattle.std.specs.List.{list_any}
use Rattle.std.proofs.lemmas.Bool.{or_left, or_right}
use Rattle.std.proofs.lemmas.Bool.Decides.{nat_tests}
use Rattle.f77_ast.specs.Trees.{ExprTree, ExprTrees, StmtTree, WhatTree, ArmTree, ArmTrees, ElseTree, LoopTree, StmtTrees}
use Rattle.f77_ast.specs.Trees as tree
use Rattle.f77_ast.specs.Store.{Tag, Int, Undefined, same_tag, Content, Store, content, put, undefined}
use Rattle.f77_ast.specs.Faults.{Fault, Locked, Shared, Input, Bounds}
use Rattle.f77_ast.specs.Steps.{OutOfTurns, Steps, ◌>>=◌}
use Rattle.f77_ast.specs.Steps as steps
use Rattle.f77_ast.specs.Numbers.{is_true, kept}
use Rattle.f77_ast.specs.Runs.{Answer, Gave, Broke, Whole, run, store_of, first_of, rest_of}
use Rattle.f77_ast.specs.Places.{Meant, Constant, Variable, Function, Names, Dim, Place, Places, scalar_place, total_size, position, within, element_in}
use Rattle.f77_ast.specs.Values.{fault, given, value, values, element_unit, unit_after, Target, to, name_target, element_target, target, all_shown}
use Rattle.f77_ast.specs.Writes.{Locks, first_lock, lock, written, write, assigned, is_value, taken, items_read}
use Rattle.f77_ast.specs.Plans.{Flow, Normal, Jump, Returned, Stopped, Plan, Ends, Breaks, Set, Show, ◌▹◌, first, on_normal, steps_of}
use Rattle.f77_ast.specs.Executions.{run_of, AtEnd, AtEndOf}
use Rattle.f77_ast.specs.Lists.{Part, is_label, has_label, from_label, go_on, in_order, with_jumps, list_plan}
use Rattle.f77_ast.specs.Loops.{Range, range_of, iteration_count, iterations_from}
use Rattle.f77_ast.specs.Calls.{Actual, stored, rest_after, name_actual, element_actual, actual, actuals, places_of, own_units, lock_own, forget_all, after_call, Meaning, Dummy, nowhere, first_place, other_places, scalars_bound, is_open, array_at, open_extent, array_place, dummy_bound, dims_read, arrays_bound, in_place, doubly_reached, lock_doubly}
use Rattle.f77_ast.specs.Statements.{Scope, statement_plan, execution, arms_plan, arm_plan, else_plan, do_plan, parts, body_plan}
use Rattle.f77_ast.specs.Programs.{Routine, scope, body_of, called, meanings}
use Rattle.f77_ast.proofs.StepLaws.{Leads, at_end_more, leads_then, first_leads, leads_true}
use Rattle.laws_interleavings.proofs.Stores.{put_other}
use Rattle.laws_interleavings.specs.Typed.{TagsStand, IsTagged, AllTagged, IsNoDummy}
use Rattle.laws_interleavings.specs.Plans.Fine.{AreFine}
use Rattle.laws_interleavings.specs.Plans.Cleared.{HasNoValue, Ending, Cleared, OffPlace, OffPlaces, Off, IsNoJump, EndsWell, MeaningCleared, IsApartFrom, AllApart, AllEnd}
use Rattle.laws_interleavings.proofs.Plans.Fine.{Yields, yields_then, yields_any, fine_after, fine_after_so, fine_given, fine_value, fine_values, fine_range_of, fine_target, fine_all_shown, fine_name_target, fine_arrays, arrays_tagged, scalars_tagged}
use Rattle.f77_ast.proofs.Shared.{steps_then}
use Rattle.fx_lists.proofs.Every.{Anything}

module _ (u : ℕ) where
  -- another unit
  abbrev pub other : ℕ → Bool
  other x = not (nat_eq x u)

  pub is_other : (x : ℕ) → nat_eq x u ≡ false → other x ≡ true
  is_other x e = ap not e

  apart : (x : ℕ) → other x ≡ true → u ≡ x → ⊥
  apart x h e = go (nat_eq x u) h same
    where
      same : nat_eq x u ≡ true
      same = grind (arith, nat_tests)

      go : (b : Bool) → not b ≡ true → b ≡ true → ⊥
      go true h q = true≢false (sym h)
      go false h q = true≢false (sym q)

  pub put_off : (s : Store) (x : ℕ) (c : Content) → other x ≡ true → HasNoValue s u → HasNoValue (put s x c) u
  put_off s x c h n = ap (λ (d : Content). d.tag) (put_other s x c u (apart x h)) ∙ n

  -- steps that touch other units alone
  pub keeps : {A : Type 0} (P : A → Type 0) (t : Steps A) → AreFine other other t → Yields P t → (s : Store) (i : List Content) → HasNoValue s u → Leads t s i (λ a z j. P a × HasNoValue z u)
  keeps P (steps.Done a) h y s i n = (y, n)
  keeps P (steps.Breaks b) h y s i n = tt
  keeps P (steps.Look x k) h y s i n = keeps P (k (s x)) (h.0 (s x)) (y (s x)) s i n
  keeps P (steps.Set x c t) h y s i n = keeps P t h.1 y (put s x c) i (put_off s x c h.0 n)
  keeps P (steps.Hold x c t) h y s i n = keeps P t h.1 y (put s x c) i (put_off s x c h.0 n)
  keeps P (steps.Forget x t) h y s i n = keeps P t h.1 y (put s x (undefined (s x))) i (put_off s x (undefined (s x)) h.0 n)
  keeps P (steps.Show xs t) h y s i n = keeps P t h y s i n
  keeps P (steps.Take k) h y s i n = keeps P (k (first_of i)) (h (first_of i)) (y (first_of i)) s (rest_of i) n
  keeps P (steps.Arrive p t) h y s i n = keeps P t h y s i n

  -- ---- plans one after the other

  -- goes on with this after such an end
  abbrev Goes : Flow → Plan → Type 0
  Goes Normal t = Cleared u t
  Goes (Jump l) t = Cleared u t
  Goes Returned t = Cleared u t
  Goes Stopped t = (s : Store) (i : List Content) → AtEndOf (run_of t s i) (Ending u)

  goes : (f : Flow) (t : Plan) → Goes f t → (s : Store) (i : List Content) → Ending u f s i → AtEndOf (run_of t s i) (Ending u)
  goes Normal t g s i e = g s i e
  goes (Jump l) t g s i e = g s i e
  goes Returned t g s i e = g s i e
  goes Stopped t g s i e = g s i

  cleared_then : (t : Plan) (k : Flow → Plan) → Cleared u t → ((f : Flow) → Goes f (k f)) → Cleared u (t ▹ k)
  cleared_then t k c g s i n =
      let q = run (steps_of t) (Whole s) i in
      subst (λ p. AtEndOf (run p (Whole s) i) (Ending u)) (sym (steps_then t k))
      (leads_then (steps_of t) (λ f. steps_of (k f)) s i (Ending u)
      (at_end_more q.answer (store_of q.memory) q.input (Ending u) (λ f z j. AtEndOf (run_of (k f) z j) (Ending u)) (λ f z j e. goes f (k f) (g f) z j e) (c s i n)))

  cleared_first : {A : Type 0} (P : A → Type 0) (t : Steps A) (f : A → Plan) → AreFine other other t → Yields P t → ((a : A) → P a → Cleared u (f a)) → Cleared u (first t f)
  cleared_first P t f h y c s i n =
      let q = run t (Whole s) i in
      first_leads t f s i (Ending u) (at_end_more q.answer (store_of q.memory) q.input (λ a z j. P a × HasNoValue z u) (λ a z j. AtEndOf (run_of (f a) z j) (Ending u)) (λ a z j e. c a e.0 z j e.1) (keeps P t h y s i n))

  cleared_within : (t : Plan) (k : Flow → Plan) → Cleared u t → ((f : Flow) → Goes f (k f)) → (s : Store) (i : List Content) → HasNoValue s u → Leads (steps_of t >>= λ f. steps_of (k f)) s i (Ending u)
  cleared_within t k c g s i n =
      let q = run (steps_of t) (Whole s) i in
      leads_then (steps_of t) (λ f. steps_of (k f)) s i (Ending u)
      (at_end_more q.answer (store_of q.memory) q.input (Ending u) (λ f z j. AtEndOf (run_of (k f) z j) (Ending u)) (λ f z j e. goes f (k f) (g f) z j e) (c s i n))

  ends : (f : Flow) → Goes f (Ends f)
  ends Normal = λ s i n. n
  ends (Jump l) = λ s i n. n
  ends Returned = λ s i n. n
  ends Stopped = λ s i. tt

  cleared_if : (b : Bool) (t z : Plan) → Cleared u t → Cleared u z → Cleared u (if b then t else z)
  cleared_if true t z h g = h
  cleared_if false t z h g = g

  -- ---- lists

  abbrev PartsCleared : List Part → Type 0
  PartsCleared [] = Unit {0}
  PartsCleared (q ∷ qs) = Cleared u q.does × PartsCleared qs

  cleared_from : (l : ℕ) (qs : List Part) → PartsCleared qs → PartsCleared (from_label l qs)
  cleared_from l [] h = tt
  cleared_from l (q ∷ qs) h = go (is_label l q.label) (cleared_from l qs h.1)
    where
      go : (b : Bool) → PartsCleared (from_label l qs) → PartsCleared (if b then q ∷ qs else from_label l qs)
      go true ih = h
      go false ih = ih

  go_on_goes : (jump : ℕ → Plan) (all : List Part) (rest : Plan) → ((l : ℕ) → Cleared u (jump l)) → Cleared u rest → (f : Flow) → Goes f (go_on jump all rest f)
  go_on_goes jump all rest j h Normal = h
  go_on_goes jump all rest j h (Jump l) = cleared_if (has_label l all) (jump l) (Ends (Jump l)) (j l) (λ s i n. n)
  go_on_goes jump all rest j h Returned = λ s i n. n
  go_on_goes jump all rest j h Stopped = λ s i. tt

  cleared_order : (jump : ℕ → Plan) (all qs : List Part) → ((l : ℕ) → Cleared u (jump l)) → PartsCleared qs → Cleared u (in_order jump all qs)
  cleared_order jump all [] j h = λ s i n. n
  cleared_order jump all (q ∷ qs) j h = cleared_then q.does (go_on jump all (in_order jump all qs)) h.0 (go_on_goes jump all (in_order jump all qs) j (cleared_order jump all qs j h.1))

  cleared_jumps : (n : ℕ) (all qs : List Part) → PartsCleared all → PartsCleared qs → Cleared u (with_jumps n all qs)
  cleared_jumps zero all qs a h = cleared_order (λ l. Breaks OutOfTurns) all qs (λ l s i n. tt) h
  cleared_jumps (suc n) all qs a h = cleared_order (λ l. with_jumps n all (from_label l all)) all qs (λ l. cleared_jumps n all (from_label l all) a (cleared_from l all a)) h

  cleared_list : (turns : ℕ) (qs : List Part) → PartsCleared qs → Cleared u (list_plan turns qs)
  cleared_list turns qs h = cleared_jumps turns qs qs h h

  cleared_set : (x : ℕ) (c : Content) (t : Plan) → other x ≡ true → Cleared u t → Cleared u (Set x c t)
  cleared_set x c t o h s i n = h (put s x c) i (put_off s x c o n)

  normal_goes : (f : Flow) (t : Plan) → Cleared u t → Goes f (on_normal f t)
  normal_goes Normal t h = h
  normal_goes (Jump l) t h = λ s i n. n
  normal_goes Returned t h = λ s i n. n
  normal_goes Stopped t h = λ s i. tt

  cleared_iterations : (k : ℕ) (n step : ℤ) (x : ℕ) (body : Plan) → other x ≡ true → Cleared u body → Cleared u (iterations_from k n step x body)
  cleared_iterations zero n step x body o h = λ s i n. n
  cleared_iterations (suc k) n step x body o h =
      cleared_then body (λ f. on_normal f (first (given Int (kept (n +ℤ step))) (λ c. Set x c (iterations_from k c.number step x body)))) h
      (λ f. normal_goes f (first (given Int (kept (n +ℤ step))) (λ c. Set x c (iterations_from k c.number step x body)))
      (cleared_first Anything (given Int (kept (n +ℤ step))) (λ c. Set x c (iterations_from k c.number step x body)) (fine_given other other Int (kept (n +ℤ step))) (yields_any (given Int (kept (n +ℤ step)))) (λ c a. cleared_set x c (iterations_from k c.number step x body) o (cleared_iterations k c.number step x body o h))))

  -- ---- targets

  -- what is written is another unit, or is locked
  abbrev pub Aims : Locks → Target → Type 0
  Aims locked t = locked t.unit ≡ None → other t.unit ≡ true

  same_unit : (x : ℕ) → nat_eq x u ≡ true → x ≡ u
  same_unit x e = grind (arith, nat_tests)

  -- a unit of which it is known that it is another where the unit u is not locked
  aims : (locked : Locks) (x : ℕ) → (locked u ≡ None → nat_eq x u ≡ false) → locked x ≡ None → other x ≡ true
  aims locked x h e = go (nat_eq x u) refl
    where
      go : (b : Bool) → nat_eq x u ≡ b → other x ≡ true
      go true q = absurd (true≢false (sym q ∙ h (subst (λ y. locked y ≡ None) (same_unit x q) e)))
      go false q = ap not q

  write_off : (locked : Locks) (x : ℕ) (c : Content) → (locked x ≡ None → other x ≡ true) → AreFine other other (write locked x c)
  write_off locked x c h = go (locked x) refl
    where
      go : (o : Option Fault) → locked x ≡ o → AreFine other other (written o x c)
      go None e = (h e, tt)
      go (Some f) e = tt

  in_range : (p : Place) (k : ℕ) → nat_lt k p.extent ≡ true → in_place p (p.first + k) ≡ true
  in_range p k h = grind (arith, nat_tests)

  -- an element's unit is one of the place
  element_off : (locked : Locks) (p : Place) (ns : List ℤ) → OffPlace u locked p → Yields (λ x. locked u ≡ None → nat_eq x u ≡ false) (element_unit p ns)
  element_off locked p ns off = go (position p.dims ns)
    where
      unless : (k : ℕ) → nat_lt k p.extent ≡ true → locked u ≡ None → nat_eq (p.first + k) u ≡ false
      unless k h e = fin (nat_eq (p.first + k) u) refl
        where
          fin : (b : Bool) → nat_eq (p.first + k) u ≡ b → b ≡ false
          fin true q = absurd (true≢false (sym (in_range p k h) ∙ ap (in_place p) (same_unit (p.first + k) q) ∙ (off e).0))
          fin false q = refl

      inside : (k : ℕ) (b : Bool) → nat_lt k p.extent ≡ b → Yields (λ x. locked u ≡ None → nat_eq x u ≡ false) (unit_after p.first (if b then Some k else None))
      inside k true h = unless k h
      inside k false h = tt

      go : (o : Option ℕ) → Yields (λ x. locked u ≡ None → nat_eq x u ≡ false) (unit_after p.first (within p o))
      go None = tt
      go (Some k) = inside k (nat_lt k p.extent) refl

  pub name_aims : (locked : Locks) (m : Meant) (at : Places) → ((v : ℕ) → m ≡ Variable v → OffPlace u locked (at v)) → Yields (Aims locked) (name_target m at)
  name_aims locked (Constant c) at off = tt
  name_aims locked (Variable v) at off = aims locked (at v).first (λ e. (off v refl e).1)
  name_aims locked Function at off = tt

  element_aims : (locked : Locks) (m : Meant) (at : Places) (ns : List ℤ) → ((v : ℕ) → m ≡ Variable v → OffPlace u locked (at v)) → Yields (Aims locked) (element_target m at ns)
  element_aims locked (Constant c) at ns off = tt
  element_aims locked (Variable v) at ns off =
      yields_then (λ x. locked u ≡ None → nat_eq x u ≡ false) (Aims locked) (element_unit (at v) ns) (λ x. steps.Done (to x (at v).tag)) (element_off locked (at v) ns (off v refl)) (λ x h. aims locked x h)
  element_aims locked Function at ns off = tt

  target_aims : (locked : Locks) (e : ExprTree) (w : Names) (at : Places) → Off u locked w at → Yields (Aims locked) (target e w at)
  target_aims locked (tree.int n) w at off = tt
  target_aims locked (tree.log b) w at off = tt
  target_aims locked (tree.name x) w at off = name_aims locked (w x) at (off x)
  target_aims locked (tree.element x es) w at off = yields_then Anything (Aims locked) (values es w at) (element_target (w x) at) (yields_any (values es w at)) (λ ns n. element_aims locked (w x) at ns (off x))
  target_aims locked (tree.paren e) w at off = tt
  target_aims locked (tree.unary o e) w at off = tt
  target_aims locked (tree.binary o a b) w at off = tt
  target_aims locked (tree.chars x) w at off = tt

  pub assigned_off : (a b : ExprTree) (w : Names) (at : Places) (locked : Locks) → TagsStand w at → Off u locked w at → AreFine other other (assigned a b w at locked)
  assigned_off a b w at locked ok off =
      fine_after other other (value b w at) (λ c. target a w at >>= λ t. write locked t.unit (content t.tag c.number)) (fine_value other other b w at ok)
      (λ c. fine_after_so other other (Aims locked) (target a w at) (λ t. write locked t.unit (content t.tag c.number)) (fine_target other other a w at ok) (target_aims locked a w at off) (λ t h. write_off locked t.unit (content t.tag c.number) h))

  taken_off : (locked : Locks) (t : Target) (o : Option Content) → Aims locked t → AreFine other other (taken locked t o)
  taken_off locked t None h = tt
  taken_off locked t (Some c) h = go (same_tag t.tag c.tag && is_value t.tag c.number)
    where
      go : (b : Bool) → AreFine other other (if b then write locked t.unit c else fault Input)
      go true = write_off locked t.unit c h
      go false = tt

  pub items_off : (es : ExprTrees) (w : Names) (at : Places) (locked : Locks) → TagsStand w at → Off u locked w at → AreFine other other (items_read es w at locked)
  items_off tree.no_exprs w at locked ok off = tt
  items_off (tree.more_exprs e es) w at locked ok off =
      fine_after_so other other (Aims locked) (target e w at) (λ t. steps.Take (taken locked t) >>= λ o. items_read es w at locked) (fine_target other other e w at ok) (target_aims locked e w at off)
      (λ t h. λ o. fine_after other other (taken locked t o) (λ n. items_read es w at locked) (taken_off locked t o h) (λ n. items_off es w at locked ok off))

  -- ---- locks

  pub lock_none : (locked : Locks) (x y : ℕ) (f : Fault) → lock locked x f y ≡ None → locked y ≡ None
  lock_none locked x y f e = go (nat_eq y x) (locked y) e
    where
      go : (b : Bool) (o : Option Fault) → (if b then first_lock o f else o) ≡ None → o ≡ None
      go true None q = refl
      go true (Some g) q = absurd (some_none g q)
        where
          some_none : (g : Fault) → Some g ≡ None → ⊥
          some_none g q = cc
      go false o q = q

  place_more : (l m : Locks) (p : Place) → (m u ≡ None → l u ≡ None) → OffPlace u l p → OffPlace u m p
  place_more l m p h off e = off (h e)

  pub off_more : (l m : Locks) (w : Names) (at : Places) → (m u ≡ None → l u ≡ None) → Off u l w at → Off u m w at
  off_more l m w at h off x v e = place_more l m (at v) h (off x v e)

  pub own_none : (locked : Locks) (us : List ℕ) → lock_own locked us u ≡ None → locked u ≡ None
  own_none locked [] e = e
  own_none locked (x ∷ us) e = lock_none locked x u Locked (own_none (lock locked x Locked) us e)

  pub doubly_none : (locked : Locks) (ds : List Dummy) (at : Places) (common : ℕ → Bool) → lock_doubly locked ds at common u ≡ None → locked u ≡ None
  doubly_none locked ds at common e = go (doubly_reached ds at common u) (locked u) e
    where
      go : (b : Bool) (o : Option Fault) → (if b then first_lock o Shared else o) ≡ None → o ≡ None
      go true None q = refl
      go true (Some g) q = absurd (some_none g q)
        where
          some_none : (g : Fault) → Some g ≡ None → ⊥
          some_none g q = cc
      go false o q = q

  -- ---- actual arguments

  abbrev pub held : List ℕ → Bool
  held us = list_any (λ x. nat_eq x u) us

  -- a unit that is locked so stays locked
  stays_locked : (locked : Locks) (us : List ℕ) (f : Fault) → locked u ≡ Some f → lock_own locked us u ≡ None → ⊥
  stays_locked locked us f e q = some_none (sym e ∙ own_none locked us q)
    where
      some_none : Some f ≡ None → ⊥
      some_none q = cc

  flip : (x : ℕ) → nat_eq x u ≡ true → nat_eq u x ≡ true
  flip x q = grind (arith, nat_tests)

  now_locked : (o : Option Fault) → first_lock o Locked ≡ None → ⊥
  now_locked None q = cc
  now_locked (Some f) q = cc

  pub held_locked : (locked : Locks) (us : List ℕ) → held us ≡ true → lock_own locked us u ≡ None → ⊥
  held_locked locked [] h e = true≢false (sym h)
  held_locked locked (x ∷ us) h e = go (λ r. held_locked (lock locked x Locked) us r e) (nat_eq x u) refl h
    where
      go : (held us ≡ true → ⊥) → (b : Bool) → nat_eq x u ≡ b → (b || held us) ≡ true → ⊥
      go ih true q r = now_locked (locked u) (subst (λ b. (if b then first_lock (locked u) Locked else locked u) ≡ None) (flip x q) (own_none (lock locked x Locked) us e))
      go ih false q r = ih r

  in_scalar : (x : ℕ) (t : Tag) → in_place (scalar_place x t) u ≡ true → nat_eq x u ≡ true
  in_scalar x t h = grind (arith, nat_tests)

  scalar_off : (locked : Locks) (p : Place) (t : Tag) → OffPlace u locked p → OffPlace u locked (scalar_place p.first t)
  scalar_off locked p t off e = (go (in_place (scalar_place p.first t) u) refl, (off e).1)
    where
      go : (b : Bool) → in_place (scalar_place p.first t) u ≡ b → b ≡ false
      go true q = absurd (true≢false (sym (in_scalar p.first t q) ∙ (off e).1))
      go false q = refl

  -- an actual has a unit of its own, or is off
  abbrev pub OffOr : Locks → Bool → Place → Type 0
  OffOr locked true p = in_place p u ≡ true → nat_eq p.first u ≡ true
  OffOr locked false p = OffPlace u locked p

  abbrev pub ActualOff : Locks → Actual → Type 0
  ActualOff locked x = OffOr locked x.own x.place

  abbrev pub ActualsOff : Locks → List Actual → Type 0
  ActualsOff locked [] = Unit {0}
  ActualsOff locked (x ∷ xs) = ActualOff locked x × ActualsOff locked xs

  stored_off : (locked : Locks) (x : ℕ) (c : Content) → Yields (ActualOff locked) (stored x c)
  stored_off locked x c = λ h. in_scalar x c.tag h

  in_rest : (p : Place) (k : ℕ) → nat_lt k p.extent ≡ true → nat_le (p.first + k) u && nat_lt u ((p.first + k) + (p.extent - k)) ≡ true → in_place p u ≡ true
  in_rest p k h e = grind (arith, nat_tests)

  rest_off : (locked : Locks) (p : Place) (ns : List ℤ) → OffPlace u locked p → Yields (ActualOff locked) (rest_after p (element_in p ns))
  rest_off locked p ns off = go (position p.dims ns)
    where
      within_off : (k : ℕ) → nat_lt k p.extent ≡ true → OffPlace u locked (record { first = p.first + k; extent = p.extent - k; tag = p.tag; dims = [] })
      within_off k h e = (fin (nat_le (p.first + k) u && nat_lt u ((p.first + k) + (p.extent - k))) refl, head (nat_eq (p.first + k) u) refl)
        where
          fin : (b : Bool) → (nat_le (p.first + k) u && nat_lt u ((p.first + k) + (p.extent - k))) ≡ b → b ≡ false
          fin true q = absurd (true≢false (sym (in_rest p k h q) ∙ (off e).0))
          fin false q = refl

          head : (b : Bool) → nat_eq (p.first + k) u ≡ b → b ≡ false
          head true q = absurd (true≢false (sym (in_range p k h) ∙ ap (in_place p) (same_unit (p.first + k) q) ∙ (off e).0))
          head false q = refl

      inside : (k : ℕ) (b : Bool) → nat_lt k p.extent ≡ b → Yields (ActualOff locked) (rest_after p (if b then Some k else None))
      inside k true h = within_off k h
      inside k false h = tt

      go : (o : Option ℕ) → Yields (ActualOff locked) (rest_after p (within p o))
      go None = tt
      go (Some k) = inside k (nat_lt k p.extent) refl

  value_stored_off : (locked : Locks) (e : ExprTree) (w : Names) (at : Places) (x : ℕ) → Yields (ActualOff locked) (value e w at >>= stored x)
  value_stored_off locked e w at x = yields_then Anything (ActualOff locked) (value e w at) (stored x) (yields_any (value e w at)) (λ c n. stored_off locked x c)

  name_off : (locked : Locks) (m : Meant) (at : Places) (x : ℕ) → ((v : ℕ) → m ≡ Variable v → OffPlace u locked (at v)) → Yields (ActualOff locked) (name_actual m at x)
  name_off locked (Constant c) at x off = stored_off locked x c
  name_off locked (Variable v) at x off = off v refl
  name_off locked Function at x off = tt

  element_actual_off : (locked : Locks) (m : Meant) (e : ExprTree) (es : ExprTrees) (w : Names) (at : Places) (x : ℕ) → ((v : ℕ) → m ≡ Variable v → OffPlace u locked (at v)) → Yields (ActualOff locked) (element_actual m e es w at x)
  element_actual_off locked (Constant c) e es w at x off = tt
  element_actual_off locked (Variable v) e es w at x off = yields_then Anything (ActualOff locked) (values es w at) (λ ns. rest_after (at v) (element_in (at v) ns)) (yields_any (values es w at)) (λ ns n. rest_off locked (at v) ns (off v refl))
  element_actual_off locked Function e es w at x off = value_stored_off locked e w at x

  actual_off : (locked : Locks) (e : ExprTree) (w : Names) (at : Places) (x : ℕ) → Off u locked w at → Yields (ActualOff locked) (actual e w at x)
  actual_off locked (tree.name y) w at x off = name_off locked (w y) at x (off y)
  actual_off locked (tree.element y es) w at x off = element_actual_off locked (w y) (tree.element y es) es w at x (off y)
  actual_off locked (tree.int n) w at x off = value_stored_off locked (tree.int n) w at x
  actual_off locked (tree.log b) w at x off = value_stored_off locked (tree.log b) w at x
  actual_off locked (tree.paren e) w at x off = value_stored_off locked (tree.paren e) w at x
  actual_off locked (tree.unary o e) w at x off = value_stored_off locked (tree.unary o e) w at x
  actual_off locked (tree.binary o a b) w at x off = value_stored_off locked (tree.binary o a b) w at x
  actual_off locked (tree.chars y) w at x off = tt

  pub actuals_off : (locked : Locks) (es : ExprTrees) (k : ℕ) (w : Names) (at : Places) (units : ℕ → ℕ) → Off u locked w at → Yields (ActualsOff locked) (actuals es k w at units)
  actuals_off locked tree.no_exprs k w at units off = tt
  actuals_off locked (tree.more_exprs e es) k w at units off =
      yields_then (ActualOff locked) (ActualsOff locked) (actual e w at (units k)) (λ x. actuals es (suc k) w at units >>= λ xs. steps.Done (x ∷ xs)) (actual_off locked e w at (units k) off)
      (λ x ox. yields_then (ActualsOff locked) (ActualsOff locked) (actuals es (suc k) w at units) (λ xs. steps.Done (x ∷ xs)) (actuals_off locked es (suc k) w at units off) (λ xs oxs. (ox, oxs)))

  -- the places that they offer, where those of their own are locked
  pub places_off : (locked l : Locks) → (l u ≡ None → locked u ≡ None) → (xs : List Actual) → (held (own_units xs) ≡ true → l u ≡ None → ⊥) → ActualsOff locked xs → OffPlaces u l (places_of xs)
  places_off locked l more [] h a = tt
  places_off locked l more (x ∷ xs) h a = (here x.own refl, places_off locked l more xs (λ r. h (later x.own r)) a.1)
    where
      later : (b : Bool) → held (own_units xs) ≡ true → held (if b then x.place.first ∷ own_units xs else own_units xs) ≡ true
      later true r = or_right (nat_eq x.place.first u) (held (own_units xs)) r
      later false r = r

      own_off : x.own ≡ true → l u ≡ None → (in_place x.place u ≡ false) × (nat_eq x.place.first u ≡ false)
      own_off e n = (inner (in_place x.place u) refl, first_off)
        where
          first_off : nat_eq x.place.first u ≡ false
          first_off = fin (nat_eq x.place.first u) refl
            where
              fin : (b : Bool) → nat_eq x.place.first u ≡ b → b ≡ false
              fin true q = absurd (h (ap (λ b. held (if b then x.place.first ∷ own_units xs else own_units xs)) e ∙ or_left (nat_eq x.place.first u) (held (own_units xs)) q) n)
              fin false q = refl

          inner : (b : Bool) → in_place x.place u ≡ b → b ≡ false
          inner true q = absurd (true≢false (sym (subst (λ b. OffOr locked b x.place) e a.0 q) ∙ first_off))
          inner false q = refl

      here : (b : Bool) → x.own ≡ b → OffPlace u l x.place
      here true e n = own_off e n
      here false e n = subst (λ b. OffOr locked b x.place) e a.0 (more n)

  -- ---- their units

  abbrev HeldOr : List Actual → Store → Type 0
  HeldOr xs z = (held (own_units xs) ≡ true) ⊎ HasNoValue z u

  held_first : (x : Actual) (xs : List Actual) → held (own_units (x ∷ [])) ≡ true → held (own_units (x ∷ xs)) ≡ true
  held_first x xs h = go x.own h
    where
      go : (b : Bool) → held (if b then x.place.first ∷ [] else []) ≡ true → held (if b then x.place.first ∷ own_units xs else own_units xs) ≡ true
      go true h = or_left (nat_eq x.place.first u) (held (own_units xs)) (fin (nat_eq x.place.first u) h)
        where
          fin : (c : Bool) → (c || false) ≡ true → c ≡ true
          fin true h = refl
          fin false h = h
      go false h = absurd (true≢false (sym h))

  held_later : (x : Actual) (xs : List Actual) → held (own_units xs) ≡ true → held (own_units (x ∷ xs)) ≡ true
  held_later x xs h = go x.own
    where
      go : (b : Bool) → held (if b then x.place.first ∷ own_units xs else own_units xs) ≡ true
      go true = or_right (nat_eq x.place.first u) (held (own_units xs)) h
      go false = h

  stored_held : (x : ℕ) (c : Content) (s : Store) (i : List Content) → HasNoValue s u → Leads (stored x c) s i (λ a z j. HeldOr (a ∷ []) z)
  stored_held x c s i n = go (nat_eq x u) refl
    where
      go : (b : Bool) → nat_eq x u ≡ b → ((nat_eq x u || false) ≡ true) ⊎ HasNoValue (put s x c) u
      go true e = inl (ap (λ b. b || false) e)
      go false e = inr (put_off s x c (is_other x e) n)

  value_held : (e : ExprTree) (w : Names) (at : Places) (x : ℕ) → TagsStand w at → (s : Store) (i : List Content) → HasNoValue s u → Leads (value e w at >>= stored x) s i (λ a z j. HeldOr (a ∷ []) z)
  value_held e w at x ok s i n =
      let q = run (value e w at) (Whole s) i in
      leads_then (value e w at) (stored x) s i (λ a z j. HeldOr (a ∷ []) z)
      (at_end_more q.answer (store_of q.memory) q.input (λ c z j. Unit {0} × HasNoValue z u) (λ c z j. Leads (stored x c) z j (λ a y l. HeldOr (a ∷ []) y)) (λ c z j h. stored_held x c z j h.1) (keeps Anything (value e w at) (fine_value other other e w at ok) (yields_any (value e w at)) s i n))

  rest_held : (p : Place) (o : Option ℕ) (s : Store) (i : List Content) → HasNoValue s u → Leads (rest_after p o) s i (λ a z j. HeldOr (a ∷ []) z)
  rest_held p None s i n = tt
  rest_held p (Some k) s i n = inr n

  name_held : (m : Meant) (at : Places) (x : ℕ) (s : Store) (i : List Content) → HasNoValue s u → Leads (name_actual m at x) s i (λ a z j. HeldOr (a ∷ []) z)
  name_held (Constant c) at x s i n = stored_held x c s i n
  name_held (Variable v) at x s i n = inr n
  name_held Function at x s i n = tt

  element_held : (m : Meant) (e : ExprTree) (es : ExprTrees) (w : Names) (at : Places) (x : ℕ) → TagsStand w at → (s : Store) (i : List Content) → HasNoValue s u → Leads (element_actual m e es w at x) s i (λ a z j. HeldOr (a ∷ []) z)
  element_held (Constant c) e es w at x ok s i n = tt
  element_held (Variable v) e es w at x ok s i n =
      let q = run (values es w at) (Whole s) i in
      leads_then (values es w at) (λ ns. rest_after (at v) (element_in (at v) ns)) s i (λ a z j. HeldOr (a ∷ []) z)
      (at_end_more q.answer (store_of q.memory) q.input (λ c z j. Unit {0} × HasNoValue z u) (λ ns z j. Leads (rest_after (at v) (element_in (at v) ns)) z j (λ a y l. HeldOr (a ∷ []) y)) (λ ns z j h. rest_held (at v) (element_in (at v) ns) z j h.1) (keeps Anything (values es w at) (fine_values other other es w at ok) (yields_any (values es w at)) s i n))
  element_held Function e es w at x ok s i n = value_held e w at x ok s i n

  actual_held : (e : ExprTree) (w : Names) (at : Places) (x : ℕ) → TagsStand w at → (s : Store) (i : List Content) → HasNoValue s u → Leads (actual e w at x) s i (λ a z j. HeldOr (a ∷ []) z)
  actual_held (tree.name y) w at x ok s i n = name_held (w y) at x s i n
  actual_held (tree.element y es) w at x ok s i n = element_held (w y) (tree.element y es) es w at x ok s i n
  actual_held (tree.int m) w at x ok s i n = value_held (tree.int m) w at x ok s i n
  actual_held (tree.log b) w at x ok s i n = value_held (tree.log b) w at x ok s i n
  actual_held (tree.paren e) w at x ok s i n = value_held (tree.paren e) w at x ok s i n
  actual_held (tree.unary o e) w at x ok s i n = value_held (tree.unary o e) w at x ok s i n
  actual_held (tree.binary o a b) w at x ok s i n = value_held (tree.binary o a b) w at x ok s i n
  actual_held (tree.chars y) w at x ok s i n = tt

  actuals_held : (es : ExprTrees) (k : ℕ) (w : Names) (at : Places) (units : ℕ → ℕ) → TagsStand w at → (s : Store) (i : List Content) → HasNoValue s u → Leads (actuals es k w at units) s i (λ xs z j. HeldOr xs z)
  actuals_held tree.no_exprs k w at units ok s i n = inr n
  actuals_held (tree.more_exprs e es) k w at units ok s i n =
      let q = run (actual e w at (units k)) (Whole s) i in
      let rest = actuals es (suc k) w at units in
      leads_then (actual e w at (units k)) (λ x. rest >>= λ xs. steps.Done (x ∷ xs)) s i (λ xs z j. HeldOr xs z)
      (at_end_more q.answer (store_of q.memory) q.input (λ x z j. HeldOr (x ∷ []) z) (λ x z j. Leads (rest >>= λ xs. steps.Done (x ∷ xs)) z j (λ xs y l. HeldOr xs y))
      (λ x z j h. ⊎_elim
      (λ r. all_then rest (λ xs. x ∷ xs) z j (λ xs y l. inl (held_first x xs r)))
      (λ r. let p = run rest (Whole z) j in leads_then rest (λ xs. steps.Done (x ∷ xs)) z j (λ xs y l. HeldOr xs y)
      (at_end_more p.answer (store_of p.memory) p.input (λ xs y l. HeldOr xs y) (λ xs y l. HeldOr (x ∷ xs) y) (λ xs y l g. ⊎_elim (λ a. inl (held_later x xs a)) (λ a. inr a) g) (actuals_held es (suc k) w at units ok z j r)))
      h)
      (actual_held e w at (units k) ok s i n))
    where
      all_then : (t : Steps (List Actual)) (f : List Actual → List Actual) (z : Store) (j : List Content) → ((xs : List Actual) (y : Store) (l : List Content) → HeldOr (f xs) y) → Leads (t >>= λ xs. steps.Done (f xs)) z j (λ xs y l. HeldOr xs y)
      all_then t f z j h =
          let p = run t (Whole z) j in
          leads_then t (λ xs. steps.Done (f xs)) z j (λ xs y l. HeldOr xs y) (at_end_more p.answer (store_of p.memory) p.input (λ xs y l. Unit {0}) (λ xs y l. HeldOr (f xs) y) (λ xs y l g. h xs y l) (leads_true t z j))

  both : {A : Type 0} (a : Answer A) (s : Store) (i : List Content) (P Q : A → Store → List Content → Type 0) → AtEnd a s i P → AtEnd a s i Q → AtEnd a s i (λ x z j. P x z j × Q x z j)
  both (Gave a) s i P Q h g = (h, g)
  both (Broke b) s i P Q h g = tt

  yields_leads : {A : Type 0} (P : A → Type 0) (t : Steps A) → Yields P t → (s : Store) (i : List Content) → Leads t s i (λ a z j. P a)
  yields_leads P (steps.Done a) y s i = y
  yields_leads P (steps.Breaks b) y s i = tt
  yields_leads P (steps.Look x k) y s i = yields_leads P (k (s x)) (y (s x)) s i
  yields_leads P (steps.Set x c t) y s i = yields_leads P t y (put s x c) i
  yields_leads P (steps.Hold x c t) y s i = yields_leads P t y (put s x c) i
  yields_leads P (steps.Forget x t) y s i = yields_leads P t y (put s x (undefined (s x))) i
  yields_leads P (steps.Show xs t) y s i = yields_leads P t y s i
  yields_leads P (steps.Take k) y s i = yields_leads P (k (first_of i)) (y (first_of i)) s (rest_of i)
  yields_leads P (steps.Arrive p t) y s i = yields_leads P t y s i

  -- ---- what is forgotten

  pub forgotten : (s : Store) (x : ℕ) → HasNoValue s u → HasNoValue (put s x (undefined (s x))) u
  forgotten s x n = go (nat_eq u x)
    where
      go : (b : Bool) → (if b then undefined (s x) else s u).tag ≡ Undefined
      go true = refl
      go false = n

  cleared_forget : (us : List ℕ) → Cleared u (forget_all us (Ends Normal))
  cleared_forget [] s i n = n
  cleared_forget (x ∷ us) s i n = cleared_forget us (put s x (undefined (s x))) i (forgotten s x n)

  forget_held : (us : List ℕ) → held us ≡ true → (s : Store) (i : List Content) → AtEndOf (run_of (forget_all us (Ends Normal)) s i) (Ending u)
  forget_held [] h s i = absurd (true≢false (sym h))
  forget_held (x ∷ us) h s i = go (forget_held us) (nat_eq x u) refl h
    where
      now : nat_eq x u ≡ true → HasNoValue (put s x (undefined (s x))) u
      now q = ap (λ b. (if b then undefined (s x) else s u).tag) (flip x q)

      go : (held us ≡ true → (z : Store) (j : List Content) → AtEndOf (run_of (forget_all us (Ends Normal)) z j) (Ending u)) → (b : Bool) → nat_eq x u ≡ b → (b || held us) ≡ true → AtEndOf (run_of (forget_all us (Ends Normal)) (put s x (undefined (s x))) i) (Ending u)
      go ih true q r = cleared_forget us (put s x (undefined (s x))) i (now q)
      go ih false q r = ih r (put s x (undefined (s x))) i

  call_goes : (us : List ℕ) (f : Flow) → Goes f (after_call us f)
  call_goes us Normal = cleared_forget us
  call_goes us Returned = cleared_forget us
  call_goes us Stopped = λ s i. tt
  call_goes us (Jump l) = λ s i n. n

  -- after a CALL that does not end by a GO TO
  held_goes : (us : List ℕ) → held us ≡ true → (f : Flow) → IsNoJump f → (s : Store) (i : List Content) → AtEndOf (run_of (after_call us f) s i) (Ending u)
  held_goes us h Normal n s i = forget_held us h s i
  held_goes us h Returned n s i = forget_held us h s i
  held_goes us h Stopped n s i = tt
  held_goes us h (Jump l) n s i = absurd n

  cleared_call : (m : Meaning) (locked : Locks) (es : ExprTrees) (w : Names) (at : Places) (units : ℕ → ℕ) → TagsStand w at → Off u locked w at → MeaningCleared u m → EndsWell m →
      Cleared u (first (actuals es 0 w at units) (λ xs. m (places_of xs) (lock_own locked (own_units xs)) ▹ after_call (own_units xs)))
  cleared_call m locked es w at units ok off clear well s i n =
      let t = actuals es 0 w at units in
      let q = run t (Whole s) i in
      first_leads t (λ xs. m (places_of xs) (lock_own locked (own_units xs)) ▹ after_call (own_units xs)) s i (Ending u)
      (at_end_more q.answer (store_of q.memory) q.input (λ xs z j. ActualsOff locked xs × HeldOr xs z) (λ xs z j. AtEndOf (run_of (m (places_of xs) (lock_own locked (own_units xs)) ▹ after_call (own_units xs)) z j) (Ending u))
      (λ xs z j h. ⊎_elim (on_held xs z j) (on_kept xs z j h.0) h.1)
      (both q.answer (store_of q.memory) q.input (λ xs z j. ActualsOff locked xs) (λ xs z j. HeldOr xs z) (yields_leads (ActualsOff locked) t (actuals_off locked es 0 w at units off) s i) (actuals_held es 0 w at units ok s i n)))
    where
      on_held : (xs : List Actual) (z : Store) (j : List Content) → held (own_units xs) ≡ true → AtEndOf (run_of (m (places_of xs) (lock_own locked (own_units xs)) ▹ after_call (own_units xs)) z j) (Ending u)
      on_held xs z j h =
          let c = m (places_of xs) (lock_own locked (own_units xs)) in
          let p = run (steps_of c) (Whole z) j in
          subst (λ y. AtEndOf (run y (Whole z) j) (Ending u)) (sym (steps_then c (after_call (own_units xs))))
          (leads_then (steps_of c) (λ f. steps_of (after_call (own_units xs) f)) z j (Ending u)
          (at_end_more p.answer (store_of p.memory) p.input (λ f y l. IsNoJump f) (λ f y l. AtEndOf (run_of (after_call (own_units xs) f) y l) (Ending u)) (λ f y l g. held_goes (own_units xs) h f g y l) (well (places_of xs) (lock_own locked (own_units xs)) z j)))

      on_kept : (xs : List Actual) (z : Store) (j : List Content) → ActualsOff locked xs → HasNoValue z u → AtEndOf (run_of (m (places_of xs) (lock_own locked (own_units xs)) ▹ after_call (own_units xs)) z j) (Ending u)
      on_kept xs z j a g =
          cleared_then (m (places_of xs) (lock_own locked (own_units xs))) (after_call (own_units xs))
          (clear (places_of xs) (lock_own locked (own_units xs)) (places_off locked (lock_own locked (own_units xs)) (own_none locked (own_units xs)) xs (held_locked locked (own_units xs)) a))
          (call_goes (own_units xs)) z j g

  -- ---- statements

  module _ (sc : Scope) (callee : (x : List ℕ) → MeaningCleared u (sc.callee x)) (well : (x : List ℕ) → EndsWell (sc.callee x)) (at : Places) (ok : TagsStand sc.names at) where
    cleared_head : (index : List ℕ) (e1 e2 : ExprTree) (e3 : Option ExprTree) (body : StmtTrees) (locked : Locks) → Off u locked sc.names at → ((l : Locks) → Off u l sc.names at → PartsCleared (parts body sc at l)) → Cleared u (do_plan (tree.loop index e1 e2 e3 body) sc at locked)
    cleared_head index e1 e2 e3 body locked off p =
        cleared_first Anything (range_of e1 e2 e3 sc.names at) _ (fine_range_of other other e1 e2 e3 sc.names at ok) (yields_any (range_of e1 e2 e3 sc.names at))
        (λ r n. cleared_first (Aims locked) (name_target (sc.names index) at) _ (fine_name_target other other (sc.names index) at) (name_aims locked (sc.names index) at (off index))
        (λ t h. begin r t.unit (locked t.unit) refl h))
      where
        loop : Range → ℕ → Plan
        loop r x = iterations_from (iteration_count r.from r.last r.step) r.from r.step x (list_plan sc.turns (parts body sc at (lock locked x Locked)))

        begin : (r : Range) (x : ℕ) (o : Option Fault) → locked x ≡ o → (locked x ≡ None → other x ≡ true) → Cleared u (first (written o x (content Int r.from)) (λ z. loop r x))
        begin r x (Some f) e h = λ s i n. tt
        begin r x None e h =
            cleared_set x (content Int r.from) (loop r x) (h e)
            (cleared_iterations (iteration_count r.from r.last r.step) r.from r.step x (list_plan sc.turns (parts body sc at (lock locked x Locked))) (h e)
            (cleared_list sc.turns (parts body sc at (lock locked x Locked)) (p (lock locked x Locked) (off_more locked (lock locked x Locked) sc.names at (lock_none locked x u Locked) off))))

    mutual
      pub cleared_stmt : (s : StmtTree) (locked : Locks) → Off u locked sc.names at → Cleared u (statement_plan s sc at locked)
      cleared_stmt (tree.stmt n label w) locked off = cleared_within (execution w n sc at locked) (λ f. Ends f) (cleared_what w n locked off) ends

      pub cleared_what : (w : WhatTree) (n : ℕ) (locked : Locks) → Off u locked sc.names at → Cleared u (execution w n sc at locked)
      cleared_what (tree.assign a b) n locked off = cleared_first Anything (assigned a b sc.names at locked) (λ o. Ends Normal) (assigned_off a b sc.names at locked ok off) (yields_any (assigned a b sc.names at locked)) (λ o h s i z. z)
      cleared_what (tree.block_if arms rest) n locked off = cleared_arms arms (else_plan rest sc at locked) locked off (cleared_else rest locked off)
      cleared_what (tree.logical_if test s) n locked off =
          cleared_first Anything (value test sc.names at) _ (fine_value other other test sc.names at ok) (yields_any (value test sc.names at)) (λ c h. cleared_if (is_true c.number) (statement_plan s sc at locked) (Ends Normal) (cleared_stmt s locked off) (λ s i n. n))
      cleared_what (tree.do_loop l) n locked off = cleared_do l locked off
      cleared_what (tree.call x es) n locked off = cleared_call (sc.callee x) locked es sc.names at (sc.own_unit n) ok off (callee x) (well x)
      cleared_what (tree.goto l) n locked off = λ s i z. z
      cleared_what tree.continue n locked off = λ s i z. z
      cleared_what tree.return n locked off = λ s i z. z
      cleared_what (tree.stop text) n locked off = λ s i z. tt
      cleared_what (tree.print es) n locked off = cleared_first Anything (all_shown es sc.names at) (λ xs. Show xs (Ends Normal)) (fine_all_shown other other es sc.names at ok) (yields_any (all_shown es sc.names at)) (λ xs h s i z. z)
      cleared_what (tree.read es) n locked off = cleared_first Anything (items_read es sc.names at locked) (λ o. Ends Normal) (items_off es sc.names at locked ok off) (yields_any (items_read es sc.names at locked)) (λ o h s i z. z)

      cleared_arms : (arms : ArmTrees) (rest : Plan) (locked : Locks) → Off u locked sc.names at → Cleared u rest → Cleared u (arms_plan arms sc at locked rest)
      cleared_arms tree.no_arms rest locked off h = h
      cleared_arms (tree.more_arms a more) rest locked off h = cleared_arm a (arms_plan more sc at locked rest) locked off (cleared_arms more rest locked off h)

      cleared_arm : (a : ArmTree) (rest : Plan) (locked : Locks) → Off u locked sc.names at → Cleared u rest → Cleared u (arm_plan a sc at locked rest)
      cleared_arm (tree.arm test body) rest locked off h =
          cleared_first Anything (value test sc.names at) _ (fine_value other other test sc.names at ok) (yields_any (value test sc.names at)) (λ c g. cleared_if (is_true c.number) (list_plan sc.turns (parts body sc at locked)) rest (cleared_list sc.turns (parts body sc at locked) (cleared_parts body locked off)) h)

      cleared_else : (o : ElseTree) (locked : Locks) → Off u locked sc.names at → Cleared u (else_plan o sc at locked)
      cleared_else tree.no_else locked off = λ s i n. n
      cleared_else (tree.otherwise body) locked off = cleared_list sc.turns (parts body sc at locked) (cleared_parts body locked off)

      cleared_do : (l : LoopTree) (locked : Locks) → Off u locked sc.names at → Cleared u (do_plan l sc at locked)
      cleared_do (tree.loop index e1 e2 e3 body) locked off = cleared_head index e1 e2 e3 body locked off (λ l o. cleared_parts body l o)

      cleared_parts : (ss : StmtTrees) (locked : Locks) → Off u locked sc.names at → PartsCleared (parts ss sc at locked)
      cleared_parts tree.no_stmts locked off = tt
      cleared_parts (tree.more_stmts s ss) locked off = (cleared_stmt s locked off, cleared_parts ss locked off)

    pub cleared_body : (ss : StmtTrees) (locked : Locks) → Off u locked sc.names at → Cleared u (list_plan sc.turns (parts ss sc at locked))
    cleared_body ss locked off = cleared_list sc.turns (parts ss sc at locked) (cleared_parts ss locked off)

  -- ---- modules

  first_off : (locked : Locks) (ps : List Place) → nat_eq 0 u ≡ false → OffPlaces u locked ps → OffPlace u locked (first_place ps)
  first_off locked [] z o = λ e. (go (in_place nowhere u) refl, z)
    where
      go : (b : Bool) → in_place nowhere u ≡ b → b ≡ false
      go true q = absurd (true≢false (sym (in_scalar 0 Undefined q) ∙ z))
      go false q = refl
  first_off locked (p ∷ ps) z o = o.0

  others_off : (locked : Locks) (ps : List Place) → OffPlaces u locked ps → OffPlaces u locked (other_places ps)
  others_off locked [] o = tt
  others_off locked (p ∷ ps) o = o.1

  scalar_at : (locked : Locks) (ds : List Dummy) (ps : List Place) (at : Places) → nat_eq 0 u ≡ false → OffPlaces u locked ps → (v : ℕ) → (IsNoDummy ds v → OffPlace u locked (at v)) → OffPlace u locked (scalars_bound ds ps at v)
  scalar_at locked [] ps at z o v f = f tt
  scalar_at locked (d ∷ ds) ps at z o v f = go (nat_eq v d.symbol) refl (λ e. scalar_at locked ds (other_places ps) at z (others_off locked ps o) v (λ n. f (e, n)))
    where
      go : (b : Bool) → nat_eq v d.symbol ≡ b → (nat_eq v d.symbol ≡ false → OffPlace u locked (scalars_bound ds (other_places ps) at v)) → OffPlace u locked (if b then scalar_place (first_place ps).first d.tag else scalars_bound ds (other_places ps) at v)
      go true e ih = scalar_off locked (first_place ps) d.tag (first_off locked ps z o)
      go false e ih = ih e

  pub scalars_off : (locked : Locks) (w : Names) (ds : List Dummy) (ps : List Place) (at : Places) → nat_eq 0 u ≡ false → OffPlaces u locked ps → ((x : List ℕ) (v : ℕ) → w x ≡ Variable v → IsNoDummy ds v → OffPlace u locked (at v)) → Off u locked w (scalars_bound ds ps at)
  scalars_off locked w ds ps at z o f x v e = scalar_at locked ds ps at z o v (f x v e)

  in_part : (p : Place) (n : ℕ) → nat_le n p.extent ≡ true → nat_le p.first u && nat_lt u (p.first + n) ≡ true → in_place p u ≡ true
  in_part p n h e = grind (arith, nat_tests)

  part_off : (locked : Locks) (p : Place) (t : Tag) (ds : List Dim) (n : ℕ) → nat_le n p.extent ≡ true → OffPlace u locked p → OffPlace u locked (array_at p t ds n)
  part_off locked p t ds n h off e = (go (nat_le p.first u && nat_lt u (p.first + n)) refl, (off e).1)
    where
      go : (b : Bool) → (nat_le p.first u && nat_lt u (p.first + n)) ≡ b → b ≡ false
      go true q = absurd (true≢false (sym (in_part p n h q) ∙ (off e).0))
      go false q = refl

  open_small : (p : Place) (ds : List Dim) → nat_le (open_extent p ds) p.extent ≡ true
  open_small p ds = go (nat_eq (total_size ds) 0)
    where
      none : nat_le 0 p.extent ≡ true
      none = grind (arith, nat_tests)

      all : nat_le p.extent p.extent ≡ true
      all = grind (arith, nat_tests)

      go : (b : Bool) → nat_le (if b then 0 else p.extent) p.extent ≡ true
      go true = none
      go false = all

  array_off : (locked : Locks) (p : Place) (t : Tag) (ds : List Dim) → OffPlace u locked p → Yields (OffPlace u locked) (array_place p t ds)
  array_off locked p t ds off = go (is_open ds) (nat_le (total_size ds) p.extent) refl
    where
      go : (a b : Bool) → nat_le (total_size ds) p.extent ≡ b → Yields (OffPlace u locked) (if a then steps.Done (array_at p t ds (open_extent p ds)) else if b then steps.Done (array_at p t ds (total_size ds)) else fault Bounds)
      go true b e = part_off locked p t ds (open_extent p ds) (open_small p ds) off
      go false true e = part_off locked p t ds (total_size ds) e off
      go false false e = tt

  put_place : (locked : Locks) (w : Names) (at : Places) (n : ℕ) (p : Place) → Off u locked w at → OffPlace u locked p → Off u locked w (put at n p)
  put_place locked w at n p off h x v e = go (nat_eq v n)
    where
      go : (b : Bool) → OffPlace u locked (if b then p else at v)
      go true = h
      go false = off x v e

  dummy_off : (locked : Locks) (w : Names) (d : Dummy) (p : Place) (ds : List Dim) (at : Places) → OffPlace u locked p → Off u locked w at → Yields (Off u locked w) (dummy_bound d p ds at)
  dummy_off locked w d p [] at h off = off
  dummy_off locked w d p (m ∷ ms) at h off = yields_then (OffPlace u locked) (Off u locked w) (array_place p d.tag (m ∷ ms)) (λ q. steps.Done (put at d.symbol q)) (array_off locked p d.tag (m ∷ ms) h) (λ q i. put_place locked w at d.symbol q off i)

  pub arrays_off : (locked : Locks) (ds : List Dummy) (ps : List Place) (w : Names) (at : Places) → nat_eq 0 u ≡ false → OffPlaces u locked ps → Off u locked w at → Yields (Off u locked w) (arrays_bound ds ps w at)
  arrays_off locked [] ps w at z o off = off
  arrays_off locked (d ∷ ds) ps w at z o off =
      yields_then Anything (Off u locked w) (dims_read d.bounds w at) (λ ms. dummy_bound d (first_place ps) ms at >>= arrays_bound ds (other_places ps) w) (yields_any (dims_read d.bounds w at))
      (λ ms n. yields_then (Off u locked w) (Off u locked w) (dummy_bound d (first_place ps) ms at) (arrays_bound ds (other_places ps) w) (dummy_off locked w d (first_place ps) ms at (first_off locked ps z o) off) (λ at' off'. arrays_off locked ds (other_places ps) w at' z (others_off locked ps o) off'))

  pub yields_both : {A : Type 0} (P Q : A → Type 0) (t : Steps A) → Yields P t → Yields Q t → Yields (λ a. P a × Q a) t
  yields_both P Q (steps.Done a) y q = (y, q)
  yields_both P Q (steps.Breaks b) y q = tt
  yields_both P Q (steps.Look x k) y q = λ c. yields_both P Q (k c) (y c) (q c)
  yields_both P Q (steps.Set x c t) y q = yields_both P Q t y q
  yields_both P Q (steps.Hold x c t) y q = yields_both P Q t y q
  yields_both P Q (steps.Forget x t) y q = yields_both P Q t y q
  yields_both P Q (steps.Show xs t) y q = yields_both P Q t y q
  yields_both P Q (steps.Take k) y q = λ o. yields_both P Q (k o) (y o) (q o)
  yields_both P Q (steps.Arrive p t) y q = yields_both P Q t y q

  pub cleared_forget_all : (us : List ℕ) (t : Plan) → Cleared u t → Cleared u (forget_all us t)
  cleared_forget_all [] t h = h
  cleared_forget_all (x ∷ us) t h = λ s i n. cleared_forget_all us t h (put s x (undefined (s x))) i (forgotten s x n)

  module _ (turns : ℕ) (z : nat_eq 0 u ≡ false) where
    abbrev CallsCleared : List Routine → Type 0
    CallsCleared rs = (x : List ℕ) → MeaningCleared u (meanings rs turns x)

    abbrev CallsEnd : List Routine → Type 0
    CallsEnd rs = (x : List ℕ) → EndsWell (meanings rs turns x)

    pub cleared_module : (r : Routine) (rs : List Routine) → IsTagged r → CallsCleared rs → CallsEnd rs → (ps : List Place) (at : Places) (locked : Locks) → OffPlaces u locked ps → TagsStand r.names at → Off u locked r.names at → Cleared u (body_of r turns (meanings rs turns) ps at locked)
    cleared_module r rs tagged h well ps at locked o ok off =
        cleared_first (λ at'. TagsStand r.names at' × Off u locked r.names at') (arrays_bound r.dummies ps r.names at) (λ at'. body_plan r.body (scope r turns (meanings rs turns)) at' (lock_doubly locked r.dummies at' r.common)) (fine_arrays other other r.dummies ps r.names at tagged.dummies ok)
        (yields_both (TagsStand r.names) (Off u locked r.names) (arrays_bound r.dummies ps r.names at) (arrays_tagged r.dummies ps r.names at tagged.dummies ok) (arrays_off locked r.dummies ps r.names at z o off))
        (λ at' q. cleared_body (scope r turns (meanings rs turns)) h well at' q.0 r.body (lock_doubly locked r.dummies at' r.common) (off_more locked (lock_doubly locked r.dummies at' r.common) r.names at' (doubly_none locked r.dummies at' r.common) q.1))

    -- by a local of the module, or by none of its variables
    cleared_called : (r : Routine) (rs : List Routine) → IsTagged r → IsApartFrom u r → CallsCleared rs → CallsEnd rs → EndsWell (called r turns (meanings rs turns)) → MeaningCleared u (called r turns (meanings rs turns))
    cleared_called r rs tagged apart h well here ps locked o s i n = ⊎_elim by_local by_apart apart
      where
        at : Places
        at = scalars_bound r.dummies ps r.fixed

        body : Plan
        body = forget_all r.locals (body_of r turns (meanings rs turns) ps at locked)

        whole : Plan
        whole = called r turns (meanings rs turns) ps locked

        local_goes : held r.locals ≡ true → (f : Flow) (y : Store) (l : List Content) → AtEndOf (run_of (after_call r.locals f) y l) (λ g v j. IsNoJump g → Ending u g v j)
        local_goes e Normal y l =
            let p = run_of (forget_all r.locals (Ends Normal)) y l in
            at_end_more p.answer (store_of p.memory) p.input (Ending u) (λ g v j. IsNoJump g → Ending u g v j) (λ g v j a k. a) (forget_held r.locals e y l)
        local_goes e Returned y l =
            let p = run_of (forget_all r.locals (Ends Normal)) y l in
            at_end_more p.answer (store_of p.memory) p.input (Ending u) (λ g v j. IsNoJump g → Ending u g v j) (λ g v j a k. a) (forget_held r.locals e y l)
        local_goes e Stopped y l = λ k. tt
        local_goes e (Jump m) y l = λ k. absurd k

        by_local : held r.locals ≡ true → AtEndOf (run_of whole s i) (Ending u)
        by_local e =
            let p = run (steps_of body) (Whole s) i in
            let q = run_of whole s i in
            let a = leads_then (steps_of body) (λ f. steps_of (after_call r.locals f)) s i (λ g v j. IsNoJump g → Ending u g v j)
            (at_end_more p.answer (store_of p.memory) p.input (λ f y l. Unit {0}) (λ f y l. AtEndOf (run_of (after_call r.locals f) y l) (λ g v j. IsNoJump g → Ending u g v j)) (λ f y l k. local_goes e f y l) (leads_true (steps_of body) s i)) in
            at_end_more q.answer (store_of q.memory) q.input (λ g v j. IsNoJump g × (IsNoJump g → Ending u g v j)) (Ending u) (λ g v j k. k.1 k.0)
            (both q.answer (store_of q.memory) q.input (λ g v j. IsNoJump g) (λ g v j. IsNoJump g → Ending u g v j) (here ps locked s i) a)

        by_apart : ((x : List ℕ) (v : ℕ) → r.names x ≡ Variable v → IsNoDummy r.dummies v → (in_place (r.fixed v) u ≡ false) × (nat_eq (r.fixed v).first u ≡ false)) → AtEndOf (run_of whole s i) (Ending u)
        by_apart f =
            let off = scalars_off locked r.names r.dummies ps r.fixed z o (λ x v e d k. f x v e d) in
            cleared_within body (after_call r.locals)
            (cleared_forget_all r.locals (body_of r turns (meanings rs turns) ps at locked) (cleared_module r rs tagged h well ps at locked o (scalars_tagged r.names r.dummies ps r.fixed tagged.dummies tagged.fixed) off))
            (call_goes r.locals) s i n

    pub cleared_meanings : (rs : List Routine) → AllTagged rs → AllApart u rs → AllEnd turns rs → CallsCleared rs
    cleared_meanings [] t a w x = λ ps locked o s i n. tt
    cleared_meanings (r ∷ rs) t a w x = either (cleared_called r rs t.0 a.0 (λ y. cleared_meanings rs t.1 a.1 w.2 y) w.1 w.0) (cleared_meanings rs t.1 a.1 w.2 x) (bytes_eq x r.name)
      where
        either : MeaningCleared u (called r turns (meanings rs turns)) → MeaningCleared u (meanings rs turns x) → (b : Bool) → MeaningCleared u (if b then called r turns (meanings rs turns) else meanings rs turns x)
        either g h true = g
        either g h false = h
