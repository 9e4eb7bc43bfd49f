-- A plan enters a module only by a CALL, and then its units are units of the CALLs.
use Rattle.std.proofs.Common.{◌≡◌, ℕ, zero, suc, List, [], ◌∷◌, ◌++◌, ◌||◌, ◌&&◌, Option, Bool, true, false, refl, sym, ap, ◌∙◌, subst, ℤ, ◌+ℤ◌, nat_eq, bytes_eq, true≢false}
use Rattle.std.specs.Prelude.{if◌then◌else◌}
use Rattle.std.specs.List.{list_any}
use Rattle.std.proofs.lemmas.Bool.{or_parts, or_from, or_left, or_right, and_from}
use Rattle.std.proofs.lemmas.Slice.Eq.{bytes_eq-Decides}
use Rattle.f77_ast.specs.Trees.{StmtTree, WhatTree, ArmTree, ArmTrees, ElseTree, LoopTree, StmtTrees}
use Rattle.f77_ast.specs.Trees as tree
use Rattle.f77_ast.specs.Shapes.{walk_stmt, walk_what, walk_body, walk_arms, walk_arm, walk_else, walk_list}
use Rattle.f77_ast.specs.StatementNumbers.{stmt_numbers, part_numbers, list_numbers, arms_numbers, arm_numbers, else_numbers, loop_numbers}
use Rattle.f77_ast.specs.Store.{Int, Content, Store, content, put, undefined}
use Rattle.f77_ast.specs.Faults.{Locked}
use Rattle.f77_ast.specs.Steps.{OutOfTurns, Steps}
use Rattle.f77_ast.specs.Steps as steps
use Rattle.f77_ast.specs.Numbers.{is_true, kept}
use Rattle.f77_ast.specs.Runs.{Event, Arrived, Read, Wrote, Printed, Took, Answer, Gave, Broke, Ran, Whole, store_of, first_of, rest_of}
use Rattle.f77_ast.specs.Places.{Place, Places}
use Rattle.f77_ast.specs.Values.{given, value, all_shown, name_target}
use Rattle.f77_ast.specs.Writes.{Locks, write, assigned, items_read, lock}
use Rattle.f77_ast.specs.Plans.{Flow, Normal, Jump, Returned, Stopped, Plan, ◌▹◌, first, on_normal, steps_of}
use Rattle.f77_ast.specs.Plans as plan
use Rattle.f77_ast.specs.Executions.{run_of}
use Rattle.f77_ast.specs.Lists.{Part, is_label, has_label, from_label, go_on, in_order, with_jumps, list_plan}
use Rattle.f77_ast.specs.Loops.{range_of, iteration_count, iterations_from}
use Rattle.f77_ast.specs.Calls.{actuals, places_of, own_units, lock_own, forget_all, after_call, scalars_bound, arrays_bound, lock_doubly}
use Rattle.f77_ast.specs.Statements.{statement_plan, execution, arms_plan, arm_plan, else_plan, do_plan, parts, body_plan}
use Rattle.f77_ast.specs.Programs.{Routine, body_of, called, meanings}
use Rattle.f77_meaning.specs.Accesses.{is_entered}
use Rattle.f77_meaning.specs.Modules.{Known, all_lost}
use Rattle.f77_meaning.specs.Areas.{Numbering}
use Rattle.preconditions.specs.transformer_algebra.Cells.{has}
use Rattle.laws_interleavings.specs.MarkedStatements.{MarkedScope, MarkedMeaning, one_of, count, own_walk, own_in}
use Rattle.laws_interleavings.specs.MarkedPrograms.{Directives, marked_scope, marked_called, marked_meanings}
use Rattle.laws_interleavings.proofs.Runs.{run_bind, on_from, stays_whole}
use Rattle.preconditions.proofs.TransformerAlgebra.HasLaws.{has_parts}

-- lost: of a module by its name, that it is entered by no plan here
module _ (lost : List ℕ → Bool) where
  abbrev IsNoEntry : ℕ → List ℕ → Type 0
  IsNoEntry n x = nat_eq n 0 ≡ true → lost x ≡ false

  abbrev pub EntersNone : Plan → Type 0
  EntersNone (plan.Ends f) = Unit {0}
  EntersNone (plan.Breaks b) = Unit {0}
  EntersNone (plan.Look u k) = (c : Content) → EntersNone (k c)
  EntersNone (plan.Set u c t) = EntersNone t
  EntersNone (plan.Hold u c t) = EntersNone t
  EntersNone (plan.Forget u t) = EntersNone t
  EntersNone (plan.Show xs t) = EntersNone t
  EntersNone (plan.Take k) = (o : Option Content) → EntersNone (k o)
  EntersNone (plan.Within p at t k) = IsNoEntry p.statement p.module_name × EntersNone t × ((f : Flow) → EntersNone (k f))

  -- ---- what a run does

  abbrev pub NoEntries : List Event → Type 0
  NoEntries [] = Unit {0}
  NoEntries (Arrived p ∷ es) = IsNoEntry p.statement p.module_name × NoEntries es
  NoEntries (Read u c ∷ es) = NoEntries es
  NoEntries (Wrote u c ∷ es) = NoEntries es
  NoEntries (Printed xs ∷ es) = NoEntries es
  NoEntries (Took o ∷ es) = NoEntries es

  entries_append : (es fs : List Event) → NoEntries es → NoEntries fs → NoEntries (es ++ fs)
  entries_append [] fs h g = g
  entries_append (Arrived p ∷ es) fs h g = (h.0, entries_append es fs h.1 g)
  entries_append (Read u c ∷ es) fs h g = entries_append es fs h g
  entries_append (Wrote u c ∷ es) fs h g = entries_append es fs h g
  entries_append (Printed xs ∷ es) fs h g = entries_append es fs h g
  entries_append (Took o ∷ es) fs h g = entries_append es fs h g

  pub run_enters : (t : Plan) → EntersNone t → (s : Store) (i : List Content) → NoEntries (run_of t s i).trace
  run_enters (plan.Ends f) h s i = tt
  run_enters (plan.Breaks b) h s i = tt
  run_enters (plan.Look u k) h s i = run_enters (k (s u)) (h (s u)) s i
  run_enters (plan.Set u c t) h s i = run_enters t h (put s u c) i
  run_enters (plan.Hold u c t) h s i = run_enters t h (put s u c) i
  run_enters (plan.Forget u t) h s i = run_enters t h (put s u (undefined (s u))) i
  run_enters (plan.Show xs t) h s i = run_enters t h s i
  run_enters (plan.Take k) h s i = run_enters (k (first_of i)) (h (first_of i)) s (rest_of i)
  run_enters (plan.Within p at t k) h s i =
      let q = run_of t s i in (
        h.0,
        subst (λ (r : Ran Flow). NoEntries r.trace) (sym (run_bind (steps_of t) (λ f. steps_of (k f)) (Whole s) i ∙ (λ j. on_from q.answer (stays_whole (steps_of t) s i j) q.input q.trace (λ f. steps_of (k f)))))
            (go q.answer (store_of q.memory) q.input q.trace (run_enters t h.1 s i) (λ f z j. run_enters (k f) (h.2 f) z j)),
      )
    where
      go : (a : Answer Flow) (z : Store) (j : List Content) (es : List Event) → NoEntries es → ((f : Flow) (y : Store) (l : List Content) → NoEntries (run_of (k f) y l).trace) → NoEntries (on_from a (Whole z) j es (λ f. steps_of (k f))).trace
      go (Gave f) z j es h g = entries_append es (run_of (k f) z j).trace h (g f z j)
      go (Broke b) z j es h g = h

  not_entered : (es : List Event) → NoEntries es → (x : List ℕ) → ((y : List ℕ) → bytes_eq y x ≡ true → lost y ≡ true) → is_entered x es ≡ false
  not_entered [] h x e = refl
  not_entered (Arrived p ∷ es) h x e = or_from (bytes_eq p.module_name x && nat_eq p.statement 0) (is_entered x es) (go (bytes_eq p.module_name x) (nat_eq p.statement 0) refl refl) (not_entered es h.1 x e)
    where
      go : (a b : Bool) → bytes_eq p.module_name x ≡ a → nat_eq p.statement 0 ≡ b → (a && b) ≡ false
      go false b f g = refl
      go true false f g = refl
      go true true f g = sym (e p.module_name f) ∙ h.0 g
  not_entered (Read u c ∷ es) h x e = not_entered es h x e
  not_entered (Wrote u c ∷ es) h x e = not_entered es h x e
  not_entered (Printed xs ∷ es) h x e = not_entered es h x e
  not_entered (Took o ∷ es) h x e = not_entered es h x e

  -- ---- plans together

  enters_then : (t : Plan) (k : Flow → Plan) → EntersNone t → ((f : Flow) → EntersNone (k f)) → EntersNone (t ▹ k)
  enters_then (plan.Ends g) k h n = n g
  enters_then (plan.Breaks b) k h n = tt
  enters_then (plan.Look u t) k h n = λ c. enters_then (t c) k (h c) n
  enters_then (plan.Set u c t) k h n = enters_then t k h n
  enters_then (plan.Hold u c t) k h n = enters_then t k h n
  enters_then (plan.Forget u t) k h n = enters_then t k h n
  enters_then (plan.Show xs t) k h n = enters_then t k h n
  enters_then (plan.Take t) k h n = λ o. enters_then (t o) k (h o) n
  enters_then (plan.Within p at t w) k h n = (h.0, h.1, λ f. enters_then (w f) k (h.2 f) n)

  enters_first : {A : Type 0} (t : Steps A) (f : A → Plan) → ((a : A) → EntersNone (f a)) → EntersNone (first t f)
  enters_first (steps.Done a) f h = h a
  enters_first (steps.Breaks b) f h = tt
  enters_first (steps.Look u k) f h = λ c. enters_first (k c) f h
  enters_first (steps.Set u c t) f h = enters_first t f h
  enters_first (steps.Hold u c t) f h = enters_first t f h
  enters_first (steps.Forget u t) f h = enters_first t f h
  enters_first (steps.Show xs t) f h = enters_first t f h
  enters_first (steps.Take k) f h = λ o. enters_first (k o) f h
  enters_first (steps.Arrive p t) f h = enters_first t f h

  enters_if : (b : Bool) (t z : Plan) → EntersNone t → EntersNone z → EntersNone (if b then t else z)
  enters_if true t z h g = h
  enters_if false t z h g = g

  enters_forget : (us : List ℕ) (t : Plan) → EntersNone t → EntersNone (forget_all us t)
  enters_forget [] t h = h
  enters_forget (u ∷ us) t h = enters_forget us t h

  enters_after : (us : List ℕ) (f : Flow) → EntersNone (after_call us f)
  enters_after us Normal = enters_forget us (plan.Ends Normal) tt
  enters_after us (Jump l) = tt
  enters_after us Returned = enters_forget us (plan.Ends Normal) tt
  enters_after us Stopped = tt

  -- ---- lists

  abbrev PartsEnter : List Part → Type 0
  PartsEnter [] = Unit {0}
  PartsEnter (q ∷ qs) = EntersNone q.does × PartsEnter qs

  from_enters : (l : ℕ) (qs : List Part) → PartsEnter qs → PartsEnter (from_label l qs)
  from_enters l [] h = tt
  from_enters l (q ∷ qs) h = go (is_label l q.label) (from_enters l qs h.1)
    where
      go : (b : Bool) → PartsEnter (from_label l qs) → PartsEnter (if b then q ∷ qs else from_label l qs)
      go true ih = h
      go false ih = ih

  go_on_enters : (jump : ℕ → Plan) (all : List Part) (rest : Plan) → ((l : ℕ) → EntersNone (jump l)) → EntersNone rest → (f : Flow) → EntersNone (go_on jump all rest f)
  go_on_enters jump all rest j h Normal = h
  go_on_enters jump all rest j h (Jump l) = enters_if (has_label l all) (jump l) (plan.Ends (Jump l)) (j l) tt
  go_on_enters jump all rest j h Returned = tt
  go_on_enters jump all rest j h Stopped = tt

  order_enters : (jump : ℕ → Plan) (all qs : List Part) → ((l : ℕ) → EntersNone (jump l)) → PartsEnter qs → EntersNone (in_order jump all qs)
  order_enters jump all [] j h = tt
  order_enters jump all (q ∷ qs) j h = enters_then q.does (go_on jump all (in_order jump all qs)) h.0 (go_on_enters jump all (in_order jump all qs) j (order_enters jump all qs j h.1))

  jumps_enter : (n : ℕ) (all qs : List Part) → PartsEnter all → PartsEnter qs → EntersNone (with_jumps n all qs)
  jumps_enter zero all qs a h = order_enters (λ l. plan.Breaks OutOfTurns) all qs (λ l. tt) h
  jumps_enter (suc n) all qs a h = order_enters (λ l. with_jumps n all (from_label l all)) all qs (λ l. jumps_enter n all (from_label l all) a (from_enters l all a)) h

  list_enters : (turns : ℕ) (qs : List Part) → PartsEnter qs → EntersNone (list_plan turns qs)
  list_enters turns qs h = jumps_enter turns qs qs h h

  normal_enters : (f : Flow) (t : Plan) → EntersNone t → EntersNone (on_normal f t)
  normal_enters Normal t h = h
  normal_enters (Jump l) t h = tt
  normal_enters Returned t h = tt
  normal_enters Stopped t h = tt

  iterations_enter : (k : ℕ) (n step : ℤ) (u : ℕ) (body : Plan) → EntersNone body → EntersNone (iterations_from k n step u body)
  iterations_enter zero n step u body h = tt
  iterations_enter (suc k) n step u body h =
      enters_then body (λ f. on_normal f (first (given Int (kept (n +ℤ step))) (λ c. plan.Set u c (iterations_from k c.number step u body)))) h
      (λ f. normal_enters f (first (given Int (kept (n +ℤ step))) (λ c. plan.Set u c (iterations_from k c.number step u body))) (enters_first (given Int (kept (n +ℤ step))) (λ c. plan.Set u c (iterations_from k c.number step u body)) (λ c. iterations_enter k c.number step u body h)))

  -- ---- statements that have numbers from 1 on, none of whose CALLs has the unit for itself

  module _ (u : ℕ) (sc : MarkedScope) (callee : (x : List ℕ) → (sc.callee x).own u ≡ false → (ps : List Place) (locked : Locks) → EntersNone (sc.plain.callee x ps locked)) (at : Places) where
    mutual
      stmt_enters : (s : StmtTree) → walk_stmt (own_walk sc u) s ≡ false → has (stmt_numbers s) 0 ≡ false → (locked : Locks) → EntersNone (statement_plan s sc.plain at locked)
      stmt_enters (tree.stmt n label w) o p locked = let z = or_parts (nat_eq n 0) (has (part_numbers w) 0) p in (λ e. absurd (true≢false (sym e ∙ z.0)), what_enters w n label o z.1 locked, λ f. tt)

      what_enters : (w : WhatTree) (n : ℕ) (label : Option ℕ) → walk_what (own_walk sc u) n label w ≡ false → has (part_numbers w) 0 ≡ false → (locked : Locks) → EntersNone (execution w n sc.plain at locked)
      what_enters (tree.assign a b) n label o p locked = enters_first (assigned a b sc.plain.names at locked) (λ o. plan.Ends Normal) (λ o. tt)
      what_enters (tree.block_if arms rest) n label o p locked =
          let z = or_parts (walk_arms (own_walk sc u) arms) (walk_else (own_walk sc u) rest) o in
          let y = has_parts (arms_numbers arms) (else_numbers rest) 0 p in
          arms_enter arms z.0 y.0 (else_plan rest sc.plain at locked) locked (else_enters rest z.1 y.1 locked)
      what_enters (tree.logical_if test s) n label o p locked = enters_first (value test sc.plain.names at) _ (λ c. enters_if (is_true c.number) (statement_plan s sc.plain at locked) (plan.Ends Normal) (stmt_enters s o p locked) tt)
      what_enters (tree.do_loop l) n label o p locked = do_enters l o p locked
      what_enters (tree.call x es) n label o p locked =
          let z = or_parts (one_of (sc.plain.own_unit n) (count es) u) ((sc.callee x).own u) o in
          enters_first (actuals es 0 sc.plain.names at (sc.plain.own_unit n)) (λ xs. sc.plain.callee x (places_of xs) (lock_own locked (own_units xs)) ▹ after_call (own_units xs))
          (λ xs. enters_then (sc.plain.callee x (places_of xs) (lock_own locked (own_units xs))) (after_call (own_units xs)) (callee x z.1 (places_of xs) (lock_own locked (own_units xs))) (enters_after (own_units xs)))
      what_enters (tree.goto l) n label o p locked = tt
      what_enters tree.continue n label o p locked = tt
      what_enters tree.return n label o p locked = tt
      what_enters (tree.stop text) n label o p locked = tt
      what_enters (tree.print es) n label o p locked = enters_first (all_shown es sc.plain.names at) (λ xs. plan.Show xs (plan.Ends Normal)) (λ xs. tt)
      what_enters (tree.read es) n label o p locked = enters_first (items_read es sc.plain.names at locked) (λ o. plan.Ends Normal) (λ o. tt)

      arms_enter : (arms : ArmTrees) → walk_arms (own_walk sc u) arms ≡ false → has (arms_numbers arms) 0 ≡ false → (rest : Plan) (locked : Locks) → EntersNone rest → EntersNone (arms_plan arms sc.plain at locked rest)
      arms_enter tree.no_arms o p rest locked h = h
      arms_enter (tree.more_arms (tree.arm test body) more) o p rest locked h =
          let z = or_parts (walk_list (own_walk sc u) body) (walk_arms (own_walk sc u) more) o in
          let y = has_parts (list_numbers body) (arms_numbers more) 0 p in
          enters_first (value test sc.plain.names at) _
          (λ c. enters_if (is_true c.number) (list_plan sc.plain.turns (parts body sc.plain at locked)) (arms_plan more sc.plain at locked rest) (list_enters sc.plain.turns (parts body sc.plain at locked) (parts_enter body z.0 y.0 locked)) (arms_enter more z.1 y.1 rest locked h))

      else_enters : (e : ElseTree) → walk_else (own_walk sc u) e ≡ false → has (else_numbers e) 0 ≡ false → (locked : Locks) → EntersNone (else_plan e sc.plain at locked)
      else_enters tree.no_else o p locked = tt
      else_enters (tree.otherwise body) o p locked = list_enters sc.plain.turns (parts body sc.plain at locked) (parts_enter body o p locked)

      do_enters : (l : LoopTree) → walk_body (own_walk sc u) l ≡ false → has (loop_numbers l) 0 ≡ false → (locked : Locks) → EntersNone (do_plan l sc.plain at locked)
      do_enters (tree.loop index e1 e2 e3 body) o p locked =
          enters_first (range_of e1 e2 e3 sc.plain.names at) _ (λ r. enters_first (name_target (sc.plain.names index) at) _ (λ t. enters_first (write locked t.unit (content Int r.from)) _
          (λ a. iterations_enter (iteration_count r.from r.last r.step) r.from r.step t.unit (list_plan sc.plain.turns (parts body sc.plain at (lock locked t.unit Locked))) (list_enters sc.plain.turns (parts body sc.plain at (lock locked t.unit Locked)) (parts_enter body o p (lock locked t.unit Locked))))))

      parts_enter : (ss : StmtTrees) → walk_list (own_walk sc u) ss ≡ false → has (list_numbers ss) 0 ≡ false → (locked : Locks) → PartsEnter (parts ss sc.plain at locked)
      parts_enter tree.no_stmts o p locked = tt
      parts_enter (tree.more_stmts s ss) o p locked =
          let z = or_parts (walk_stmt (own_walk sc u) s) (walk_list (own_walk sc u) ss) o in
          let y = has_parts (stmt_numbers s) (list_numbers ss) 0 p in
          (stmt_enters s z.0 y.0 locked, parts_enter ss z.1 y.1 locked)

    pub body_enters : (ss : StmtTrees) → own_in sc ss u ≡ false → has (list_numbers ss) 0 ≡ false → (locked : Locks) → EntersNone (body_plan ss sc.plain at locked)
    body_enters ss o p locked = list_enters sc.plain.turns (parts ss sc.plain at locked) (parts_enter ss o p locked)

  -- ---- modules

  -- the statements have numbers from 1 on, and where the unit is none of its locals that are not saved, it may be entered
  pub record IsEntered (u : ℕ) (r : Routine) : Type 0 where
    pub numbers : has (list_numbers r.body) 0 ≡ false
    pub locals : list_any (λ v. nat_eq v u) r.locals ≡ false → lost r.name ≡ false

  abbrev pub AreEntered : ℕ → List Routine → Type 0
  AreEntered u [] = Unit {0}
  AreEntered u (r ∷ rs) = IsEntered u r × AreEntered u rs

  module _ (u turns : ℕ) (marks : Directives) where
    abbrev Calls : List Routine → Type 0
    Calls rs = (x : List ℕ) → (marked_meanings rs turns marks x).own u ≡ false → (ps : List Place) (locked : Locks) → EntersNone (meanings rs turns x ps locked)

    abbrev scope_in : Routine → List Routine → MarkedScope
    scope_in r rs = marked_scope r turns marks (meanings rs turns) (marked_meanings rs turns marks)

    called_enters : (r : Routine) (rs : List Routine) → IsEntered u r → Calls rs → (marked_called r (scope_in r rs)).own u ≡ false → (ps : List Place) (locked : Locks) → EntersNone (called r turns (meanings rs turns) ps locked)
    called_enters r rs e h o ps locked =
        let z = or_parts (list_any (λ v. nat_eq v u) r.locals) (own_in (scope_in r rs) r.body u) o in
        let at = scalars_bound r.dummies ps r.fixed in (
          λ w. e.locals z.0,
          enters_forget r.locals (body_of r turns (meanings rs turns) ps at locked)
              (enters_first (arrays_bound r.dummies ps r.names at) (λ at'. body_plan r.body (scope_in r rs).plain at' (lock_doubly locked r.dummies at' r.common)) (λ at'. body_enters u (scope_in r rs) h at' r.body z.1 e.numbers (lock_doubly locked r.dummies at' r.common))),
          enters_after r.locals,
        )

    pub meanings_enter : (rs : List Routine) → AreEntered u rs → Calls rs
    meanings_enter [] h x o ps locked = tt
    meanings_enter (r ∷ rs) h x o ps locked = go (bytes_eq x r.name) o (meanings_enter rs h.1)
      where
        go : (b : Bool) → (let m : MarkedMeaning = if b then marked_called r (scope_in r rs) else marked_meanings rs turns marks x in m.own u) ≡ false → Calls rs → EntersNone ((if b then called r turns (meanings rs turns) else meanings rs turns x) ps locked)
        go true o ih = called_enters r rs h.0 ih o ps locked
        go false o ih = ih x o ps locked

-- ---- units of locals that are not saved

-- such a unit of the module
abbrev lost_in : Numbering → ℕ → Known → Bool
lost_in n u k = list_any (λ v. nat_eq v u) (all_lost n k.read.name k.symbols k.symbols)

-- of one of these modules with this name
abbrev pub is_lost_of : Numbering → ℕ → List Known → List ℕ → Bool
is_lost_of n u ks x = list_any (λ k. bytes_eq k.read.name x && lost_in n u k) ks

module _ (n : Numbering) (u : ℕ) where
  none_among : (ks : List Known) (lost : List ℕ → Bool) → ((x : List ℕ) → is_lost_of n u ks x ≡ true → lost x ≡ true) → (es : List Event) → NoEntries lost es → list_any (λ k. is_entered k.read.name es && lost_in n u k) ks ≡ false
  none_among [] lost f es h = refl
  none_among (k ∷ ks) lost f es h = or_from (is_entered k.read.name es && lost_in n u k) (list_any (λ j. is_entered j.read.name es && lost_in n u j) ks) (go (lost_in n u k) refl) (none_among ks lost (λ x e. f x (or_right (bytes_eq k.read.name x && lost_in n u k) (is_lost_of n u ks x) e)) es h)
    where
      here : lost_in n u k ≡ true → (y : List ℕ) → bytes_eq y k.read.name ≡ true → lost y ≡ true
      here e y b =
          let same : y ≡ k.read.name = (bytes_eq-Decides y k.read.name).0 b in
          f y (or_left (bytes_eq k.read.name y && lost_in n u k) (is_lost_of n u ks y) (and_from (bytes_eq k.read.name y) (lost_in n u k) (subst (λ z. bytes_eq k.read.name z ≡ true) (sym same) ((bytes_eq-Decides k.read.name k.read.name).1 refl)) e))

      no_more : (a b : Bool) → b ≡ false → (a && b) ≡ false
      no_more true b e = e
      no_more false b e = refl

      go : (b : Bool) → lost_in n u k ≡ b → (is_entered k.read.name es && lost_in n u k) ≡ false
      go true e = ap (λ c. c && lost_in n u k) (not_entered lost es h k.read.name (here e))
      go false e = no_more (is_entered k.read.name es) (lost_in n u k) e

  -- where none of them is entered of which the unit is one, it is not lost
  pub none_lost : (ks : List Known) (es : List Event) → NoEntries (is_lost_of n u ks) es → list_any (λ k. is_entered k.read.name es && lost_in n u k) ks ≡ false
  none_lost ks es h = none_among ks (is_lost_of n u ks) (λ x e. e) es h
