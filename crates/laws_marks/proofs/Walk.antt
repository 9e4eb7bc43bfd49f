-- The executions in modules of whose variables the unit is none: it has no value at each of them.
use Rattle.std.proofs.Common.{◌≡◌, ◌⊎◌, inl, inr, ⊎_elim, ℕ, zero, suc, List, [], ◌∷◌, Option, Some, None, Bool, true, false, refl, sym, ap, nat_eq, ℤ, bytes_eq}
use Rattle.std.specs.Prelude.{if◌then◌else◌}
use Rattle.f77_ast.specs.Trees.{ExprTree, ExprTrees, StmtTree, WhatTree, ArmTree, ArmTrees, ElseTree, LoopTree, StmtTrees}
use Rattle.f77_ast.specs.Trees as tree
use Rattle.f77_ast.specs.Store.{Int, Content, Store, content, put, undefined}
use Rattle.f77_ast.specs.Faults.{Fault, Locked}
use Rattle.f77_ast.specs.Steps.{Steps}
use Rattle.f77_ast.specs.Numbers.{is_true}
use Rattle.f77_ast.specs.Runs.{Whole, run, store_of}
use Rattle.f77_ast.specs.Places.{Variable, Place, Places}
use Rattle.f77_ast.specs.Values.{value, name_target, all_shown}
use Rattle.f77_ast.specs.Writes.{Locks, lock, written, assigned, items_read}
use Rattle.f77_ast.specs.Plans.{Flow, Normal, Jump, Returned, Stopped, Plan, Ends, Show, ◌▹◌, first, steps_of}
use Rattle.f77_ast.specs.Executions.{run_of, AtEndOf}
use Rattle.f77_ast.specs.Lists.{Part, list_plan}
use Rattle.f77_ast.specs.Loops.{Range, range_of, iteration_count, iterations_from}
use Rattle.f77_ast.specs.Calls.{Actual, Meaning, actuals, places_of, own_units, lock_own, after_call, scalars_bound, arrays_bound, lock_doubly}
use Rattle.f77_ast.specs.Statements.{Scope, spot, statement_plan, execution, arms_plan, arm_plan, else_plan, do_plan, parts, body_plan}
use Rattle.f77_ast.specs.Programs.{Routine, scope, body_of, called, meanings}
use Rattle.f77_ast.proofs.StepLaws.{at_end_more, leads_true}
use Rattle.laws_analyses.proofs.Statements.Ends.{more}
use Rattle.laws_interleavings.specs.Typed.{TagsStand, IsTagged}
use Rattle.laws_interleavings.specs.Plans.Fine.{AreFine}
use Rattle.laws_interleavings.specs.Plans.Cleared.{HasNoValue, Ending, Cleared, OffPlaces, Off, EndsWell, MeaningCleared}
use Rattle.laws_interleavings.proofs.Plans.Fine.{Yields, yields_any, fine_value, fine_range_of, fine_name_target, fine_all_shown, fine_actuals, fine_arrays, arrays_tagged, scalars_tagged}
use Rattle.laws_interleavings.proofs.Plans.Cleared.{other, is_other, put_off, keeps, Aims, name_aims, off_more, lock_none, own_none, doubly_none, held_locked, ActualsOff, actuals_off, places_off, assigned_off, items_off, cleared_what, cleared_stmt, cleared_body, scalars_off, arrays_off, yields_both}
use Rattle.laws_marks.specs.ConflictExecutions.{Execution, AtEachExecution}
use Rattle.laws_marks.proofs.ConflictEach.{plan_first, plan_called}
use Rattle.laws_marks.proofs.ConflictLists.{Stays, Again, PartsAre, jumps_reached, iterations_reached}
use Rattle.laws_marks.specs.Inactive.{HasNone}
use Rattle.laws_marks.proofs.Apart.{FixedOff}
use Rattle.fx_lists.proofs.Every.{Anything}

module _ (u : ℕ) (A : List ℕ → Type 0) where
  -- the claim of an execution
  abbrev pub C : Execution → Type 0
  C x = A x.spot.module_name → HasNone x u

  abbrev None_at : Store → Type 0
  None_at z = HasNoValue z u

  abbrev pub Each : Plan → Type 0
  Each t = (s : Store) → HasNoValue s u → (i : List Content) → AtEachExecution C t s i

  abbrev pub EachMeaning : Meaning → Type 0
  EachMeaning m = (ps : List Place) (locked : Locks) → OffPlaces u locked ps → Each (m ps locked)

  -- whatever the store is: no module in it is one of A
  abbrev pub Wild : Meaning → Type 0
  Wild m = (ps : List Place) (locked : Locks) (s : Store) (i : List Content) → AtEachExecution C (m ps locked) s i

  stays_of : (f : Flow) (z : Store) (j : List Content) → Ending u f z j → Stays None_at f z
  stays_of Normal z j e = e
  stays_of (Jump l) z j e = e
  stays_of Returned z j e = e
  stays_of Stopped z j e = tt

  each_first : {T : Type 0} (P : T → Type 0) (t : Steps T) (f : T → Plan) → AreFine (other u) (other u) t → Yields P t → ((a : T) → P a → Each (f a)) → Each (first t f)
  each_first P t f h y c s n i =
      plan_first C t f s i (at_end_more (run t (Whole s) i).answer (store_of (run t (Whole s) i).memory) (run t (Whole s) i).input (λ a z j. P a × HasNoValue z u) (λ a z j. AtEachExecution C (f a) z j) (λ a z j e. c a e.0 z e.1 j) (keeps u P t h y s i n))

  each_if : (b : Bool) (t z : Plan) → Each t → Each z → Each (if b then t else z)
  each_if true t z h g = h
  each_if false t z h g = g

  module _ (sc : Scope) (clear : (x : List ℕ) → MeaningCleared u (sc.callee x)) (well : (x : List ℕ) → EndsWell (sc.callee x)) (each : (x : List ℕ) → EachMeaning (sc.callee x))
      (own : ((n k : ℕ) → nat_eq (sc.own_unit n k) u ≡ false) ⊎ ((x : List ℕ) → Wild (sc.callee x))) (at : Places) (ok : TagsStand sc.names at) where
    abbrev Parts : List Part → Type 0
    Parts qs = PartsAre C None_at qs

    each_list : (qs : List Part) → Parts qs → Each (list_plan sc.turns qs)
    each_list qs h s n i = jumps_reached C None_at sc.turns qs h qs h s n i

    each_call : (n : ℕ) (x : List ℕ) (es : ExprTrees) (locked : Locks) → Off u locked sc.names at → Each (execution (tree.call x es) n sc at locked)
    each_call n x es locked off s v i = ⊎_elim by_other by_wild own
      where
        f : List Actual → Plan
        f xs = sc.callee x (places_of xs) (lock_own locked (own_units xs)) ▹ after_call (own_units xs)

        t : Steps (List Actual)
        t = actuals es 0 sc.names at (sc.own_unit n)

        by_other : ((m k : ℕ) → nat_eq (sc.own_unit m k) u ≡ false) → AtEachExecution C (first t f) s i
        by_other h =
            each_first (ActualsOff u locked) t f (fine_actuals (other u) (other u) es 0 sc.names at ok (sc.own_unit n) (λ k l m. is_other u (sc.own_unit n k) (h n k))) (actuals_off u locked es 0 sc.names at (sc.own_unit n) off)
            (λ xs a z e j. plan_called C (sc.callee x (places_of xs) (lock_own locked (own_units xs))) (own_units xs) z j
            (each x (places_of xs) (lock_own locked (own_units xs)) (places_off u locked (lock_own locked (own_units xs)) (own_none u locked (own_units xs)) xs (held_locked u locked (own_units xs)) a) z e j))
            s v i

        by_wild : ((y : List ℕ) → Wild (sc.callee y)) → AtEachExecution C (first t f) s i
        by_wild h = plan_first C t f s i (more (run t (Whole s) i) (λ a z j. Unit {0}) (λ a z j. AtEachExecution C (f a) z j) (λ xs z j e. plan_called C (sc.callee x (places_of xs) (lock_own locked (own_units xs))) (own_units xs) z j (h x (places_of xs) (lock_own locked (own_units xs)) z j)) (leads_true t s i))

    -- what is claimed of an execution of a statement, from its end
    claimed : (n : ℕ) (t : Plan) (s : Store) (i : List Content) → HasNoValue s u → Cleared u t → C (record { spot = spot sc.module_name n; places = at; does = t; start = s; input = i })
    claimed n t s i e c = λ a. record { before = e; after = c s i e }

    nothing_after : (t : Plan) (s : Store) (i : List Content) → AtEndOf (run_of t s i) (λ f z j. AtEachExecution C (Ends f) z j)
    nothing_after t s i = more (run_of t s i) (λ f z j. Unit {0}) (λ f z j. AtEachExecution C (Ends f) z j) (λ f z j e. tt) (leads_true (steps_of t) s i)

    each_head : (index : List ℕ) (e1 e2 : ExprTree) (e3 : Option ExprTree) (body : StmtTrees) (locked : Locks) → Off u locked sc.names at → ((l : Locks) → Off u l sc.names at → Parts (parts body sc at l)) → Each (do_plan (tree.loop index e1 e2 e3 body) sc at locked)
    each_head index e1 e2 e3 body locked off p =
        each_first Anything (range_of e1 e2 e3 sc.names at) _ (fine_range_of (other u) (other u) e1 e2 e3 sc.names at ok) (yields_any (range_of e1 e2 e3 sc.names at))
        (λ r n. each_first (Aims u locked) (name_target (sc.names index) at) _ (fine_name_target (other u) (other u) (sc.names index) at) (name_aims u locked (sc.names index) at (off index))
        (λ t h. begin r t.unit (locked t.unit) refl h))
      where
        list : ℕ → Plan
        list x = list_plan sc.turns (parts body sc at (lock locked x Locked))

        inner : (x : ℕ) → Off u (lock locked x Locked) sc.names at
        inner x = off_more u locked (lock locked x Locked) sc.names at (lock_none u locked x u Locked) off

        again : (x : ℕ) → other u x ≡ true → (f : Flow) (z : Store) (j : List Content) → Ending u f z j → Again None_at x f z
        again x o Normal z j e = λ n. put_off u z x (content Int n) o e
        again x o (Jump l) z j e = tt
        again x o Returned z j e = tt
        again x o Stopped z j e = tt

        loop : (r : Range) (x : ℕ) → other u x ≡ true → Each (iterations_from (iteration_count r.from r.last r.step) r.from r.step x (list x))
        loop r x o s e i =
            iterations_reached C None_at r.step x (list x) (λ y n j. each_list (parts body sc at (lock locked x Locked)) (p (lock locked x Locked) (inner x)) y n j)
            (λ y n j. more (run_of (list x) y j) (λ f z k. Ending u f z k) (λ f z k. Again None_at x f z) (again x o) (cleared_body u sc clear well at ok body (lock locked x Locked) (inner x) y j n))
            (iteration_count r.from r.last r.step) r.from s e i

        begin : (r : Range) (x : ℕ) (o : Option Fault) → locked x ≡ o → (locked x ≡ None → other u x ≡ true) → Each (first (written o x (content Int r.from)) (λ z. iterations_from (iteration_count r.from r.last r.step) r.from r.step x (list x)))
        begin r x (Some f) e h = λ s n i. tt
        begin r x None e h = λ s n i. loop r x (h e) (put s x (content Int r.from)) (put_off u s x (content Int r.from) (h e) n) i

    mutual
      each_stmt : (s : StmtTree) (locked : Locks) → Off u locked sc.names at → Each (statement_plan s sc at locked)
      each_stmt (tree.stmt n label w) locked off = λ s e i. (
        claimed n (execution w n sc at locked) s i e (cleared_what u sc clear well at ok w n locked off),
        each_what w n locked off s e i,
        nothing_after (execution w n sc at locked) s i,
      )

      each_what : (w : WhatTree) (n : ℕ) (locked : Locks) → Off u locked sc.names at → Each (execution w n sc at locked)
      each_what (tree.assign a b) n locked off = each_first Anything (assigned a b sc.names at locked) (λ o. Ends Normal) (assigned_off u a b sc.names at locked ok off) (yields_any (assigned a b sc.names at locked)) (λ o h s e i. tt)
      each_what (tree.block_if arms rest) n locked off = each_arms arms (else_plan rest sc at locked) locked off (each_else rest locked off)
      each_what (tree.logical_if test s) n locked off =
          each_first Anything (value test sc.names at) _ (fine_value (other u) (other u) test sc.names at ok) (yields_any (value test sc.names at)) (λ c h. each_if (is_true c.number) (statement_plan s sc at locked) (Ends Normal) (each_stmt s locked off) (λ s e i. tt))
      each_what (tree.do_loop l) n locked off = each_do l locked off
      each_what (tree.call x es) n locked off = each_call n x es locked off
      each_what (tree.goto l) n locked off = λ s e i. tt
      each_what tree.continue n locked off = λ s e i. tt
      each_what tree.return n locked off = λ s e i. tt
      each_what (tree.stop text) n locked off = λ s e i. tt
      each_what (tree.print es) n locked off = each_first Anything (all_shown es sc.names at) (λ xs. Show xs (Ends Normal)) (fine_all_shown (other u) (other u) es sc.names at ok) (yields_any (all_shown es sc.names at)) (λ xs h s e i. tt)
      each_what (tree.read es) n locked off = each_first Anything (items_read es sc.names at locked) (λ o. Ends Normal) (items_off u es sc.names at locked ok off) (yields_any (items_read es sc.names at locked)) (λ o h s e i. tt)

      each_arms : (arms : ArmTrees) (rest : Plan) (locked : Locks) → Off u locked sc.names at → Each rest → Each (arms_plan arms sc at locked rest)
      each_arms tree.no_arms rest locked off h = h
      each_arms (tree.more_arms a as') rest locked off h = each_arm a (arms_plan as' sc at locked rest) locked off (each_arms as' rest locked off h)

      each_arm : (a : ArmTree) (rest : Plan) (locked : Locks) → Off u locked sc.names at → Each rest → Each (arm_plan a sc at locked rest)
      each_arm (tree.arm test body) rest locked off h =
          each_first Anything (value test sc.names at) _ (fine_value (other u) (other u) test sc.names at ok) (yields_any (value test sc.names at)) (λ c g. each_if (is_true c.number) (list_plan sc.turns (parts body sc at locked)) rest (each_list (parts body sc at locked) (each_parts body locked off)) h)

      each_else : (o : ElseTree) (locked : Locks) → Off u locked sc.names at → Each (else_plan o sc at locked)
      each_else tree.no_else locked off = λ s e i. tt
      each_else (tree.otherwise body) locked off = each_list (parts body sc at locked) (each_parts body locked off)

      each_do : (l : LoopTree) (locked : Locks) → Off u locked sc.names at → Each (do_plan l sc at locked)
      each_do (tree.loop index e1 e2 e3 body) locked off = each_head index e1 e2 e3 body locked off (λ l o. each_parts body l o)

      each_parts : (ss : StmtTrees) (locked : Locks) → Off u locked sc.names at → Parts (parts ss sc at locked)
      each_parts tree.no_stmts locked off = tt
      each_parts (tree.more_stmts s ss) locked off = (
        λ z e i. (
          each_stmt s locked off z e i,
          more (run_of (statement_plan s sc at locked) z i) (λ f y j. Ending u f y j) (λ f y j. Stays None_at f y) stays_of (cleared_stmt u sc clear well at ok s locked off z i e),
        ),
        each_parts ss locked off,
      )

    each_body : (ss : StmtTrees) (locked : Locks) → Off u locked sc.names at → Each (body_plan ss sc at locked)
    each_body ss locked off = each_list (parts ss sc at locked) (each_parts ss locked off)

  -- ---- modules

  module _ (turns : ℕ) (z : nat_eq 0 u ≡ false) where
    -- a module of whose variables the unit is none, with what it calls. The bounds of its arrays are read, and then its statements come
    pub each_module : (r : Routine) (rs : List Routine) → IsTagged r → FixedOff u r → ((x : List ℕ) → MeaningCleared u (meanings rs turns x)) → ((x : List ℕ) → EndsWell (meanings rs turns x)) → ((x : List ℕ) → EachMeaning (meanings rs turns x)) →
        ((n k : ℕ) → nat_eq (r.own_unit n k) u ≡ false) ⊎ ((x : List ℕ) → Wild (meanings rs turns x)) → (ps : List Place) (locked : Locks) → OffPlaces u locked ps → Each (body_of r turns (meanings rs turns) ps (scalars_bound r.dummies ps r.fixed) locked)
    each_module r rs tagged fixed clear well each own ps locked o =
        let at = scalars_bound r.dummies ps r.fixed in
        let ok = scalars_tagged r.names r.dummies ps r.fixed tagged.dummies tagged.fixed in
        let off = scalars_off u locked r.names r.dummies ps r.fixed z o (λ x v e d k. fixed x v e d) in
        each_first (λ at'. TagsStand r.names at' × Off u locked r.names at') (arrays_bound r.dummies ps r.names at) (λ at'. body_plan r.body (scope r turns (meanings rs turns)) at' (lock_doubly locked r.dummies at' r.common)) (fine_arrays (other u) (other u) r.dummies ps r.names at tagged.dummies ok)
        (yields_both u (TagsStand r.names) (Off u locked r.names) (arrays_bound r.dummies ps r.names at) (arrays_tagged r.dummies ps r.names at tagged.dummies ok) (arrays_off u locked r.dummies ps r.names at z o off))
        (λ at' q. each_body (scope r turns (meanings rs turns)) clear well each own at' q.0 r.body (lock_doubly locked r.dummies at' r.common) (off_more u locked (lock_doubly locked r.dummies at' r.common) r.names at' (doubly_none u locked r.dummies at' r.common) q.1))
