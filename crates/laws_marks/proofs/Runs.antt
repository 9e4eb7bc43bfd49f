-- In each statement of a program, and so in its run, each marked loop stands in the execution of its DO.
use Rattle.std.proofs.Common.{◌≡◌, ◌⊎◌, inl, inr, ℕ, List, [], ◌∷◌, Option, Some, None, Bool, true, false, refl, sym, ap, ◌∙◌, subst, nat_eq, bytes_eq, true≢false, arith}
use Rattle.std.specs.Prelude.{if◌then◌else◌}
use Rattle.std.proofs.lemmas.Bool.Decides.{nat_tests}
use Rattle.f77_ast.specs.Trees.{StmtTree, StmtTrees, WhatTree, ArmTree, ArmTrees, ElseTree, LoopTree, ExprTree}
use Rattle.f77_ast.specs.Trees as tree
use Rattle.f77_ast.specs.Store.{Int, Content, Store, content}
use Rattle.f77_ast.specs.Faults.{Fault, Locked}
use Rattle.f77_ast.specs.Numbers.{is_true}
use Rattle.f77_ast.specs.Steps.{Steps}
use Rattle.f77_ast.specs.Steps as steps
use Rattle.f77_ast.specs.Runs.{Event, Answer, Gave, Broke, Ran, Whole, run, store_of}
use Rattle.f77_ast.specs.Places.{Names, Place, Places}
use Rattle.f77_ast.specs.Values.{value, Target, name_target}
use Rattle.f77_ast.specs.Writes.{Locks, no_locks, lock}
use Rattle.f77_ast.specs.Plans.{Flow, Normal, Plan}
use Rattle.f77_ast.specs.Loops.{Range, range_of, iteration_count}
use Rattle.f77_ast.specs.Calls.{actuals, places_of, own_units, lock_own, after_call, scalars_bound, arrays_bound, lock_doubly}
use Rattle.f77_ast.specs.Statements.{spot, execution, do_plan}
use Rattle.f77_ast.specs.Programs.{Routine, meanings}
use Rattle.f77_ast.proofs.StepLaws.{at_end_more}
use Rattle.f77_meaning.specs.Occurrences.{events_after}
use Rattle.laws_interleavings.specs.Marks.{MarkedPlan, Ends, plain, plain_run}
use Rattle.laws_interleavings.specs.MarkedStatements.{unmarked, marked_list, MarkedScope, reduced_loop, marked_statement, marked_execution, marked_arms, marked_arm, marked_else, loop_with, marked_parts}
use Rattle.laws_interleavings.specs.Accumulating.{Directive}
use Rattle.laws_interleavings.specs.MarkedPrograms.{Directives, forget_units, marked_scope, marked_body, marked_called, marked_meanings, marked_program}
use Rattle.laws_interleavings.specs.Holds.{LoopHolds, MarksHold}
use Rattle.laws_interleavings.proofs.Plain.{first_same, begins_by, program_same}
use Rattle.laws_marks.specs.ConflictExecutions.{Execution}
use Rattle.laws_interleavings.specs.Typed.{TagsStand, IsTagged, AllTagged, IsNoDummy}
use Rattle.laws_interleavings.specs.Plans.Cleared.{OffPlaces, Off}
use Rattle.laws_interleavings.proofs.Plans.Fine.{Yields, scalars_tagged, arrays_tagged}
use Rattle.laws_interleavings.proofs.Plans.Cleared.{ActualsOff, off_more, own_none, lock_none, doubly_none, held_locked, actuals_off, places_off, scalars_off, arrays_off}
use Rattle.laws_marks.specs.Rests.{EachWithRest}
use Rattle.laws_marks.specs.RunLaws.{MarksHoldInRuns}
use Rattle.laws_marks.specs.Loops.{StmtDos, WhatDos, LoopDos, ArmsDos, ArmDos, ElseDos, ListDos, AreOff, MarkedDoHolds, IsOutside, AreOutside, RoutineHolds, RoutinesHold}
use Rattle.laws_marks.proofs.Fit.{Direct, Fit, held, fit_unmarked, fit_then, fit_first, fit_after, fit_if, PartsFit, fit_list, fit_iterations, fit_begins, first_marks}

-- what holds of each unit
yields_all : {A : Type 0} (units : ℕ → Type 0) (P : ℕ → A → Type 0) (t : Steps A) → ((u : ℕ) → units u → Yields (P u) t) → Yields (λ a. (u : ℕ) → units u → P u a) t
yields_all units P (steps.Done a) h = h
yields_all units P (steps.Breaks b) h = tt
yields_all units P (steps.Look u k) h = λ c. yields_all units P (k c) (λ x e. h x e c)
yields_all units P (steps.Set u c t) h = yields_all units P t h
yields_all units P (steps.Hold u c t) h = yields_all units P t h
yields_all units P (steps.Forget u t) h = yields_all units P t h
yields_all units P (steps.Show xs t) h = yields_all units P t h
yields_all units P (steps.Take k) h = λ o. yields_all units P (k o) (λ x e. h x e o)
yields_all units P (steps.Arrive p t) h = yields_all units P t h

yields_with : {A : Type 0} (P Q : A → Type 0) (t : Steps A) → Yields P t → Yields Q t → Yields (λ a. P a × Q a) t
yields_with P Q (steps.Done a) y q = (y, q)
yields_with P Q (steps.Breaks b) y q = tt
yields_with P Q (steps.Look x k) y q = λ c. yields_with P Q (k c) (y c) (q c)
yields_with P Q (steps.Set x c t) y q = yields_with P Q t y q
yields_with P Q (steps.Hold x c t) y q = yields_with P Q t y q
yields_with P Q (steps.Forget x t) y q = yields_with P Q t y q
yields_with P Q (steps.Show xs t) y q = yields_with P Q t y q
yields_with P Q (steps.Take k) y q = λ o. yields_with P Q (k o) (y o) (q o)
yields_with P Q (steps.Arrive p t) y q = yields_with P Q t y q

module _ (units : ℕ → Type 0) (C : Execution → List Event → Type 0) where
  abbrev PlacesOff : Locks → List Place → Type 0
  PlacesOff locked ps = (u : ℕ) → units u → OffPlaces u locked ps

  off_locked : (locked : Locks) (x : ℕ) (w : Names) (at : Places) → AreOff units locked w at → AreOff units (lock locked x Locked) w at
  off_locked locked x w at h u e = off_more u locked (lock locked x Locked) w at (lock_none u locked x u Locked) (h u e)

  -- ---- statements

  module _ (sc : MarkedScope) (callees : (x : List ℕ) (ps : List Place) (locked : Locks) → PlacesOff locked ps → Fit C ((sc.callee x).does ps locked)) (at : Places) (ok : TagsStand sc.plain.names at) where
    abbrev Offs : Locks → Type 0
    Offs locked = AreOff units locked sc.plain.names at

    abbrev P : ℕ → LoopTree → Type 0
    P = MarkedDoHolds units C sc

    forgets : (us : List ℕ) (f : Flow) → Fit C (unmarked (after_call us f))
    forgets us f = fit_unmarked C (after_call us f)

    same_do : (e : Directive) (l : LoopTree) (locked : Locks) → plain (loop_with (Some e) l sc at locked) ≡ do_plan l sc.plain at locked
    same_do e (tree.loop index e1 e2 e3 body) locked =
        first_same (range_of e1 e2 e3 sc.plain.names at) _ _
        (λ r. first_same (name_target (sc.plain.names index) at) _ _ (λ t. begins_by e.reductions (locked t.unit) (reduced_loop e sc body at r t.unit (lock locked t.unit Locked))))

    mutual
      fit_stmt : (s : StmtTree) → StmtDos P s → (locked : Locks) → Offs locked → Fit C (marked_statement s sc at locked)
      fit_stmt (tree.stmt n label w) d locked off = (fit_what w n d locked off, λ f. tt)

      fit_what : (w : WhatTree) (n : ℕ) → WhatDos P n w → (locked : Locks) → Offs locked → Fit C (marked_execution w n sc at locked) ⊎ Direct C (spot sc.plain.module_name n) at (marked_execution w n sc at locked)
      fit_what (tree.assign a b) n d locked off = inl (fit_unmarked C (execution (tree.assign a b) n sc.plain at locked))
      fit_what (tree.block_if arms rest) n d locked off = inl (fit_arms arms d.0 (marked_else rest sc at locked) locked off (fit_else rest d.1 locked off))
      fit_what (tree.logical_if test s) n d locked off =
          inl (fit_after C (value test sc.plain.names at) (λ c. if is_true c.number then marked_statement s sc at locked else Ends Normal) (λ c. fit_if C (is_true c.number) (marked_statement s sc at locked) (Ends Normal) (fit_stmt s d locked off) tt))
      fit_what (tree.do_loop l) n d locked off = fit_do n l d (sc.marks n) refl locked off
      fit_what (tree.call x es) n d locked off =
          inl (fit_first C (λ xs. (u : ℕ) → units u → ActualsOff u locked xs) (actuals es 0 sc.plain.names at (sc.plain.own_unit n)) _
          (yields_all units (λ u. ActualsOff u locked) (actuals es 0 sc.plain.names at (sc.plain.own_unit n)) (λ u e. actuals_off u locked es 0 sc.plain.names at (sc.plain.own_unit n) (off u e)))
          (λ xs h. fit_then C ((sc.callee x).does (places_of xs) (lock_own locked (own_units xs))) (λ f. unmarked (after_call (own_units xs) f))
          (callees x (places_of xs) (lock_own locked (own_units xs)) (λ u e. places_off u locked (lock_own locked (own_units xs)) (own_none u locked (own_units xs)) xs (held_locked u locked (own_units xs)) (h u e))) (λ f. forgets (own_units xs) f)))
      fit_what (tree.goto l) n d locked off = inl tt
      fit_what tree.continue n d locked off = inl tt
      fit_what tree.return n d locked off = inl tt
      fit_what (tree.stop text) n d locked off = inl tt
      fit_what (tree.print es) n d locked off = inl (fit_unmarked C (execution (tree.print es) n sc.plain at locked))
      fit_what (tree.read es) n d locked off = inl (fit_unmarked C (execution (tree.read es) n sc.plain at locked))

      fit_arms : (arms : ArmTrees) → ArmsDos P arms → (rest : MarkedPlan) (locked : Locks) → Offs locked → Fit C rest → Fit C (marked_arms arms sc at locked rest)
      fit_arms tree.no_arms d rest locked off h = h
      fit_arms (tree.more_arms a more) d rest locked off h = fit_arm a d.0 (marked_arms more sc at locked rest) locked off (fit_arms more d.1 rest locked off h)

      fit_arm : (a : ArmTree) → ArmDos P a → (rest : MarkedPlan) (locked : Locks) → Offs locked → Fit C rest → Fit C (marked_arm a sc at locked rest)
      fit_arm (tree.arm test body) d rest locked off h =
          fit_after C (value test sc.plain.names at) (λ c. if is_true c.number then marked_list sc.plain.turns (marked_parts body sc at locked) else rest)
          (λ c. fit_if C (is_true c.number) (marked_list sc.plain.turns (marked_parts body sc at locked)) rest (fit_list C sc.plain.turns (marked_parts body sc at locked) (fit_parts body d locked off)) h)

      fit_else : (o : ElseTree) → ElseDos P o → (locked : Locks) → Offs locked → Fit C (marked_else o sc at locked)
      fit_else tree.no_else d locked off = tt
      fit_else (tree.otherwise body) d locked off = fit_list C sc.plain.turns (marked_parts body sc at locked) (fit_parts body d locked off)

      fit_do : (n : ℕ) (l : LoopTree) → P n l × LoopDos P l → (o : Option Directive) → sc.marks n ≡ o → (locked : Locks) → Offs locked → Fit C (loop_with o l sc at locked) ⊎ Direct C (spot sc.plain.module_name n) at (loop_with o l sc at locked)
      fit_do n (tree.loop index e1 e2 e3 body) d None e locked off =
          inl (fit_after C (range_of e1 e2 e3 sc.plain.names at) _
          (λ r. fit_after C (name_target (sc.plain.names index) at) _
          (λ t. fit_begins C (locked t.unit) t.unit (content Int r.from) _
          (fit_iterations C (iteration_count r.from r.last r.step) r.from r.step t.unit (marked_list sc.plain.turns (marked_parts body sc at (lock locked t.unit Locked)))
          (fit_list C sc.plain.turns (marked_parts body sc at (lock locked t.unit Locked)) (fit_parts body d.1 (lock locked t.unit Locked) (off_locked locked t.unit sc.plain.names at off)))))))
      fit_do n l d (Some x) e locked off =
          inr (λ s i later c. d.0 x e at locked ok off s i later (subst (λ (t : Plan). C (record { spot = spot sc.plain.module_name n; places = at; does = t; start = s; input = i }) later) (same_do x l locked) c))

      fit_parts : (ss : StmtTrees) → ListDos P ss → (locked : Locks) → Offs locked → PartsFit C (marked_parts ss sc at locked)
      fit_parts tree.no_stmts d locked off = tt
      fit_parts (tree.more_stmts s ss) d locked off = (fit_stmt s d.0 locked off, fit_parts ss d.1 locked off)

-- ---- modules

fit_forget : (C : Execution → List Event → Type 0) (us : List ℕ) (t : MarkedPlan) → Fit C t → Fit C (forget_units us t)
fit_forget C [] t h = h
fit_forget C (u ∷ us) t h = fit_forget C us t h

-- units of the modules that stand in a list, which all that stand before them have as well, and none of which is the unit of what has none
module _ (units : List Routine → ℕ → Type 0) (more : (r : Routine) (rs : List Routine) (u : ℕ) → units rs u → units (r ∷ rs) u) (zero_off : (rs : List Routine) (u : ℕ) → units rs u → nat_eq 0 u ≡ false) (C : Execution → List Event → Type 0) (turns : ℕ) (marks : Directives) where
  abbrev scope_in : Routine → List Routine → MarkedScope
  scope_in r rs = marked_scope r turns marks (meanings rs turns) (marked_meanings rs turns marks)

  abbrev AllOff : (ℕ → Type 0) → Locks → List Place → Type 0
  AllOff V locked ps = (u : ℕ) → V u → OffPlaces u locked ps

  abbrev CallsFit : List Routine → (ℕ → Type 0) → Type 0
  CallsFit rs V = (x : List ℕ) (ps : List Place) (locked : Locks) → AllOff V locked ps → Fit C ((marked_meanings rs turns marks x).does ps locked)

  fit_body : (r : Routine) (rs : List Routine) → IsTagged r → RoutineHolds turns marks units C r rs → CallsFit rs (units (r ∷ rs)) → (ps : List Place) (at : Places) (locked : Locks) → AllOff (units (r ∷ rs)) locked ps → TagsStand r.names at → AreOff (units (r ∷ rs)) locked r.names at →
      Fit C (marked_body r (scope_in r rs) ps at locked)
  fit_body r rs tagged d h ps at locked o ok off =
      fit_first C (λ at'. TagsStand r.names at' × AreOff (units (r ∷ rs)) locked r.names at') (arrays_bound r.dummies ps r.names at) _
      (yields_with (TagsStand r.names) (AreOff (units (r ∷ rs)) locked r.names) (arrays_bound r.dummies ps r.names at) (arrays_tagged r.dummies ps r.names at tagged.dummies ok)
      (yields_all (units (r ∷ rs)) (λ u. Off u locked r.names) (arrays_bound r.dummies ps r.names at) (λ u e. arrays_off u locked r.dummies ps r.names at (zero_off (r ∷ rs) u e) (o u e) (off u e))))
      (λ at' q. fit_list C turns (marked_parts r.body (scope_in r rs) at' (lock_doubly locked r.dummies at' r.common))
      (fit_parts (units (r ∷ rs)) C (scope_in r rs) h at' q.0 r.body d (lock_doubly locked r.dummies at' r.common)
      (λ u e. off_more u locked (lock_doubly locked r.dummies at' r.common) r.names at' (doubly_none u locked r.dummies at' r.common) (q.1 u e))))

  fit_called : (r : Routine) (rs : List Routine) → IsTagged r → ((u : ℕ) → units (r ∷ rs) u → IsOutside u r) → RoutineHolds turns marks units C r rs → CallsFit rs (units (r ∷ rs)) → (ps : List Place) (locked : Locks) → AllOff (units (r ∷ rs)) locked ps → Fit C ((marked_called r (scope_in r rs)).does ps locked)
  fit_called r rs tagged out d h ps locked o =
      let at = scalars_bound r.dummies ps r.fixed in (
        inl
            (fit_forget C r.locals (marked_body r (scope_in r rs) ps at locked)
            (fit_body r rs tagged d h ps at locked o (scalars_tagged r.names r.dummies ps r.fixed tagged.dummies tagged.fixed)
            (λ u e. scalars_off u locked r.names r.dummies ps r.fixed (zero_off (r ∷ rs) u e) (o u e) (λ x v g k m. out u e x v g k)))),
        λ f. fit_unmarked C (after_call r.locals f),
      )

  -- what has them is called with places where they are not
  fit_meanings : (rs : List Routine) → AllTagged rs → AreOutside units rs → RoutinesHold turns marks units C rs → (V : ℕ → Type 0) → ((u : ℕ) → units rs u → V u) → CallsFit rs V
  fit_meanings [] t o d V w x ps locked q = tt
  fit_meanings (r ∷ rs) t o d V w x ps locked q =
      either (λ p. fit_called r rs t.0 o.0 d.0 (fit_meanings rs t.1 o.1 d.1 (units (r ∷ rs)) (more r rs)) ps locked (λ u e. p u (w u e))) (λ p. fit_meanings rs t.1 o.1 d.1 V (λ u e. w u (more r rs u e)) x ps locked p) (bytes_eq x r.name) q
    where
      either : (AllOff V locked ps → Fit C ((marked_called r (scope_in r rs)).does ps locked)) → (AllOff V locked ps → Fit C ((marked_meanings rs turns marks x).does ps locked)) →
          (b : Bool) → AllOff V locked ps → Fit C ((if b then marked_called r (scope_in r rs) else marked_meanings rs turns marks x).does ps locked)
      either g h true = g
      either g h false = h

-- ---- a program

nothing_after : (q : Ran Flow) → events_after q (λ f s i. []) ≡ []
nothing_after q = go q.answer
  where
    go : (a : Answer Flow) → events_after (record { answer = a; memory = q.memory; input = q.input; trace = q.trace }) (λ f s i. []) ≡ []
    go (Gave f) = refl
    go (Broke b) = refl

pub in_runs : MarksHoldInRuns
in_runs p turns marks units C none main others more z out d ds input e =
    let m = marked_program p turns marks in
    let body = fit_body units more z C turns marks p.main p.others main d (fit_meanings units more z C turns marks p.others others out.1 ds (units (p.main ∷ p.others)) (more p.main p.others)) [] p.main.fixed no_locks (λ u g. tt)
    (λ x v g. main.fixed x v g (subst (λ ds. IsNoDummy ds v) (sym none) tt)) (λ u g x v f k. out.0 u g x v f (subst (λ ds. IsNoDummy ds v) (sym none) tt)) in
    let fit : Fit C m = (inl body, λ f. tt) in
    let each = subst (λ (t : Plan). EachWithRest C t p.initial input (λ f s i. [])) (sym (program_same turns marks p)) e in
    subst (λ (l : List Event). MarksHold m p.initial input l) (nothing_after (plain_run m p.initial input)) (held C m fit p.initial input (λ f s i. []) each)
