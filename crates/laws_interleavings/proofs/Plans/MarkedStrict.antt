-- A program with marked loops reads no unit without a value, but to fault.
use Rattle.std.proofs.Common.{◌≡◌, ℕ, zero, suc, List, [], ◌∷◌, Option, Some, None, Bool, true, false, refl, sym, subst, ℤ, ◌+ℤ◌}
use Rattle.std.specs.Prelude.{if◌then◌else◌, bytes_eq}
use Rattle.f77_ast.specs.Trees.{StmtTree, StmtTrees, WhatTree, ArmTree, ArmTrees, ElseTree, LoopTree}
use Rattle.f77_ast.specs.Trees as tree
use Rattle.f77_ast.specs.Store.{Int, Content, content}
use Rattle.f77_ast.specs.Faults.{Fault, Locked}
use Rattle.f77_ast.specs.Numbers.{kept, is_true}
use Rattle.f77_ast.specs.Steps.{Faulty, Wants, OutOfTurns, Steps}
use Rattle.f77_ast.specs.Steps as steps
use Rattle.f77_ast.specs.Places.{Place, Places}
use Rattle.f77_ast.specs.Values.{given, value, name_target}
use Rattle.f77_ast.specs.Writes.{Locks, no_locks, lock}
use Rattle.f77_ast.specs.Plans.{Flow, Normal, Jump, Returned, Stopped, Plan}
use Rattle.f77_ast.specs.Plans as plan
use Rattle.f77_ast.specs.Lists.{is_label, list_plan}
use Rattle.f77_ast.specs.Loops.{Range, range_of, iteration_count}
use Rattle.f77_ast.specs.Calls.{actuals, places_of, own_units, lock_own, forget_all, after_call, scalars_bound, arrays_bound, lock_doubly}
use Rattle.f77_ast.specs.Statements.{execution, parts}
use Rattle.f77_ast.specs.Programs.{Routine, meanings}
use Rattle.laws_interleavings.specs.Marks.{MarkedPlan, Ends, Breaks, Look, Set, Hold, Forget, Show, Take, Within, Loop, Reduce}
use Rattle.laws_interleavings.specs.Accumulating.{Reduction, Directive}
use Rattle.laws_interleavings.specs.Strict.{IsFaultPlan, StrictPlan}
use Rattle.laws_interleavings.specs.MarkedStatements.{unmarked, ◌▹▹◌, steps_first, when_normal, MarkedPart, stands, parts_from, go_on, one_by_one, with_jumps, marked_list, marked_iterations, written_first, MarkedScope, reduced_loop, begun_by, marked_statement, marked_execution, marked_arms, marked_arm, marked_else, loop_with, marked_parts}
use Rattle.laws_interleavings.specs.MarkedPrograms.{Directives, forget_units, marked_scope, marked_body, marked_called, marked_meanings}
use Rattle.laws_interleavings.specs.Faults.{IsFault, StepsFault}
use Rattle.laws_interleavings.specs.Typed.{TagsStand, IsNoDummy, IsTagged, AllTagged}
use Rattle.laws_interleavings.specs.Plans.Fine.{IsFine, AreFine, Frees, MeaningFine}
use Rattle.laws_interleavings.specs.Plans.Uses.{MarkedProgramsAreStrict}
use Rattle.laws_interleavings.proofs.Plans.Uses.{strict_of}
use Rattle.laws_interleavings.proofs.Plans.Fine.{Yields, fine_given, fine_value, fine_name_target, fine_range_of, fine_actuals, fine_what, fine_body_list, fine_arrays, arrays_tagged, scalars_tagged, fine_meanings}

-- all units may be written, and changed without an event
abbrev pub all : ℕ → Bool
all u = true

fault_unmarked : (t : Plan) → IsFault t → IsFaultPlan (unmarked t)
fault_unmarked (plan.Breaks (Faulty f)) h = tt
fault_unmarked (plan.Breaks (Wants u)) h = absurd h
fault_unmarked (plan.Breaks OutOfTurns) h = absurd h
fault_unmarked (plan.Ends f) h = absurd h
fault_unmarked (plan.Look u k) h = absurd h
fault_unmarked (plan.Set u c t) h = absurd h
fault_unmarked (plan.Hold u c t) h = absurd h
fault_unmarked (plan.Forget u t) h = absurd h
fault_unmarked (plan.Show xs t) h = absurd h
fault_unmarked (plan.Take k) h = absurd h
fault_unmarked (plan.Within p at t k) h = absurd h

strict_unmarked : (t : Plan) → IsFine all all t → StrictPlan (unmarked t)
strict_unmarked (plan.Ends f) h = tt
strict_unmarked (plan.Breaks b) h = tt
strict_unmarked (plan.Look u k) h = (λ c e. fault_unmarked (k c) (h.1 c e), λ c. strict_unmarked (k c) (h.0 c))
strict_unmarked (plan.Set u c t) h = strict_unmarked t h.1
strict_unmarked (plan.Hold u c t) h = strict_unmarked t h.1
strict_unmarked (plan.Forget u t) h = strict_unmarked t h.1
strict_unmarked (plan.Show xs t) h = strict_unmarked t h
strict_unmarked (plan.Take k) h = λ o. strict_unmarked (k o) (h o)
strict_unmarked (plan.Within p at t k) h = (strict_unmarked t h.0, λ f. strict_unmarked (k f) (h.1 f))

fault_then : (t : MarkedPlan) (f : Flow → MarkedPlan) → IsFaultPlan t → IsFaultPlan (t ▹▹ f)
fault_then (Breaks (Faulty x)) f h = tt
fault_then (Breaks (Wants u)) f h = absurd h
fault_then (Breaks OutOfTurns) f h = absurd h
fault_then (Ends g) f h = absurd h
fault_then (Look u k) f h = absurd h
fault_then (Set u c t) f h = absurd h
fault_then (Hold u c t) f h = absurd h
fault_then (Forget u t) f h = absurd h
fault_then (Show xs t) f h = absurd h
fault_then (Take k) f h = absurd h
fault_then (Within p at t k) f h = absurd h
fault_then (Loop m k) f h = absurd h
fault_then (Reduce d k) f h = absurd h

strict_then : (t : MarkedPlan) (f : Flow → MarkedPlan) → StrictPlan t → ((g : Flow) → StrictPlan (f g)) → StrictPlan (t ▹▹ f)
strict_then (Ends g) f h n = n g
strict_then (Breaks b) f h n = tt
strict_then (Look u k) f h n = (λ c e. fault_then (k c) f (h.0 c e), λ c. strict_then (k c) f (h.1 c) n)
strict_then (Set u c t) f h n = strict_then t f h n
strict_then (Hold u c t) f h n = strict_then t f h n
strict_then (Forget u t) f h n = strict_then t f h n
strict_then (Show xs t) f h n = strict_then t f h n
strict_then (Take k) f h n = λ o. strict_then (k o) f (h o) n
strict_then (Within p at t k) f h n = (h.0, λ g. strict_then (k g) f (h.1 g) n)
strict_then (Loop m k) f h n = (h.0, λ g. strict_then (k g) f (h.1 g) n)
strict_then (Reduce d k) f h n = (h.0, λ g. strict_then (k g) f (h.1 g) n)

fault_first : {A : Type 0} (t : Steps A) (f : A → MarkedPlan) → StepsFault t → IsFaultPlan (steps_first t f)
fault_first (steps.Breaks (Faulty x)) f h = tt
fault_first (steps.Breaks (Wants u)) f h = absurd h
fault_first (steps.Breaks OutOfTurns) f h = absurd h
fault_first (steps.Done a) f h = absurd h
fault_first (steps.Look u k) f h = absurd h
fault_first (steps.Set u c t) f h = absurd h
fault_first (steps.Hold u c t) f h = absurd h
fault_first (steps.Forget u t) f h = absurd h
fault_first (steps.Show xs t) f h = absurd h
fault_first (steps.Take k) f h = absurd h
fault_first (steps.Arrive p t) f h = absurd h

strict_first_so : {A : Type 0} (P : A → Type 0) (t : Steps A) (f : A → MarkedPlan) → AreFine all all t → Yields P t → ((a : A) → P a → StrictPlan (f a)) → StrictPlan (steps_first t f)
strict_first_so P (steps.Done a) f h y n = n a y
strict_first_so P (steps.Breaks b) f h y n = tt
strict_first_so P (steps.Look u k) f h y n = (λ c e. fault_first (k c) f (h.1 c e), λ c. strict_first_so P (k c) f (h.0 c) (y c) n)
strict_first_so P (steps.Set u c t) f h y n = strict_first_so P t f h.1 y n
strict_first_so P (steps.Hold u c t) f h y n = strict_first_so P t f h.1 y n
strict_first_so P (steps.Forget u t) f h y n = strict_first_so P t f h.1 y n
strict_first_so P (steps.Show xs t) f h y n = strict_first_so P t f h y n
strict_first_so P (steps.Take k) f h y n = λ o. strict_first_so P (k o) f (h o) (y o) n
strict_first_so P (steps.Arrive p t) f h y n = strict_first_so P t f h y n

strict_first : {A : Type 0} (t : Steps A) (f : A → MarkedPlan) → AreFine all all t → ((a : A) → StrictPlan (f a)) → StrictPlan (steps_first t f)
strict_first (steps.Done a) f h n = n a
strict_first (steps.Breaks b) f h n = tt
strict_first (steps.Look u k) f h n = (λ c e. fault_first (k c) f (h.1 c e), λ c. strict_first (k c) f (h.0 c) n)
strict_first (steps.Set u c t) f h n = strict_first t f h.1 n
strict_first (steps.Hold u c t) f h n = strict_first t f h.1 n
strict_first (steps.Forget u t) f h n = strict_first t f h.1 n
strict_first (steps.Show xs t) f h n = strict_first t f h n
strict_first (steps.Take k) f h n = λ o. strict_first (k o) f (h o) n
strict_first (steps.Arrive p t) f h n = strict_first t f h n

strict_normal : (f : Flow) (t : MarkedPlan) → StrictPlan t → StrictPlan (when_normal f t)
strict_normal Normal t h = h
strict_normal (Jump l) t h = tt
strict_normal Returned t h = tt
strict_normal Stopped t h = tt

strict_if : (b : Bool) (t z : MarkedPlan) → StrictPlan t → StrictPlan z → StrictPlan (if b then t else z)
strict_if true t z h g = h
strict_if false t z h g = g

-- ---- lists

abbrev PartsStrict : List MarkedPart → Type 0
PartsStrict [] = Unit {0}
PartsStrict (q ∷ qs) = StrictPlan q.does × PartsStrict qs

strict_from : (l : ℕ) (qs : List MarkedPart) → PartsStrict qs → PartsStrict (parts_from l qs)
strict_from l [] h = tt
strict_from l (q ∷ qs) h = go (is_label l q.label) (strict_from l qs h.1)
  where
    go : (b : Bool) → PartsStrict (parts_from l qs) → PartsStrict (if b then q ∷ qs else parts_from l qs)
    go true ih = h
    go false ih = ih

strict_go_on : (jump : ℕ → MarkedPlan) (all' : List MarkedPart) (rest : MarkedPlan) → ((l : ℕ) → StrictPlan (jump l)) → StrictPlan rest → (g : Flow) → StrictPlan (go_on jump all' rest g)
strict_go_on jump all' rest j h Normal = h
strict_go_on jump all' rest j h (Jump l) = strict_if (stands l all') (jump l) (Ends (Jump l)) (j l) tt
strict_go_on jump all' rest j h Returned = tt
strict_go_on jump all' rest j h Stopped = tt

strict_one : (jump : ℕ → MarkedPlan) (all' qs : List MarkedPart) → ((l : ℕ) → StrictPlan (jump l)) → PartsStrict qs → StrictPlan (one_by_one jump all' qs)
strict_one jump all' [] j h = tt
strict_one jump all' (q ∷ qs) j h = strict_then q.does (go_on jump all' (one_by_one jump all' qs)) h.0 (strict_go_on jump all' (one_by_one jump all' qs) j (strict_one jump all' qs j h.1))

strict_jumps : (n : ℕ) (all' qs : List MarkedPart) → PartsStrict all' → PartsStrict qs → StrictPlan (with_jumps n all' qs)
strict_jumps zero all' qs a h = strict_one (λ l. Breaks OutOfTurns) all' qs (λ l. tt) h
strict_jumps (suc n) all' qs a h = strict_one (λ l. with_jumps n all' (parts_from l all')) all' qs (λ l. strict_jumps n all' (parts_from l all') a (strict_from l all' a)) h

strict_list : (turns : ℕ) (qs : List MarkedPart) → PartsStrict qs → StrictPlan (marked_list turns qs)
strict_list turns qs h = strict_jumps turns qs qs h h

strict_iterations : (k : ℕ) (n step : ℤ) (u : ℕ) (body : MarkedPlan) → StrictPlan body → StrictPlan (marked_iterations k n step u body)
strict_iterations zero n step u body h = tt
strict_iterations (suc k) n step u body h =
    strict_then body (λ f. when_normal f (steps_first (given Int (kept (n +ℤ step))) (λ c. Set u c (marked_iterations k c.number step u body)))) h
    (λ f. strict_normal f (steps_first (given Int (kept (n +ℤ step))) (λ c. Set u c (marked_iterations k c.number step u body)))
    (strict_first (given Int (kept (n +ℤ step))) (λ c. Set u c (marked_iterations k c.number step u body)) (fine_given all all Int (kept (n +ℤ step))) (λ c. strict_iterations k c.number step u body h)))

strict_begins : (o : Option Fault) (u : ℕ) (c : Content) (t : MarkedPlan) → StrictPlan t → StrictPlan (written_first o u c t)
strict_begins None u c t h = h
strict_begins (Some f) u c t h = tt

frees : (locked : Locks) → Frees locked all
frees locked u e = refl

-- ---- statements

module _ (sc : MarkedScope) (marked_callee : (x : List ℕ) (ps : List Place) (locked : Locks) → StrictPlan ((sc.callee x).does ps locked)) (plain_callee : (x : List ℕ) → ((u : ℕ) → (sc.callee x).own u ≡ true → all u ≡ true) → MeaningFine all all (sc.plain.callee x)) (at : Places) (ok : TagsStand sc.plain.names at) where
  strict_loop : (rs : List Reduction) (d : Directive) (body : StmtTrees) (r : Range) (u : ℕ) (locked : Locks) (o : Option Fault) → StrictPlan (begun_by rs o (reduced_loop d sc body at r u locked))
  strict_loop [] d body r u locked None = (strict_of all all (list_plan sc.plain.turns (parts body sc.plain at locked)) (fine_body_list all all sc plain_callee at ok body locked (frees locked) (λ v e. refl)), λ f. tt)
  strict_loop (p ∷ ps) d body r u locked None = (strict_of all all (list_plan sc.plain.turns (parts body sc.plain at locked)) (fine_body_list all all sc plain_callee at ok body locked (frees locked) (λ v e. refl)), λ f. tt)
  strict_loop [] d body r u locked (Some f) = tt
  strict_loop (p ∷ ps) d body r u locked (Some f) = tt

  mutual
    strict_stmt : (s : StmtTree) (locked : Locks) → StrictPlan (marked_statement s sc at locked)
    strict_stmt (tree.stmt n label w) locked = (strict_what w n locked, λ f. tt)

    strict_what : (w : WhatTree) (n : ℕ) (locked : Locks) → StrictPlan (marked_execution w n sc at locked)
    strict_what (tree.assign a b) n locked = strict_unmarked (execution (tree.assign a b) n sc.plain at locked) (fine_what all all sc plain_callee at ok (tree.assign a b) n None locked (frees locked) (λ u e. refl))
    strict_what (tree.block_if arms rest) n locked = strict_arms arms (marked_else rest sc at locked) locked (strict_else rest locked)
    strict_what (tree.logical_if test s) n locked =
        strict_first (value test sc.plain.names at) _ (fine_value all all test sc.plain.names at ok) (λ c. strict_if (is_true c.number) (marked_statement s sc at locked) (Ends Normal) (strict_stmt s locked) tt)
    strict_what (tree.do_loop l) n locked = strict_do (sc.marks n) l locked
    strict_what (tree.call x es) n locked =
        strict_first (actuals es 0 sc.plain.names at (sc.plain.own_unit n)) _ (fine_actuals all all es 0 sc.plain.names at ok (sc.plain.own_unit n) (λ i l m. refl))
        (λ xs. strict_then ((sc.callee x).does (places_of xs) (lock_own locked (own_units xs))) (λ f. unmarked (after_call (own_units xs) f)) (marked_callee x (places_of xs) (lock_own locked (own_units xs))) (λ f. after (own_units xs) f))
      where
        forgets : (us : List ℕ) → StrictPlan (unmarked (forget_all us (plan.Ends Normal)))
        forgets [] = tt
        forgets (u ∷ us) = forgets us

        after : (us : List ℕ) (f : Flow) → StrictPlan (unmarked (after_call us f))
        after us Normal = forgets us
        after us Returned = forgets us
        after us Stopped = tt
        after us (Jump l) = tt
    strict_what (tree.goto l) n locked = tt
    strict_what tree.continue n locked = tt
    strict_what tree.return n locked = tt
    strict_what (tree.stop text) n locked = tt
    strict_what (tree.print es) n locked = strict_unmarked (execution (tree.print es) n sc.plain at locked) (fine_what all all sc plain_callee at ok (tree.print es) n None locked (frees locked) (λ u e. refl))
    strict_what (tree.read es) n locked = strict_unmarked (execution (tree.read es) n sc.plain at locked) (fine_what all all sc plain_callee at ok (tree.read es) n None locked (frees locked) (λ u e. refl))

    strict_arms : (arms : ArmTrees) (rest : MarkedPlan) (locked : Locks) → StrictPlan rest → StrictPlan (marked_arms arms sc at locked rest)
    strict_arms tree.no_arms rest locked h = h
    strict_arms (tree.more_arms a more) rest locked h = strict_arm a (marked_arms more sc at locked rest) locked (strict_arms more rest locked h)

    strict_arm : (a : ArmTree) (rest : MarkedPlan) (locked : Locks) → StrictPlan rest → StrictPlan (marked_arm a sc at locked rest)
    strict_arm (tree.arm test body) rest locked h =
        strict_first (value test sc.plain.names at) _ (fine_value all all test sc.plain.names at ok) (λ c. strict_if (is_true c.number) (marked_list sc.plain.turns (marked_parts body sc at locked)) rest (strict_list sc.plain.turns (marked_parts body sc at locked) (strict_parts body locked)) h)

    strict_else : (o : ElseTree) (locked : Locks) → StrictPlan (marked_else o sc at locked)
    strict_else tree.no_else locked = tt
    strict_else (tree.otherwise body) locked = strict_list sc.plain.turns (marked_parts body sc at locked) (strict_parts body locked)

    strict_do : (o : Option Directive) (l : LoopTree) (locked : Locks) → StrictPlan (loop_with o l sc at locked)
    strict_do None (tree.loop index e1 e2 e3 body) locked =
        strict_first (range_of e1 e2 e3 sc.plain.names at) _ (fine_range_of all all e1 e2 e3 sc.plain.names at ok)
        (λ r. strict_first (name_target (sc.plain.names index) at) _ (fine_name_target all all (sc.plain.names index) at)
        (λ t. strict_begins (locked t.unit) t.unit (content Int r.from) _
        (strict_iterations (iteration_count r.from r.last r.step) r.from r.step t.unit (marked_list sc.plain.turns (marked_parts body sc at (lock locked t.unit Locked)))
        (strict_list sc.plain.turns (marked_parts body sc at (lock locked t.unit Locked)) (strict_parts body (lock locked t.unit Locked))))))
    strict_do (Some d) (tree.loop index e1 e2 e3 body) locked =
        strict_first (range_of e1 e2 e3 sc.plain.names at) _ (fine_range_of all all e1 e2 e3 sc.plain.names at ok)
        (λ r. strict_first (name_target (sc.plain.names index) at) _ (fine_name_target all all (sc.plain.names index) at)
        (λ t. strict_loop d.reductions d body r t.unit (lock locked t.unit Locked) (locked t.unit)))

    strict_parts : (ss : StmtTrees) (locked : Locks) → PartsStrict (marked_parts ss sc at locked)
    strict_parts tree.no_stmts locked = tt
    strict_parts (tree.more_stmts s ss) locked = (strict_stmt s locked, strict_parts ss locked)

-- ---- modules

strict_forget : (us : List ℕ) (t : MarkedPlan) → StrictPlan t → StrictPlan (forget_units us t)
strict_forget [] t h = h
strict_forget (u ∷ us) t h = strict_forget us t h

strict_after : (us : List ℕ) (f : Flow) → StrictPlan (unmarked (after_call us f))
strict_after us Normal = forgets us
  where
    forgets : (us : List ℕ) → StrictPlan (unmarked (forget_all us (plan.Ends Normal)))
    forgets [] = tt
    forgets (u ∷ us) = forgets us
strict_after us Returned = forgets us
  where
    forgets : (us : List ℕ) → StrictPlan (unmarked (forget_all us (plan.Ends Normal)))
    forgets [] = tt
    forgets (u ∷ us) = forgets us
strict_after us Stopped = tt
strict_after us (Jump l) = tt

module _ (turns : ℕ) (marks : Directives) where
  abbrev scope_in : Routine → List Routine → MarkedScope
  scope_in r rs = marked_scope r turns marks (meanings rs turns) (marked_meanings rs turns marks)

  abbrev CallsStrict : List Routine → Type 0
  CallsStrict rs = (x : List ℕ) (ps : List Place) (locked : Locks) → StrictPlan ((marked_meanings rs turns marks x).does ps locked)

  strict_body : (r : Routine) (rs : List Routine) → IsTagged r → AllTagged rs → CallsStrict rs → (ps : List Place) (at : Places) (locked : Locks) → TagsStand r.names at → StrictPlan (marked_body r (scope_in r rs) ps at locked)
  strict_body r rs tagged rest h ps at locked ok =
      strict_first_so (TagsStand r.names) (arrays_bound r.dummies ps r.names at) _ (fine_arrays all all r.dummies ps r.names at tagged.dummies ok) (arrays_tagged r.dummies ps r.names at tagged.dummies ok)
      (λ at' ok'. strict_list turns (marked_parts r.body (scope_in r rs) at' (lock_doubly locked r.dummies at' r.common)) (strict_parts (scope_in r rs) h (fine_meanings all all turns marks rs rest) at' ok' r.body (lock_doubly locked r.dummies at' r.common)))

  strict_called : (r : Routine) (rs : List Routine) → IsTagged r → AllTagged rs → CallsStrict rs → (ps : List Place) (locked : Locks) → StrictPlan ((marked_called r (scope_in r rs)).does ps locked)
  strict_called r rs tagged rest h ps locked =
      let at = scalars_bound r.dummies ps r.fixed in
      (strict_forget r.locals (marked_body r (scope_in r rs) ps at locked) (strict_body r rs tagged rest h ps at locked (scalars_tagged r.names r.dummies ps r.fixed tagged.dummies tagged.fixed)), strict_after r.locals)

  strict_meanings : (rs : List Routine) → AllTagged rs → CallsStrict rs
  strict_meanings [] o x = λ ps locked. tt
  strict_meanings (r ∷ rs) o x = either (strict_called r rs o.0 o.1 (λ y. strict_meanings rs o.1 y)) (strict_meanings rs o.1 x) (bytes_eq x r.name)
    where
      either : ((ps : List Place) (locked : Locks) → StrictPlan ((marked_called r (scope_in r rs)).does ps locked)) → ((ps : List Place) (locked : Locks) → StrictPlan ((marked_meanings rs turns marks x).does ps locked)) → (b : Bool) →
          (ps : List Place) (locked : Locks) → StrictPlan ((if b then marked_called r (scope_in r rs) else marked_meanings rs turns marks x).does ps locked)
      either g h true = g
      either g h false = h

pub strict : MarkedProgramsAreStrict
strict p turns marks none main others =
    (strict_body turns marks p.main p.others main others (strict_meanings turns marks p.others others) [] p.main.fixed no_locks (λ x v e. main.fixed x v e (subst (λ ds. IsNoDummy ds v) (sym none) tt)), λ f. tt)
