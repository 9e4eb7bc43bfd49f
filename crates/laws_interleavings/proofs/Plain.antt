-- A program with marked loops, without its marks, is the program.
use Rattle.std.proofs.Common.{◌≡◌, ℕ, zero, suc, List, [], ◌∷◌, map, Option, Some, None, Bool, true, false, ◌||◌, refl, sym, ap, ◌∙◌, ℤ, ◌+ℤ◌}
use Rattle.std.specs.Prelude.{if◌then◌else◌, bytes_eq}
use Rattle.f77_ast.specs.Trees.{StmtTree, StmtTrees, WhatTree, ArmTree, ArmTrees, ElseTree, LoopTree}
use Rattle.f77_ast.specs.Trees as tree
use Rattle.f77_ast.specs.Store.{Int, Content, content}
use Rattle.f77_ast.specs.Faults.{Fault, Locked}
use Rattle.f77_ast.specs.Numbers.{kept, is_true}
use Rattle.f77_ast.specs.Steps.{Faulty, OutOfTurns, Steps}
use Rattle.f77_ast.specs.Steps as steps
use Rattle.f77_ast.specs.Places.{Place, Places}
use Rattle.f77_ast.specs.Values.{given, value, name_target}
use Rattle.f77_ast.specs.Writes.{Locks, no_locks, lock, written}
use Rattle.f77_ast.specs.Plans.{Flow, Normal, Jump, Returned, Stopped, Plan, first, on_normal, ◌▹◌}
use Rattle.f77_ast.specs.Plans as plan
use Rattle.f77_ast.specs.Lists.{Part, is_label, has_label, from_label, in_order, list_plan}
use Rattle.f77_ast.specs.Lists as lists
use Rattle.f77_ast.specs.Loops.{range_of, iteration_count, iterations_from}
use Rattle.f77_ast.specs.Calls.{actuals, places_of, own_units, lock_own, after_call, forget_all, scalars_bound, arrays_bound, lock_doubly}
use Rattle.f77_ast.specs.Statements.{spot, label_of, statement_plan, execution, arms_plan, arm_plan, else_plan, do_plan, parts}
use Rattle.f77_ast.specs.Programs.{Routine, Program, body_of, called, meanings, program_plan}
use Rattle.f77_meaning.specs.Processes.{Marked}
use Rattle.laws_interleavings.specs.Iterations.{loop_plan as loop_of}
use Rattle.laws_interleavings.specs.Reductions.{Reduced}
use Rattle.laws_interleavings.specs.Accumulating.{Reduction, Directive}
use Rattle.laws_interleavings.specs.Marks.{MarkedPlan, Ends, Breaks, Look, Set, Hold, Forget, Show, Take, Within, Loop, Reduce, plain}
use Rattle.laws_interleavings.specs.MarkedStatements.{unmarked, ◌▹▹◌, steps_first, when_normal, MarkedPart, stands, parts_from, go_on, one_by_one, with_jumps, marked_list, marked_iterations, written_first, MarkedScope, reduced_loop, begun_if, begun_by, marked_statement, marked_execution, marked_arms, marked_arm, marked_else, loop_with, marked_parts}
use Rattle.laws_interleavings.specs.MarkedPrograms.{Directives, forget_units, marked_scope, marked_body, marked_called, marked_meanings, marked_program}

pub plain_unmarked : (t : Plan) → plain (unmarked t) ≡ t
plain_unmarked (plan.Ends f) = refl
plain_unmarked (plan.Breaks b) = refl
plain_unmarked (plan.Look u k) = λ i. plan.Look u (λ c. plain_unmarked (k c) i)
plain_unmarked (plan.Set u c t) = ap (plan.Set u c) (plain_unmarked t)
plain_unmarked (plan.Hold u c t) = ap (plan.Hold u c) (plain_unmarked t)
plain_unmarked (plan.Forget u t) = ap (plan.Forget u) (plain_unmarked t)
plain_unmarked (plan.Show xs t) = ap (plan.Show xs) (plain_unmarked t)
plain_unmarked (plan.Take k) = λ i. plan.Take (λ o. plain_unmarked (k o) i)
plain_unmarked (plan.Within p at t k) = λ i. plan.Within p at (plain_unmarked t i) (λ f. plain_unmarked (k f) i)

then_then : (t : Plan) (f g : Flow → Plan) → ((t ▹ f) ▹ g) ≡ (t ▹ λ h. f h ▹ g)
then_then (plan.Ends h) f g = refl
then_then (plan.Breaks b) f g = refl
then_then (plan.Look u k) f g = λ i. plan.Look u (λ c. then_then (k c) f g i)
then_then (plan.Set u c t) f g = ap (plan.Set u c) (then_then t f g)
then_then (plan.Hold u c t) f g = ap (plan.Hold u c) (then_then t f g)
then_then (plan.Forget u t) f g = ap (plan.Forget u) (then_then t f g)
then_then (plan.Show xs t) f g = ap (plan.Show xs) (then_then t f g)
then_then (plan.Take k) f g = λ i. plan.Take (λ o. then_then (k o) f g i)
then_then (plan.Within p at t k) f g = λ i. plan.Within p at t (λ h. then_then (k h) f g i)

ends_again : (t : Plan) → (t ▹ λ f. plan.Ends f) ≡ t
ends_again (plan.Ends h) = refl
ends_again (plan.Breaks b) = refl
ends_again (plan.Look u k) = λ i. plan.Look u (λ c. ends_again (k c) i)
ends_again (plan.Set u c t) = ap (plan.Set u c) (ends_again t)
ends_again (plan.Hold u c t) = ap (plan.Hold u c) (ends_again t)
ends_again (plan.Forget u t) = ap (plan.Forget u) (ends_again t)
ends_again (plan.Show xs t) = ap (plan.Show xs) (ends_again t)
ends_again (plan.Take k) = λ i. plan.Take (λ o. ends_again (k o) i)
ends_again (plan.Within p at t k) = λ i. plan.Within p at t (λ h. ends_again (k h) i)

plain_then : (t : MarkedPlan) (f : Flow → MarkedPlan) → plain (t ▹▹ f) ≡ (plain t ▹ λ g. plain (f g))
plain_then (Ends g) f = refl
plain_then (Breaks b) f = refl
plain_then (Look u k) f = λ i. plan.Look u (λ c. plain_then (k c) f i)
plain_then (Set u c t) f = ap (plan.Set u c) (plain_then t f)
plain_then (Hold u c t) f = ap (plan.Hold u c) (plain_then t f)
plain_then (Forget u t) f = ap (plan.Forget u) (plain_then t f)
plain_then (Show xs t) f = ap (plan.Show xs) (plain_then t f)
plain_then (Take k) f = λ i. plan.Take (λ o. plain_then (k o) f i)
plain_then (Within p at t k) f = λ i. plan.Within p at (plain t) (λ g. plain_then (k g) f i)
plain_then (Loop m k) f =
    let inner : (loop_of m ▹ λ g. plain (k g ▹▹ f)) ≡ (loop_of m ▹ λ g. (plain (k g) ▹ λ h. plain (f h))) = λ i. loop_of m ▹ λ g. plain_then (k g) f i in
    ap (plan.Set m.index (content Int m.first)) (inner ∙ sym (then_then (loop_of m) (λ g. plain (k g)) (λ h. plain (f h))))
plain_then (Reduce d k) f =
    let m = d.loop in
    let inner : (loop_of m ▹ λ g. plain (k g ▹▹ f)) ≡ (loop_of m ▹ λ g. (plain (k g) ▹ λ h. plain (f h))) = λ i. loop_of m ▹ λ g. plain_then (k g) f i in
    ap (plan.Set m.index (content Int m.first)) (inner ∙ sym (then_then (loop_of m) (λ g. plain (k g)) (λ h. plain (f h))))

plain_first : {A : Type 0} (t : Steps A) (f : A → MarkedPlan) → plain (steps_first t f) ≡ first t (λ a. plain (f a))
plain_first (steps.Done a) f = refl
plain_first (steps.Breaks b) f = refl
plain_first (steps.Look u k) f = λ i. plan.Look u (λ c. plain_first (k c) f i)
plain_first (steps.Set u c t) f = ap (plan.Set u c) (plain_first t f)
plain_first (steps.Hold u c t) f = ap (plan.Hold u c) (plain_first t f)
plain_first (steps.Forget u t) f = ap (plan.Forget u) (plain_first t f)
plain_first (steps.Show xs t) f = ap (plan.Show xs) (plain_first t f)
plain_first (steps.Take k) f = λ i. plan.Take (λ o. plain_first (k o) f i)
plain_first (steps.Arrive p t) f = plain_first t f

-- steps, and then plans that are those
pub first_same : {A : Type 0} (t : Steps A) (f : A → MarkedPlan) (g : A → Plan) → ((a : A) → plain (f a) ≡ g a) → plain (steps_first t f) ≡ first t g
first_same t f g h = plain_first t f ∙ (λ i. first t (λ a. h a i))

then_same : (t : MarkedPlan) (s : Plan) (f : Flow → MarkedPlan) (g : Flow → Plan) → plain t ≡ s → ((h : Flow) → plain (f h) ≡ g h) → plain (t ▹▹ f) ≡ (s ▹ g)
then_same t s f g e h = plain_then t f ∙ (λ i. e i ▹ λ a. h a i)

if_same : (b : Bool) (t z : MarkedPlan) (s y : Plan) → plain t ≡ s → plain z ≡ y → plain (if b then t else z) ≡ (if b then s else y)
if_same true t z s y e h = e
if_same false t z s y e h = h

normal_same : (f : Flow) (t : MarkedPlan) (s : Plan) → plain t ≡ s → plain (when_normal f t) ≡ on_normal f s
normal_same Normal t s e = e
normal_same (Jump l) t s e = refl
normal_same Returned t s e = refl
normal_same Stopped t s e = refl

-- ---- lists

abbrev bare : MarkedPart → Part
bare q = record { label = q.label; does = plain q.does }

has_same : (l : ℕ) (qs : List MarkedPart) → stands l qs ≡ has_label l (map bare qs)
has_same l [] = refl
has_same l (q ∷ qs) = ap (λ b. is_label l q.label || b) (has_same l qs)

from_same : (l : ℕ) (qs : List MarkedPart) → map bare (parts_from l qs) ≡ from_label l (map bare qs)
from_same l [] = refl
from_same l (q ∷ qs) = go (from_same l qs) (is_label l q.label)
  where
    go : map bare (parts_from l qs) ≡ from_label l (map bare qs) → (b : Bool) → map bare (if b then q ∷ qs else parts_from l qs) ≡ (if b then bare q ∷ map bare qs else from_label l (map bare qs))
    go e true = refl
    go e false = e

go_on_same : (jump : ℕ → MarkedPlan) (hop : ℕ → Plan) (all : List MarkedPart) (rest : MarkedPlan) (after : Plan) → ((l : ℕ) → plain (jump l) ≡ hop l) → plain rest ≡ after → (f : Flow) → plain (go_on jump all rest f) ≡ lists.go_on hop (map bare all) after f
go_on_same jump hop all rest after h e Normal = e
go_on_same jump hop all rest after h e (Jump l) = ap (λ b. plain (if b then jump l else Ends (Jump l))) (has_same l all) ∙ if_same (has_label l (map bare all)) (jump l) (Ends (Jump l)) (hop l) (plan.Ends (Jump l)) (h l) refl
go_on_same jump hop all rest after h e Returned = refl
go_on_same jump hop all rest after h e Stopped = refl

one_same : (jump : ℕ → MarkedPlan) (hop : ℕ → Plan) (all : List MarkedPart) → ((l : ℕ) → plain (jump l) ≡ hop l) → (qs : List MarkedPart) → plain (one_by_one jump all qs) ≡ in_order hop (map bare all) (map bare qs)
one_same jump hop all h [] = refl
one_same jump hop all h (q ∷ qs) =
    then_same q.does (plain q.does) (go_on jump all (one_by_one jump all qs)) (lists.go_on hop (map bare all) (in_order hop (map bare all) (map bare qs))) refl
    (go_on_same jump hop all (one_by_one jump all qs) (in_order hop (map bare all) (map bare qs)) h (one_same jump hop all h qs))

jumps_same : (n : ℕ) (all qs : List MarkedPart) → plain (with_jumps n all qs) ≡ lists.with_jumps n (map bare all) (map bare qs)
jumps_same zero all qs = one_same (λ l. Breaks OutOfTurns) (λ l. plan.Breaks OutOfTurns) all (λ l. refl) qs
jumps_same (suc n) all qs =
    one_same (λ l. with_jumps n all (parts_from l all)) (λ l. lists.with_jumps n (map bare all) (from_label l (map bare all))) all
    (λ l. jumps_same n all (parts_from l all) ∙ ap (lists.with_jumps n (map bare all)) (from_same l all)) qs

list_same : (turns : ℕ) (qs : List MarkedPart) (ps : List Part) → map bare qs ≡ ps → plain (marked_list turns qs) ≡ list_plan turns ps
list_same turns qs ps e = jumps_same turns qs qs ∙ ap (λ l. list_plan turns l) e

-- ---- loops

iterations_same : (k : ℕ) (n step : ℤ) (u : ℕ) (t : MarkedPlan) (s : Plan) → plain t ≡ s → plain (marked_iterations k n step u t) ≡ iterations_from k n step u s
iterations_same zero n step u t s e = refl
iterations_same (suc k) n step u t s e =
    then_same t s (λ f. when_normal f (steps_first (given Int (kept (n +ℤ step))) (λ c. Set u c (marked_iterations k c.number step u t))))
    (λ f. on_normal f (first (given Int (kept (n +ℤ step))) (λ c. plan.Set u c (iterations_from k c.number step u s)))) e
    (λ f. normal_same f _ _ (first_same (given Int (kept (n +ℤ step))) _ _ (λ c. ap (plan.Set u c) (iterations_same k c.number step u t s e))))

-- the write of the first number, and then the iterations
begins : (o : Option Fault) (u : ℕ) (c : Content) (t : MarkedPlan) (s : Plan) → plain t ≡ s → plain (written_first o u c t) ≡ first (written o u c) (λ x. s)
begins None u c t s e = ap (plan.Set u c) e
begins (Some f) u c t s e = refl

pub begins_marked : (o : Option Fault) (m : Marked) → plain (begun_if o m) ≡ first (written o m.index (content Int m.first)) (λ x. loop_of m)
begins_marked None m = ap (plan.Set m.index (content Int m.first)) (ends_again (loop_of m))
begins_marked (Some f) m = refl

pub begins_by : (rs : List Reduction) (o : Option Fault) (d : Reduced) → plain (begun_by rs o d) ≡ first (written o d.loop.index (content Int d.loop.first)) (λ x. loop_of d.loop)
begins_by [] o d = begins_marked o d.loop
begins_by (r ∷ rs) None d = ap (plan.Set d.loop.index (content Int d.loop.first)) (ends_again (loop_of d.loop))
begins_by (r ∷ rs) (Some f) d = refl

-- ---- statements

-- what is called does the same without marks
pub record Fits (sc : MarkedScope) : Type 0 where
  pub calls : (x : List ℕ) (ps : List Place) (locked : Locks) → plain ((sc.callee x).does ps locked) ≡ sc.plain.callee x ps locked

module _ (sc : MarkedScope) (fit : Fits sc) where
  mutual
    statement_same : (s : StmtTree) (at : Places) (locked : Locks) → plain (marked_statement s sc at locked) ≡ statement_plan s sc.plain at locked
    statement_same (tree.stmt n label what) at locked = λ i. plan.Within (spot sc.plain.module_name n) at (execution_same what n at locked i) (λ f. plan.Ends f)

    execution_same : (w : WhatTree) (n : ℕ) (at : Places) (locked : Locks) → plain (marked_execution w n sc at locked) ≡ execution w n sc.plain at locked
    execution_same (tree.assign left right) n at locked = plain_unmarked (execution (tree.assign left right) n sc.plain at locked)
    execution_same (tree.block_if arms rest) n at locked = arms_same arms at locked (marked_else rest sc at locked) (else_plan rest sc.plain at locked) (else_same rest at locked)
    execution_same (tree.logical_if test s) n at locked =
        first_same (value test sc.plain.names at) _ _ (λ c. if_same (is_true c.number) (marked_statement s sc at locked) (Ends Normal) (statement_plan s sc.plain at locked) (plan.Ends Normal) (statement_same s at locked) refl)
    execution_same (tree.do_loop l) n at locked = loop_same (sc.marks n) l at locked
    execution_same (tree.call callee es) n at locked =
        first_same (actuals es 0 sc.plain.names at (sc.plain.own_unit n)) _ _
        (λ xs. then_same ((sc.callee callee).does (places_of xs) (lock_own locked (own_units xs))) (sc.plain.callee callee (places_of xs) (lock_own locked (own_units xs))) (λ f. unmarked (after_call (own_units xs) f)) (after_call (own_units xs))
        (fit.calls callee (places_of xs) (lock_own locked (own_units xs))) (λ f. plain_unmarked (after_call (own_units xs) f)))
    execution_same (tree.goto l) n at locked = refl
    execution_same tree.continue n at locked = refl
    execution_same tree.return n at locked = refl
    execution_same (tree.stop text) n at locked = refl
    execution_same (tree.print es) n at locked = plain_unmarked (execution (tree.print es) n sc.plain at locked)
    execution_same (tree.read es) n at locked = plain_unmarked (execution (tree.read es) n sc.plain at locked)

    arms_same : (as' : ArmTrees) (at : Places) (locked : Locks) (t : MarkedPlan) (s : Plan) → plain t ≡ s → plain (marked_arms as' sc at locked t) ≡ arms_plan as' sc.plain at locked s
    arms_same tree.no_arms at locked t s e = e
    arms_same (tree.more_arms a as') at locked t s e = arm_same a at locked (marked_arms as' sc at locked t) (arms_plan as' sc.plain at locked s) (arms_same as' at locked t s e)

    arm_same : (a : ArmTree) (at : Places) (locked : Locks) (t : MarkedPlan) (s : Plan) → plain t ≡ s → plain (marked_arm a sc at locked t) ≡ arm_plan a sc.plain at locked s
    arm_same (tree.arm test body) at locked t s e =
        first_same (value test sc.plain.names at) _ _
        (λ c. if_same (is_true c.number) (marked_list sc.plain.turns (marked_parts body sc at locked)) t (list_plan sc.plain.turns (parts body sc.plain at locked)) s (list_same sc.plain.turns (marked_parts body sc at locked) (parts body sc.plain at locked) (parts_same body at locked)) e)

    else_same : (o : ElseTree) (at : Places) (locked : Locks) → plain (marked_else o sc at locked) ≡ else_plan o sc.plain at locked
    else_same tree.no_else at locked = refl
    else_same (tree.otherwise body) at locked = list_same sc.plain.turns (marked_parts body sc at locked) (parts body sc.plain at locked) (parts_same body at locked)

    loop_same : (o : Option Directive) (l : LoopTree) (at : Places) (locked : Locks) → plain (loop_with o l sc at locked) ≡ do_plan l sc.plain at locked
    loop_same None (tree.loop index e1 e2 e3 body) at locked =
        first_same (range_of e1 e2 e3 sc.plain.names at) _ _
        (λ r. first_same (name_target (sc.plain.names index) at) _ _
        (λ t. begins (locked t.unit) t.unit (content Int r.from) (marked_iterations (iteration_count r.from r.last r.step) r.from r.step t.unit (marked_list sc.plain.turns (marked_parts body sc at (lock locked t.unit Locked))))
        (iterations_from (iteration_count r.from r.last r.step) r.from r.step t.unit (list_plan sc.plain.turns (parts body sc.plain at (lock locked t.unit Locked))))
        (iterations_same (iteration_count r.from r.last r.step) r.from r.step t.unit (marked_list sc.plain.turns (marked_parts body sc at (lock locked t.unit Locked))) (list_plan sc.plain.turns (parts body sc.plain at (lock locked t.unit Locked)))
        (list_same sc.plain.turns (marked_parts body sc at (lock locked t.unit Locked)) (parts body sc.plain at (lock locked t.unit Locked)) (parts_same body at (lock locked t.unit Locked))))))
    loop_same (Some d) (tree.loop index e1 e2 e3 body) at locked =
        first_same (range_of e1 e2 e3 sc.plain.names at) _ _
        (λ r. first_same (name_target (sc.plain.names index) at) _ _
        (λ t. begins_by d.reductions (locked t.unit) (reduced_loop d sc body at r t.unit (lock locked t.unit Locked))))

    parts_same : (ss : StmtTrees) (at : Places) (locked : Locks) → map bare (marked_parts ss sc at locked) ≡ parts ss sc.plain at locked
    parts_same tree.no_stmts at locked = refl
    parts_same (tree.more_stmts s ss) at locked = λ i. record { label = label_of s; does = statement_same s at locked i } ∷ parts_same ss at locked i

  -- ---- a module

  forget_same : (us : List ℕ) (t : MarkedPlan) (s : Plan) → plain t ≡ s → plain (forget_units us t) ≡ forget_all us s
  forget_same [] t s e = e
  forget_same (u ∷ us) t s e = ap (plan.Forget u) (forget_same us t s e)

  body_same : (r : Routine) (ps : List Place) (at : Places) (locked : Locks) →
      plain (marked_body r sc ps at locked) ≡ first (arrays_bound r.dummies ps r.names at) (λ at'. list_plan sc.plain.turns (parts r.body sc.plain at' (lock_doubly locked r.dummies at' r.common)))
  body_same r ps at locked =
      first_same (arrays_bound r.dummies ps r.names at) _ _
      (λ at'. list_same sc.plain.turns (marked_parts r.body sc at' (lock_doubly locked r.dummies at' r.common)) (parts r.body sc.plain at' (lock_doubly locked r.dummies at' r.common)) (parts_same r.body at' (lock_doubly locked r.dummies at' r.common)))

module _ (turns : ℕ) (marks : Directives) where
  abbrev scope_in : Routine → List Routine → MarkedScope
  scope_in r rs = marked_scope r turns marks (meanings rs turns) (marked_meanings rs turns marks)

  called_same : (r : Routine) (rs : List Routine) → Fits (scope_in r rs) → (ps : List Place) (locked : Locks) → plain ((marked_called r (scope_in r rs)).does ps locked) ≡ called r turns (meanings rs turns) ps locked
  called_same r rs fit ps locked =
      let at = scalars_bound r.dummies ps r.fixed in
      let inner = forget_same (scope_in r rs) fit r.locals (marked_body r (scope_in r rs) ps at locked) (body_of r turns (meanings rs turns) ps at locked) (body_same (scope_in r rs) fit r ps at locked) in
      λ i. plan.Within (spot r.name 0) at (inner i) (λ f. plain_unmarked (after_call r.locals f) i)

  meanings_same : (rs : List Routine) (x : List ℕ) (ps : List Place) (locked : Locks) → plain ((marked_meanings rs turns marks x).does ps locked) ≡ meanings rs turns x ps locked
  meanings_same [] x ps locked = refl
  meanings_same (r ∷ rs) x ps locked = choose (called_same r rs (record { calls = λ y qs l. meanings_same rs y qs l }) ps locked) (meanings_same rs x ps locked) (bytes_eq x r.name)
    where
      choose : plain ((marked_called r (scope_in r rs)).does ps locked) ≡ called r turns (meanings rs turns) ps locked → plain ((marked_meanings rs turns marks x).does ps locked) ≡ meanings rs turns x ps locked → (b : Bool) →
          plain ((if b then marked_called r (scope_in r rs) else marked_meanings rs turns marks x).does ps locked) ≡ (if b then called r turns (meanings rs turns) else meanings rs turns x) ps locked
      choose e h true = e
      choose e h false = h

  fits : (r : Routine) (rs : List Routine) → Fits (scope_in r rs)
  fits r rs = record { calls = λ x ps locked. meanings_same rs x ps locked }

  pub program_same : (p : Program) → plain (marked_program p turns marks) ≡ program_plan p turns
  program_same p =
      let inner = body_same (scope_in p.main p.others) (fits p.main p.others) p.main [] p.main.fixed no_locks in
      λ i. plan.Within (spot p.main.name 0) p.main.fixed (inner i) (λ f. plan.Ends f)
