-- A marked DO looks at units, and then it does what its loop does.
use Rattle.std.proofs.Common.{◌≡◌, ℕ, List, [], ◌∷◌, Option, Some, None, Bool, true, false, refl, ap, ℤ, pos}
use Rattle.std.specs.Prelude.{if◌then◌else◌}
use Rattle.std.specs.Ordering.{int_eq}
use Rattle.f77_ast.specs.Trees.{ExprTree, ExprTrees, LoopTree, StmtTrees}
use Rattle.f77_ast.specs.Trees as tree
use Rattle.f77_ast.specs.Faults.{Fault, Arithmetic, Locked, Unset}
use Rattle.f77_ast.specs.Store.{Tag, Int, same_tag, Content, Store, content}
use Rattle.f77_ast.specs.Steps.{Steps, ◌>>=◌}
use Rattle.f77_ast.specs.Steps as steps
use Rattle.f77_ast.specs.Numbers.{Intrinsic, intrinsic_named, intrinsic_number, unary_tag, unary_number, binary_tag, binary_number}
use Rattle.f77_ast.specs.Places.{Meant, Constant, Variable, Function, Names, Places, element_in}
use Rattle.f77_ast.specs.Values.{fault, given, read_unit, unit_after, element_unit, name_value, intrinsic_value, element_value, value, values, name_target}
use Rattle.f77_ast.specs.Writes.{Locks, lock, written, write}
use Rattle.f77_ast.specs.Runs.{Event, Read, after_event}
use Rattle.f77_ast.specs.Plans.{Plan, first}
use Rattle.f77_ast.specs.Executions.{run_of}
use Rattle.f77_ast.specs.Loops.{Range, range, step_value, range_of, iteration_count, iterations_from}
use Rattle.f77_ast.specs.Statements.{body_plan, do_plan}
use Rattle.laws_interleavings.specs.Marks.{MarkedPlan}
use Rattle.laws_interleavings.specs.Holds.{MarksHold}
use Rattle.laws_interleavings.specs.Reductions.{Reduced}
use Rattle.laws_interleavings.specs.Accumulating.{Reduction, Directive}
use Rattle.laws_interleavings.specs.MarkedStatements.{MarkedScope, steps_first, reduced_loop, begun_by, loop_with}
use Rattle.laws_marks.specs.ConflictIterations.{iterations}
use Rattle.laws_marks.specs.MarkedBegins.{behind, Begins}
use Rattle.laws_marks.specs.MarkedLaws.{DirectedHolds}

-- ---- what only looks at units

abbrev LooksOnly : {A : Type 0} → Steps A → Type 0
LooksOnly (steps.Done a) = Unit {0}
LooksOnly (steps.Breaks b) = Unit {0}
LooksOnly (steps.Look u k) = (c : Content) → LooksOnly (k c)
LooksOnly (steps.Set u c t) = ⊥
LooksOnly (steps.Hold u c t) = ⊥
LooksOnly (steps.Forget u t) = ⊥
LooksOnly (steps.Show xs t) = ⊥
LooksOnly (steps.Take k) = ⊥
LooksOnly (steps.Arrive p t) = ⊥

looks_then : {A B : Type 0} (t : Steps A) (f : A → Steps B) → LooksOnly t → ((a : A) → LooksOnly (f a)) → LooksOnly (t >>= f)
looks_then (steps.Done a) f h n = n a
looks_then (steps.Breaks b) f h n = tt
looks_then (steps.Look u k) f h n = λ c. looks_then (k c) f (h c) n
looks_then (steps.Set u c t) f h n = absurd h
looks_then (steps.Hold u c t) f h n = absurd h
looks_then (steps.Forget u t) f h n = absurd h
looks_then (steps.Show xs t) f h n = absurd h
looks_then (steps.Take k) f h n = absurd h
looks_then (steps.Arrive p t) f h n = absurd h

given_looks : (t : Tag) (o : Option ℤ) → LooksOnly (given t o)
given_looks t None = tt
given_looks t (Some n) = tt

read_looks : (t : Tag) (u : ℕ) → LooksOnly (read_unit t u)
read_looks t u = λ c. either (same_tag t c.tag) c
  where
    either : (b : Bool) (c : Content) → LooksOnly {A = Content} (if b then steps.Done c else fault Unset)
    either true c = tt
    either false c = tt

unit_looks : (u : ℕ) (o : Option ℕ) → LooksOnly (unit_after u o)
unit_looks u None = tt
unit_looks u (Some k) = tt

intrinsic_looks : (o : Option Intrinsic) (ns : List ℤ) → LooksOnly (intrinsic_value o ns)
intrinsic_looks None ns = tt
intrinsic_looks (Some f) ns = given_looks Int (intrinsic_number f ns)

name_looks : (w : Meant) (at : Places) → LooksOnly (name_value w at)
name_looks (Constant c) at = tt
name_looks (Variable v) at = read_looks (at v).tag (at v).first
name_looks Function at = tt

element_looks : (w : Meant) (x : List ℕ) (at : Places) (ns : List ℤ) → LooksOnly (element_value w x at ns)
element_looks (Constant c) x at ns = tt
element_looks (Variable v) x at ns = looks_then (element_unit (at v) ns) (read_unit (at v).tag) (unit_looks (at v).first (element_in (at v) ns)) (λ u. read_looks (at v).tag u)
element_looks Function x at ns = intrinsic_looks (intrinsic_named x) ns

mutual
  value_looks : (e : ExprTree) (w : Names) (at : Places) → LooksOnly (value e w at)
  value_looks (tree.int n) w at = tt
  value_looks (tree.log b) w at = tt
  value_looks (tree.name x) w at = name_looks (w x) at
  value_looks (tree.element x es) w at = looks_then (values es w at) (element_value (w x) x at) (values_look es w at) (λ ns. element_looks (w x) x at ns)
  value_looks (tree.paren e) w at = value_looks e w at
  value_looks (tree.unary o e) w at = looks_then (value e w at) (λ c. given (unary_tag o) (unary_number o c.number)) (value_looks e w at) (λ c. given_looks (unary_tag o) (unary_number o c.number))
  value_looks (tree.binary o a b) w at =
      looks_then (value a w at) (λ c. value b w at >>= λ d. given (binary_tag o) (binary_number o c.number d.number)) (value_looks a w at)
      (λ c. looks_then (value b w at) (λ d. given (binary_tag o) (binary_number o c.number d.number)) (value_looks b w at) (λ d. given_looks (binary_tag o) (binary_number o c.number d.number)))
  value_looks (tree.chars x) w at = tt

  values_look : (es : ExprTrees) (w : Names) (at : Places) → LooksOnly (values es w at)
  values_look tree.no_exprs w at = tt
  values_look (tree.more_exprs e es) w at =
      looks_then (value e w at) (λ c. values es w at >>= λ ns. steps.Done (c.number ∷ ns)) (value_looks e w at) (λ c. looks_then (values es w at) (λ ns. steps.Done (c.number ∷ ns)) (values_look es w at) (λ ns. tt))

step_looks : (e : Option ExprTree) (w : Names) (at : Places) → LooksOnly (step_value e w at)
step_looks None w at = tt
step_looks (Some e) w at = value_looks e w at

range_looks : (a b c : ℤ) → LooksOnly (range a b c)
range_looks a b c = go (int_eq c (pos 0))
  where
    go : (z : Bool) → LooksOnly {A = Range} (if z then fault Arithmetic else steps.Done (record { from = a; last = b; step = c }))
    go true = tt
    go false = tt

range_of_looks : (e1 e2 : ExprTree) (e3 : Option ExprTree) (w : Names) (at : Places) → LooksOnly (range_of e1 e2 e3 w at)
range_of_looks e1 e2 e3 w at =
    looks_then (value e1 w at) (λ a. value e2 w at >>= λ b. step_value e3 w at >>= λ c. range a.number b.number c.number) (value_looks e1 w at)
    (λ a. looks_then (value e2 w at) (λ b. step_value e3 w at >>= λ c. range a.number b.number c.number) (value_looks e2 w at)
    (λ b. looks_then (step_value e3 w at) (λ c. range a.number b.number c.number) (step_looks e3 w at) (λ c. range_looks a.number b.number c.number)))

-- ---- and what comes after it, in the plan and in that with marked loops

marks_first : {A : Type 0} (t : Steps A) (f : A → Plan) (g : A → MarkedPlan) (s : Store) (i : List Content) (later : List Event) → LooksOnly t →
    ((a : A) (es : List Event) → iterations (first t f) s i ≡ iterations (f a) s i → run_of (first t f) s i ≡ behind es (run_of (f a) s i) → MarksHold (g a) s i later) → MarksHold (steps_first t g) s i later
marks_first (steps.Done a) f g s i later h next = next a [] refl refl
marks_first (steps.Breaks b) f g s i later h next = tt
marks_first (steps.Look u k) f g s i later h next = marks_first (k (s u)) f g s i later (h (s u)) (λ a es c q. next a (Read u (s u) ∷ es) c (ap (after_event (Read u (s u))) q))
marks_first (steps.Set u c t) f g s i later h next = absurd h
marks_first (steps.Hold u c t) f g s i later h next = absurd h
marks_first (steps.Forget u t) f g s i later h next = absurd h
marks_first (steps.Show xs t) f g s i later h next = absurd h
marks_first (steps.Take k) f g s i later h next = absurd h
marks_first (steps.Arrive p t) f g s i later h next = absurd h

-- ---- a DO

module _ (e : Directive) (sc : MarkedScope) (variable : List ℕ) (e1 e2 : ExprTree) (e3 : Option ExprTree) (body : StmtTrees) (at : Places) (locked : Locks) (s : Store) (i : List Content) (later : List Event) where
  abbrev l : LoopTree
  l = tree.loop variable e1 e2 e3 body

  abbrev reduced : Range → ℕ → Reduced
  reduced r u = reduced_loop e sc body at r u (lock locked u Locked)

  -- the loop, where its variable was given its first number
  abbrev looped : Range → ℕ → Plan
  looped r u = iterations_from (iteration_count r.from r.last r.step) r.from r.step u (body_plan body sc.plain at (lock locked u Locked))

  -- by its REDUCTION clauses
  begun_holds : (rs : List Reduction) (d : Reduced) → DirectedHolds rs d s later → MarksHold (begun_by rs None d) s i later
  begun_holds [] d h = (h, tt)
  begun_holds (r ∷ rs) d h = (h, tt)

  none_begun : (rs : List Reduction) (f : Fault) (d : Reduced) → MarksHold (begun_by rs (Some f) d) s i later
  none_begun [] f d = tt
  none_begun (r ∷ rs) f d = tt

  module _ (next : (r : Range) (u : ℕ) → Begins sc.plain variable l at locked (reduced r u).loop s i → DirectedHolds e.reductions (reduced r u) s later) (r : Range) (es : List Event) where
    unless_locked : (v u : ℕ) → u ≡ (at v).first → sc.plain.names variable ≡ Variable v → (o : Option Fault) → locked u ≡ o →
        iterations (do_plan l sc.plain at locked) s i ≡ iterations (first (written o u (content Int r.from)) (λ o. looped r u)) s i → run_of (do_plan l sc.plain at locked) s i ≡ behind es (run_of (first (written o u (content Int r.from)) (λ o. looped r u)) s i) →
        MarksHold (begun_by e.reductions o (reduced r u)) s i later
    unless_locked v u f n None free c q = begun_holds e.reductions (reduced r u) (next r u (record { symbol = v; is_symbol = n; unit = f; unlocked = free; cut = c; looks = es; run = q }))
    unless_locked v u f n (Some g) free c q = none_begun e.reductions g (reduced r u)

    for_variable : (w : Meant) → sc.plain.names variable ≡ w →
        iterations (do_plan l sc.plain at locked) s i ≡ iterations (first (name_target w at) (λ t. first (write locked t.unit (content Int r.from)) (λ o. looped r t.unit))) s i →
        run_of (do_plan l sc.plain at locked) s i ≡ behind es (run_of (first (name_target w at) (λ t. first (write locked t.unit (content Int r.from)) (λ o. looped r t.unit))) s i) →
        MarksHold (steps_first (name_target w at) (λ t. begun_by e.reductions (locked t.unit) (reduced r t.unit))) s i later
    for_variable (Constant z) n c q = tt
    for_variable (Variable v) n c q = unless_locked v (at v).first refl n (locked (at v).first) refl c q
    for_variable Function n c q = tt

  pub loops_begin : ((r : Range) (u : ℕ) → Begins sc.plain variable l at locked (reduced r u).loop s i → DirectedHolds e.reductions (reduced r u) s later) → MarksHold (loop_with (Some e) l sc at locked) s i later
  loops_begin next =
      marks_first (range_of e1 e2 e3 sc.plain.names at) (λ r. first (name_target (sc.plain.names variable) at) (λ t. first (write locked t.unit (content Int r.from)) (λ o. looped r t.unit)))
      (λ r. steps_first (name_target (sc.plain.names variable) at) (λ t. begun_by e.reductions (locked t.unit) (reduced r t.unit))) s i later (range_of_looks e1 e2 e3 sc.plain.names at)
      (λ r es c q. for_variable next r es (sc.plain.names variable) refl c q)
