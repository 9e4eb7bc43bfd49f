-- The body of a loop whose statements accumulate alone rides on the body.
use Rattle.std.proofs.Common.{◌≡◌, inl, inr, ℕ, ℤ, pos, List, Bool, true, false, refl, sym, subst, Option, None, Some}
use Rattle.std.specs.Prelude.{if◌then◌else◌}
use Rattle.std.specs.Ordering.{int_eq}
use Rattle.f77_ast.specs.Trees.{ExprTree, StmtTree, StmtTrees, WhatTree, ArmTree, ArmTrees, ElseTree, LoopTree}
use Rattle.f77_ast.specs.Trees as tree
use Rattle.f77_ast.specs.Store.{Int, Content, content}
use Rattle.f77_ast.specs.Faults.{Fault, Arithmetic, Locked}
use Rattle.f77_ast.specs.Steps.{Steps, Done, ◌>>=◌}
use Rattle.f77_ast.specs.Numbers.{is_true}
use Rattle.f77_ast.specs.Places.{Meant, Constant, Variable, Function, Names, Places}
use Rattle.f77_ast.specs.Values.{fault, Target, value, target, name_target}
use Rattle.f77_ast.specs.Writes.{Locks, lock, written, write}
use Rattle.f77_ast.specs.Plans.{Normal, Plan, Ends, first}
use Rattle.f77_ast.specs.Lists.{list_plan}
use Rattle.f77_ast.specs.Loops.{Range, range, step_value, range_of, iteration_count, iterations_from, loop_plan}
use Rattle.f77_ast.specs.Statements.{Scope, statement_plan, execution, arms_plan, arm_plan, else_plan, do_plan, parts}
use Rattle.laws_interleavings.specs.Reductions.{Accumulator}
use Rattle.laws_interleavings.specs.Rides.{Phase, Outside, Inside}
use Rattle.laws_interleavings.specs.Accumulating.{Reduction, accumulators_of, is_summed, sum_value, right_value, summed_statement, summed_execution, summed_arms, summed_arm, summed_else, summed_do, summed_parts}
use Rattle.laws_interleavings.specs.Accumulated.{IsFree, IsClearName, IsClear, IsPlain, IsNoTarget, KeepsClear, StatementAdds, WhatAdds, ArmsAdds, ArmAdds, ElseAdds, LoopAdds, ListAdds, BodiesRide}
use Rattle.laws_interleavings.specs.Plans.Touched.{AnyNumber, Suits, OptionLeaves, WhatLeaves}
use Rattle.laws_interleavings.proofs.Plans.Touching.{IsClosed, each_statement}
use Rattle.laws_interleavings.proofs.Accumulating.To.{RidesTo, rides_same, rides_alone, reads_clear, reads_then, Reads, Same, Both}
use Rattle.laws_interleavings.proofs.Accumulating.Reading.{reads_value}
use Rattle.laws_interleavings.proofs.Accumulating.Assigning.{accumulation_rides}
use Rattle.laws_interleavings.proofs.Accumulating.NoTargets.{no_target}
use Rattle.laws_interleavings.proofs.Accumulating.Plans.{PlanRides, plan_steps}
use Rattle.laws_interleavings.proofs.Accumulating.Lists.{PartsRide, plans_first, plan_alone, lists_ride, iterations_ride}

any_closed : IsClosed AnyNumber
any_closed = record {
  unary = λ o m n h e. tt;
  binary = λ o m k n h l e. tt;
  function = λ f ns n h e. tt;
  truths = λ b. tt;
  stepped = λ n m e. tt;
  input = λ t n e. tt;
}

module _ (as' : List Accumulator) (w : Names) (at : Places) where
  reads_range : (a b c : ℤ) → Reads as' (range a b c)
  reads_range a b c = go (int_eq c (pos 0))
    where
      go : (z : Bool) → Reads as' {A = Range} (if z then fault Arithmetic else Done (record { from = a; last = b; step = c }))
      go true = tt
      go false = tt

  reads_step : (o : Option ExprTree) → OptionLeaves (IsClearName as' w at) AnyNumber o → Reads as' (step_value o w at)
  reads_step None h = tt
  reads_step (Some e) h = reads_value as' w at e h

  reads_range_of : (e1 e2 : ExprTree) (e3 : Option ExprTree) → IsClear as' w at e1 → IsClear as' w at e2 → OptionLeaves (IsClearName as' w at) AnyNumber e3 → Reads as' (range_of e1 e2 e3 w at)
  reads_range_of e1 e2 e3 h1 h2 h3 =
      reads_then as' (value e1 w at) (λ a. value e2 w at >>= λ b. step_value e3 w at >>= λ c. range a.number b.number c.number) (reads_value as' w at e1 h1)
      (λ a. reads_then as' (value e2 w at) (λ b. step_value e3 w at >>= λ c. range a.number b.number c.number) (reads_value as' w at e2 h2)
      (λ b. reads_then as' (step_value e3 w at) (λ c. range a.number b.number c.number) (reads_step e3 h3) (λ c. reads_range a.number b.number c.number)))

  abbrev Aims : Phase → Target → Target → Type 0
  Aims ph t s = (ph ≡ Outside) × (t ≡ s) × IsFree as' t.unit

  aims : (m : Meant) → Suits (IsFree as') AnyNumber at m → RidesTo as' Aims Outside (name_target m at) (name_target m at)
  aims (Constant c) h = tt
  aims (Variable v) h = (refl, refl, h.0)
  aims Function h = tt

  writes_free : (locked : Locks) (u : ℕ) (c : Content) → IsFree as' u → RidesTo as' Same Outside (write locked u c) (write locked u c)
  writes_free locked u c h = go (locked u)
    where
      go : (o : Option Fault) → RidesTo as' Same Outside (written o u c) (written o u c)
      go None = (refl, refl, h, refl)
      go (Some f) = tt

  module _ (locked : Locks) (body other : Locks → Plan) (ride : (l : Locks) → PlanRides as' Outside (body l) (other l)) where
    abbrev Loop : (Locks → Plan) → Range → Target → Plan
    Loop b r t = first (write locked t.unit (content Int r.from)) (λ o. iterations_from (iteration_count r.from r.last r.step) r.from r.step t.unit (b (lock locked t.unit Locked)))

    begun : (r : Range) (t : Target) (ph : Phase) (x y : Unit {0}) → IsFree as' t.unit → Same ph x y →
        PlanRides as' ph (iterations_from (iteration_count r.from r.last r.step) r.from r.step t.unit (body (lock locked t.unit Locked))) (iterations_from (iteration_count r.from r.last r.step) r.from r.step t.unit (other (lock locked t.unit Locked)))
    begun r t Outside x y h s = iterations_ride as' (iteration_count r.from r.last r.step) r.from r.step t.unit (body (lock locked t.unit Locked)) (other (lock locked t.unit Locked)) h (ride (lock locked t.unit Locked))
    begun r t (Inside v o m n) x y h s = absurd s

    aimed : (r : Range) (ph : Phase) (t s : Target) → Aims ph t s → PlanRides as' ph (Loop body r t) (Loop other r s)
    aimed r ph t s h =
        subst (λ ph. PlanRides as' ph (Loop body r t) (Loop other r s)) (sym h.0)
        (subst (λ (s : Target). PlanRides as' Outside (Loop body r t) (Loop other r s)) h.1
        (plans_first as' Same Outside (write locked t.unit (content Int r.from)) (write locked t.unit (content Int r.from)) _ _ (writes_free locked t.unit (content Int r.from) h.2) (λ ph x y s. begun r t ph x y h.2 s)))

    ranged : (m : Meant) → Suits (IsFree as') AnyNumber at m → (ph : Phase) (r s : Range) → Both as' Outside ph r s → PlanRides as' ph (first (name_target m at) (Loop body r)) (first (name_target m at) (Loop other s))
    ranged m h ph r s both =
        subst (λ ph. PlanRides as' ph (first (name_target m at) (Loop body r)) (first (name_target m at) (Loop other s))) (sym both.0)
        (subst (λ (s : Range). PlanRides as' Outside (first (name_target m at) (Loop body r)) (first (name_target m at) (Loop other s))) both.1
        (plans_first as' Aims Outside (name_target m at) (name_target m at) (Loop body r) (Loop other r) (aims m h) (aimed r)))

    pub dos_ride : (t : Steps Range) (m : Meant) → Reads as' t → Suits (IsFree as') AnyNumber at m → PlanRides as' Outside (loop_plan t (name_target m at) locked body) (loop_plan t (name_target m at) locked other)
    dos_ride t m r h =
        plans_first as' (Both as' Outside) Outside t t (λ r. first (name_target m at) (Loop body r)) (λ r. first (name_target m at) (Loop other r)) (rides_alone as' t (reads_clear as' t r)) (ranged m h)

-- ---- the statements

plain_right : (rs : List Reduction) (a b : ExprTree) (w : Names) (at : Places) → IsPlain rs a → value b w at ≡ right_value rs a b w at
plain_right rs (tree.int n) b w at h = refl
plain_right rs (tree.log c) b w at h = refl
plain_right rs (tree.name x) b w at h = go (is_summed rs x) h
  where
    go : (z : Bool) → z ≡ false → value b w at ≡ (if z then sum_value x b w at else value b w at)
    go true e = cc
    go false e = refl
plain_right rs (tree.element x es) b w at h = refl
plain_right rs (tree.paren e) b w at h = refl
plain_right rs (tree.unary o e) b w at h = refl
plain_right rs (tree.binary o c d) b w at h = refl
plain_right rs (tree.chars t) b w at h = refl

module _ (rs : List Reduction) (sc : Scope) (at : Places) (callee : (x : List ℕ) → KeepsClear (accumulators_of rs sc.names at) (sc.callee x)) (own : (n k : ℕ) → IsFree (accumulators_of rs sc.names at) (sc.own_unit n k)) where
  abbrev as' : List Accumulator
  as' = accumulators_of rs sc.names at

  -- a statement without accumulations
  leaf : (w : WhatTree) (n : ℕ) (locked : Locks) → WhatLeaves (λ x. Suits (IsFree (accumulators_of rs sc.names at)) AnyNumber at (sc.names x)) AnyNumber w →
      PlanRides (accumulators_of rs sc.names at) Outside (execution w n sc at locked) (execution w n sc at locked)
  leaf w n locked h =
      plan_alone (accumulators_of rs sc.names at) (execution w n sc at locked) (each_statement (IsFree (accumulators_of rs sc.names at)) AnyNumber any_closed sc callee own at (tree.stmt n None w) locked h).0

  ends : (ph : Phase) (x y : Unit {0}) → Same ph x y → PlanRides (accumulators_of rs sc.names at) ph (Ends Normal) (Ends Normal)
  ends Outside x y s = refl
  ends (Inside v o m n) x y s = absurd s

  assigns : (a b : ExprTree) (n : ℕ) (locked : Locks) → WhatAdds rs sc.names at (tree.assign a b) → PlanRides (accumulators_of rs sc.names at) Outside (execution (tree.assign a b) n sc at locked) (summed_execution rs (tree.assign a b) n sc at locked)
  assigns a b n locked (inl h) =
      subst (λ (t : Steps Content). PlanRides (accumulators_of rs sc.names at) Outside (execution (tree.assign a b) n sc at locked)
      (first (t >>= λ c. target a sc.names at >>= λ t. write locked t.unit (content t.tag c.number)) (λ o. Ends Normal))) (plain_right rs a b sc.names at h.2) (leaf (tree.assign a b) n locked (h.0, h.1))
  assigns a b n locked (inr (inl h)) =
      subst (λ a. PlanRides (accumulators_of rs sc.names at) Outside (execution (tree.assign a b) n sc at locked) (summed_execution rs (tree.assign a b) n sc at locked)) (sym h.is)
      (subst (λ z. PlanRides (accumulators_of rs sc.names at) Outside (execution (tree.assign (tree.name h.name) b) n sc at locked)
      (first ((if z then sum_value h.name b sc.names at else value b sc.names at) >>= λ c. target (tree.name h.name) sc.names at >>= λ t. write locked t.unit (content t.tag c.number)) (λ o. Ends Normal))) (sym h.summed)
      (plans_first (accumulators_of rs sc.names at) Same Outside _ _ (λ o. Ends Normal) (λ o. Ends Normal)
      (accumulation_rides (accumulators_of rs sc.names at) sc.names at h.name h.symbol h.stands h.op h.one h.tag locked b h.adds) ends))
  assigns a b n locked (inr (inr h)) = faults a n locked h.1
    where
      faults : (a : ExprTree) (n : ℕ) (locked : Locks) → IsNoTarget sc.names a → PlanRides (accumulators_of rs sc.names at) Outside (execution (tree.assign a b) n sc at locked) (summed_execution rs (tree.assign a b) n sc at locked)
      faults (tree.name x) n locked f = plans_first (accumulators_of rs sc.names at) Same Outside _ _ (λ o. Ends Normal) (λ o. Ends Normal) (no_target (accumulators_of rs sc.names at) sc.names at rs x b locked h.0 f) ends
      faults (tree.int m) n locked f = absurd f
      faults (tree.log c) n locked f = absurd f
      faults (tree.element x es) n locked f = absurd f
      faults (tree.paren e) n locked f = absurd f
      faults (tree.unary o e) n locked f = absurd f
      faults (tree.binary o c d) n locked f = absurd f
      faults (tree.chars t) n locked f = absurd f

  tests : (t z u y : Plan) (b : Bool) → PlanRides (accumulators_of rs sc.names at) Outside t u → PlanRides (accumulators_of rs sc.names at) Outside z y → PlanRides (accumulators_of rs sc.names at) Outside (if b then t else z) (if b then u else y)
  tests t z u y true h k = h
  tests t z u y false h k = k

  tested : (e : ExprTree) → IsClear (accumulators_of rs sc.names at) sc.names at e → (t z u y : Plan) → PlanRides (accumulators_of rs sc.names at) Outside t u → PlanRides (accumulators_of rs sc.names at) Outside z y →
      PlanRides (accumulators_of rs sc.names at) Outside (first (value e sc.names at) (λ c. if is_true c.number then t else z)) (first (value e sc.names at) (λ c. if is_true c.number then u else y))
  tested e ce t z u y h k =
      plans_first (accumulators_of rs sc.names at) (Both (accumulators_of rs sc.names at) Outside) Outside (value e sc.names at) (value e sc.names at) (λ c. if is_true c.number then t else z) (λ c. if is_true c.number then u else y)
      (rides_alone (accumulators_of rs sc.names at) (value e sc.names at) (reads_clear (accumulators_of rs sc.names at) (value e sc.names at) (reads_value (accumulators_of rs sc.names at) sc.names at e ce)))
      (λ ph c d both.
      subst (λ ph. PlanRides (accumulators_of rs sc.names at) ph (if is_true c.number then t else z) (if is_true d.number then u else y)) (sym both.0)
      (subst (λ (d : Content). PlanRides (accumulators_of rs sc.names at) Outside (if is_true c.number then t else z) (if is_true d.number then u else y)) both.1 (tests t z u y (is_true c.number) h k)))

  mutual
    statement_rides : (s : StmtTree) (locked : Locks) → StatementAdds rs sc.names at s → PlanRides (accumulators_of rs sc.names at) Outside (statement_plan s sc at locked) (summed_statement rs s sc at locked)
    statement_rides (tree.stmt n label w) locked h = (refl, what_rides w n locked h, λ f. refl)

    what_rides : (w : WhatTree) (n : ℕ) (locked : Locks) → WhatAdds rs sc.names at w → PlanRides (accumulators_of rs sc.names at) Outside (execution w n sc at locked) (summed_execution rs w n sc at locked)
    what_rides (tree.assign a b) n locked h = assigns a b n locked h
    what_rides (tree.block_if arms rest) n locked h = arms_ride arms locked (else_plan rest sc at locked) (summed_else rs rest sc at locked) h.0 (else_rides rest locked h.1)
    what_rides (tree.logical_if test s) n locked h = tested test h.0 (statement_plan s sc at locked) (Ends Normal) (summed_statement rs s sc at locked) (Ends Normal) (statement_rides s locked h.1) refl
    what_rides (tree.do_loop l) n locked h = do_rides l locked h
    what_rides (tree.call x es) n locked h = leaf (tree.call x es) n locked h
    what_rides (tree.goto l) n locked h = refl
    what_rides tree.continue n locked h = refl
    what_rides tree.return n locked h = refl
    what_rides (tree.stop text) n locked h = refl
    what_rides (tree.print es) n locked h = leaf (tree.print es) n locked h
    what_rides (tree.read es) n locked h = leaf (tree.read es) n locked h

    arms_ride : (arms : ArmTrees) (locked : Locks) (rest other : Plan) → ArmsAdds rs sc.names at arms → PlanRides (accumulators_of rs sc.names at) Outside rest other → PlanRides (accumulators_of rs sc.names at) Outside (arms_plan arms sc at locked rest) (summed_arms rs arms sc at locked other)
    arms_ride tree.no_arms locked rest other h k = k
    arms_ride (tree.more_arms a more) locked rest other h k = arm_rides a locked (arms_plan more sc at locked rest) (summed_arms rs more sc at locked other) h.0 (arms_ride more locked rest other h.1 k)

    arm_rides : (a : ArmTree) (locked : Locks) (rest other : Plan) → ArmAdds rs sc.names at a → PlanRides (accumulators_of rs sc.names at) Outside rest other → PlanRides (accumulators_of rs sc.names at) Outside (arm_plan a sc at locked rest) (summed_arm rs a sc at locked other)
    arm_rides (tree.arm test body) locked rest other h k =
        tested test h.0 (list_plan sc.turns (parts body sc at locked)) rest (list_plan sc.turns (summed_parts rs body sc at locked)) other
        (lists_ride (accumulators_of rs sc.names at) sc.turns (parts body sc at locked) (summed_parts rs body sc at locked) (parts_ride body locked h.1)) k

    else_rides : (o : ElseTree) (locked : Locks) → ElseAdds rs sc.names at o → PlanRides (accumulators_of rs sc.names at) Outside (else_plan o sc at locked) (summed_else rs o sc at locked)
    else_rides tree.no_else locked h = refl
    else_rides (tree.otherwise body) locked h = lists_ride (accumulators_of rs sc.names at) sc.turns (parts body sc at locked) (summed_parts rs body sc at locked) (parts_ride body locked h)

    do_rides : (l : LoopTree) (locked : Locks) → LoopAdds rs sc.names at l → PlanRides (accumulators_of rs sc.names at) Outside (do_plan l sc at locked) (summed_do rs l sc at locked)
    do_rides (tree.loop index e1 e2 e3 body) locked h =
        dos_ride (accumulators_of rs sc.names at) sc.names at locked (λ l. list_plan sc.turns (parts body sc at l)) (λ l. list_plan sc.turns (summed_parts rs body sc at l))
        (λ l. lists_ride (accumulators_of rs sc.names at) sc.turns (parts body sc at l) (summed_parts rs body sc at l) (parts_ride body l h.4)) (range_of e1 e2 e3 sc.names at) (sc.names index)
        (reads_range_of (accumulators_of rs sc.names at) sc.names at e1 e2 e3 h.1 h.2 h.3) h.0

    parts_ride : (ss : StmtTrees) (locked : Locks) → ListAdds rs sc.names at ss → PartsRide (accumulators_of rs sc.names at) (parts ss sc at locked) (summed_parts rs ss sc at locked)
    parts_ride tree.no_stmts locked h = tt
    parts_ride (tree.more_stmts s ss) locked h = (refl, statement_rides s locked h.0, parts_ride ss locked h.1)

pub bodies_ride : BodiesRide
bodies_ride rs sc at locked body callee own h =
    let as' = accumulators_of rs sc.names at in
    rides_same as' Outside _ _ (plan_steps as' Outside (list_plan sc.turns (parts body sc at locked)) (list_plan sc.turns (summed_parts rs body sc at locked))
    (lists_ride as' sc.turns (parts body sc at locked) (summed_parts rs body sc at locked) (parts_ride rs sc at callee own body locked h)))
