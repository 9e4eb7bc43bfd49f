-- Statements are fine where their effects are allowed, if their CALLs are.
use Rattle.std.proofs.Common.{inl, inr, ℕ, ◌<◌, Bool, true, false, List, [], Option, refl}
use Rattle.std.specs.Prelude.{if◌then◌else◌}
use Rattle.f77_ast.specs.Trees.{ExprTree, ExprTrees, StmtTree, StmtTrees, WhatTree, ArmTree, ArmTrees, ElseTree, LoopTree}
use Rattle.f77_ast.specs.Trees as tree
use Rattle.f77_ast.specs.Store.{content, Int}
use Rattle.f77_ast.specs.Faults.{Locked}
use Rattle.f77_ast.specs.Numbers.{is_true}
use Rattle.f77_ast.specs.Places.{Places}
use Rattle.f77_ast.specs.Values.{value, name_target, all_shown}
use Rattle.f77_ast.specs.Writes.{Locks, lock, write, assigned, items_read}
use Rattle.f77_ast.specs.Plans.{Normal, Plan, Ends, Show, first}
use Rattle.f77_ast.specs.Lists.{list_plan}
use Rattle.f77_ast.specs.Loops.{range_of, iteration_count, iterations_from, loop_plan}
use Rattle.f77_ast.specs.Calls.{Meaning, actuals, call_plan}
use Rattle.f77_ast.specs.Statements.{Scope, spot, statement_plan, execution, arms_plan, arm_plan, else_plan, do_plan, parts}
use Rattle.f77_ast.specs.Programs.{scope}
use Rattle.call_graph.specs.declared.graph.Graph.{Graph}
use Rattle.f77_ast.specs.declared.effect_set.EffectSet.{EffectSet}
use Rattle.f77_ast.specs.declared.results.At.{At}
use Rattle.f77_ast.specs.Variables.{union}
use Rattle.f77_ast.specs.Effects.{unite}
use Rattle.f77_ast.specs.declared.variable.Variable.{Variable as Named}
use Rattle.f77_meaning.specs.Modules.{Known, names}
use Rattle.f77_meaning.specs.Linked.{routine}
use Rattle.f77_meaning.specs.Occurrences.{Occurrence}
use Rattle.effects.specs.Statement.{proper_of, loop_effect, with_tests, test_reads}
use Rattle.effects.specs.Callee.{call_effect}
use Rattle.effects.specs.List.{Callees, at as result_at, stmt_effect, with_parts, with_list, with_arms, with_arm, with_else, at_stmt, at_parts, at_list, at_arms, at_arm, at_else}
use Rattle.laws_programs.specs.Effects.Trees.{AreActuals, AskedOfCall, StmtFits, WhatFits, ListFits, ArmsFit, ArmFits, ElseFits, LoopFits}
use Rattle.laws_programs.proofs.Effects.Members.{In, in_left, in_right}
use Rattle.laws_programs.proofs.Effects.Kept.{kept_tests}
use Rattle.laws_programs.proofs.Effects.Access.{Reading, Allowed, Passing, Under, into_under}
use Rattle.laws_programs.proofs.Effects.Fine.{Always, Fine, Doing, fine_first}
use Rattle.laws_programs.proofs.Effects.Orders.{AllFine, list_fine, turns_fine}
use Rattle.laws_programs.proofs.Effects.Units.{ScalarsReach, Lets, lets_second, LetsAll, lets_one, lets_other, lets_more, Allows, allows_all, OwnAreFree, own_free, own_free_more}
use Rattle.laws_programs.proofs.Effects.Values.{value_does}
use Rattle.laws_programs.proofs.Effects.Sides.{MayWrite, name_target_does, assigned_does, write_does, items_do, all_shown_do, range_of_does}
use Rattle.laws_programs.proofs.Effects.Plain.{PlainEffect}
use Rattle.laws_programs.proofs.Effects.Parts.{kept_list, kept_arms, kept_else}
use Rattle.fx_lists.proofs.Every.{Anything}

-- a claim on the executions of a module's statements, with these effects at them
abbrev pub ClaimsAt : List Known → Graph → Known → Passing → (Occurrence → Type 0) → Places → List (At EffectSet) → Type 0
ClaimsAt ks g k L C at all = (n : ℕ) (e : EffectSet) (t : Plan) → 0 < n → In (result_at n e) all → PlainEffect e → Fine t L C (Allows ks g k at e) → Always C (spot k.read.name n) at t

-- CALLs are fine where their effects are allowed
abbrev pub CallsFine : List Known → Graph → Known → (List ℕ → Meaning) → Callees → AskedOfCall → Passing → (Occurrence → Type 0) → Places → Type 1
CallsFine ks g k callee cs Q L C at = (x : List ℕ) (es : ExprTrees) (n : ℕ) (locked : Locks) (A : Allowed) → AreActuals es k.symbols → Q x es → OwnAreFree ks g A →
    LetsAll ks g k at A (unite (proper_of (tree.call x es) k.symbols) (call_effect (cs x) x es k.symbols)) →
    Fine (call_plan (actuals es 0 (names k.symbols) at ((routine ks g k).own_unit n)) (callee x) locked) L C A

module _ (ks : List Known) (g : Graph) (k : Known) (turns : ℕ) (callee : List ℕ → Meaning) (cs : Callees) (Q : AskedOfCall) (L : Passing) (C : Occurrence → Type 0) (at : Places) (all : List (At EffectSet))
    (scalars : ScalarsReach k at) (claims : ClaimsAt ks g k L C at all) (calls : CallsFine ks g k callee cs Q L C at)
    (plain : (s : StmtTree) → StmtFits s k.symbols Q → PlainEffect (stmt_effect s cs k.symbols)) where
  abbrev sc : Scope
  sc = scope (routine ks g k) turns callee

  -- the results of a part are among those of the module
  abbrev Among : List (At EffectSet) → Type 0
  Among xs = (a : At EffectSet) → In a xs → In a all

  tested : (b : Bool) (t z : Plan) (A : Allowed) → Fine t L C A → Fine z L C A → Fine (if b then t else z) L C A
  tested true t z A h i = h
  tested false t z A h i = i

  loop_fine : (index : List ℕ) (e1 e2 : ExprTree) (e3 : Option ExprTree) (A : Allowed) (locked : Locks) (body : Locks → Plan) → Doing (range_of e1 e2 e3 (names k.symbols) at) A Anything → Doing (name_target (names k.symbols index) at) A (MayWrite A) →
      ((l : Locks) → Fine (body l) L C A) → Fine (loop_plan (range_of e1 e2 e3 (names k.symbols) at) (name_target (names k.symbols index) at) locked body) L C A
  loop_fine index e1 e2 e3 A locked body ranges targets h =
      fine_first L C (range_of e1 e2 e3 (names k.symbols) at)
      (λ r. first (name_target (names k.symbols index) at) (λ t. first (write locked t.unit (content Int r.from)) (λ o. iterations_from (iteration_count r.from r.last r.step) r.from r.step t.unit (body (lock locked t.unit Locked))))) A Anything ranges (λ r z.
      fine_first L C (name_target (names k.symbols index) at)
      (λ t. first (write locked t.unit (content Int r.from)) (λ o. iterations_from (iteration_count r.from r.last r.step) r.from r.step t.unit (body (lock locked t.unit Locked)))) A (MayWrite A) targets (λ t w.
      fine_first L C (write locked t.unit (content Int r.from))
      (λ o. iterations_from (iteration_count r.from r.last r.step) r.from r.step t.unit (body (lock locked t.unit Locked))) A Anything (write_does ks g k at scalars A locked t.unit (content Int r.from) w) (λ o y.
      turns_fine L C A (iteration_count r.from r.last r.step) r.from r.step t.unit (body (lock locked t.unit Locked)) w (h (lock locked t.unit Locked)))))

  mutual
    pub stmt_fine : (s : StmtTree) (locked : Locks) (A : Allowed) → OwnAreFree ks g A → StmtFits s k.symbols Q → Among (at_stmt s cs k.symbols) → LetsAll ks g k at A (stmt_effect s cs k.symbols) → Fine (statement_plan s sc at locked) L C A
    stmt_fine (tree.stmt n label w) locked A free fits among lets =
        let e = with_parts w cs k.symbols (proper_of w k.symbols) in
        let p = spot k.read.name n in
        let inner : Among (at_parts w cs k.symbols) = λ a h. among a (inr h) in (
          claims n e (execution w n sc at locked) fits.0 (among (result_at n e) (inl refl)) (plain (tree.stmt n label w) fits)
              (what_fine w n locked (Allows ks g k at e) (own_free ks g k at e) fits.1 inner (allows_all ks g k at e)),
          what_fine w n locked (Under L p A) (own_free_more ks g A (Under L p A) (into_under L p A) free) fits.1 inner (lets_more ks g k at A (Under L p A) (into_under L p A) e lets),
          λ f h. h,
        )

    what_fine : (w : WhatTree) (n : ℕ) (locked : Locks) (A : Allowed) → OwnAreFree ks g A → WhatFits w k.symbols Q → Among (at_parts w cs k.symbols) → LetsAll ks g k at A (with_parts w cs k.symbols (proper_of w k.symbols)) → Fine (execution w n sc at locked) L C A
    what_fine (tree.assign a b) n locked A free fits among lets =
        fine_first L C (assigned a b (names k.symbols) at locked) (λ o. Ends Normal) A Anything (assigned_does ks g k at scalars a b A locked fits.0 fits.1 lets.to_read lets.to_write) (λ o h. tt)
    what_fine (tree.block_if arms other) n locked A free fits among lets =
        let e = proper_of (tree.block_if arms other) k.symbols in
        let whole = kept_else ks g k at cs A other (with_arms arms cs k.symbols e) lets in
        let tests = kept_arms ks g k at cs A arms e whole in
        arms_fine arms locked A free fits.0 (λ a h. among a (in_left a (at_arms arms cs k.symbols) (at_else other cs k.symbols) h)) e whole [] tests.to_read (else_plan other sc at locked)
        (else_fine other locked A free fits.1 (λ a h. among a (in_right a (at_arms arms cs k.symbols) (at_else other cs k.symbols) h)) (with_arms arms cs k.symbols e) lets)
    what_fine (tree.logical_if test s) n locked A free fits among lets =
        let e = proper_of (tree.logical_if test s) k.symbols in
        let one = lets_one ks g k at A e (stmt_effect s cs k.symbols) lets in
        let other = lets_other ks g k at A e (stmt_effect s cs k.symbols) lets in
        let then_fine = stmt_fine s locked A free fits.1 among other in
        fine_first L C (value test (names k.symbols) at) (λ c. if is_true c.number then statement_plan s sc at locked else Ends Normal) A Anything (value_does ks g k at scalars test A fits.0 one.to_read)
        (λ c h. tested (is_true c.number) (statement_plan s sc at locked) (Ends Normal) A then_fine tt)
    what_fine (tree.do_loop l) n locked A free fits among lets = do_fine l locked A free fits among lets
    what_fine (tree.call x es) n locked A free fits among lets = calls x es n locked A fits.0 fits.1 free lets
    what_fine (tree.goto l) n locked A free fits among lets = tt
    what_fine tree.continue n locked A free fits among lets = tt
    what_fine tree.return n locked A free fits among lets = tt
    what_fine (tree.stop text) n locked A free fits among lets = lets.to_stop refl
    what_fine (tree.print es) n locked A free fits among lets =
        fine_first L C (all_shown es (names k.symbols) at) (λ xs. Show xs (Ends Normal)) A Anything (all_shown_do ks g k at scalars es A [] fits lets.to_read) (λ xs h. (lets.to_talk refl, tt))
    what_fine (tree.read es) n locked A free fits among lets =
        fine_first L C (items_read es (names k.symbols) at locked) (λ o. Ends Normal) A Anything (items_do ks g k at scalars es A locked [] [] fits (lets.to_talk refl) lets.to_read lets.to_write) (λ o h. tt)

    pub parts_fine : (body : StmtTrees) (locked : Locks) (A : Allowed) → OwnAreFree ks g A → ListFits body k.symbols Q → Among (at_list body cs k.symbols) → (e : EffectSet) → LetsAll ks g k at A (with_list body cs k.symbols e) → AllFine (parts body sc at locked) L C A
    parts_fine tree.no_stmts locked A free fits among e lets = tt
    parts_fine (tree.more_stmts s rest) locked A free fits among e lets =
        let mine = stmt_effect s cs k.symbols in
        let here = lets_other ks g k at A e mine (kept_list ks g k at cs A rest (unite e mine) lets) in (
          stmt_fine s locked A free fits.0 (λ a h. among a (in_left a (at_stmt s cs k.symbols) (at_list rest cs k.symbols) h)) here,
          parts_fine rest locked A free fits.1 (λ a h. among a (in_right a (at_stmt s cs k.symbols) (at_list rest cs k.symbols) h)) (unite e mine) lets,
        )

    arms_fine : (arms : ArmTrees) (locked : Locks) (A : Allowed) → OwnAreFree ks g A → ArmsFit arms k.symbols Q → Among (at_arms arms cs k.symbols) → (e : EffectSet) → LetsAll ks g k at A (with_arms arms cs k.symbols e) →
        (vs : List Named) → Lets ks g k at Reading A (with_tests arms k.symbols vs) → (rest : Plan) → Fine rest L C A → Fine (arms_plan arms sc at locked rest) L C A
    arms_fine tree.no_arms locked A free fits among e lets vs tests rest h = h
    arms_fine (tree.more_arms a as') locked A free fits among e lets vs tests rest h =
        let here : Lets ks g k at Reading A (union vs (test_reads a k.symbols)) = λ v u s m. tests v u (kept_tests k.symbols v as' (union vs (test_reads a k.symbols)) s) m in
        let others = arms_fine as' locked A free fits.1 (λ b i. among b (in_right b (at_arm a cs k.symbols) (at_arms as' cs k.symbols) i)) (with_arm a cs k.symbols e) lets (union vs (test_reads a k.symbols)) tests rest h in
        arm_fine a locked A free fits.0 (λ b i. among b (in_left b (at_arm a cs k.symbols) (at_arms as' cs k.symbols) i)) e (kept_arms ks g k at cs A as' (with_arm a cs k.symbols e) lets)
        (lets_second ks g k at Reading A vs (test_reads a k.symbols) here) (arms_plan as' sc at locked rest) others

    arm_fine : (a : ArmTree) (locked : Locks) (A : Allowed) → OwnAreFree ks g A → ArmFits a k.symbols Q → Among (at_arm a cs k.symbols) → (e : EffectSet) → LetsAll ks g k at A (with_arm a cs k.symbols e) →
        Lets ks g k at Reading A (test_reads a k.symbols) → (rest : Plan) → Fine rest L C A → Fine (arm_plan a sc at locked rest) L C A
    arm_fine (tree.arm test body) locked A free fits among e lets tests rest h =
        let part = list_fine L C A turns (parts body sc at locked) (parts_fine body locked A free fits.1 among e lets) in
        fine_first L C (value test (names k.symbols) at) (λ c. if is_true c.number then list_plan turns (parts body sc at locked) else rest) A Anything (value_does ks g k at scalars test A fits.0 tests)
        (λ c i. tested (is_true c.number) (list_plan turns (parts body sc at locked)) rest A part h)

    else_fine : (other : ElseTree) (locked : Locks) (A : Allowed) → OwnAreFree ks g A → ElseFits other k.symbols Q → Among (at_else other cs k.symbols) → (e : EffectSet) → LetsAll ks g k at A (with_else other cs k.symbols e) → Fine (else_plan other sc at locked) L C A
    else_fine tree.no_else locked A free fits among e lets = tt
    else_fine (tree.otherwise body) locked A free fits among e lets = list_fine L C A turns (parts body sc at locked) (parts_fine body locked A free fits among e lets)

    do_fine : (l : LoopTree) (locked : Locks) (A : Allowed) → OwnAreFree ks g A → LoopFits l k.symbols Q → Among (Rattle.effects.specs.List.at_loop l cs k.symbols) → LetsAll ks g k at A (Rattle.effects.specs.List.with_loop l cs k.symbols (loop_effect l k.symbols)) → Fine (do_plan l sc at locked) L C A
    do_fine (tree.loop index e1 e2 e3 body) locked A free fits among lets =
        let e = loop_effect (tree.loop index e1 e2 e3 body) k.symbols in
        let proper = kept_list ks g k at cs A body e lets in
        loop_fine index e1 e2 e3 A locked (λ l. list_plan turns (parts body sc at l)) (range_of_does ks g k at scalars e1 e2 e3 A fits.1 fits.2 fits.3 proper.to_read)
        (name_target_does ks g k at scalars A index (names k.symbols index) refl fits.0 proper.to_write)
        (λ l. list_fine L C A turns (parts body sc at l) (parts_fine body l A free fits.4 among e lets))
