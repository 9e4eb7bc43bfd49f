-- The executions in the statements of a module that runs: each of them is reached where what the laws of regions ask is known.
use Rattle.std.proofs.Common.{◌≡◌, ℕ, ◌<◌, List, [], ◌∷◌, ◌&&◌, Option, Bool, true, false, sym, ap, subst}
use Rattle.std.specs.Prelude.{if◌then◌else◌}
use Rattle.std.proofs.lemmas.Bool.{and_parts, not-false}
use Rattle.f77_ast.specs.Trees.{ExprTree, StmtTree, WhatTree, ArmTrees, ElseTree, LoopTree, StmtTrees}
use Rattle.f77_ast.specs.Trees as tree
use Rattle.f77_ast.specs.Store.{Content, Store}
use Rattle.f77_ast.specs.Faults.{Locked}
use Rattle.f77_ast.specs.Runs.{store_of}
use Rattle.f77_ast.specs.Numbers.{is_true}
use Rattle.f77_ast.specs.Places.{Variable}
use Rattle.f77_ast.specs.Values.{value, all_shown}
use Rattle.f77_ast.specs.Writes.{Locks, lock, assigned, items_read}
use Rattle.f77_ast.specs.Plans.{Flow, Normal, Jump, Returned, Stopped, Plan, Ends, Show as ShowPlan}
use Rattle.f77_ast.specs.Executions.{run_of, AtEndOf, Claim}
use Rattle.f77_ast.specs.Lists.{list_plan}
use Rattle.f77_ast.specs.Statements.{spot, statement_plan, execution, arms_plan, else_plan, do_plan, parts}
use Rattle.f77_ast.proofs.StepLaws.{at_end_true, leads_true}
use Rattle.f77_ast.specs.declared.results.At.{At}
use Rattle.affine_forms.specs.Conditions.{no_rows}
use Rattle.affine_forms.specs.Claims.{unit_in, numbers_of}
use Rattle.preconditions.specs.transformer_algebra.declared.transformer.Transformer.{Transformer}
use Rattle.preconditions.specs.transformer_algebra.Loops.{iteration}
use Rattle.preconditions.specs.transformer_algebra.Claims.{Kept}
use Rattle.preconditions.specs.transformers.Jumps.{stmt_has, is_end}
use Rattle.preconditions.specs.transformers.Lists.{list_of as transformer_of, list_at}
use Rattle.preconditions.specs.transformers.Loops.{number_in, loop_parts}
use Rattle.preconditions.specs.transformers.Statement.{parts_do, body_transformer, stmt_transformer}
use Rattle.in_out_regions.specs.region_sets.declared.region.Region.{Region}
use Rattle.in_out_regions.specs.array_regions.Reads.{reads}
use Rattle.in_out_regions.specs.array_regions.Calls.{Called}
use Rattle.laws_analyses.specs.Statements.Leads.{stmt_leads}
use Rattle.call_graph.specs.CallsIn.{CallAt, Each, stmt_calls, what_calls, list_calls, arms_calls, else_calls}
use Rattle.laws_analyses.specs.Statements.Activation.{Fit, Ended}
use Rattle.laws_analyses.proofs.Statements.Ends.{more}
use Rattle.laws_analyses.proofs.Statements.Lists.{own_of}
use Rattle.laws_analyses.proofs.Statements.Loops.{also}
use Rattle.laws_analyses.proofs.Statements.Placing.{each_parts}
use Rattle.laws_analyses.specs.Regions.Settings.{scene, Sound, is_plain, maybe_plain, tests_plain, actuals_plain, has_plain}
use Rattle.laws_analyses.proofs.Regions.Expressions.{Seen, value_looks}
use Rattle.laws_analyses.proofs.Regions.Moving.{AllEnd, stmt_moves, list_moves}
use Rattle.laws_analyses.proofs.Regions.Standing.{CallStands, call_at, found_each}
use Rattle.laws_marks.specs.InFrames.{Frame}
use Rattle.laws_marks.specs.InUnits.{UnitsFit}
use Rattle.laws_marks.proofs.InStanding.{StandsStmt, StandsParts, StandsList, StandsArms, StandsElse, InAt, in_at, in_within, in_next, in_arms, in_if}
use Rattle.laws_marks.proofs.InStatements.{units_lock}
use Rattle.laws_marks.specs.ConflictExecutions.{Execution, AtEachExecution}
use Rattle.laws_marks.proofs.ConflictDoing.{do_reached}
use Rattle.laws_marks.proofs.ConflictEach.{plan_first, plan_looked}
use Rattle.laws_marks.proofs.ConflictLists.{Stays, PartsAre, jumps_reached}
use Rattle.laws_marks.proofs.ConflictWhats.{stmt_whats, part_whats, list_whats, arms_whats, else_whats, loop_whats}
use Rattle.f77_ast.specs.Shapes.{is_return}

module _ (k : Frame) (sound : Sound k.base) (C0 D0 : Claim) (Fits : Locks → (ℕ → Bool) → Type 0) (base : (locked : Locks) (still : ℕ → Bool) → Fits locked still → Fit k.sc.names k.scalar k.at (scene k.base) locked still) (more_fits : (locked : Locks) (still : ℕ → Bool) (x : List ℕ) (v : ℕ) → k.sc.names x ≡ Variable v → k.scalar x ≡ true → Fits locked still → Fits (lock locked (k.at v).first Locked) (also still (k.at v).first)) (I : Store → Type 0) (acc : List (At (List Region))) (called : Called) where
  solid : (locked : Locks) (still : ℕ → Bool) → Fits locked still → (x : List ℕ) (v : ℕ) → k.sc.names x ≡ Variable v → k.scalar x ≡ true → 0 < (k.at v).extent
  solid locked still fit = (base locked still fit).solid

  -- ---- how statements end

  pub calls_end : (cs : List CallAt) → Each (CallStands C0 k.base Fits I) cs → AllEnd k.base sound Fits base more_fits cs
  calls_end [] h = tt
  calls_end (c ∷ cs) h = (h.0.ends, calls_end cs h.1)

  -- so it stays over an iteration of a DO
  pub turn_keeps : (index : List ℕ) (e1 e2 : ExprTree) (e3 : Option ExprTree) (body : StmtTrees) → list_at k.does false body ≡ body_transformer (tree.loop index e1 e2 e3 body) k.m k.cs → ((y z : Store) → Kept (scene k.base) (parts_do (loop_parts k.m (tree.loop index e1 e2 e3 body) (body_transformer (tree.loop index e1 e2 e3 body) k.m k.cs))).cells (parts_do (loop_parts k.m (tree.loop index e1 e2 e3 body) (body_transformer (tree.loop index e1 e2 e3 body) k.m k.cs))).foreign (numbers_of y) (numbers_of z) → I y → I z) → (y z : Store) → Kept (scene k.base) (iteration (loop_parts k.m (tree.loop index e1 e2 e3 body) (list_at k.does false body))).cells (iteration (loop_parts k.m (tree.loop index e1 e2 e3 body) (list_at k.does false body))).foreign (numbers_of y) (numbers_of z) → I y → I z
  turn_keeps index e1 e2 e3 body path h = subst (λ (t : Transformer). (y z : Store) → Kept (scene k.base) (iteration (loop_parts k.m (tree.loop index e1 e2 e3 body) t)).cells (iteration (loop_parts k.m (tree.loop index e1 e2 e3 body) t)).foreign (numbers_of y) (numbers_of z) → I y → I z) (sym path) h

  -- what holds at a store of the module stays where control does
  stmt_stays : (n : ℕ) (label : Option ℕ) (w : WhatTree) (last : Bool) (locked : Locks) (still : ℕ → Bool) → Fits locked still → StandsStmt C0 D0 k Fits I acc called (tree.stmt n label w) last → (z : Store) → I z → (i : List Content) → AtEndOf (run_of (statement_plan (tree.stmt n label w) k.sc k.at locked) z i) (λ f y j. Stays I f y)
  stmt_stays n label w last locked still fit st z iz i =
      more (run_of (statement_plan (tree.stmt n label w) k.sc k.at locked) z i) (λ f y j. Ended (scene k.base) (stmt_transformer (tree.stmt n label w) k.m k.cs last) no_rows (λ ls. stmt_leads (tree.stmt n label w) ls) (stmt_has is_return (tree.stmt n label w)) (own_of last (tree.stmt n label w)) still z f y) (λ f y j. Stays I f y) (λ f y j d. go f y d)
      (stmt_moves k.base sound Fits base more_fits (tree.stmt n label w) last locked still fit st.base.numbers st.base.found st.base.targets (calls_end (stmt_calls (tree.stmt n label w)) st.base.calls) z i)
    where
      go : (f : Flow) (y : Store) → Ended (scene k.base) (stmt_transformer (tree.stmt n label w) k.m k.cs last) no_rows (λ ls. stmt_leads (tree.stmt n label w) ls) (stmt_has is_return (tree.stmt n label w)) (own_of last (tree.stmt n label w)) still z f y → Stays I f y
      go Normal y d = st.base.keeps.0 z y d.does.kept iz
      go (Jump l) y d = st.base.keeps.0 z y d.1.kept iz
      go Returned y d = st.base.keeps.0 z y d.1.kept iz
      go Stopped y d = tt

  plain_of : (w : WhatTree) (n : ℕ) (last : Bool) → InAt C0 D0 k Fits I acc called n w last → has_plain k.scalar w ≡ true
  plain_of w n last st = not-false (has_plain k.scalar w) st.base.plain

  -- ---- what is claimed

  module _ (C : Execution → Type 0) where
    -- an execution of a statement, where this is known
    abbrev pub Owed : At WhatTree → Type 0
    Owed a = (last : Bool) (locked : Locks) (still : ℕ → Bool) → Fits locked still → UnitsFit k locked → InAt C0 D0 k Fits I acc called a.id a.value last → StandsParts C0 D0 k Fits I acc called a.value a.id → (z : Store) → I z → (i : List Content) → C (record { spot = spot k.sc.module_name a.id; places = k.at; does = execution a.value a.id k.sc k.at locked; start = z; input = i })

    -- the executions in a CALL
    abbrev pub CallReaches : CallAt → Type 0
    CallReaches c = actuals_plain k.scalar c.actuals ≡ true → (locked : Locks) (still : ℕ → Bool) → Fits locked still → UnitsFit k locked → (z : Store) → I z → (i : List Content) → AtEachExecution C (call_at k.base Fits c locked) z i

    -- a list whose statements are reached
    listed : (ss : StmtTrees) (locked : Locks) → PartsAre C I (parts ss k.sc k.at locked) → (z : Store) → I z → (i : List Content) → AtEachExecution C (list_plan k.sc.turns (parts ss k.sc k.at locked)) z i
    listed ss locked h z iz i = jumps_reached C I k.sc.turns (parts ss k.sc k.at locked) h (parts ss k.sc k.at locked) h z iz i

    mutual
      stmt_reached : (s : StmtTree) (last : Bool) (locked : Locks) (still : ℕ → Bool) → Fits locked still → UnitsFit k locked → StandsStmt C0 D0 k Fits I acc called s last → Each Owed (stmt_whats s) → Each CallReaches (stmt_calls s) → (z : Store) → I z → (i : List Content) → AtEachExecution C (statement_plan s k.sc k.at locked) z i
      stmt_reached (tree.stmt n label w) last locked still fit units st ow cl z iz i = (
        ow.0 last locked still fit units (in_at C0 D0 k Fits I acc called n label w last st) (in_within C0 D0 k Fits I acc called n label w last st) z iz i,
        what_reached w n last locked still fit units (in_at C0 D0 k Fits I acc called n label w last st) (in_within C0 D0 k Fits I acc called n label w last st) ow.1 cl z iz i,
        at_end_true (run_of (execution w n k.sc k.at locked) z i).answer (store_of (run_of (execution w n k.sc k.at locked) z i).memory) (run_of (execution w n k.sc k.at locked) z i).input,
      )

      what_reached : (w : WhatTree) (n : ℕ) (last : Bool) (locked : Locks) (still : ℕ → Bool) → Fits locked still → UnitsFit k locked → InAt C0 D0 k Fits I acc called n w last → StandsParts C0 D0 k Fits I acc called w n → Each Owed (part_whats w) → Each CallReaches (what_calls w n) → (z : Store) → I z → (i : List Content) → AtEachExecution C (execution w n k.sc k.at locked) z i
      what_reached (tree.assign a b) n last locked still fit units st pa ow cl z iz i = plan_first C (assigned a b k.sc.names k.at locked) (λ o. Ends Normal) z i (leads_true (assigned a b k.sc.names k.at locked) z i)
      what_reached (tree.block_if arms other) n last locked still fit units st pa ow cl z iz i =
          let q = in_if C0 D0 k Fits I acc called arms other n pa in
          let o = each_parts Owed (arms_whats arms) (else_whats other) ow in
          let c = each_parts CallReaches (arms_calls arms) (else_calls other) cl in
          arms_reached arms (else_plan other k.sc k.at locked) locked still fit units q.0 (plain_of (tree.block_if arms other) n last st) o.0 c.0 z iz i (else_reached other locked still fit units q.1 o.1 c.1 z iz i)
      what_reached (tree.logical_if e s) n last locked still fit units st pa ow cl z iz i =
          plan_looked C (value e k.sc.names k.at) (λ c. if is_true c.number then statement_plan s k.sc k.at locked else Ends Normal) z i (Seen k.base sound z (reads e k.m)) (value_looks k.base sound z (solid locked still fit) e (plain_of (tree.logical_if e s) n last st))
          (λ c es q. go (is_true c.number) (stmt_reached s false locked still fit units pa ow cl z iz i))
        where
          go : (b : Bool) → AtEachExecution C (statement_plan s k.sc k.at locked) z i → AtEachExecution C (if b then statement_plan s k.sc k.at locked else Ends Normal) z i
          go true h = h
          go false h = tt
      what_reached (tree.do_loop l) n last locked still fit units st pa ow cl z iz i = loop_reached l n last locked still fit units st pa ow cl z iz i
      what_reached (tree.call x es) n last locked still fit units st pa ow cl z iz i = cl.0 (plain_of (tree.call x es) n last st) locked still fit units z iz i
      what_reached (tree.goto l) n last locked still fit units st pa ow cl z iz i = tt
      what_reached tree.continue n last locked still fit units st pa ow cl z iz i = tt
      what_reached tree.return n last locked still fit units st pa ow cl z iz i = tt
      what_reached (tree.stop text) n last locked still fit units st pa ow cl z iz i = tt
      what_reached (tree.print es) n last locked still fit units st pa ow cl z iz i = plan_first C (all_shown es k.sc.names k.at) (λ xs. ShowPlan xs (Ends Normal)) z i (leads_true (all_shown es k.sc.names k.at) z i)
      what_reached (tree.read es) n last locked still fit units st pa ow cl z iz i = plan_first C (items_read es k.sc.names k.at locked) (λ o. Ends Normal) z i (leads_true (items_read es k.sc.names k.at locked) z i)

      loop_reached : (l : LoopTree) (n : ℕ) (last : Bool) (locked : Locks) (still : ℕ → Bool) → Fits locked still → UnitsFit k locked → InAt C0 D0 k Fits I acc called n (tree.do_loop l) last → StandsParts C0 D0 k Fits I acc called (tree.do_loop l) n → Each Owed (loop_whats l) → Each CallReaches (what_calls (tree.do_loop l) n) → (z : Store) → I z → (i : List Content) → AtEachExecution C (do_plan l k.sc k.at locked) z i
      loop_reached (tree.loop index e1 e2 e3 body) n last locked still fit units st pa ow cl z iz i =
          let p = and_parts (k.scalar index) (is_plain k.scalar e1 && (is_plain k.scalar e2 && maybe_plain k.scalar e3)) (plain_of (tree.do_loop (tree.loop index e1 e2 e3 body)) n last st) in
          let q = and_parts (is_plain k.scalar e1) (is_plain k.scalar e2 && maybe_plain k.scalar e3) p.1 in
          let r = and_parts (is_plain k.scalar e2) (maybe_plain k.scalar e3) q.1 in
          let path = ap (λ xs. transformer_of false body xs) (found_each C0 k.base Fits I body false pa.base) in
          do_reached k sound C0 D0 Fits base more_fits I acc called index e1 e2 e3 body locked still fit z iz p.0 path
          (λ y f. list_moves k.base sound Fits base more_fits body false (lock locked (unit_in k.at (number_in k.m index)) Locked) (also still (unit_in k.at (number_in k.m index))) f pa.base.numbers pa.base.found pa.base.targets (calls_end (list_calls body) pa.base.calls) y)
          (turn_keeps index e1 e2 e3 body path st.base.keeps) C
          (λ y f iy j. listed body (lock locked (unit_in k.at (number_in k.m index)) Locked) (parts_reached body false (lock locked (unit_in k.at (number_in k.m index)) Locked) (also still (unit_in k.at (number_in k.m index))) f (units_lock k locked (unit_in k.at (number_in k.m index)) Locked units) pa ow cl) y iy j)
          q.0 r.0 r.1 i

      arms_reached : (arms : ArmTrees) (rest : Plan) (locked : Locks) (still : ℕ → Bool) → Fits locked still → UnitsFit k locked → StandsArms C0 D0 k Fits I acc called arms → tests_plain k.scalar arms ≡ true → Each Owed (arms_whats arms) → Each CallReaches (arms_calls arms) → (z : Store) → I z → (i : List Content) → AtEachExecution C rest z i → AtEachExecution C (arms_plan arms k.sc k.at locked rest) z i
      arms_reached tree.no_arms rest locked still fit units st p ow cl z iz i h = h
      arms_reached (tree.more_arms (tree.arm e body) others) rest locked still fit units st p ow cl z iz i h =
          let q = in_arms C0 D0 k Fits I acc called (tree.arm e body) others st in
          let r = and_parts (is_plain k.scalar e) (tests_plain k.scalar others) p in
          let o = each_parts Owed (list_whats body) (arms_whats others) ow in
          let c = each_parts CallReaches (list_calls body) (arms_calls others) cl in
          plan_looked C (value e k.sc.names k.at) (λ d. if is_true d.number then list_plan k.sc.turns (parts body k.sc k.at locked) else arms_plan others k.sc k.at locked rest) z i (Seen k.base sound z (reads e k.m)) (value_looks k.base sound z (solid locked still fit) e r.0)
          (λ d es w. go (is_true d.number) (listed body locked (parts_reached body false locked still fit units q.0 o.0 c.0) z iz i) (arms_reached others rest locked still fit units q.1 r.1 o.1 c.1 z iz i h))
        where
          go : (b : Bool) → AtEachExecution C (list_plan k.sc.turns (parts body k.sc k.at locked)) z i → AtEachExecution C (arms_plan others k.sc k.at locked rest) z i → AtEachExecution C (if b then list_plan k.sc.turns (parts body k.sc k.at locked) else arms_plan others k.sc k.at locked rest) z i
          go true f g = f
          go false f g = g

      else_reached : (other : ElseTree) (locked : Locks) (still : ℕ → Bool) → Fits locked still → UnitsFit k locked → StandsElse C0 D0 k Fits I acc called other → Each Owed (else_whats other) → Each CallReaches (else_calls other) → (z : Store) → I z → (i : List Content) → AtEachExecution C (else_plan other k.sc k.at locked) z i
      else_reached tree.no_else locked still fit units st ow cl z iz i = tt
      else_reached (tree.otherwise body) locked still fit units st ow cl z iz i = listed body locked (parts_reached body false locked still fit units st ow cl) z iz i

      parts_reached : (ss : StmtTrees) (whole : Bool) (locked : Locks) (still : ℕ → Bool) → Fits locked still → UnitsFit k locked → StandsList C0 D0 k Fits I acc called ss whole → Each Owed (list_whats ss) → Each CallReaches (list_calls ss) → PartsAre C I (parts ss k.sc k.at locked)
      parts_reached tree.no_stmts whole locked still fit units st ow cl = tt
      parts_reached (tree.more_stmts (tree.stmt n label w) rest) whole locked still fit units st ow cl =
          let q = in_next C0 D0 k Fits I acc called (tree.stmt n label w) rest whole st in
          let o = each_parts Owed (stmt_whats (tree.stmt n label w)) (list_whats rest) ow in
          let c = each_parts CallReaches (stmt_calls (tree.stmt n label w)) (list_calls rest) cl in (
            (λ z iz i. (stmt_reached (tree.stmt n label w) (whole && is_end rest) locked still fit units q.0 o.0 c.0 z iz i, stmt_stays n label w (whole && is_end rest) locked still fit q.0 z iz i)),
            parts_reached rest whole locked still fit units q.1 o.1 c.1,
          )

    -- a list, from its first statement on; `whole` says that it is the body of the module
    pub list_reached : (ss : StmtTrees) (whole : Bool) (locked : Locks) (still : ℕ → Bool) → Fits locked still → UnitsFit k locked → StandsList C0 D0 k Fits I acc called ss whole → Each Owed (list_whats ss) → Each CallReaches (list_calls ss) → (z : Store) → I z → (i : List Content) → AtEachExecution C (list_plan k.sc.turns (parts ss k.sc k.at locked)) z i
    list_reached ss whole locked still fit units st ow cl z iz i = listed ss locked (parts_reached ss whole locked still fit units st ow cl) z iz i
