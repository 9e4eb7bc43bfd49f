-- What is needed later of a statement, handed down to its parts.
use Rattle.std.proofs.Common.{◌≡◌, ℕ, zero, suc, ◌<◌, List, [], ◌∷◌, ◌++◌, ◌&&◌, Option, Bool, true, false, refl, sym, ap, ◌∙◌, subst, arith, true≢false}
use Rattle.std.specs.Prelude.{if◌then◌else◌, unwrap_or}
use Rattle.std.proofs.lemmas.Bool.{and_parts}
use Rattle.f77_ast.specs.Trees.{ExprTree, StmtTree, WhatTree, ArmTree, ArmTrees, ElseTree, LoopTree, StmtTrees}
use Rattle.f77_ast.specs.Trees as tree
use Rattle.f77_ast.specs.Store.{Content, content, Int, Store, put}
use Rattle.f77_ast.specs.Faults.{Locked, Unset}
use Rattle.f77_ast.specs.Steps.{Faulty, OutOfTurns, Steps}
use Rattle.f77_ast.specs.Runs.{Event, Arrived, Wrote, Ran}
use Rattle.f77_ast.specs.Numbers.{is_true}
use Rattle.f77_ast.specs.Places.{Meant, Constant, Variable, Function}
use Rattle.f77_ast.specs.Values.{value, all_shown, name_target}
use Rattle.f77_ast.specs.Writes.{Locks, lock, write, assigned, items_read}
use Rattle.f77_ast.specs.Plans.{Flow, Normal, Jump, Returned, Stopped, Plan, Ends, Breaks, Show, first}
use Rattle.f77_ast.specs.Executions.{run_of, Claim}
use Rattle.f77_ast.specs.Lists.{from_label, with_jumps, list_plan}
use Rattle.f77_ast.specs.Loops.{Range, range_of, iteration_count, iterations_from}
use Rattle.f77_ast.specs.Statements.{spot, statement_plan, execution, arms_plan, else_plan, do_plan, parts}
use Rattle.f77_ast.specs.declared.results.At.{At}
use Rattle.f77_meaning.specs.Occurrences.{Occurrence, Onward, places_in, Throughout}
use Rattle.affine_systems.specs.declared.row.System.{System}
use Rattle.affine_forms.specs.Conditions.{no_rows}
use Rattle.affine_forms.specs.Claims.{unit_in, numbers_of}
use Rattle.preconditions.specs.transformer_algebra.declared.loop_parts.LoopParts.{LoopParts}
use Rattle.preconditions.specs.transformer_algebra.Loops.{iteration}
use Rattle.preconditions.specs.transformer_algebra.Claims.{Kept, Tracks}
use Rattle.preconditions.specs.transformer_algebra.Laws.{In, here, there}
use Rattle.preconditions.specs.transformer_algebra.Transformers.{all_cells}
use Rattle.preconditions.specs.transformers.Jumps.{stmt_has, list_has, is_end, unstructured}
use Rattle.preconditions.specs.transformers.Lists.{number_of, each_at, list_at, list_of as transformer_of}
use Rattle.preconditions.specs.transformers.Lists as transformers
use Rattle.preconditions.specs.transformers.Loops.{number_in, loop_parts}
use Rattle.preconditions.specs.transformers.Statement.{body_transformer}
use Rattle.in_out_regions.specs.region_sets.declared.region.Access.TheVariants.{Write, Out}
use Rattle.in_out_regions.specs.region_sets.declared.region.Region.{Region}
use Rattle.in_out_regions.specs.region_sets.Lists.{numbers, list_regions, accesses_at, all_accesses, all_forgetting, set_at}
use Rattle.in_out_regions.specs.region_sets.Claims.{LiesInSet}
use Rattle.in_out_regions.specs.array_regions.Reads.{reads, maybe_reads}
use Rattle.in_out_regions.specs.array_regions.Loops.{range_with}
use Rattle.in_out_regions.specs.array_regions.Statement.{what_set}
use Rattle.in_out_regions.specs.array_regions.Statement as regions
use Rattle.in_out_regions.specs.array_regions.Calls.{Called}
use Rattle.in_out_regions.specs.Known.{KnownTree}
use Rattle.in_out_regions.specs.Statement.{what_in, list_of}
use Rattle.in_out_regions.specs.Statement as ins
use Rattle.loop_marker.specs.out_regions.Known as outs
use Rattle.loop_marker.specs.out_regions.Used.{all_out, used}
use Rattle.loop_marker.specs.out_regions.Later.{all_later}
use Rattle.loop_marker.specs.out_regions.Lists.{writes, rest_of, rest_out, first_out, used_behind, may_leave, used_around, any_out}
use Rattle.loop_marker.specs.out_regions.Statement.{body_out, only_out, at_parts, at_arms, at_arm, at_else, at_stmt, at_any, at_used, at_rest, at_first}
use Rattle.laws_analyses.specs.Statements.Good.{Ending}
use Rattle.laws_analyses.specs.Statements.Leads.{stmt_leads, list_leads}
use Rattle.call_graph.specs.CallsIn.{Each, list_calls}
use Rattle.laws_analyses.specs.Statements.Activation.{Fit, Ended}
use Rattle.laws_analyses.proofs.Statements.Loops.{also}
use Rattle.laws_analyses.proofs.Statements.Lists.{own_of}
use Rattle.laws_analyses.proofs.Statements.Placing.{each_parts}
use Rattle.laws_analyses.proofs.Statements.Ranges.{StepIs}
use Rattle.laws_analyses.proofs.Statements.Tracks.{body_tracks}
use Rattle.laws_analyses.specs.Regions.Settings.{scene, Sound, is_plain, maybe_plain, tests_plain}
use Rattle.laws_analyses.specs.Regions.Shown.{Holds, Shown}
use Rattle.laws_analyses.proofs.Regions.Rules.{Goes, OnGave, goes_more, goes_with}
use Rattle.laws_analyses.proofs.Regions.Looks.{IfGave}
use Rattle.laws_analyses.proofs.Regions.Expressions.{Seen, value_looks}
use Rattle.laws_analyses.proofs.Regions.Standing.{found_each}
use Rattle.laws_analyses.proofs.Regions.Moving.{list_moves}
use Rattle.laws_analyses.proofs.Regions.Lists.{Moved, Suffix, suffix_all, suffix_next}
use Rattle.laws_analyses.proofs.Regions.Statements.{RangeIs, range_looks, what_goes, body_goes}
use Rattle.laws_marks.specs.InFrames.{Frame, elements_in, rank}
use Rattle.laws_marks.specs.InShown.{IsFree, FirstShown}
use Rattle.laws_marks.specs.InUnits.{UnitsFit, IsNarrow, SetFits, SetsFit}
use Rattle.laws_marks.specs.InKnowns.{known_in}
use Rattle.laws_marks.proofs.InLists.{Both}
use Rattle.laws_marks.proofs.InStanding.{StandsStmt, StandsParts, StandsList, StandsArms, StandsElse, InAt, in_at, in_within, in_next, in_arms, in_if, body_same}
use Rattle.laws_marks.proofs.InStatements.{units_lock, solid, what_first, stmt_first, with_accesses, moved, keeps_at, turn_keeps, plain_of, body_first, calls_end}
use Rattle.laws_interleavings.specs.Typed.{TagsStand}
use Rattle.laws_marks.specs.OutRests.{onward_by, IsStrict}
use Rattle.laws_marks.specs.OutShown.{NeedsLie, OutShown, IsHanded, LiesAs}
use Rattle.laws_marks.specs.OutLabels.{IsOutward, PartsOutward, StmtOutward, StmtsOutward, ArmsOutward, ElseOutward}
use Rattle.laws_marks.proofs.OutRuns.{throughout_first}
use Rattle.laws_marks.proofs.OutStrictParts.{PartsStrict, MeaningStrict, strict_stmt, strict_parts, strict_jumps, strict_from}
use Rattle.laws_marks.proofs.OutHands.{Need, Hands, hands_ends, hands_breaks, hands_more, hands_knowing, hands_at, hands_first, hands_write}
use Rattle.laws_marks.proofs.OutMoves.{out_lies}
use Rattle.laws_marks.proofs.OutUsed.{of_writes, write_in, used_lies, used_set}
use Rattle.laws_marks.proofs.OutNeeds.{is_element, needs_right, shown_needs, touched}
use Rattle.laws_marks.proofs.OutRest.{all_writes, StmtRan, OneRan, EachRan}
use Rattle.laws_marks.proofs.OutRows.{EachHands, row_hands}
use Rattle.laws_marks.proofs.OutLoose.{AllHands, After, stmt_after, any_hands, around_first, around_list}
use Rattle.laws_marks.proofs.OutTurns.{first_turn, turns_hand}
use Rattle.laws_marks.proofs.OutStanding.{OwesOut, OutStmt, OutParts, OutList, OutArms, OutElse, out_next, out_arms, out_if, out_within, ins_same}
use Rattle.f77_ast.specs.Shapes.{is_return}

-- one of them
found_in : {T : Type 0} (P : T → Type 0) (xs : List T) → Each P xs → (x : T) → In x xs → P x
found_in P [] h x i = elim i [ ]
found_in P (y ∷ xs) h x here = h.0
found_in P (y ∷ xs) h x (there i) = found_in P xs h.1 x i

module _ (k : Frame) (sound : Sound k.base) (C0 C : Claim) (O : Occurrence → Type 0) (lost : ℕ → Bool) (Fits : Locks → (ℕ → Bool) → Type 0) (base : (locked : Locks) (still : ℕ → Bool) → Fits locked still → Fit k.sc.names k.scalar k.at (scene k.base) locked still) (more_fits : (locked : Locks) (still : ℕ → Bool) (x : List ℕ) (v : ℕ) → k.sc.names x ≡ Variable v → k.scalar x ≡ true → Fits locked still → Fits (lock locked (k.at v).first Locked) (also still (k.at v).first)) (I : Store → Type 0) (acc isets osets : List (At (List Region))) (called : Called) (sets : SetsFit k acc)
    (narrow : (ns : List ℕ) (w : Region) → In w (all_writes k acc sets.sets ns) → (p : System) → In p w.pieces → IsNarrow (rank k.ks k.g k.m.symbols w.variable) p) (own_kept : (n i : ℕ) → lost (k.sc.own_unit n i) ≡ false) (callee_strict : (x : List ℕ) → MeaningStrict lost (k.sc.callee x)) (tagged : TagsStand k.sc.names k.at) where
  abbrev T : KnownTree
  T = known_in k acc called

  abbrev U : outs.KnownTree
  U = record { scope = k.m; does = k.does; accesses = acc; ins = isets }

  abbrev Stmt : StmtTree → Bool → Type 0
  Stmt s last = StandsStmt C0 C k Fits I acc called s last

  abbrev Owes : At (List Region) → Type 0
  Owes a = OwesOut C0 C O lost k Fits I acc isets osets called a

  -- ---- what is used of the WRITE regions of a set

  set_narrow : (ws : List Region) → SetFits k ws → (w : Region) → In w (writes ws) → (p : System) → In p w.pieces → IsNarrow (rank k.ks k.g k.m.symbols w.variable) p
  set_narrow ws f w i = of_writes (λ (r : Region). (p : System) → In p r.pieces → IsNarrow (rank k.ks k.g k.m.symbols r.variable) p) ws (λ r j e. f.narrow r j e) w i

  -- what is needed of a stretch that shows these sets lies in what is used of them
  pub used_needs : (ws us : List Region) → SetFits k ws → (locked : Locks) → UnitsFit k locked → (z : Store) (es later : List Event) → Holds k.base ws z es → IsFree k locked es → NeedsLie k us z es later → NeedsLie k (used k.m.symbols us (writes ws)) z es later
  used_needs ws us f locked units z es later h free n u e nd =
      let l = touched k locked units ws z es f.named h free u e nd.written in
      used_set k locked units us z (writes ws) (λ w i q. set_narrow ws f w i) u (free.unlocked u nd.written)
      (record { region = l.region; is_one = write_in ws l.region l.is_one l.kind; kind = l.kind; lies = l.lies }) (n u e nd)

  -- ---- an execution

  -- what it shows by the sets that are looked up
  record Shows (n : ℕ) (locked : Locks) (z : Store) (es : List Event) : Type 0 where
    holds : Holds k.base (set_at acc n) z es
    free : IsFree k locked es

  what_shows : (w : WhatTree) (n : ℕ) (last : Bool) (locked : Locks) (still : ℕ → Bool) → Fits locked still → UnitsFit k locked → InAt C0 C k Fits I acc called n w last → StandsParts C0 C k Fits I acc called w n → (z : Store) → I z → (i : List Content) → Shows n locked z (run_of (execution w n k.sc k.at locked) z i).trace
  what_shows w n last locked still fit units st pa z iz i = record {
    holds = subst (λ rs. Holds k.base rs z (run_of (execution w n k.sc k.at locked) z i).trace) (sym st.found) (what_goes k.base sound C0 Fits base more_fits I w n last locked still fit st.base pa.base z iz i).ending.holds;
    free = (what_first k sound C0 C Fits base more_fits I acc called sets w n last locked still fit units st pa z iz i).ending.free;
  }

  stmt_ran : (n : ℕ) (label : Option ℕ) (w : WhatTree) (last : Bool) (locked : Locks) (still : ℕ → Bool) → Fits locked still → UnitsFit k locked → Stmt (tree.stmt n label w) last → set_at isets n ≡ what_in n w T → OneRan k C I acc isets sets.sets locked still (tree.stmt n label w)
  stmt_ran n label w last locked still fit units st found = record {
    own = own_of last (tree.stmt n label w);
    goes = λ z iz. goes_more C (statement_plan (tree.stmt n label w) k.sc k.at locked) z (λ a y es. Both k C I acc called locked still units w n z a es × OnGave C a y (Moved k.base C I n (λ ls. stmt_leads (tree.stmt n label w) ls) (stmt_has is_return (tree.stmt n label w)) (own_of last (tree.stmt n label w)) still z)) (λ a y es. StmtRan k C I acc isets sets.sets locked still (tree.stmt n label w) (own_of last (tree.stmt n label w)) z a y es)
        (λ a y es p. record { accesses = subst (λ rs. Shown k.base false rs z a es) (sym (in_at C0 C k Fits I acc called n label w last st).found) p.0.accesses; firsts = subst (λ rs. FirstShown k false locked rs z a es) (sym found) p.0.firsts; moved = p.1 })
        (goes_with C (statement_plan (tree.stmt n label w) k.sc k.at locked) z (λ a y es. Both k C I acc called locked still units w n z a es) (Moved k.base C I n (λ ls. stmt_leads (tree.stmt n label w) ls) (stmt_has is_return (tree.stmt n label w)) (own_of last (tree.stmt n label w)) still z)
        (with_accesses k sound C0 C Fits base more_fits I acc called sets n label w last locked still fit units st z iz (stmt_first k sound C0 C Fits base more_fits I acc called sets (tree.stmt n label w) last locked still fit units st z iz))
        (moved k sound C0 C Fits base more_fits I acc called sets n label w last locked still fit st z));
    keeps = keeps_at k sound C0 C Fits base more_fits I acc called sets n label w last st;
  }

  -- what a list shows
  record ListShows (whole : Bool) (body : StmtTrees) (locked : Locks) (z : Store) (es : List Event) : Type 0 where
    holds : Holds k.base (list_regions k.does (accesses_at acc) false body) z es
    free : IsFree k locked es

  list_shows : (body : StmtTrees) (locked : Locks) (still : ℕ → Bool) → Fits locked still → UnitsFit k locked → StandsList C0 C k Fits I acc called body false → (z : Store) → I z → (i : List Content) → ListShows false body locked z (run_of (list_plan k.sc.turns (parts body k.sc k.at locked)) z i).trace
  list_shows body locked still fit units st z iz i = record {
    holds = subst (λ rs. Holds k.base rs z (run_of (list_plan k.sc.turns (parts body k.sc k.at locked)) z i).trace) (sym (body_same C0 C k Fits I acc called body false st)) (body_goes k.base sound C0 Fits base more_fits I body false locked still fit st.base z iz i).ending.holds;
    free = (body_first k sound C0 C Fits base more_fits I acc called sets body false locked still fit units st z iz i).ending.free;
  }

  abbrev ListPlan : StmtTrees → Locks → Plan
  ListPlan body locked = list_plan k.sc.turns (parts body k.sc k.at locked)

  -- OUT of a list that is a part of a statement with these OUT regions
  list_out : (body : StmtTrees) (us : List Region) (locked : Locks) (still : ℕ → Bool) → Fits locked still → UnitsFit k locked → StandsList C0 C k Fits I acc called body false → (z : Store) → I z → Hands O lost (ListPlan body locked) z (NeedsLie k (body_out U false body us) z) → Hands O lost (ListPlan body locked) z (NeedsLie k us z)
  list_out body us locked still fit units st z iz h =
      hands_knowing O lost (ListPlan body locked) z (λ a y es. ListShows false body locked z es) (NeedsLie k us z) (NeedsLie k (body_out U false body us) z) (λ i. list_shows body locked still fit units st z iz i)
      (λ a y es later p n. used_needs (list_regions k.does (accesses_at acc) false body) us (sets.bodies body) locked units z es later p.holds p.free n) h

  -- a statement, of which these regions may be read behind it
  node : (n : ℕ) (label : Option ℕ) (w : WhatTree) (last : Bool) (locked : Locks) (still : ℕ → Bool) → Fits locked still → UnitsFit k locked → InAt C0 C k Fits I acc called n w last → StandsParts C0 C k Fits I acc called w n → (us own : List Region) → own ≡ used k.m.symbols us (writes (set_at acc n)) → Owes (record { id = n; value = own }) → (z : Store) → I z →
      Hands O lost (execution w n k.sc k.at locked) z (NeedsLie k us z) → Hands O lost (statement_plan (tree.stmt n label w) k.sc k.at locked) z (NeedsLie k us z)
  node n label w last locked still fit units st pa us own e o z iz h =
      hands_at O lost (spot k.sc.module_name n) k.at (execution w n k.sc k.at locked) z (NeedsLie k us z) (NeedsLie k us z) h (λ i later nd. claim n st.base.numbered o.owes i later (shows i later nd))
      (λ es later m. needs_right k us z (Arrived (spot k.sc.module_name n) ∷ []) es later m)
    where
      shows : (i : List Content) (later : List Event) → NeedsLie k us z (run_of (execution w n k.sc k.at locked) z i).trace later → OutShown k own z (run_of (execution w n k.sc k.at locked) z i).trace later
      shows i later nd =
          let s = what_shows w n last locked still fit units st pa z iz i in
          shown_needs k (set_at acc n) own z (run_of (execution w n k.sc k.at locked) z i).trace later (sets.sets n).named s.holds
          (λ u x l. subst (λ rs. LiesInSet (scene k.base) (elements_in k) Out rs (numbers_of z) u) (sym e)
          (used_set k locked units us z (writes (set_at acc n)) (λ r j q. set_narrow (set_at acc n) (sets.sets n) r j) u (s.free.unlocked u x.written)
          (record { region = l.region; is_one = write_in (set_at acc n) l.region l.is_one l.kind; kind = l.kind; lies = l.lies }) (nd u (is_element k Write (set_at acc n) (numbers_of z) u l) x)))

      claim : (j : ℕ) → 0 < j → ((s : Store) (q : Ran Flow) (later : List Event) → OutShown k own s q.trace later → O (record { spot = spot k.sc.module_name j; places = k.at; start = s; ran = q; later = later })) → (i : List Content) (later : List Event) → OutShown k own z (run_of (execution w n k.sc k.at locked) z i).trace later →
          O (record { spot = spot k.sc.module_name j; places = places_in j (execution w n k.sc k.at locked) z i k.at; start = z; ran = run_of (execution w n k.sc k.at locked) z i; later = later })
      claim zero l f i later p = absurd (omega (arith, l))
      claim (suc j) l f i later p = f z (run_of (execution w n k.sc k.at locked) z i) later p

  -- ---- lists

  parts_strict : (ss : StmtTrees) (locked : Locks) → PartsStrict lost (parts ss k.sc k.at locked)
  parts_strict ss locked = strict_parts lost k.sc own_kept callee_strict k.at tagged ss locked

  return_set : (w : WhatTree) → is_return w ≡ true → what_set w k.m k.does k.calls ≡ []
  return_set (tree.assign a b) e = absurd (true≢false (sym e))
  return_set (tree.block_if arms other) e = absurd (true≢false (sym e))
  return_set (tree.logical_if f s) e = absurd (true≢false (sym e))
  return_set (tree.do_loop l) e = absurd (true≢false (sym e))
  return_set (tree.call y es) e = absurd (true≢false (sym e))
  return_set (tree.goto l) e = absurd (true≢false (sym e))
  return_set tree.continue e = absurd (true≢false (sym e))
  return_set tree.return e = refl
  return_set (tree.stop text) e = absurd (true≢false (sym e))
  return_set (tree.print es) e = absurd (true≢false (sym e))
  return_set (tree.read es) e = absurd (true≢false (sym e))

  each_ran : (ss : StmtTrees) (whole : Bool) (locked : Locks) (still : ℕ → Bool) → Fits locked still → UnitsFit k locked → StandsList C0 C k Fits I acc called ss whole → OutList C0 C O lost k Fits I acc isets osets called ss → EachRan k C I acc isets sets.sets locked still ss
  each_ran tree.no_stmts whole locked still fit units st out = tt
  each_ran (tree.more_stmts (tree.stmt n label w) rest) whole locked still fit units st out =
      let q = in_next C0 C k Fits I acc called (tree.stmt n label w) rest whole st in
      let o = out_next C0 C O lost k Fits I acc isets osets called (tree.stmt n label w) rest out in
      (stmt_ran n label w (whole && is_end rest) locked still fit units q.0 o.0.found.0, each_ran rest whole locked still fit units q.1 o.1)

  -- ---- OUT of a list whose statements have their claims

  abbrev OneHands : StmtTree → Locks → List Region → Type 0
  OneHands s locked us = (z : Store) → I z → Hands O lost (statement_plan s k.sc k.at locked) z (NeedsLie k us z)

  list_hands : (body : StmtTrees) (whole : Bool) (out : List Region) (locked : Locks) (still : ℕ → Bool) → Fits locked still → (units : UnitsFit k locked) → StandsList C0 C k Fits I acc called body whole → OutList C0 C O lost k Fits I acc isets osets called body → IsOutward whole body →
      (unstructured whole body ≡ false → EachHands k C O lost I acc isets sets.sets locked still units narrow whole body out) → (unstructured whole body ≡ true → AllHands k C O lost I acc isets sets.sets locked still units body whole (used_around U whole body out) (parts body k.sc k.at locked)) →
      (z : Store) → I z → Hands O lost (ListPlan body locked) z (NeedsLie k out z)
  list_hands body whole out locked still fit units st o labels row any z iz = go (unstructured whole body) refl
    where
      ran : EachRan k C I acc isets sets.sets locked still body
      ran = each_ran body whole locked still fit units st o

      nothing : (n : ℕ) (label : Option ℕ) (w : WhatTree) (rest : StmtTrees) → Suffix k.base C I body whole (tree.more_stmts (tree.stmt n label w) rest) → is_return w ≡ true → set_at acc n ≡ []
      nothing n label w rest x e = of_each n w (x.found (record { id = n; value = what_set w k.m k.does k.calls }) here) ∙ return_set w e
        where
          of_each : (n : ℕ) (w : WhatTree) → In (record { id = n; value = what_set w k.m k.does k.calls }) (regions.at_list body k.m k.does k.calls) → set_at acc n ≡ what_set w k.m k.does k.calls
          of_each n w i = found_in (λ (a : At (List Region)). set_at acc a.id ≡ a.value) (regions.at_list body k.m k.does k.calls) st.found (record { id = n; value = what_set w k.m k.does k.calls }) i

      in_turns : (n : ℕ) → unstructured whole body ≡ false → Hands O lost (with_jumps n (parts body k.sc k.at locked) (parts body k.sc k.at locked)) z (NeedsLie k out z)
      in_turns zero e = row_hands k C O lost I acc isets sets.sets locked still units narrow body whole e (λ j. Breaks OutOfTurns) (λ j. tt) nothing body (suffix_all k.base C I body whole) ran (parts_strict body locked) (labels e) out (row e) z iz
      in_turns (suc n) e =
          row_hands k C O lost I acc isets sets.sets locked still units narrow body whole e (λ j. with_jumps n (parts body k.sc k.at locked) (from_label j (parts body k.sc k.at locked)))
          (λ j. strict_jumps lost n (parts body k.sc k.at locked) (from_label j (parts body k.sc k.at locked)) (parts_strict body locked) (strict_from lost j (parts body k.sc k.at locked) (parts_strict body locked)))
          nothing body (suffix_all k.base C I body whole) ran (parts_strict body locked) (labels e) out (row e) z iz

      cells_are : unstructured whole body ≡ true → (list_at k.does whole body).cells ≡ all_cells (each_at k.does body)
      cells_are e = ap (λ b. (if b then transformers.in_any_order (each_at k.does body) else transformers.in_order (each_at k.does body)).cells) e

      go : (b : Bool) → unstructured whole body ≡ b → Hands O lost (ListPlan body locked) z (NeedsLie k out z)
      go true e =
          any_hands k C O lost I acc isets sets.sets locked still units body whole (used_around U whole body out) out z iz
          (λ y u s f. subst (λ cs. LiesInSet (scene k.base) (elements_in k) Out (all_out (all_forgetting cs (all_accesses (set_at isets) (numbers body))) ++ all_out (all_forgetting cs out)) (numbers_of y) u) (sym (cells_are e)) (around_first k C O lost I acc isets sets.sets locked still units body whole out y u f))
          (λ y u s l. subst (λ cs. LiesInSet (scene k.base) (elements_in k) Out (all_out (all_forgetting cs (all_accesses (set_at isets) (numbers body))) ++ all_out (all_forgetting cs out)) (numbers_of y) u) (sym (cells_are e)) (around_list k C O lost I acc isets sets.sets locked still units body whole out z y u s l))
          (any e)
      go false e = in_turns k.sc.turns e

  -- ---- an IF, and a DO, from their lists

  abbrev DoOf : List ℕ → ExprTree → ExprTree → Option ExprTree → StmtTrees → LoopTree
  DoOf index e1 e2 e3 body = tree.loop index e1 e2 e3 body

  module _ (index : List ℕ) (e1 e2 : ExprTree) (e3 : Option ExprTree) (body : StmtTrees) (locked : Locks) (still : ℕ → Bool) (fit : Fits locked still) (units : UnitsFit k locked) (x : Store) (begun : I x) (out : List Region) where
    abbrev L : LoopTree
    L = tree.loop index e1 e2 e3 body

    abbrev lp : LoopParts
    lp = loop_parts k.m L (list_at k.does false body)

    abbrev unit : ℕ
    unit = unit_in k.at lp.index

    abbrev ws : List Region
    ws = list_regions k.does (accesses_at acc) false body

    abbrev is : List Region
    is = list_of false body T (ins.at_list body T)

    -- what may be read behind an iteration
    abbrev BehindTurn : List Region
    BehindTurn = all_out (all_forgetting (iteration lp).cells out) ++ all_out (all_later lp.tracked (range_with lp) is)

    module _ (bare : k.scalar index ≡ true) (st : StandsList C0 C k Fits I acc called body false) (path : list_at k.does false body ≡ body_transformer L k.m k.cs) (keeps : (y z : Store) → Kept (scene k.base) (iteration lp).cells (iteration lp).foreign (numbers_of y) (numbers_of z) → I y → I z)
        (inner : Fits (lock locked unit Locked) (also still unit) → (y : Store) → I y → Hands O lost (ListPlan body (lock locked unit Locked)) y (NeedsLie k BehindTurn y)) where
      from_range : (r : Range) → RangeIs k.base sound x (solid k sound C0 C Fits base more_fits I acc called sets locked still fit) e1 e2 lp.step r → k.sc.names index ≡ Variable lp.index → Hands O lost (first (write locked unit (content Int r.from)) (λ o. iterations_from (iteration_count r.from r.last r.step) r.from r.step unit (ListPlan body (lock locked unit Locked)))) x (NeedsLie k out x)
      from_range r h named =
          hands_write O lost locked unit (content Int r.from) (λ o. iterations_from (iteration_count r.from r.last r.step) r.from r.step unit (ListPlan body (lock locked unit Locked))) x (NeedsLie k out x)
          (λ free. hands_more O lost (iterations_from (iteration_count r.from r.last r.step) r.from r.step unit (ListPlan body (lock locked unit Locked))) (put x unit (content Int r.from)) (λ es later. NeedsLie k out x (Wrote unit (content Int r.from) ∷ es) later) (NeedsLie k out x)
          (λ es later m. needs_right k out x (Wrote unit (content Int r.from) ∷ []) es later m)
          (turns_hand k sound C O lost locked still (base locked still fit) units index lp named bare refl tracks ws is (ListPlan body (lock locked unit Locked)) (λ ls. list_leads body ls) (list_has is_return body) x r.from r.last r.step I free h.first h.last h.step h.nonzero keeps begun
          firsts moves out body_strict (λ y i. inner fits y i) 0 (iteration_count r.from r.last r.step) r.from (put x unit (content Int r.from))
          (first_turn k sound C O lost locked still (base locked still fit) units index lp named bare refl tracks ws is (ListPlan body (lock locked unit Locked)) (λ ls. list_leads body ls) (list_has is_return body) x r.from r.last r.step I free h.first h.last h.step h.nonzero keeps begun
          (iteration_count r.from r.last r.step) (λ s q. ap (λ v. iteration_count r.from r.last v) (sym (subst (λ o. StepIs o r.step) q h.step))))))
        where
          fits : Fits (lock locked unit Locked) (also still unit)
          fits = more_fits locked still index lp.index named bare fit

          tracks : Tracks (scene k.base) (list_at k.does false body).cells
          tracks = subst (λ t. Tracks (scene k.base) t.cells) (sym path) (body_tracks (scene k.base) k.sc.names k.m sound.names_fit (λ c h. h) (λ c. refl) k.cs sound.calls_track L)

          firsts : (y : Store) → I y → Goes C (ListPlan body (lock locked unit Locked)) y (λ f z fs. FirstShown k false (lock locked unit Locked) is y f fs)
          firsts y i = body_first k sound C0 C Fits base more_fits I acc called sets body false (lock locked unit Locked) (also still unit) fits (units_lock k locked unit Locked units) st y i

          moves : (y : Store) → Ending (ListPlan body (lock locked unit Locked)) y (λ f z. Ended (scene k.base) lp.body no_rows (λ ls. list_leads body ls) (list_has is_return body) false (also still unit) y f z)
          moves y =
              subst (λ t. Ending (ListPlan body (lock locked unit Locked)) y (Ended (scene k.base) t no_rows (λ ls. list_leads body ls) (list_has is_return body) false (also still unit) y)) (sym path)
              (list_moves k.base sound Fits base more_fits body false (lock locked unit Locked) (also still unit) fits st.base.numbers st.base.found st.base.targets (calls_end k sound C0 C Fits base more_fits I acc called sets (list_calls body) st.base.calls) y)

          body_strict : IsStrict lost (ListPlan body (lock locked unit Locked))
          body_strict = strict_jumps lost k.sc.turns (parts body k.sc k.at (lock locked unit Locked)) (parts body k.sc k.at (lock locked unit Locked)) (parts_strict body (lock locked unit Locked)) (parts_strict body (lock locked unit Locked))

      at_unit : (r : Range) → RangeIs k.base sound x (solid k sound C0 C Fits base more_fits I acc called sets locked still fit) e1 e2 lp.step r → (u v : ℕ) → u ≡ (k.at v).first → lp.index ≡ v → k.sc.names index ≡ Variable v → Hands O lost (first (write locked u (content Int r.from)) (λ o. iterations_from (iteration_count r.from r.last r.step) r.from r.step u (ListPlan body (lock locked u Locked)))) x (NeedsLie k out x)
      at_unit r h u v eq same named =
          subst (λ y. Hands O lost (first (write locked y (content Int r.from)) (λ o. iterations_from (iteration_count r.from r.last r.step) r.from r.step y (ListPlan body (lock locked y Locked)))) x (NeedsLie k out x)) (ap (λ i. (k.at i).first) same ∙ sym eq)
          (from_range r h (named ∙ ap Variable (sym same)))

      do_hands : is_plain k.scalar e1 ≡ true → is_plain k.scalar e2 ≡ true → maybe_plain k.scalar e3 ≡ true → Hands O lost (do_plan L k.sc k.at locked) x (NeedsLie k out x)
      do_hands p q r =
          hands_first O lost (range_of e1 e2 e3 k.sc.names k.at) _ x (λ a es. Seen k.base sound x (reads e1 k.m ++ (reads e2 k.m ++ maybe_reads e3 k.m)) a es × IfGave a (RangeIs k.base sound x (solid k sound C0 C Fits base more_fits I acc called sets locked still fit) e1 e2 lp.step)) (NeedsLie k out x)
          (range_looks k.base sound x (solid k sound C0 C Fits base more_fits I acc called sets locked still fit) e1 e2 e3 p q r)
          (λ y es h. hands_more O lost (first (name_target (k.sc.names index) k.at) (λ t. first (write locked t.unit (content Int y.from)) (λ o. iterations_from (iteration_count y.from y.last y.step) y.from y.step t.unit (ListPlan body (lock locked t.unit Locked))))) x (λ fs later. NeedsLie k out x (es ++ fs) later) (NeedsLie k out x) (λ fs later m. needs_right k out x es fs later m) (target y h.1 (k.sc.names index) refl))
        where
          target : (y : Range) → RangeIs k.base sound x (solid k sound C0 C Fits base more_fits I acc called sets locked still fit) e1 e2 lp.step y → (w : Meant) → k.sc.names index ≡ w → Hands O lost (first (name_target w k.at) (λ t. first (write locked t.unit (content Int y.from)) (λ o. iterations_from (iteration_count y.from y.last y.step) y.from y.step t.unit (ListPlan body (lock locked t.unit Locked))))) x (NeedsLie k out x)
          target y h (Constant c) n = hands_breaks O lost (Faulty Unset) x (NeedsLie k out x)
          target y h Function n = hands_breaks O lost (Faulty Unset) x (NeedsLie k out x)
          target y h (Variable v) n = at_unit y h (k.at v).first v refl (ap (λ o. unwrap_or o 0) (sound.names_fit.numbers index v n)) n

  -- an execution, by its own OUT regions
  owned : (w : WhatTree) (n : ℕ) (last : Bool) (locked : Locks) (still : ℕ → Bool) → Fits locked still → UnitsFit k locked → InAt C0 C k Fits I acc called n w last → StandsParts C0 C k Fits I acc called w n → (us own : List Region) → own ≡ used k.m.symbols us (writes (set_at acc n)) → (z : Store) → I z → Hands O lost (execution w n k.sc k.at locked) z (NeedsLie k own z) → Hands O lost (execution w n k.sc k.at locked) z (NeedsLie k us z)
  owned w n last locked still fit units st pa us own e z iz h =
      hands_knowing O lost (execution w n k.sc k.at locked) z (λ a y es. Shows n locked z es) (NeedsLie k us z) (NeedsLie k own z) (λ i. what_shows w n last locked still fit units st pa z iz i)
      (λ a y es later p m. subst (λ rs. NeedsLie k rs z es later) (sym e) (used_needs (set_at acc n) us (sets.sets n) locked units z es later p.holds p.free m)) h

  -- what no list is a part of has no execution in it
  simple : {A : Type 0} (t : Steps A) (f : A → Plan) (z : Store) (N : Need) → ((a : A) (y : Store) (j : List Content) (o : Onward) → Throughout O (f a) y j o) → Hands O lost (first t f) z N
  simple t f z N h i g fl cf nd = throughout_first O t f z i (onward_by g) (λ a y j. h a y j (onward_by g))

  -- the statement of a logical IF
  only_hands : (m : ℕ) (lb : Option ℕ) (v : WhatTree) (own : List Region) (locked : Locks) (still : ℕ → Bool) → Fits locked still → UnitsFit k locked → Stmt (tree.stmt m lb v) false → set_at isets m ≡ what_in m v T → (z : Store) → I z → Hands O lost (statement_plan (tree.stmt m lb v) k.sc k.at locked) z (NeedsLie k (all_out (any_out U own m)) z) → Hands O lost (statement_plan (tree.stmt m lb v) k.sc k.at locked) z (NeedsLie k own z)
  only_hands m lb v own locked still fit units st found z iz h =
      let ran = stmt_ran m lb v false locked still fit units st found in
      hands_knowing O lost (statement_plan (tree.stmt m lb v) k.sc k.at locked) z (λ a y es. StmtRan k C I acc isets sets.sets locked still (tree.stmt m lb v) ran.own z a y es) (NeedsLie k own z) (NeedsLie k (all_out (any_out U own m)) z) (λ i. (ran.goes z iz i).ending)
      (λ a y es later p n u x nd. out_lies (scene k.base) (elements_in k) (any_out U own m) Out (numbers_of z) u (used_needs (set_at acc m) own (sets.sets m) locked units z es later p.accesses.holds p.firsts.free n u x nd)) h

  -- a test, and then a list or what comes after
  arm_either : (t : ExprTree) (one rest : Plan) (own : List Region) (locked : Locks) (still : ℕ → Bool) → Fits locked still → (z : Store) → is_plain k.scalar t ≡ true → Hands O lost one z (NeedsLie k own z) → Hands O lost rest z (NeedsLie k own z) → Hands O lost (first (value t k.sc.names k.at) (λ c. if is_true c.number then one else rest)) z (NeedsLie k own z)
  arm_either t one rest own locked still fit z p h g =
      hands_first O lost (value t k.sc.names k.at) (λ c. if is_true c.number then one else rest) z (Seen k.base sound z (reads t k.m)) (NeedsLie k own z) (value_looks k.base sound z (solid k sound C0 C Fits base more_fits I acc called sets locked still fit) t p)
      (λ c es q. either (is_true c.number) es)
    where
      either : (b : Bool) (es : List Event) → Hands O lost (if b then one else rest) z (λ fs later. NeedsLie k own z (es ++ fs) later)
      either true es = hands_more O lost one z (λ fs later. NeedsLie k own z (es ++ fs) later) (NeedsLie k own z) (λ fs later i. needs_right k own z es fs later i) h
      either false es = hands_more O lost rest z (λ fs later. NeedsLie k own z (es ++ fs) later) (NeedsLie k own z) (λ fs later i. needs_right k own z es fs later i) g

  -- the OUT regions at the statements of a list
  abbrev pub AtEach : Bool → Bool → StmtTrees → List Region → Type 0
  AtEach b whole body out = Each Owes (if b then at_any body U (used_around U whole body out) else at_rest whole body U out)

  pub in_order_of : (body : StmtTrees) (whole : Bool) (out : List Region) → unstructured whole body ≡ false → AtEach (unstructured whole body) whole body out → Each Owes (at_rest whole body U out)
  in_order_of body whole out e h = subst (λ b. AtEach b whole body out) e h

  pub in_any_of : (body : StmtTrees) (whole : Bool) (out : List Region) → unstructured whole body ≡ true → AtEach (unstructured whole body) whole body out → Each Owes (at_any body U (used_around U whole body out))
  in_any_of body whole out e h = subst (λ b. AtEach b whole body out) e h

  -- what may be read behind an iteration, with IN of the body as it is looked up
  same_behind : (index : List ℕ) (e1 e2 : ExprTree) (e3 : Option ExprTree) (body : StmtTrees) (own : List Region) → OutList C0 C O lost k Fits I acc isets osets called body → StandsList C0 C k Fits I acc called body false → Each Owes (at_parts (tree.do_loop (tree.loop index e1 e2 e3 body)) U own) →
      AtEach (unstructured false body) false body (body_out U false body (all_out (all_forgetting (iteration (loop_parts k.m (tree.loop index e1 e2 e3 body) (list_at k.does false body))).cells own) ++ all_out (all_later (loop_parts k.m (tree.loop index e1 e2 e3 body) (list_at k.does false body)).tracked (range_with (loop_parts k.m (tree.loop index e1 e2 e3 body) (list_at k.does false body))) (list_of false body T (ins.at_list body T)))))
  same_behind index e1 e2 e3 body own out st o =
      subst (λ rs. AtEach (unstructured false body) false body (body_out U false body (all_out (all_forgetting (iteration (loop_parts k.m (tree.loop index e1 e2 e3 body) (list_at k.does false body))).cells own) ++ all_out (all_later (loop_parts k.m (tree.loop index e1 e2 e3 body) (list_at k.does false body)).tracked (range_with (loop_parts k.m (tree.loop index e1 e2 e3 body) (list_at k.does false body))) rs))))
      (ins_same C0 C O lost k Fits I acc isets osets called false body st.base.numbers out) o

  mutual
    pub stmt_hands : (s : StmtTree) (last : Bool) (locked : Locks) (still : ℕ → Bool) → Fits locked still → UnitsFit k locked → Stmt s last → OutStmt C0 C O lost k Fits I acc isets osets called s → StmtOutward s → (us own : List Region) → own ≡ used k.m.symbols us (writes (set_at acc (number_of s))) → Each Owes (at_stmt s U own) → (z : Store) → I z → Hands O lost (statement_plan s k.sc k.at locked) z (NeedsLie k us z)
    stmt_hands (tree.stmt n label w) last locked still fit units st out labels us own e o z iz =
        let a = in_at C0 C k Fits I acc called n label w last st in
        let pa = in_within C0 C k Fits I acc called n label w last st in
        node n label w last locked still fit units a pa us own e o.0 z iz (what_hands w n last locked still fit units a pa (out_within C0 C O lost k Fits I acc isets osets called n label w out) labels us own e o.0.found o.1 z iz)

    what_hands : (w : WhatTree) (n : ℕ) (last : Bool) (locked : Locks) (still : ℕ → Bool) → Fits locked still → UnitsFit k locked → InAt C0 C k Fits I acc called n w last → StandsParts C0 C k Fits I acc called w n → OutParts C0 C O lost k Fits I acc isets osets called w n → PartsOutward w → (us own : List Region) → own ≡ used k.m.symbols us (writes (set_at acc n)) → set_at osets n ≡ own → Each Owes (at_parts w U own) → (z : Store) → I z → Hands O lost (execution w n k.sc k.at locked) z (NeedsLie k us z)
    what_hands (tree.assign a b) n last locked still fit units st pa out labels us own e f o z iz = simple (assigned a b k.sc.names k.at locked) (λ x. Ends Normal) z (NeedsLie k us z) (λ x y j h. tt)
    what_hands (tree.block_if arms other) n last locked still fit units st pa out labels us own e f o z iz =
        let q = in_if C0 C k Fits I acc called arms other n pa in
        let r = out_if C0 C O lost k Fits I acc isets osets called arms other n out in
        let d = each_parts Owes (at_arms arms U own) (at_else other U own) o in
        owned (tree.block_if arms other) n last locked still fit units st pa us own e z iz
        (arms_hands arms other locked still fit units q.0 r.0 labels.0 (plain_of k sound C0 C Fits base more_fits I acc called sets (tree.block_if arms other) n last st) own d.0 z iz (else_hands other locked still fit units q.1 r.1 labels.1 own d.1 z iz))
    what_hands (tree.logical_if t (tree.stmt m lb v)) n last locked still fit units st pa out labels us own e f o z iz =
        owned (tree.logical_if t (tree.stmt m lb v)) n last locked still fit units st pa us own e z iz
        (hands_first O lost (value t k.sc.names k.at) (λ c. if is_true c.number then statement_plan (tree.stmt m lb v) k.sc k.at locked else Ends Normal) z (Seen k.base sound z (reads t k.m)) (NeedsLie k own z)
        (value_looks k.base sound z (solid k sound C0 C Fits base more_fits I acc called sets locked still fit) t (plain_of k sound C0 C Fits base more_fits I acc called sets (tree.logical_if t (tree.stmt m lb v)) n last st))
        (λ c es p. either (is_true c.number) es (only_hands m lb v own locked still fit units pa out.found.0 z iz (stmt_hands (tree.stmt m lb v) false locked still fit units pa out labels (all_out (any_out U own m)) (only_out U m own) refl o z iz))))
      where
        either : (b : Bool) (es : List Event) → Hands O lost (statement_plan (tree.stmt m lb v) k.sc k.at locked) z (NeedsLie k own z) → Hands O lost (if b then statement_plan (tree.stmt m lb v) k.sc k.at locked else Ends Normal) z (λ fs later. NeedsLie k own z (es ++ fs) later)
        either true es h = hands_more O lost (statement_plan (tree.stmt m lb v) k.sc k.at locked) z (λ fs later. NeedsLie k own z (es ++ fs) later) (NeedsLie k own z) (λ fs later i. needs_right k own z es fs later i) h
        either false es h = hands_ends O lost Normal z (λ fs later. NeedsLie k own z (es ++ fs) later)
    what_hands (tree.do_loop l) n last locked still fit units st pa out labels us own e f o z iz = owned (tree.do_loop l) n last locked still fit units st pa us own e z iz (loop_hands l n last locked still fit units st pa out labels own o z iz)
    what_hands (tree.call x es) n last locked still fit units st pa out labels us own e f o z iz =
        hands_knowing O lost (execution (tree.call x es) n k.sc k.at locked) z (λ a y ts. Shows n locked z ts) (NeedsLie k us z) (λ ts later. IsHanded k (writes (set_at acc n)) (set_at osets n) z ts later) (λ i. what_shows (tree.call x es) n last locked still fit units st pa z iz i)
        (λ a y ts later p m u nd w i q l. subst (λ rs. LiesAs k w.variable rs z u) (sym (f ∙ e))
        (used_lies k locked units us z (writes (set_at acc n)) w i q (set_narrow (set_at acc n) (sets.sets n) w i) u (p.free.unlocked u nd.written) l (m u (record { variable = w.variable; phi = l.phi; there = l.there }) nd)))
        (out.calls.0 (plain_of k sound C0 C Fits base more_fits I acc called sets (tree.call x es) n last st) locked still fit units us (f ∙ e) z iz)
    what_hands (tree.goto l) n last locked still fit units st pa out labels us own e f o z iz = hands_ends O lost (Jump l) z (NeedsLie k us z)
    what_hands tree.continue n last locked still fit units st pa out labels us own e f o z iz = hands_ends O lost Normal z (NeedsLie k us z)
    what_hands tree.return n last locked still fit units st pa out labels us own e f o z iz = hands_ends O lost Returned z (NeedsLie k us z)
    what_hands (tree.stop text) n last locked still fit units st pa out labels us own e f o z iz = hands_ends O lost Stopped z (NeedsLie k us z)
    what_hands (tree.print es) n last locked still fit units st pa out labels us own e f o z iz = simple (all_shown es k.sc.names k.at) (λ xs. Show xs (Ends Normal)) z (NeedsLie k us z) (λ x y j h. tt)
    what_hands (tree.read es) n last locked still fit units st pa out labels us own e f o z iz = simple (items_read es k.sc.names k.at locked) (λ x. Ends Normal) z (NeedsLie k us z) (λ x y j h. tt)

    loop_hands : (l : LoopTree) (n : ℕ) (last : Bool) (locked : Locks) (still : ℕ → Bool) → Fits locked still → UnitsFit k locked → InAt C0 C k Fits I acc called n (tree.do_loop l) last → StandsParts C0 C k Fits I acc called (tree.do_loop l) n → OutParts C0 C O lost k Fits I acc isets osets called (tree.do_loop l) n → PartsOutward (tree.do_loop l) → (own : List Region) → Each Owes (at_parts (tree.do_loop l) U own) → (z : Store) → I z → Hands O lost (do_plan l k.sc k.at locked) z (NeedsLie k own z)
    loop_hands (tree.loop index e1 e2 e3 body) n last locked still fit units st pa out labels own o z iz =
        let p = and_parts (k.scalar index) (is_plain k.scalar e1 && (is_plain k.scalar e2 && maybe_plain k.scalar e3)) (plain_of k sound C0 C Fits base more_fits I acc called sets (tree.do_loop (tree.loop index e1 e2 e3 body)) n last st) in
        let q = and_parts (is_plain k.scalar e1) (is_plain k.scalar e2 && maybe_plain k.scalar e3) p.1 in
        let r = and_parts (is_plain k.scalar e2) (maybe_plain k.scalar e3) q.1 in
        let path = ap (λ xs. transformer_of false body xs) (found_each C0 k.base Fits I body false pa.base) in
        let u = unit_in k.at (number_in k.m index) in
        let us = BehindTurn index e1 e2 e3 body locked still fit units z iz own in
        do_hands index e1 e2 e3 body locked still fit units z iz own p.0 pa path (turn_keeps k sound C0 C Fits base more_fits I acc called sets index e1 e2 e3 body path st.base.keeps)
        (λ f y iy. list_out body us (lock locked u Locked) (also still u) f (units_lock k locked u Locked units) pa y iy
        (list_hands body false (body_out U false body us) (lock locked u Locked) (also still u) f (units_lock k locked u Locked units) pa out labels.0
        (λ g. rows_hands body body false (lock locked u Locked) (also still u) f (units_lock k locked u Locked units) (suffix_all k.base C I body false) pa out labels.1 (body_out U false body us) (in_order_of body false (body_out U false body us) g (same_behind index e1 e2 e3 body own out pa o)))
        (λ g. anys_hands body body false (lock locked u Locked) (also still u) f (units_lock k locked u Locked units) (suffix_all k.base C I body false) pa out labels.1 (used_around U false body (body_out U false body us)) (in_any_of body false (body_out U false body us) g (same_behind index e1 e2 e3 body own out pa o)))
        y iy))
        q.0 r.0 r.1

    arms_hands : (arms : ArmTrees) (other : ElseTree) (locked : Locks) (still : ℕ → Bool) → Fits locked still → UnitsFit k locked → StandsArms C0 C k Fits I acc called arms → OutArms C0 C O lost k Fits I acc isets osets called arms → ArmsOutward arms → tests_plain k.scalar arms ≡ true → (own : List Region) → Each Owes (at_arms arms U own) → (z : Store) → I z → Hands O lost (else_plan other k.sc k.at locked) z (NeedsLie k own z) → Hands O lost (arms_plan arms k.sc k.at locked (else_plan other k.sc k.at locked)) z (NeedsLie k own z)
    arms_hands tree.no_arms other locked still fit units st out labels p own o z iz h = h
    arms_hands (tree.more_arms (tree.arm t body) more) other locked still fit units st out labels p own o z iz h =
        let q = in_arms C0 C k Fits I acc called (tree.arm t body) more st in
        let r = out_arms C0 C O lost k Fits I acc isets osets called (tree.arm t body) more out in
        let s = and_parts (is_plain k.scalar t) (tests_plain k.scalar more) p in
        let d = each_parts Owes (at_arm (tree.arm t body) U own) (at_arms more U own) o in
        let us = body_out U false body own in
        arm_either t (ListPlan body locked) (arms_plan more k.sc k.at locked (else_plan other k.sc k.at locked)) own locked still fit z s.0
        (list_out body own locked still fit units q.0 z iz
        (list_hands body false us locked still fit units q.0 r.0 labels.0.0
        (λ g. rows_hands body body false locked still fit units (suffix_all k.base C I body false) q.0 r.0 labels.0.1 us (in_order_of body false us g d.0))
        (λ g. anys_hands body body false locked still fit units (suffix_all k.base C I body false) q.0 r.0 labels.0.1 (used_around U false body us) (in_any_of body false us g d.0)) z iz))
        (arms_hands more other locked still fit units q.1 r.1 labels.1 s.1 own d.1 z iz h)

    else_hands : (other : ElseTree) (locked : Locks) (still : ℕ → Bool) → Fits locked still → UnitsFit k locked → StandsElse C0 C k Fits I acc called other → OutElse C0 C O lost k Fits I acc isets osets called other → ElseOutward other → (own : List Region) → Each Owes (at_else other U own) → (z : Store) → I z → Hands O lost (else_plan other k.sc k.at locked) z (NeedsLie k own z)
    else_hands tree.no_else locked still fit units st out labels own o z iz = hands_ends O lost Normal z (NeedsLie k own z)
    else_hands (tree.otherwise body) locked still fit units st out labels own o z iz =
        let us = body_out U false body own in
        list_out body own locked still fit units st z iz
        (list_hands body false us locked still fit units st out labels.0
        (λ g. rows_hands body body false locked still fit units (suffix_all k.base C I body false) st out labels.1 us (in_order_of body false us g o))
        (λ g. anys_hands body body false locked still fit units (suffix_all k.base C I body false) st out labels.1 (used_around U false body us) (in_any_of body false us g o)) z iz)

    pub rows_hands : (ss all : StmtTrees) (whole : Bool) (locked : Locks) (still : ℕ → Bool) → Fits locked still → (units : UnitsFit k locked) → Suffix k.base C I all whole ss → StandsList C0 C k Fits I acc called ss whole → OutList C0 C O lost k Fits I acc isets osets called ss → StmtsOutward ss → (out : List Region) → Each Owes (at_rest whole ss U out) → EachHands k C O lost I acc isets sets.sets locked still units narrow whole ss out
    rows_hands tree.no_stmts all whole locked still fit units x st o labels out h = tt
    rows_hands (tree.more_stmts (tree.stmt n label w) rest) all whole locked still fit units x st o labels out h =
        let q = in_next C0 C k Fits I acc called (tree.stmt n label w) rest whole st in
        let r = out_next C0 C O lost k Fits I acc isets osets called (tree.stmt n label w) rest o in
        let R = rest_of U whole rest in
        let d = each_parts Owes (at_first whole (tree.stmt n label w) U R out) (at_rest whole rest U (rest_out U n R out)) h in (
          (λ z iz. stmt_hands (tree.stmt n label w) (whole && is_end rest) locked still fit units q.0 r.0 labels.0 (used_behind U (may_leave whole (tree.stmt n label w) R) n R out) (first_out U (may_leave whole (tree.stmt n label w) R) n R out) refl d.0 z iz),
          rows_hands rest all whole locked still fit units (suffix_next k.base C I all whole (tree.stmt n label w) rest x) q.1 r.1 labels.1 (rest_out U n R out) d.1,
        )

    pub anys_hands : (ss all : StmtTrees) (whole : Bool) (locked : Locks) (still : ℕ → Bool) → Fits locked still → (units : UnitsFit k locked) → Suffix k.base C I all whole ss → StandsList C0 C k Fits I acc called ss whole → OutList C0 C O lost k Fits I acc isets osets called ss → StmtsOutward ss → (us : List Region) → Each Owes (at_any ss U us) → AllHands k C O lost I acc isets sets.sets locked still units all whole us (parts ss k.sc k.at locked)
    anys_hands tree.no_stmts all whole locked still fit units x st o labels us h = tt
    anys_hands (tree.more_stmts (tree.stmt n label w) rest) all whole locked still fit units x st o labels us h =
        let q = in_next C0 C k Fits I acc called (tree.stmt n label w) rest whole st in
        let r = out_next C0 C O lost k Fits I acc isets osets called (tree.stmt n label w) rest o in
        let d = each_parts Owes (at_used (tree.stmt n label w) U us) (at_any rest U us) h in
        let ran = stmt_ran n label w (whole && is_end rest) locked still fit units q.0 r.0.found.0 in (
          record {
            ran = λ y z es g. goes_more C (statement_plan (tree.stmt n label w) k.sc k.at locked) z (λ a v fs. StmtRan k C I acc isets sets.sets locked still (tree.stmt n label w) ran.own z a v fs) (λ a v fs. After k C O lost I acc isets sets.sets locked still units all whole y a v (es ++ fs))
                (λ a v fs p. stmt_after k C O lost I acc isets sets.sets locked still units all whole ran.own (tree.stmt n label w) (x.inside n here) (x.moves (k.does n) here) ran.keeps y z es g a v fs p) (ran.goes z g.since);
            hands = λ z iz. stmt_hands (tree.stmt n label w) (whole && is_end rest) locked still fit units q.0 r.0 labels.0 us (any_out U us n) refl d.0 z iz;
            strict = strict_stmt lost k.sc own_kept callee_strict k.at tagged (tree.stmt n label w) locked;
          },
          anys_hands rest all whole locked still fit units (suffix_next k.base C I all whole (tree.stmt n label w) rest x) q.1 r.1 labels.1 us d.1,
        )

  -- a list, from its first statement on; `whole` says that it is the body of the module
  pub body_hands : (ss : StmtTrees) (whole : Bool) (locked : Locks) (still : ℕ → Bool) → Fits locked still → UnitsFit k locked → StandsList C0 C k Fits I acc called ss whole → OutList C0 C O lost k Fits I acc isets osets called ss → IsOutward whole ss → StmtsOutward ss → (out : List Region) → AtEach (unstructured whole ss) whole ss out → (z : Store) → I z → Hands O lost (ListPlan ss locked) z (NeedsLie k out z)
  body_hands ss whole locked still fit units st o labels inner out h z iz =
      list_hands ss whole out locked still fit units st o labels
      (λ g. rows_hands ss ss whole locked still fit units (suffix_all k.base C I ss whole) st o inner out (in_order_of ss whole out g h))
      (λ g. anys_hands ss ss whole locked still fit units (suffix_all k.base C I ss whole) st o inner (used_around U whole ss out) (in_any_of ss whole out g h)) z iz
