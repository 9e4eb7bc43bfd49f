-- Each execution in a statement is shown by its IN regions.
use Rattle.std.proofs.Common.{◌≡◌, ⊎_elim, ℕ, zero, suc, ◌<◌, List, [], ◌∷◌, ◌++◌, ◌&&◌, Option, Some, None, Bool, true, false, refl, sym, ap, ◌∙◌, subst, arith, nat_eq}
use Rattle.std.specs.Prelude.{if◌then◌else◌, unwrap_or}
use Rattle.std.proofs.lemmas.Bool.{and_parts, not-false}
use Rattle.f77_ast.specs.Trees.{ExprTree, StmtTree, WhatTree, ArmTrees, ElseTree, LoopTree, StmtTrees}
use Rattle.f77_ast.specs.Trees as tree
use Rattle.f77_ast.specs.Store.{Content, content, Int, Store, put}
use Rattle.f77_ast.specs.Faults.{Fault, Locked, Unset}
use Rattle.f77_ast.specs.Steps.{Faulty}
use Rattle.f77_ast.specs.Runs.{Event, Wrote, Ran, Answer, Gave, Broke}
use Rattle.f77_ast.specs.Places.{Meant, Constant, Variable, Function}
use Rattle.f77_ast.specs.Values.{name_target}
use Rattle.f77_ast.specs.Writes.{Locks, first_lock, lock, write}
use Rattle.f77_ast.specs.Plans.{Flow, Normal, Jump, Returned, Stopped, Plan, Ends, Breaks, first}
use Rattle.f77_ast.specs.Executions.{run_of, Claim}
use Rattle.f77_ast.specs.Lists.{in_order as plan_in_order, list_plan}
use Rattle.f77_ast.specs.Loops.{Range, range_of, iteration_count, iterations_from}
use Rattle.f77_ast.specs.StatementNumbers.{list_numbers}
use Rattle.f77_ast.specs.Statements.{spot, statement_plan, execution, arms_plan, else_plan, do_plan, parts}
use Rattle.f77_ast.specs.declared.results.At.{At}
use Rattle.f77_meaning.specs.Occurrences.{places_in}
use Rattle.affine_forms.specs.Conditions.{no_rows}
use Rattle.affine_forms.specs.Claims.{unit_in, numbers_of}
use Rattle.preconditions.specs.transformer_algebra.declared.loop_parts.LoopParts.{LoopParts}
use Rattle.preconditions.specs.transformer_algebra.Claims.{HoldsAt, Kept, Tracks}
use Rattle.preconditions.specs.transformer_algebra.declared.transformer.Transformer.{Transformer}
use Rattle.preconditions.specs.transformer_algebra.Loops.{iteration}
use Rattle.preconditions.specs.transformer_algebra.Laws.{In, here, there}
use Rattle.preconditions.specs.transformers.Jumps.{stmt_has, list_has, is_end, unstructured}
use Rattle.preconditions.specs.transformers.Lists.{list_of as transformer_of, list_at}
use Rattle.preconditions.specs.transformers.Loops.{number_in, loop_parts}
use Rattle.preconditions.specs.transformers.Statement.{parts_do, body_transformer}
use Rattle.preconditions.specs.transformers.Statement as transformers
use Rattle.in_out_regions.specs.region_sets.declared.region.Access.TheVariants.{Write, In as AtIn}
use Rattle.in_out_regions.specs.region_sets.declared.region.Region.{Region}
use Rattle.in_out_regions.specs.region_sets.Sets.{unite_all}
use Rattle.in_out_regions.specs.region_sets.Lists.{accesses_at, list_regions, set_at}
use Rattle.in_out_regions.proofs.RegionSets.StepLaws.{in_either}
use Rattle.in_out_regions.specs.array_regions.declared.arms.Reached.{Reached}
use Rattle.in_out_regions.specs.array_regions.Arms.{always, past_arms, if_false}
use Rattle.in_out_regions.specs.array_regions.References.{scalar}
use Rattle.in_out_regions.specs.array_regions.Reads.{reads, maybe_reads}
use Rattle.in_out_regions.specs.array_regions.Loops.{range_with}
use Rattle.in_out_regions.specs.array_regions.Statement.{what_set}
use Rattle.in_out_regions.specs.array_regions.Statement as regions
use Rattle.in_out_regions.specs.Kinds.{all_in, first_reads}
use Rattle.in_out_regions.specs.array_regions.Calls.{Called}
use Rattle.in_out_regions.specs.Known.{KnownTree}
use Rattle.in_out_regions.specs.Lists.{all_unless_overlapped}
use Rattle.in_out_regions.specs.Loops.{all_iterations, do_in}
use Rattle.in_out_regions.specs.Statement.{list_of, stmt_in, only_in, what_in, else_in, at_stmt, at_list}
use Rattle.laws_analyses.specs.Statements.Good.{Ending}
use Rattle.laws_analyses.specs.Statements.Leads.{stmt_leads, list_leads}
use Rattle.call_graph.specs.CallsIn.{CallAt, Each, stmt_calls, list_calls}
use Rattle.laws_analyses.specs.Statements.Targets.{has_targets}
use Rattle.laws_analyses.specs.Statements.Activation.{Fit, Ended}
use Rattle.laws_analyses.proofs.Statements.Loops.{also}
use Rattle.laws_analyses.proofs.Statements.Lists.{own_of}
use Rattle.laws_analyses.proofs.Statements.Ranges.{StepIs}
use Rattle.laws_analyses.proofs.Statements.Tracks.{body_tracks}
use Rattle.laws_analyses.specs.Regions.Settings.{scene, Sound, is_plain, maybe_plain, tests_plain, has_plain}
use Rattle.laws_marks.specs.InFrames.{Frame, elements_in}
use Rattle.laws_analyses.specs.Regions.Shown.{Holds, Sharp, Shown}
use Rattle.laws_analyses.proofs.Regions.Traces.{trace_nil}
use Rattle.laws_analyses.proofs.Regions.Rules.{Goes, goes_ends, goes_breaks, goes_more, goes_at, goes_write}
use Rattle.laws_analyses.proofs.Regions.Looks.{IfGave, goes_first}
use Rattle.laws_analyses.proofs.Regions.Expressions.{Seen}
use Rattle.laws_marks.proofs.InFramed.{by_order}
use Rattle.laws_analyses.proofs.Regions.Showing.{finally_more}
use Rattle.laws_analyses.proofs.Regions.Standing.{Distinct, CallStands, found_each, stands_at}
use Rattle.laws_analyses.proofs.Regions.Moving.{AllEnd, stmt_moves, list_moves}
use Rattle.laws_analyses.proofs.Regions.Lists.{KeepsAt, Moved, Suffix, suffix_all, suffix_next}
use Rattle.laws_analyses.proofs.Regions.Statements.{RangeIs, range_looks, stmt_goes, body_goes}
use Rattle.laws_marks.specs.InShown.{first_read, FirstHolds, FirstSharp, FirstShown}
use Rattle.laws_marks.specs.InUnits.{UnitsFit, AreOf, SetFits, SetsFit}
use Rattle.laws_marks.specs.InKnowns.{known_in}
use Rattle.laws_marks.proofs.InFirsts.{first_left, first_right}
use Rattle.laws_marks.proofs.InGathering.{EachOne}
use Rattle.laws_marks.proofs.InRests.{SharpUnless, overlapped_lies, overlapped_sharp, united_unless}
use Rattle.laws_marks.proofs.InTaking.{NoWrites, first_arrived, free_none, free_both, first_holds_left, first_holds_both, first_holds_gathered, seen_first, seen_sharp, first_more, first_broke, first_gathered, first_idle}
use Rattle.laws_marks.proofs.InQuiet.{looked_quiet}
use Rattle.laws_marks.proofs.InSimple.{goes_both, assign_in, print_in, read_in}
use Rattle.laws_marks.proofs.InArms.{logical_in, arms_all, arm_first, otherwise_first}
use Rattle.laws_marks.proofs.InLists.{Both, Taken, ordered, row_first, Each_first, loose_first, list_first}
use Rattle.laws_marks.proofs.InLoops.{Looped, Bodied, loop_first}
use Rattle.laws_marks.proofs.InStanding.{StandsStmt, StandsParts, StandsList, StandsArms, StandsElse, InAt, in_at, in_within, in_next, in_arms, in_if, body_same, in_found}
use Rattle.f77_ast.specs.Shapes.{is_return}
use Rattle.preconditions.proofs.TransformerAlgebra.Members.{in_right}

-- more units are locked
pub units_lock : (k : Frame) (locked : Locks) (u : ℕ) (f : Fault) → UnitsFit k locked → UnitsFit k (lock locked u f)
units_lock k locked u f h = record { once = h.once; apart = λ v w phi psi y p q free. h.apart v w phi psi y p q (less (nat_eq y u) (locked y) refl free); no_actual = λ v phi y p free. h.no_actual v phi y p (less (nat_eq y u) (locked y) refl free); no_actuals = λ x v q y p free. h.no_actuals x v q y p (less (nat_eq y u) (locked y) refl free); not_lost = h.not_lost }
  where
    less : {y : ℕ} (b : Bool) (o : Option Fault) → locked y ≡ o → (if b then first_lock o f else locked y) ≡ None → locked y ≡ None
    less b None q i = q
    less true (Some g) q i = cc
    less false (Some g) q i = i

module _ (k : Frame) (sound : Sound k.base) (C0 D : Claim) (Fits : Locks → (ℕ → Bool) → Type 0) (base : (locked : Locks) (still : ℕ → Bool) → Fits locked still → Fit k.sc.names k.scalar k.at (scene k.base) locked still) (more_fits : (locked : Locks) (still : ℕ → Bool) (x : List ℕ) (v : ℕ) → k.sc.names x ≡ Variable v → k.scalar x ≡ true → Fits locked still → Fits (lock locked (k.at v).first Locked) (also still (k.at v).first)) (I : Store → Type 0) (acc : List (At (List Region))) (called : Called) (sets : SetsFit k acc) where
  pub solid : (locked : Locks) (still : ℕ → Bool) → Fits locked still → (x : List ℕ) (v : ℕ) → k.sc.names x ≡ Variable v → k.scalar x ≡ true → 0 < (k.at v).extent
  solid locked still fit = (base locked still fit).solid

  abbrev T : KnownTree
  T = known_in k acc called

  -- ---- DO

  module _ (index : List ℕ) (e1 e2 : ExprTree) (e3 : Option ExprTree) (body : StmtTrees) (locked : Locks) (still : ℕ → Bool) (fit : Fits locked still) (units : UnitsFit k locked) (x : Store) (begun : I x) where
    abbrev L : LoopTree
    L = tree.loop index e1 e2 e3 body

    abbrev lp : LoopParts
    lp = loop_parts k.m L (list_at k.does false body)

    abbrev unit : ℕ
    unit = unit_in k.at lp.index

    abbrev ws : List Region
    ws = list_regions k.does (accesses_at acc) false body

    abbrev is : List Region
    is = list_of false body T (at_list body T)

    abbrev heads : List Region
    heads = reads e1 k.m ++ (reads e2 k.m ++ maybe_reads e3 k.m)

    abbrev over_body : List Region
    over_body = all_iterations lp.tracked (range_with lp) k.m.symbols ws is

    abbrev all : List Region
    all = all_in heads ++ over_body

    abbrev done : List Region
    done = all_unless_overlapped k.m.symbols (scalar Write lp.index ∷ ws) (unite_all all)

    abbrev bodies : Locks → Plan
    bodies l = list_plan k.sc.turns (parts body k.sc k.at l)

    maybe_named : (o : Option ExprTree) → AreOf k.may_name (maybe_reads o k.m)
    maybe_named None r i = elim i [ ]
    maybe_named (Some e) r i = sets.exprs e r i

    heads_named : AreOf k.may_name (reads e1 k.m ++ (reads e2 k.m ++ maybe_reads e3 k.m))
    heads_named r i = ⊎_elim (λ j. sets.exprs e1 r j) (λ j. ⊎_elim (λ l. sets.exprs e2 r l) (λ l. maybe_named e3 r l) (in_either r (reads e2 k.m) (maybe_reads e3 k.m) j)) (in_either r (reads e1 k.m) (reads e2 k.m ++ maybe_reads e3 k.m) i)

    to_done : (es : List Event) → FirstHolds k all x es → FirstHolds k done x es
    to_done es h u i = overlapped_lies k.m.symbols (scene k.base) (elements_in k) (by_order k) (scalar Write lp.index ∷ ws) (unite_all all) AtIn (numbers_of x) u (first_holds_gathered k all x es h u i)

    heads_done : (es : List Event) → Holds k.base heads x es → FirstHolds k done x es
    heads_done es h = to_done es (first_holds_left k (all_in heads) over_body x es (seen_first k heads x es heads_named h))

    module _ (bare : k.scalar index ≡ true) (path : list_at k.does false body ≡ body_transformer L k.m k.cs) (inner : (y : Store) → Fits (lock locked unit Locked) (also still unit) → UnitsFit k (lock locked unit Locked) → I y → Goes D (bodies (lock locked unit Locked)) y (λ f z fs. Shown k.base false ws y f fs × FirstShown k false (lock locked unit Locked) is y f fs)) (moves : (y : Store) → Fits (lock locked unit Locked) (also still unit) → Ending (bodies (lock locked unit Locked)) y (Ended (scene k.base) (body_transformer L k.m k.cs) no_rows (λ ls. list_leads body ls) (list_has is_return body) false (also still unit) y)) (keeps : (y z : Store) → Kept (scene k.base) (iteration lp).cells (iteration lp).foreign (numbers_of y) (numbers_of z) → I y → I z) where
      from_range : (r : Range) → RangeIs k.base sound x (solid locked still fit) e1 e2 lp.step r → k.sc.names index ≡ Variable lp.index → (es : List Event) → Holds k.base heads x es → Sharp k.base heads x es → NoWrites es → Goes D (first (write locked unit (content Int r.from)) (λ o. iterations_from (iteration_count r.from r.last r.step) r.from r.step unit (bodies (lock locked unit Locked)))) x (λ f z fs. FirstShown k false locked done x f (es ++ fs))
      from_range r h named es g w n =
          goes_write D locked unit (content Int r.from) (λ o. iterations_from (iteration_count r.from r.last r.step) r.from r.step unit (bodies (lock locked unit Locked))) x (λ f z fs. FirstShown k false locked done x f (es ++ fs))
          (λ free. goes_more D (iterations_from (iteration_count r.from r.last r.step) r.from r.step unit (bodies (lock locked unit Locked))) (put x unit (content Int r.from)) (λ f z fs. Looped k sound D locked still (base locked still fit) units index lp named bare refl tracks ws is (sets.bodies body) (bodies (lock locked unit Locked)) (λ ls. list_leads body ls) (list_has is_return body) x r.from r.last r.step I free h.first h.last h.step h.nonzero keeps begun f (Wrote unit (content Int r.from) ∷ fs)) (λ f z fs. FirstShown k false locked done x f (es ++ Wrote unit (content Int r.from) ∷ fs))
          (λ f z fs i. finished free f (Wrote unit (content Int r.from) ∷ fs) i)
          (loop_first k sound D locked still (base locked still fit) units index lp named bare refl tracks ws is (sets.bodies body) (bodies (lock locked unit Locked)) (λ ls. list_leads body ls) (list_has is_return body) x r.from r.last r.step I free h.first h.last h.step h.nonzero keeps begun
          (λ y i. goes_more D (bodies (lock locked unit Locked)) y (λ f z fs. Shown k.base false ws y f fs × FirstShown k false (lock locked unit Locked) is y f fs) (λ f z fs. Bodied k sound D locked still (base locked still fit) units index lp named bare refl tracks ws is (sets.bodies body) (bodies (lock locked unit Locked)) (λ ls. list_leads body ls) (list_has is_return body) x r.from r.last r.step I free h.first h.last h.step h.nonzero keeps begun y f fs) (λ f z fs p. record { accesses = p.0; firsts = p.1 }) (inner y fits (units_lock k locked unit Locked units) i))
          (λ y. subst (λ t. Ending (bodies (lock locked unit Locked)) y (Ended (scene k.base) t no_rows (λ ls. list_leads body ls) (list_has is_return body) false (also still unit) y)) (sym path) (moves y fits))
          (iteration_count r.from r.last r.step) (λ s q. ap (λ v. iteration_count r.from r.last v) (sym (subst (λ o. StepIs o r.step) q h.step)))))
          (λ b. subst (λ ts. FirstShown k false locked done x (Broke b) ts) (sym (trace_nil es)) (first_broke k false locked done x b es (heads_done es g) (free_none k locked es n)))
        where
          fits : Fits (lock locked unit Locked) (also still unit)
          fits = more_fits locked still index lp.index named bare fit

          tracks : Tracks (scene k.base) (list_at k.does false body).cells
          tracks = subst (λ t. Tracks (scene k.base) t.cells) (sym path) (body_tracks (scene k.base) k.sc.names k.m sound.names_fit (λ c h. h) (λ c. refl) k.cs sound.calls_track L)

          finished : (free : locked unit ≡ None) (f : Answer Flow) (fs : List Event) → Looped k sound D locked still (base locked still fit) units index lp named bare refl tracks ws is (sets.bodies body) (bodies (lock locked unit Locked)) (λ ls. list_leads body ls) (list_has is_return body) x r.from r.last r.step I free h.first h.last h.step h.nonzero keeps begun f fs → FirstShown k false locked done x f (es ++ fs)
          finished free f fs i = record {
            holds = to_done (es ++ fs) (first_holds_both k (all_in heads) over_body x es fs (seen_first k heads x es heads_named g) i.holds);
            sharp = finally_more false f (EachOne (SharpUnless k.m.symbols (scene k.base) (elements_in k) (by_order k) (scalar Write lp.index ∷ ws) (numbers_of x) (first_read fs)) over_body) (FirstSharp k done x (es ++ fs)) sharp i.sharp;
            free = free_both k locked es fs (free_none k locked es n) i.free_so;
          }
            where
              sharp : EachOne (SharpUnless k.m.symbols (scene k.base) (elements_in k) (by_order k) (scalar Write lp.index ∷ ws) (numbers_of x) (first_read fs)) over_body → FirstSharp k done x (es ++ fs)
              sharp w' = united_unless k.m.symbols (scene k.base) (elements_in k) (by_order k) (scalar Write lp.index ∷ ws) all (numbers_of x) (first_read (es ++ fs)) each
                where
                  each : EachOne (SharpUnless k.m.symbols (scene k.base) (elements_in k) (by_order k) (scalar Write lp.index ∷ ws) (numbers_of x) (first_read (es ++ fs))) all
                  each q j = ⊎_elim
                      (λ l v s o e p st c. (let a = seen_sharp k heads x es heads_named n w q l e p st c in record { unit = a.unit; there = a.there; is_so = first_left a.unit es fs a.is_so }))
                      (λ l v s o e p st c. (let a = w' q l v s o e p st c in record { unit = a.unit; there = a.there; is_so = first_right a.unit es fs (n.unwritten a.unit) a.is_so }))
                      (in_either q (all_in heads) over_body j)

      at_unit : (r : Range) → RangeIs k.base sound x (solid locked still fit) e1 e2 lp.step r → (u v : ℕ) → u ≡ (k.at v).first → lp.index ≡ v → k.sc.names index ≡ Variable v → (es : List Event) → Holds k.base heads x es → Sharp k.base heads x es → NoWrites es → Goes D (first (write locked u (content Int r.from)) (λ o. iterations_from (iteration_count r.from r.last r.step) r.from r.step u (bodies (lock locked u Locked)))) x (λ f z fs. FirstShown k false locked done x f (es ++ fs))
      at_unit r h u v eq same named es g w n =
          subst (λ y. Goes D (first (write locked y (content Int r.from)) (λ o. iterations_from (iteration_count r.from r.last r.step) r.from r.step y (bodies (lock locked y Locked)))) x (λ f z fs. FirstShown k false locked done x f (es ++ fs))) (ap (λ i. (k.at i).first) same ∙ sym eq)
          (from_range r h (named ∙ ap Variable (sym same)) es g w n)

      pub do_first : is_plain k.scalar e1 ≡ true → is_plain k.scalar e2 ≡ true → maybe_plain k.scalar e3 ≡ true → Goes D (do_plan L k.sc k.at locked) x (λ f z fs. FirstShown k false locked (do_in L T ws is) x f fs)
      do_first p q r =
          goes_first D (range_of e1 e2 e3 k.sc.names k.at) _ x _ (λ f z fs. FirstShown k false locked done x f fs) (looked_quiet (range_of e1 e2 e3 k.sc.names k.at) x (λ a es. Seen k.base sound x heads a es × IfGave a (RangeIs k.base sound x (solid locked still fit) e1 e2 lp.step)) (range_looks k.base sound x (solid locked still fit) e1 e2 e3 p q r))
          (λ y es h. target y es h.0.0.holds h.0.0.sharp h.1 h.0.1 (k.sc.names index) refl)
          (λ b es h. first_broke k false locked done x b es (heads_done es h.0.0.holds) (free_none k locked es h.1))
        where
          missed : (es : List Event) → Holds k.base heads x es → NoWrites es → Goes D (Breaks (Faulty Unset)) x (λ f z fs. FirstShown k false locked done x f (es ++ fs))
          missed es g n = goes_breaks D (Faulty Unset) x (λ f z fs. FirstShown k false locked done x f (es ++ fs)) (subst (λ ts. FirstShown k false locked done x (Broke (Faulty Unset)) ts) (sym (trace_nil es)) (first_broke k false locked done x (Faulty Unset) es (heads_done es g) (free_none k locked es n)))

          target : (y : Range) (es : List Event) → Holds k.base heads x es → Sharp k.base heads x es → NoWrites es → RangeIs k.base sound x (solid locked still fit) e1 e2 lp.step y → (w : Meant) → k.sc.names index ≡ w → Goes D (first (name_target w k.at) (λ t. first (write locked t.unit (content Int y.from)) (λ o. iterations_from (iteration_count y.from y.last y.step) y.from y.step t.unit (bodies (lock locked t.unit Locked))))) x (λ f z fs. FirstShown k false locked done x f (es ++ fs))
          target y es g w n h (Constant c) e = missed es g n
          target y es g w n h Function e = missed es g n
          target y es g w n h (Variable v) e = at_unit y h (k.at v).first v refl (ap (λ o. unwrap_or o 0) (sound.names_fit.numbers index v e)) e es g w n

  -- ---- an execution

  node : (n : ℕ) (label : Option ℕ) (w : WhatTree) (last : Bool) (locked : Locks) (z : Store) → InAt C0 D k Fits I acc called n w last → Goes D (execution w n k.sc k.at locked) z (λ a y es. FirstShown k false locked (what_in n w T) z a es) → Goes D (statement_plan (tree.stmt n label w) k.sc k.at locked) z (λ a y es. FirstShown k false locked (what_in n w T) z a es)
  node n label w last locked z st h =
      goes_at D (spot k.sc.module_name n) k.at (execution w n k.sc k.at locked) z (λ a y es. FirstShown k false locked (what_in n w T) z a es) (λ a y es. FirstShown k false locked (what_in n w T) z a es) h
      (λ i p. claim n st.base.numbered (what_in n w T) (st.owes locked) i p)
      (λ a y es p. first_arrived k false locked (what_in n w T) z a k.sc.module_name n es st.base.numbered p)
    where
      claim : (j : ℕ) → 0 < j → (rs : List Region) → ((s : Store) (q : Ran Flow) → FirstShown k false locked rs s q.answer q.trace → D (spot k.sc.module_name j) k.at s q) → (i : List Content) → FirstShown k false locked rs z (run_of (execution w n k.sc k.at locked) z i).answer (run_of (execution w n k.sc k.at locked) z i).trace → D (spot k.sc.module_name j) (places_in j (execution w n k.sc k.at locked) z i k.at) z (run_of (execution w n k.sc k.at locked) z i)
      claim zero l rs f i p = absurd (omega (arith, l))
      claim (suc j) l rs f i p = f z (run_of (execution w n k.sc k.at locked) z i) p

  -- how CALLs end, without what they access
  pub calls_end : (cs : List CallAt) → Each (CallStands C0 k.base Fits I) cs → AllEnd k.base sound Fits base more_fits cs
  calls_end [] h = tt
  calls_end (c ∷ cs) h = (h.0.ends, calls_end cs h.1)

  -- what holds stays where the statement of a number is executed
  pub keeps_at : (n : ℕ) (label : Option ℕ) (w : WhatTree) (last : Bool) → StandsStmt C0 D k Fits I acc called (tree.stmt n label w) last → KeepsAt k.base D I n
  keeps_at n label w last st = subst (λ (t : Transformer). (x y : Store) → Kept (scene k.base) t.cells t.foreign (numbers_of x) (numbers_of y) → I x → I y) (sym (stands_at C0 k.base Fits I n label w last st.base).transformer) st.base.keeps.0

  -- so it does over an iteration of a DO
  pub turn_keeps : (index : List ℕ) (e1 e2 : ExprTree) (e3 : Option ExprTree) (body : StmtTrees) → list_at k.does false body ≡ body_transformer (tree.loop index e1 e2 e3 body) k.m k.cs → ((y z : Store) → Kept (scene k.base) (parts_do (loop_parts k.m (tree.loop index e1 e2 e3 body) (body_transformer (tree.loop index e1 e2 e3 body) k.m k.cs))).cells (parts_do (loop_parts k.m (tree.loop index e1 e2 e3 body) (body_transformer (tree.loop index e1 e2 e3 body) k.m k.cs))).foreign (numbers_of y) (numbers_of z) → I y → I z) → (y z : Store) → Kept (scene k.base) (iteration (loop_parts k.m (tree.loop index e1 e2 e3 body) (list_at k.does false body))).cells (iteration (loop_parts k.m (tree.loop index e1 e2 e3 body) (list_at k.does false body))).foreign (numbers_of y) (numbers_of z) → I y → I z
  turn_keeps index e1 e2 e3 body path h = subst (λ (t : Transformer). (y z : Store) → Kept (scene k.base) (iteration (loop_parts k.m (tree.loop index e1 e2 e3 body) t)).cells (iteration (loop_parts k.m (tree.loop index e1 e2 e3 body) t)).foreign (numbers_of y) (numbers_of z) → I y → I z) (sym path) h

  pub moved : (n : ℕ) (label : Option ℕ) (w : WhatTree) (last : Bool) (locked : Locks) (still : ℕ → Bool) → Fits locked still → StandsStmt C0 D k Fits I acc called (tree.stmt n label w) last → (z : Store) → Ending (statement_plan (tree.stmt n label w) k.sc k.at locked) z (Moved k.base D I n (λ ls. stmt_leads (tree.stmt n label w) ls) (stmt_has is_return (tree.stmt n label w)) (own_of last (tree.stmt n label w)) still z)
  moved n label w last locked still fit st z =
      subst (λ t. Ending (statement_plan (tree.stmt n label w) k.sc k.at locked) z (Ended (scene k.base) t no_rows (λ ls. stmt_leads (tree.stmt n label w) ls) (stmt_has is_return (tree.stmt n label w)) (own_of last (tree.stmt n label w)) still z)) (sym (stands_at C0 k.base Fits I n label w last st.base).transformer)
      (stmt_moves k.base sound Fits base more_fits (tree.stmt n label w) last locked still fit st.base.numbers st.base.found st.base.targets (calls_end (stmt_calls (tree.stmt n label w)) st.base.calls) z)

  quiet : (locked : Locks) (f : Flow) (z : Store) → Goes D (Ends f) z (λ a y es. FirstShown k false locked [] z a es)
  quiet locked f z = goes_ends D f z (λ a y es. FirstShown k false locked [] z a es) (first_idle k false locked z (Gave f))

  pub plain_of : (w : WhatTree) (n : ℕ) (last : Bool) → InAt C0 D k Fits I acc called n w last → has_plain k.scalar w ≡ true
  plain_of w n last st = not-false (has_plain k.scalar w) st.base.plain

  pub targets_of : (w : WhatTree) (n : ℕ) (last : Bool) → InAt C0 D k Fits I acc called n w last → has_targets k.scalar w ≡ true
  targets_of w n last st = not-false (has_targets k.scalar w) st.base.targets

  -- with READ and WRITE
  pub with_accesses : (n : ℕ) (label : Option ℕ) (w : WhatTree) (last : Bool) (locked : Locks) (still : ℕ → Bool) (fit : Fits locked still) (units : UnitsFit k locked) → StandsStmt C0 D k Fits I acc called (tree.stmt n label w) last → (z : Store) → I z → Goes D (statement_plan (tree.stmt n label w) k.sc k.at locked) z (λ a y es. FirstShown k false locked (what_in n w T) z a es) → Goes D (statement_plan (tree.stmt n label w) k.sc k.at locked) z (λ a y es. Both k D I acc called locked still units w n z a es)
  with_accesses n label w last locked still fit units st z iz h =
      goes_more D (statement_plan (tree.stmt n label w) k.sc k.at locked) z (λ a y es. Shown k.base false (what_set w k.m k.does k.calls) z a es × FirstShown k false locked (what_in n w T) z a es) (λ a y es. Both k D I acc called locked still units w n z a es) (λ a y es p. record { accesses = p.0; firsts = p.1 })
      (goes_both C0 D (statement_plan (tree.stmt n label w) k.sc k.at locked) z (λ a y es. Shown k.base false (what_set w k.m k.does k.calls) z a es) (λ a y es. FirstShown k false locked (what_in n w T) z a es) (stmt_goes k.base sound C0 Fits base more_fits I (tree.stmt n label w) last locked still fit st.base z iz) h)

  -- and so of the statement of a logical IF, as of a list of it alone
  first_alone : (ws rs : List Region) (locked : Locks) (z : Store) (a : Answer Flow) (es : List Event) → FirstShown k false locked rs z a es → FirstShown k false locked (all_unless_overlapped k.m.symbols ws (unite_all rs)) z a es
  first_alone ws rs locked z a es h =
      first_more k false locked (unite_all rs) (all_unless_overlapped k.m.symbols ws (unite_all rs)) z a es es
      (λ f u i. overlapped_lies k.m.symbols (scene k.base) (elements_in k) (by_order k) ws (unite_all rs) AtIn (numbers_of z) u (f u i))
      (λ f. overlapped_sharp k.m.symbols (scene k.base) (elements_in k) (by_order k) ws (unite_all rs) (numbers_of z) (first_read es) (λ r i v s o. f r i))
      (λ f. f) (first_gathered k false locked rs z a es h)

  -- the sets of a statement of a list
  taken_of : (all : StmtTrees) (whole : Bool) (locked : Locks) (still : ℕ → Bool) (units : UnitsFit k locked) → Distinct (list_numbers all) → (n : ℕ) (w : WhatTree) (last : Bool) → InAt C0 D k Fits I acc called n w last → In (transformers.at n (what_in n w T)) (at_list all T) → Taken k D I acc called locked still units all n w
  taken_of all whole locked still units d n w last st i = record { accesses = st.found; firsts = in_found C0 D k Fits I acc called all d n w i; fit = subst (λ rs. SetFits k rs) st.found (sets.sets n) }

  mutual
    pub stmt_first : (s : StmtTree) (last : Bool) (locked : Locks) (still : ℕ → Bool) → Fits locked still → UnitsFit k locked → StandsStmt C0 D k Fits I acc called s last → (z : Store) → I z → Goes D (statement_plan s k.sc k.at locked) z (λ a y es. FirstShown k false locked (stmt_in s T) z a es)
    stmt_first (tree.stmt n label w) last locked still fit units st z iz =
        node n label w last locked z (in_at C0 D k Fits I acc called n label w last st) (what_first w n last locked still fit units (in_at C0 D k Fits I acc called n label w last st) (in_within C0 D k Fits I acc called n label w last st) z iz)

    pub what_first : (w : WhatTree) (n : ℕ) (last : Bool) (locked : Locks) (still : ℕ → Bool) → Fits locked still → UnitsFit k locked → InAt C0 D k Fits I acc called n w last → StandsParts C0 D k Fits I acc called w n → (z : Store) → I z → Goes D (execution w n k.sc k.at locked) z (λ a y es. FirstShown k false locked (what_in n w T) z a es)
    what_first (tree.assign a b) n last locked still fit units st pa z iz =
        let p = and_parts (is_plain k.scalar a) (is_plain k.scalar b) (plain_of (tree.assign a b) n last st) in
        subst (λ rs. Goes D (execution (tree.assign a b) n k.sc k.at locked) z (λ x y es. FirstShown k false locked (first_reads rs) z x es)) (sym st.found) (assign_in k sound (solid locked still fit) D locked a b z (subst (AreOf k.may_name) st.found (sets.sets n).named) p.0 p.1)
    what_first (tree.block_if arms other) n last locked still fit units st pa z iz =
        let q = in_if C0 D k Fits I acc called arms other n pa in
        goes_more D (arms_plan arms k.sc k.at locked (else_plan other k.sc k.at locked)) z (λ a y es. FirstShown k false locked (arms_all k sound (solid locked still fit) sets.exprs locked D acc called other z arms always) z a es) (λ a y es. FirstShown k false locked (what_in n (tree.block_if arms other) T) z a es) (λ a y es h. first_gathered k false locked (arms_all k sound (solid locked still fit) sets.exprs locked D acc called other z arms always) z a es h)
        (arms_first arms other always locked still fit units q.0 (plain_of (tree.block_if arms other) n last st) z iz (λ p h. tt) (λ h. else_first other (past_arms arms k.m always) locked still fit units q.1 z iz h))
    what_first (tree.logical_if e s) n last locked still fit units st pa z iz = logical_in k sound (solid locked still fit) sets.exprs locked D e (only_in s T) (statement_plan s k.sc k.at locked) z (plain_of (tree.logical_if e s) n last st) (only_first s locked still fit units pa z iz)
    what_first (tree.do_loop l) n last locked still fit units st pa z iz = loop_list l n last locked still fit units st pa z iz
    what_first (tree.call x es) n last locked still fit units st pa z iz = pa.calls.0 (plain_of (tree.call x es) n last st) locked still fit units z iz
    what_first (tree.goto l) n last locked still fit units st pa z iz = subst (λ rs. Goes D (Ends (Jump l)) z (λ x y es. FirstShown k false locked (first_reads rs) z x es)) (sym st.found) (quiet locked (Jump l) z)
    what_first tree.continue n last locked still fit units st pa z iz = subst (λ rs. Goes D (Ends Normal) z (λ x y es. FirstShown k false locked (first_reads rs) z x es)) (sym st.found) (quiet locked Normal z)
    what_first tree.return n last locked still fit units st pa z iz = subst (λ rs. Goes D (Ends Returned) z (λ x y es. FirstShown k false locked (first_reads rs) z x es)) (sym st.found) (quiet locked Returned z)
    what_first (tree.stop text) n last locked still fit units st pa z iz = subst (λ rs. Goes D (Ends Stopped) z (λ x y es. FirstShown k false locked (first_reads rs) z x es)) (sym st.found) (quiet locked Stopped z)
    what_first (tree.print es) n last locked still fit units st pa z iz = subst (λ rs. Goes D (execution (tree.print es) n k.sc k.at locked) z (λ x y fs. FirstShown k false locked (first_reads rs) z x fs)) (sym st.found) (print_in k sound (solid locked still fit) D locked es z (subst (AreOf k.may_name) st.found (sets.sets n).named) (plain_of (tree.print es) n last st))
    what_first (tree.read es) n last locked still fit units st pa z iz = read_in k sound (solid locked still fit) D locked still (base locked still fit) units sets.items sets.inner es z (targets_of (tree.read es) n last st) (plain_of (tree.read es) n last st)

    -- the statement of a logical IF
    only_first : (s : StmtTree) (locked : Locks) (still : ℕ → Bool) → Fits locked still → UnitsFit k locked → StandsStmt C0 D k Fits I acc called s false → (z : Store) → I z → Goes D (statement_plan s k.sc k.at locked) z (λ a y es. FirstShown k false locked (only_in s T) z a es)
    only_first (tree.stmt m label v) locked still fit units st z iz =
        goes_more D (statement_plan (tree.stmt m label v) k.sc k.at locked) z (λ a y es. FirstShown k false locked (what_in m v T) z a es) (λ a y es. FirstShown k false locked (only_in (tree.stmt m label v) T) z a es) (λ a y es h. first_alone (set_at acc m) (what_in m v T) locked z a es h)
        (node m label v false locked z (in_at C0 D k Fits I acc called m label v false st) (what_first v m false locked still fit units (in_at C0 D k Fits I acc called m label v false st) (in_within C0 D k Fits I acc called m label v false st) z iz))

    loop_list : (l : LoopTree) (n : ℕ) (last : Bool) (locked : Locks) (still : ℕ → Bool) → Fits locked still → UnitsFit k locked → InAt C0 D k Fits I acc called n (tree.do_loop l) last → StandsParts C0 D k Fits I acc called (tree.do_loop l) n → (z : Store) → I z → Goes D (do_plan l k.sc k.at locked) z (λ a y es. FirstShown k false locked (what_in n (tree.do_loop l) T) z a es)
    loop_list (tree.loop index e1 e2 e3 body) n last locked still fit units st pa z iz =
        let p = and_parts (k.scalar index) (is_plain k.scalar e1 && (is_plain k.scalar e2 && maybe_plain k.scalar e3)) (plain_of (tree.do_loop (tree.loop index e1 e2 e3 body)) n last st) in
        let q = and_parts (is_plain k.scalar e1) (is_plain k.scalar e2 && maybe_plain k.scalar e3) p.1 in
        let r = and_parts (is_plain k.scalar e2) (maybe_plain k.scalar e3) q.1 in
        let inner = lock locked (unit_in k.at (number_in k.m index)) Locked in
        do_first index e1 e2 e3 body locked still fit units z iz p.0 (ap (λ xs. transformer_of false body xs) (found_each C0 k.base Fits I body false pa.base))
        (λ y f v iy. goes_both C0 D (list_plan k.sc.turns (parts body k.sc k.at (lock locked (unit_in k.at (number_in k.m index)) Locked))) y (λ a x fs. Shown k.base false (list_regions k.does (accesses_at acc) false body) y a fs) (λ a x fs. FirstShown k false (lock locked (unit_in k.at (number_in k.m index)) Locked) (list_of false body T (at_list body T)) y a fs)
        (subst (λ rs. Goes C0 (list_plan k.sc.turns (parts body k.sc k.at (lock locked (unit_in k.at (number_in k.m index)) Locked))) y (λ a x fs. Shown k.base false rs y a fs)) (sym (body_same C0 D k Fits I acc called body false pa)) (body_goes k.base sound C0 Fits base more_fits I body false (lock locked (unit_in k.at (number_in k.m index)) Locked) (also still (unit_in k.at (number_in k.m index))) f pa.base y iy))
        (list_first k D I acc called (lock locked (unit_in k.at (number_in k.m index)) Locked) (also still (unit_in k.at (number_in k.m index))) v body false y iy (λ e' jump. row_all body body false (lock locked (unit_in k.at (number_in k.m index)) Locked) (also still (unit_in k.at (number_in k.m index))) f v pa.base.numbers e' jump (suffix_all k.base D I body false) (λ a' i'. i') pa y iy) (each_all body body false (lock locked (unit_in k.at (number_in k.m index)) Locked) (also still (unit_in k.at (number_in k.m index))) f v pa.base.numbers (suffix_all k.base D I body false) (λ a' i'. i') pa y iy)))
        (λ y f. list_moves k.base sound Fits base more_fits body false (lock locked (unit_in k.at (number_in k.m index)) Locked) (also still (unit_in k.at (number_in k.m index))) f pa.base.numbers pa.base.found pa.base.targets (calls_end (list_calls body) pa.base.calls) y)
        (turn_keeps index e1 e2 e3 body (ap (λ xs. transformer_of false body xs) (found_each C0 k.base Fits I body false pa.base)) st.base.keeps)
        q.0 r.0 r.1

    arms_first : (arms : ArmTrees) (other : ElseTree) (w : Reached) (locked : Locks) (still : ℕ → Bool) (fit : Fits locked still) → UnitsFit k locked → StandsArms C0 D k Fits I acc called arms → tests_plain k.scalar arms ≡ true → (z : Store) → I z → HoldsAt (scene k.base) w.system (numbers_of z) → (HoldsAt (scene k.base) (past_arms arms k.m w).system (numbers_of z) → Goes D (else_plan other k.sc k.at locked) z (λ a y es. FirstShown k false locked (else_in other T (past_arms arms k.m w)) z a es)) → Goes D (arms_plan arms k.sc k.at locked (else_plan other k.sc k.at locked)) z (λ a y es. FirstShown k false locked (arms_all k sound (solid locked still fit) sets.exprs locked D acc called other z arms w) z a es)
    arms_first tree.no_arms other w locked still fit units st p z iz h rest = rest h
    arms_first (tree.more_arms (tree.arm e body) more) other w locked still fit units st p z iz h rest =
        let q = in_arms C0 D k Fits I acc called (tree.arm e body) more st in
        let r = and_parts (is_plain k.scalar e) (tests_plain k.scalar more) p in
        arm_first k sound (solid locked still fit) sets.exprs locked D acc called other z e body more w (list_plan k.sc.turns (parts body k.sc k.at locked)) (arms_plan more k.sc k.at locked (else_plan other k.sc k.at locked)) r.0 h
        (list_first k D I acc called locked still units body false z iz (λ e' jump. row_all body body false locked still fit units q.0.base.numbers e' jump (suffix_all k.base D I body false) (λ a' i'. i') q.0 z iz) (each_all body body false locked still fit units q.0.base.numbers (suffix_all k.base D I body false) (λ a' i'. i') q.0 z iz))
        (λ g. arms_first more other (if_false k.m e w) locked still fit units q.1 r.1 z iz g rest)

    else_first : (other : ElseTree) (w : Reached) (locked : Locks) (still : ℕ → Bool) → Fits locked still → UnitsFit k locked → StandsElse C0 D k Fits I acc called other → (z : Store) → I z → HoldsAt (scene k.base) w.system (numbers_of z) → Goes D (else_plan other k.sc k.at locked) z (λ a y es. FirstShown k false locked (else_in other T w) z a es)
    else_first tree.no_else w locked still fit units st z iz h = quiet locked Normal z
    else_first (tree.otherwise body) w locked still fit units st z iz h =
        otherwise_first k sound (solid locked still fit) sets.exprs locked D (list_of false body T (at_list body T)) w (list_plan k.sc.turns (parts body k.sc k.at locked)) z h
        (list_first k D I acc called locked still units body false z iz (λ e' jump. row_all body body false locked still fit units st.base.numbers e' jump (suffix_all k.base D I body false) (λ a' i'. i') st z iz) (each_all body body false locked still fit units st.base.numbers (suffix_all k.base D I body false) (λ a' i'. i') st z iz))

    pub row_all : (ss all : StmtTrees) (whole : Bool) (locked : Locks) (still : ℕ → Bool) → Fits locked still → (units : UnitsFit k locked) → Distinct (list_numbers all) → unstructured whole all ≡ false → (jump : ℕ → Plan) → Suffix k.base D I all whole ss → ((a : At (List Region)) → In a (at_list ss T) → In a (at_list all T)) → StandsList C0 D k Fits I acc called ss whole → (z : Store) → I z → Goes D (plan_in_order jump (parts all k.sc k.at locked) (parts ss k.sc k.at locked)) z (λ a y es. FirstShown k whole locked (ordered k D I acc called locked still units all whole ss) z a es)
    row_all tree.no_stmts all whole locked still fit units d e jump x f st z iz = goes_ends D Normal z (λ a y es. FirstShown k whole locked [] z a es) (first_idle k whole locked z (Gave Normal))
    row_all (tree.more_stmts (tree.stmt n label w) rest) all whole locked still fit units d e jump x f st z iz =
        let q = in_next C0 D k Fits I acc called (tree.stmt n label w) rest whole st in
        row_first k D I acc called locked still units all whole n label w rest e x (taken_of all whole locked still units d n w (whole && is_end rest) (in_at C0 D k Fits I acc called n label w (whole && is_end rest) q.0) (f (transformers.at n (what_in n w T)) here)) jump z iz (keeps_at n label w (whole && is_end rest) q.0) (own_of (whole && is_end rest) (tree.stmt n label w))
        (with_accesses n label w (whole && is_end rest) locked still fit units q.0 z iz (stmt_first (tree.stmt n label w) (whole && is_end rest) locked still fit units q.0 z iz))
        (moved n label w (whole && is_end rest) locked still fit q.0 z)
        (λ y iy. row_all rest all whole locked still fit units d e jump (suffix_next k.base D I all whole (tree.stmt n label w) rest x) (λ a i. f a (in_right a (at_stmt (tree.stmt n label w) T) (at_list rest T) i)) q.1 y iy)

    pub each_all : (ss all : StmtTrees) (whole : Bool) (locked : Locks) (still : ℕ → Bool) → Fits locked still → (units : UnitsFit k locked) → Distinct (list_numbers all) → Suffix k.base D I all whole ss → ((a : At (List Region)) → In a (at_list ss T) → In a (at_list all T)) → StandsList C0 D k Fits I acc called ss whole → (s : Store) (begun : I s) → Each_first k D I acc called locked still units all whole s begun (parts ss k.sc k.at locked)
    each_all tree.no_stmts all whole locked still fit units d x f st s begun = tt
    each_all (tree.more_stmts (tree.stmt n label w) rest) all whole locked still fit units d x f st s begun =
        let q = in_next C0 D k Fits I acc called (tree.stmt n label w) rest whole st in (
          (λ z es l. loose_first k D I acc called locked still units all whole s begun n label w rest x (taken_of all whole locked still units d n w (whole && is_end rest) (in_at C0 D k Fits I acc called n label w (whole && is_end rest) q.0) (f (transformers.at n (what_in n w T)) here)) (keeps_at n label w (whole && is_end rest) q.0) (own_of (whole && is_end rest) (tree.stmt n label w)) z es l
              (with_accesses n label w (whole && is_end rest) locked still fit units q.0 z l.since (stmt_first (tree.stmt n label w) (whole && is_end rest) locked still fit units q.0 z l.since))
              (moved n label w (whole && is_end rest) locked still fit q.0 z)),
          each_all rest all whole locked still fit units d (suffix_next k.base D I all whole (tree.stmt n label w) rest x) (λ a i. f a (in_right a (at_stmt (tree.stmt n label w) T) (at_list rest T) i)) q.1 s begun,
        )

  -- a list, from its first statement on; `whole` says that it is the body of the module
  pub body_first : (ss : StmtTrees) (whole : Bool) (locked : Locks) (still : ℕ → Bool) → Fits locked still → UnitsFit k locked → StandsList C0 D k Fits I acc called ss whole → (z : Store) → I z → Goes D (list_plan k.sc.turns (parts ss k.sc k.at locked)) z (λ a y es. FirstShown k whole locked (list_of whole ss T (at_list ss T)) z a es)
  body_first ss whole locked still fit units st z iz =
      list_first k D I acc called locked still units ss whole z iz (λ e jump. row_all ss ss whole locked still fit units st.base.numbers e jump (suffix_all k.base D I ss whole) (λ a i. i) st z iz) (each_all ss ss whole locked still fit units st.base.numbers (suffix_all k.base D I ss whole) (λ a i. i) st z iz)
