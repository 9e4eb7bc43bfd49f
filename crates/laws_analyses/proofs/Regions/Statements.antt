-- Each execution in a statement is shown by its set.
use Rattle.std.proofs.Common.{◌≡◌, ℕ, zero, suc, ◌<◌, List, [], ◌∷◌, ◌++◌, ◌&&◌, Option, Some, None, Bool, true, false, refl, sym, ap, ◌∙◌, subst, arith, ℤ, pos}
use Rattle.std.specs.Prelude.{if◌then◌else◌, unwrap_or}
use Rattle.std.specs.Ordering.{int_eq}
use Rattle.std.proofs.lemmas.Bool.{and_parts, not-false}
use Rattle.f77_ast.specs.Trees.{ExprTree, StmtTree, WhatTree, ArmTrees, ElseTree, LoopTree, StmtTrees}
use Rattle.f77_ast.specs.Trees as tree
use Rattle.f77_ast.specs.Store.{Content, content, Int, Store, put}
use Rattle.f77_ast.specs.Faults.{Arithmetic, Locked, Unset}
use Rattle.f77_ast.specs.Steps.{Faulty, Done, ◌>>=◌}
use Rattle.f77_ast.specs.Runs.{Event, Arrived, Wrote, Ran, Gave, Broke}
use Rattle.f77_ast.specs.Places.{Meant, Constant, Variable, Function}
use Rattle.f77_ast.specs.Values.{value, fault, name_target}
use Rattle.f77_ast.specs.Writes.{Locks, lock, write}
use Rattle.f77_ast.specs.Plans.{Flow, Normal, Jump, Returned, Stopped, Plan, Ends, Breaks, first}
use Rattle.f77_ast.specs.Executions.{run_of, Claim}
use Rattle.f77_ast.specs.Lists.{in_order as plan_in_order, list_plan}
use Rattle.f77_ast.specs.Loops.{Range, range, step_value, range_of, iteration_count, iterations_from}
use Rattle.f77_ast.specs.Statements.{spot, statement_plan, execution, arms_plan, else_plan, do_plan, parts}
use Rattle.f77_meaning.specs.Occurrences.{places_in}
use Rattle.affine_forms.specs.Conditions.{no_rows}
use Rattle.affine_forms.specs.Scalars.{is_cell}
use Rattle.affine_forms.specs.Forms.{affine_of}
use Rattle.affine_forms.specs.Claims.{unit_in, numbers_of}
use Rattle.preconditions.specs.transformer_algebra.declared.loop_parts.LoopParts.{LoopParts}
use Rattle.preconditions.specs.transformer_algebra.declared.transformer.Transformer.{Transformer}
use Rattle.preconditions.specs.transformer_algebra.Loops.{iteration}
use Rattle.preconditions.specs.transformer_algebra.Claims.{HoldsAt, Kept, Means, Tracks}
use Rattle.preconditions.specs.transformers.Jumps.{stmt_has, list_has, is_end, unstructured}
use Rattle.preconditions.specs.transformers.Lists.{list_of, list_at}
use Rattle.preconditions.specs.transformers.Loops.{step_of, number_in, loop_parts}
use Rattle.preconditions.specs.transformers.Statement.{parts_do, body_transformer}
use Rattle.in_out_regions.specs.region_sets.declared.region.Access.TheVariants.{Write}
use Rattle.in_out_regions.specs.region_sets.declared.region.Region.{Region}
use Rattle.in_out_regions.specs.region_sets.Lists.{accesses_at, in_order, numbers, list_regions}
use Rattle.in_out_regions.specs.array_regions.declared.arms.Reached.{Reached}
use Rattle.in_out_regions.specs.array_regions.Arms.{always, past_arms, if_false}
use Rattle.in_out_regions.specs.array_regions.References.{scalar}
use Rattle.in_out_regions.specs.array_regions.Reads.{reads, maybe_reads}
use Rattle.in_out_regions.specs.array_regions.Loops.{range_with, all_over, do_set}
use Rattle.in_out_regions.specs.array_regions.Statement.{stmt_set, what_set, at_list, else_set}
use Rattle.laws_analyses.specs.Statements.Good.{Ending}
use Rattle.laws_analyses.specs.Statements.Leads.{stmt_leads, list_leads}
use Rattle.call_graph.specs.CallsIn.{CallAt, Each, stmt_calls, list_calls}
use Rattle.laws_analyses.specs.Statements.Targets.{has_targets}
use Rattle.laws_analyses.specs.Statements.Activation.{Fit, Ended}
use Rattle.laws_analyses.proofs.Statements.Loops.{also}
use Rattle.laws_analyses.proofs.Statements.Lists.{own_of}
use Rattle.laws_analyses.proofs.Statements.NumberLaws.{ids}
use Rattle.laws_analyses.proofs.Statements.Ranges.{StepIs, range_leads}
use Rattle.laws_analyses.proofs.Statements.Tracks.{body_tracks}
use Rattle.laws_analyses.specs.Regions.Settings.{Setting, scene, Sound, is_plain, maybe_plain, tests_plain, has_plain}
use Rattle.laws_analyses.specs.Regions.Shown.{Holds, Sharp, Shown}
use Rattle.laws_analyses.proofs.Regions.Traces.{trace_nil}
use Rattle.laws_analyses.proofs.Regions.Rules.{Goes, goes_ends, goes_breaks, goes_more, goes_at, goes_write}
use Rattle.laws_analyses.proofs.Regions.Looks.{Looked, IfGave, looked_then, looked_with, goes_first}
use Rattle.laws_analyses.proofs.Regions.Holding.{holds_left, holds_both, sharp_both}
use Rattle.laws_analyses.proofs.Regions.Expressions.{Seen, seen_nothing, seen_broke, seen_later, both_looks, broken, value_looks}
use Rattle.laws_analyses.proofs.Regions.Showing.{shown_broke, shown_more, shown_gathered, shown_idle, quiet_arrived, shown_after}
use Rattle.laws_analyses.proofs.Regions.Simple.{assign_goes, print_goes, read_goes}
use Rattle.laws_analyses.proofs.Regions.Arms.{logical_goes, arms_all, arm_goes, otherwise_goes}
use Rattle.laws_analyses.proofs.Regions.Standing.{Distinct, CallStands, StandsStmt, StandsParts, StandsList, StandsArms, StandsElse, StandsAt, stands_at, stands_within, stands_next, stands_arms, stands_if, found_each}
use Rattle.laws_analyses.proofs.Regions.Numbering.{r_list}
use Rattle.laws_analyses.proofs.Regions.Moving.{AllEnd, stmt_moves, list_moves}
use Rattle.laws_analyses.proofs.Regions.Lists.{KeepsAt, Moved, Suffix, suffix_all, suffix_next, F, row_goes, Each_goes, loose_goes, list_goes}
use Rattle.laws_analyses.proofs.Regions.Loops.{loop_goes}
use Rattle.f77_ast.specs.Shapes.{is_return}

-- ---- the numbers that a DO begins with

module _ (k : Setting) (sound : Sound k) (s : Store) (solid : (x : List ℕ) (v : ℕ) → k.sc.names x ≡ Variable v → k.scalar x ≡ true → 0 < (k.at v).extent) where
  pub record RangeIs (e1 e2 : ExprTree) (o : Option ℤ) (r : Range) : Type 0 where
    pub first : Means (scene k) (affine_of k.m.scalars e1) (numbers_of s) r.from
    pub last : Means (scene k) (affine_of k.m.scalars e2) (numbers_of s) r.last
    pub step : StepIs o r.step
    pub nonzero : int_eq r.step (pos 0) ≡ false

  range_seen : (rs : List Region) (es : List Event) (a b c : ℤ) {x : Content} → Seen k sound s rs (Gave x) es → Looked (range a b c) s (λ r fs. Seen k sound s rs r (es ++ fs))
  range_seen rs es a b c {x = x} h = go (int_eq c (pos 0))
    where
      go : (z : Bool) → Looked {A = Range} (if z then fault Arithmetic else Done (record { from = a; last = b; step = c })) s (λ r fs. Seen k sound s rs r (es ++ fs))
      go true = seen_later k sound s rs x es h (Broke (Faulty Arithmetic))
      go false = (let r : Range = record { from = a; last = b; step = c } in seen_later k sound s rs x es h (Gave r))

  step_looks : (e3 : Option ExprTree) → maybe_plain k.scalar e3 ≡ true → Looked (step_value e3 k.sc.names k.at) s (Seen k sound s (maybe_reads e3 k.m))
  step_looks None p = seen_nothing k sound s (Gave (content Int (pos 1)))
  step_looks (Some e) p = value_looks k sound s solid e p

  heads_look : (e1 e2 : ExprTree) (e3 : Option ExprTree) → is_plain k.scalar e1 ≡ true → is_plain k.scalar e2 ≡ true → maybe_plain k.scalar e3 ≡ true → Looked (range_of e1 e2 e3 k.sc.names k.at) s (Seen k sound s (reads e1 k.m ++ (reads e2 k.m ++ maybe_reads e3 k.m)))
  heads_look e1 e2 e3 p q r =
      looked_then (value e1 k.sc.names k.at) _ s (Seen k sound s (reads e1 k.m)) (Seen k sound s (reads e1 k.m ++ (reads e2 k.m ++ maybe_reads e3 k.m))) (value_looks k sound s solid e1 p)
      (λ a es h. both_looks k sound s solid (value e2 k.sc.names k.at >>= λ b. step_value e3 k.sc.names k.at >>= λ c. range a.number b.number c.number) (reads e1 k.m) (reads e2 k.m ++ maybe_reads e3 k.m) es a h
      (looked_then (value e2 k.sc.names k.at) _ s (Seen k sound s (reads e2 k.m)) (Seen k sound s (reads e2 k.m ++ maybe_reads e3 k.m)) (value_looks k sound s solid e2 q)
      (λ b fs g. both_looks k sound s solid (step_value e3 k.sc.names k.at >>= λ c. range a.number b.number c.number) (reads e2 k.m) (maybe_reads e3 k.m) fs b g
      (looked_then (step_value e3 k.sc.names k.at) _ s (Seen k sound s (maybe_reads e3 k.m)) (Seen k sound s (maybe_reads e3 k.m)) (step_looks e3 r)
      (λ c gs i. range_seen (maybe_reads e3 k.m) gs a.number b.number c.number i)
      (λ z gs i. seen_broke k sound s (maybe_reads e3 k.m) z gs i.holds)))
      (λ z fs g. broken k sound s solid (reads e2 k.m) (maybe_reads e3 k.m) z fs g)))
      (λ z es h. broken k sound s solid (reads e1 k.m) (reads e2 k.m ++ maybe_reads e3 k.m) z es h)

  pub range_looks : (e1 e2 : ExprTree) (e3 : Option ExprTree) → is_plain k.scalar e1 ≡ true → is_plain k.scalar e2 ≡ true → maybe_plain k.scalar e3 ≡ true → Looked (range_of e1 e2 e3 k.sc.names k.at) s (λ a es. Seen k sound s (reads e1 k.m ++ (reads e2 k.m ++ maybe_reads e3 k.m)) a es × IfGave a (RangeIs e1 e2 (step_of k.m.scalars.value e3)))
  range_looks e1 e2 e3 p q r =
      looked_with (range_of e1 e2 e3 k.sc.names k.at) s [] (Seen k sound s (reads e1 k.m ++ (reads e2 k.m ++ maybe_reads e3 k.m))) (λ x z j. RangeIs e1 e2 (step_of k.m.scalars.value e3) x) (heads_look e1 e2 e3 p q r)
      (range_leads k.sc.names k.m.scalars (is_cell k.m.tracked) k.at s [] sound.names_fit.agrees e1 e2 e3 (λ x z j. RangeIs e1 e2 (step_of k.m.scalars.value e3) x) (λ a b c ma mb mc nz. record { first = ma; last = mb; step = mc; nonzero = nz }))

module _ (k : Setting) (sound : Sound k) (D : Claim) (Fits : Locks → (ℕ → Bool) → Type 0) (base : (locked : Locks) (still : ℕ → Bool) → Fits locked still → Fit k.sc.names k.scalar k.at (scene k) locked still) (more_fits : (locked : Locks) (still : ℕ → Bool) (x : List ℕ) (v : ℕ) → k.sc.names x ≡ Variable v → k.scalar x ≡ true → Fits locked still → Fits (lock locked (k.at v).first Locked) (also still (k.at v).first)) (I : Store → Type 0) where
  solid : (locked : Locks) (still : ℕ → Bool) → Fits locked still → (x : List ℕ) (v : ℕ) → k.sc.names x ≡ Variable v → k.scalar x ≡ true → 0 < (k.at v).extent
  solid locked still fit = (base locked still fit).solid

  -- ---- DO

  module _ (index : List ℕ) (e1 e2 : ExprTree) (e3 : Option ExprTree) (body : StmtTrees) (locked : Locks) (still : ℕ → Bool) (fit : Fits locked still) (x : Store) (begun : I x) where
    abbrev L : LoopTree
    L = tree.loop index e1 e2 e3 body

    abbrev lp : LoopParts
    lp = loop_parts k.m L (list_at k.does false body)

    abbrev unit : ℕ
    unit = unit_in k.at lp.index

    abbrev rs : List Region
    rs = list_regions k.does (accesses_at (at_list body k.m k.does k.calls)) false body

    abbrev heads : List Region
    heads = reads e1 k.m ++ (reads e2 k.m ++ maybe_reads e3 k.m)

    abbrev tails_of : List Region
    tails_of = scalar Write lp.index ∷ all_over (range_with lp) rs

    abbrev bodies : Locks → Plan
    bodies l = list_plan k.sc.turns (parts body k.sc k.at l)

    module _ (bare : k.scalar index ≡ true) (path : list_at k.does false body ≡ body_transformer L k.m k.cs) (inner : (y : Store) → Fits (lock locked unit Locked) (also still unit) → I y → Goes D (bodies (lock locked unit Locked)) y (λ f z fs. Shown k false rs y f fs)) (moves : (y : Store) → Fits (lock locked unit Locked) (also still unit) → Ending (bodies (lock locked unit Locked)) y (Ended (scene k) (body_transformer L k.m k.cs) no_rows (λ ls. list_leads body ls) (list_has is_return body) false (also still unit) y)) (keeps : (y z : Store) → Kept (scene k) (iteration lp).cells (iteration lp).foreign (numbers_of y) (numbers_of z) → I y → I z) where
      from_range : (r : Range) → RangeIs k sound x (solid locked still fit) e1 e2 lp.step r → k.sc.names index ≡ Variable lp.index → (es : List Event) → Holds k heads x es → Sharp k heads x es → Goes D (first (write locked unit (content Int r.from)) (λ o. iterations_from (iteration_count r.from r.last r.step) r.from r.step unit (bodies (lock locked unit Locked)))) x (λ f z fs. Shown k false (heads ++ tails_of) x f (es ++ fs))
      from_range r h named es g w =
          goes_write D locked unit (content Int r.from) (λ o. iterations_from (iteration_count r.from r.last r.step) r.from r.step unit (bodies (lock locked unit Locked))) x (λ f z fs. Shown k false (heads ++ tails_of) x f (es ++ fs))
          (λ free. goes_more D (iterations_from (iteration_count r.from r.last r.step) r.from r.step unit (bodies (lock locked unit Locked))) (put x unit (content Int r.from)) (λ f z fs. Shown k false tails_of x f (Wrote unit (content Int r.from) ∷ fs)) (λ f z fs. Shown k false (heads ++ tails_of) x f (es ++ Wrote unit (content Int r.from) ∷ fs))
          (λ f z fs i. shown_more k false tails_of (heads ++ tails_of) x f (Wrote unit (content Int r.from) ∷ fs) (es ++ Wrote unit (content Int r.from) ∷ fs) (λ j. holds_both k heads tails_of x es (Wrote unit (content Int r.from) ∷ fs) g j) (λ j. sharp_both k heads tails_of x es (Wrote unit (content Int r.from) ∷ fs) w j) i)
          (loop_goes k sound D locked still (base locked still fit) index lp named bare refl tracks rs (bodies (lock locked unit Locked)) (λ ls. list_leads body ls) (list_has is_return body) x r.from r.last r.step I free h.first h.last h.step h.nonzero keeps begun
          (λ y i. inner y fits i) (λ y. subst (λ t. Ending (bodies (lock locked unit Locked)) y (Ended (scene k) t no_rows (λ ls. list_leads body ls) (list_has is_return body) false (also still unit) y)) (sym path) (moves y fits))
          (iteration_count r.from r.last r.step) (λ s q. ap (λ v. iteration_count r.from r.last v) (sym (subst (λ o. StepIs o r.step) q h.step)))))
          (λ b. subst (λ ts. Shown k false (heads ++ tails_of) x (Broke b) ts) (sym (trace_nil es)) (shown_broke k false (heads ++ tails_of) x b es (holds_left k heads tails_of x es g)))
        where
          fits : Fits (lock locked unit Locked) (also still unit)
          fits = more_fits locked still index lp.index named bare fit

          tracks : Tracks (scene k) (list_at k.does false body).cells
          tracks = subst (λ t. Tracks (scene k) t.cells) (sym path) (body_tracks (scene k) k.sc.names k.m sound.names_fit (λ c h. h) (λ c. refl) k.cs sound.calls_track L)

      at_unit : (r : Range) → RangeIs k sound x (solid locked still fit) e1 e2 lp.step r → (u v : ℕ) → u ≡ (k.at v).first → lp.index ≡ v → k.sc.names index ≡ Variable v → (es : List Event) → Holds k heads x es → Sharp k heads x es → Goes D (first (write locked u (content Int r.from)) (λ o. iterations_from (iteration_count r.from r.last r.step) r.from r.step u (bodies (lock locked u Locked)))) x (λ f z fs. Shown k false (heads ++ tails_of) x f (es ++ fs))
      at_unit r h u v eq same named es g w =
          subst (λ y. Goes D (first (write locked y (content Int r.from)) (λ o. iterations_from (iteration_count r.from r.last r.step) r.from r.step y (bodies (lock locked y Locked)))) x (λ f z fs. Shown k false (heads ++ tails_of) x f (es ++ fs))) (ap (λ i. (k.at i).first) same ∙ sym eq)
          (from_range r h (named ∙ ap Variable (sym same)) es g w)

      pub do_goes : is_plain k.scalar e1 ≡ true → is_plain k.scalar e2 ≡ true → maybe_plain k.scalar e3 ≡ true → Goes D (do_plan L k.sc k.at locked) x (λ f z fs. Shown k false (do_set L k.m k.does rs) x f fs)
      do_goes p q r =
          goes_more D (do_plan L k.sc k.at locked) x (λ f z fs. Shown k false (heads ++ tails_of) x f fs) (λ f z fs. Shown k false (do_set L k.m k.does rs) x f fs) (λ f z fs h. shown_gathered k false (heads ++ tails_of) x f fs h)
          (goes_first D (range_of e1 e2 e3 k.sc.names k.at) _ x _ (λ f z fs. Shown k false (heads ++ tails_of) x f fs) (range_looks k sound x (solid locked still fit) e1 e2 e3 p q r)
          (λ y es h. target y es h.0.holds h.0.sharp h.1 (k.sc.names index) refl)
          (λ b es h. shown_broke k false (heads ++ tails_of) x b es (holds_left k heads tails_of x es h.0.holds)))
        where
          missed : (es : List Event) → Holds k heads x es → Goes D (Breaks (Faulty Unset)) x (λ f z fs. Shown k false (heads ++ tails_of) x f (es ++ fs))
          missed es g = goes_breaks D (Faulty Unset) x (λ f z fs. Shown k false (heads ++ tails_of) x f (es ++ fs)) (subst (λ ts. Shown k false (heads ++ tails_of) x (Broke (Faulty Unset)) ts) (sym (trace_nil es)) (shown_broke k false (heads ++ tails_of) x (Faulty Unset) es (holds_left k heads tails_of x es g)))

          target : (y : Range) (es : List Event) → Holds k heads x es → Sharp k heads x es → RangeIs k sound x (solid locked still fit) e1 e2 lp.step y → (w : Meant) → k.sc.names index ≡ w → Goes D (first (name_target w k.at) (λ t. first (write locked t.unit (content Int y.from)) (λ o. iterations_from (iteration_count y.from y.last y.step) y.from y.step t.unit (bodies (lock locked t.unit Locked))))) x (λ f z fs. Shown k false (heads ++ tails_of) x f (es ++ fs))
          target y es g w h (Constant c) n = missed es g
          target y es g w h Function n = missed es g
          target y es g w h (Variable v) n = at_unit y h (k.at v).first v refl (ap (λ o. unwrap_or o 0) (sound.names_fit.numbers index v n)) n es g w

  -- ---- an execution

  node : (n : ℕ) (label : Option ℕ) (w : WhatTree) (last : Bool) (locked : Locks) (z : Store) → StandsAt D k Fits I n w last → Goes D (execution w n k.sc k.at locked) z (λ a y es. Shown k false (what_set w k.m k.does k.calls) z a es) → Goes D (statement_plan (tree.stmt n label w) k.sc k.at locked) z (λ a y es. Shown k false (what_set w k.m k.does k.calls) z a es)
  node n label w last locked z st h =
      goes_at D (spot k.sc.module_name n) k.at (execution w n k.sc k.at locked) z (λ a y es. Shown k false (what_set w k.m k.does k.calls) z a es) (λ a y es. Shown k false (what_set w k.m k.does k.calls) z a es) h
      (λ i p. claim n st.numbered st.owes i p)
      (λ a y es p. shown_after k false (what_set w k.m k.does k.calls) z a (Arrived (spot k.sc.module_name n)) es (quiet_arrived k (spot k.sc.module_name n)) p)
    where
      claim : (j : ℕ) → 0 < j → ((s : Store) (q : Ran Flow) → Shown k false (what_set w k.m k.does k.calls) s q.answer q.trace → D (spot k.sc.module_name j) k.at s q) → (i : List Content) → Shown k false (what_set w k.m k.does k.calls) z (run_of (execution w n k.sc k.at locked) z i).answer (run_of (execution w n k.sc k.at locked) z i).trace → D (spot k.sc.module_name j) (places_in j (execution w n k.sc k.at locked) z i k.at) z (run_of (execution w n k.sc k.at locked) z i)
      claim zero l f i p = absurd (omega (arith, l))
      claim (suc j) l f i p = f z (run_of (execution w n k.sc k.at locked) z i) p

  -- how CALLs end, without what they access
  calls_end : (cs : List CallAt) → Each (CallStands D k Fits I) cs → AllEnd k sound Fits base more_fits cs
  calls_end [] h = tt
  calls_end (c ∷ cs) h = (h.0.ends, calls_end cs h.1)

  moved : (n : ℕ) (label : Option ℕ) (w : WhatTree) (last : Bool) (locked : Locks) (still : ℕ → Bool) → Fits locked still → StandsStmt D k Fits I (tree.stmt n label w) last → (z : Store) → Ending (statement_plan (tree.stmt n label w) k.sc k.at locked) z (Moved k D I n (λ ls. stmt_leads (tree.stmt n label w) ls) (stmt_has is_return (tree.stmt n label w)) (own_of last (tree.stmt n label w)) still z)
  moved n label w last locked still fit st z =
      subst (λ t. Ending (statement_plan (tree.stmt n label w) k.sc k.at locked) z (Ended (scene k) t no_rows (λ ls. stmt_leads (tree.stmt n label w) ls) (stmt_has is_return (tree.stmt n label w)) (own_of last (tree.stmt n label w)) still z)) (sym (stands_at D k Fits I n label w last st).transformer)
      (stmt_moves k sound Fits base more_fits (tree.stmt n label w) last locked still fit st.numbers st.found st.targets (calls_end (stmt_calls (tree.stmt n label w)) st.calls) z)

  distinct : (ss : StmtTrees) (whole : Bool) → StandsList D k Fits I ss whole → Distinct (ids (at_list ss k.m k.does k.calls))
  distinct ss whole st = subst Distinct (sym (r_list k.m k.does k.calls ss)) st.numbers

  -- what holds stays where the statement of a number is executed
  keeps_at : (n : ℕ) (label : Option ℕ) (w : WhatTree) (last : Bool) → StandsStmt D k Fits I (tree.stmt n label w) last → KeepsAt k D I n
  keeps_at n label w last st = subst (λ (t : Transformer). (x y : Store) → Kept (scene k) t.cells t.foreign (numbers_of x) (numbers_of y) → I x → I y) (sym (stands_at D k Fits I n label w last st).transformer) st.keeps.0

  -- so it does over an iteration of a DO
  turn_keeps : (index : List ℕ) (e1 e2 : ExprTree) (e3 : Option ExprTree) (body : StmtTrees) → list_at k.does false body ≡ body_transformer (tree.loop index e1 e2 e3 body) k.m k.cs → ((y z : Store) → Kept (scene k) (parts_do (loop_parts k.m (tree.loop index e1 e2 e3 body) (body_transformer (tree.loop index e1 e2 e3 body) k.m k.cs))).cells (parts_do (loop_parts k.m (tree.loop index e1 e2 e3 body) (body_transformer (tree.loop index e1 e2 e3 body) k.m k.cs))).foreign (numbers_of y) (numbers_of z) → I y → I z) → (y z : Store) → Kept (scene k) (iteration (loop_parts k.m (tree.loop index e1 e2 e3 body) (list_at k.does false body))).cells (iteration (loop_parts k.m (tree.loop index e1 e2 e3 body) (list_at k.does false body))).foreign (numbers_of y) (numbers_of z) → I y → I z
  turn_keeps index e1 e2 e3 body path h = subst (λ (t : Transformer). (y z : Store) → Kept (scene k) (iteration (loop_parts k.m (tree.loop index e1 e2 e3 body) t)).cells (iteration (loop_parts k.m (tree.loop index e1 e2 e3 body) t)).foreign (numbers_of y) (numbers_of z) → I y → I z) (sym path) h

  quiet : (f : Flow) (z : Store) → Goes D (Ends f) z (λ a y es. Shown k false [] z a es)
  quiet f z = goes_ends D f z (λ a y es. Shown k false [] z a es) (shown_idle k false z (Gave f))

  plain_of : (w : WhatTree) (n : ℕ) (last : Bool) → StandsAt D k Fits I n w last → has_plain k.scalar w ≡ true
  plain_of w n last st = not-false (has_plain k.scalar w) st.plain

  targets_of : (w : WhatTree) (n : ℕ) (last : Bool) → StandsAt D k Fits I n w last → has_targets k.scalar w ≡ true
  targets_of w n last st = not-false (has_targets k.scalar w) st.targets

  mutual
    pub stmt_goes : (s : StmtTree) (last : Bool) (locked : Locks) (still : ℕ → Bool) → Fits locked still → StandsStmt D k Fits I s last → (z : Store) → I z → Goes D (statement_plan s k.sc k.at locked) z (λ a y es. Shown k false (stmt_set s k.m k.does k.calls) z a es)
    stmt_goes (tree.stmt n label w) last locked still fit st z iz =
        node n label w last locked z (stands_at D k Fits I n label w last st) (what_goes w n last locked still fit (stands_at D k Fits I n label w last st) (stands_within D k Fits I n label w last st) z iz)

    pub what_goes : (w : WhatTree) (n : ℕ) (last : Bool) (locked : Locks) (still : ℕ → Bool) → Fits locked still → StandsAt D k Fits I n w last → StandsParts D k Fits I w n → (z : Store) → I z → Goes D (execution w n k.sc k.at locked) z (λ a y es. Shown k false (what_set w k.m k.does k.calls) z a es)
    what_goes (tree.assign a b) n last locked still fit st pa z iz =
        let p = and_parts (is_plain k.scalar a) (is_plain k.scalar b) (plain_of (tree.assign a b) n last st) in
        assign_goes k sound (solid locked still fit) D locked a b z p.0 p.1
    what_goes (tree.block_if arms other) n last locked still fit st pa z iz =
        let q = stands_if D k Fits I arms other n pa in
        goes_more D (arms_plan arms k.sc k.at locked (else_plan other k.sc k.at locked)) z (λ a y es. Shown k false (arms_all k sound (solid locked still fit) D other z arms always) z a es) (λ a y es. Shown k false (what_set (tree.block_if arms other) k.m k.does k.calls) z a es) (λ a y es h. shown_gathered k false (arms_all k sound (solid locked still fit) D other z arms always) z a es h)
        (arms_goes arms other always locked still fit q.0 (plain_of (tree.block_if arms other) n last st) z iz (λ p h. tt) (λ h. else_goes other (past_arms arms k.m always) locked still fit q.1 z iz h))
    what_goes (tree.logical_if e s) n last locked still fit st pa z iz = logical_goes k sound (solid locked still fit) D e (stmt_set s k.m k.does k.calls) (statement_plan s k.sc k.at locked) z (plain_of (tree.logical_if e s) n last st) (stmt_goes s false locked still fit pa z iz)
    what_goes (tree.do_loop l) n last locked still fit st pa z iz = loop_list l n last locked still fit st pa z iz
    what_goes (tree.call x es) n last locked still fit st pa z iz = pa.calls.0.goes (plain_of (tree.call x es) n last st) locked still fit z iz
    what_goes (tree.goto l) n last locked still fit st pa z iz = quiet (Jump l) z
    what_goes tree.continue n last locked still fit st pa z iz = quiet Normal z
    what_goes tree.return n last locked still fit st pa z iz = quiet Returned z
    what_goes (tree.stop text) n last locked still fit st pa z iz = quiet Stopped z
    what_goes (tree.print es) n last locked still fit st pa z iz = print_goes k sound (solid locked still fit) D locked es z (plain_of (tree.print es) n last st)
    what_goes (tree.read es) n last locked still fit st pa z iz = read_goes k sound (solid locked still fit) D locked still (base locked still fit) es z (targets_of (tree.read es) n last st) (plain_of (tree.read es) n last st)

    loop_list : (l : LoopTree) (n : ℕ) (last : Bool) (locked : Locks) (still : ℕ → Bool) → Fits locked still → StandsAt D k Fits I n (tree.do_loop l) last → StandsParts D k Fits I (tree.do_loop l) n → (z : Store) → I z → Goes D (do_plan l k.sc k.at locked) z (λ a y es. Shown k false (what_set (tree.do_loop l) k.m k.does k.calls) z a es)
    loop_list (tree.loop index e1 e2 e3 body) n last locked still fit st pa z iz =
        let p = and_parts (k.scalar index) (is_plain k.scalar e1 && (is_plain k.scalar e2 && maybe_plain k.scalar e3)) (plain_of (tree.do_loop (tree.loop index e1 e2 e3 body)) n last st) in
        let q = and_parts (is_plain k.scalar e1) (is_plain k.scalar e2 && maybe_plain k.scalar e3) p.1 in
        let r = and_parts (is_plain k.scalar e2) (maybe_plain k.scalar e3) q.1 in
        let l = lock locked (unit_in k.at (number_in k.m index)) Locked in
        let t = also still (unit_in k.at (number_in k.m index)) in
        do_goes index e1 e2 e3 body locked still fit z iz p.0 (ap (λ xs. list_of false body xs) (found_each D k Fits I body false pa))
        (λ y f iy. list_goes k D I body false (lock locked (unit_in k.at (number_in k.m index)) Locked) (also still (unit_in k.at (number_in k.m index))) (distinct body false pa) y iy
        (λ e jump. row_all body body false (lock locked (unit_in k.at (number_in k.m index)) Locked) (also still (unit_in k.at (number_in k.m index))) f (distinct body false pa) e jump (suffix_all k D I body false) pa y iy)
        (each_all body body false (lock locked (unit_in k.at (number_in k.m index)) Locked) (also still (unit_in k.at (number_in k.m index))) f (distinct body false pa) (suffix_all k D I body false) pa y iy))
        (λ y f. list_moves k sound Fits base more_fits body false (lock locked (unit_in k.at (number_in k.m index)) Locked) (also still (unit_in k.at (number_in k.m index))) f pa.numbers pa.found pa.targets (calls_end (list_calls body) pa.calls) y)
        (turn_keeps index e1 e2 e3 body (ap (λ xs. list_of false body xs) (found_each D k Fits I body false pa)) st.keeps)
        q.0 r.0 r.1

    arms_goes : (arms : ArmTrees) (other : ElseTree) (w : Reached) (locked : Locks) (still : ℕ → Bool) (fit : Fits locked still) → StandsArms D k Fits I arms → tests_plain k.scalar arms ≡ true → (z : Store) → I z → HoldsAt (scene k) w.system (numbers_of z) → (HoldsAt (scene k) (past_arms arms k.m w).system (numbers_of z) → Goes D (else_plan other k.sc k.at locked) z (λ a y es. Shown k false (else_set other k.m k.does k.calls (past_arms arms k.m w)) z a es)) → Goes D (arms_plan arms k.sc k.at locked (else_plan other k.sc k.at locked)) z (λ a y es. Shown k false (arms_all k sound (solid locked still fit) D other z arms w) z a es)
    arms_goes tree.no_arms other w locked still fit st p z iz h rest = rest h
    arms_goes (tree.more_arms (tree.arm e body) more) other w locked still fit st p z iz h rest =
        let q = stands_arms D k Fits I (tree.arm e body) more st in
        let r = and_parts (is_plain k.scalar e) (tests_plain k.scalar more) p in
        arm_goes k sound (solid locked still fit) D other z e body more w (list_plan k.sc.turns (parts body k.sc k.at locked)) (arms_plan more k.sc k.at locked (else_plan other k.sc k.at locked)) r.0 h
        (list_goes k D I body false locked still (distinct body false q.0) z iz (λ y jump. row_all body body false locked still fit (distinct body false q.0) y jump (suffix_all k D I body false) q.0 z iz) (each_all body body false locked still fit (distinct body false q.0) (suffix_all k D I body false) q.0 z iz))
        (λ g. arms_goes more other (if_false k.m e w) locked still fit q.1 r.1 z iz g rest)

    else_goes : (other : ElseTree) (w : Reached) (locked : Locks) (still : ℕ → Bool) → Fits locked still → StandsElse D k Fits I other → (z : Store) → I z → HoldsAt (scene k) w.system (numbers_of z) → Goes D (else_plan other k.sc k.at locked) z (λ a y es. Shown k false (else_set other k.m k.does k.calls w) z a es)
    else_goes tree.no_else w locked still fit st z iz h = quiet Normal z
    else_goes (tree.otherwise body) w locked still fit st z iz h =
        otherwise_goes k sound (solid locked still fit) D body w (list_plan k.sc.turns (parts body k.sc k.at locked)) z h
        (list_goes k D I body false locked still (distinct body false st) z iz (λ y jump. row_all body body false locked still fit (distinct body false st) y jump (suffix_all k D I body false) st z iz) (each_all body body false locked still fit (distinct body false st) (suffix_all k D I body false) st z iz))

    pub row_all : (ss all : StmtTrees) (whole : Bool) (locked : Locks) (still : ℕ → Bool) → Fits locked still → (d : Distinct (ids (at_list all k.m k.does k.calls))) → unstructured whole all ≡ false → (jump : ℕ → Plan) → Suffix k D I all whole ss → StandsList D k Fits I ss whole → (z : Store) → I z → Goes D (plan_in_order jump (parts all k.sc k.at locked) (parts ss k.sc k.at locked)) z (λ a y es. Shown k whole (in_order k.does (F k D I all whole locked still d) (numbers ss)) z a es)
    row_all tree.no_stmts all whole locked still fit d e jump x st z iz = goes_ends D Normal z (λ a y es. Shown k whole [] z a es) (shown_idle k whole z (Gave Normal))
    row_all (tree.more_stmts (tree.stmt n label w) rest) all whole locked still fit d e jump x st z iz =
        let q = stands_next D k Fits I (tree.stmt n label w) rest whole st in
        row_goes k D I all whole locked still d n label w rest e x jump z (own_of (whole && is_end rest) (tree.stmt n label w)) (keeps_at n label w (whole && is_end rest) q.0) iz
        (stmt_goes (tree.stmt n label w) (whole && is_end rest) locked still fit q.0 z iz)
        (moved n label w (whole && is_end rest) locked still fit q.0 z)
        (λ y iy. row_all rest all whole locked still fit d e jump (suffix_next k D I all whole (tree.stmt n label w) rest x) q.1 y iy)

    pub each_all : (ss all : StmtTrees) (whole : Bool) (locked : Locks) (still : ℕ → Bool) → Fits locked still → (d : Distinct (ids (at_list all k.m k.does k.calls))) → Suffix k D I all whole ss → StandsList D k Fits I ss whole → (s : Store) (begun : I s) → Each_goes k D I all whole locked still d s begun (parts ss k.sc k.at locked)
    each_all tree.no_stmts all whole locked still fit d x st s begun = tt
    each_all (tree.more_stmts (tree.stmt n label w) rest) all whole locked still fit d x st s begun =
        let q = stands_next D k Fits I (tree.stmt n label w) rest whole st in (
          (λ z es l. loose_goes k D I all whole locked still d s begun n label w rest x (keeps_at n label w (whole && is_end rest) q.0) (own_of (whole && is_end rest) (tree.stmt n label w)) z es l
              (stmt_goes (tree.stmt n label w) (whole && is_end rest) locked still fit q.0 z l.since)
              (moved n label w (whole && is_end rest) locked still fit q.0 z)),
          each_all rest all whole locked still fit d (suffix_next k D I all whole (tree.stmt n label w) rest x) q.1 s begun,
        )

  -- a list, from its first statement on; `whole` says that it is the body of the module
  pub body_goes : (ss : StmtTrees) (whole : Bool) (locked : Locks) (still : ℕ → Bool) → Fits locked still → StandsList D k Fits I ss whole → (z : Store) → I z → Goes D (list_plan k.sc.turns (parts ss k.sc k.at locked)) z (λ a y es. Shown k whole (list_regions k.does (accesses_at (at_list ss k.m k.does k.calls)) whole ss) z a es)
  body_goes ss whole locked still fit st z iz =
      list_goes k D I ss whole locked still (distinct ss whole st) z iz (λ e jump. row_all ss ss whole locked still fit (distinct ss whole st) e jump (suffix_all k D I ss whole) st z iz) (each_all ss ss whole locked still fit (distinct ss whole st) (suffix_all k D I ss whole) st z iz)
