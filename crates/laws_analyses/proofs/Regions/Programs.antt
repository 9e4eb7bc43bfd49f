-- The modules of a program, from the last to the first: their statements have the claims of their regions, and callers see what their summaries say.
use Rattle.std.proofs.Common.{◌≡◌, ℕ, zero, suc, ◌<◌, List, [], ◌∷◌, ◌++◌, map, ◌⊎◌, ⊎_elim, ◌||◌, Option, Some, None, Bool, true, false, refl, sym, ap, ◌∙◌, subst, arith, ℤ, nat_eq, true≢false}
use Rattle.std.specs.Prelude.{if◌then◌else◌, slice_get, bytes_eq, MatchOption}
use Rattle.std.proofs.lemmas.Slice.Eq.{bytes_eq-Decides}
use Rattle.affine_systems.specs.declared.row.System.{System}
use Rattle.f77_ast.specs.Trees.{ExprTrees, StmtTrees}
use Rattle.f77_ast.specs.Store.{Content, Store, put, undefined}
use Rattle.f77_ast.specs.Runs.{Event, Arrived, Ran, Answer, Gave, Broke, run, Whole, store_of}
use Rattle.f77_ast.specs.Places.{Place, Places}
use Rattle.f77_ast.specs.Writes.{Locks, no_locks}
use Rattle.f77_ast.specs.Plans.{Flow, Normal, Jump, Returned, Stopped, Plan, Ends, Within}
use Rattle.f77_ast.specs.Executions.{run_of, AtEndOf, Claim}
use Rattle.f77_ast.specs.Calls.{Dummy, Actual, Meaning, scalars_bound, arrays_bound, lock_doubly, forget_all, after_call, actuals, places_of, call_plan}
use Rattle.f77_ast.specs.Statements.{spot, body_plan}
use Rattle.f77_ast.specs.StatementNumbers.{list_numbers, StandOnce, HasNumbers}
use Rattle.f77_ast.specs.Programs.{Program, scope, body_of, called, meanings, program_plan}
use Rattle.f77_ast.proofs.StepLaws.{at_end_true}
use Rattle.f77_ast.specs.Symbols.{BoundTree}
use Rattle.f77_ast.specs.declared.results.At.{At}
use Rattle.f77_ast.specs.Summaries.{SummaryTree}
use Rattle.call_graph.specs.declared.graph.Graph.{Graph}
use Rattle.f77_meaning.specs.Modules.{Known, bound_of}
use Rattle.f77_meaning.specs.Claimed.{InEveryRun}
use Rattle.f77_meaning.specs.Linked.{program_of}
use Rattle.f77_meaning.specs.Occurrences.{Throughout, is_normal, first_places, places_in}
use Rattle.affine_forms.specs.Scalars.{is_cell}
use Rattle.affine_forms.specs.Claims.{unit_in, numbers_of}
use Rattle.preconditions.specs.transformer_algebra.declared.transformer.Transformer.{Transformer}
use Rattle.preconditions.specs.transformer_algebra.Cells.{has}
use Rattle.preconditions.specs.call_translation.Sites.{HoldingSite}
use Rattle.preconditions.specs.transformers.Given.{Callees}
use Rattle.preconditions.specs.transformers.Lists.{value_at, or_unchanging}
use Rattle.preconditions.specs.transformers.Modules.{transformers_of}
use Rattle.preconditions.specs.transformers.Statement as transformers
use Rattle.in_out_regions.specs.region_sets.declared.region.Region.{Region}
use Rattle.in_out_regions.specs.region_sets.Claims.{IsSharpSet}
use Rattle.in_out_regions.specs.region_sets.Sets.{unite_all}
use Rattle.in_out_regions.specs.call_equations.Sides.{SidesTree, changed_cells}
use Rattle.in_out_regions.specs.array_regions.Calls.{Called, Callees as Summaries, actuals_reads, sides, summary_in_caller}
use Rattle.in_out_regions.specs.array_regions.Entry.{symbols_reads}
use Rattle.in_out_regions.specs.array_regions.Statement.{at_list, list_set}
use Rattle.laws_analyses.specs.Statements.Good.{said, AtEach}
use Rattle.call_graph.specs.CallsIn.{CallAt, Each, list_calls}
use Rattle.laws_analyses.specs.Statements.Placed.{Found}
use Rattle.laws_analyses.specs.Statements.Results.{pre_in}
use Rattle.laws_analyses.proofs.Statements.Ends.{both, throughout}
use Rattle.laws_analyses.proofs.Statements.MainResults.{each_found_at}
use Rattle.laws_analyses.proofs.Statements.NumberLaws.{own_numbers, t_list}
use Rattle.laws_analyses.proofs.Calls.AllLaws.{call_rules_hold}
use Rattle.laws_analyses.proofs.Calls.Bound.{Made, arrays_leads, scalars_fixed, scalars_dummy}
use Rattle.laws_analyses.proofs.Calls.Enter.{Fits, find_dummy, begin_fits, more_fits}
use Rattle.laws_analyses.specs.Calls.Parts.{Blocks, Part, DummyOf, nth, in_bound, places_in as dummy_places, still_in, Sane}
use Rattle.laws_analyses.specs.Calls.ProgramLaws.{routines, Analysed, AnalysedParts, AnalysedProgram}
use Rattle.laws_analyses.specs.Calls.Sites.{CoversFrom, Covers, lookup, Entered}
use Rattle.laws_analyses.specs.Regions.Settings.{Setting, scene, DimsFit, Sound, elements_at}
use Rattle.laws_analyses.specs.Regions.Shown.{accessed, Sharp, Finally, Shown}
use Rattle.laws_analyses.specs.Regions.Claims.{SetHolds, RegionsHold}
use Rattle.laws_analyses.specs.Regions.Programs.{called_in, regions_in_part, EachRegionHolds, IsVariable, Regular, entry_scope, Joins}
use Rattle.laws_analyses.specs.Regions.Entries.{dummies_reads, Enters}
use Rattle.laws_analyses.proofs.Regions.Rules.{Post, Goes, goes_ends, goes_more}
use Rattle.laws_analyses.proofs.Regions.Looks.{Looked, IfGave, looked_with, goes_first}
use Rattle.laws_analyses.proofs.Regions.Told.{by_order}
use Rattle.laws_analyses.proofs.Regions.Holding.{holds_left, holds_both, sharp_both}
use Rattle.laws_analyses.proofs.Regions.Showing.{finally_more, quiet_arrived, holds_after, sharp_after}
use Rattle.laws_analyses.proofs.Regions.Traces.{trace_nil}
use Rattle.laws_analyses.proofs.Regions.Bounds.{setting, KeepsScalars, Got, arrays_look}
use Rattle.laws_analyses.proofs.Regions.Starts.{Starts, first_starts, forget_starts}
use Rattle.laws_analyses.proofs.Regions.Storing.{goes_forget_all, goes_within}
use Rattle.laws_analyses.proofs.Regions.Callers.{summary_lies, summary_sharp}
use Rattle.laws_analyses.proofs.Regions.Entering.{renumbered, Entering, entering_same, entering_broke, entering_body, keeps_made, out, summary_holds}
use Rattle.laws_analyses.proofs.Regions.Claimed.{visible_touches, set_holds}
use Rattle.laws_analyses.proofs.Regions.Dims.{BoundsFit, AllDims, dims_fit, arrays_fit}
use Rattle.laws_analyses.proofs.Regions.Arrays.{ArrayIs, BoundsMean, AllArrays, arrays_are}
use Rattle.laws_analyses.proofs.Regions.AtEntries.{bound_entry, emptied, emptied_entry, emptied_keeps}
use Rattle.laws_analyses.proofs.Regions.Numbering.{r_list}
use Rattle.laws_analyses.proofs.Regions.Standing.{Distinct, CallEnds, CallGoes, CallStands, StandsList}
use Rattle.laws_analyses.proofs.Regions.Steady.{Steady, steady_begin, steady_keeps}
use Rattle.laws_analyses.proofs.Regions.Free.{FreeOk, call_ends, all_free}
use Rattle.laws_analyses.proofs.Regions.CalledShown.{AtEntry, Bound, CalledShown, FineOk, not_lost}
use Rattle.laws_analyses.proofs.Regions.Calling.{Carries, OfferedHere, none_goes, some_goes}
use Rattle.laws_analyses.proofs.Regions.Statements.{body_goes}
use Rattle.laws_analyses.proofs.SiteLaws.{no_bounds_back as no_bounds_map}
use Rattle.fx_lists.proofs.Numbers.{same_is as nat_same}

-- ---- numbers that stand once differ

none_has : (ns : List ℕ) (n : ℕ) → ((j : ℕ) → slice_get ns j ≡ Some n → ⊥) → has ns n ≡ false
none_has [] n h = refl
none_has (m ∷ ns) n h = go (nat_eq m n) refl (none_has ns n (λ j e. h (suc j) e))
  where
    go : (c : Bool) → nat_eq m n ≡ c → has ns n ≡ false → (c || has ns n) ≡ false
    go true q ih = absurd (h zero (ap Some (nat_same m n q)))
    go false q ih = ih

differ : (ns : List ℕ) → StandOnce ns → Distinct ns
differ [] h = tt
differ (n ∷ ns) h = (
  none_has ns n (λ j e. (let q = h zero (suc j) n refl e in omega (arith, q))),
  differ ns (λ i j m e f. (let q = h (suc i) (suc j) m e f in omega (arith, q))),
)

pub distinct_numbers : (body : StmtTrees) → HasNumbers body → Distinct (list_numbers body)
distinct_numbers body h = differ (list_numbers body) h.once

-- ---- plans that forget

module _ (D : Claim) where
  pub each_forget : (us : List ℕ) (t : Plan) (s : Store) (i : List Content) → ((z : Store) → AtEach D t z i) → AtEach D (forget_all us t) s i
  each_forget [] t s i h = h s
  each_forget (u ∷ us) t s i h = each_forget us t (put s u (undefined (s u))) i h

  pub each_after : (us : List ℕ) (f : Flow) (s : Store) (i : List Content) → AtEach D (after_call us f) s i
  each_after us Normal s i = each_forget us (Ends Normal) s i (λ z. tt)
  each_after us (Jump l) s i = tt
  each_after us Returned s i = each_forget us (Ends Normal) s i (λ z. tt)
  each_after us Stopped s i = tt

module _ (ks : List Known) (g : Graph) (b : Blocks) (cs : Callees) (sites : List ℕ → List HoldingSite) (rs : List ℕ → Summaries) (of : List ℕ → Part) (turns : ℕ) where
  abbrev D : Claim
  D = said (EachRegionHolds ks g cs rs of)

  abbrev calls_in : Part → Called
  calls_in k = called_in g cs (rs k.routine.name) k

  -- what callers see
  abbrev seen_of : Part → List Region
  seen_of k = (regions_in_part g cs (rs k.routine.name) k).summary

  -- ---- a module

  module _ (k : Part) (sane : Sane b k) (regular : Regular k) (enters : Enters ks g k) (joins : Joins ks g k) (below : List Part) (analysed : Analysed b cs sites below k) (named : of k.routine.name ≡ k) (callee : List ℕ → Meaning) (free : (x : List ℕ) → FreeOk b cs (lookup below x) (callee x)) (ps : List Place) where
    abbrev at0 : Places
    at0 = dummy_places k ps

    abbrev body : StmtTrees
    body = k.routine.body

    abbrev set : List Region
    set = list_set true k.routine.body k.scope k.found.transformer (calls_in k)

    abbrev bounds : List Region
    bounds = dummies_reads k.routine.dummies k.scope

    module _ (began : Store) (at : Places) (bound : Bound g b k sane ps began at) where
      abbrev here : Setting
      here = setting ks g (calls_in k) b cs k sane regular turns callee ps at

      abbrev I : Store → Type 0
      I = Steady (setting ks g (calls_in k) b cs k sane regular turns callee ps at) (changed_cells (transformers_of k.routine.body k.scope cs).at) began

      abbrev Locked_so : Locks → (ℕ → Bool) → Type 0
      Locked_so locked still = Fits b k ps at locked still

      dims_of : (x : List ℕ) (v : ℕ) (y : IsVariable k x v) → DimsFit k.scope.scalars.value y.symbol.bounds (at v).dims
      dims_of x v y = ⊎_elim dummy (λ n. subst (λ (p : Place). DimsFit k.scope.scalars.value y.symbol.bounds p.dims) (sym (bound.made.other v n ∙ scalars_fixed k.routine.dummies ps k.routine.fixed v n)) (y.fixed n)) (find_dummy k.routine.dummies v)
        where
          dummy : DummyOf k.routine.dummies v → DimsFit k.scope.scalars.value y.symbol.bounds (at v).dims
          dummy o =
              let e = y.dummy o.at o.dummy o.is_dummy o.symbol in
              ⊎_elim
              (λ a. (let nothing : y.symbol.bounds ≡ [] = no_bounds_map y.symbol.bounds (sym e ∙ a.0) in
              let flat : (at v).dims ≡ [] = ap (λ n. (at n).dims) (sym o.symbol) ∙ ap (λ (p : Place). p.dims) (a.1 ∙ scalars_dummy k.routine.dummies ps k.routine.fixed o.at o.dummy sane.distinct o.is_dummy) in
              subst (λ bs. DimsFit k.scope.scalars.value bs (at v).dims) (sym nothing) (subst (λ ds. DimsFit k.scope.scalars.value [] ds) (sym flat) tt)))
              (λ a. dims_fit k.scope.scalars.value y.symbol.bounds (at v).dims (subst (λ n. BoundsFit k.scope.scalars.value (map bound_of y.symbol.bounds) (at n).dims) o.symbol (subst (λ bs. BoundsFit k.scope.scalars.value bs (at o.dummy.symbol).dims) e (bound.dims o.at o.dummy o.is_dummy a.0))))
              (bound.made.dummy o.at o.dummy o.is_dummy)

      pub sound : Sound (setting ks g (calls_in k) b cs k sane regular turns callee ps at)
      sound = record {
        names_fit = sane.names_fit;
        calls_track = λ x es. call_rules_hold.call_tracks k.scope (cs x) es (scene here) (λ c t. t) (λ y c q. (sane.names_fit.agrees.cells y c q).1);
        variables = λ x v e. (let y = regular.variables x v e in record { symbol = y.symbol; is_symbol = y.is_symbol; stored = y.stored; shape = y.shape; no_function = y.no_function; dims = dims_of x v y });
        constants = regular.constants;
        functions = regular.functions;
      }

      pub found_each : Each (λ (a : At Transformer). (0 < a.id) × (k.found.transformer a.id ≡ a.value)) (transformers.at_list k.routine.body k.scope cs true)
      found_each =
          subst (λ (r : Found). Each (λ (a : At Transformer). (0 < a.id) × (r.transformer a.id ≡ a.value)) (transformers.at_list k.routine.body k.scope cs true)) (sym analysed.found)
          (each_found_at _ (transformers_of k.routine.body k.scope cs).at (own_numbers (transformers_of k.routine.body k.scope cs).at k.routine.body (t_list k.scope cs k.routine.body true) analysed.numbered) (λ a n v. (n, ap or_unchanging v)))

      abbrev sets : List (At (List Region))
      sets = at_list k.routine.body k.scope k.found.transformer (calls_in k)

      -- each execution is claimed
      claimed : (j : ℕ) (set : List Region) → value_at (at_list k.routine.body k.scope k.found.transformer (calls_in k)) (suc j) ≡ Some set → (s : Store) (q : Ran Flow) → Shown here false set s q.answer q.trace → D (spot k.routine.name (suc j)) at s q
      claimed j set v s q h = λ later. subst (λ (p : Part). RegionsHold ks g p.scope (regions_in_part g cs (rs p.routine.name) p) (record { spot = spot k.routine.name (suc j); places = at; start = s; ran = q; later = later })) (sym named)
          (subst (λ o. MatchOption o ⊥ (λ rs. SetHolds ks g k.scope rs (record { spot = spot k.routine.name (suc j); places = at; start = s; ran = q; later = later }))) (sym v)
          (set_holds here (spot k.routine.name (suc j)) s q later false (λ f. normal f) set (visible_touches here (spot k.routine.name (suc j)) s q later set h.holds) h.sharp))
        where
          normal : (f : Flow) → is_normal (suc j) f ≡ true → Finally false (Gave f) ⊥ → ⊥
          normal Normal n w = w
          normal (Jump l) n w = true≢false (sym n)
          normal Returned n w = true≢false (sym n)
          normal Stopped n w = true≢false (sym n)

      owes_each : Each (λ (a : At (List Region)). (s : Store) (q : Ran Flow) → Shown here false a.value s q.answer q.trace → D (spot k.routine.name a.id) at s q) sets
      owes_each =
          each_found_at (λ (a : At (List Region)). (s : Store) (q : Ran Flow) → Shown here false a.value s q.answer q.trace → D (spot k.routine.name a.id) at s q) sets (own_numbers sets k.routine.body (r_list k.scope k.found.transformer (calls_in k) k.routine.body) analysed.numbered)
          (λ a n v. one a.id a.value n v)
        where
          one : (i : ℕ) (set : List Region) → 0 < i → value_at (at_list k.routine.body k.scope k.found.transformer (calls_in k)) i ≡ Some set → (s : Store) (q : Ran Flow) → Shown here false set s q.answer q.trace → D (spot k.routine.name i) at s q
          one zero set l v = absurd (omega (arith, l))
          one (suc j) set l v = claimed j set v

      -- ---- its CALLs

      ends_each : (cl : List CallAt) → Each (λ (c : CallAt). Covers b cs sites below k c.callee c.actuals (pre_in k.routine.body k.scope cs k.entry c.number)) cl → Each (λ (c : CallAt). CallEnds here Locked_so c.callee c.actuals) cl
      ends_each [] h = tt
      ends_each (c ∷ cl) h = (
        (λ n locked still fits P z hp. call_ends b cs sites k sane ps at bound.made below (callee c.callee) c.callee c.actuals (pre_in k.routine.body k.scope cs k.entry c.number) (free c.callee) h.0 n locked still fits P z hp),
        ends_each cl h.1,
      )

      both_stand : (cl : List CallAt) → Each (λ (c : CallAt). CallEnds here Locked_so c.callee c.actuals) cl → Each (CallGoes D here Locked_so I) cl → Each (CallStands D here Locked_so I) cl
      both_stand [] h f = tt
      both_stand (c ∷ cl) h f = (record { ends = h.0; goes = f.0 }, both_stand cl h.1 f.1)

      -- what its CALLs access
      abbrev pub CallsGo : Type 0
      CallsGo = Each (CallGoes D (setting ks g (calls_in k) b cs k sane regular turns callee ps at) (Fits b k ps at) (Steady (setting ks g (calls_in k) b cs k sane regular turns callee ps at) (changed_cells (transformers_of k.routine.body k.scope cs).at) began)) (list_calls k.routine.body)

      module _ (calls_go : CallsGo) where
        pub stands : StandsList D here Locked_so I k.routine.body true
        stands = record {
          numbers = distinct_numbers k.routine.body analysed.numbered;
          found = found_each;
          owes = owes_each;
          targets = analysed.targets;
          plain = regular.plain;
          keeps = steady_keeps here (transformers_of k.routine.body k.scope cs).at began;
          calls = both_stand (list_calls k.routine.body) (ends_each (list_calls k.routine.body) analysed.calls) calls_go;
        }

        pub statements_go : (locked : Locks) → Entered k ps locked → Goes D (body_plan k.routine.body (scope k.routine turns callee) at (lock_doubly locked k.routine.dummies at k.routine.common)) began (λ a y es. Shown (setting ks g (calls_in k) b cs k sane regular turns callee ps at) true (list_set true k.routine.body k.scope k.found.transformer (calls_in k)) began a es)
        statements_go locked ent =
            body_goes here sound D Locked_so (λ l st f. f.base) (λ l st x v n sx f. more_fits b k ps at l st x v n sx f) I k.routine.body true (lock_doubly locked k.routine.dummies at k.routine.common) (still_in k ps locked) (begin_fits b k sane ps locked ent at bound.made) stands began
            (steady_begin here (changed_cells (transformers_of k.routine.body k.scope cs).at) began)

    -- ---- where it is entered

    abbrev inner : Locks → Plan
    inner locked = body_of k.routine turns callee ps (dummy_places k ps) locked

    firsts : (v : ℕ) → (dummy_places k ps v).first ≡ unit_in (dummy_places k ps) v
    firsts v = refl

    offered : (j : ℕ) (d : Dummy) → slice_get k.routine.dummies j ≡ Some d → (nth ps j).first ≡ unit_in (dummy_places k ps) d.symbol
    offered j d e = sym (ap (λ (p : Place). p.first) (scalars_dummy k.routine.dummies ps k.routine.fixed j d sane.distinct e))

    -- what is known where the bounds have been read
    abbrev Fitted : Store → List Content → Places → Type 0
    Fitted s i at = AllDims k.routine.names k.scope.scalars (is_cell k.scope.tracked) s i sane.names_fit.agrees k.routine.dummies at

    abbrev Arranged : Store → Places → Type 0
    Arranged s at = AllArrays k.scope.scalars (is_cell k.scope.tracked) (unit_in (dummy_places k ps)) (numbers_of s) k.routine.dummies ps at

    abbrev Entered_arrays : Store → Places → Type 0
    Entered_arrays s at = AllArrays (entry_scope g k).scalars (is_cell (entry_scope g k).tracked) (unit_in (dummy_places k ps)) (numbers_of s) k.routine.dummies ps at

    bounds_bound : (s : Store) (i : List Content) → AtEndOf (run (arrays_bound k.routine.dummies ps k.routine.names (dummy_places k ps)) (Whole s) i) (λ at z j. Bound g b k sane ps s at)
    bounds_bound s i =
        let q = run (arrays_bound k.routine.dummies ps k.routine.names (dummy_places k ps)) (Whole s) i in
        both q (λ at z j. Made k.routine.dummies ps (dummy_places k ps) at) (λ at z j. Fitted s i at × Arranged s at × Entered_arrays s at) (λ at z j. Bound g b k sane ps s at)
        (λ at z j m d. record { made = m; dims = d.0; arrays = d.1; entry_arrays = d.2 })
        (arrays_leads k.routine.names (dummy_places k ps) s i k.routine.dummies ps (dummy_places k ps) (λ at z j. Made k.routine.dummies ps (dummy_places k ps) at) sane.distinct (λ at m. m))
        (both q (λ at z j. Fitted s i at) (λ at z j. Arranged s at × Entered_arrays s at) (λ at z j. Fitted s i at × Arranged s at × Entered_arrays s at)
        (λ at z j d a. (d, a.0, a.1))
        (arrays_fit k.routine.names k.scope.scalars (is_cell k.scope.tracked) s i sane.names_fit.agrees k.routine.dummies ps (dummy_places k ps) sane.distinct)
        (both q (λ at z j. Arranged s at) (λ at z j. Entered_arrays s at) (λ at z j. Arranged s at × Entered_arrays s at)
        (λ at z j a c. (a, c))
        (arrays_are k.routine.names k.scope.scalars (is_cell k.scope.tracked) s i sane.names_fit.agrees (unit_in (dummy_places k ps)) k.routine.dummies ps (dummy_places k ps) sane.distinct firsts offered)
        (arrays_are k.routine.names (entry_scope g k).scalars (is_cell (entry_scope g k).tracked) s i joins.entry_agrees (unit_in (dummy_places k ps)) k.routine.dummies ps (dummy_places k ps) sane.distinct firsts offered)))

    pub bounds_looked : (s : Store) → Looked (arrays_bound k.routine.dummies ps k.routine.names (dummy_places k ps)) s (λ a es. Got ks g (calls_in k) b cs k sane regular turns callee ps (dummies_reads k.routine.dummies k.scope) s a es × IfGave a (λ at. Bound g b k sane ps s at))
    bounds_looked s =
        looked_with (arrays_bound k.routine.dummies ps k.routine.names (dummy_places k ps)) s [] (Got ks g (calls_in k) b cs k sane regular turns callee ps (dummies_reads k.routine.dummies k.scope) s) (λ at z j. Bound g b k sane ps s at)
        (arrays_look ks g (calls_in k) b cs k sane regular turns callee ps s k.routine.dummies ps (dummy_places k ps) (λ x v e h. refl) enters.bare sane.flat)
        (bounds_bound s [])

    -- of the bounds and of the body, with the places of its variables
    pub record Entered_so (s : Store) (a : Answer Flow) (es : List Event) : Type 0 where
      pub at : Places
      pub entry : AtEntry g k ps s at
      pub shown : Shown (setting ks g (calls_in k) b cs k sane regular turns callee ps at) true (dummies_reads k.routine.dummies k.scope ++ list_set true k.routine.body k.scope k.found.transformer (calls_in k)) s a es

    module _ (go_calls : (began : Store) (at : Places) (bound : Bound g b k sane ps began at) → CallsGo began at bound) where
      abbrev here_at : Places → Setting
      here_at at = setting ks g (calls_in k) b cs k sane regular turns callee ps at

      body_goes_on : (s : Store) (at : Places) → Bound g b k sane ps s at → (locked : Locks) → Entered k ps locked → Goes D (body_plan k.routine.body (scope k.routine turns callee) at (lock_doubly locked k.routine.dummies at k.routine.common)) s (λ a y es. Shown (here_at at) true set s a es)
      body_goes_on s at bound locked ent = statements_go s at bound (go_calls s at bound) locked ent

      entered_go : (locked : Locks) → Entered k ps locked → (s : Store) → Goes D (inner locked) s (λ a y es. Entered_so s a es)
      entered_go locked ent s =
          goes_first D (arrays_bound k.routine.dummies ps k.routine.names (dummy_places k ps)) (λ at. body_plan k.routine.body (scope k.routine turns callee) at (lock_doubly locked k.routine.dummies at k.routine.common)) s
          (λ a es. Got ks g (calls_in k) b cs k sane regular turns callee ps bounds s a es × IfGave a (λ at. Bound g b k sane ps s at)) (λ a y es. Entered_so s a es) (bounds_looked s)
          (λ at es p. goes_more D (body_plan k.routine.body (scope k.routine turns callee) at (lock_doubly locked k.routine.dummies at k.routine.common)) s (λ a y fs. Shown (here_at at) true set s a fs) (λ a y fs. Entered_so s a (es ++ fs))
          (λ a y fs h. record {
            at = at;
            entry = bound_entry g b k sane ps s at p.1;
            shown = record {
              holds = holds_both (here_at at) bounds set s es fs (p.0.holds at (keeps at p.1)) h.holds;
              sharp = finally_more true a (Sharp (here_at at) set s fs) (Sharp (here_at at) (bounds ++ set) s (es ++ fs)) (λ w. sharp_both (here_at at) bounds set s es fs (p.0.sharp at (keeps at p.1)) w) h.sharp;
            };
          }) (body_goes_on s at p.1 locked ent))
          (λ z es p. record {
            at = emptied g b k sane ps;
            entry = emptied_entry g b k sane ps s;
            shown = record { holds = holds_left (here_at (emptied g b k sane ps)) bounds set s es (p.0.holds (emptied g b k sane ps) (emptied_keeps g b k sane ps)); sharp = tt };
          })
        where
          keeps : (at : Places) → Bound g b k sane ps s at → KeepsScalars ks g (calls_in k) b cs k sane regular turns callee ps at
          keeps at q = keeps_made ks g (calls_in k) b cs k sane regular turns callee ps at q.made

      -- and with the places of the first statement
      inner_starts : (locked : Locks) → Entered k ps locked → (s : Store) (i : List Content) → Starts (inner locked) s i (dummy_places k ps) (Entering ks g (calls_in k) b cs k sane regular turns callee ps k.routine.body s)
      inner_starts locked ent s i =
          first_starts (arrays_bound k.routine.dummies ps k.routine.names (dummy_places k ps)) (λ at. body_plan k.routine.body (scope k.routine turns callee) at (lock_doubly locked k.routine.dummies at k.routine.common)) s i (dummy_places k ps)
          (λ a es. Got ks g (calls_in k) b cs k sane regular turns callee ps bounds s a es × IfGave a (λ at. Bound g b k sane ps s at))
          (Entering ks g (calls_in k) b cs k sane regular turns callee ps k.routine.body s)
          (bounds_looked s)
          (λ at es p. entering_body ks g (calls_in k) b cs k sane regular turns callee ps at p.1.made s es p.0 (scope k.routine turns callee) (lock_doubly locked k.routine.dummies at k.routine.common) i k.routine.body (body_goes_on s at p.1 locked ent i).ending)
          (λ z es p. entering_broke ks g (calls_in k) b cs k sane regular turns callee ps k.routine.body s z es p.0)

      at_entry : (at : Places) (s : Store) (q : Ran Flow) → Entering ks g (calls_in k) b cs k sane regular turns callee ps k.routine.body s at q.answer q.trace → D (spot k.routine.name 0) at s q
      at_entry at s q h later =
          subst (λ (p : Part). RegionsHold ks g p.scope (regions_in_part g cs (rs p.routine.name) p) (record { spot = spot k.routine.name 0; places = at; start = s; ran = q; later = later })) (sym named)
          (summary_holds ks g (calls_in k) b cs k sane regular turns callee ps enters k.routine.body at s q later h)

      -- ---- a call of it

      -- at a store with the same numbers
      entered_same : (v z : Store) (a : Answer Flow) (es : List Event) → numbers_of v ≡ numbers_of z → Entered_so v a es → Entered_so z a es
      entered_same v z a es e h = record {
        at = h.at;
        entry = record {
          other = h.entry.other;
          scalar = h.entry.scalar;
          array = λ i d q n. subst (λ (x : ℕ → ℤ). ((h.at d.symbol).extent ≡ 0) ⊎ (ArrayIs (nth ps i) (h.at d.symbol) × BoundsMean (entry_scope g k).scalars (is_cell (entry_scope g k).tracked) (unit_in (dummy_places k ps)) x d.bounds (h.at d.symbol).dims × BoundsFit k.scope.scalars.value d.bounds (h.at d.symbol).dims)) e (h.entry.array i d q n);
          firsts = h.entry.firsts;
        };
        shown = renumbered (here_at h.at) true (bounds ++ set) v z a es e h.shown;
      }

      abbrev inside : Locks → Plan
      inside locked = forget_all k.routine.locals (body_of k.routine turns callee ps (dummy_places k ps) locked)

      inside_go : (locked : Locks) → Entered k ps locked → (z : Store) → Goes D (inside locked) z (λ a y es. Entered_so z a es)
      inside_go locked ent z =
          goes_forget_all D k.routine.locals (inner locked) z (λ a y es. Entered_so z a es)
          (λ v e. goes_more D (inner locked) v (λ a y es. Entered_so v a es) (λ a y es. Entered_so z a es) (λ a y es h. entered_same v z a es e h) (entered_go locked ent v))

      -- what callers see of it
      called_shown : (z : Store) (a a' : Answer Flow) (es : List Event) → ((P : Type 0) → Finally true a P → Finally true a' P) → Entered_so z a es → CalledShown ks g b seen_of D k ps z a' (Arrived (spot k.routine.name 0) ∷ es)
      called_shown z a a' es f h = record {
        at = h.at;
        entry = h.entry;
        kept = λ u seen. not_lost ks g k.routine.name es u seen;
        holds = λ c u t.
            summary_lies (scene (here_at h.at)) (elements_at (here_at h.at)) (by_order (here_at h.at)) (numbers_of z) k.scope set c u
            (out ks g (calls_in k) b cs k sane regular turns callee ps enters h.at h.entry.other u (not_lost ks g k.routine.name es u t.seen))
            (holds_after (here_at h.at) (symbols_reads k.scope.symbols k.scope ++ set) z (Arrived (spot k.routine.name 0)) es (quiet_arrived (here_at h.at) (spot k.routine.name 0)) all_shown.holds c u t);
        sharp = f _ (finally_more true a (Sharp (here_at h.at) (symbols_reads k.scope.symbols k.scope ++ set) z es) (IsSharpSet (scene (here_at h.at)) (elements_at (here_at h.at)) (seen_of k) (numbers_of z) (λ c. accessed c (Arrived (spot k.routine.name 0) ∷ es)))
            (λ w. summary_sharp (scene (here_at h.at)) (elements_at (here_at h.at)) (by_order (here_at h.at)) (numbers_of z) k.scope set (λ c. accessed c (Arrived (spot k.routine.name 0) ∷ es))
            (sharp_after (here_at h.at) (symbols_reads k.scope.symbols k.scope ++ set) z (Arrived (spot k.routine.name 0)) es (quiet_arrived (here_at h.at) (spot k.routine.name 0)) w)) all_shown.sharp);
      }
        where
          all_shown : Shown (here_at h.at) true (symbols_reads k.scope.symbols k.scope ++ set) z a es
          all_shown = subst (λ qs. Shown (here_at h.at) true (qs ++ set) z a es) (sym enters.reads) h.shown

      pub called_go : (locked : Locks) → Entered k ps locked → (z : Store) → Goes D (called k.routine turns callee ps locked) z (λ a y es. CalledShown ks g b seen_of D k ps z a es)
      called_go locked ent z =
          goes_within D (spot k.routine.name 0) (dummy_places k ps) (inside locked) (after_call k.routine.locals) z (λ a y es. Entered_so z a es) (λ a y es. CalledShown ks g b seen_of D k ps z a es)
          (λ i. (inside_go locked ent z i).inside)
          (λ i. (
            (inside_go locked ent z i).ending,
            at_entry (places_in 0 (inside locked) z i (dummy_places k ps)) z (run_of (inside locked) z i)
                (forget_starts k.routine.locals (inner locked) z i (dummy_places k ps) (Entering ks g (calls_in k) b cs k sane regular turns callee ps k.routine.body z)
                (λ v e. entering_same ks g (calls_in k) b cs k sane regular turns callee ps k.routine.body v z (first_places (inner locked) v i (dummy_places k ps)) (run_of (inner locked) v i).answer (run_of (inner locked) v i).trace e (inner_starts locked ent v i))),
          ))
          next
          (λ c y es h. called_shown z (Broke c) (Broke c) es (λ P w. w) h)
        where
          Q : Post Flow
          Q a y es = CalledShown ks g b seen_of D k ps z a es

          ended : (y : Store) (es : List Event) → CalledShown ks g b seen_of D k ps z (Gave Normal) (Arrived (spot k.routine.name 0) ∷ es) → Goes D (forget_all k.routine.locals (Ends Normal)) y (λ a v fs. CalledShown ks g b seen_of D k ps z a (Arrived (spot k.routine.name 0) ∷ (es ++ fs)))
          ended y es h =
              goes_forget_all D k.routine.locals (Ends Normal) y (λ a v fs. CalledShown ks g b seen_of D k ps z a (Arrived (spot k.routine.name 0) ∷ (es ++ fs)))
              (λ v e. goes_ends D Normal v (λ a w fs. CalledShown ks g b seen_of D k ps z a (Arrived (spot k.routine.name 0) ∷ (es ++ fs))) (subst (λ ts. CalledShown ks g b seen_of D k ps z (Gave Normal) (Arrived (spot k.routine.name 0) ∷ ts)) (sym (trace_nil es)) h))

          left : (f : Flow) (y : Store) (es : List Event) → CalledShown ks g b seen_of D k ps z (Gave f) (Arrived (spot k.routine.name 0) ∷ es) → Goes D (Ends f) y (λ a v fs. CalledShown ks g b seen_of D k ps z a (Arrived (spot k.routine.name 0) ∷ (es ++ fs)))
          left f y es h = goes_ends D f y (λ a w fs. CalledShown ks g b seen_of D k ps z a (Arrived (spot k.routine.name 0) ∷ (es ++ fs))) (subst (λ ts. CalledShown ks g b seen_of D k ps z (Gave f) (Arrived (spot k.routine.name 0) ∷ ts)) (sym (trace_nil es)) h)

          next : (f : Flow) (y : Store) (es : List Event) → Entered_so z (Gave f) es → Goes D (after_call k.routine.locals f) y (λ a v fs. CalledShown ks g b seen_of D k ps z a (Arrived (spot k.routine.name 0) ∷ (es ++ fs)))
          next Normal y es h = ended y es (called_shown z (Gave Normal) (Gave Normal) es (λ P w. w) h)
          next Returned y es h = ended y es (called_shown z (Gave Returned) (Gave Normal) es (λ P w. w refl) h)
          next (Jump l) y es h = left (Jump l) y es (called_shown z (Gave (Jump l)) (Gave (Jump l)) es (λ P w. w) h)
          next Stopped y es h = left Stopped y es (called_shown z (Gave Stopped) (Gave Stopped) es (λ P w. w) h)

      -- the main program, which no CALL enters
      pub main_each : (locked : Locks) → Entered k ps locked → (z : Store) (i : List Content) → AtEach D (Within (spot k.routine.name 0) (dummy_places k ps) (body_of k.routine turns callee ps (dummy_places k ps) locked) (λ f. Ends f)) z i
      main_each locked ent z i = (
        at_entry (places_in 0 (inner locked) z i (dummy_places k ps)) z (run_of (inner locked) z i) (inner_starts locked ent z i),
        (entered_go locked ent z i).inside,
        at_end_true (run_of (inner locked) z i).answer (store_of (run_of (inner locked) z i).memory) (run_of (inner locked) z i).input,
      )

  -- ---- the CALLs of a module

  pub lookup_named : (parts : List Part) (x : List ℕ) (k : Part) → lookup parts x ≡ Some k → x ≡ k.routine.name
  lookup_named [] x k e = cc
  lookup_named (h ∷ parts) x k e = go (bytes_eq x h.routine.name) refl e (lookup_named parts x k)
    where
      go : (c : Bool) → bytes_eq x h.routine.name ≡ c → (if c then Some h else lookup parts x) ≡ Some k → (lookup parts x ≡ Some k → x ≡ k.routine.name) → x ≡ k.routine.name
      go true q i ih = (let same : h ≡ k = cc in (bytes_eq-Decides x h.routine.name).0 q ∙ ap (λ (p : Part). p.routine.name) same)
      go false q i ih = ih i

  abbrev pub sides_of : Part → List ℕ → ExprTrees → Part → SidesTree
  sides_of h x es k = sides h.scope (changed_cells (transformers_of h.routine.body h.scope cs).at) g.untracked x es k.scope.symbols

  module _ (h : Part) (sane : Sane b h) (regular : Regular h) (own_below : (n i : ℕ) → h.below (h.routine.own_unit n i) ≡ true) where
    -- regions of what a CALL calls are carried to the module
    abbrev pub CarriesAt : List ℕ → ExprTrees → Part → Type 0
    CarriesAt x es k =
        (callee : List ℕ → Meaning) (psm : List Place) (began : Store) (at : Places) (bound : Bound g b h sane psm began at) (sound : Sound (setting ks g (called_in g cs (rs h.routine.name) h) b cs h sane regular turns callee psm at)) (n : ℕ) (locked : Locks) (still : ℕ → Bool) (fits : Fits b h psm at locked still) (z : Store) →
        Steady (setting ks g (called_in g cs (rs h.routine.name) h) b cs h sane regular turns callee psm at) (changed_cells (transformers_of h.routine.body h.scope cs).at) began z → (xs : List Actual) (s : Store) (atk : Places) →
        OfferedHere (said (EachRegionHolds ks g cs rs of)) ks g b cs sites (λ p. (regions_in_part g cs (rs p.routine.name) p).summary) (called_in g cs (rs h.routine.name) h) h sane regular turns callee psm at bound.made sound own_below x es n locked still fits z xs s → AtEntry g k (places_of xs) s atk →
        Carries ks g b (sides h.scope (changed_cells (transformers_of h.routine.body h.scope cs).at) g.untracked x es k.scope.symbols) (setting ks g (called_in g cs (rs h.routine.name) h) b cs h sane regular turns callee psm at) k (places_of xs) atk z s

    pub record Sends (x : List ℕ) (es : ExprTrees) (k : Part) : Type 0 where
      pub summary_known : rs h.routine.name x ≡ Some (record { symbols = k.scope.symbols; value = (regions_in_part g cs (rs k.routine.name) k).summary })
      pub carries : CarriesAt x es k

    abbrev pub SendsFrom : List ℕ → ExprTrees → Option Part → Type 0
    SendsFrom x es None = Unit {0}
    SendsFrom x es (Some k) = Sends x es k

    module _ (below : List Part) (callee : List ℕ → Meaning) (free : (x : List ℕ) → FreeOk b cs (lookup below x) (callee x)) (fine : (x : List ℕ) → FineOk ks g b (λ p. (regions_in_part g cs (rs p.routine.name) p).summary) (said (EachRegionHolds ks g cs rs of)) (lookup below x) (callee x)) (psm : List Place) (began : Store) (at : Places) (bound : Bound g b h sane psm began at) (sound : Sound (setting ks g (called_in g cs (rs h.routine.name) h) b cs h sane regular turns callee psm at)) where
      abbrev caller : Setting
      caller = setting ks g (called_in g cs (rs h.routine.name) h) b cs h sane regular turns callee psm at

      abbrev Inv : Store → Type 0
      Inv = Steady (setting ks g (called_in g cs (rs h.routine.name) h) b cs h sane regular turns callee psm at) (changed_cells (transformers_of h.routine.body h.scope cs).at) began

      abbrev changed : List ℕ
      changed = changed_cells (transformers_of h.routine.body h.scope cs).at

      call_goes_on : (c : CallAt) (P : System) → CoversFrom b cs sites h c.callee c.actuals P (lookup below c.callee) → SendsFrom c.callee c.actuals (lookup below c.callee) → CallGoes D caller (Fits b h psm at) Inv c
      call_goes_on c P cov snd plain locked still fits z st = go (lookup below c.callee) refl (free c.callee) (fine c.callee) cov snd
        where
          Says : Option (SummaryTree (List Region)) → Type 0
          Says o = Goes D (call_plan (actuals c.actuals 0 h.routine.names at (h.routine.own_unit c.number)) (callee c.callee) locked) z (λ a y es. Shown caller false (unite_all (actuals_reads c.actuals h.scope ++ summary_in_caller h.scope changed g.untracked c.callee c.actuals o)) z a es)

          go : (o : Option Part) → lookup below c.callee ≡ o → FreeOk b cs o (callee c.callee) → FineOk ks g b seen_of D o (callee c.callee) → CoversFrom b cs sites h c.callee c.actuals P o → SendsFrom c.callee c.actuals o → Says (rs h.routine.name c.callee)
          go None q fr fi cv sn = none_goes D ks g b cs sites seen_of (calls_in h) h sane regular turns callee psm at bound.made sound own_below c.callee c.actuals c.number locked still fits z fi plain (summary_in_caller h.scope changed g.untracked c.callee c.actuals (rs h.routine.name c.callee))
          go (Some k) q fr fi cv sn =
              subst Says (sym sn.summary_known)
              (some_goes D ks g b cs sites seen_of (calls_in h) h sane regular turns callee psm at bound.made sound own_below c.callee c.actuals c.number locked still fits z k fr.0 P cv (lookup_named below c.callee k q) fi
              (sides h.scope changed g.untracked c.callee c.actuals k.scope.symbols)
              (λ xs s atk o e. sn.carries callee psm began at bound sound c.number locked still fits z st xs s atk o e) plain)

      pub all_calls_go : (cl : List CallAt) → Each (λ (c : CallAt). Covers b cs sites below h c.callee c.actuals (pre_in h.routine.body h.scope cs h.entry c.number)) cl → Each (λ (c : CallAt). SendsFrom c.callee c.actuals (lookup below c.callee)) cl →
          Each (CallGoes (said (EachRegionHolds ks g cs rs of)) (setting ks g (called_in g cs (rs h.routine.name) h) b cs h sane regular turns callee psm at) (Fits b h psm at) (Steady (setting ks g (called_in g cs (rs h.routine.name) h) b cs h sane regular turns callee psm at) (changed_cells (transformers_of h.routine.body h.scope cs).at) began)) cl
      all_calls_go [] cov snd = tt
      all_calls_go (c ∷ cl) cov snd = (call_goes_on c (pre_in h.routine.body h.scope cs h.entry c.number) cov.0 snd.0, all_calls_go cl cov.1 snd.1)

  -- ---- all modules

  -- what the claims of a module ask
  pub record PartGoes (below : List Part) (k : Part) (sane : Sane b k) : Type 0 where
    pub regular : Regular k
    pub enters : Enters ks g k
    pub joins : Joins ks g k
    pub sends : Each (λ (c : CallAt). SendsFrom k sane regular joins.own_below c.callee c.actuals (lookup below c.callee)) (list_calls k.routine.body)

  abbrev pub PartsGo : (parts : List Part) → AnalysedParts b cs sites of parts → Type 0
  PartsGo [] pl = Unit {0}
  PartsGo (k ∷ parts) pl = PartGoes parts k pl.0 × PartsGo parts pl.3

  module _ (k : Part) (sane : Sane b k) (below : List Part) (analysed : Analysed b cs sites below k) (named : of k.routine.name ≡ k) (goes : PartGoes below k sane) (callee : List ℕ → Meaning) (free : (x : List ℕ) → FreeOk b cs (lookup below x) (callee x)) (fine : (x : List ℕ) → FineOk ks g b (λ p. (regions_in_part g cs (rs p.routine.name) p).summary) (said (EachRegionHolds ks g cs rs of)) (lookup below x) (callee x)) (ps : List Place) where
    pub part_calls : (began : Store) (at : Places) (bound : Bound g b k sane ps began at) → CallsGo k sane goes.regular goes.enters goes.joins below analysed named callee free ps began at bound
    part_calls began at bound =
        all_calls_go k sane goes.regular goes.joins.own_below below callee free fine ps began at bound
        (sound k sane goes.regular goes.enters goes.joins below analysed named callee free ps began at bound) (list_calls k.routine.body) analysed.calls goes.sends

    part_called : (locked : Locks) → Entered k ps locked → (z : Store) → Goes D (called k.routine turns callee ps locked) z (λ a y es. CalledShown ks g b seen_of D k ps z a es)
    part_called locked ent z = called_go k sane goes.regular goes.enters goes.joins below analysed named callee free ps part_calls locked ent z

    part_main : (locked : Locks) → Entered k ps locked → (z : Store) (i : List Content) → AtEach D (Within (spot k.routine.name 0) (dummy_places k ps) (body_of k.routine turns callee ps (dummy_places k ps) locked) (λ f. Ends f)) z i
    part_main locked ent z i = main_each k sane goes.regular goes.enters goes.joins below analysed named callee free ps part_calls locked ent z i

  pub all_fine : (parts : List Part) (pl : AnalysedParts b cs sites of parts) → PartsGo parts pl → (x : List ℕ) → FineOk ks g b seen_of D (lookup parts x) (meanings (routines parts) turns x)
  all_fine [] pl re x = refl
  all_fine (k ∷ parts) pl re x = go (bytes_eq x k.routine.name) (all_fine parts pl.3 re.1 x) (λ y. all_fine parts pl.3 re.1 y)
    where
      go : (c : Bool) → FineOk ks g b seen_of D (lookup parts x) (meanings (routines parts) turns x) → ((y : List ℕ) → FineOk ks g b seen_of D (lookup parts y) (meanings (routines parts) turns y)) →
          FineOk ks g b seen_of D (if c then Some k else lookup parts x) (if c then called k.routine turns (meanings (routines parts) turns) else meanings (routines parts) turns x)
      go true h f = λ ps locked z ent. part_called k pl.0 parts pl.1 pl.2 re.0 (meanings (routines parts) turns) (λ y. all_free b cs sites of turns parts pl.3 y) f ps locked ent z
      go false h f = h

  -- ---- the main program

  module _ (main : Part) (parts : List Part) (z : Store) (pl : AnalysedProgram b cs sites of main parts z) (rm : PartGoes parts main pl.sane) (re : PartsGo parts pl.parts_analysed) where
    begins : Entered main [] no_locks
    begins = record {
      locks = λ u l. absurd (true≢false (sym l));
      places = λ u h. absurd (true≢false (sym (sym (ap (λ ds. in_bound ds [] u) pl.no_dummies) ∙ h)));
      solid = λ i d e f. absurd (nothing i d (sym (ap (λ ds. slice_get ds i) pl.no_dummies) ∙ e));
    }
      where
        nothing : (i : ℕ) (d : Dummy) → slice_get [] i ≡ Some d → ⊥
        nothing i d e = cc

    fixed_places : dummy_places main [] ≡ main.routine.fixed
    fixed_places = ap (λ ds. scalars_bound ds [] main.routine.fixed) pl.no_dummies

    pub program_each : (input : List Content) → Throughout (EachRegionHolds ks g cs rs of) (program_plan (record { main = main.routine; others = routines parts; initial = z }) turns) z input (λ f s i. [])
    program_each input =
        throughout (EachRegionHolds ks g cs rs of) (program_plan (record { main = main.routine; others = routines parts; initial = z }) turns) z input (λ f s i. [])
        (subst (λ (at : Places). AtEach D (Within (spot main.routine.name 0) at (body_of main.routine turns (meanings (routines parts) turns) [] at no_locks) (λ f. Ends f)) z input) fixed_places
        (part_main main pl.sane parts pl.analysed pl.named rm (meanings (routines parts) turns) (λ y. all_free b cs sites of turns parts pl.parts_analysed y) (λ y. all_fine parts pl.parts_analysed re y) [] no_locks begins z input))

-- where regions are carried to callers, they hold in every run
pub carried_regions_hold : (b : Blocks) (cs : Callees) (sites : List ℕ → List HoldingSite) (of : List ℕ → Part) (main : Part) (parts : List Part) (z : Store) (pl : AnalysedProgram b cs sites of main parts z) (ks : List Known) (g : Graph) (rs : List ℕ → Summaries) →
    ((turns : ℕ) → PartGoes ks g b cs sites rs of turns parts main pl.sane × PartsGo ks g b cs sites rs of turns parts pl.parts_analysed) →
    program_of ks g ≡ record { main = main.routine; others = routines parts; initial = z } → InEveryRun ks g (EachRegionHolds ks g cs rs of)
carried_regions_hold b cs sites of main parts z pl ks g rs go e turns input =
    subst (λ (p : Program). Throughout (EachRegionHolds ks g cs rs of) (program_plan p turns) p.initial input (λ f s i. [])) (sym e) (program_each ks g b cs sites rs of turns main parts z pl (go turns).0 (go turns).1 input)
