-- The modules of a program, from the last to the first: their statements have the claims of their IN regions, and callers see what their summaries say.
use Rattle.std.proofs.Common.{◌≡◌, ◌⊎◌, inl, inr, ⊎_elim, ℕ, zero, suc, ◌<◌, List, [], ◌∷◌, ◌++◌, ◌||◌, ◌&&◌, Option, Some, None, Bool, true, false, refl, sym, ap, ◌∙◌, subst, arith, ℤ, nat_eq, true≢false}
use Rattle.std.specs.Prelude.{if◌then◌else◌, slice_get, bytes_eq, MatchOption}
use Rattle.std.specs.List.{list_any}
use Rattle.std.proofs.lemmas.Bool.{and_parts}
use Rattle.std.proofs.lemmas.Slice.Eq.{bytes_eq-Decides}
use Rattle.affine_systems.specs.declared.row.System.{System}
use Rattle.f77_ast.specs.Trees.{ExprTrees, StmtTrees}
use Rattle.f77_ast.specs.Store.{Content, Store}
use Rattle.f77_ast.specs.Runs.{Event, Arrived, Ran, Answer, Gave, Broke, store_of}
use Rattle.f77_ast.specs.Places.{Place, Places}
use Rattle.f77_ast.specs.Writes.{Locks, no_locks}
use Rattle.f77_ast.specs.Plans.{Flow, Normal, Jump, Returned, Stopped, Plan, Ends, Within}
use Rattle.f77_ast.specs.Executions.{run_of, Claim}
use Rattle.f77_ast.specs.Calls.{Dummy, Meaning, scalars_bound, arrays_bound, lock_doubly, forget_all, after_call, actuals, call_plan}
use Rattle.f77_ast.specs.Statements.{spot, body_plan}
use Rattle.f77_ast.specs.Programs.{Program, scope, body_of, called, meanings, program_plan}
use Rattle.f77_ast.proofs.StepLaws.{at_end_true}
use Rattle.f77_ast.specs.declared.variable.Variable.{Variable as Named}
use Rattle.f77_ast.specs.declared.results.At.{At}
use Rattle.f77_ast.specs.Summaries.{SummaryTree}
use Rattle.call_graph.specs.declared.graph.Graph.{Graph}
use Rattle.f77_meaning.specs.Accesses.{is_written, is_entered}
use Rattle.f77_meaning.specs.Modules.{Known, all_lost}
use Rattle.f77_meaning.specs.Linked.{numbering, program_of}
use Rattle.f77_meaning.specs.Claimed.{InEveryRun}
use Rattle.f77_meaning.specs.Occurrences.{Throughout, is_normal, first_places, places_in}
use Rattle.affine_forms.specs.Scalars.{is_cell}
use Rattle.affine_forms.specs.Claims.{unit_in, numbers_of}
use Rattle.preconditions.specs.call_translation.Sites.{HoldingSite}
use Rattle.preconditions.specs.transformers.Given.{Callees}
use Rattle.preconditions.specs.transformers.Lists.{value_at}
use Rattle.preconditions.specs.transformers.Modules.{transformers_of}
use Rattle.preconditions.specs.transformer_algebra.Laws.{In, here, there}
use Rattle.in_out_regions.specs.region_sets.declared.region.Access.TheVariants.{In as AtIn}
use Rattle.in_out_regions.specs.region_sets.declared.region.Region.{Region}
use Rattle.in_out_regions.specs.region_sets.Claims.{LiesInSet, IsSharpSet}
use Rattle.in_out_regions.specs.region_sets.Lists.{or_none}
use Rattle.in_out_regions.specs.call_equations.declared.link.Link.{Link}
use Rattle.in_out_regions.specs.call_equations.Sides.{changed_cells}
use Rattle.in_out_regions.specs.call_equations.Links.{link_of}
use Rattle.in_out_regions.specs.array_regions.Calls.{Called, Callees as Summaries}
use Rattle.in_out_regions.specs.array_regions.Entry.{symbols_reads}
use Rattle.in_out_regions.specs.array_regions.Statement as regions
use Rattle.in_out_regions.specs.Calls.{summary_in}
use Rattle.in_out_regions.specs.Kinds.{all_in}
use Rattle.in_out_regions.specs.Known.{KnownTree}
use Rattle.in_out_regions.specs.Statement as ins
use Rattle.laws_analyses.specs.Statements.Good.{said, AtEach}
use Rattle.call_graph.specs.CallsIn.{CallAt, Each, list_calls}
use Rattle.laws_analyses.specs.Statements.Results.{pre_in}
use Rattle.laws_analyses.proofs.Statements.Ends.{throughout}
use Rattle.laws_analyses.proofs.Statements.MainResults.{each_found_at}
use Rattle.laws_analyses.proofs.Statements.NumberLaws.{own_numbers}
use Rattle.laws_analyses.proofs.Calls.Enter.{Fits, begin_fits, more_fits}
use Rattle.laws_analyses.specs.Calls.Parts.{Blocks, Part, nth, in_bound, places_in as dummy_places, still_in, Sane}
use Rattle.laws_analyses.specs.Calls.ProgramLaws.{routines, Analysed, AnalysedParts, AnalysedProgram}
use Rattle.laws_analyses.specs.Calls.Sites.{CoversFrom, Covers, lookup, Entered}
use Rattle.laws_analyses.specs.Regions.Settings.{scene, Sound}
use Rattle.laws_analyses.specs.Regions.Shown.{is_lost, Holds, Finally}
use Rattle.laws_analyses.specs.Regions.Programs.{called_in, regions_in_part, EachRegionHolds, Regular, entry_scope, Joins}
use Rattle.laws_analyses.specs.Regions.Entries.{IsLost, dummies_reads, Enters}
use Rattle.laws_analyses.proofs.Regions.Rules.{Goes, goes_ends, goes_more}
use Rattle.laws_analyses.proofs.Regions.Looks.{Looked, IfGave, goes_first}
use Rattle.laws_analyses.proofs.Regions.Showing.{finally_more}
use Rattle.laws_analyses.proofs.Regions.Traces.{trace_nil, hidden_parts}
use Rattle.laws_analyses.proofs.Regions.Bounds.{setting, KeepsScalars, Got}
use Rattle.laws_analyses.proofs.Regions.Starts.{Starts, first_starts, forget_starts}
use Rattle.laws_analyses.proofs.Regions.Storing.{goes_forget_all, goes_within}
use Rattle.laws_analyses.proofs.Regions.Entering.{keeps_made, out}
use Rattle.laws_analyses.proofs.Regions.Arrays.{ArrayIs, BoundsMean}
use Rattle.laws_analyses.proofs.Regions.Dims.{BoundsFit}
use Rattle.laws_analyses.proofs.Regions.AtEntries.{bound_entry, emptied, emptied_entry, emptied_keeps}
use Rattle.laws_analyses.proofs.Regions.Steady.{Steady, steady_begin}
use Rattle.laws_analyses.proofs.Regions.Free.{FreeOk, all_free}
use Rattle.laws_analyses.proofs.Regions.CalledShown.{AtEntry, Bound, FineOk, not_lost}
use Rattle.laws_analyses.proofs.Regions.Programs as base
use Rattle.laws_analyses.proofs.Regions.Numbering.{r_list}
use Rattle.laws_lines.proofs.RuleVars.{IsDone}
use Rattle.laws_marks.specs.InClaims.{InSetHolds, InRegionsHold}
use Rattle.laws_marks.specs.InFrames.{Frame, elements_in}
use Rattle.laws_marks.specs.InLaid.{Laid}
use Rattle.laws_marks.specs.InPrograms.{ins_called, ins_in_part, EachInHolds}
use Rattle.laws_marks.specs.InShown.{first_read, IsFirst, FirstHolds, FirstSharp, FirstShown}
use Rattle.laws_marks.specs.InUnits.{AreOf, SetsFit}
use Rattle.laws_marks.proofs.InApart.{OffersLocked, unlocked_before, units_fit}
use Rattle.laws_marks.proofs.InCalledIn.{CalledFirst, FirstOk, some_first}
use Rattle.laws_marks.proofs.InClaimed.{visible_first, in_set_holds}
use Rattle.laws_marks.proofs.InEntering.{EnteringIn, dummies_named, entering_same, entering_broke, entering_body, both_holds, both_sharp, summary_in_holds}
use Rattle.laws_marks.proofs.InFirsts.{lost_split}
use Rattle.laws_marks.proofs.InFramed.{by_order, element_of}
use Rattle.laws_marks.proofs.InQuiet.{looked_quiet}
use Rattle.laws_marks.proofs.InRunning.{frame}
use Rattle.laws_marks.proofs.InSets.{may_of, IsFit, sets_fit}
use Rattle.laws_marks.proofs.InStanding.{i_list, FoundR, OwesIn, CallFirst, StandsList}
use Rattle.laws_marks.proofs.InStatements.{body_first}
use Rattle.laws_marks.proofs.InSummed.{summary_lies, summary_sharp}
use Rattle.laws_marks.proofs.InTaking.{NoWrites, free_none, free_both, first_holds_left, seen_first}
use Rattle.fx_lists.proofs.Every.{Anything}

-- what is lost where a module is entered is lost by a module of that name
pub entry_lost : (ks : List Known) (g : Graph) (m : List ℕ) (u : ℕ) → is_lost ks g (Arrived (spot m 0) ∷ []) u ≡ true → IsLost ks g m u
entry_lost ks g m u h = among ks (λ q i. i) h
  where
    among : (qs : List Known) → ((q : Known) → In q qs → In q ks) → list_any (λ k. is_entered k.read.name (Arrived (spot m 0) ∷ []) && list_any (λ v. nat_eq v u) (all_lost (numbering ks g) k.read.name k.symbols k.symbols)) qs ≡ true → IsLost ks g m u
    among [] f i = absurd (true≢false (sym i))
    among (q ∷ qs) f i = go (is_entered q.read.name (Arrived (spot m 0) ∷ []) && list_any (λ v. nat_eq v u) (all_lost (numbering ks g) q.read.name q.symbols q.symbols)) refl i (among qs (λ w j. f w (there j)))
      where
        name_is : is_entered q.read.name (Arrived (spot m 0) ∷ []) ≡ true → q.read.name ≡ m
        name_is e = sym ((bytes_eq-Decides m q.read.name).0 (one (bytes_eq m q.read.name) e))
          where
            one : (c : Bool) → ((c && true) || false) ≡ true → c ≡ true
            one true r = refl
            one false r = absurd (true≢false (sym r))

        go : (c : Bool) → (is_entered q.read.name (Arrived (spot m 0) ∷ []) && list_any (λ v. nat_eq v u) (all_lost (numbering ks g) q.read.name q.symbols q.symbols)) ≡ c → (c || list_any (λ k. is_entered k.read.name (Arrived (spot m 0) ∷ []) && list_any (λ v. nat_eq v u) (all_lost (numbering ks g) k.read.name k.symbols k.symbols)) qs) ≡ true → (list_any (λ k. is_entered k.read.name (Arrived (spot m 0) ∷ []) && list_any (λ v. nat_eq v u) (all_lost (numbering ks g) k.read.name k.symbols k.symbols)) qs ≡ true → IsLost ks g m u) → IsLost ks g m u
        go true e j ih = (let w = and_parts (is_entered q.read.name (Arrived (spot m 0) ∷ [])) (list_any (λ v. nat_eq v u) (all_lost (numbering ks g) q.read.name q.symbols q.symbols)) e in record { known = q; is_one = f q here; named = name_is w.0; lost = w.1 })
        go false e j ih = ih j

module _ (ks : List Known) (g : Graph) (b : Blocks) (cs : Callees) (sites : List ℕ → List HoldingSite) (rs is : List ℕ → Summaries) (of : List ℕ → Part) (may_name : Part → Named → Bool) (turns : ℕ) where
  -- the claims of READ and WRITE, and of IN
  abbrev pub C : Claim
  C = said (EachRegionHolds ks g cs rs of)

  abbrev pub D : Claim
  D = said (EachInHolds ks g cs rs is of)

  abbrev calls_in : Part → Called
  calls_in k = called_in g cs (rs k.routine.name) k

  abbrev ins_in : Part → Called
  ins_in k = ins_called g cs (is k.routine.name) k

  abbrev accesses_in : Part → List (At (List Region))
  accesses_in k = (regions_in_part g cs (rs k.routine.name) k).at

  -- what callers see
  abbrev regions_seen : Part → List Region
  regions_seen k = (regions_in_part g cs (rs k.routine.name) k).summary

  abbrev ins_seen : Part → List Region
  ins_seen k = (ins_in_part g cs (rs k.routine.name) (is k.routine.name) k).summary

  -- what is asked of a module: its layout, cells in its transformers, and its CALLs with these modules below
  pub record IsReady (k : Part) : Type 0 where
    pub laid : Laid ks g k (may_name k)
    pub done : (n : ℕ) → IsDone Anything (k.found.transformer n)

  -- ---- a module

  module _ (k : Part) (sane : Sane b k) (regular : Regular k) (enters : Enters ks g k) (joins : Joins ks g k) (ready : IsReady k) (below : List Part) (analysed : Analysed b cs sites below k) (named : of k.routine.name ≡ k) (callee : List ℕ → Meaning) (free : (x : List ℕ) → FreeOk b cs (lookup below x) (callee x)) (ps : List Place) where
    abbrev at0 : Places
    at0 = dummy_places k ps

    abbrev body : StmtTrees
    body = k.routine.body

    abbrev T : KnownTree
    T = record { scope = k.scope; does = k.found.transformer; accesses = (regions_in_part g cs (rs k.routine.name) k).at; called = ins_called g cs (is k.routine.name) k }

    abbrev set : List Region
    set = ins.list_set true k.routine.body T

    abbrev bounds : List Region
    bounds = dummies_reads k.routine.dummies k.scope

    abbrev frame_at : Places → Frame
    frame_at at = frame ks g (called_in g cs (rs k.routine.name) k) b cs k sane regular turns callee ps (may_name k) ready.laid at

    abbrev Entering_of : Store → Places → Answer Flow → List Event → Type 0
    Entering_of s at a es = EnteringIn ks g (called_in g cs (rs k.routine.name) k) b cs k sane regular turns callee ps (may_name k) ready.laid (regions_in_part g cs (rs k.routine.name) k).at (ins_called g cs (is k.routine.name) k) k.routine.body s at a es

    module _ (began : Store) (at : Places) (bound : Bound g b k sane ps began at) (calls_go : base.CallsGo ks g b cs sites rs of turns k sane regular enters joins below analysed named callee free ps began at bound) where
      abbrev pub started : Frame
      started = frame ks g (called_in g cs (rs k.routine.name) k) b cs k sane regular turns callee ps (may_name k) ready.laid at

      abbrev pub I : Store → Type 0
      I = Steady (setting ks g (called_in g cs (rs k.routine.name) k) b cs k sane regular turns callee ps at) (changed_cells (transformers_of k.routine.body k.scope cs).at) began

      pub is_sound : Sound (setting ks g (called_in g cs (rs k.routine.name) k) b cs k sane regular turns callee ps at)
      is_sound = base.sound ks g b cs sites rs of turns k sane regular enters joins below analysed named callee free ps began at bound

      pub found_sets : Each (FoundR C D started (Fits b k ps at) I (regions_in_part g cs (rs k.routine.name) k).at (ins_called g cs (is k.routine.name) k)) (regions.at_list k.routine.body k.scope k.found.transformer (called_in g cs (rs k.routine.name) k))
      found_sets =
          each_found_at (FoundR C D started (Fits b k ps at) I (regions_in_part g cs (rs k.routine.name) k).at (ins_called g cs (is k.routine.name) k)) (regions.at_list k.routine.body k.scope k.found.transformer (called_in g cs (rs k.routine.name) k))
          (own_numbers (regions.at_list k.routine.body k.scope k.found.transformer (called_in g cs (rs k.routine.name) k)) k.routine.body (r_list k.scope k.found.transformer (called_in g cs (rs k.routine.name) k) k.routine.body) analysed.numbered) (λ a n v. ap or_none v)

      -- each execution is claimed
      pub claimed : (j : ℕ) (set : List Region) → value_at (ins.at_list k.routine.body T) (suc j) ≡ Some set → (locked : Locks) (s : Store) (q : Ran Flow) → FirstShown started false locked set s q.answer q.trace → D (spot k.routine.name (suc j)) at s q
      claimed j set v locked s q h = λ later. subst (λ (p : Part). InRegionsHold ks g p.scope (ins_in_part g cs (rs p.routine.name) (is p.routine.name) p) (record { spot = spot k.routine.name (suc j); places = at; start = s; ran = q; later = later })) (sym named)
          (subst (λ o. MatchOption o ⊥ (λ rs. InSetHolds ks g k.scope rs (record { spot = spot k.routine.name (suc j); places = at; start = s; ran = q; later = later }))) (sym v)
          (in_set_holds started (spot k.routine.name (suc j)) s q later false (λ f. normal f) set (visible_first started (spot k.routine.name (suc j)) s q later set h.holds) h.sharp))
        where
          normal : (f : Flow) → is_normal (suc j) f ≡ true → Finally false (Gave f) ⊥ → ⊥
          normal Normal n w = w
          normal (Jump l) n w = true≢false (sym n)
          normal Returned n w = true≢false (sym n)
          normal Stopped n w = true≢false (sym n)

      owes_each : Each (OwesIn C D started (Fits b k ps at) I (regions_in_part g cs (rs k.routine.name) k).at (ins_called g cs (is k.routine.name) k)) (ins.at_list k.routine.body T)
      owes_each =
          each_found_at (OwesIn C D started (Fits b k ps at) I (regions_in_part g cs (rs k.routine.name) k).at (ins_called g cs (is k.routine.name) k)) (ins.at_list k.routine.body T) (own_numbers (ins.at_list k.routine.body T) k.routine.body (i_list T k.routine.body) analysed.numbered)
          (λ a n v. one a.id a.value n v)
        where
          one : (i : ℕ) (set : List Region) → 0 < i → value_at (ins.at_list k.routine.body T) i ≡ Some set → (locked : Locks) (s : Store) (q : Ran Flow) → FirstShown started false locked set s q.answer q.trace → D (spot k.routine.name i) at s q
          one zero set l v = absurd (omega (arith, l))
          one (suc j) set l v = claimed j set v

      -- ---- its CALLs

      -- what they read first
      abbrev pub CallsFirst : Type 0
      CallsFirst = Each (CallFirst C D (frame ks g (called_in g cs (rs k.routine.name) k) b cs k sane regular turns callee ps (may_name k) ready.laid at) (Fits b k ps at) (Steady (setting ks g (called_in g cs (rs k.routine.name) k) b cs k sane regular turns callee ps at) (changed_cells (transformers_of k.routine.body k.scope cs).at) began) (regions_in_part g cs (rs k.routine.name) k).at (ins_called g cs (is k.routine.name) k)) (list_calls k.routine.body)

      -- READ and WRITE of them
      abbrev pub CallsFit : Type 0
      CallsFit = Each (λ (a : CallAt). IsFit (may_of (frame ks g (called_in g cs (rs k.routine.name) k) b cs k sane regular turns callee ps (may_name k) ready.laid at)) k.scope.symbols (called_in g cs (rs k.routine.name) k a.callee a.actuals)) (list_calls k.routine.body)

      module _ (calls_first : CallsFirst) (calls_fit : CallsFit) where
        pub sets : SetsFit started (regions_in_part g cs (rs k.routine.name) k).at
        sets = sets_fit started ready.done k.routine.body calls_fit

        pub stands : StandsList C D started (Fits b k ps at) I (regions_in_part g cs (rs k.routine.name) k).at (ins_called g cs (is k.routine.name) k) k.routine.body true
        stands = record { base = base.stands ks g b cs sites rs of turns k sane regular enters joins below analysed named callee free ps began at bound calls_go; found = found_sets; owes = owes_each; calls = calls_first }

        pub statements_go : (locked : Locks) → Entered k ps locked → OffersLocked ks g k ps locked → Goes D (body_plan k.routine.body (scope k.routine turns callee) at (lock_doubly locked k.routine.dummies at k.routine.common)) began (λ a y es. FirstShown (frame ks g (called_in g cs (rs k.routine.name) k) b cs k sane regular turns callee ps (may_name k) ready.laid at) true (lock_doubly locked k.routine.dummies at k.routine.common) (ins.list_set true k.routine.body T) began a es)
        statements_go locked ent offers =
            body_first started is_sound C D (Fits b k ps at) (λ l st f. f.base) (λ l st x v n sx f. more_fits b k ps at l st x v n sx f) I (regions_in_part g cs (rs k.routine.name) k).at (ins_called g cs (is k.routine.name) k) sets
            k.routine.body true (lock_doubly locked k.routine.dummies at k.routine.common) (still_in k ps locked) (begin_fits b k sane ps locked ent at bound.made)
            (units_fit ks g b k sane regular joins (may_name k) ready.laid ps locked ent offers at bound.made began bound (called_in g cs (rs k.routine.name) k) cs turns callee is_sound) stands began
            (steady_begin started.base (changed_cells (transformers_of k.routine.body k.scope cs).at) began)

    -- ---- where it is entered

    abbrev inner : Locks → Plan
    inner locked = body_of k.routine turns callee ps (dummy_places k ps) locked

    abbrev pub CallsGoSo : Type 0
    CallsGoSo = (began : Store) (at : Places) (bound : Bound g b k sane ps began at) → base.CallsGo ks g b cs sites rs of turns k sane regular enters joins below analysed named callee free ps began at bound

    -- of the bounds and of the body, with the places of its variables
    pub record Entered_first (locked : Locks) (s : Store) (a : Answer Flow) (es : List Event) : Type 0 where
      pub at : Places
      pub entry : AtEntry g k ps s at
      pub holds : FirstHolds (frame ks g (called_in g cs (rs k.routine.name) k) b cs k sane regular turns callee ps (may_name k) ready.laid at) (all_in (dummies_reads k.routine.dummies k.scope) ++ ins.list_set true k.routine.body T) s es
      pub sharp : Finally true a (FirstSharp (frame ks g (called_in g cs (rs k.routine.name) k) b cs k sane regular turns callee ps (may_name k) ready.laid at) (all_in (dummies_reads k.routine.dummies k.scope) ++ ins.list_set true k.routine.body T) s es)
      pub unlocked : (u : ℕ) → is_written u es ≡ true → locked u ≡ None
      pub lost : (u : ℕ) → is_lost ks g es u ≡ true → k.below u ≡ true

    module _ (go_calls : CallsGoSo) (go_first : (began : Store) (at : Places) (bound : Bound g b k sane ps began at) → CallsFirst began at bound (go_calls began at bound)) (fit_calls : (began : Store) (at : Places) (bound : Bound g b k sane ps began at) → CallsFit began at bound (go_calls began at bound)) where
      pub body_on : (s : Store) (at : Places) → Bound g b k sane ps s at → (locked : Locks) → Entered k ps locked → OffersLocked ks g k ps locked → Goes D (body_plan k.routine.body (scope k.routine turns callee) at (lock_doubly locked k.routine.dummies at k.routine.common)) s (λ a y es. FirstShown (frame_at at) true (lock_doubly locked k.routine.dummies at k.routine.common) set s a es)
      body_on s at bound locked ent offers = statements_go s at bound (go_calls s at bound) (go_first s at bound) (fit_calls s at bound) locked ent offers

      abbrev pub Looked_so : Store → Answer Places → List Event → Type 0
      Looked_so s a es = (Got ks g (called_in g cs (rs k.routine.name) k) b cs k sane regular turns callee ps (dummies_reads k.routine.dummies k.scope) s a es × IfGave a (λ at. Bound g b k sane ps s at)) × NoWrites es

      pub looked : (s : Store) → Looked (arrays_bound k.routine.dummies ps k.routine.names (dummy_places k ps)) s (λ a es. Looked_so s a es)
      looked s = looked_quiet (arrays_bound k.routine.dummies ps k.routine.names (dummy_places k ps)) s (λ a es. Got ks g (called_in g cs (rs k.routine.name) k) b cs k sane regular turns callee ps (dummies_reads k.routine.dummies k.scope) s a es × IfGave a (λ at. Bound g b k sane ps s at)) (base.bounds_looked ks g b cs sites rs of turns k sane regular enters joins below analysed named callee free ps s)

      keeps : (s : Store) (at : Places) → Bound g b k sane ps s at → KeepsScalars ks g (called_in g cs (rs k.routine.name) k) b cs k sane regular turns callee ps at
      keeps s at q = keeps_made ks g (called_in g cs (rs k.routine.name) k) b cs k sane regular turns callee ps at q.made

      named_bounds : AreOf (may_name k) (dummies_reads k.routine.dummies k.scope)
      named_bounds = dummies_named ks g (called_in g cs (rs k.routine.name) k) b cs k sane regular turns callee ps (may_name k) ready.laid (regions_in_part g cs (rs k.routine.name) k).at (ins_called g cs (is k.routine.name) k) k.routine.dummies

      -- the bounds are refused
      refused : (locked : Locks) (s : Store) (z : Answer Flow) (es : List Event) → ((P : Type 0) → Finally true z P) → Holds (frame_at (emptied g b k sane ps)).base bounds s es → NoWrites es → Entered_first locked s z es
      refused locked s z es none held quiet =
          let f = free_none (frame_at (emptied g b k sane ps)) locked es quiet in
          record {
            at = emptied g b k sane ps;
            entry = emptied_entry g b k sane ps s;
            holds = first_holds_left (frame_at (emptied g b k sane ps)) (all_in bounds) set s es (seen_first (frame_at (emptied g b k sane ps)) bounds s es named_bounds held);
            sharp = none (FirstSharp (frame_at (emptied g b k sane ps)) (all_in bounds ++ set) s es);
            unlocked = f.unlocked;
            lost = f.lost;
          }

      -- the bounds, and then the body
      after_bounds : (locked : Locks) (s : Store) (at : Places) (es : List Event) → Looked_so s (Gave at) es → (a : Answer Flow) (fs : List Event) → FirstShown (frame_at at) true (lock_doubly locked k.routine.dummies at k.routine.common) set s a fs → Entered_first locked s a (es ++ fs)
      after_bounds locked s at es p a fs h =
          let f = free_both (frame_at at) (lock_doubly locked k.routine.dummies at k.routine.common) es fs (free_none (frame_at at) (lock_doubly locked k.routine.dummies at k.routine.common) es p.1) h.free in
          record {
            at = at;
            entry = bound_entry g b k sane ps s at p.0.1;
            holds = both_holds ks g (called_in g cs (rs k.routine.name) k) b cs k sane regular turns callee ps (may_name k) ready.laid (regions_in_part g cs (rs k.routine.name) k).at (ins_called g cs (is k.routine.name) k) s es at p.0.0 p.1 at (keeps s at p.0.1) set fs h.holds;
            sharp = finally_more true a (FirstSharp (frame_at at) set s fs) (FirstSharp (frame_at at) (all_in bounds ++ set) s (es ++ fs)) (λ w. both_sharp ks g (called_in g cs (rs k.routine.name) k) b cs k sane regular turns callee ps (may_name k) ready.laid (regions_in_part g cs (rs k.routine.name) k).at (ins_called g cs (is k.routine.name) k) s es at p.0.0 p.1 at (keeps s at p.0.1) set fs w) h.sharp;
            unlocked = λ u e. unlocked_before locked k.routine.dummies at k.routine.common u (f.unlocked u e);
            lost = f.lost;
          }

      entered_go : (locked : Locks) → Entered k ps locked → OffersLocked ks g k ps locked → (s : Store) → Goes D (inner locked) s (λ a y es. Entered_first locked s a es)
      entered_go locked ent offers s =
          goes_first D (arrays_bound k.routine.dummies ps k.routine.names (dummy_places k ps)) (λ at. body_plan k.routine.body (scope k.routine turns callee) at (lock_doubly locked k.routine.dummies at k.routine.common)) s
          (λ a es. Looked_so s a es) (λ a y es. Entered_first locked s a es) (looked s)
          (λ at es p. goes_more D (body_plan k.routine.body (scope k.routine turns callee) at (lock_doubly locked k.routine.dummies at k.routine.common)) s (λ a y fs. FirstShown (frame_at at) true (lock_doubly locked k.routine.dummies at k.routine.common) set s a fs) (λ a y fs. Entered_first locked s a (es ++ fs))
          (λ a y fs h. after_bounds locked s at es p a fs h) (body_on s at p.0.1 locked ent offers))
          (λ z es p. refused locked s (Broke z) es (λ P. tt) (p.0.0.holds (emptied g b k sane ps) (emptied_keeps g b k sane ps)) p.1)

      -- and with the places of the first statement
      inner_starts : (locked : Locks) → Entered k ps locked → OffersLocked ks g k ps locked → (s : Store) (i : List Content) → Starts (inner locked) s i (dummy_places k ps) (λ w a es. Entering_of s w a es)
      inner_starts locked ent offers s i =
          first_starts (arrays_bound k.routine.dummies ps k.routine.names (dummy_places k ps)) (λ at. body_plan k.routine.body (scope k.routine turns callee) at (lock_doubly locked k.routine.dummies at k.routine.common)) s i (dummy_places k ps)
          (λ a es. Looked_so s a es) (λ w a es. Entering_of s w a es) (looked s)
          (λ at es p. entering_body ks g (called_in g cs (rs k.routine.name) k) b cs k sane regular turns callee ps (may_name k) ready.laid (regions_in_part g cs (rs k.routine.name) k).at (ins_called g cs (is k.routine.name) k) s es at p.0.0 p.1 at p.0.1.made (scope k.routine turns callee) (lock_doubly locked k.routine.dummies at k.routine.common) i k.routine.body (body_on s at p.0.1 locked ent offers i).ending)
          (λ z es p. entering_broke ks g (called_in g cs (rs k.routine.name) k) b cs k sane regular turns callee ps (may_name k) ready.laid (regions_in_part g cs (rs k.routine.name) k).at (ins_called g cs (is k.routine.name) k) k.routine.body s z es p.0.0)

      at_entry : (at : Places) (s : Store) (q : Ran Flow) → Entering_of s at q.answer q.trace → D (spot k.routine.name 0) at s q
      at_entry at s q h later =
          subst (λ (p : Part). InRegionsHold ks g p.scope (ins_in_part g cs (rs p.routine.name) (is p.routine.name) p) (record { spot = spot k.routine.name 0; places = at; start = s; ran = q; later = later })) (sym named)
          (summary_in_holds ks g (called_in g cs (rs k.routine.name) k) b cs k sane regular turns callee ps (may_name k) ready.laid (regions_in_part g cs (rs k.routine.name) k).at (ins_called g cs (is k.routine.name) k) enters k.routine.body at s q later h)

      -- ---- a call of it

      -- at a store with the same numbers
      entered_same : (locked : Locks) (v z : Store) (a : Answer Flow) (es : List Event) → numbers_of v ≡ numbers_of z → Entered_first locked v a es → Entered_first locked z a es
      entered_same locked v z a es e h = record {
        at = h.at;
        entry = record {
          other = h.entry.other;
          scalar = h.entry.scalar;
          array = λ i d q n. subst (λ (x : ℕ → ℤ). ((h.at d.symbol).extent ≡ 0) ⊎ (ArrayIs (nth ps i) (h.at d.symbol) × BoundsMean (entry_scope g k).scalars (is_cell (entry_scope g k).tracked) (unit_in (dummy_places k ps)) x d.bounds (h.at d.symbol).dims × BoundsFit k.scope.scalars.value d.bounds (h.at d.symbol).dims)) e (h.entry.array i d q n);
          firsts = h.entry.firsts;
        };
        holds = subst (λ (x : ℕ → ℤ). (u : ℕ) → IsFirst ks g es u → LiesInSet (scene (frame_at h.at).base) (elements_in (frame_at h.at)) AtIn (all_in bounds ++ set) x u) e h.holds;
        sharp = subst (λ (x : ℕ → ℤ). Finally true a (IsSharpSet (scene (frame_at h.at).base) (elements_in (frame_at h.at)) (all_in bounds ++ set) x (λ c. first_read es))) e h.sharp;
        unlocked = h.unlocked;
        lost = h.lost;
      }

      abbrev inside : Locks → Plan
      inside locked = forget_all k.routine.locals (body_of k.routine turns callee ps (dummy_places k ps) locked)

      inside_go : (locked : Locks) → Entered k ps locked → OffersLocked ks g k ps locked → (z : Store) → Goes D (inside locked) z (λ a y es. Entered_first locked z a es)
      inside_go locked ent offers z =
          goes_forget_all D k.routine.locals (inner locked) z (λ a y es. Entered_first locked z a es)
          (λ v e. goes_more D (inner locked) v (λ a y es. Entered_first locked v a es) (λ a y es. Entered_first locked z a es) (λ a y es h. entered_same locked v z a es e h) (entered_go locked ent offers v))

      abbrev Called_so : Locks → Store → Answer Flow → List Event → Type 0
      Called_so locked z a es = CalledFirst ks g b ins_seen may_name D k ps locked z a es

      -- what is lost in a call of the module is its own or of modules below
      lost_owned : (u : ℕ) (es : List Event) → ((v : ℕ) → is_lost ks g es v ≡ true → k.below v ≡ true) → is_lost ks g (Arrived (spot k.routine.name 0) ∷ es) u ≡ true → k.owns u ≡ true
      lost_owned u es f h = ⊎_elim (λ i. ready.laid.lost u (entry_lost ks g k.routine.name u i)) (λ i. sane.below_owned u (f u i)) (lost_split ks g u (Arrived (spot k.routine.name 0) ∷ []) es h)

      called_shown : (locked : Locks) (z : Store) (a a' : Answer Flow) (es : List Event) → ((P : Type 0) → Finally true a P → Finally true a' P) → Entered_first locked z a es → Called_so locked z a' (Arrived (spot k.routine.name 0) ∷ es)
      called_shown locked z a a' es f h = record {
        at = h.at;
        entry = h.entry;
        kept = λ u seen. not_lost ks g k.routine.name es u seen;
        holds = λ u t.
            summary_lies (scene (frame_at h.at).base) (elements_in (frame_at h.at)) (by_order (frame_at h.at)) (numbers_of z) k.scope set u
            (λ w phi i. out ks g (called_in g cs (rs k.routine.name) k) b cs k sane regular turns callee ps enters h.at h.entry.other u (not_lost ks g k.routine.name es u t.seen) w phi (element_of (frame_at h.at) w phi u i))
            (holds_all u (record { is_so = t.is_so; seen = (hidden_parts ks g (Arrived (spot k.routine.name 0) ∷ []) es u t.seen).1 }));
        sharp = f _ (finally_more true a (FirstSharp (frame_at h.at) (all_in (symbols_reads k.scope.symbols k.scope) ++ set) z es) (IsSharpSet (scene (frame_at h.at).base) (elements_in (frame_at h.at)) (ins_seen k) (numbers_of z) (λ c. first_read (Arrived (spot k.routine.name 0) ∷ es)))
            (λ w. summary_sharp (scene (frame_at h.at).base) (elements_in (frame_at h.at)) (by_order (frame_at h.at)) (numbers_of z) k.scope set (first_read es) w) sharp_all);
        unlocked = h.unlocked;
        lost = λ u e. lost_owned u es h.lost e;
      }
        where
          holds_all : FirstHolds (frame_at h.at) (all_in (symbols_reads k.scope.symbols k.scope) ++ set) z es
          holds_all = subst (λ qs. FirstHolds (frame_at h.at) (all_in qs ++ set) z es) (sym enters.reads) h.holds

          sharp_all : Finally true a (FirstSharp (frame_at h.at) (all_in (symbols_reads k.scope.symbols k.scope) ++ set) z es)
          sharp_all = subst (λ qs. Finally true a (FirstSharp (frame_at h.at) (all_in qs ++ set) z es)) (sym enters.reads) h.sharp

      pub called_go : (locked : Locks) → Entered k ps locked → OffersLocked ks g k ps locked → (z : Store) → Goes D (called k.routine turns callee ps locked) z (λ a y es. CalledFirst ks g b ins_seen may_name D k ps locked z a es)
      called_go locked ent offers z =
          goes_within D (spot k.routine.name 0) (dummy_places k ps) (inside locked) (after_call k.routine.locals) z (λ a y es. Entered_first locked z a es) (λ a y es. Called_so locked z a es)
          (λ i. (inside_go locked ent offers z i).inside)
          (λ i. (
            (inside_go locked ent offers z i).ending,
            at_entry (places_in 0 (inside locked) z i (dummy_places k ps)) z (run_of (inside locked) z i)
                (forget_starts k.routine.locals (inner locked) z i (dummy_places k ps) (λ w a es. Entering_of z w a es)
                (λ v e. entering_same ks g (called_in g cs (rs k.routine.name) k) b cs k sane regular turns callee ps (may_name k) ready.laid (regions_in_part g cs (rs k.routine.name) k).at (ins_called g cs (is k.routine.name) k) k.routine.body v z (first_places (inner locked) v i (dummy_places k ps)) (run_of (inner locked) v i).answer (run_of (inner locked) v i).trace e (inner_starts locked ent offers v i))),
          ))
          next
          (λ c y es h. called_shown locked z (Broke c) (Broke c) es (λ P w. w) h)
        where
          ended : (y : Store) (es : List Event) → Called_so locked z (Gave Normal) (Arrived (spot k.routine.name 0) ∷ es) → Goes D (forget_all k.routine.locals (Ends Normal)) y (λ a v fs. Called_so locked z a (Arrived (spot k.routine.name 0) ∷ (es ++ fs)))
          ended y es h =
              goes_forget_all D k.routine.locals (Ends Normal) y (λ a v fs. Called_so locked z a (Arrived (spot k.routine.name 0) ∷ (es ++ fs)))
              (λ v e. goes_ends D Normal v (λ a w fs. Called_so locked z a (Arrived (spot k.routine.name 0) ∷ (es ++ fs))) (subst (λ ts. Called_so locked z (Gave Normal) (Arrived (spot k.routine.name 0) ∷ ts)) (sym (trace_nil es)) h))

          left : (f : Flow) (y : Store) (es : List Event) → Called_so locked z (Gave f) (Arrived (spot k.routine.name 0) ∷ es) → Goes D (Ends f) y (λ a v fs. Called_so locked z a (Arrived (spot k.routine.name 0) ∷ (es ++ fs)))
          left f y es h = goes_ends D f y (λ a w fs. Called_so locked z a (Arrived (spot k.routine.name 0) ∷ (es ++ fs))) (subst (λ ts. Called_so locked z (Gave f) (Arrived (spot k.routine.name 0) ∷ ts)) (sym (trace_nil es)) h)

          next : (f : Flow) (y : Store) (es : List Event) → Entered_first locked z (Gave f) es → Goes D (after_call k.routine.locals f) y (λ a v fs. Called_so locked z a (Arrived (spot k.routine.name 0) ∷ (es ++ fs)))
          next Normal y es h = ended y es (called_shown locked z (Gave Normal) (Gave Normal) es (λ P w. w) h)
          next Returned y es h = ended y es (called_shown locked z (Gave Returned) (Gave Normal) es (λ P w. w refl) h)
          next (Jump l) y es h = left (Jump l) y es (called_shown locked z (Gave (Jump l)) (Gave (Jump l)) es (λ P w. w) h)
          next Stopped y es h = left Stopped y es (called_shown locked z (Gave Stopped) (Gave Stopped) es (λ P w. w) h)

      -- the main program, which no CALL enters
      pub main_each : (locked : Locks) → Entered k ps locked → OffersLocked ks g k ps locked → (z : Store) (i : List Content) → AtEach D (Within (spot k.routine.name 0) (dummy_places k ps) (body_of k.routine turns callee ps (dummy_places k ps) locked) (λ f. Ends f)) z i
      main_each locked ent offers z i = (
        at_entry (places_in 0 (inner locked) z i (dummy_places k ps)) z (run_of (inner locked) z i) (inner_starts locked ent offers z i),
        (entered_go locked ent offers z i).inside,
        at_end_true (run_of (inner locked) z i).answer (store_of (run_of (inner locked) z i).memory) (run_of (inner locked) z i).input,
      )

  -- ---- the CALLs of a module

  -- what is asked of a CALL in the module h: it is of a module whose IN regions are known, and what that may name h may name, as its own
  module _ (h : Part) (sane : Sane b h) (regular : Regular h) (own_below : (n i : ℕ) → h.below (h.routine.own_unit n i) ≡ true) (ready : IsReady h) where
    pub record SendsFirst (x : List ℕ) (es : ExprTrees) (k : Part) : Type 0 where
      pub sends : base.Sends ks g b cs sites rs of turns h sane regular own_below x es k
      pub ins_known : is h.routine.name x ≡ Some (record { symbols = k.scope.symbols; value = (ins_in_part g cs (rs k.routine.name) (is k.routine.name) k).summary })
      pub named : (v : Named) (l : Link) → may_name k v ≡ true → link_of (base.sides_of ks g b cs sites rs of turns h x es k) v ≡ Some l → may_name h l.variable ≡ true

    abbrev pub SendsFirstFrom : List ℕ → ExprTrees → Option Part → Type 0
    SendsFirstFrom x es None = ⊥
    SendsFirstFrom x es (Some k) = SendsFirst x es k

    module _ (below : List Part) (callee : List ℕ → Meaning) (free : (x : List ℕ) → FreeOk b cs (lookup below x) (callee x)) (fine : (x : List ℕ) → FirstOk ks g b (λ p. (ins_in_part g cs (rs p.routine.name) (is p.routine.name) p).summary) may_name (said (EachInHolds ks g cs rs is of)) (lookup below x) (callee x)) (psm : List Place) (began : Store) (at : Places) (bound : Bound g b h sane psm began at) (sound : Sound (setting ks g (called_in g cs (rs h.routine.name) h) b cs h sane regular turns callee psm at)) where
      abbrev caller : Frame
      caller = frame ks g (called_in g cs (rs h.routine.name) h) b cs h sane regular turns callee psm (may_name h) ready.laid at

      abbrev changed : List ℕ
      changed = changed_cells (transformers_of h.routine.body h.scope cs).at

      call_first_on : (c : CallAt) (P : System) → CoversFrom b cs sites h c.callee c.actuals P (lookup below c.callee) → SendsFirstFrom c.callee c.actuals (lookup below c.callee) → CallFirst C D caller (Fits b h psm at) (Steady caller.base changed began) (accesses_in h) (ins_in h) c
      call_first_on c P cov snd plain locked still fits units z st = go (lookup below c.callee) refl (free c.callee) (fine c.callee) cov snd
        where
          Says : Option (SummaryTree (List Region)) → Type 0
          Says o = Goes D (call_plan (actuals c.actuals 0 h.routine.names at (h.routine.own_unit c.number)) (callee c.callee) locked) z (λ a y es. FirstShown caller false locked (summary_in h.scope changed g.untracked c.callee c.actuals o) z a es)

          go : (o : Option Part) → lookup below c.callee ≡ o → FreeOk b cs o (callee c.callee) → FirstOk ks g b ins_seen may_name D o (callee c.callee) → CoversFrom b cs sites h c.callee c.actuals P o → SendsFirstFrom c.callee c.actuals o → Says (is h.routine.name c.callee)
          go None q fr fi cv sn = absurd sn
          go (Some k) q fr fi cv sn =
              subst Says (sym sn.ins_known)
              (some_first C D ks g b cs sites regions_seen ins_seen (calls_in h) h sane regular turns callee psm at bound.made sound own_below may_name ready.laid c.callee c.actuals c.number locked still fits z units
              k fr.0 P cv (base.lookup_named ks g b cs sites rs of turns below c.callee k q) fi (base.sides_of ks g b cs sites rs of turns h c.callee c.actuals k) sn.named
              (λ xs s atk o e. sn.sends.carries callee psm began at bound sound c.number locked still fits z st xs s atk o e) plain)

      pub all_calls_first : (cl : List CallAt) → Each (λ (c : CallAt). Covers b cs sites below h c.callee c.actuals (pre_in h.routine.body h.scope cs h.entry c.number)) cl → Each (λ (c : CallAt). SendsFirstFrom c.callee c.actuals (lookup below c.callee)) cl →
          Each (CallFirst C D (frame ks g (called_in g cs (rs h.routine.name) h) b cs h sane regular turns callee psm (may_name h) ready.laid at) (Fits b h psm at) (Steady (setting ks g (called_in g cs (rs h.routine.name) h) b cs h sane regular turns callee psm at) (changed_cells (transformers_of h.routine.body h.scope cs).at) began) (accesses_in h) (ins_in h)) cl
      all_calls_first [] cov snd = tt
      all_calls_first (c ∷ cl) cov snd = (call_first_on c (pre_in h.routine.body h.scope cs h.entry c.number) cov.0 snd.0, all_calls_first cl cov.1 snd.1)

  -- ---- all modules

  -- what the claims of a module ask
  pub record PartFirst (below : List Part) (k : Part) (sane : Sane b k) : Type 0 where
    pub goes : base.PartGoes ks g b cs sites rs of turns below k sane
    pub ready : IsReady k
    pub sends : Each (λ (c : CallAt). SendsFirstFrom k sane goes.regular goes.joins.own_below ready c.callee c.actuals (lookup below c.callee)) (list_calls k.routine.body)
    -- READ and WRITE of its CALLs
    pub fits : Each (λ (a : CallAt). IsFit (record { ks = ks; g = g; such = may_name k; own = ready.laid.own; told = ready.laid.told }) k.scope.symbols (called_in g cs (rs k.routine.name) k a.callee a.actuals)) (list_calls k.routine.body)

  abbrev pub PartsFirst : (parts : List Part) → AnalysedParts b cs sites of parts → Type 0
  PartsFirst [] pl = Unit {0}
  PartsFirst (k ∷ parts) pl = PartFirst parts k pl.0 × PartsFirst parts pl.3

  pub parts_go : (parts : List Part) (pl : AnalysedParts b cs sites of parts) → PartsFirst parts pl → base.PartsGo ks g b cs sites rs of turns parts pl
  parts_go [] pl re = tt
  parts_go (k ∷ parts) pl re = (re.0.goes, parts_go parts pl.3 re.1)

  module _ (k : Part) (sane : Sane b k) (below : List Part) (analysed : Analysed b cs sites below k) (named : of k.routine.name ≡ k) (first : PartFirst below k sane) (callee : List ℕ → Meaning) (free : (x : List ℕ) → FreeOk b cs (lookup below x) (callee x)) (fine : (x : List ℕ) → FineOk ks g b (λ p. (regions_in_part g cs (rs p.routine.name) p).summary) (said (EachRegionHolds ks g cs rs of)) (lookup below x) (callee x)) (fine_in : (x : List ℕ) → FirstOk ks g b (λ p. (ins_in_part g cs (rs p.routine.name) (is p.routine.name) p).summary) may_name (said (EachInHolds ks g cs rs is of)) (lookup below x) (callee x)) (ps : List Place) where
    pub calls_go_so : (began : Store) (at : Places) (bound : Bound g b k sane ps began at) → base.CallsGo ks g b cs sites rs of turns k sane first.goes.regular first.goes.enters first.goes.joins below analysed named callee free ps began at bound
    calls_go_so began at bound = base.part_calls ks g b cs sites rs of turns k sane below analysed named first.goes callee free fine ps began at bound

    pub calls_first_so : (began : Store) (at : Places) (bound : Bound g b k sane ps began at) → CallsFirst k sane first.goes.regular first.goes.enters first.goes.joins first.ready below analysed named callee free ps began at bound (calls_go_so began at bound)
    calls_first_so began at bound =
        all_calls_first k sane first.goes.regular first.goes.joins.own_below first.ready below callee free fine_in ps began at bound
        (base.sound ks g b cs sites rs of turns k sane first.goes.regular first.goes.enters first.goes.joins below analysed named callee free ps began at bound) (list_calls k.routine.body) analysed.calls first.sends

    pub calls_fit_so : (began : Store) (at : Places) (bound : Bound g b k sane ps began at) → CallsFit k sane first.goes.regular first.goes.enters first.goes.joins first.ready below analysed named callee free ps began at bound (calls_go_so began at bound)
    calls_fit_so began at bound = first.fits

    part_called : (locked : Locks) → Entered k ps locked → OffersLocked ks g k ps locked → (z : Store) → Goes D (called k.routine turns callee ps locked) z (λ a y es. CalledFirst ks g b ins_seen may_name D k ps locked z a es)
    part_called locked ent offers z = called_go k sane first.goes.regular first.goes.enters first.goes.joins first.ready below analysed named callee free ps calls_go_so calls_first_so calls_fit_so locked ent offers z

    part_main : (locked : Locks) → Entered k ps locked → OffersLocked ks g k ps locked → (z : Store) (i : List Content) → AtEach D (Within (spot k.routine.name 0) (dummy_places k ps) (body_of k.routine turns callee ps (dummy_places k ps) locked) (λ f. Ends f)) z i
    part_main locked ent offers z i = main_each k sane first.goes.regular first.goes.enters first.goes.joins first.ready below analysed named callee free ps calls_go_so calls_first_so calls_fit_so locked ent offers z i

  pub all_first : (parts : List Part) (pl : AnalysedParts b cs sites of parts) → PartsFirst parts pl → (x : List ℕ) → FirstOk ks g b ins_seen may_name D (lookup parts x) (meanings (routines parts) turns x)
  all_first [] pl re x = refl
  all_first (k ∷ parts) pl re x = go (bytes_eq x k.routine.name) (all_first parts pl.3 re.1 x) (λ y. all_first parts pl.3 re.1 y)
    where
      go : (c : Bool) → FirstOk ks g b ins_seen may_name D (lookup parts x) (meanings (routines parts) turns x) → ((y : List ℕ) → FirstOk ks g b ins_seen may_name D (lookup parts y) (meanings (routines parts) turns y)) →
          FirstOk ks g b ins_seen may_name D (if c then Some k else lookup parts x) (if c then called k.routine turns (meanings (routines parts) turns) else meanings (routines parts) turns x)
      go true h f = λ ps locked z ent offers.
          part_called k pl.0 parts pl.1 pl.2 re.0 (meanings (routines parts) turns) (λ y. all_free b cs sites of turns parts pl.3 y) (λ y. base.all_fine ks g b cs sites rs of turns parts pl.3 (parts_go parts pl.3 re.1) y) f ps locked ent offers z
      go false h f = h

  -- ---- the main program

  module _ (main : Part) (parts : List Part) (z : Store) (pl : AnalysedProgram b cs sites of main parts z) (rm : PartFirst parts main pl.sane) (re : PartsFirst parts pl.parts_analysed) where
    pub none_bound : (u : ℕ) → in_bound main.routine.dummies [] u ≡ true → ⊥
    none_bound u h = true≢false (sym (sym (ap (λ ds. in_bound ds [] u) pl.no_dummies) ∙ h))

    pub begins : Entered main [] no_locks
    begins = record {
      locks = λ u l. absurd (true≢false (sym l));
      places = λ u h. absurd (none_bound u h);
      solid = λ i d e f. absurd (nothing i d (sym (ap (λ ds. slice_get ds i) pl.no_dummies) ∙ e));
    }
      where
        nothing : (i : ℕ) (d : Dummy) → slice_get [] i ≡ Some d → ⊥
        nothing i d e = cc

    pub fixed_places : dummy_places main [] ≡ main.routine.fixed
    fixed_places = ap (λ ds. scalars_bound ds [] main.routine.fixed) pl.no_dummies

    pub program_each : (input : List Content) → Throughout (EachInHolds ks g cs rs is of) (program_plan (record { main = main.routine; others = routines parts; initial = z }) turns) z input (λ f s i. [])
    program_each input =
        throughout (EachInHolds ks g cs rs is of) (program_plan (record { main = main.routine; others = routines parts; initial = z }) turns) z input (λ f s i. [])
        (subst (λ (at : Places). AtEach D (Within (spot main.routine.name 0) at (body_of main.routine turns (meanings (routines parts) turns) [] at no_locks) (λ f. Ends f)) z input) fixed_places
        (part_main main pl.sane parts pl.analysed pl.named rm (meanings (routines parts) turns) (λ y. all_free b cs sites of turns parts pl.parts_analysed y) (λ y. base.all_fine ks g b cs sites rs of turns parts pl.parts_analysed (parts_go parts pl.parts_analysed re) y) (λ y. all_first parts pl.parts_analysed re y) [] no_locks begins (λ u h o l. none_bound u h) z input))

-- where regions are carried to callers, IN regions hold in every run: all that is read before it is written lies in them, and at a normal end each element
-- that an exact one describes is read first
pub carried_ins_hold : (b : Blocks) (cs : Callees) (sites : List ℕ → List HoldingSite) (of : List ℕ → Part) (may_name : Part → Named → Bool) (main : Part) (parts : List Part) (z : Store) (pl : AnalysedProgram b cs sites of main parts z) (ks : List Known) (g : Graph) (rs is : List ℕ → Summaries) →
    ((turns : ℕ) → PartFirst ks g b cs sites rs is of may_name turns parts main pl.sane × PartsFirst ks g b cs sites rs is of may_name turns parts pl.parts_analysed) →
    program_of ks g ≡ record { main = main.routine; others = routines parts; initial = z } → InEveryRun ks g (EachInHolds ks g cs rs is of)
carried_ins_hold b cs sites of may_name main parts z pl ks g rs is go e turns input =
    subst (λ (p : Program). Throughout (EachInHolds ks g cs rs is of) (program_plan p turns) p.initial input (λ f s i. [])) (sym e) (program_each ks g b cs sites rs is of may_name turns main parts z pl (go turns).0 (go turns).1 input)
