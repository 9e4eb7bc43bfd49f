-- Where a module is entered: what is needed of the whole execution later is handed down to its statements, and the execution itself is claimed.
use Rattle.std.proofs.Common.{◌≡◌, ⊎_elim, ℕ, ℤ, zero, suc, List, [], ◌∷◌, ◌++◌, Some, Bool, true, false, refl, sym, ap, ◌∙◌, subst, append-nil, true≢false}
use Rattle.std.proofs.lemmas.Bool.{or_parts, or_from}
use Rattle.f77_ast.specs.Trees.{StmtTrees}
use Rattle.f77_ast.specs.Trees as tree
use Rattle.f77_ast.specs.Store.{Content, Store, put, undefined}
use Rattle.f77_ast.specs.Steps.{Break, Steps}
use Rattle.f77_ast.specs.Steps as steps
use Rattle.f77_ast.specs.Runs.{Event, Arrived, Read, Ran, Answer, Gave, Broke}
use Rattle.f77_ast.specs.Places.{Place, Places}
use Rattle.f77_ast.specs.Writes.{Locks}
use Rattle.f77_ast.specs.Plans.{Flow, Normal, Jump, Returned, Stopped, Plan, Ends, Within, first, ◌▹◌}
use Rattle.f77_ast.specs.Lists.{list_plan}
use Rattle.f77_ast.specs.Executions.{run_of}
use Rattle.f77_ast.specs.Calls.{Meaning, arrays_bound, lock_doubly, forget_all, after_call}
use Rattle.f77_ast.specs.Statements.{spot, body_plan}
use Rattle.f77_ast.specs.Programs.{Conforms, scope, body_of, called}
use Rattle.f77_ast.specs.declared.variable.Variable.{Variable as Named}
use Rattle.call_graph.specs.declared.graph.Graph.{Graph}
use Rattle.f77_meaning.specs.Accesses.{is_written, is_read_first}
use Rattle.f77_meaning.specs.Areas.{is_own_unit}
use Rattle.f77_meaning.specs.Linked.{numbering}
use Rattle.f77_meaning.specs.Modules.{Known}
use Rattle.f77_meaning.specs.Occurrences.{Occurrence, events_after, first_places}
use Rattle.affine_forms.specs.Scalars.{is_cell}
use Rattle.affine_forms.specs.Claims.{unit_in, numbers_of}
use Rattle.preconditions.specs.call_translation.Scopes.{ScopeTree}
use Rattle.preconditions.specs.call_translation.Sites.{HoldingSite}
use Rattle.preconditions.specs.transformer_algebra.Claims.{Scene}
use Rattle.preconditions.specs.transformers.Given.{Callees}
use Rattle.in_out_regions.specs.region_sets.declared.region.Access.TheVariants.{Write, Out}
use Rattle.in_out_regions.specs.region_sets.declared.region.Region.{Region}
use Rattle.in_out_regions.specs.region_sets.Sets.{unite_all}
use Rattle.in_out_regions.specs.region_sets.Lists.{accesses_at, list_regions}
use Rattle.in_out_regions.specs.region_sets.Claims.{Places as Elements, AreByOrder, LiesInSet}
use Rattle.in_out_regions.proofs.RegionSets.SetLaws.{gathered_units}
use Rattle.in_out_regions.specs.array_regions.Calls.{Callees as Summaries}
use Rattle.in_out_regions.specs.array_regions.Entry.{symbols_reads, locals, for_callers, seen}
use Rattle.loop_marker.specs.out_regions.Modules.{summary_of}
use Rattle.laws_analyses.specs.Calls.Parts.{Blocks, Part, places_in as dummy_places, scene_in, Sane}
use Rattle.laws_analyses.specs.Calls.ProgramLaws.{Analysed}
use Rattle.laws_analyses.specs.Calls.Sites.{lookup, Entered}
use Rattle.laws_analyses.specs.Regions.Settings.{scene}
use Rattle.laws_analyses.specs.Regions.Shown.{is_lost, is_hidden}
use Rattle.laws_analyses.specs.Regions.Entries.{IsLost, Enters}
use Rattle.laws_analyses.specs.Regions.Programs.{regions_in_part, called_in, entry_scope, Regular, Joins}
use Rattle.laws_analyses.proofs.Regions.Arrays.{AllArrays}
use Rattle.laws_analyses.proofs.Regions.AtEntries.{bound_entry}
use Rattle.laws_analyses.proofs.Regions.Callers.{in_seen, callers_lie, summary_lies}
use Rattle.laws_analyses.proofs.Regions.CalledShown.{AtEntry, Bound}
use Rattle.laws_analyses.proofs.Regions.Claimed.{visible_seen}
use Rattle.laws_analyses.proofs.Regions.Entering.{fixed_first, out, not_visible}
use Rattle.laws_analyses.proofs.Regions.Free.{FreeOk}
use Rattle.laws_analyses.proofs.Regions.Looks.{Looked, IfGave}
use Rattle.laws_analyses.proofs.Regions.Starts.{Starts, first_starts, forget_starts, body_starts}
use Rattle.laws_analyses.proofs.Regions.Traces.{hidden_parts}
use Rattle.laws_analyses.proofs.Regions.Programs as base
use Rattle.laws_marks.specs.InFrames.{Frame, elements_in}
use Rattle.laws_marks.specs.InShown.{IsFree}
use Rattle.laws_marks.proofs.InApart.{OffersLocked, units_fit}
use Rattle.laws_marks.proofs.InCalledIn.{elements_seen}
use Rattle.laws_marks.proofs.InFirsts.{not_so, written_split, written_right, lost_split}
use Rattle.laws_marks.proofs.InFramed.{by_order, element_of, set_in}
use Rattle.laws_marks.proofs.InPrograms as firsts
use Rattle.laws_marks.proofs.InRunning.{frame}
use Rattle.laws_marks.proofs.InTaking.{NoWrites, free_none, free_both}
use Rattle.laws_marks.specs.OutClaims.{OutRegionsHold}
use Rattle.laws_marks.specs.OutPrograms.{outs_in_part, EachOutHolds, is_some_lost, OutPart}
use Rattle.laws_interleavings.specs.Typed.{TagsStand}
use Rattle.laws_marks.specs.OutRests.{onward_by, Follows}
use Rattle.laws_marks.specs.OutShown.{IsNeeded, NeedsLie}
use Rattle.laws_marks.proofs.OutClaimed.{out_set_holds}
use Rattle.laws_marks.proofs.OutForgetting.{unread_after, quiet_after, some_lost}
use Rattle.laws_marks.proofs.OutHands.{Need, Hands, hands_ends, hands_more, hands_knowing, hands_first, hands_forget, hands_within}
use Rattle.laws_marks.proofs.OutModules as handed
use Rattle.laws_marks.proofs.OutModules.{looked_yields}
use Rattle.laws_marks.proofs.OutMoves.{lies_right}
use Rattle.laws_marks.proofs.OutNeeds.{nothing_later, is_element, unhidden, touched}
use Rattle.laws_marks.proofs.OutRuns.{events_join}
use Rattle.laws_marks.proofs.OutStrictParts.{MeaningStrict, strict_after_call}
use Rattle.laws_interleavings.proofs.Plans.Fine.{arrays_tagged, scalars_tagged}
use Rattle.laws_marks.proofs.OutWriteSets.{list_fits}
use Rattle.call_graph.specs.Visible.{is_visible_to_callers}

-- a unit of a variable that callers see, in what callers see
out_summary_lies : (m : Scene) (at : Elements) (by : AreByOrder at) (x : ℕ → ℤ) (s : ScopeTree) (rs : List Region) (u : ℕ) → ((v : Named) (phi : ℕ → ℤ) → at v phi ≡ Some u → is_visible_to_callers s.symbols v ≡ true) → LiesInSet m at Out rs x u → LiesInSet m at Out (summary_of s rs) x u
out_summary_lies m at by x s rs u out l =
    let g = gathered_units rs m at by Out x u l in
    gathered_units (seen s.symbols (locals s.symbols) (unite_all rs)) m at by Out x u
    (record {
      region = for_callers (locals s.symbols) g.region;
      is_one = in_seen s.symbols (locals s.symbols) (unite_all rs) g.region g.is_one (out g.region.variable g.lies.phi g.lies.there);
      kind = g.kind;
      lies = callers_lie m at by x (locals s.symbols) g.region u g.lies;
    })

-- ---- plans that end with no GO TO

abbrev NoJump : Answer Flow → Type 0
NoJump (Gave Normal) = Unit {0}
NoJump (Gave (Jump l)) = ⊥
NoJump (Gave Returned) = Unit {0}
NoJump (Gave Stopped) = Unit {0}
NoJump (Broke b) = Unit {0}

no_jump_of : (a : Answer Flow) → ((l : ℕ) → a ≡ Gave (Jump l) → ⊥) → NoJump a
no_jump_of (Gave Normal) h = tt
no_jump_of (Gave (Jump l)) h = h l refl
no_jump_of (Gave Returned) h = tt
no_jump_of (Gave Stopped) h = tt
no_jump_of (Broke b) h = tt

jumps_not : (g : Flow) → NoJump (Gave g) → (l : ℕ) → g ≡ Jump l → ⊥
jumps_not Normal h l e = cc
jumps_not (Jump m) h l e = h
jumps_not Returned h l e = cc
jumps_not Stopped h l e = cc

no_jump_first : {A : Type 0} (t : Steps A) (f : A → Plan) (s : Store) (P : Answer A → List Event → Type 0) → Looked t s P → ((a : A) (es : List Event) → P (Gave a) es → (i : List Content) → NoJump (run_of (f a) s i).answer) → (i : List Content) → NoJump (run_of (first t f) s i).answer
no_jump_first (steps.Done a) f s P h next i = next a [] h i
no_jump_first (steps.Breaks b) f s P h next i = tt
no_jump_first (steps.Look u k) f s P h next i = no_jump_first (k (s u)) f s (λ a es. P a (Read u (s u) ∷ es)) h (λ a es p. next a (Read u (s u) ∷ es) p) i
no_jump_first (steps.Set u c t) f s P h next i = absurd h
no_jump_first (steps.Hold u c t) f s P h next i = absurd h
no_jump_first (steps.Forget u t) f s P h next i = absurd h
no_jump_first (steps.Show xs t) f s P h next i = absurd h
no_jump_first (steps.Take k) f s P h next i = absurd h
no_jump_first (steps.Arrive p t) f s P h next i = absurd h

no_jump_forget : (us : List ℕ) (t : Plan) → ((z : Store) (i : List Content) → NoJump (run_of t z i).answer) → (z : Store) (i : List Content) → NoJump (run_of (forget_all us t) z i).answer
no_jump_forget [] t h z i = h z i
no_jump_forget (u ∷ us) t h z i = no_jump_forget us t h (put z u (undefined (z u))) i

module _ (ks : List Known) (g : Graph) (b : Blocks) (cs : Callees) (sites : List ℕ → List HoldingSite) (rs is : List ℕ → Summaries) (us : List ℕ → List Region) (of : List ℕ → Part) (may_name : Part → Named → Bool) (turns : ℕ) where
  abbrev O : Occurrence → Type 0
  O = EachOutHolds ks g cs rs is us of

  abbrev Lost : ℕ → Bool
  Lost = is_some_lost ks g

  -- what is needed of an execution of a module later, and lies in its WRITE regions, lies in what its callers hand down, wherever its variables lie
  abbrev pub HandedTo : Part → List Place → Store → Need
  HandedTo k ps s es later = (at : Places) → AtEntry g k ps s at → (u : ℕ) → IsNeeded es later u → is_hidden ks g es u ≡ false → (IsLost ks g k.routine.name u → ⊥) →
      LiesInSet (scene_in b k ps at) (elements_seen ks g (may_name k) k.scope.symbols at) Write (regions_in_part g cs (rs k.routine.name) k).summary (numbers_of s) u →
      LiesInSet (scene_in b k ps at) (elements_seen ks g (may_name k) k.scope.symbols at) Out (us k.routine.name) (numbers_of s) u

  module _ (k : Part) (sane : Sane b k) (regular : Regular k) (enters : Enters ks g k) (joins : Joins ks g k) (ready : firsts.IsReady ks g b cs sites rs is of may_name turns k) (below : List Part) (analysed : Analysed b cs sites below k) (named : of k.routine.name ≡ k) (callee : List ℕ → Meaning) (free : (x : List ℕ) → FreeOk b cs (lookup below x) (callee x)) (ps : List Place) (out_part : OutPart ks g k) (callee_strict : (x : List ℕ) → MeaningStrict (is_some_lost ks g) (callee x)) where
    abbrev at0 : Places
    at0 = dummy_places k ps

    abbrev frame_at : Places → Frame
    frame_at at = frame ks g (called_in g cs (rs k.routine.name) k) b cs k sane regular turns callee ps (may_name k) ready.laid at

    abbrev Us : List Region
    Us = us k.routine.name

    abbrev Summary : List Region
    Summary = (outs_in_part g cs (rs k.routine.name) (is k.routine.name) (us k.routine.name) k).summary

    abbrev OutOf : List Region
    OutOf = handed.OutOf ks g b cs sites rs is us of may_name turns k sane regular enters joins ready below analysed named callee free ps out_part callee_strict

    abbrev writes_of : List Region
    writes_of = list_regions k.found.transformer (accesses_at (regions_in_part g cs (rs k.routine.name) k).at) true k.routine.body

    abbrev inner_locks : Locks → Places → Locks
    inner_locks locked at = lock_doubly locked k.routine.dummies at k.routine.common

    abbrev Body : Locks → Places → Plan
    Body locked at = body_plan k.routine.body (scope k.routine turns callee) at (lock_doubly locked k.routine.dummies at k.routine.common)

    abbrev bounds : Steps Places
    bounds = arrays_bound k.routine.dummies ps k.routine.names (dummy_places k ps)

    abbrev inner : Locks → Plan
    inner locked = body_of k.routine turns callee ps (dummy_places k ps) locked

    abbrev inside : Locks → Plan
    inside locked = forget_all k.routine.locals (body_of k.routine turns callee ps (dummy_places k ps) locked)

    -- the same, of one that is entered, with the places of its variables
    abbrev MayNeed : Locks → Store → Need
    MayNeed locked s es later =
        (at : Places) → Bound g b k sane ps s at → IsFree (frame_at at) (inner_locks locked at) es → (u : ℕ) → LiesInSet (scene (frame_at at).base) (elements_in (frame_at at)) Write writes_of (numbers_of s) u → IsNeeded es later u → LiesInSet (scene (frame_at at).base) (elements_in (frame_at at)) Out Us (numbers_of s) u

    needless : (locked : Locks) (s : Store) (es : List Event) → MayNeed locked s es []
    needless locked s es at bound f u l n = absurd (nothing_later es u n)

    -- at a store with the same numbers
    bound_same : (v z : Store) → numbers_of v ≡ numbers_of z → (at : Places) → Bound g b k sane ps v at → Bound g b k sane ps z at
    bound_same v z e at h = record {
      made = h.made;
      dims = h.dims;
      arrays = subst (λ (x : ℕ → ℤ). AllArrays k.scope.scalars (is_cell k.scope.tracked) (unit_in (dummy_places k ps)) x k.routine.dummies ps at) e h.arrays;
      entry_arrays = subst (λ (x : ℕ → ℤ). AllArrays (entry_scope g k).scalars (is_cell (entry_scope g k).tracked) (unit_in (dummy_places k ps)) x k.routine.dummies ps at) e h.entry_arrays;
    }

    may_same : (locked : Locks) (v z : Store) → numbers_of v ≡ numbers_of z → (es later : List Event) → MayNeed locked z es later → MayNeed locked v es later
    may_same locked v z e es later h at bound f =
        subst (λ (x : ℕ → ℤ). (u : ℕ) → LiesInSet (scene (frame_at at).base) (elements_in (frame_at at)) Write writes_of x u → IsNeeded es later u → LiesInSet (scene (frame_at at).base) (elements_in (frame_at at)) Out Us x u) (sym e) (h at (bound_same v z e at bound) f)

    -- of the execution, with these places
    abbrev EntryOut : Locks → Store → Places → List Event → Type 0
    EntryOut locked s w es = (later : List Event) → MayNeed locked s es later → (u : ℕ) → IsNeeded es later u → is_hidden ks g es u ≡ false → (IsLost ks g k.routine.name u → ⊥) → LiesInSet (scene (frame_at w).base) (elements_in (frame_at w)) Out Summary (numbers_of s) u

    entry_same : (locked : Locks) (v z : Store) → numbers_of v ≡ numbers_of z → (w : Places) (es : List Event) → EntryOut locked v w es → EntryOut locked z w es
    entry_same locked v z e w es h later m u n hid nl = subst (λ (x : ℕ → ℤ). LiesInSet (scene (frame_at w).base) (elements_in (frame_at w)) Out Summary x u) e (h later (may_same locked v z e es later m) u n hid nl)

    -- where nothing is written
    entry_idle : (locked : Locks) (s : Store) (w : Places) (es : List Event) → ((u : ℕ) → is_written u es ≡ false) → EntryOut locked s w es
    entry_idle locked s w es q later m u n hid nl = absurd (true≢false (sym n.written ∙ q u))

    -- it is claimed
    entry_claimed : (w : Places) (s : Store) (q : Ran Flow) (later : List Event) → ((u : ℕ) → IsNeeded q.trace later u → is_hidden ks g q.trace u ≡ false → (IsLost ks g k.routine.name u → ⊥) → LiesInSet (scene (frame_at w).base) (elements_in (frame_at w)) Out Summary (numbers_of s) u) →
        O (record { spot = spot k.routine.name 0; places = w; start = s; ran = q; later = later })
    entry_claimed w s q later h =
        let x : Occurrence = record { spot = spot k.routine.name 0; places = w; start = s; ran = q; later = later } in
        subst (λ (p : Part). OutRegionsHold ks g p.scope (outs_in_part g cs (rs p.routine.name) (is p.routine.name) (us p.routine.name) p) (record { spot = spot k.routine.name 0; places = w; start = s; ran = q; later = later })) (sym named)
        (out_set_holds (frame_at w) (spot k.routine.name 0) s q later Summary (λ u n v. h u n (visible_seen ks g x u v) (λ l. not_visible ks g k.routine.name x u refl l v)))

    module _ (go_calls : (began : Store) (at : Places) (bound : Bound g b k sane ps began at) → base.CallsGo ks g b cs sites rs of turns k sane regular enters joins below analysed named callee free ps began at bound)
        (go_first : (began : Store) (at : Places) (bound : Bound g b k sane ps began at) → firsts.CallsFirst ks g b cs sites rs is of may_name turns k sane regular enters joins ready below analysed named callee free ps began at bound (go_calls began at bound))
        (fit_calls : (began : Store) (at : Places) (bound : Bound g b k sane ps began at) → firsts.CallsFit ks g b cs sites rs is of may_name turns k sane regular enters joins ready below analysed named callee free ps began at bound (go_calls began at bound))
        (go_out : (began : Store) (at : Places) (bound : Bound g b k sane ps began at) → handed.CallsOut ks g b cs sites rs is us of may_name turns k sane regular enters joins ready below analysed named callee free ps out_part callee_strict began at bound (go_calls began at bound))
        (locked : Locks) (ent : Entered k ps locked) (offers : OffersLocked ks g k ps locked) where
      abbrev Looked_so : Store → Answer Places → List Event → Type 0
      Looked_so s a es = firsts.Looked_so ks g b cs sites rs is of may_name turns k sane regular enters joins ready below analysed named callee free ps go_calls go_first fit_calls s a es × IfGave a (TagsStand k.routine.names)

      looked : (s : Store) → Looked (arrays_bound k.routine.dummies ps k.routine.names (dummy_places k ps)) s (λ a es. Looked_so s a es)
      looked s =
          looked_yields (arrays_bound k.routine.dummies ps k.routine.names (dummy_places k ps)) s (λ a es. firsts.Looked_so ks g b cs sites rs is of may_name turns k sane regular enters joins ready below analysed named callee free ps go_calls go_first fit_calls s a es) (TagsStand k.routine.names)
          (firsts.looked ks g b cs sites rs is of may_name turns k sane regular enters joins ready below analysed named callee free ps go_calls go_first fit_calls s)
          (arrays_tagged k.routine.dummies ps k.routine.names (dummy_places k ps) out_part.tagged.dummies (scalars_tagged k.routine.names k.routine.dummies ps k.routine.fixed out_part.tagged.dummies out_part.tagged.fixed))

      module _ (s : Store) (at : Places) (bound : Bound g b k sane ps s at) (ok : TagsStand k.routine.names at) where
        abbrev Shows : List Event → Type 0
        Shows fs = handed.BodyShows ks g b cs sites rs is us of may_name turns k sane regular enters joins ready below analysed named callee free ps out_part callee_strict s at bound (go_calls s at bound) (go_first s at bound) (fit_calls s at bound) (go_out s at bound) ok locked ent offers fs

        shows : (i : List Content) → Shows (run_of (Body locked at) s i).trace
        shows i = handed.body_shows ks g b cs sites rs is us of may_name turns k sane regular enters joins ready below analysed named callee free ps out_part callee_strict s at bound (go_calls s at bound) (go_first s at bound) (fit_calls s at bound) (go_out s at bound) ok locked ent offers i

        module _ (es : List Event) (quiet : NoWrites es) where
          inner_needs : (fs later : List Event) → Shows fs → MayNeed locked s (es ++ fs) later → NeedsLie (frame_at at) Us s fs later
          inner_needs fs later sh n u el nd =
              n at bound (free_both (frame_at at) (inner_locks locked at) es fs (free_none (frame_at at) (inner_locks locked at) es quiet) sh.free_so) u
              (touched (frame_at at) (inner_locks locked at) (handed.units ks g b cs sites rs is us of may_name turns k sane regular enters joins ready below analysed named callee free ps out_part callee_strict s at bound (go_calls s at bound) (go_first s at bound) (fit_calls s at bound) (go_out s at bound) ok locked ent offers)
              writes_of s fs (list_fits (frame_at at) ready.done k.routine.body (fit_calls s at bound) true k.routine.body).named sh.holds sh.free_so u el nd.written)
              (record { written = written_right u es fs nd.written; read = nd.read })

          body_hands : Hands O Lost (Body locked at) s (λ fs later. MayNeed locked s (es ++ fs) later)
          body_hands =
              hands_knowing O Lost (Body locked at) s (λ a y fs. Shows fs) (λ fs later. MayNeed locked s (es ++ fs) later) (NeedsLie (frame_at at) Us s) shows (λ a y fs later sh n. inner_needs fs later sh n)
              (handed.used_handed ks g b cs sites rs is us of may_name turns k sane regular enters joins ready below analysed named callee free ps out_part callee_strict s at bound (go_calls s at bound) (go_first s at bound) (fit_calls s at bound) (go_out s at bound) ok locked ent offers)

          -- what is needed later of the whole, of what was written in the body
          entry_at : (fs : List Event) → Shows fs → EntryOut locked s at (es ++ fs)
          entry_at fs sh later m u n hid nl =
              out_summary_lies (scene (frame_at at).base) (elements_in (frame_at at)) (by_order (frame_at at)) (numbers_of s) k.scope OutOf u
              (λ w phi i. out ks g (called_in g cs (rs k.routine.name) k) b cs k sane regular turns callee ps enters at (λ v o. bound.made.other v o ∙ fixed_first ks g (called_in g cs (rs k.routine.name) k) b cs k sane regular turns callee ps v o) u nl w phi (element_of (frame_at at) w phi u i))
              (handed.out_needs ks g b cs sites rs is us of may_name turns k sane regular enters joins ready below analysed named callee free ps out_part callee_strict s at bound (go_calls s at bound) (go_first s at bound) (fit_calls s at bound) (go_out s at bound) ok locked ent offers fs later sh (inner_needs fs later sh m) u
              (is_element (frame_at at) Write writes_of (numbers_of s) u written_so) (record { written = there; read = n.read }))
            where
              there : is_written u fs ≡ true
              there = ⊎_elim (λ w. absurd (true≢false (sym w ∙ quiet.unwritten u))) (λ w. w) (written_split u es fs n.written)

              written_so : LiesInSet (scene (frame_at at).base) (elements_in (frame_at at)) Write writes_of (numbers_of s) u
              written_so =
                  set_in (frame_at at) Write writes_of (numbers_of s) u (list_fits (frame_at at) ready.done k.routine.body (fit_calls s at bound) true k.routine.body).named
                  (sh.holds Write u (record { is_so = there; seen = (hidden_parts ks g es fs u hid).1 }))

          entry_body : (i : List Content) → Starts (Body locked at) s i (dummy_places k ps) (λ w a fs. EntryOut locked s w (es ++ fs))
          entry_body i =
              ⊎_elim
              (λ e. entry_idle locked s (first_places (Body locked at) s i (dummy_places k ps)) (es ++ (run_of (Body locked at) s i).trace) (λ u. not_so (is_written u (es ++ (run_of (Body locked at) s i).trace)) (λ w. ⊎_elim (λ x. true≢false (sym x ∙ quiet.unwritten u)) (λ x. true≢false (sym x ∙ empty e u)) (written_split u es (run_of (Body locked at) s i).trace w))))
              (λ e. subst (λ w. EntryOut locked s w (es ++ (run_of (Body locked at) s i).trace)) (sym e) (entry_at (run_of (Body locked at) s i).trace (shows i)))
              (body_starts k.routine.body (scope k.routine turns callee) at (inner_locks locked at) s i (dummy_places k ps))
            where
              without : (n : ℕ) (u : ℕ) → is_written u (run_of (list_plan n []) s i).trace ≡ false
              without zero u = refl
              without (suc n) u = refl

              empty : k.routine.body ≡ tree.no_stmts → (u : ℕ) → is_written u (run_of (Body locked at) s i).trace ≡ false
              empty e u = subst (λ t. is_written u (run_of (body_plan t (scope k.routine turns callee) at (inner_locks locked at)) s i).trace ≡ false) (sym e) (without turns u)

        stays : (i : List Content) → NoJump (run_of (Body locked at) s i).answer
        stays i = no_jump_of (run_of (Body locked at) s i).answer (λ l e. handed.no_jump ks g b cs sites rs is us of may_name turns k sane regular enters joins ready below analysed named callee free ps out_part callee_strict s at bound (go_calls s at bound) (go_first s at bound) (fit_calls s at bound) (go_out s at bound) ok locked ent offers i l e)

      inner_hands : (s : Store) → Hands O Lost (inner locked) s (MayNeed locked s)
      inner_hands s = hands_first O Lost (arrays_bound k.routine.dummies ps k.routine.names (dummy_places k ps)) (λ at. Body locked at) s (λ a es. Looked_so s a es) (MayNeed locked s) (looked s) (λ at es p. body_hands s at p.0.0.1 p.1 es p.0.1)

      inner_starts : (s : Store) (i : List Content) → Starts (inner locked) s i (dummy_places k ps) (λ w a es. EntryOut locked s w es)
      inner_starts s i =
          first_starts (arrays_bound k.routine.dummies ps k.routine.names (dummy_places k ps)) (λ at. Body locked at) s i (dummy_places k ps) (λ a es. Looked_so s a es) (λ w a es. EntryOut locked s w es) (looked s)
          (λ at es p. entry_body s at p.0.0.1 p.1 es p.0.1 i)
          (λ z es p. entry_idle locked s (dummy_places k ps) es p.0.1.unwritten)

      inner_stays : (s : Store) (i : List Content) → NoJump (run_of (inner locked) s i).answer
      inner_stays s i = no_jump_first (arrays_bound k.routine.dummies ps k.routine.names (dummy_places k ps)) (λ at. Body locked at) s (λ a es. Looked_so s a es) (looked s) (λ at es p j. stays s at p.0.0.1 p.1 j) i

      -- ---- the main program, which no CALL enters

      pub main_hands : (s : Store) → Hands O Lost (Within (spot k.routine.name 0) (dummy_places k ps) (inner locked) (λ f. Ends f)) s (λ es later. later ≡ [])
      main_hands s =
          hands_within O Lost (spot k.routine.name 0) (dummy_places k ps) (inner locked) (λ f. Ends f) s (λ a z es. Unit {0}) (λ es later. later ≡ []) (MayNeed locked s) (λ f. tt) refl (λ i. tt) (inner_hands s) (needless locked s)
          (λ i later m. entry_claimed (first_places (inner locked) s i (dummy_places k ps)) s (run_of (inner locked) s i) later (λ u n hid nl. inner_starts s i later m u n hid nl))
          (λ f z es p j l fl cf n. subst (λ later. MayNeed locked s es later) (sym n) (needless locked s es))
          (λ f z es p. hands_ends O Lost f z (λ fs later. later ≡ []))

      -- ---- a call of it

      inside_hands : (z : Store) → Hands O Lost (inside locked) z (MayNeed locked z)
      inside_hands z = hands_forget O Lost k.routine.locals (inner locked) z (MayNeed locked z) (λ v e. hands_more O Lost (inner locked) v (MayNeed locked z) (MayNeed locked v) (λ es later h. may_same locked v z e es later h) (inner_hands v))

      inside_starts : (z : Store) (i : List Content) → Starts (inside locked) z i (dummy_places k ps) (λ w a es. EntryOut locked z w es)
      inside_starts z i = forget_starts k.routine.locals (inner locked) z i (dummy_places k ps) (λ w a es. EntryOut locked z w es) (λ v e. entry_same locked v z e (first_places (inner locked) v i (dummy_places k ps)) (run_of (inner locked) v i).trace (inner_starts v i))

      inside_stays : (z : Store) (i : List Content) → NoJump (run_of (inside locked) z i).answer
      inside_stays z i = no_jump_forget k.routine.locals (inner locked) inner_stays z i

      -- what is needed of the call is needed of what was done in it, where it is not lost at its end
      from_callers : (z : Store) (f : Flow) (y : Store) (es : List Event) → NoJump (Gave f) → (j : List Content) (c : Flow → Plan) → Follows Lost c → Conforms (run_of (after_call k.routine.locals f ▹ c) y j).answer →
          HandedTo k ps z (Arrived (spot k.routine.name 0) ∷ (es ++ (run_of (after_call k.routine.locals f) y j).trace)) (events_after (run_of (after_call k.routine.locals f) y j) (onward_by c)) → MayNeed locked z es (run_of (after_call k.routine.locals f ▹ c) y j).trace
      from_callers z f y es stay j c fl cf h at bound fr u wl n =
          plain at (bound_entry g b k sane ps z at bound) u (record { written = n.written; read = subst (λ fs. is_read_first u fs ≡ true) same n.read }) hidden kept
          (summary_lies (scene (frame_at at).base) (elements_in (frame_at at)) (by_order (frame_at at)) (numbers_of z) k.scope writes_of Write u
          (λ w phi i. out ks g (called_in g cs (rs k.routine.name) k) b cs k sane regular turns callee ps enters at (λ v o. bound.made.other v o ∙ fixed_first ks g (called_in g cs (rs k.routine.name) k) b cs k sane regular turns callee ps v o) u kept w phi (element_of (frame_at at) w phi u i))
          (lies_right (scene (frame_at at).base) (elements_in (frame_at at)) (symbols_reads k.scope.symbols k.scope) writes_of Write (numbers_of z) u wl))
        where
          same : (run_of (after_call k.routine.locals f ▹ c) y j).trace ≡ events_after (run_of (after_call k.routine.locals f) y j) (onward_by c)
          same = sym (events_join (after_call k.routine.locals f) c y j) ∙ ap (λ fs. fs ++ events_after (run_of (after_call k.routine.locals f) y j) (onward_by c)) (quiet_after k.routine.locals f y j)

          plain : HandedTo k ps z (Arrived (spot k.routine.name 0) ∷ es) (events_after (run_of (after_call k.routine.locals f) y j) (onward_by c))
          plain = subst (λ fs. HandedTo k ps z (Arrived (spot k.routine.name 0) ∷ fs) (events_after (run_of (after_call k.routine.locals f) y j) (onward_by c))) (ap (λ fs. es ++ fs) (quiet_after k.routine.locals f y j) ∙ append-nil es) h

          seen : is_hidden ks g es u ≡ false
          seen = unhidden (frame_at at) (inner_locks locked at) (units_fit ks g b k sane regular joins (may_name k) ready.laid ps locked ent offers at bound.made z bound (called_in g cs (rs k.routine.name) k) cs turns callee
              (firsts.is_sound ks g b cs sites rs is of may_name turns k sane regular enters joins ready below analysed named callee free ps z at bound (go_calls z at bound))) u (is_element (frame_at at) Write writes_of (numbers_of z) u wl) (fr.unlocked u n.written) es fr

          kept : IsLost ks g k.routine.name u → ⊥
          kept l = true≢false (sym n.read ∙ unread_after Lost k.routine.locals f (jumps_not f stay) c fl u (some_lost ks g k.routine.name u l) (out_part.forgets u l) y j cf)

          hidden : is_hidden ks g (Arrived (spot k.routine.name 0) ∷ es) u ≡ false
          hidden =
              let q = or_parts (is_own_unit (numbering ks g) u) (is_lost ks g es u) seen in
              or_from (is_own_unit (numbering ks g) u) (is_lost ks g (Arrived (spot k.routine.name 0) ∷ es) u) q.0
              (not_so (is_lost ks g (Arrived (spot k.routine.name 0) ∷ es) u) (λ l. ⊎_elim (λ i. kept (firsts.entry_lost ks g k.routine.name u i)) (λ i. true≢false (sym i ∙ q.1)) (lost_split ks g u (Arrived (spot k.routine.name 0) ∷ []) es l)))

      pub called_hands : (z : Store) → Hands O Lost (called k.routine turns callee ps locked) z (λ es later. HandedTo k ps z es later)
      called_hands z =
          hands_within O Lost (spot k.routine.name 0) (dummy_places k ps) (inside locked) (after_call k.routine.locals) z (λ a y es. NoJump a) (λ es later. HandedTo k ps z es later) (MayNeed locked z) (strict_after_call Lost k.routine.locals) refl (λ i. inside_stays z i) (inside_hands z) (needless locked z)
          (λ i later m. entry_claimed (first_places (inside locked) z i (dummy_places k ps)) z (run_of (inside locked) z i) later (λ u n hid nl. inside_starts z i later m u n hid nl))
          (λ f y es p j c fl cf h. from_callers z f y es p j c fl cf h)
          (λ f y es p. ended f y (λ fs later. HandedTo k ps z (Arrived (spot k.routine.name 0) ∷ (es ++ fs)) later))
        where
          ended : (f : Flow) (y : Store) (N : Need) → Hands O Lost (after_call k.routine.locals f) y N
          ended Normal y N = hands_forget O Lost k.routine.locals (Ends Normal) y N (λ v e. hands_ends O Lost Normal v N)
          ended (Jump l) y N = hands_ends O Lost (Jump l) y N
          ended Returned y N = hands_forget O Lost k.routine.locals (Ends Normal) y N (λ v e. hands_ends O Lost Normal v N)
          ended Stopped y N = hands_ends O Lost Stopped y N
