-- The modules of a program: what is needed of each later is handed down from its callers, and OUT regions hold in every run that no fault ends.
use Rattle.std.proofs.Common.{◌≡◌, ◌<◌, ℕ, List, [], ◌∷◌, ◌++◌, Option, Some, None, Bool, true, false, refl, sym, ap, ◌∙◌, subst, append-nil}
use Rattle.std.specs.Prelude.{if◌then◌else◌, bytes_eq}
use Rattle.std.proofs.lemmas.Bool.{or_parts}
use Rattle.affine_systems.specs.declared.row.System.{System}
use Rattle.f77_ast.specs.Trees.{ExprTrees}
use Rattle.f77_ast.specs.Store.{Content, Store}
use Rattle.f77_ast.specs.Runs.{Event, Answer, Gave, Broke, store_of}
use Rattle.f77_ast.specs.Places.{Variable, Place, Places}
use Rattle.f77_ast.specs.Writes.{Locks, no_locks}
use Rattle.f77_ast.specs.Plans.{Flow, Normal, Jump, Returned, Stopped, Plan, Ends, Within, ◌▹◌}
use Rattle.f77_ast.specs.Executions.{run_of, Claim}
use Rattle.f77_ast.specs.Calls.{Actual, Meaning, actuals, places_of, own_units, lock_own, after_call, call_plan}
use Rattle.f77_ast.specs.Statements.{spot}
use Rattle.f77_ast.specs.Programs.{Program, Conforms, body_of, called, no_module, meanings, program_plan}
use Rattle.f77_ast.specs.declared.variable.Variable.{Variable as Named}
use Rattle.f77_ast.specs.declared.results.At.{At}
use Rattle.call_graph.specs.declared.graph.Graph.{Graph}
use Rattle.f77_meaning.specs.Areas.{is_own_unit}
use Rattle.f77_meaning.specs.Claimed.{InConformingRuns}
use Rattle.f77_meaning.specs.Linked.{numbering, program_of}
use Rattle.f77_meaning.specs.Modules.{Known}
use Rattle.f77_meaning.specs.Occurrences.{Occurrence, after_answer, Throughout}
use Rattle.affine_forms.specs.Scalars.{is_cell}
use Rattle.affine_forms.specs.Claims.{unit_in, numbers_of}
use Rattle.preconditions.specs.call_translation.Sites.{HoldingSite}
use Rattle.preconditions.specs.transformers.Given.{Callees}
use Rattle.preconditions.specs.transformers.Modules.{transformers_of}
use Rattle.preconditions.specs.transformer_algebra.Laws.{In}
use Rattle.in_out_regions.specs.region_sets.declared.region.Access.TheVariants.{Write, Out}
use Rattle.in_out_regions.specs.region_sets.declared.region.Region.{Region}
use Rattle.in_out_regions.specs.region_sets.Claims.{LiesIn, LiesInSet}
use Rattle.in_out_regions.specs.call_equations.Sides.{changed_cells}
use Rattle.in_out_regions.specs.array_regions.Calls.{Callees as Summaries}
use Rattle.loop_marker.specs.out_regions.Lists.{writes}
use Rattle.call_graph.specs.CallsIn.{CallAt, Each, list_calls}
use Rattle.laws_analyses.specs.Statements.Good.{said}
use Rattle.laws_analyses.specs.Statements.Results.{pre_in}
use Rattle.laws_analyses.proofs.Calls.Enter.{Fits}
use Rattle.laws_analyses.specs.Calls.Parts.{Blocks, Part, places_in as dummy_places, scene_in, Sane}
use Rattle.laws_analyses.specs.Calls.ProgramLaws.{routines, Analysed, AnalysedParts, AnalysedProgram}
use Rattle.laws_analyses.specs.Calls.Sites.{Site, CoversFrom, Covers, lookup, Entered}
use Rattle.laws_analyses.specs.Regions.Settings.{scene, Sound, actuals_plain}
use Rattle.laws_analyses.specs.Regions.Entries.{IsLost}
use Rattle.laws_analyses.specs.Regions.Shown.{is_lost}
use Rattle.laws_analyses.specs.Regions.Programs.{regions_in_part, called_in, EachRegionHolds, Regular}
use Rattle.laws_analyses.proofs.Regions.Actuals.{AllOffer, actuals_hold}
use Rattle.laws_analyses.proofs.Regions.Bounds.{setting}
use Rattle.laws_analyses.proofs.Regions.CalledShown.{AtEntry, Bound, FineOk}
use Rattle.laws_analyses.proofs.Regions.Calling.{Known_of, OfferedHere, solid, apart, leads, entered_there}
use Rattle.laws_analyses.proofs.Regions.Free.{FreeOk, all_free}
use Rattle.laws_analyses.proofs.Regions.Looks.{IfGave}
use Rattle.laws_analyses.proofs.Regions.Programs as base
use Rattle.laws_analyses.proofs.Regions.Steady.{Steady}
use Rattle.laws_analyses.proofs.Regions.Storing.{holding_with}
use Rattle.laws_marks.specs.InFrames.{Frame, elements_in}
use Rattle.laws_marks.specs.InPrograms.{ins_called, ins_in_part, EachInHolds}
use Rattle.laws_marks.specs.InUnits.{UnitsFit}
use Rattle.laws_marks.proofs.InApart.{OffersLocked}
use Rattle.laws_marks.proofs.InCalledIn.{elements_seen, FirstOk, offers_there}
use Rattle.laws_marks.proofs.InFirsts.{written_right}
use Rattle.laws_marks.proofs.InPrograms as firsts
use Rattle.laws_marks.proofs.InRunning.{frame}
use Rattle.laws_marks.specs.OutPrograms.{outs_in_part, EachOutHolds, is_some_lost, OutPart}
use Rattle.laws_marks.specs.OutRests.{onward_by}
use Rattle.laws_marks.specs.OutShown.{LiesAs, IsHanded}
use Rattle.laws_marks.proofs.OutEntries.{HandedTo, main_hands, called_hands}
use Rattle.laws_marks.proofs.OutForgetting.{quiet_after}
use Rattle.laws_marks.proofs.OutHands.{Need, Hands, hands_ends, hands_then, hands_forget, hands_holding}
use Rattle.laws_marks.proofs.OutModules as handed
use Rattle.laws_marks.proofs.OutNeeds.{nothing_later}
use Rattle.laws_marks.proofs.OutStanding.{CallOut}
use Rattle.laws_marks.proofs.OutStrictParts.{MeaningStrict, AllKept, strict_meanings, strict_after_call}
use Rattle.in_out_regions.specs.region_sets.Lists.{set_at}

-- what ends a call has no executions
ended : (O : Occurrence → Type 0) (lost : ℕ → Bool) (us : List ℕ) (f : Flow) (y : Store) (N : Need) → Hands O lost (after_call us f) y N
ended O lost us Normal y N = hands_forget O lost us (Ends Normal) y N (λ v e. hands_ends O lost Normal v N)
ended O lost us (Jump l) y N = hands_ends O lost (Jump l) y N
ended O lost us Returned y N = hands_forget O lost us (Ends Normal) y N (λ v e. hands_ends O lost Normal v N)
ended O lost us Stopped y N = hands_ends O lost Stopped y N

-- nothing follows the end of a run
nothing_after : (a : Answer Flow) (z : Store) (i : List Content) → after_answer a z i (onward_by (λ f. Ends f)) ≡ []
nothing_after (Gave f) z i = refl
nothing_after (Broke b) z i = refl

module _ (ks : List Known) (g : Graph) (b : Blocks) (cs : Callees) (sites : List ℕ → List HoldingSite) (rs is : List ℕ → Summaries) (us : List ℕ → List Region) (of : List ℕ → Part) (may_name : Part → Named → Bool) (turns : ℕ) where
  abbrev O : Occurrence → Type 0
  O = EachOutHolds ks g cs rs is us of

  abbrev Lost : ℕ → Bool
  Lost = is_some_lost ks g

  abbrev C : Claim
  C = firsts.C ks g b cs sites rs is of may_name turns

  abbrev D : Claim
  D = firsts.D ks g b cs sites rs is of may_name turns

  abbrev seen_of : Part → List Region
  seen_of k = (regions_in_part g cs (rs k.routine.name) k).summary

  abbrev accesses_in : Part → List (At (List Region))
  accesses_in k = (regions_in_part g cs (rs k.routine.name) k).at

  abbrev firsts_in : Part → List (At (List Region))
  firsts_in k = (ins_in_part g cs (rs k.routine.name) (is k.routine.name) k).at

  abbrev outs_in : Part → List (At (List Region))
  outs_in k = (outs_in_part g cs (rs k.routine.name) (is k.routine.name) (us k.routine.name) k).at

  -- what the callers of a module use
  abbrev pub HandedSpec : Part → Meaning → Type 0
  HandedSpec k meaning = (ps : List Place) (locked : Locks) (z : Store) → Entered k ps locked → OffersLocked ks g k ps locked → Hands (EachOutHolds ks g cs rs is us of) (is_some_lost ks g) (meaning ps locked) z (HandedTo ks g b cs sites rs is us of may_name turns k ps z)

  abbrev pub HandedOk : Option Part → Meaning → Type 0
  HandedOk None meaning = meaning ≡ no_module
  HandedOk (Some k) meaning = HandedSpec k meaning

  -- ---- the CALLs of a module

  module _ (h : Part) (sane : Sane b h) (regular : Regular h) (own_below : (n i : ℕ) → h.below (h.routine.own_unit n i) ≡ true) (ready : firsts.IsReady ks g b cs sites rs is of may_name turns h) where
    abbrev caller_at : (List ℕ → Meaning) → List Place → Places → Frame
    caller_at callee psm at = frame ks g (called_in g cs (rs h.routine.name) h) b cs h sane regular turns callee psm (may_name h) ready.laid at

    -- a unit of a WRITE region of the module that is called, which lies, of each variable in whose WRITE region of the CALL it does, in an OUT region of the CALL,
    -- lies in what that module is told; of units of expressions, and of such as are lost, nothing is said
    abbrev pub HandsDownAt : List ℕ → ExprTrees → ℕ → Part → Type 0
    HandsDownAt x es n k =
        (callee : List ℕ → Meaning) (psm : List Place) (began : Store) (at : Places) (bound : Bound g b h sane psm began at) (sound : Sound (setting ks g (called_in g cs (rs h.routine.name) h) b cs h sane regular turns callee psm at)) (locked : Locks) (still : ℕ → Bool) (fits : Fits b h psm at locked still) → UnitsFit (caller_at callee psm at) locked → (z : Store) →
        Steady (setting ks g (called_in g cs (rs h.routine.name) h) b cs h sane regular turns callee psm at) (changed_cells (transformers_of h.routine.body h.scope cs).at) began z → (xs : List Actual) (s : Store) (atk : Places) →
        OfferedHere (said (EachRegionHolds ks g cs rs of)) ks g b cs sites (λ p. (regions_in_part g cs (rs p.routine.name) p).summary) (called_in g cs (rs h.routine.name) h) h sane regular turns callee psm at bound.made sound own_below x es n locked still fits z xs s → AtEntry g k (places_of xs) s atk →
        (u : ℕ) → is_own_unit (numbering ks g) u ≡ false → (IsLost ks g k.routine.name u → ⊥) → LiesInSet (scene_in b k (places_of xs) atk) (elements_seen ks g (may_name k) k.scope.symbols atk) Write (seen_of k) (numbers_of s) u →
        ((w : Region) → In w (writes (set_at (accesses_in h) n)) → w.kind ≡ Write → LiesIn (scene (caller_at callee psm at).base) (elements_in (caller_at callee psm at) w.variable) w (numbers_of z) u → LiesAs (caller_at callee psm at) w.variable (set_at (outs_in h) n) z u) →
        LiesInSet (scene_in b k (places_of xs) atk) (elements_seen ks g (may_name k) k.scope.symbols atk) Out (us k.routine.name) (numbers_of s) u

    abbrev pub HandsDownFrom : List ℕ → ExprTrees → ℕ → Option Part → Type 0
    HandsDownFrom x es n None = Unit {0}
    HandsDownFrom x es n (Some k) = HandsDownAt x es n k

    module _ (callee : List ℕ → Meaning) (psm : List Place) (began : Store) (at : Places) (bound : Bound g b h sane psm began at) (sound : Sound (setting ks g (called_in g cs (rs h.routine.name) h) b cs h sane regular turns callee psm at)) where
      abbrev caller : Frame
      caller = caller_at callee psm at

      module _ (x : List ℕ) (es : ExprTrees) (n : ℕ) (locked : Locks) (still : ℕ → Bool) (fits : Fits b h psm at locked still) (units : UnitsFit caller locked) (z : Store) (st : Steady caller.base (changed_cells (transformers_of h.routine.body h.scope cs).at) began z)
          (k : Part) (sane_k : Sane b k) (P : System) (site : Site b cs sites h k x es P) (same : x ≡ k.routine.name) (handed_on : HandedSpec k (callee x)) (down : HandsDownAt x es n k) where
        abbrev Offer : List Actual → Store → Type 0
        Offer xs s = OfferedHere (said (EachRegionHolds ks g cs rs of)) ks g b cs sites (λ p. (regions_in_part g cs (rs p.routine.name) p).summary) (called_in g cs (rs h.routine.name) h) h sane regular turns callee psm at bound.made sound own_below x es n locked still fits z xs s

        abbrev sol : (y : List ℕ) (v : ℕ) → h.routine.names y ≡ Variable v → h.scalar y ≡ true → 0 < (at v).extent
        sol = solid (said (EachRegionHolds ks g cs rs of)) ks g b cs sites (λ p. (regions_in_part g cs (rs p.routine.name) p).summary) (called_in g cs (rs h.routine.name) h) h sane regular turns callee psm at bound.made sound own_below x es n locked still fits z

        abbrev apt : (i c : ℕ) → is_cell h.scope.tracked c ≡ true → h.routine.own_unit n i ≡ unit_in at c → ⊥
        apt = apart (said (EachRegionHolds ks g cs rs of)) ks g b cs sites (λ p. (regions_in_part g cs (rs p.routine.name) p).summary) (called_in g cs (rs h.routine.name) h) h sane regular turns callee psm at bound.made sound own_below x es n locked still fits z

        abbrev Known_here : List Actual → Store → Type 0
        Known_here xs s = Known_of (said (EachRegionHolds ks g cs rs of)) ks g b cs sites (λ p. (regions_in_part g cs (rs p.routine.name) p).summary) (called_in g cs (rs h.routine.name) h) h sane regular turns callee psm at bound.made sound own_below x es n locked still fits z xs s

        abbrev N : Need
        N ts later = IsHanded caller (writes (set_at (accesses_in h) n)) (set_at (outs_in h) n) z ts later

        module _ (xs : List Actual) (s : Store) (o : Offer xs s) (es1 : List Event) where
          -- what is needed of the call is needed of what it calls
          handed_there : (fs later : List Event) → N (es1 ++ fs) later → HandedTo ks g b cs sites rs is us of may_name turns k (places_of xs) s fs later
          handed_there fs later q atk entry u n' hid kept wl =
              down callee psm began at bound sound locked still fits units z st xs s atk o entry u (or_parts (is_own_unit (numbering ks g) u) (is_lost ks g fs u) hid).0 kept wl
              (λ w i e l. q u (record { written = written_right u es1 fs n'.written; read = n'.read }) w i e l)

          after_quiet : (f : Flow) (y : Store) (fs : List Event) (j : List Content) (later : List Event) → N (es1 ++ (fs ++ (run_of (after_call (own_units xs) f) y j).trace)) later → HandedTo ks g b cs sites rs is us of may_name turns k (places_of xs) s fs ((run_of (after_call (own_units xs) f) y j).trace ++ later)
          after_quiet f y fs j later q =
              let e = quiet_after (own_units xs) f y j in
              subst (λ ts. HandedTo ks g b cs sites rs is us of may_name turns k (places_of xs) s fs (ts ++ later)) (sym e)
              (handed_there fs later (subst (λ ts. N (es1 ++ ts) later) (ap (λ ts. fs ++ ts) e ∙ append-nil fs) q))

          there_hands : Hands O Lost (callee x (places_of xs) (lock_own locked (own_units xs)) ▹ after_call (own_units xs)) s (λ fs later. N (es1 ++ fs) later)
          there_hands =
              hands_then O Lost (callee x (places_of xs) (lock_own locked (own_units xs))) (after_call (own_units xs)) s (λ a y fs. Unit {0}) (λ fs later. N (es1 ++ fs) later) (HandedTo ks g b cs sites rs is us of may_name turns k (places_of xs) s) (strict_after_call Lost (own_units xs)) refl (λ i. tt)
              (handed_on (places_of xs) (lock_own locked (own_units xs)) s
              (entered_there (said (EachRegionHolds ks g cs rs of)) ks g b cs sites (λ p. (regions_in_part g cs (rs p.routine.name) p).summary) (called_in g cs (rs h.routine.name) h) h sane regular turns callee psm at bound.made sound own_below x es n locked still fits z k sane_k P site same xs s o.known)
              (offers_there C D ks g b cs sites (λ p. (regions_in_part g cs (rs p.routine.name) p).summary) (λ p. (ins_in_part g cs (rs p.routine.name) (is p.routine.name) p).summary) (called_in g cs (rs h.routine.name) h) h sane regular turns callee psm at bound.made sound own_below may_name ready.laid x es n locked still fits z units k xs s o))
              (λ fs atk e u n'. absurd (nothing_later fs u n'))
              (λ f y fs p j later il q. after_quiet f y fs j later q)
              (λ f y fs p. ended O Lost (own_units xs) f y (λ gs later. N (es1 ++ (fs ++ gs)) later))

        some_hands : actuals_plain h.scalar es ≡ true → Hands O Lost (call_plan (actuals es 0 h.routine.names at (h.routine.own_unit n)) (callee x) locked) z N
        some_hands plain =
            hands_holding O Lost (actuals es 0 h.routine.names at (h.routine.own_unit n)) (λ xs. callee x (places_of xs) (lock_own locked (own_units xs)) ▹ after_call (own_units xs)) z
            (λ a w fs. AllOffer caller.base sound sol (h.routine.own_unit n) apt z es 0 a w fs × IfGave a (λ xs. Known_here xs w)) N
            (holding_with (actuals es 0 h.routine.names at (h.routine.own_unit n)) z [] (AllOffer caller.base sound sol (h.routine.own_unit n) apt z es 0) (λ xs s j. Known_here xs s) (actuals_hold caller.base sound sol (h.routine.own_unit n) apt z es 0 z (λ c t. refl) plain)
            (leads (said (EachRegionHolds ks g cs rs of)) ks g b cs sites (λ p. (regions_in_part g cs (rs p.routine.name) p).summary) (called_in g cs (rs h.routine.name) h) h sane regular turns callee psm at bound.made sound own_below x es n locked still fits z k sane_k P site same []))
            (λ xs w fs p. there_hands xs w (record { each = p.0.2; same = p.0.0; known = p.1 }) fs)

      module _ (below : List Part) (free : (x : List ℕ) → FreeOk b cs (lookup below x) (callee x)) (handed_on : (x : List ℕ) → HandedOk (lookup below x) (callee x)) where
        abbrev Out_at : CallAt → Type 0
        Out_at c = CallOut C D O Lost caller (Fits b h psm at) (Steady caller.base (changed_cells (transformers_of h.routine.body h.scope cs).at) began) (accesses_in h) (firsts_in h) (outs_in h) (ins_called g cs (is h.routine.name) h) c

        call_out_on : (c : CallAt) (P : System) → CoversFrom b cs sites h c.callee c.actuals P (lookup below c.callee) → firsts.SendsFirstFrom ks g b cs sites rs is of may_name turns h sane regular own_below ready c.callee c.actuals (lookup below c.callee) → HandsDownFrom c.callee c.actuals c.number (lookup below c.callee) → Out_at c
        call_out_on c P cov snd dn plain locked still fits units vs found z st = go (lookup below c.callee) refl (free c.callee) (handed_on c.callee) cov snd dn
          where
            go : (o : Option Part) → lookup below c.callee ≡ o → FreeOk b cs o (callee c.callee) → HandedOk o (callee c.callee) → CoversFrom b cs sites h c.callee c.actuals P o → firsts.SendsFirstFrom ks g b cs sites rs is of may_name turns h sane regular own_below ready c.callee c.actuals o → HandsDownFrom c.callee c.actuals c.number o →
                Hands O Lost (call_plan (actuals c.actuals 0 h.routine.names at (h.routine.own_unit c.number)) (callee c.callee) locked) z (λ ts later. IsHanded caller (writes (set_at (accesses_in h) c.number)) (set_at (outs_in h) c.number) z ts later)
            go None q fr ho cv sn d = absurd sn
            go (Some k) q fr ho cv sn d = some_hands c.callee c.actuals c.number locked still fits units z st k fr.0 P cv (base.lookup_named ks g b cs sites rs of turns below c.callee k q) ho d plain

        pub all_calls_out : (cl : List CallAt) → Each (λ (c : CallAt). Covers b cs sites below h c.callee c.actuals (pre_in h.routine.body h.scope cs h.entry c.number)) cl → Each (λ (c : CallAt). firsts.SendsFirstFrom ks g b cs sites rs is of may_name turns h sane regular own_below ready c.callee c.actuals (lookup below c.callee)) cl → Each (λ (c : CallAt). HandsDownFrom c.callee c.actuals c.number (lookup below c.callee)) cl →
            Each Out_at cl
        all_calls_out [] cov snd dn = tt
        all_calls_out (c ∷ cl) cov snd dn = (call_out_on c (pre_in h.routine.body h.scope cs h.entry c.number) cov.0 snd.0 dn.0, all_calls_out cl cov.1 snd.1 dn.1)

  -- ---- all modules

  -- what the claims of a module ask
  pub record PartOut (below : List Part) (k : Part) (sane : Sane b k) (first : firsts.PartFirst ks g b cs sites rs is of may_name turns below k sane) : Type 0 where
    pub part : OutPart ks g k
    pub downs : Each (λ (c : CallAt). HandsDownFrom k sane first.goes.regular first.goes.joins.own_below first.ready c.callee c.actuals c.number (lookup below c.callee)) (list_calls k.routine.body)

  abbrev pub PartsOut : (parts : List Part) (pl : AnalysedParts b cs sites of parts) → firsts.PartsFirst ks g b cs sites rs is of may_name turns parts pl → Type 0
  PartsOut [] pl re = Unit {0}
  PartsOut (k ∷ parts) pl re = PartOut parts k pl.0 re.0 × PartsOut parts pl.3 re.1

  all_kept : (parts : List Part) (pl : AnalysedParts b cs sites of parts) (re : firsts.PartsFirst ks g b cs sites rs is of may_name turns parts pl) → PartsOut parts pl re → AllKept Lost (routines parts)
  all_kept [] pl re ro = tt
  all_kept (k ∷ parts) pl re ro = (ro.0.part.tagged, ro.0.part.kept, all_kept parts pl.3 re.1 ro.1)

  module _ (k : Part) (sane : Sane b k) (below : List Part) (analysed : Analysed b cs sites below k) (named : of k.routine.name ≡ k) (first : firsts.PartFirst ks g b cs sites rs is of may_name turns below k sane) (out : PartOut below k sane first) (callee : List ℕ → Meaning) (free : (x : List ℕ) → FreeOk b cs (lookup below x) (callee x))
      (fine : (x : List ℕ) → FineOk ks g b (λ p. (regions_in_part g cs (rs p.routine.name) p).summary) (said (EachRegionHolds ks g cs rs of)) (lookup below x) (callee x)) (fine_in : (x : List ℕ) → FirstOk ks g b (λ p. (ins_in_part g cs (rs p.routine.name) (is p.routine.name) p).summary) may_name (said (EachInHolds ks g cs rs is of)) (lookup below x) (callee x))
      (handed_on : (x : List ℕ) → HandedOk (lookup below x) (callee x)) (strict : (x : List ℕ) → MeaningStrict (is_some_lost ks g) (callee x)) (ps : List Place) where
    abbrev Go_calls : Type 0
    Go_calls = (began : Store) (at : Places) (bound : Bound g b k sane ps began at) → base.CallsGo ks g b cs sites rs of turns k sane first.goes.regular first.goes.enters first.goes.joins below analysed named callee free ps began at bound

    go_calls : Go_calls
    go_calls began at bound = firsts.calls_go_so ks g b cs sites rs is of may_name turns k sane below analysed named first callee free fine fine_in ps began at bound

    go_first : (began : Store) (at : Places) (bound : Bound g b k sane ps began at) → firsts.CallsFirst ks g b cs sites rs is of may_name turns k sane first.goes.regular first.goes.enters first.goes.joins first.ready below analysed named callee free ps began at bound (go_calls began at bound)
    go_first began at bound = firsts.calls_first_so ks g b cs sites rs is of may_name turns k sane below analysed named first callee free fine fine_in ps began at bound

    fit_calls : (began : Store) (at : Places) (bound : Bound g b k sane ps began at) → firsts.CallsFit ks g b cs sites rs is of may_name turns k sane first.goes.regular first.goes.enters first.goes.joins first.ready below analysed named callee free ps began at bound (go_calls began at bound)
    fit_calls began at bound = firsts.calls_fit_so ks g b cs sites rs is of may_name turns k sane below analysed named first callee free fine fine_in ps began at bound

    go_out : (began : Store) (at : Places) (bound : Bound g b k sane ps began at) → handed.CallsOut ks g b cs sites rs is us of may_name turns k sane first.goes.regular first.goes.enters first.goes.joins first.ready below analysed named callee free ps out.part strict began at bound (go_calls began at bound)
    go_out began at bound =
        all_calls_out k sane first.goes.regular first.goes.joins.own_below first.ready callee ps began at bound
        (firsts.is_sound ks g b cs sites rs is of may_name turns k sane first.goes.regular first.goes.enters first.goes.joins first.ready below analysed named callee free ps began at bound (go_calls began at bound))
        below free handed_on (list_calls k.routine.body) analysed.calls first.sends out.downs

    part_called : (locked : Locks) → Entered k ps locked → OffersLocked ks g k ps locked → (z : Store) → Hands O Lost (called k.routine turns callee ps locked) z (HandedTo ks g b cs sites rs is us of may_name turns k ps z)
    part_called locked ent offers z =
        called_hands ks g b cs sites rs is us of may_name turns k sane first.goes.regular first.goes.enters first.goes.joins first.ready below analysed named callee free ps out.part strict go_calls go_first fit_calls go_out locked ent offers z

    part_main : (locked : Locks) → Entered k ps locked → OffersLocked ks g k ps locked → (z : Store) → Hands O Lost (Within (spot k.routine.name 0) (dummy_places k ps) (body_of k.routine turns callee ps (dummy_places k ps) locked) (λ f. Ends f)) z (λ es later. later ≡ [])
    part_main locked ent offers z =
        main_hands ks g b cs sites rs is us of may_name turns k sane first.goes.regular first.goes.enters first.goes.joins first.ready below analysed named callee free ps out.part strict go_calls go_first fit_calls go_out locked ent offers z

  all_handed : (parts : List Part) (pl : AnalysedParts b cs sites of parts) (re : firsts.PartsFirst ks g b cs sites rs is of may_name turns parts pl) → PartsOut parts pl re → (x : List ℕ) → HandedOk (lookup parts x) (meanings (routines parts) turns x)
  all_handed [] pl re ro x = refl
  all_handed (k ∷ parts) pl re ro x = go (bytes_eq x k.routine.name) (all_handed parts pl.3 re.1 ro.1 x) (λ y. all_handed parts pl.3 re.1 ro.1 y)
    where
      go : (c : Bool) → HandedOk (lookup parts x) (meanings (routines parts) turns x) → ((y : List ℕ) → HandedOk (lookup parts y) (meanings (routines parts) turns y)) →
          HandedOk (if c then Some k else lookup parts x) (if c then called k.routine turns (meanings (routines parts) turns) else meanings (routines parts) turns x)
      go true h f = λ ps locked z ent offers.
          part_called k pl.0 parts pl.1 pl.2 re.0 ro.0 (meanings (routines parts) turns) (λ y. all_free b cs sites of turns parts pl.3 y)
          (λ y. base.all_fine ks g b cs sites rs of turns parts pl.3 (firsts.parts_go ks g b cs sites rs is of may_name turns parts pl.3 re.1) y) (λ y. firsts.all_first ks g b cs sites rs is of may_name turns parts pl.3 re.1 y) f (λ y. strict_meanings Lost (routines parts) turns (all_kept parts pl.3 re.1 ro.1) y) ps locked ent offers z
      go false h f = h

  -- ---- the main program

  module _ (main : Part) (parts : List Part) (z : Store) (pl : AnalysedProgram b cs sites of main parts z) (rm : firsts.PartFirst ks g b cs sites rs is of may_name turns parts main pl.sane) (re : firsts.PartsFirst ks g b cs sites rs is of may_name turns parts pl.parts_analysed) (om : PartOut parts main pl.sane rm) (oe : PartsOut parts pl.parts_analysed re) where
    abbrev Main_plan : Places → Plan
    Main_plan at = Within (spot main.routine.name 0) at (body_of main.routine turns (meanings (routines parts) turns) [] at no_locks) (λ f. Ends f)

    main_handed : Hands O Lost (Main_plan (dummy_places main [])) z (λ es later. later ≡ [])
    main_handed =
        part_main main pl.sane parts pl.analysed pl.named rm om (meanings (routines parts) turns) (λ y. all_free b cs sites of turns parts pl.parts_analysed y)
        (λ y. base.all_fine ks g b cs sites rs of turns parts pl.parts_analysed (firsts.parts_go ks g b cs sites rs is of may_name turns parts pl.parts_analysed re) y) (λ y. firsts.all_first ks g b cs sites rs is of may_name turns parts pl.parts_analysed re y)
        (λ y. all_handed parts pl.parts_analysed re oe y) (λ y. strict_meanings Lost (routines parts) turns (all_kept parts pl.parts_analysed re oe) y) [] no_locks
        (firsts.begins ks g b cs sites rs is of may_name turns main parts z pl rm re) (λ u h o l. firsts.none_bound ks g b cs sites rs is of may_name turns main parts z pl rm re u h) z

    main_fixed : Hands O Lost (Main_plan main.routine.fixed) z (λ es later. later ≡ [])
    main_fixed = subst (λ (at : Places). Hands O Lost (Main_plan at) z (λ es later. later ≡ [])) (firsts.fixed_places ks g b cs sites rs is of may_name turns main parts z pl rm re) main_handed

    pub program_outs : (input : List Content) → Conforms (run_of (program_plan (record { main = main.routine; others = routines parts; initial = z }) turns) z input).answer → Throughout (EachOutHolds ks g cs rs is us of) (program_plan (record { main = main.routine; others = routines parts; initial = z }) turns) z input (λ f s i. [])
    program_outs input cf =
        let q = run_of (Main_plan main.routine.fixed) z input in
        main_fixed input (λ f. Ends f) (record { strict = λ f. tt; stopped = refl }) cf (nothing_after q.answer (store_of q.memory) q.input)

-- what is asked of the modules of a program
pub record AllOut (ks : List Known) (g : Graph) (b : Blocks) (cs : Callees) (sites : List ℕ → List HoldingSite) (rs is : List ℕ → Summaries) (us : List ℕ → List Region) (of : List ℕ → Part) (may_name : Part → Named → Bool) (main : Part) (parts : List Part) (z : Store) (pl : AnalysedProgram b cs sites of main parts z) (turns : ℕ) : Type 0 where
  pub main_first : firsts.PartFirst ks g b cs sites rs is of may_name turns parts main pl.sane
  pub first : firsts.PartsFirst ks g b cs sites rs is of may_name turns parts pl.parts_analysed
  pub main_out : PartOut ks g b cs sites rs is us of may_name turns parts main pl.sane main_first
  pub out : PartsOut ks g b cs sites rs is us of may_name turns parts pl.parts_analysed first

-- where regions are carried to callers, and handed down to callees, OUT regions hold in every run that no fault ends: each visible unit that an execution
-- writes, and that the rest of the run reads before it writes it, lies in them
pub handed_outs_hold : (b : Blocks) (cs : Callees) (sites : List ℕ → List HoldingSite) (of : List ℕ → Part) (may_name : Part → Named → Bool) (main : Part) (parts : List Part) (z : Store) (pl : AnalysedProgram b cs sites of main parts z) (ks : List Known) (g : Graph) (rs is : List ℕ → Summaries) (us : List ℕ → List Region) →
    ((turns : ℕ) → AllOut ks g b cs sites rs is us of may_name main parts z pl turns) → program_of ks g ≡ record { main = main.routine; others = routines parts; initial = z } → InConformingRuns ks g (EachOutHolds ks g cs rs is us of)
handed_outs_hold b cs sites of may_name main parts z pl ks g rs is us go e turns input =
    subst (λ (p : Program). Conforms (run_of (program_plan p turns) p.initial input).answer → Throughout (EachOutHolds ks g cs rs is us of) (program_plan p turns) p.initial input (λ f s i. [])) (sym e)
    (program_outs ks g b cs sites rs is us of may_name turns main parts z pl (go turns).main_first (go turns).first (go turns).main_out (go turns).out input)
