-- A module that is entered: what is needed of it later, handed down to its statements.
use Rattle.std.proofs.Common.{◌≡◌, ℕ, zero, suc, ◌<◌, List, [], ◌∷◌, ◌||◌, Some, Bool, true, false, sym, ap, ◌∙◌, subst, arith, true≢false}
use Rattle.std.specs.Prelude.{MatchOption}
use Rattle.f77_ast.specs.Store.{Content, Store}
use Rattle.f77_ast.specs.Steps.{Steps, Break}
use Rattle.f77_ast.specs.Steps as steps
use Rattle.f77_ast.specs.Runs.{Event, Read, Ran, Answer, Gave, Broke, store_of}
use Rattle.f77_ast.specs.Places.{Place, Places}
use Rattle.f77_ast.specs.Writes.{Locks}
use Rattle.f77_ast.specs.Plans.{Flow, Normal, Jump, Returned, Stopped, Plan}
use Rattle.f77_ast.specs.Executions.{run_of, AtEnd, Claim}
use Rattle.f77_ast.specs.Calls.{Meaning, lock_doubly}
use Rattle.f77_ast.specs.Statements.{spot, body_plan}
use Rattle.f77_ast.specs.Programs.{scope}
use Rattle.f77_ast.specs.declared.variable.Variable.{Variable as Named}
use Rattle.f77_ast.specs.declared.results.At.{At}
use Rattle.call_graph.specs.declared.graph.Graph.{Graph}
use Rattle.f77_meaning.specs.Modules.{Known}
use Rattle.f77_meaning.specs.Occurrences.{Occurrence}
use Rattle.preconditions.specs.call_translation.Sites.{HoldingSite}
use Rattle.preconditions.specs.transformers.Given.{Callees}
use Rattle.affine_forms.specs.Conditions.{no_rows}
use Rattle.preconditions.specs.transformer_algebra.declared.transformer.Transformer.{Transformer}
use Rattle.preconditions.specs.transformers.Jumps.{list_has}
use Rattle.preconditions.specs.transformers.Lists.{value_at}
use Rattle.preconditions.specs.transformers.Modules.{transformers_of}
use Rattle.in_out_regions.specs.region_sets.declared.region.Region.{Region}
use Rattle.in_out_regions.specs.region_sets.Lists.{or_none, accesses_at, list_regions}
use Rattle.in_out_regions.specs.call_equations.Sides.{changed_cells}
use Rattle.in_out_regions.specs.array_regions.Calls.{Called, Callees as Summaries}
use Rattle.in_out_regions.specs.Known.{KnownTree}
use Rattle.in_out_regions.specs.Statement as ins
use Rattle.loop_marker.specs.out_regions.Known as outs
use Rattle.loop_marker.specs.out_regions.Statement.{body_out, at_list}
use Rattle.call_graph.specs.CallsIn.{Each, list_calls}
use Rattle.laws_analyses.specs.Statements.Activation.{Ended}
use Rattle.laws_analyses.specs.Statements.Leads.{list_leads}
use Rattle.laws_analyses.proofs.Statements.MainResults.{each_found_at}
use Rattle.laws_analyses.proofs.Statements.NumberLaws.{own_numbers}
use Rattle.laws_analyses.proofs.Calls.Enter.{Fits, begin_fits, more_fits}
use Rattle.laws_analyses.specs.Calls.Parts.{Blocks, Part, still_in, Sane}
use Rattle.laws_analyses.specs.Calls.ProgramLaws.{Analysed}
use Rattle.laws_analyses.specs.Calls.Sites.{lookup, Entered}
use Rattle.laws_analyses.specs.Regions.Settings.{scene}
use Rattle.laws_analyses.specs.Regions.Shown.{Holds}
use Rattle.laws_analyses.specs.Regions.Programs.{regions_in_part, called_in, Regular, Joins}
use Rattle.laws_analyses.specs.Regions.Entries.{Enters}
use Rattle.laws_analyses.proofs.Regions.Looks.{Looked, IfGave}
use Rattle.laws_analyses.proofs.Regions.Steady.{steady_begin}
use Rattle.laws_analyses.proofs.Regions.Free.{FreeOk}
use Rattle.laws_analyses.proofs.Regions.CalledShown.{Bound}
use Rattle.laws_analyses.proofs.Regions.Moving.{list_moves}
use Rattle.laws_analyses.proofs.Regions.Statements.{body_goes}
use Rattle.laws_analyses.proofs.Regions.Programs as base
use Rattle.laws_marks.specs.InFrames.{Frame}
use Rattle.laws_marks.specs.InPrograms.{ins_called, ins_in_part}
use Rattle.laws_marks.specs.InShown.{IsFree}
use Rattle.laws_marks.specs.InUnits.{UnitsFit}
use Rattle.laws_marks.proofs.InApart.{OffersLocked, units_fit}
use Rattle.laws_marks.proofs.InPrograms as firsts
use Rattle.laws_marks.proofs.InStanding.{i_list}
use Rattle.laws_marks.proofs.InStatements.{calls_end}
use Rattle.laws_marks.specs.OutClaims.{OutRegionsHold, OutSetHolds}
use Rattle.laws_marks.specs.OutPrograms.{known_in_part, outs_in_part, EachOutHolds, is_some_lost, OutPart}
use Rattle.laws_interleavings.specs.Typed.{TagsStand}
use Rattle.laws_marks.specs.OutShown.{NeedsLie, OutShown}
use Rattle.laws_marks.proofs.OutClaimed.{shown_holds}
use Rattle.laws_marks.proofs.OutHands.{Hands, hands_knowing}
use Rattle.laws_marks.proofs.OutNumbers.{o_list}
use Rattle.laws_marks.proofs.OutStanding.{FoundI, OwesOut, CallOut}
use Rattle.laws_marks.proofs.OutStatements.{body_hands, used_needs}
use Rattle.laws_marks.proofs.OutStrictParts.{MeaningStrict}
use Rattle.laws_marks.proofs.OutWriteSets.{rest_narrow, list_fits}
use Rattle.fx_lists.proofs.Numbers.{nat_eq_same}
use Rattle.laws_interleavings.proofs.Plans.Fine.{Yields}
use Rattle.f77_ast.specs.Shapes.{is_return}

-- with what is known of what it gives
pub looked_yields : {A : Type 0} (t : Steps A) (s : Store) (Q : Answer A → List Event → Type 0) (P : A → Type 0) → Looked t s Q → Yields P t → Looked t s (λ a es. Q a es × IfGave a P)
looked_yields (steps.Done a) s Q P h y = (h, y)
looked_yields (steps.Breaks b) s Q P h y = (h, tt)
looked_yields (steps.Look u k) s Q P h y = looked_yields (k (s u)) s (λ a es. Q a (Read u (s u) ∷ es)) P h (y (s u))
looked_yields (steps.Set u c t) s Q P h y = absurd h
looked_yields (steps.Hold u c t) s Q P h y = absurd h
looked_yields (steps.Forget u t) s Q P h y = absurd h
looked_yields (steps.Show xs t) s Q P h y = absurd h
looked_yields (steps.Take k) s Q P h y = absurd h
looked_yields (steps.Arrive p t) s Q P h y = absurd h

module _ (ks : List Known) (g : Graph) (b : Blocks) (cs : Callees) (sites : List ℕ → List HoldingSite) (rs is : List ℕ → Summaries) (us : List ℕ → List Region) (of : List ℕ → Part) (may_name : Part → Named → Bool) (turns : ℕ) where
  -- the claims of OUT, of READ and WRITE, and of IN
  abbrev pub O : Occurrence → Type 0
  O = EachOutHolds ks g cs rs is us of

  abbrev C : Claim
  C = firsts.C ks g b cs sites rs is of may_name turns

  abbrev D : Claim
  D = firsts.D ks g b cs sites rs is of may_name turns

  abbrev pub Lost : ℕ → Bool
  Lost = is_some_lost ks g

  module _ (k : Part) (sane : Sane b k) (regular : Regular k) (enters : Enters ks g k) (joins : Joins ks g k) (ready : firsts.IsReady ks g b cs sites rs is of may_name turns k) (below : List Part) (analysed : Analysed b cs sites below k) (named : of k.routine.name ≡ k) (callee : List ℕ → Meaning) (free : (x : List ℕ) → FreeOk b cs (lookup below x) (callee x)) (ps : List Place) (out_part : OutPart ks g k) (callee_strict : (x : List ℕ) → MeaningStrict (is_some_lost ks g) (callee x)) where
    abbrev T : KnownTree
    T = record { scope = k.scope; does = k.found.transformer; accesses = (regions_in_part g cs (rs k.routine.name) k).at; called = ins_called g cs (is k.routine.name) k }

    abbrev U : outs.KnownTree
    U = known_in_part g cs (rs k.routine.name) (is k.routine.name) k

    abbrev acc : List (At (List Region))
    acc = (regions_in_part g cs (rs k.routine.name) k).at

    abbrev isets : List (At (List Region))
    isets = (ins_in_part g cs (rs k.routine.name) (is k.routine.name) k).at

    -- what may be read behind the body, and OUT of it
    abbrev Us : List Region
    Us = us k.routine.name

    abbrev pub OutOf : List Region
    OutOf = body_out (known_in_part g cs (rs k.routine.name) (is k.routine.name) k) true k.routine.body (us k.routine.name)

    abbrev osets : List (At (List Region))
    osets = (outs_in_part g cs (rs k.routine.name) (is k.routine.name) (us k.routine.name) k).at

    abbrev calls : Called
    calls = ins_called g cs (is k.routine.name) k

    module _ (began : Store) (at : Places) (bound : Bound g b k sane ps began at) (calls_go : base.CallsGo ks g b cs sites rs of turns k sane regular enters joins below analysed named callee free ps began at bound) where
      abbrev pub Started : Frame
      Started = firsts.started ks g b cs sites rs is of may_name turns k sane regular enters joins ready below analysed named callee free ps began at bound calls_go

      abbrev I : Store → Type 0
      I = firsts.I ks g b cs sites rs is of may_name turns k sane regular enters joins ready below analysed named callee free ps began at bound calls_go

      -- what its CALLs hand down
      abbrev pub CallsOut : Type 0
      CallsOut = Each (CallOut C D O Lost Started (Fits b k ps at) I acc isets osets calls) (list_calls k.routine.body)

      -- each execution is claimed
      claimed : (j : ℕ) (set : List Region) → value_at osets (suc j) ≡ Some set → (s : Store) (q : Ran Flow) (later : List Event) → OutShown Started set s q.trace later → O (record { spot = spot k.routine.name (suc j); places = at; start = s; ran = q; later = later })
      claimed j set v s q later h =
          subst (λ (p : Part). OutRegionsHold ks g p.scope (outs_in_part g cs (rs p.routine.name) (is p.routine.name) (us p.routine.name) p) (record { spot = spot k.routine.name (suc j); places = at; start = s; ran = q; later = later })) (sym named)
          (subst (λ o. MatchOption o ⊥ (λ rs. OutSetHolds ks g k.scope rs (record { spot = spot k.routine.name (suc j); places = at; start = s; ran = q; later = later }))) (sym v) (shown_holds Started (spot k.routine.name (suc j)) s q later set h))

      owes_each : Each (OwesOut C D O Lost Started (Fits b k ps at) I acc isets osets calls) (at_list true k.routine.body U OutOf)
      owes_each =
          each_found_at (OwesOut C D O Lost Started (Fits b k ps at) I acc isets osets calls) (at_list true k.routine.body U OutOf) (own_numbers (at_list true k.routine.body U OutOf) k.routine.body (o_list U true k.routine.body OutOf) analysed.numbered)
          (λ a n v. record { found = ap or_none v; owes = one a.id a.value n v })
        where
          one : (i : ℕ) (set : List Region) → 0 < i → value_at osets i ≡ Some set → (s : Store) (q : Ran Flow) (later : List Event) → OutShown Started set s q.trace later → O (record { spot = spot k.routine.name i; places = at; start = s; ran = q; later = later })
          one zero set l v = absurd (omega (arith, l))
          one (suc j) set l v = claimed j set v

      found_ins : Each (FoundI C D O Lost Started (Fits b k ps at) I acc isets osets calls) (ins.at_list k.routine.body T)
      found_ins =
          each_found_at (FoundI C D O Lost Started (Fits b k ps at) I acc isets osets calls) (ins.at_list k.routine.body T) (own_numbers (ins.at_list k.routine.body T) k.routine.body (i_list T k.routine.body) analysed.numbered) (λ a n v. ap or_none v)

      module _ (calls_first : firsts.CallsFirst ks g b cs sites rs is of may_name turns k sane regular enters joins ready below analysed named callee free ps began at bound calls_go) (calls_fit : firsts.CallsFit ks g b cs sites rs is of may_name turns k sane regular enters joins ready below analysed named callee free ps began at bound calls_go) (calls_out : CallsOut) (ok : TagsStand k.routine.names at) (locked : Locks) (ent : Entered k ps locked) (offers : OffersLocked ks g k ps locked) where
        abbrev inner : Locks
        inner = lock_doubly locked k.routine.dummies at k.routine.common

        abbrev Body : Plan
        Body = body_plan k.routine.body (scope k.routine turns callee) at (lock_doubly locked k.routine.dummies at k.routine.common)

        pub units : UnitsFit Started (lock_doubly locked k.routine.dummies at k.routine.common)
        units = units_fit ks g b k sane regular joins (may_name k) ready.laid ps locked ent offers at bound.made began bound (called_in g cs (rs k.routine.name) k) cs turns callee
            (firsts.is_sound ks g b cs sites rs is of may_name turns k sane regular enters joins ready below analysed named callee free ps began at bound calls_go)

        fits : Fits b k ps at (lock_doubly locked k.routine.dummies at k.routine.common) (still_in k ps locked)
        fits = begin_fits b k sane ps locked ent at bound.made

        begun : I began
        begun = steady_begin Started.base (changed_cells (transformers_of k.routine.body k.scope cs).at) began

        -- what the body shows
        pub record BodyShows (es : List Event) : Type 0 where
          pub holds : Holds Started.base (list_regions k.found.transformer (accesses_at acc) true k.routine.body) began es
          pub free_so : IsFree Started (lock_doubly locked k.routine.dummies at k.routine.common) es

        pub body_shows : (i : List Content) → BodyShows (run_of Body began i).trace
        body_shows i = record {
          holds = (body_goes Started.base (firsts.is_sound ks g b cs sites rs is of may_name turns k sane regular enters joins ready below analysed named callee free ps began at bound calls_go) C (Fits b k ps at) (λ l st f. f.base) (λ l st x v n sx f. more_fits b k ps at l st x v n sx f) I k.routine.body true inner (still_in k ps locked) fits
              (base.stands ks g b cs sites rs of turns k sane regular enters joins below analysed named callee free ps began at bound calls_go) began begun i).ending.holds;
          free_so = (firsts.statements_go ks g b cs sites rs is of may_name turns k sane regular enters joins ready below analysed named callee free ps began at bound calls_go calls_first calls_fit locked ent offers i).ending.free;
        }

        -- OUT of the body is handed down
        pub body_handed : Hands O Lost Body began (NeedsLie Started OutOf began)
        body_handed =
            body_hands Started (firsts.is_sound ks g b cs sites rs is of may_name turns k sane regular enters joins ready below analysed named callee free ps began at bound calls_go) C D O Lost (Fits b k ps at) (λ l st f. f.base) (λ l st x v n sx f. more_fits b k ps at l st x v n sx f) I acc isets osets calls
            (firsts.sets ks g b cs sites rs is of may_name turns k sane regular enters joins ready below analysed named callee free ps began at bound calls_go calls_first calls_fit)
            (rest_narrow Started ready.done k.routine.body calls_fit) out_part.kept callee_strict ok k.routine.body true inner (still_in k ps locked) fits units
            (firsts.stands ks g b cs sites rs is of may_name turns k sane regular enters joins ready below analysed named callee free ps began at bound calls_go calls_first calls_fit)
            (record { found = found_ins; calls = calls_out }) out_part.outward out_part.parts_outward OutOf owes_each began begun

        -- a GO TO leads to a label of the module
        pub no_jump : (i : List Content) (l : ℕ) → (run_of Body began i).answer ≡ Gave (Jump l) → ⊥
        no_jump i l e =
            let st = firsts.stands ks g b cs sites rs is of may_name turns k sane regular enters joins ready below analysed named callee free ps began at bound calls_go calls_first calls_fit in
            let sound = firsts.is_sound ks g b cs sites rs is of may_name turns k sane regular enters joins ready below analysed named callee free ps began at bound calls_go in
            let q = run_of Body began i in
            let d =
            list_moves Started.base sound (Fits b k ps at) (λ m still f. f.base) (λ m still x v n sx f. more_fits b k ps at m still x v n sx f) k.routine.body true inner (still_in k ps locked) fits st.base.numbers st.base.found st.base.targets
            (calls_end Started sound C D (Fits b k ps at) (λ m still f. f.base) (λ m still x v n sx f. more_fits b k ps at m still x v n sx f) I acc calls
            (firsts.sets ks g b cs sites rs is of may_name turns k sane regular enters joins ready below analysed named callee free ps began at bound calls_go calls_first calls_fit) (list_calls k.routine.body) st.base.calls) began i in
            jumps _ q.answer (store_of q.memory) q.input d l e
          where
            jumps : (t : Transformer) (a : Answer Flow) (z : Store) (j : List Content) → AtEnd a z j (λ f y o. Ended (scene Started.base) t no_rows (λ ls. list_leads k.routine.body ls) (list_has is_return k.routine.body) true (still_in k ps locked) began f y) → (l : ℕ) → a ≡ Gave (Jump l) → ⊥
            jumps t (Gave Normal) z j d l e = cc
            jumps t (Gave (Jump m)) z j d l e = true≢false (sym (d.0 (m ∷ []) (ap (λ b'. b' || false) (nat_eq_same m))) ∙ sane.stays_in (m ∷ []))
            jumps t (Gave Returned) z j d l e = cc
            jumps t (Gave Stopped) z j d l e = cc
            jumps t (Broke b') z j d l e = cc

        -- what is needed of the body lies in what is used of its WRITE regions
        pub out_needs : (es later : List Event) → BodyShows es → NeedsLie Started Us began es later → NeedsLie Started OutOf began es later
        out_needs es later p n =
            used_needs Started (firsts.is_sound ks g b cs sites rs is of may_name turns k sane regular enters joins ready below analysed named callee free ps began at bound calls_go) C D O Lost (Fits b k ps at) (λ l st f. f.base) (λ l st x v n sx f. more_fits b k ps at l st x v n sx f) I acc isets osets calls
            (firsts.sets ks g b cs sites rs is of may_name turns k sane regular enters joins ready below analysed named callee free ps began at bound calls_go calls_first calls_fit)
            (rest_narrow Started ready.done k.routine.body calls_fit) out_part.kept callee_strict ok
            (list_regions k.found.transformer (accesses_at acc) true k.routine.body) Us (list_fits Started ready.done k.routine.body calls_fit true k.routine.body) inner units began es later p.holds p.free_so n

        -- so what may be read behind it is handed down
        pub used_handed : Hands O Lost Body began (NeedsLie Started Us began)
        used_handed = hands_knowing O Lost Body began (λ a y es. BodyShows es) (NeedsLie Started Us began) (NeedsLie Started OutOf began) body_shows (λ a y es later p n. out_needs es later p n) body_handed
