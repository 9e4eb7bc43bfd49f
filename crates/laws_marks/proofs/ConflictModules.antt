-- The modules of a program, from the last to the first: what is claimed of the executions in them.
use Rattle.std.proofs.Common.{◌≡◌, inl, inr, ⊎_elim, ℕ, ℤ, zero, suc, ◌+◌, ◌<◌, List, [], ◌∷◌, ◌||◌, ◌&&◌, Option, Some, None, Bool, true, false, refl, sym, ap, ◌∙◌, subst, arith, nat_eq, ne_eqb, true≢false}
use Rattle.std.specs.Prelude.{if◌then◌else◌, is_some, slice_get, bytes_eq}
use Rattle.affine_systems.specs.declared.row.Var.TheVariants.{Cell}
use Rattle.affine_systems.specs.declared.row.System.{System}
use Rattle.f77_ast.specs.Trees.{WhatTree, LoopTree, StmtTrees}
use Rattle.f77_ast.specs.Trees as tree
use Rattle.f77_ast.specs.Store.{Content, Store}
use Rattle.f77_ast.specs.Runs.{Ran, store_of}
use Rattle.f77_ast.specs.Places.{Place, Places, Variable}
use Rattle.f77_ast.specs.Faults.{Fault, Locked, Shared}
use Rattle.f77_ast.specs.Writes.{Locks, no_locks, lock, first_lock}
use Rattle.f77_ast.specs.Plans.{Flow, Plan, Ends, Within, ◌▹◌}
use Rattle.f77_ast.specs.Executions.{run_of, Claim}
use Rattle.f77_ast.specs.Calls.{Dummy, Actual, Meaning, scalars_bound, arrays_bound, lock_doubly, in_place, in_dummies, doubly_reached, forget_all, after_call, actuals, places_of, own_units, lock_own, call_plan}
use Rattle.f77_ast.specs.Statements.{spot, execution, body_plan, do_plan}
use Rattle.f77_ast.specs.StatementNumbers.{list_numbers, HasNumbers}
use Rattle.f77_ast.specs.Programs.{Program, scope, body_of, called, meanings, program_plan}
use Rattle.f77_ast.proofs.StepLaws.{at_end_more, at_end_true}
use Rattle.f77_ast.specs.declared.variable.Variable.{Variable as Named}
use Rattle.f77_ast.specs.declared.variable.Variable.TheVariants.{Own}
use Rattle.f77_ast.specs.Symbols.{SymbolTree}
use Rattle.f77_ast.specs.Shared.{symbol_at}
use Rattle.f77_ast.specs.declared.results.At.{At}
use Rattle.call_graph.specs.declared.graph.Graph.{Graph}
use Rattle.f77_meaning.specs.Modules.{Known}
use Rattle.f77_meaning.specs.Linked.{program_of}
use Rattle.f77_meaning.specs.Occurrences.{Throughout}
use Rattle.affine_forms.specs.Scalars.{is_cell}
use Rattle.affine_forms.specs.Claims.{unit_in, numbers_of}
use Rattle.preconditions.specs.call_translation.Sites.{HoldingSite}
use Rattle.preconditions.specs.transformer_algebra.Cells.{has}
use Rattle.preconditions.specs.transformer_algebra.Claims.{HoldsAt}
use Rattle.preconditions.specs.transformers.Given.{Callees}
use Rattle.preconditions.specs.transformers.Modules.{transformers_of}
use Rattle.in_out_regions.specs.region_sets.declared.region.Region.{Region}
use Rattle.in_out_regions.specs.region_sets.Lists.{accesses_at, list_regions}
use Rattle.in_out_regions.specs.call_equations.Sides.{changed_cells}
use Rattle.in_out_regions.specs.array_regions.Calls.{Called, Callees as Summaries}
use Rattle.in_out_regions.specs.Statement.{at_list}
use Rattle.loop_marker.specs.dependence_test.Body.{system_at}
use Rattle.loop_marker.specs.dependence_test.Finding.{loop_in}
use Rattle.laws_analyses.specs.Statements.Good.{said, AtEach}
use Rattle.call_graph.specs.CallsIn.{CallAt, Each, list_calls}
use Rattle.laws_analyses.specs.Statements.Activation.{Fit}
use Rattle.laws_analyses.specs.Statements.Placed.{Found}
use Rattle.laws_analyses.specs.Statements.Results.{pre_in}
use Rattle.laws_analyses.proofs.Statements.Loops.{also}
use Rattle.laws_analyses.proofs.Calls.Enter.{Fits, begin_fits, more_fits}
use Rattle.laws_analyses.specs.Calls.Parts.{Blocks, Part, in_bound, places_in as dummy_places, still_in, Sane}
use Rattle.laws_analyses.specs.Calls.ProgramLaws.{routines, EachHolds, ScalarsHold, Analysed, AnalysedParts, AnalysedProgram, ProgramHolds}
use Rattle.laws_analyses.specs.Calls.Sites.{CoversFrom, Covers, lookup, Entered}
use Rattle.laws_analyses.proofs.Calls.Bound.{scalars_fixed}
use Rattle.laws_analyses.specs.Regions.Claims.{elements_of}
use Rattle.laws_analyses.specs.Regions.Settings.{scene, Sound, is_stored, elements_if, elements_at}
use Rattle.laws_analyses.proofs.Regions.Entering.{inside_of}
use Rattle.laws_analyses.specs.Regions.Entries.{dummies_reads}
use Rattle.laws_analyses.specs.Regions.Programs.{called_in, regions_in_part, EachRegionHolds}
use Rattle.laws_analyses.proofs.Regions.Actuals.{AllOffer, actuals_hold}
use Rattle.laws_analyses.proofs.Regions.Bounds.{setting, Got}
use Rattle.laws_analyses.proofs.Regions.CalledShown.{Bound, FineOk}
use Rattle.laws_analyses.proofs.Regions.Calling.{Known_of, solid, apart, leads, entered_there}
use Rattle.laws_analyses.proofs.Regions.Free.{FreeOk, all_free}
use Rattle.laws_analyses.proofs.Regions.Looks.{IfGave}
use Rattle.laws_analyses.proofs.Regions.Programs as base
use Rattle.laws_analyses.proofs.Regions.Programs.{distinct_numbers}
use Rattle.laws_analyses.proofs.Regions.Steady.{Steady, steady_begin}
use Rattle.laws_analyses.proofs.Regions.Storing.{holding_with}
use Rattle.laws_marks.specs.InFrames.{Frame}
use Rattle.laws_marks.specs.InKnowns.{known_in}
use Rattle.laws_marks.specs.InPrograms.{ins_called, ins_in_part, EachInHolds}
use Rattle.laws_marks.specs.InUnits.{UnitsFit, SetsFit}
use Rattle.laws_marks.proofs.InApart.{OffersLocked, in_inside, offered, units_fit}
use Rattle.laws_marks.proofs.InFramed.{element_of}
use Rattle.laws_marks.proofs.InCalledIn.{FirstOk, offers_there}
use Rattle.laws_marks.proofs.InPrograms as ins
use Rattle.laws_marks.proofs.InRunning.{frame}
use Rattle.laws_marks.proofs.InStanding.{StandsList, StandsParts, InAt}
use Rattle.laws_marks.specs.ConflictExecutions.{Execution, AtEachExecution, InEachExecution}
use Rattle.laws_marks.specs.ConflictIterations.{iterations}
use Rattle.laws_marks.specs.ConflictClaims.{scene_in, LoopIs}
use Rattle.laws_marks.specs.ConflictPrograms.{holding, loop_in_part, PartLoopsHold, EachLoopHolds}
use Rattle.laws_marks.proofs.ConflictCopies.{AllSole}
use Rattle.laws_marks.proofs.ConflictEach.{plan_looked, plan_holding, plan_forget, plan_after, plan_called, told, told_each, Given, with_each}
use Rattle.laws_marks.proofs.ConflictInside.{HasBody, BodyAt, list_bodies}
use Rattle.laws_marks.proofs.ConflictLooping.{loop_is}
use Rattle.laws_marks.proofs.ConflictNarrows.{AreNarrow, bodies_narrow}
use Rattle.laws_marks.proofs.ConflictReaching.{Owed, CallReaches, list_reached}
use Rattle.laws_marks.proofs.ConflictWhats.{list_whats, as_loop, no_list, each_found}
use Rattle.call_graph.specs.Visible.{is_local}

-- no statement has the number 0
none_zero : (ns : List ℕ) → ((i n : ℕ) → slice_get ns i ≡ Some n → 0 < n) → has ns 0 ≡ false
none_zero [] h = refl
none_zero (n ∷ ns) h =
    let l = h zero n refl in
    let other : nat_eq n 0 ≡ false = ne_eqb n 0 (λ q. absurd (omega (arith, l, q))) in
    ap (λ b. b || has ns 0) other ∙ none_zero ns (λ i m e. h (suc i) m e)

pub numbered_above : (body : StmtTrees) → HasNumbers body → has (list_numbers body) 0 ≡ false
numbered_above body h = none_zero (list_numbers body) h.above

-- a unit that is in no dummy is not reached twice
none_doubly : (ds : List Dummy) (at : Places) (common : ℕ → Bool) (u : ℕ) → ((i : ℕ) (d : Dummy) → slice_get ds i ≡ Some d → in_place (at d.symbol) u ≡ false) → doubly_reached ds at common u ≡ false
none_doubly [] at common u h = refl
none_doubly (d ∷ ds) at common u h = ap (λ c. (c && (in_dummies ds at u || common u)) || doubly_reached ds at common u) (h zero d refl) ∙ none_doubly ds at common u (λ i f e. h (suc i) f e)

if_stored : (c : Bool) (p : Place) (phi : ℕ → ℤ) (u : ℕ) → elements_if c p phi ≡ Some u → elements_of p phi ≡ Some u
if_stored true p phi u e = e
if_stored false p phi u e = cc

module _ (ks : List Known) (g : Graph) (b : Blocks) (cs : Callees) (sites : List ℕ → List HoldingSite) (rs is : List ℕ → Summaries) (of : List ℕ → Part) (may_name : Part → Named → Bool) (turns : ℕ) where
  abbrev C0 : Claim
  C0 = said (EachRegionHolds ks g cs rs of)

  abbrev D0 : Claim
  D0 = said (EachInHolds ks g cs rs is of)

  -- preconditions and transformers
  abbrev D : Claim
  D = told (EachHolds cs of)

  abbrev C : Execution → Type 0
  C = Given (told (EachHolds cs of)) (EachLoopHolds ks g cs rs is of)

  -- what is known of a call of a module
  abbrev pub ReachOk : Option Part → Meaning → Type 0
  ReachOk None meaning = Unit {0}
  ReachOk (Some k) meaning = (ps : List Place) (locked : Locks) → Entered k ps locked → OffersLocked ks g k ps locked → (z : Store) (i : List Content) → AtEachExecution C (meaning ps locked) z i

  none_some : (l : LoopTree) → None ≡ Some l → ⊥
  none_some l e = cc

  same_loop : (l o : LoopTree) → Some l ≡ Some o → l ≡ o
  same_loop l o e = cc

  -- ---- a module

  module _ (k : Part) (sane : Sane b k) (below : List Part) (analysed : Analysed b cs sites below k) (named : of k.routine.name ≡ k) (first : ins.PartFirst ks g b cs sites rs is of may_name turns below k sane) (callee : List ℕ → Meaning) (free : (x : List ℕ) → FreeOk b cs (lookup below x) (callee x))
      (fine : (x : List ℕ) → FineOk ks g b (λ p. (regions_in_part g cs (rs p.routine.name) p).summary) (said (EachRegionHolds ks g cs rs of)) (lookup below x) (callee x)) (fine_in : (x : List ℕ) → FirstOk ks g b (λ p. (ins_in_part g cs (rs p.routine.name) (is p.routine.name) p).summary) may_name (said (EachInHolds ks g cs rs is of)) (lookup below x) (callee x)) (ps : List Place) where
    -- a claim of the module is one of the part of its name
    of_part : (n : ℕ) (at : Places) (t : Plan) (s : Store) (i : List Content) → PartLoopsHold ks g cs (rs k.routine.name) (is k.routine.name) k (record { spot = spot k.routine.name n; places = at; does = t; start = s; input = i }) → EachLoopHolds ks g cs rs is of (record { spot = spot k.routine.name n; places = at; does = t; start = s; input = i })
    of_part n at t s i h = subst (λ (p : Part). PartLoopsHold ks g cs (rs p.routine.name) (is p.routine.name) p (record { spot = spot k.routine.name n; places = at; does = t; start = s; input = i })) (sym named) h

    -- preconditions hold at its numbers
    knows : (at : Places) (n : ℕ) (s : Store) (q : Ran Flow) → told (EachHolds cs of) (spot k.routine.name (suc n)) at s q → HoldsAt (scene_in k.scope at) (system_at (holding cs k) (suc n)) (numbers_of s)
    knows at n s q d = subst (λ (r : Found). HoldsAt (scene_in k.scope at) (r.pre (suc n)) (numbers_of s)) analysed.found held
      where
        there : ScalarsHold cs k (suc n) (record { spot = spot k.routine.name (suc n); places = at; start = s; ran = q; later = d.0 })
        there = subst (λ (p : Part). ScalarsHold cs p (suc n) (record { spot = spot k.routine.name (suc n); places = at; start = s; ran = q; later = d.0 })) named d.1

        held : HoldsAt (scene_in k.scope at) (k.found.pre (suc n)) (numbers_of s)
        held = λ p st. there.0 (λ c. p (Cell c)) (λ c t. st c t) p (λ c. refl)

    -- the entry is no DO
    entry_claim : (at : Places) (t : Plan) (s : Store) (i : List Content) → C (record { spot = spot k.routine.name 0; places = at; does = t; start = s; input = i })
    entry_claim at t s i d = of_part 0 at t s i (λ l e. absurd (none_some l (sym (no_list 0 k.routine.body (numbered_above k.routine.body analysed.numbered)) ∙ e)))

    module _ (began : Store) (at : Places) (bound : Bound g b k sane ps began at) where
      abbrev started : Frame
      started = frame ks g (called_in g cs (rs k.routine.name) k) b cs k sane first.goes.regular turns callee ps (may_name k) first.ready.laid at

      abbrev I : Store → Type 0
      I = Steady (setting ks g (called_in g cs (rs k.routine.name) k) b cs k sane first.goes.regular turns callee ps at) (changed_cells (transformers_of k.routine.body k.scope cs).at) began

      abbrev acc : List (At (List Region))
      acc = (regions_in_part g cs (rs k.routine.name) k).at

      abbrev firsts : Called
      firsts = ins_called g cs (is k.routine.name) k

      abbrev Fit_so : Locks → (ℕ → Bool) → Type 0
      Fit_so = Fits b k ps at

      calls_go : base.CallsGo ks g b cs sites rs of turns k sane first.goes.regular first.goes.enters first.goes.joins below analysed named callee free ps began at bound
      calls_go = ins.calls_go_so ks g b cs sites rs is of may_name turns k sane below analysed named first callee free fine fine_in ps began at bound

      pub is_sound : Sound (setting ks g (called_in g cs (rs k.routine.name) k) b cs k sane first.goes.regular turns callee ps at)
      is_sound = base.sound ks g b cs sites rs of turns k sane first.goes.regular first.goes.enters first.goes.joins below analysed named callee free ps began at bound

      pub stands : StandsList C0 D0 started (Fits b k ps at) I acc firsts k.routine.body true
      stands =
          ins.stands ks g b cs sites rs is of may_name turns k sane first.goes.regular first.goes.enters first.goes.joins first.ready below analysed named callee free ps began at bound calls_go
          (ins.calls_first_so ks g b cs sites rs is of may_name turns k sane below analysed named first callee free fine fine_in ps began at bound) first.fits

      pub sets : SetsFit started acc
      sets =
          ins.sets ks g b cs sites rs is of may_name turns k sane first.goes.regular first.goes.enters first.goes.joins first.ready below analysed named callee free ps began at bound calls_go
          (ins.calls_first_so ks g b cs sites rs is of may_name turns k sane below analysed named first callee free fine fine_in ps began at bound) first.fits

      narrow : (ss : StmtTrees) → AreNarrow started (list_regions started.does (accesses_at acc) false ss)
      narrow ss = bodies_narrow started first.ready.done k.routine.body first.fits ss

      pub fit_base : (locked : Locks) (still : ℕ → Bool) → Fits b k ps at locked still → Fit started.sc.names started.scalar started.at (scene started.base) locked still
      fit_base l st f = f.base

      pub fit_more : (locked : Locks) (still : ℕ → Bool) (x : List ℕ) (v : ℕ) → started.sc.names x ≡ Variable v → started.scalar x ≡ true → Fits b k ps at locked still → Fits b k ps at (lock locked (started.at v).first Locked) (also still (started.at v).first)
      fit_more l st x v n sx f = more_fits b k ps at l st x v n sx f

      -- ---- the units of its locals

      module _ (locked0 : Locks) (ent : Entered k ps locked0) (offers : OffersLocked ks g k ps locked0) where
        pub begun_units : UnitsFit started (lock_doubly locked0 k.routine.dummies at k.routine.common)
        begun_units = units_fit ks g b k sane first.goes.regular first.goes.joins (may_name k) first.ready.laid ps locked0 ent offers at bound.made began bound (called_in g cs (rs k.routine.name) k) cs turns callee is_sound

        -- a unit that the module owns is not locked
        owned_free : (u : ℕ) → k.owns u ≡ true → lock_doubly locked0 k.routine.dummies at k.routine.common u ≡ None
        owned_free u o = ap (λ c. if c then first_lock (locked0 u) Shared else locked0 u) (none_doubly k.routine.dummies at k.routine.common u (λ i d e. not_in d i e (in_place (at d.symbol) u) refl)) ∙ none_locked (locked0 u) refl
          where
            not_in : (d : Dummy) (i : ℕ) → slice_get k.routine.dummies i ≡ Some d → (c : Bool) → in_place (at d.symbol) u ≡ c → in_place (at d.symbol) u ≡ false
            not_in d i e true q = absurd (true≢false (sym o ∙ ent.places u (offered ks g b k sane first.goes.regular first.goes.joins (may_name k) first.ready.laid ps locked0 ent offers at bound.made i d u e (in_inside (at d.symbol) u q))))
            not_in d i e false q = q

            none_locked : (l : Option Fault) → locked0 u ≡ l → locked0 u ≡ None
            none_locked None q = q
            none_locked (Some f) q = absurd (true≢false (sym o ∙ ent.locks u (ap is_some q)))

        -- a unit of a local that is not saved is owned
        owned : (n : ℕ) (s : SymbolTree) → symbol_at k.scope.symbols n ≡ Some s → is_local s.place ≡ true → s.saved ≡ false → (phi : ℕ → ℤ) (u : ℕ) → elements_at started.base (Own n) phi ≡ Some u → k.owns u ≡ true
        owned n s e local unsaved phi u p =
            let r = inside_of (at n) phi u (if_stored (is_stored (symbol_at k.scope.symbols n)) (at n) phi u p) in
            let fixed : at n ≡ k.routine.fixed n = bound.made.other n (first.goes.enters.local n s e local) ∙ scalars_fixed k.routine.dummies ps k.routine.fixed n (first.goes.enters.local n s e local) in
            let less : r.offset < (k.routine.fixed n).extent = subst (λ (q : Place). r.offset < q.extent) fixed r.less in
            let there : (k.routine.fixed n).first + r.offset ≡ u = ap (λ (q : Place). q.first + r.offset) (sym fixed) ∙ r.is_there in
            subst (λ v. k.owns v ≡ true) there (first.ready.laid.lost ((k.routine.fixed n).first + r.offset) (first.goes.enters.lost n s r.offset e local unsaved less))

        pub sole : AllSole started
        sole n s e local unsaved phi u p =
            let free = owned_free u (owned n s e local unsaved phi u (element_of started (Own n) phi u p)) in
            record { own = begun_units.no_actual (Own n) phi u p free; others = λ w psi q. ⊎_elim (λ same. inl (sym same)) (λ over. inr over) (begun_units.apart (Own n) w phi psi u p q free) }

        -- ---- its statements

        claim : (w : WhatTree) (n : ℕ) → loop_in n k.routine.body ≡ as_loop w → HasBody (known_in started acc firsts) (at_list k.routine.body (known_in started acc firsts)) w → (last : Bool) (locked : Locks) (still : ℕ → Bool) → Fits b k ps at locked still → UnitsFit started locked → InAt C0 D0 started (Fits b k ps at) I acc firsts n w last → StandsParts C0 D0 started (Fits b k ps at) I acc firsts w n → (z : Store) → I z → (i : List Content) → AtEach D (execution w n started.sc at locked) z i →
            PartLoopsHold ks g cs (rs k.routine.name) (is k.routine.name) k (record { spot = spot k.routine.name n; places = at; does = execution w n started.sc at locked; start = z; input = i })
        claim (tree.assign x e) n q among last locked still fit units st pa z iz i d l f = absurd (none_some l (sym q ∙ f))
        claim (tree.block_if arms other) n q among last locked still fit units st pa z iz i d l f = absurd (none_some l (sym q ∙ f))
        claim (tree.logical_if e s) n q among last locked still fit units st pa z iz i d l f = absurd (none_some l (sym q ∙ f))
        claim (tree.do_loop own) n q among last locked still fit units st pa z iz i d l f =
            subst (λ y. LoopIs ks g k.scope at (loop_in_part g cs (rs k.routine.name) (is k.routine.name) k y) z (iterations (do_plan own started.sc at locked) z i)) (same_loop own l (sym q ∙ f))
            (loop_is started is_sound C0 D0 (Fits b k ps at) fit_base fit_more I acc firsts sets narrow sole k.routine.body (distinct_numbers k.routine.body analysed.numbered) D (holding cs k) (λ j s r c. knows at j s r c) own n last locked still fit units st pa among z iz i d)
        claim (tree.call x es) n q among last locked still fit units st pa z iz i d l f = absurd (none_some l (sym q ∙ f))
        claim (tree.goto j) n q among last locked still fit units st pa z iz i d l f = absurd (none_some l (sym q ∙ f))
        claim tree.continue n q among last locked still fit units st pa z iz i d l f = absurd (none_some l (sym q ∙ f))
        claim tree.return n q among last locked still fit units st pa z iz i d l f = absurd (none_some l (sym q ∙ f))
        claim (tree.stop text) n q among last locked still fit units st pa z iz i d l f = absurd (none_some l (sym q ∙ f))
        claim (tree.print es) n q among last locked still fit units st pa z iz i d l f = absurd (none_some l (sym q ∙ f))
        claim (tree.read es) n q among last locked still fit units st pa z iz i d l f = absurd (none_some l (sym q ∙ f))

        owed : (as' : List (At WhatTree)) → Each (λ (a : At WhatTree). loop_in a.id k.routine.body ≡ as_loop a.value) as' → Each (BodyAt (known_in started acc firsts) (at_list k.routine.body (known_in started acc firsts))) as' → Each (Owed started is_sound C0 D0 (Fits b k ps at) fit_base fit_more I acc firsts C) as'
        owed [] h f = tt
        owed (a ∷ as') h f = (
          (λ last locked still fit units st pa z iz i d. of_part a.id at (execution a.value a.id started.sc at locked) z i (claim a.value a.id h.0 f.0 last locked still fit units st pa z iz i d)),
          owed as' h.1 f.1,
        )

        -- ---- its CALLs

        module _ (reach : (x : List ℕ) → ReachOk (lookup below x) (callee x)) where
          called_by : (c : CallAt) (P : System) → CoversFrom b cs sites k c.callee c.actuals P (lookup below c.callee) → ins.SendsFirstFrom ks g b cs sites rs is of may_name turns k sane first.goes.regular first.goes.joins.own_below first.ready c.callee c.actuals (lookup below c.callee) → CallReaches started is_sound C0 D0 (Fits b k ps at) fit_base fit_more I acc firsts C c
          called_by c P cov snd plain locked still fit units z iz i = go (lookup below c.callee) refl (free c.callee) (reach c.callee) cov snd
            where
              go : (o : Option Part) → lookup below c.callee ≡ o → FreeOk b cs o (callee c.callee) → ReachOk o (callee c.callee) → CoversFrom b cs sites k c.callee c.actuals P o → ins.SendsFirstFrom ks g b cs sites rs is of may_name turns k sane first.goes.regular first.goes.joins.own_below first.ready c.callee c.actuals o → AtEachExecution C (call_plan (actuals c.actuals 0 k.routine.names at (k.routine.own_unit c.number)) (callee c.callee) locked) z i
              go None q fr re cv sn = absurd sn
              go (Some h) q fr re cv sn =
                  plan_holding C (actuals c.actuals 0 k.routine.names at (k.routine.own_unit c.number)) (λ xs. callee c.callee (places_of xs) (lock_own locked (own_units xs)) ▹ after_call (own_units xs)) z i
                  (λ a w fs. AllOffer started.base is_sound sol (k.routine.own_unit c.number) apt z c.actuals 0 a w fs × IfGave a (λ xs. Known_here xs w))
                  (holding_with (actuals c.actuals 0 k.routine.names at (k.routine.own_unit c.number)) z [] (AllOffer started.base is_sound sol (k.routine.own_unit c.number) apt z c.actuals 0) (λ xs s j. Known_here xs s) (actuals_hold started.base is_sound sol (k.routine.own_unit c.number) apt z c.actuals 0 z (λ j t. refl) plain)
                  (leads C0 ks g b cs sites seen_of calls_in k sane first.goes.regular turns callee ps at bound.made is_sound first.goes.joins.own_below c.callee c.actuals c.number locked still fit z h fr.0 P cv (base.lookup_named ks g b cs sites rs of turns below c.callee h q) []))
                  (λ xs s fs p. plan_called C (callee c.callee (places_of xs) (lock_own locked (own_units xs))) (own_units xs) s i
                  (re (places_of xs) (lock_own locked (own_units xs))
                  (entered_there C0 ks g b cs sites seen_of calls_in k sane first.goes.regular turns callee ps at bound.made is_sound first.goes.joins.own_below c.callee c.actuals c.number locked still fit z h fr.0 P cv (base.lookup_named ks g b cs sites rs of turns below c.callee h q) xs s p.1)
                  (offers_there C0 D0 ks g b cs sites seen_of ins_of calls_in k sane first.goes.regular turns callee ps at bound.made is_sound first.goes.joins.own_below may_name first.ready.laid c.callee c.actuals c.number locked still fit z units h xs s (record { each = p.0.2; same = p.0.0; known = p.1 }))
                  s i))
                where
                  seen_of : Part → List Region
                  seen_of p = (regions_in_part g cs (rs p.routine.name) p).summary

                  ins_of : Part → List Region
                  ins_of p = (ins_in_part g cs (rs p.routine.name) (is p.routine.name) p).summary

                  calls_in : Called
                  calls_in = called_in g cs (rs k.routine.name) k

                  sol : (y : List ℕ) (v : ℕ) → k.routine.names y ≡ Variable v → k.scalar y ≡ true → 0 < (at v).extent
                  sol = solid C0 ks g b cs sites seen_of calls_in k sane first.goes.regular turns callee ps at bound.made is_sound first.goes.joins.own_below c.callee c.actuals c.number locked still fit z

                  apt : (j d : ℕ) → is_cell k.scope.tracked d ≡ true → k.routine.own_unit c.number j ≡ unit_in at d → ⊥
                  apt = apart C0 ks g b cs sites seen_of calls_in k sane first.goes.regular turns callee ps at bound.made is_sound first.goes.joins.own_below c.callee c.actuals c.number locked still fit z

                  Known_here : List Actual → Store → Type 0
                  Known_here = Known_of C0 ks g b cs sites seen_of calls_in k sane first.goes.regular turns callee ps at bound.made is_sound first.goes.joins.own_below c.callee c.actuals c.number locked still fit z

          all_called : (cl : List CallAt) → Each (λ (c : CallAt). Covers b cs sites below k c.callee c.actuals (pre_in k.routine.body k.scope cs k.entry c.number)) cl → Each (λ (c : CallAt). ins.SendsFirstFrom ks g b cs sites rs is of may_name turns k sane first.goes.regular first.goes.joins.own_below first.ready c.callee c.actuals (lookup below c.callee)) cl → Each (CallReaches started is_sound C0 D0 (Fits b k ps at) fit_base fit_more I acc firsts C) cl
          all_called [] cov snd = tt
          all_called (c ∷ cl) cov snd = (called_by c (pre_in k.routine.body k.scope cs k.entry c.number) cov.0 snd.0, all_called cl cov.1 snd.1)

          statements_reached : (i : List Content) → AtEachExecution C (body_plan k.routine.body (scope k.routine turns callee) at (lock_doubly locked0 k.routine.dummies at k.routine.common)) began i
          statements_reached i =
              list_reached started is_sound C0 D0 (Fits b k ps at) fit_base fit_more I acc firsts C k.routine.body true (lock_doubly locked0 k.routine.dummies at k.routine.common) (still_in k ps locked0) (begin_fits b k sane ps locked0 ent at bound.made)
              begun_units
              stands (owed (list_whats k.routine.body) (each_found k.routine.body (distinct_numbers k.routine.body analysed.numbered)) (list_bodies (known_in started acc firsts) (at_list k.routine.body (known_in started acc firsts)) k.routine.body (λ a i. i))) (all_called (list_calls k.routine.body) analysed.calls first.sends) began
              (steady_begin started.base (changed_cells (transformers_of k.routine.body k.scope cs).at) began) i

    -- ---- a call of it

    module _ (reach : (x : List ℕ) → ReachOk (lookup below x) (callee x)) where
      inner_reached : (locked : Locks) → Entered k ps locked → OffersLocked ks g k ps locked → (s : Store) (i : List Content) → AtEachExecution C (body_of k.routine turns callee ps (dummy_places k ps) locked) s i
      inner_reached locked ent offers s i =
          plan_looked C (arrays_bound k.routine.dummies ps k.routine.names (dummy_places k ps)) (λ at. body_plan k.routine.body (scope k.routine turns callee) at (lock_doubly locked k.routine.dummies at k.routine.common)) s i
          (λ a es. Got ks g (called_in g cs (rs k.routine.name) k) b cs k sane first.goes.regular turns callee ps (dummies_reads k.routine.dummies k.scope) s a es × IfGave a (λ at. Bound g b k sane ps s at))
          (base.bounds_looked ks g b cs sites rs of turns k sane first.goes.regular first.goes.enters first.goes.joins below analysed named callee free ps s)
          (λ at es p. statements_reached s at p.1 locked ent offers reach i)

      called_reached : (locked : Locks) → Entered k ps locked → OffersLocked ks g k ps locked → (z : Store) (i : List Content) → AtEachExecution C (called k.routine turns callee ps locked) z i
      called_reached locked ent offers z i = (
        entry_claim (dummy_places k ps) (forget_all k.routine.locals (body_of k.routine turns callee ps (dummy_places k ps) locked)) z i,
        plan_forget C k.routine.locals (body_of k.routine turns callee ps (dummy_places k ps) locked) z i (λ v. inner_reached locked ent offers v i),
        at_end_more q.answer (store_of q.memory) q.input (λ f y j. Unit {0}) (λ f y j. AtEachExecution C (after_call k.routine.locals f) y j) (λ f y j u. plan_after C k.routine.locals f y j) (at_end_true q.answer (store_of q.memory) q.input),
      )
        where
          q : Ran Flow
          q = run_of (forget_all k.routine.locals (body_of k.routine turns callee ps (dummy_places k ps) locked)) z i

      -- the main program, which no CALL enters
      main_reached : (locked : Locks) → Entered k ps locked → OffersLocked ks g k ps locked → (z : Store) (i : List Content) → AtEachExecution C (Within (spot k.routine.name 0) (dummy_places k ps) (body_of k.routine turns callee ps (dummy_places k ps) locked) (λ f. Ends f)) z i
      main_reached locked ent offers z i = (
        entry_claim (dummy_places k ps) (body_of k.routine turns callee ps (dummy_places k ps) locked) z i,
        inner_reached locked ent offers z i,
        at_end_true q.answer (store_of q.memory) q.input,
      )
        where
          q : Ran Flow
          q = run_of (body_of k.routine turns callee ps (dummy_places k ps) locked) z i

  -- ---- all modules

  all_reached : (parts : List Part) (pl : AnalysedParts b cs sites of parts) → ins.PartsFirst ks g b cs sites rs is of may_name turns parts pl → (x : List ℕ) → ReachOk (lookup parts x) (meanings (routines parts) turns x)
  all_reached [] pl re x = tt
  all_reached (k ∷ parts) pl re x = go (bytes_eq x k.routine.name) (all_reached parts pl.3 re.1 x) (λ y. all_reached parts pl.3 re.1 y)
    where
      go : (c : Bool) → ReachOk (lookup parts x) (meanings (routines parts) turns x) → ((y : List ℕ) → ReachOk (lookup parts y) (meanings (routines parts) turns y)) → ReachOk (if c then Some k else lookup parts x) (if c then called k.routine turns (meanings (routines parts) turns) else meanings (routines parts) turns x)
      go true h f = λ ps locked ent offers z i.
          called_reached k pl.0 parts pl.1 pl.2 re.0 (meanings (routines parts) turns) (λ y. all_free b cs sites of turns parts pl.3 y) (λ y. base.all_fine ks g b cs sites rs of turns parts pl.3 (ins.parts_go ks g b cs sites rs is of may_name turns parts pl.3 re.1) y) (λ y. ins.all_first ks g b cs sites rs is of may_name turns parts pl.3 re.1 y) ps f locked ent offers z i
      go false h f = h

  -- ---- the main program

  module _ (main : Part) (parts : List Part) (z : Store) (pl : AnalysedProgram b cs sites of main parts z) (rm : ins.PartFirst ks g b cs sites rs is of may_name turns parts main pl.sane) (re : ins.PartsFirst ks g b cs sites rs is of may_name turns parts pl.parts_analysed) where
    pub none_bound : (u : ℕ) → in_bound main.routine.dummies [] u ≡ true → ⊥
    none_bound u h = true≢false (sym (sym (ap (λ ds. in_bound ds [] u) pl.no_dummies) ∙ h))

    pub begins : Entered main [] no_locks
    begins = record {
      locks = λ u l. absurd (true≢false (sym l));
      places = λ u h. absurd (none_bound u h);
      solid = λ i d e f. absurd (nothing i d (sym (ap (λ ds. slice_get ds i) pl.no_dummies) ∙ e));
    }
      where
        nothing : (i : ℕ) (d : Dummy) → slice_get [] i ≡ Some d → ⊥
        nothing i d e = cc

    pub fixed_places : dummy_places main [] ≡ main.routine.fixed
    fixed_places = ap (λ ds. scalars_bound ds [] main.routine.fixed) pl.no_dummies

    program_reached : (input : List Content) → AtEachExecution C (program_plan (record { main = main.routine; others = routines parts; initial = z }) turns) z input
    program_reached input =
        subst (λ (at : Places). AtEachExecution C (Within (spot main.routine.name 0) at (body_of main.routine turns (meanings (routines parts) turns) [] at no_locks) (λ f. Ends f)) z input) fixed_places
        (main_reached main pl.sane parts pl.analysed pl.named rm (meanings (routines parts) turns) (λ y. all_free b cs sites of turns parts pl.parts_analysed y) (λ y. base.all_fine ks g b cs sites rs of turns parts pl.parts_analysed (ins.parts_go ks g b cs sites rs is of may_name turns parts pl.parts_analysed re) y) (λ y. ins.all_first ks g b cs sites rs is of may_name turns parts pl.parts_analysed re y) [] (λ y. all_reached parts pl.parts_analysed re y) no_locks begins (λ u h o l. none_bound u h) z input)

    pub program_loops : (input : List Content) → Throughout (EachHolds cs of) (program_plan (record { main = main.routine; others = routines parts; initial = z }) turns) z input (λ f s i. []) → AtEachExecution (EachLoopHolds ks g cs rs is of) (program_plan (record { main = main.routine; others = routines parts; initial = z }) turns) z input
    program_loops input h =
        with_each (told (EachHolds cs of)) (EachLoopHolds ks g cs rs is of) (program_plan (record { main = main.routine; others = routines parts; initial = z }) turns) z input (program_reached input)
        (told_each (EachHolds cs of) (program_plan (record { main = main.routine; others = routines parts; initial = z }) turns) z input (λ f s i. []) h)

-- where preconditions hold in every run, so does what is claimed of loops
pub loops_hold : ProgramHolds → (b : Blocks) (cs : Callees) (sites : List ℕ → List HoldingSite) (of : List ℕ → Part) (may_name : Part → Named → Bool) (main : Part) (parts : List Part) (z : Store) (pl : AnalysedProgram b cs sites of main parts z) (ks : List Known) (g : Graph) (rs is : List ℕ → Summaries) →
    ((turns : ℕ) → ins.PartFirst ks g b cs sites rs is of may_name turns parts main pl.sane × ins.PartsFirst ks g b cs sites rs is of may_name turns parts pl.parts_analysed) →
    program_of ks g ≡ record { main = main.routine; others = routines parts; initial = z } → InEachExecution ks g (EachLoopHolds ks g cs rs is of)
loops_hold holds b cs sites of may_name main parts z pl ks g rs is go e turns input =
    subst (λ (p : Program). AtEachExecution (EachLoopHolds ks g cs rs is of) (program_plan p turns) p.initial input) (sym e)
    (program_loops ks g b cs sites rs is of may_name turns main parts z pl (go turns).0 (go turns).1 input
    (subst (λ (p : Program). Throughout (EachHolds cs of) (program_plan p turns) p.initial input (λ f s i. [])) e (holds b cs sites of main parts z pl ks g e turns input)))
