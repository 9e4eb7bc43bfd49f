-- The modules of a program, from the last to the first: what is claimed of the bounds of their variables where statements begin.
use Rattle.std.proofs.Common.{◌≡◌, ℕ, zero, suc, ◌<◌, List, [], ◌∷◌, Option, Some, None, Bool, true, false, refl, sym, subst}
use Rattle.std.specs.Prelude.{if◌then◌else◌, bytes_eq}
use Rattle.std.proofs.lemmas.Bool.{not-false}
use Rattle.affine_systems.specs.declared.row.System.{System}
use Rattle.f77_ast.specs.Trees.{WhatTree, StmtTrees}
use Rattle.f77_ast.specs.Trees as tree
use Rattle.f77_ast.specs.Store.{Content, Store}
use Rattle.f77_ast.specs.Runs.{Ran, store_of}
use Rattle.f77_ast.specs.Places.{Place, Places, Variable, Names}
use Rattle.f77_ast.specs.Faults.{Locked}
use Rattle.f77_ast.specs.Writes.{Locks, no_locks, lock}
use Rattle.f77_ast.specs.Plans.{Flow, Plan, Ends, Within, ◌▹◌}
use Rattle.f77_ast.specs.Executions.{run_of, Claim}
use Rattle.f77_ast.specs.Calls.{Actual, Meaning, arrays_bound, lock_doubly, forget_all, after_call, actuals, places_of, own_units, lock_own, call_plan}
use Rattle.f77_ast.specs.Statements.{spot, execution, body_plan}
use Rattle.f77_ast.specs.Programs.{Program, scope, body_of, called, meanings, program_plan}
use Rattle.f77_ast.proofs.StepLaws.{at_end_more, at_end_true}
use Rattle.f77_ast.specs.declared.variable.Variable.{Variable as Named}
use Rattle.f77_ast.specs.declared.results.At.{At}
use Rattle.call_graph.specs.declared.graph.Graph.{Graph}
use Rattle.f77_meaning.specs.Modules.{Known}
use Rattle.f77_meaning.specs.Linked.{program_of}
use Rattle.affine_forms.specs.Scalars.{is_cell}
use Rattle.affine_forms.specs.Claims.{unit_in}
use Rattle.preconditions.specs.call_translation.Sites.{HoldingSite}
use Rattle.preconditions.specs.transformers.Given.{Callees}
use Rattle.preconditions.specs.transformers.Modules.{transformers_of}
use Rattle.in_out_regions.specs.region_sets.declared.region.Region.{Region}
use Rattle.in_out_regions.specs.call_equations.Sides.{changed_cells}
use Rattle.in_out_regions.specs.array_regions.Calls.{Called, Callees as Summaries}
use Rattle.laws_analyses.specs.Statements.Good.{said}
use Rattle.call_graph.specs.CallsIn.{CallAt, Each, list_calls}
use Rattle.laws_analyses.specs.Statements.Activation.{Fit}
use Rattle.laws_analyses.specs.Statements.Results.{pre_in}
use Rattle.laws_analyses.proofs.Statements.Loops.{also}
use Rattle.laws_analyses.proofs.Calls.Enter.{Fits, begin_fits, more_fits}
use Rattle.laws_analyses.specs.Calls.Parts.{Blocks, Part, places_in as dummy_places, still_in, Sane}
use Rattle.laws_analyses.specs.Calls.ProgramLaws.{routines, Analysed, AnalysedParts, AnalysedProgram}
use Rattle.laws_analyses.specs.Calls.Sites.{CoversFrom, Covers, lookup, Entered}
use Rattle.laws_analyses.specs.Regions.Settings.{scene, Sound, has_plain}
use Rattle.laws_analyses.specs.Regions.Entries.{dummies_reads}
use Rattle.laws_analyses.specs.Regions.Programs.{called_in, regions_in_part, EachRegionHolds}
use Rattle.laws_analyses.proofs.Regions.Actuals.{AllOffer, actuals_hold}
use Rattle.laws_analyses.proofs.Regions.Bounds.{setting, Got}
use Rattle.laws_analyses.proofs.Regions.CalledShown.{Bound, FineOk}
use Rattle.laws_analyses.proofs.Regions.Calling.{Known_of, solid, apart, leads, entered_there}
use Rattle.laws_analyses.proofs.Regions.Free.{FreeOk, all_free}
use Rattle.laws_analyses.proofs.Regions.Looks.{IfGave}
use Rattle.laws_analyses.proofs.Regions.Programs as base
use Rattle.laws_analyses.proofs.Regions.Steady.{Steady, steady_begin}
use Rattle.laws_analyses.proofs.Regions.Storing.{holding_with}
use Rattle.laws_marks.specs.InFrames.{Frame}
use Rattle.laws_marks.specs.InPrograms.{ins_called, ins_in_part, EachInHolds}
use Rattle.laws_marks.specs.InUnits.{UnitsFit}
use Rattle.laws_marks.proofs.InApart.{OffersLocked}
use Rattle.laws_marks.proofs.InCalledIn.{FirstOk, offers_there}
use Rattle.laws_marks.proofs.InPrograms as ins
use Rattle.laws_marks.proofs.InRunning.{frame}
use Rattle.laws_marks.proofs.InStanding.{StandsList}
use Rattle.laws_marks.specs.ConflictExecutions.{Execution, AtEachExecution, InEachExecution}
use Rattle.laws_marks.proofs.ConflictEach.{plan_looked, plan_holding, plan_forget, plan_after, plan_called}
use Rattle.laws_marks.proofs.ConflictModules as loops
use Rattle.laws_marks.proofs.ConflictReaching.{Owed, CallReaches, list_reached}
use Rattle.laws_marks.proofs.ConflictWhats.{list_whats}
use Rattle.preconditions.specs.call_translation.Scopes.{ScopeTree}
use Rattle.preconditions.specs.transformer_algebra.Laws.{In}
use Rattle.preconditions.specs.transformers.Simple.{named_cells}
use Rattle.laws_analyses.specs.Statements.Targets.{has_targets}
use Rattle.laws_bounds.specs.Claims.{SameBut}
use Rattle.laws_bounds.specs.Evaluations.{Evaluation, evaluations, ComesTo, Does}
use Rattle.laws_bounds.specs.Lines.{Statement, body_all}
use Rattle.laws_bounds.proofs.Bounds.{VariablesAre, variables_are}
use Rattle.laws_bounds.proofs.Keeping.{evaluations_keep}
use Rattle.laws_bounds.proofs.Whats.{IsStatement, list_found}

-- ---- claims

-- of a statement, and not of an entry
abbrev pub AtStatement : ℕ → Type 0 → Type 0
AtStatement zero P = Unit {0}
AtStatement (suc n) P = P

at_statement : (n : ℕ) (P : Type 0) → P → AtStatement n P
at_statement zero P h = tt
at_statement (suc n) P h = h

-- an execution does a statement of the module, and keeps the analysed scalars where it evaluates
pub record DoesKeeping (w : Names) (m : ScopeTree) (body : StmtTrees) (x : Execution) : Type 0 where
  pub statement : Statement
  pub stands : In statement (body_all body)
  pub number : statement.number ≡ x.spot.statement
  pub does : Does w statement.number statement.what x.places x.does
  pub keeps : Each (λ (v : Evaluation). ComesTo w x.places does.locked (does.scope.own_unit statement.number) v x.start x.input (λ z. SameBut m x.places (named_cells m.scalars v.items) x.start z)) (evaluations statement.what)

abbrev pub PartBoundsAre : Callees → Part → Execution → Type 0
PartBoundsAre cs k x =
    AtStatement x.spot.statement (VariablesAre k.routine.names k.scope (changed_cells (transformers_of k.routine.body k.scope cs).at) x.places x.start × DoesKeeping k.routine.names k.scope k.routine.body x)

-- by the name of its module
abbrev pub EachBoundsAre : Callees → (List ℕ → Part) → Execution → Type 0
EachBoundsAre cs of x = PartBoundsAre cs (of x.spot.module_name) x

module _ (ks : List Known) (g : Graph) (b : Blocks) (cs : Callees) (sites : List ℕ → List HoldingSite) (rs is : List ℕ → Summaries) (of : List ℕ → Part) (may_name : Part → Named → Bool) (turns : ℕ) where
  abbrev C0 : Claim
  C0 = said (EachRegionHolds ks g cs rs of)

  abbrev D0 : Claim
  D0 = said (EachInHolds ks g cs rs is of)

  abbrev pub C : Execution → Type 0
  C = EachBoundsAre cs of

  -- what is known of a call of a module
  abbrev pub ReachOk : Option Part → Meaning → Type 0
  ReachOk None meaning = Unit {0}
  ReachOk (Some k) meaning = (ps : List Place) (locked : Locks) → Entered k ps locked → OffersLocked ks g k ps locked → (z : Store) (i : List Content) → AtEachExecution C (meaning ps locked) z i

  -- ---- a module

  module _ (k : Part) (sane : Sane b k) (below : List Part) (analysed : Analysed b cs sites below k) (named : of k.routine.name ≡ k) (first : ins.PartFirst ks g b cs sites rs is of may_name turns below k sane) (callee : List ℕ → Meaning) (free : (x : List ℕ) → FreeOk b cs (lookup below x) (callee x))
      (fine : (x : List ℕ) → FineOk ks g b (λ p. (regions_in_part g cs (rs p.routine.name) p).summary) (said (EachRegionHolds ks g cs rs of)) (lookup below x) (callee x)) (fine_in : (x : List ℕ) → FirstOk ks g b (λ p. (ins_in_part g cs (rs p.routine.name) (is p.routine.name) p).summary) may_name (said (EachInHolds ks g cs rs is of)) (lookup below x) (callee x)) (ps : List Place) where
    -- a claim of the module is one of the part of its name
    of_part : (n : ℕ) (at : Places) (t : Plan) (s : Store) (i : List Content) → PartBoundsAre cs k (record { spot = spot k.routine.name n; places = at; does = t; start = s; input = i }) → EachBoundsAre cs of (record { spot = spot k.routine.name n; places = at; does = t; start = s; input = i })
    of_part n at t s i h = subst (λ (p : Part). PartBoundsAre cs p (record { spot = spot k.routine.name n; places = at; does = t; start = s; input = i })) (sym named) h

    -- nothing is claimed of the entry
    entry_claim : (at : Places) (t : Plan) (s : Store) (i : List Content) → C (record { spot = spot k.routine.name 0; places = at; does = t; start = s; input = i })
    entry_claim at t s i = of_part 0 at t s i tt

    module _ (began : Store) (at : Places) (bound : Bound g b k sane ps began at) where
      abbrev started : Frame
      started = frame ks g (called_in g cs (rs k.routine.name) k) b cs k sane first.goes.regular turns callee ps (may_name k) first.ready.laid at

      abbrev I : Store → Type 0
      I = Steady (setting ks g (called_in g cs (rs k.routine.name) k) b cs k sane first.goes.regular turns callee ps at) (changed_cells (transformers_of k.routine.body k.scope cs).at) began

      abbrev acc : List (At (List Region))
      acc = (regions_in_part g cs (rs k.routine.name) k).at

      abbrev firsts : Called
      firsts = ins_called g cs (is k.routine.name) k

      abbrev Fit_so : Locks → (ℕ → Bool) → Type 0
      Fit_so = Fits b k ps at

      is_sound : Sound (setting ks g (called_in g cs (rs k.routine.name) k) b cs k sane first.goes.regular turns callee ps at)
      is_sound = loops.is_sound ks g b cs sites rs is of may_name turns k sane below analysed named first callee free fine fine_in ps began at bound

      stands : StandsList C0 D0 started (Fits b k ps at) I acc firsts k.routine.body true
      stands = loops.stands ks g b cs sites rs is of may_name turns k sane below analysed named first callee free fine fine_in ps began at bound

      fit_base : (locked : Locks) (still : ℕ → Bool) → Fits b k ps at locked still → Fit started.sc.names started.scalar started.at (scene started.base) locked still
      fit_base l st f = f.base

      fit_more : (locked : Locks) (still : ℕ → Bool) (x : List ℕ) (v : ℕ) → started.sc.names x ≡ Variable v → started.scalar x ≡ true → Fits b k ps at locked still → Fits b k ps at (lock locked (started.at v).first Locked) (also still (started.at v).first)
      fit_more l st x v n sx f = more_fits b k ps at l st x v n sx f

      module _ (locked0 : Locks) (ent : Entered k ps locked0) (offers : OffersLocked ks g k ps locked0) where
        begun_units : UnitsFit started (lock_doubly locked0 k.routine.dummies at k.routine.common)
        begun_units = loops.begun_units ks g b cs sites rs is of may_name turns k sane below analysed named first callee free fine fine_in ps began at bound locked0 ent offers

        -- ---- its statements

        claim : (n : ℕ) (t : Plan) (z : Store) (i : List Content) → I z → DoesKeeping k.routine.names k.scope k.routine.body (record { spot = spot k.routine.name n; places = at; does = t; start = z; input = i })
            → PartBoundsAre cs k (record { spot = spot k.routine.name n; places = at; does = t; start = z; input = i })
        claim n t z i iz keeping =
            at_statement n (VariablesAre k.routine.names k.scope (changed_cells (transformers_of k.routine.body k.scope cs).at) at z × DoesKeeping k.routine.names k.scope k.routine.body (record { spot = spot k.routine.name n; places = at; does = t; start = z; input = i }))
            (variables_are ks g b k sane first.goes.regular first.goes.joins (changed_cells (transformers_of k.routine.body k.scope cs).at) ps began at bound z iz, keeping)

        keeping : (a : At WhatTree) → IsStatement (body_all k.routine.body) a → (locked : Locks) (still : ℕ → Bool) → Fits b k ps at locked still → has_targets started.scalar a.value ≡ true → has_plain started.scalar a.value ≡ true → (z : Store) (i : List Content)
            → DoesKeeping k.routine.names k.scope k.routine.body (record { spot = spot k.routine.name a.id; places = at; does = execution a.value a.id started.sc at locked; start = z; input = i })
        keeping a is_one locked still fit targets plain z i = record {
          statement = record { number = a.id; line = is_one.0; what = a.value };
          stands = is_one.1;
          number = refl;
          does = record { scope = started.sc; named = refl; locked = locked; is = refl };
          keeps = evaluations_keep C0 started.base is_sound locked still (fit_base locked still fit) a.id (fit_base locked still fit).solid
              (apart C0 ks g b cs sites (λ p. (regions_in_part g cs (rs p.routine.name) p).summary) (called_in g cs (rs k.routine.name) k) k sane first.goes.regular turns callee ps at bound.made is_sound first.goes.joins.own_below [] tree.no_exprs a.id locked still fit z)
              z i a.value targets plain;
        }

        owed : (as' : List (At WhatTree)) → Each (IsStatement (body_all k.routine.body)) as' → Each (Owed started is_sound C0 D0 (Fits b k ps at) fit_base fit_more I acc firsts C) as'
        owed [] are = tt
        owed (a ∷ as') are = (
          (λ last locked still fit units st pa z iz i. of_part a.id at (execution a.value a.id started.sc at locked) z i
              (claim a.id (execution a.value a.id started.sc at locked) z i iz
              (keeping a are.0 locked still fit (not-false (has_targets started.scalar a.value) st.base.targets) (not-false (has_plain started.scalar a.value) st.base.plain) z i))),
          owed as' are.1,
        )

        -- ---- its CALLs

        module _ (reach : (x : List ℕ) → ReachOk (lookup below x) (callee x)) where
          called_by : (c : CallAt) (P : System) → CoversFrom b cs sites k c.callee c.actuals P (lookup below c.callee) → ins.SendsFirstFrom ks g b cs sites rs is of may_name turns k sane first.goes.regular first.goes.joins.own_below first.ready c.callee c.actuals (lookup below c.callee) → CallReaches started is_sound C0 D0 (Fits b k ps at) fit_base fit_more I acc firsts C c
          called_by c P cov snd plain locked still fit units z iz i = go (lookup below c.callee) refl (free c.callee) (reach c.callee) cov snd
            where
              go : (o : Option Part) → lookup below c.callee ≡ o → FreeOk b cs o (callee c.callee) → ReachOk o (callee c.callee) → CoversFrom b cs sites k c.callee c.actuals P o → ins.SendsFirstFrom ks g b cs sites rs is of may_name turns k sane first.goes.regular first.goes.joins.own_below first.ready c.callee c.actuals o → AtEachExecution C (call_plan (actuals c.actuals 0 k.routine.names at (k.routine.own_unit c.number)) (callee c.callee) locked) z i
              go None q fr re cv sn = absurd sn
              go (Some h) q fr re cv sn =
                  plan_holding C (actuals c.actuals 0 k.routine.names at (k.routine.own_unit c.number)) (λ xs. callee c.callee (places_of xs) (lock_own locked (own_units xs)) ▹ after_call (own_units xs)) z i
                  (λ a w fs. AllOffer started.base is_sound sol (k.routine.own_unit c.number) apt z c.actuals 0 a w fs × IfGave a (λ xs. Known_here xs w))
                  (holding_with (actuals c.actuals 0 k.routine.names at (k.routine.own_unit c.number)) z [] (AllOffer started.base is_sound sol (k.routine.own_unit c.number) apt z c.actuals 0) (λ xs s j. Known_here xs s) (actuals_hold started.base is_sound sol (k.routine.own_unit c.number) apt z c.actuals 0 z (λ j t. refl) plain)
                  (leads C0 ks g b cs sites seen_of calls_in k sane first.goes.regular turns callee ps at bound.made is_sound first.goes.joins.own_below c.callee c.actuals c.number locked still fit z h fr.0 P cv (base.lookup_named ks g b cs sites rs of turns below c.callee h q) []))
                  (λ xs s fs p. plan_called C (callee c.callee (places_of xs) (lock_own locked (own_units xs))) (own_units xs) s i
                  (re (places_of xs) (lock_own locked (own_units xs))
                  (entered_there C0 ks g b cs sites seen_of calls_in k sane first.goes.regular turns callee ps at bound.made is_sound first.goes.joins.own_below c.callee c.actuals c.number locked still fit z h fr.0 P cv (base.lookup_named ks g b cs sites rs of turns below c.callee h q) xs s p.1)
                  (offers_there C0 D0 ks g b cs sites seen_of ins_of calls_in k sane first.goes.regular turns callee ps at bound.made is_sound first.goes.joins.own_below may_name first.ready.laid c.callee c.actuals c.number locked still fit z units h xs s (record { each = p.0.2; same = p.0.0; known = p.1 }))
                  s i))
                where
                  seen_of : Part → List Region
                  seen_of p = (regions_in_part g cs (rs p.routine.name) p).summary

                  ins_of : Part → List Region
                  ins_of p = (ins_in_part g cs (rs p.routine.name) (is p.routine.name) p).summary

                  calls_in : Called
                  calls_in = called_in g cs (rs k.routine.name) k

                  sol : (y : List ℕ) (v : ℕ) → k.routine.names y ≡ Variable v → k.scalar y ≡ true → 0 < (at v).extent
                  sol = solid C0 ks g b cs sites seen_of calls_in k sane first.goes.regular turns callee ps at bound.made is_sound first.goes.joins.own_below c.callee c.actuals c.number locked still fit z

                  apt : (j d : ℕ) → is_cell k.scope.tracked d ≡ true → k.routine.own_unit c.number j ≡ unit_in at d → ⊥
                  apt = apart C0 ks g b cs sites seen_of calls_in k sane first.goes.regular turns callee ps at bound.made is_sound first.goes.joins.own_below c.callee c.actuals c.number locked still fit z

                  Known_here : List Actual → Store → Type 0
                  Known_here = Known_of C0 ks g b cs sites seen_of calls_in k sane first.goes.regular turns callee ps at bound.made is_sound first.goes.joins.own_below c.callee c.actuals c.number locked still fit z

          all_called : (cl : List CallAt) → Each (λ (c : CallAt). Covers b cs sites below k c.callee c.actuals (pre_in k.routine.body k.scope cs k.entry c.number)) cl → Each (λ (c : CallAt). ins.SendsFirstFrom ks g b cs sites rs is of may_name turns k sane first.goes.regular first.goes.joins.own_below first.ready c.callee c.actuals (lookup below c.callee)) cl → Each (CallReaches started is_sound C0 D0 (Fits b k ps at) fit_base fit_more I acc firsts C) cl
          all_called [] cov snd = tt
          all_called (c ∷ cl) cov snd = (called_by c (pre_in k.routine.body k.scope cs k.entry c.number) cov.0 snd.0, all_called cl cov.1 snd.1)

          statements_reached : (i : List Content) → AtEachExecution C (body_plan k.routine.body (scope k.routine turns callee) at (lock_doubly locked0 k.routine.dummies at k.routine.common)) began i
          statements_reached i =
              list_reached started is_sound C0 D0 (Fits b k ps at) fit_base fit_more I acc firsts C k.routine.body true (lock_doubly locked0 k.routine.dummies at k.routine.common) (still_in k ps locked0) (begin_fits b k sane ps locked0 ent at bound.made)
              begun_units
              stands (owed (list_whats k.routine.body) (list_found 0 k.routine.body)) (all_called (list_calls k.routine.body) analysed.calls first.sends) began
              (steady_begin started.base (changed_cells (transformers_of k.routine.body k.scope cs).at) began) i

    -- ---- a call of it

    module _ (reach : (x : List ℕ) → ReachOk (lookup below x) (callee x)) where
      inner_reached : (locked : Locks) → Entered k ps locked → OffersLocked ks g k ps locked → (s : Store) (i : List Content) → AtEachExecution C (body_of k.routine turns callee ps (dummy_places k ps) locked) s i
      inner_reached locked ent offers s i =
          plan_looked C (arrays_bound k.routine.dummies ps k.routine.names (dummy_places k ps)) (λ at. body_plan k.routine.body (scope k.routine turns callee) at (lock_doubly locked k.routine.dummies at k.routine.common)) s i
          (λ a es. Got ks g (called_in g cs (rs k.routine.name) k) b cs k sane first.goes.regular turns callee ps (dummies_reads k.routine.dummies k.scope) s a es × IfGave a (λ at. Bound g b k sane ps s at))
          (base.bounds_looked ks g b cs sites rs of turns k sane first.goes.regular first.goes.enters first.goes.joins below analysed named callee free ps s)
          (λ at es p. statements_reached s at p.1 locked ent offers reach i)

      called_reached : (locked : Locks) → Entered k ps locked → OffersLocked ks g k ps locked → (z : Store) (i : List Content) → AtEachExecution C (called k.routine turns callee ps locked) z i
      called_reached locked ent offers z i = (
        entry_claim (dummy_places k ps) (forget_all k.routine.locals (body_of k.routine turns callee ps (dummy_places k ps) locked)) z i,
        plan_forget C k.routine.locals (body_of k.routine turns callee ps (dummy_places k ps) locked) z i (λ v. inner_reached locked ent offers v i),
        at_end_more q.answer (store_of q.memory) q.input (λ f y j. Unit {0}) (λ f y j. AtEachExecution C (after_call k.routine.locals f) y j) (λ f y j u. plan_after C k.routine.locals f y j) (at_end_true q.answer (store_of q.memory) q.input),
      )
        where
          q : Ran Flow
          q = run_of (forget_all k.routine.locals (body_of k.routine turns callee ps (dummy_places k ps) locked)) z i

      -- the main program, which no CALL enters
      main_reached : (locked : Locks) → Entered k ps locked → OffersLocked ks g k ps locked → (z : Store) (i : List Content) → AtEachExecution C (Within (spot k.routine.name 0) (dummy_places k ps) (body_of k.routine turns callee ps (dummy_places k ps) locked) (λ f. Ends f)) z i
      main_reached locked ent offers z i = (
        entry_claim (dummy_places k ps) (body_of k.routine turns callee ps (dummy_places k ps) locked) z i,
        inner_reached locked ent offers z i,
        at_end_true q.answer (store_of q.memory) q.input,
      )
        where
          q : Ran Flow
          q = run_of (body_of k.routine turns callee ps (dummy_places k ps) locked) z i

  -- ---- all modules

  all_reached : (parts : List Part) (pl : AnalysedParts b cs sites of parts) → ins.PartsFirst ks g b cs sites rs is of may_name turns parts pl → (x : List ℕ) → ReachOk (lookup parts x) (meanings (routines parts) turns x)
  all_reached [] pl re x = tt
  all_reached (k ∷ parts) pl re x = go (bytes_eq x k.routine.name) (all_reached parts pl.3 re.1 x) (λ y. all_reached parts pl.3 re.1 y)
    where
      go : (c : Bool) → ReachOk (lookup parts x) (meanings (routines parts) turns x) → ((y : List ℕ) → ReachOk (lookup parts y) (meanings (routines parts) turns y)) → ReachOk (if c then Some k else lookup parts x) (if c then called k.routine turns (meanings (routines parts) turns) else meanings (routines parts) turns x)
      go true h f = λ ps locked ent offers z i.
          called_reached k pl.0 parts pl.1 pl.2 re.0 (meanings (routines parts) turns) (λ y. all_free b cs sites of turns parts pl.3 y) (λ y. base.all_fine ks g b cs sites rs of turns parts pl.3 (ins.parts_go ks g b cs sites rs is of may_name turns parts pl.3 re.1) y) (λ y. ins.all_first ks g b cs sites rs is of may_name turns parts pl.3 re.1 y) ps f locked ent offers z i
      go false h f = h

  -- ---- the main program

  module _ (main : Part) (parts : List Part) (z : Store) (pl : AnalysedProgram b cs sites of main parts z) (rm : ins.PartFirst ks g b cs sites rs is of may_name turns parts main pl.sane) (re : ins.PartsFirst ks g b cs sites rs is of may_name turns parts pl.parts_analysed) where
    pub program_bounds : (input : List Content) → AtEachExecution C (program_plan (record { main = main.routine; others = routines parts; initial = z }) turns) z input
    program_bounds input =
        subst (λ (at : Places). AtEachExecution C (Within (spot main.routine.name 0) at (body_of main.routine turns (meanings (routines parts) turns) [] at no_locks) (λ f. Ends f)) z input) (loops.fixed_places ks g b cs sites rs is of may_name turns main parts z pl rm re)
        (main_reached main pl.sane parts pl.analysed pl.named rm (meanings (routines parts) turns) (λ y. all_free b cs sites of turns parts pl.parts_analysed y) (λ y. base.all_fine ks g b cs sites rs of turns parts pl.parts_analysed (ins.parts_go ks g b cs sites rs is of may_name turns parts pl.parts_analysed re) y) (λ y. ins.all_first ks g b cs sites rs is of may_name turns parts pl.parts_analysed re y) [] (λ y. all_reached parts pl.parts_analysed re y) no_locks (loops.begins ks g b cs sites rs is of may_name turns main parts z pl rm re) (λ u h o l. loops.none_bound ks g b cs sites rs is of may_name turns main parts z pl rm re u h) z input)

-- so it is of programs with what their parts give
pub bounds_hold : (b : Blocks) (cs : Callees) (sites : List ℕ → List HoldingSite) (of : List ℕ → Part) (may_name : Part → Named → Bool) (main : Part) (parts : List Part) (z : Store) (pl : AnalysedProgram b cs sites of main parts z) (ks : List Known) (g : Graph) (rs is : List ℕ → Summaries) →
    ((turns : ℕ) → ins.PartFirst ks g b cs sites rs is of may_name turns parts main pl.sane × ins.PartsFirst ks g b cs sites rs is of may_name turns parts pl.parts_analysed) →
    program_of ks g ≡ record { main = main.routine; others = routines parts; initial = z } → InEachExecution ks g (EachBoundsAre cs of)
bounds_hold b cs sites of may_name main parts z pl ks g rs is go e turns input =
    subst (λ (p : Program). AtEachExecution (EachBoundsAre cs of) (program_plan p turns) p.initial input) (sym e) (program_bounds ks g b cs sites rs is of may_name turns main parts z pl (go turns).0 (go turns).1 input)
