-- Programs that are read: what is known of their marked loops in a run that comes to an end.
use Rattle.std.proofs.Common.{◌≡◌, ℕ, ℤ, zero, suc, Bool, List, [], ◌∷◌, ◌++◌, Some, arith, true, false, append_assoc, append-nil, refl, sym, ap, ◌∙◌, subst}
use Rattle.std.specs.Prelude.{map, reverse, slice_get}
use mathlib.Core.List.{map-append}
use Rattle.f77_ast.specs.Trees.{LoopTree, StmtTrees, WhatTree}
use Rattle.f77_ast.specs.Trees as tree
use Rattle.f77_ast.specs.DeclTrees.{ParsedTree}
use Rattle.f77_ast.specs.Runs.{Event, Answer, Gave, Broke, Ran}
use Rattle.f77_ast.specs.Places.{Variable}
use Rattle.f77_ast.specs.Loops.{Range}
use Rattle.f77_ast.specs.Plans.{Flow, Plan}
use Rattle.f77_ast.specs.Writes.{Locks}
use Rattle.f77_ast.specs.Executions.{run_of}
use Rattle.f77_ast.specs.StatementNumbers.{HasNumbers}
use Rattle.f77_ast.specs.Statements.{do_plan}
use Rattle.f77_ast.specs.Programs.{program_plan}
use Rattle.f77_ast.specs.Symbols.{SymbolTree}
use Rattle.f77_ast.specs.declared.variable.Variable.TheVariants.{Own}
use Rattle.f77_ast.specs.declared.effect_set.EffectSet.{EffectSet}
use Rattle.f77_ast.specs.declared.results.At.{At}
use Rattle.f77_ast.specs.declared.results.Results.{Results}
use Rattle.call_graph.specs.declared.graph.Graph.{Graph}
use Rattle.in_out_regions.specs.effects.List.{Callees}
use Rattle.in_out_regions.specs.effects.Modules.{cumulated_of}
use Rattle.f77_meaning.specs.Modules.{Known, known_of, names}
use Rattle.f77_meaning.specs.Linked.{program_of}
use Rattle.affine_forms.specs.Claims.{unit_in}
use Rattle.preconditions.specs.transformer_algebra.Laws.{In}
use Rattle.loop_marker.specs.module_phases.ScalarPhases.{scope_of, analyses}
use Rattle.loop_marker.specs.module_phases.RegionPhases.{all_regions}
use Rattle.loop_marker.specs.module_phases.InPhases.{ModuleIns, all_ins}
use Rattle.loop_marker.specs.module_phases.OutPhases.{ModuleOuts, with_outs, sites_of, name_of, outs_from}
use Rattle.loop_marker.specs.Results.{ModuleResults}
use Rattle.loop_marker.specs.Phases.{phases_of, no_callees, with_callee, with_marks, found_in, all_marks}
use Rattle.loop_marker.specs.dependence_test.Finding.{loop_in}
use Rattle.loop_marker.specs.Jumps.{body_of}
use Rattle.loop_marker.specs.out_regions.Leaving.{leaves}
use Rattle.loop_marker.specs.privatizer.Names.{may_copy}
use Rattle.laws_programs.specs.Effects.Claims.{EffectsHold, GivesEffect}
use Rattle.laws_programs.specs.Effects.Laws.{AllHold}
use Rattle.laws_programs.specs.Effects.Summaries.{before, bottom_up}
use Rattle.laws_programs.specs.Laws.{AllAreOfPrograms}
use Rattle.laws_programs.specs.Programs.{IsProgram}
use Rattle.laws_programs.proofs.Sources.{all_read_of}
use Rattle.laws_programs.proofs.Tables.{programs_are_linked}
use Rattle.laws_programs.proofs.Whole.{bodies_numbered}
use Rattle.call_graph.specs.CallsIn.{Each}
use Rattle.laws_programs.specs.roundtrip_programs.Statements.Formed.{Each as EachOf}
use Rattle.laws_analyses.proofs.UnitLaws.{module_at}
use Rattle.laws_analyses.specs.Regions.Settings.{elements_with}
use Rattle.laws_marks.specs.ConflictAccepted.{AllLoopsHold, ReadLoopsHold}
use Rattle.laws_marks.specs.ConflictClaims.{LoopIs, LoopsHold, body_list, loop_with}
use Rattle.laws_marks.specs.ConflictExecutions.{Execution, InEachExecution}
use Rattle.laws_marks.specs.ConflictIterations.{Iteration, iterations}
use Rattle.laws_marks.proofs.ConflictWhats.{list_whats}
use Rattle.laws_interleavings.specs.MarkedStatements.{MarkedScope, marked_loop}
use Rattle.result_lines.specs.declared.reduction.Part.{Part}
use Rattle.result_lines.specs.declared.reduction.Reduction.{Reduction}
use Rattle.laws_marks.specs.Said.{knowledge, said_at}
use Rattle.laws_marks.specs.MarkedFit.{HasOwnUnits, HasPrivateUnits}
use Rattle.laws_marks.specs.MarkedBegins.{Begins}
use Rattle.laws_marks.specs.MarkedEnding.{IsQuietDo}
use Rattle.laws_marks.proofs.MarkedEnding.{ends_quietly, loop_is_quiet}
use Rattle.laws_marks.specs.Dead.{index_name}
use Rattle.laws_marks.specs.Units.{ModuleUnitsStand, index_in}
use Rattle.laws_marks.specs.DeadLaws.{outs_of, AllUnitsStand, ReadUnitsStand}
use Rattle.laws_marks.proofs.Own.{passing}
use Rattle.laws_marks.specs.Verdicts.{Says}
use Rattle.laws_marks.specs.Known.{Finishes, LoopIsKnown, MarkedLoopIsKnown, AllMarkedLoopsAreKnown, ReadMarkedLoopsAreKnown}
use Rattle.laws_marks.proofs.DoEffects.{DoIs, list_dos}
use Rattle.laws_marks.proofs.Effects.{GivenAt, IsCalm, DoIsCalm, dos_calm}
use Rattle.laws_marks.proofs.Inside.{LeadsBeyond, AllLeadBeyond, one_leads}
use Rattle.laws_marks.proofs.Private.{verdict}
use Rattle.laws_marks.proofs.Quiet.{is_quiet}
use Rattle.laws_marks.proofs.KnownRuns.{occurrence_of, at_each}
use Rattle.laws_marks.proofs.EffectTables.{IsMade, marks_made}
use Rattle.laws_marks.proofs.Marked.{said_with}
use Rattle.laws_analyses.proofs.Passes.{each_reversed as each_reverse}
use Rattle.laws_marks.proofs.Modules.{each_two}
use Rattle.laws_analyses.proofs.Claimed.{all_of_each}
use Rattle.call_graph.proofs.EachLaws.{each_more, each_of_all}

-- ---- lists

each_back : {A B : Type 0} (f : A → B) (P : B → Type 0) (xs : List A) → Each P (map f xs) → Each (λ x. P (f x)) xs
each_back f P [] h = tt
each_back f P (x ∷ xs) h = (h.0, each_back f P xs h.1)

-- ---- a DO that is found by its number

-- of which this is said
record IsFound (g : Graph) (f : ModuleResults) (n : ℕ) (l : LoopTree) (r : Reduction) : Type 0 where
  says : Says (knowledge g f) n l r
  calm : IsCalm f.effects.at n
  beyond : LeadsBeyond n l

module _ (ks : List Known) (g : Graph) (xs : List (List ℕ)) (f : ModuleResults) (made : IsMade g ks xs no_callees f) (numbered : HasNumbers f.known.read.body) (all_beyond : AllLeadBeyond f.known.read.body) where
  all_calm : Each (DoIs (DoIsCalm f.effects.at)) (list_whats f.known.read.body)
  all_calm =
      subst (λ (r : Results EffectSet). Each (DoIs (DoIsCalm r.at)) (list_whats f.known.read.body)) (sym made.effects)
      (dos_calm (before ks xs no_callees f.known.read.name) f.known.symbols f.known.read.body numbered)

  -- of each DO
  abbrev Told : ℕ → LoopTree → Type 0
  Told n l = DoIsCalm f.effects.at n l × LeadsBeyond n l

  abbrev ToldOf : At WhatTree → Type 0
  ToldOf a = DoIs (DoIsCalm f.effects.at) a × DoIs LeadsBeyond a

  all_told : Each (DoIs Told) (list_whats f.known.read.body)
  all_told =
      let body = f.known.read.body in
      list_dos ToldOf Told (λ n l p h. p) body (each_two (DoIs (DoIsCalm f.effects.at)) (DoIs LeadsBeyond) ToldOf (λ a p q. (p, q)) (list_whats body) all_calm all_beyond)

  is_found : (n : ℕ) (l : LoopTree) → loop_in n f.known.read.body ≡ Some l → (reductions : Bool) (r : Reduction) → said_at g reductions f n ≡ Some r → IsFound g f n l r
  is_found n l is_do reductions r e =
      let q = said_with g f numbered made.marks Told all_told n l is_do reductions r e in
      record { says = q.0; calm = q.1.0 q.0.no_stop q.0.no_io; beyond = q.1.1 }

-- ---- an execution of a DO

same_bodies : (l : LoopTree) → body_of l ≡ body_list l
same_bodies (tree.loop index first last step body) = refl

index_same : (g : Graph) (f : ModuleResults) (l : LoopTree) → ((knowledge g f).body l).index ≡ index_in (scope_of g.untracked f.known) l
index_same g f (tree.loop index first last step body) = refl

record GaveSome (a : Answer Flow) : Type 0 where
  flow : Flow
  gave : a ≡ Gave flow

gave_some : (a : Answer Flow) → Finishes a → GaveSome a
gave_some (Gave f) h = record { flow = f; gave = refl }
gave_some (Broke b) h = absurd h

module _ (ks : List Known) (g : Graph) (f : ModuleResults) (x : Execution) (later : List Event) (ended : Finishes (run_of x.does x.start x.input).answer) (loops : LoopsHold ks g (phases_of f).known x) (units : ModuleUnitsStand ks g (phases_of f).known x)
    (l : LoopTree) (is_do : loop_in x.spot.statement f.known.read.body ≡ Some l) (said : Reduction) (found : IsFound g f x.spot.statement l said) (holds : EffectsHold ks g found.calm.effect (occurrence_of x later))
    (sc : MarkedScope) (locked : Locks) (same : sc.plain.names ≡ names f.known.symbols) (does : x.does ≡ do_plan l sc.plain x.places locked) where
  known : LoopIs ks g (scope_of g.untracked f.known) x.places (loop_with g (phases_of f).known l) x.start (iterations (do_plan l sc.plain x.places locked) x.start x.input)
  known = subst (λ (t : Plan). LoopIs ks g (scope_of g.untracked f.known) x.places (loop_with g (phases_of f).known l) x.start (iterations t x.start x.input)) does (loops l is_do)

  quiet : IsQuietDo sc.plain l x.places locked x.start x.input
  quiet =
      let some = gave_some (run_of x.does x.start x.input).answer ended in
      let run : run_of x.does x.start x.input ≡ run_of (do_plan l sc.plain x.places locked) x.start x.input = ap (λ (t : Plan). run_of t x.start x.input) does in
      is_quiet ks g (scope_of g.untracked f.known) (loop_with g (phases_of f).known l) sc.plain x.places locked x.start x.input x.spot.statement found.beyond (ap (leaves false) (sym (same_bodies l)) ∙ found.says.stays)
      found.calm.effect found.calm.stops found.calm.io some.flow (sym (ap (λ (r : Ran Flow). r.answer) run) ∙ some.gave) (occurrence_of x later) run holds known

  -- the one element of the variable of the DO
  scalar : (v : ℕ) → sc.plain.names (index_name l) ≡ Variable v → (phi : ℕ → ℤ) → elements_with ks g f.known.symbols x.places (Own (loop_with g (phases_of f).known l).body.index) phi ≡ Some (unit_in x.places v)
  scalar v e phi =
      let k = f.known in
      let stand = units l is_do in
      let named : names k.symbols (index_name l) ≡ Variable v = sym (ap (λ w. w (index_name l)) same) ∙ e in
      let number : ((knowledge g f).body l).index ≡ v = index_same g f l ∙ stand.number v named in
      let may : may_copy k.read k.symbols (Own v) ≡ true = subst (λ i. may_copy k.read k.symbols (Own i) ≡ true) number found.says.index in
      ap (λ i. elements_with ks g k.symbols x.places (Own i) phi) number ∙ stand.index v named (passing k.read k.symbols v may) phi

  loop_known : (xs : List (List ℕ)) (body : StmtTrees) (r : Range) (u : ℕ) (inner : Locks) (own : ℕ → Bool) → ((y : ℕ) → (marked_loop xs sc body x.places r u inner).private y ≡ true → own y ≡ true) →
      ((n : ℕ) → In n said.private → HasPrivateUnits ks g (scope_of g.untracked f.known) x.places (marked_loop xs sc body x.places r u inner) x.start (Own n)) →
      ((p : Part) → In p said.parts → HasOwnUnits ks g (scope_of g.untracked f.known) x.places own (marked_loop xs sc body x.places r u inner) x.start (Own p.cell)) →
      Begins sc.plain (index_name l) l x.places locked (marked_loop xs sc body x.places r u inner) x.start x.input →
      LoopIsKnown ks g (scope_of g.untracked f.known) x.places (loop_with g (phases_of f).known l) own (marked_loop xs sc body x.places r u inner) x.start x.input
  loop_known xs body r u inner own wider private parts b =
      let m = marked_loop xs sc body x.places r u inner in
      let d = loop_with g (phases_of f).known l in
      let one : (phi : ℕ → ℤ) → elements_with ks g f.known.symbols x.places (Own d.body.index) phi ≡ Some u = λ phi. scalar b.symbol b.is_symbol phi ∙ ap Some (sym b.unit) in
      record {
        ends = ends_quietly m x.start x.input (loop_is_quiet sc.plain (index_name l) l x.places locked m x.start x.input b quiet);
        known = subst (λ (zs : List Iteration). LoopIs ks g (scope_of g.untracked f.known) x.places d x.start zs) b.cut known;
        verdicts = λ q i w. verdict ks g (scope_of g.untracked f.known) x.places d xs sc body r u inner x.start one f.known.read said own wider private parts q.variable (found.says.verdicts q i w);
      }

-- ---- programs

module _ (ps : List ParsedTree) (sss : List (List SymbolTree)) (g : Graph) (x : IsProgram ps sss g) where
  abbrev ks : List Known
  ks = known_of ps sss

  record Stands (f : ModuleResults) : Type 0 where
    made : IsMade g (known_of ps sss) g.order no_callees f
    numbered : HasNumbers f.known.read.body
    beyond : AllLeadBeyond f.known.read.body

  abbrev BodyLeads : ParsedTree → Type 0
  BodyLeads p = AllLeadBeyond p.module_read.body

  at_place : (qs : List ParsedTree) → EachOf BodyLeads qs → (i : ℕ) (p : ParsedTree) → slice_get qs i ≡ Some p → BodyLeads p
  at_place [] h i p e = cc
  at_place (q ∷ qs) h zero p e = let same : q ≡ p = cc in subst BodyLeads same h.first
  at_place (q ∷ qs) h (suc i) p e = at_place qs h.others i p e

  stands : Each Stands (all_marks g (outs_of ps sss g))
  stands = each_more (IsMade g (known_of ps sss) g.order no_callees) Stands (all_marks g (outs_of ps sss g)) one (marks_made ps sss g (programs_are_linked ps sss g x).0)
    where
      one : (f : ModuleResults) → IsMade g (known_of ps sss) g.order no_callees f → Stands f
      one f h =
          let m = module_at ps sss h.at f.known h.is_module in
          record {
            made = h;
            numbered = subst (λ (k : Known). HasNumbers k.read.body) m.same (bodies_numbered x.lines ps x.parsed h.at m.parsed m.is_module.parsed);
            beyond = subst (λ (k : Known). AllLeadBeyond k.read.body) m.same (at_place ps (all_read_of BodyLeads one_leads x.lines x.labelled ps x.parsed) h.at m.parsed m.is_module.parsed);
          }

  -- ---- what is known of modules, of the same ones with their marks

  ins : (done : List ModuleOuts) (fs : List ModuleIns) → map (λ (f : ModuleOuts). f.known) (outs_from g done fs) ≡ map (λ (f : ModuleOuts). f.known) done ++ fs
  ins done [] = sym (append-nil (map (λ (f : ModuleOuts). f.known) done))
  ins done (f ∷ fs) =
      ins (done ++ with_outs g (sites_of g.untracked done (name_of f)) f ∷ []) fs
      ∙ (ap (λ zs. zs ++ fs) (map-append (λ (h : ModuleOuts). h.known) done (with_outs g (sites_of g.untracked done (name_of f)) f ∷ [])) ∙ append_assoc (map (λ (h : ModuleOuts). h.known) done) (f ∷ []) fs)

  marks_from : (P : ModuleOuts → Type 0) (cs : Callees) (fs : List ModuleOuts) → Each P fs → Each (λ (f : ModuleResults). P (phases_of f)) (found_in g.untracked cs fs)
  marks_from P cs [] h = tt
  marks_from P cs (f ∷ fs) h = (h.0, marks_from P (with_callee (with_marks g.untracked cs f) cs) fs h.1)

  marks_of_outs : (P : ModuleOuts → Type 0) → Each P (outs_of ps sss g) → Each (λ (f : ModuleResults). P (phases_of f)) (all_marks g (outs_of ps sss g))
  marks_of_outs P h = marks_from P no_callees (reverse (outs_of ps sss g)) (each_reverse P (outs_of ps sss g) h)

  abbrev the_ins : List ModuleIns
  the_ins = all_ins g (all_regions g (analyses (known_of ps sss) g))

  marks_of_ins : (P : ModuleIns → Type 0) → Each P (all_ins g (all_regions g (analyses (known_of ps sss) g))) → Each (λ (f : ModuleResults). P (phases_of f).known) (all_marks g (outs_of ps sss g))
  marks_of_ins P h =
      let fs = all_ins g (all_regions g (analyses (known_of ps sss) g)) in
      marks_of_outs (λ (f : ModuleOuts). P f.known)
      (each_back (λ (f : ModuleOuts). f.known) P (outs_of ps sss g) (subst (Each P) (sym (ins [] (reverse fs))) (each_reverse P fs h)))

  -- ---- of an execution in whatever module

  module _ (y : Execution) (later : List Event) (loops : AllLoopsHold (known_of ps sss) g (all_ins g (all_regions g (analyses (known_of ps sss) g))) y) (units : AllUnitsStand (known_of ps sss) g (outs_of ps sss g) y) (effects : AllHold (known_of ps sss) g (bottom_up (known_of ps sss) g) (occurrence_of y later)) where
    abbrev LoopsOf : ModuleIns → Type 0
    LoopsOf f = f.known.analysis.found.known.read.name ≡ y.spot.module_name → LoopsHold (known_of ps sss) g f y

    abbrev UnitsOf : ModuleOuts → Type 0
    UnitsOf f = f.known.known.analysis.found.known.read.name ≡ y.spot.module_name → ModuleUnitsStand (known_of ps sss) g f.known y

    abbrev KnownOf : ModuleResults → Type 0
    KnownOf f = f.known.read.name ≡ y.spot.module_name → MarkedLoopIsKnown (known_of ps sss) g f y

    given_effect : (f : ModuleResults) → Stands f → f.known.read.name ≡ y.spot.module_name → (n : ℕ) → y.spot.statement ≡ n → (e : EffectSet) → GivenAt f.effects.at n e → EffectsHold (known_of ps sss) g e (occurrence_of y later)
    given_effect f st q zero s e h = absurd (let above = h.above in omega (arith, above))
    given_effect f st q (suc n) s e h =
        effects st.made.at f.known e st.made.is_module q
        (subst (λ i. GivesEffect (cumulated_of f.known.read.body (bottom_up (known_of ps sss) g f.known.read.name) f.known.symbols) i e) (sym s)
        (h.place, ap (λ (r : Results EffectSet). slice_get r.at h.place) (sym st.made.effects) ∙ h.given))

    one : (f : ModuleResults) → Stands f → LoopsOf (phases_of f).known × UnitsOf (phases_of f) → KnownOf f
    one f st h q ended l is_do reductions said v xs sc body r u inner locked same does own wider private parts begins =
        let found = is_found (known_of ps sss) g g.order f st.made st.numbered st.beyond y.spot.statement l is_do reductions said v in
        loop_known (known_of ps sss) g f y later ended (h.0 q) (h.1 q) l is_do said found (given_effect f st q y.spot.statement refl found.calm.effect found.calm.at) sc locked same does xs body r u inner own wider private parts begins

    all_known : AllMarkedLoopsAreKnown (known_of ps sss) g (all_marks g (outs_of ps sss g)) y
    all_known =
        let fs = all_marks g (outs_of ps sss g) in
        all_of_each KnownOf fs
        (each_two Stands (λ (f : ModuleResults). LoopsOf (phases_of f).known × UnitsOf (phases_of f)) KnownOf one fs stands
        (each_two (λ (f : ModuleResults). LoopsOf (phases_of f).known) (λ (f : ModuleResults). UnitsOf (phases_of f)) (λ (f : ModuleResults). LoopsOf (phases_of f).known × UnitsOf (phases_of f)) (λ f a b. (a, b)) fs
        (marks_of_ins LoopsOf (each_of_all LoopsOf (all_ins g (all_regions g (analyses (known_of ps sss) g))) loops))
        (marks_of_outs UnitsOf (each_of_all UnitsOf (outs_of ps sss g) units))))

  marked_loops_known : ReadLoopsHold → ReadUnitsStand → AllAreOfPrograms → InEachExecution (known_of ps sss) g (AllMarkedLoopsAreKnown (known_of ps sss) g (all_marks g (outs_of ps sss g)))
  marked_loops_known loops units effects turns input =
      let p = program_of (known_of ps sss) g in
      at_each (AllLoopsHold (known_of ps sss) g (all_ins g (all_regions g (analyses (known_of ps sss) g)))) (AllUnitsStand (known_of ps sss) g (outs_of ps sss g)) (AllHold (known_of ps sss) g (bottom_up (known_of ps sss) g))
      (AllMarkedLoopsAreKnown (known_of ps sss) g (all_marks g (outs_of ps sss g))) all_known (program_plan p turns) p.initial input (λ f z j. []) (loops ps sss g x turns input) (units ps sss g x turns input) (effects ps sss g x turns input)

pub read_marked_loops_known : ReadLoopsHold → ReadUnitsStand → AllAreOfPrograms → ReadMarkedLoopsAreKnown
read_marked_loops_known loops units effects ps sss g x = marked_loops_known ps sss g x loops units effects
