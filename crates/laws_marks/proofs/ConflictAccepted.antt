-- Programs that are read: what is claimed of loops holds in every run.
use Rattle.std.proofs.Common.{◌≡◌, ℕ, Bool, List, [], ◌∷◌, ◌++◌, sym, ap, ap₂, ◌∙◌, subst}
use Rattle.std.specs.Prelude.{All}
use Rattle.std.proofs.lemmas.List.Elements.{All-nil, All-cons}
use Rattle.affine_systems.specs.declared.row.System.{System}
use Rattle.f77_ast.specs.Trees.{LoopTree}
use Rattle.f77_ast.specs.DeclTrees.{ParsedTree}
use Rattle.f77_ast.specs.Store.{Store}
use Rattle.f77_ast.specs.StatementNumbers.{HasNumbers}
use Rattle.f77_ast.specs.Programs.{program_plan}
use Rattle.f77_ast.specs.declared.variable.Variable.{Variable as Named}
use Rattle.f77_ast.specs.declared.variable.Unit.{Unit as BlockUnit}
use Rattle.f77_ast.specs.Symbols.{SymbolTree}
use Rattle.f77_ast.specs.declared.results.Results.{Results}
use Rattle.call_graph.specs.declared.graph.Graph.{Graph}
use Rattle.f77_meaning.specs.Modules.{Known, known_of}
use Rattle.f77_meaning.specs.Linked.{program_of}
use Rattle.preconditions.specs.transformer_algebra.declared.transformer.Transformer.{Transformer}
use Rattle.preconditions.specs.call_translation.Sites.{HoldingSite}
use Rattle.preconditions.specs.transformers.Given.{Callees}
use Rattle.preconditions.specs.transformers.Lists.{transformer_at}
use Rattle.preconditions.specs.Modules.{preconditions_of}
use Rattle.in_out_regions.specs.region_sets.declared.region.Region.{Region}
use Rattle.in_out_regions.specs.region_sets.Lists.{accesses_at, set_at}
use Rattle.in_out_regions.specs.array_regions.Calls.{Callees as Summaries}
use Rattle.in_out_regions.specs.array_regions.Modules.{regions_with}
use Rattle.loop_marker.specs.module_phases.RegionPhases.{ModuleRegions, no_callees, regions_found, with_regions, all_regions}
use Rattle.in_out_regions.specs.Modules.{ins_with}
use Rattle.loop_marker.specs.module_phases.InPhases.{ModuleIns, with_callee, ins_found, with_ins, found_in as with_ins_of, all_ins}
use Rattle.loop_marker.specs.privatizer.Uses.{ins_in}
use Rattle.loop_marker.specs.module_phases.ScalarPhases.{scope_of, Analysis, analyses}
use Rattle.loop_marker.specs.dependence_test.Body.{body_of}
use Rattle.laws_programs.specs.Programs.{IsProgram}
use Rattle.laws_programs.proofs.Sources.{all_built}
use Rattle.laws_programs.proofs.Tables.{programs_are_linked}
use Rattle.laws_programs.proofs.Whole.{modules_are_read}
use Rattle.laws_programs.specs.roundtrip_programs.ModuleTexts.Cards.{statements_of}
use Rattle.call_graph.specs.CallsIn.{Each}
use Rattle.laws_analyses.specs.Statements.Results.{found_in}
use Rattle.laws_programs.specs.Storage.Programs.{IsLinked, IsModule, known}
use Rattle.laws_programs.proofs.Storage.ModuleLaws.{known_module}
use Rattle.laws_analyses.specs.Calls.Parts.{Blocks, Part}
use Rattle.laws_analyses.specs.Calls.ProgramLaws.{routines, AnalysedProgram, ProgramHolds}
use Rattle.laws_analyses.specs.Parts.{scope_in, part_of}
use Rattle.laws_analyses.specs.Analysed.{part_named}
use Rattle.laws_analyses.specs.JumpLaws.{JumpsStayInside}
use Rattle.laws_analyses.specs.Results.{callees_of_all, analysed_entry, analysed_sites}
use Rattle.laws_analyses.specs.ScalarLaws.{NamesAgree, AcceptedDataStaysInLocals}
use Rattle.laws_analyses.proofs.Analyses.{Located, all_located, holds_are}
use Rattle.laws_analyses.proofs.IntegerLaws.{integers_fit}
use Rattle.laws_analyses.proofs.MainLaws.{main_from, built_at}
use Rattle.laws_analyses.proofs.Modules.{module_named_is}
use Rattle.laws_analyses.proofs.UnitLaws.{module_at}
use Rattle.laws_analyses.proofs.Whole.{analyses_follow, settled as is_settled, ready as is_ready}
use Rattle.laws_analyses.specs.Regions.Accepted.{summaries_of as reads_of}
use Rattle.laws_analyses.specs.Regions.Programs.{regions_in_part}
use Rattle.laws_marks.specs.InPrograms.{ins_in_part}
use Rattle.laws_analyses.proofs.Regions.Carrying.{LinkLaws}
use Rattle.laws_analyses.proofs.Regions.Parts.{program, program_is}
use Rattle.laws_analyses.proofs.Regions.Summaries as regions
use Rattle.laws_analyses.proofs.Regions.ToldBlocks.{blocks_told}
use Rattle.laws_analyses.proofs.Regions.ToldSymbols.{names_told}
use Rattle.laws_marks.specs.InAccepted.{summaries_of}
use Rattle.laws_marks.specs.InTogether.{LocalsAreSavedTogether}
use Rattle.laws_marks.proofs.InAccepted.{all_laid, main_laid}
use Rattle.laws_marks.proofs.InLayouts.{may_name}
use Rattle.laws_marks.proofs.InSummaries as ins
use Rattle.laws_marks.proofs.InWhole.{LaidPart, LaidParts, part_first, parts_first}
use Rattle.laws_marks.specs.ConflictExecutions.{Execution, InEachExecution}
use Rattle.laws_marks.specs.ConflictIterations.{iterations}
use Rattle.laws_marks.specs.ConflictClaims.{LoopIs, LoopsHold}
use Rattle.laws_marks.specs.ConflictPrograms.{holding, PartLoopsHold, EachLoopHolds}
use Rattle.laws_marks.specs.ConflictAccepted.{AllLoopsHold, ReadLoopsHold}
use Rattle.laws_marks.proofs.ConflictEach.{plan_more}
use Rattle.laws_marks.proofs.ConflictModules.{loops_hold}
use Rattle.laws_programs.proofs.Effects.Once.{main_of_linked as some_main}
use Rattle.laws_analyses.proofs.Regions.Accepted.{cards_of_held}
use Rattle.call_graph.proofs.EachLaws.{each_both as each_and, each_more}

-- ---- programs with what tables and layouts give

loops_of : LinkLaws → ProgramHolds → (b : Blocks) (cs : Callees) (sites : List ℕ → List HoldingSite) (of : List ℕ → Part) (may : Part → Named → Bool) (main : Part) (parts : List Part) (z : Store) → AnalysedProgram b cs sites of main parts z → (ks : List Known) (g : Graph) (rs is : List ℕ → Summaries) →
    LaidPart ks g b cs rs is may parts main → LaidParts ks g b cs rs is may parts → program_of ks g ≡ record { main = main.routine; others = routines parts; initial = z } → InEachExecution ks g (EachLoopHolds ks g cs rs is of)
loops_of laws holds b cs sites of may main parts z pl ks g rs is rm re e =
    loops_hold holds b cs sites of may main parts z pl ks g rs is
    (λ n. (part_first ks g b cs rs is may laws sites of n parts re pl.parts_analysed main pl.sane pl.analysed rm, parts_first ks g b cs rs is may laws sites of n parts re pl.parts_analysed)) e

-- ---- the modules with their IN regions

each_known : (u : List BlockUnit) (P : ModuleRegions → Type 0) (cs : Summaries) (fs : List ModuleRegions) → Each P fs → Each (λ (f : ModuleIns). P f.known) (with_ins_of u cs fs)
each_known u P cs [] h = tt
each_known u P cs (f ∷ fs) h = (h.0, each_known u P (with_callee (with_ins u cs f) cs) fs h.1)

-- ---- what is claimed of a part is what is claimed of its module

module _ (ps : List ParsedTree) (sss : List (List SymbolTree)) (g : Graph) (l : IsLinked ps sss g) (numbered : (i : ℕ) (p : ParsedTree) (ss : List SymbolTree) → IsModule ps sss i p ss → HasNumbers p.module_read.body) where
  abbrev ks : List Known
  ks = known_of ps sss

  abbrev all : Callees
  all = callees_of_all (known_of ps sss) g

  abbrev rs : List ℕ → Summaries
  rs = reads_of g (analyses (known_of ps sss) g)

  abbrev is : List ℕ → Summaries
  is = summaries_of g (analyses (known_of ps sss) g)

  abbrev part : Known → Part
  part k = part_of (known_of ps sss) g (callees_of_all (known_of ps sss) g) (analysed_entry (known_of ps sss) g k) k

  abbrev of : List ℕ → Part
  of = part_named (known_of ps sss) g (callees_of_all (known_of ps sss) g) (analysed_entry (known_of ps sss) g)

  pub found_regions : (a : Analysis) → Located ps sss g l (analyses (known_of ps sss) g) a → (c : Summaries) → regions_found g.untracked c a ≡ regions_in_part g (callees_of_all (known_of ps sss) g) c (part a.found.known)
  found_regions a r c = ap (λ (t : Results Transformer). regions_with a.found.known.read.body (scope_of g.untracked a.found.known) g.untracked t.at c) r.good.own

  -- what holds at its statements
  found_holds : (a : Analysis) → Located ps sss g l (analyses (known_of ps sss) g) a → a.holds ≡ preconditions_of a.found.known.read.body (scope_in g a.found.known) (found_in a.found.known.read.body (scope_in g a.found.known) (callees_of_all (known_of ps sss) g)) (analysed_entry (known_of ps sss) g a.found.known)
  found_holds a r =
      let m = module_at ps sss r.good.at a.found.known r.good.is_module in
      subst (λ (k : Known). a.holds ≡ preconditions_of k.read.body (scope_in g k) (found_in k.read.body (scope_in g k) (callees_of_all (known_of ps sss) g)) (analysed_entry (known_of ps sss) g k)) m.same
      (holds_are ps sss g l r.good.at m.parsed m.table m.is_module (numbered r.good.at m.parsed m.table m.is_module) a r (sym m.same))

  pub each_back : {T : Type 0} (P : T → Type 0) (xs ys : List T) → Each P (xs ++ ys) → Each P ys
  each_back P [] ys h = h
  each_back P (x ∷ xs) ys h = each_back P xs ys h.1

  found_ins : (a : Analysis) → Located ps sss g l (analyses (known_of ps sss) g) a → (c d : Summaries) → ins_found g.untracked d (with_regions g.untracked c a) ≡ ins_in_part g (callees_of_all (known_of ps sss) g) c d (part a.found.known)
  found_ins a r c d = ap (λ (t : Results Transformer). ins_with a.found.known.read.body (scope_of g.untracked a.found.known) g.untracked t.at (regions_with a.found.known.read.body (scope_of g.untracked a.found.known) g.untracked t.at c).at d) r.good.own

  -- transformers and preconditions of a module
  abbrev does : Known → ℕ → Transformer
  does k = found_in k.read.body (scope_in g k) (callees_of_all (known_of ps sss) g)

  abbrev found_system : Known → Results System
  found_system k = preconditions_of k.read.body (scope_in g k) (found_in k.read.body (scope_in g k) (callees_of_all (known_of ps sss) g)) (analysed_entry (known_of ps sss) g k)

  module _ (x : Execution) (h : EachLoopHolds (known_of ps sss) g (callees_of_all (known_of ps sss) g) (reads_of g (analyses (known_of ps sss) g)) (summaries_of g (analyses (known_of ps sss) g)) (part_named (known_of ps sss) g (callees_of_all (known_of ps sss) g) (analysed_entry (known_of ps sss) g)) x) where
    -- by these results
    abbrev Told : Known → LoopTree → (ℕ → Transformer) → Results System → Results (List Region) → Results (List Region) → Type 0
    Told k this_loop t v R S =
        LoopIs (known_of ps sss) g (scope_of g.untracked k) x.places
        (record { loop = this_loop; body = body_of this_loop (scope_of g.untracked k) t v.at (accesses_at R.at); ins = ins_in k.symbols t (set_at R.at) (set_at S.at) this_loop })
        x.start (iterations x.does x.start x.input)

    holds_of : (f : ModuleIns) → regions.Placed g.untracked (analyses (known_of ps sss) g) f.known × ins.Placed g.untracked (analyses (known_of ps sss) g) f → f.known.analysis.found.known.read.name ≡ x.spot.module_name → LoopsHold (known_of ps sss) g f x
    holds_of f placed n this_loop e =
        let a : Analysis = f.known.analysis in
        let q = placed.0 in
        let w = placed.1 in
        let r = (each_back (Located ps sss g l (analyses (known_of ps sss) g)) q.front (a ∷ q.rest) (subst (Each (Located ps sss g l (analyses (known_of ps sss) g))) q.parts (all_located ps sss g l))).0 in
        let name = a.found.known.read.name in
        let same : f.known.regions ≡ regions_in_part g (callees_of_all (known_of ps sss) g) (rs name) (part a.found.known) =
        q.regions ∙ (ap (λ (c : Summaries). regions_found g.untracked c a) (sym (regions.summaries_are ps sss g l q.front a q.rest q.parts)) ∙ found_regions a r (rs name)) in
        let same_ins : f.ins ≡ ins_in_part g (callees_of_all (known_of ps sss) g) (rs name) (is name) (part a.found.known) =
        w.ins ∙ (ap₂ (λ (c d : Summaries). ins_found g.untracked d (with_regions g.untracked c a)) (sym (regions.summaries_are ps sss g l w.front a w.rest w.parts)) (sym (ins.summaries_are ps sss g l w.front a w.rest w.parts)) ∙ found_ins a r (rs name) (is name)) in
        let named : of name ≡ part a.found.known = ap part (module_named_is ps sss g l r.good.at a.found.known r.good.is_module) in
        let there : of x.spot.module_name ≡ part a.found.known = ap of (sym n) ∙ named in
        let here = subst (λ (p : Part). PartLoopsHold (known_of ps sss) g (callees_of_all (known_of ps sss) g) (rs p.routine.name) (is p.routine.name) p x) there h in
        subst (λ (t : Results Transformer). Told a.found.known this_loop (transformer_at t.at) a.holds f.known.regions f.ins) (sym r.good.own)
        (subst (λ (v : Results System). Told a.found.known this_loop (does a.found.known) v f.known.regions f.ins) (sym (found_holds a r))
        (subst (λ (R : Results (List Region)). Told a.found.known this_loop (does a.found.known) (found_system a.found.known) R f.ins) (sym same)
        (subst (λ (S : Results (List Region)). Told a.found.known this_loop (does a.found.known) (found_system a.found.known) (regions_in_part g (callees_of_all (known_of ps sss) g) (rs name) (part a.found.known)) S) (sym same_ins)
        (here this_loop e))))

    all_of_each : {T : Type 0} (P : T → Type 0) (xs : List T) → Each P xs → All P xs
    all_of_each P [] e = All-nil P
    all_of_each P (y ∷ xs) e = All-cons P y xs e.0 (all_of_each P xs e.1)

    follows : AllLoopsHold (known_of ps sss) g (all_ins g (all_regions g (analyses (known_of ps sss) g))) x
    follows =
        let P : ModuleIns → Type 0 = λ f. f.known.analysis.found.known.read.name ≡ x.spot.module_name → LoopsHold (known_of ps sss) g f x in
        all_of_each P (all_ins g (all_regions g (analyses (known_of ps sss) g)))
        (each_more (λ f. regions.Placed g.untracked (analyses (known_of ps sss) g) f.known × ins.Placed g.untracked (analyses (known_of ps sss) g) f) P (all_ins g (all_regions g (analyses (known_of ps sss) g))) holds_of
        (each_and (λ (f : ModuleIns). regions.Placed g.untracked (analyses (known_of ps sss) g) f.known) (λ f. ins.Placed g.untracked (analyses (known_of ps sss) g) f) (all_ins g (all_regions g (analyses (known_of ps sss) g)))
        (each_known g.untracked (regions.Placed g.untracked (analyses (known_of ps sss) g)) no_callees (all_regions g (analyses (known_of ps sss) g)) (regions.regions_placed ps sss g l))
        (ins.ins_placed ps sss g l)))

-- ---- programs that are read

module _ (names : NamesAgree) (stays : JumpsStayInside) (ps : List ParsedTree) (sss : List (List SymbolTree)) (g : Graph) (x : IsProgram ps sss g) where
  all_hold : LinkLaws → ProgramHolds → AcceptedDataStaysInLocals → LocalsAreSavedTogether → InEachExecution (known_of ps sss) g (AllLoopsHold (known_of ps sss) g (all_ins g (all_regions g (analyses (known_of ps sss) g))))
  all_hold laws holds lies together turns input =
      let ks = known_of ps sss in
      let cs = callees_of_all ks g in
      let sites = analysed_sites ks g in
      let entry = analysed_entry ks g in
      let of = part_named ks g cs entry in
      let linked = programs_are_linked ps sss g x in
      let r = main_from ps sss x.tables (some_main ps sss g x.links) in
      let main = known r.parsed r.table in
      let is = known_module ps sss r.at r.parsed r.table r.is_module in
      let alone = (modules_are_read x.lines ps sss x.parsed x.tables r.at main is).main r.main in
      let analysed = analyses_follow ps sss g linked.0 (λ i p ss m. (is_settled names stays ps sss g x i p ss m).numbered) in
      let initialised = lies x.lines ps sss x.parsed x.tables in
      let fit = integers_fit x.lines ps sss x.parsed x.tables in
      let plain = λ (i : ℕ) (p : ParsedTree) (ss : List SymbolTree) (m : IsModule ps sss i p ss). (modules_are_read x.lines ps sss x.parsed x.tables i (known p ss) (known_module ps sss i p ss m)).name in
      let told = λ (i : ℕ) (p : ParsedTree) (ss : List SymbolTree) (m : IsModule ps sss i p ss). (let built = built_at ps (all_built x.lines ps x.parsed) i p m.parsed in names_told p ss built.well (cards_of_held (statements_of p.module_read) built.formed) (linked.1 i p ss m)) in
      let blocks = λ (i : ℕ) (p : ParsedTree) (ss : List SymbolTree) (m : IsModule ps sss i p ss). (let built = built_at ps (all_built x.lines ps x.parsed) i p m.parsed in blocks_told p ss (cards_of_held (statements_of p.module_read) built.formed) (linked.1 i p ss m)) in
      let whole = program ps sss g linked.0 linked.1 (is_ready names stays ps sss g x) cs sites entry analysed initialised r.at r.parsed r.table r.is_module r.is_main r.main alone in
      let is_program = program_is ps sss g linked.0 linked.1 (is_ready names stays ps sss g x) cs sites entry analysed initialised r.at r.parsed r.table r.is_module r.is_main r.main alone in
      let each = loops_of laws holds _ cs sites of (may_name ps sss g) _ _ _ whole ks g (reads_of g (analyses ks g)) (summaries_of g (analyses ks g))
      (main_laid ps sss g linked.0 linked.1 x.tables (is_ready names stays ps sss g x) analysed fit together plain told blocks r.at r.parsed r.table r.is_module)
      (all_laid ps sss g linked.0 linked.1 x.tables (is_ready names stays ps sss g x) analysed fit together plain told blocks) is_program in
      plan_more (EachLoopHolds ks g cs (reads_of g (analyses ks g)) (summaries_of g (analyses ks g)) of) (AllLoopsHold ks g (all_ins g (all_regions g (analyses ks g)))) (λ y h. follows ps sss g linked.0 (λ i p ss m. (is_settled names stays ps sss g x i p ss m).numbered) y h) (program_plan (program_of ks g) turns) (program_of ks g).initial input (each turns input)

-- where what is said of names, of DATA, of jumps, of links, of saved locals and of preconditions holds, what is known of loops holds in every run of a program that is read
pub read_loops_hold : NamesAgree → AcceptedDataStaysInLocals → JumpsStayInside → LinkLaws → LocalsAreSavedTogether → ProgramHolds → ReadLoopsHold
read_loops_hold names lies stays laws together holds ps sss g x = all_hold names stays ps sss g x laws holds lies together
