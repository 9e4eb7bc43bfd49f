-- The modules of a program that is read are such as the laws of IN regions ask; where regions are carried to callers, IN regions hold in every run.
use Rattle.std.proofs.Common.{◌≡◌, ℕ, List, [], ◌∷◌, ◌++◌, map, Option, Some, None, true, false, refl, sym, ap, ap₂, ◌∙◌, subst}
use Rattle.std.specs.Prelude.{All}
use Rattle.std.proofs.lemmas.List.Elements.{All-nil, All-cons}
use Rattle.f77_ast.specs.DeclTrees.{ParsedTree}
use Rattle.f77_ast.specs.Programs.{program_plan}
use Rattle.f77_ast.specs.declared.symbol.Place.TheVariants as place
use Rattle.f77_ast.specs.Symbols.{SymbolTree}
use Rattle.f77_ast.specs.Shared.{symbol_at}
use Rattle.f77_ast.specs.declared.results.Results.{Results}
use Rattle.call_graph.specs.declared.graph.Graph.{Graph}
use Rattle.f77_meaning.specs.Claimed.{InEveryRun}
use Rattle.f77_meaning.specs.Modules.{Known, known_of}
use Rattle.f77_meaning.specs.Linked.{program_of}
use Rattle.f77_meaning.specs.Occurrences.{Occurrence}
use Rattle.affine_systems.specs.declared.row.Var.{Var}
use Rattle.affine_systems.specs.declared.row.Var.TheVariants.{Cell, Exit, Phi, Aux}
use Rattle.preconditions.specs.transformer_algebra.declared.transformer.Transformer.{Transformer}
use Rattle.preconditions.specs.transformers.Given.{Callees}
use Rattle.preconditions.specs.transformers.Lists.{transformer_at}
use Rattle.in_out_regions.specs.region_sets.declared.region.Region.{Region}
use Rattle.in_out_regions.specs.array_regions.Calls.{Callees as Summaries}
use Rattle.in_out_regions.specs.array_regions.Modules.{regions_with}
use Rattle.loop_marker.specs.module_phases.RegionPhases.{with_regions, all_regions}
use Rattle.in_out_regions.specs.Modules.{ins_with}
use Rattle.loop_marker.specs.module_phases.InPhases.{ModuleIns, ins_found, all_ins}
use Rattle.loop_marker.specs.module_phases.ScalarPhases.{scope_of, Analysis, analyses}
use Rattle.laws_programs.specs.Programs.{AreTables, IsProgram}
use Rattle.laws_programs.proofs.Sources.{all_built}
use Rattle.laws_programs.proofs.Tables.{programs_are_linked}
use Rattle.laws_programs.proofs.Whole.{modules_are_read}
use Rattle.laws_programs.specs.roundtrip_programs.Statements.Phrased.{IsPhrase}
use Rattle.laws_programs.specs.roundtrip_programs.ModuleTexts.Cards.{Card, statements_of}
use Rattle.laws_programs.proofs.RoundtripPrograms.ModuleTexts.Kept.{Held}
use Rattle.laws_programs.specs.Effects.Tables.{is_plain}
use Rattle.call_graph.specs.CallsIn.{CallAt, Each, list_calls}
use Rattle.laws_programs.specs.Storage.Below.{HasCall}
use Rattle.laws_programs.specs.Storage.Calls.{AreLaidOut}
use Rattle.laws_programs.specs.Storage.DataLaws.{AllConstantsFit}
use Rattle.laws_programs.specs.Storage.Programs.{IsLinked, IsModule, known}
use Rattle.laws_programs.proofs.Storage.CallLaws.{calls_are_listed}
use Rattle.laws_programs.proofs.Storage.ModuleLaws.{known_module}
use Rattle.laws_analyses.specs.Calls.Parts.{Blocks, Part}
use Rattle.laws_analyses.specs.Calls.Sites.{lookup}
use Rattle.laws_analyses.specs.Parts.{blocks_in, part_of}
use Rattle.laws_analyses.specs.Analysed.{part_named, AreAnalysed}
use Rattle.laws_analyses.specs.JumpLaws.{JumpsStayInside}
use Rattle.laws_analyses.specs.Results.{callees_of_all, analysed_entry, analysed_sites}
use Rattle.laws_analyses.specs.ScalarLaws.{NamesAgree, AcceptedDataStaysInLocals}
use Rattle.laws_analyses.proofs.Analyses.{Located, all_located, analysis_of_module}
use Rattle.laws_analyses.proofs.CallLists.{each_in}
use Rattle.laws_analyses.proofs.Founds.{Calls}
use Rattle.laws_analyses.proofs.IntegerLaws.{integers_fit}
use Rattle.laws_analyses.proofs.MainLaws.{main_from, built_at}
use Rattle.laws_analyses.proofs.Modules.{IsIn, subs, subs_in, module_named_is}
use Rattle.laws_analyses.proofs.Passes.{name_of}
use Rattle.laws_analyses.proofs.Programs.{Ready}
use Rattle.laws_analyses.proofs.ThroughoutLaws.{throughout_more}
use Rattle.laws_analyses.proofs.UnitLaws.{module_at}
use Rattle.laws_analyses.proofs.Whole.{analyses_follow, settled as is_settled, ready as is_ready}
use Rattle.laws_lines.specs.Laws.{IsTracked}
use Rattle.laws_lines.specs.Halves.{IsHalfOf}
use Rattle.laws_lines.proofs.PhaseVars.{AnalysisOk, analyses_ok, found_done}
use Rattle.laws_lines.proofs.RuleVars.{IsDone}
use Rattle.laws_lines.proofs.SystemVars.{system_more}
use Rattle.laws_analyses.specs.Regions.Settings.{has_colon}
use Rattle.laws_analyses.specs.Regions.Accepted.{summaries_of as reads_of}
use Rattle.laws_analyses.proofs.Regions.Accepted.{regular_part, cards_of_held}
use Rattle.laws_analyses.proofs.Regions.Carrying.{LinkLaws}
use Rattle.laws_analyses.proofs.Regions.Parts.{found_part, program, program_is}
use Rattle.laws_analyses.proofs.Regions.Summaries.{summaries_are as reads_are, each_back}
use Rattle.laws_analyses.proofs.Regions.ToldBlocks.{blocks_told}
use Rattle.laws_analyses.proofs.Regions.ToldSymbols.{names_told}
use Rattle.laws_marks.specs.InAccepted.{summaries_of, AllInsHold, ReadInsHold}
use Rattle.laws_marks.specs.InClaims.{InRegionsHold}
use Rattle.laws_marks.specs.InLaid.{NamesGo}
use Rattle.laws_marks.specs.InPrograms.{ins_in_part, EachInHolds}
use Rattle.laws_marks.specs.InTogether.{LocalsAreSavedTogether}
use Rattle.laws_marks.proofs.InBelow.{Stands, AllBelow, subs_below, all_stand}
use Rattle.laws_marks.proofs.InLayouts.{such, may_name, module_laid, call_names}
use Rattle.laws_marks.proofs.InSummaries.{Placed, called_summary, summaries_are, ins_placed}
use Rattle.laws_marks.proofs.InWhole.{GoesIn, GoesFrom, LaidPart, LaidParts, program_ins_hold}
use Rattle.laws_programs.proofs.RoundtripPrograms.ModuleTexts.Cards.{Any as AnyLabel}
use Rattle.laws_programs.proofs.Effects.Once.{main_of_linked as some_main}
use Rattle.laws_programs.proofs.RoundtripPrograms.Body.{AreCards}
use Rattle.fx_lists.proofs.Every.{Anything, Every}
use Rattle.call_graph.proofs.EachLaws.{each_more}

-- ---- transformers over cells

half_any : (ok : ℕ → Type 0) (cs : List ℕ) (v : Var) → IsHalfOf ok cs v → IsHalfOf Anything cs v
half_any ok cs (Cell c) h = tt
half_any ok cs (Exit c) h = h
half_any ok cs (Phi c) h = h
half_any ok cs (Aux c) h = h

any_done : (ok : ℕ → Type 0) (t : Transformer) → IsDone ok t → IsDone Anything t
any_done ok t d = record { cells = λ c h. tt; system = system_more (IsHalfOf ok t.cells) (IsHalfOf Anything t.cells) (half_any ok t.cells) t.system d.system }

of_back : {T : Type 0} (P : T → Type 0) (xs ys : List T) → Every P (xs ++ ys) → Every P ys
of_back P [] ys h = h
of_back P (x ∷ xs) ys h = of_back P xs ys h.1

none_is : (k : Part) → None ≡ Some k → ⊥
none_is k e = cc

-- ---- the modules of a program

module _ (ps : List ParsedTree) (sss : List (List SymbolTree)) (g : Graph) (l : IsLinked ps sss g) (laid : AreLaidOut ps sss) (tables : AreTables ps sss) (ready : (i : ℕ) (p : ParsedTree) (ss : List SymbolTree) → IsModule ps sss i p ss → Ready g p ss) (analysed : AreAnalysed (known_of ps sss) g (callees_of_all (known_of ps sss) g) (analysed_sites (known_of ps sss) g) (analysed_entry (known_of ps sss) g)) where
  abbrev ks : List Known
  ks = known_of ps sss

  abbrev all : Callees
  all = callees_of_all (known_of ps sss) g

  abbrev b : Blocks
  b = blocks_in (known_of ps sss) g

  abbrev rs : List ℕ → Summaries
  rs = reads_of g (analyses (known_of ps sss) g)

  abbrev is : List ℕ → Summaries
  is = summaries_of g (analyses (known_of ps sss) g)

  abbrev part : Known → Part
  part k = part_of (known_of ps sss) g (callees_of_all (known_of ps sss) g) (analysed_entry (known_of ps sss) g k) k

  abbrev of : List ℕ → Part
  of = part_named (known_of ps sss) g (callees_of_all (known_of ps sss) g) (analysed_entry (known_of ps sss) g)

  -- its IN regions are those of its part
  pub found_ins : (a : Analysis) → Located ps sss g l (analyses (known_of ps sss) g) a → (c d : Summaries) → ins_found g.untracked d (with_regions g.untracked c a) ≡ ins_in_part g (callees_of_all (known_of ps sss) g) c d (part a.found.known)
  found_ins a r c d =
      ap (λ (t : Results Transformer). ins_with a.found.known.read.body (scope_of g.untracked a.found.known) g.untracked t.at (regions_with a.found.known.read.body (scope_of g.untracked a.found.known) g.untracked t.at c).at d) r.good.own

  -- the summary of what a CALL calls is known
  ins_known : (i : ℕ) (p : ParsedTree) (ss : List SymbolTree) → IsModule ps sss i p ss → (j : ℕ) (q : ParsedTree) (tt' : List SymbolTree) → IsModule ps sss j q tt' → HasCall p ss q.module_read.name →
      is p.module_read.name q.module_read.name ≡ Some (record { symbols = tt'; value = (ins_in_part g (callees_of_all (known_of ps sss) g) (rs q.module_read.name) (is q.module_read.name) (part (known q tt'))).summary })
  ins_known i p ss m j q tt' mq has =
      let x = analysis_of_module ps sss g l i p ss m in
      let y = analysis_of_module ps sss g l j q tt' mq in
      let there : Calls ps sss g l x.0.found.known (name_of y.0) = record { at = i; parsed = p; table = ss; is_module = m; same = sym x.2; call = subst (HasCall p ss) (ap (λ (z : Known). z.read.name) (sym y.2)) has } in
      let e = called_summary ps sss g l x.1.front x.0 x.1.rest x.1.parts y.1.front y.0 y.1.rest y.1.parts there in
      let f = e ∙ ap (λ (r : Results (List Region)). Some (record { symbols = y.0.found.known.symbols; value = r.summary })) (found_ins y.0 y.1 (rs (name_of y.0)) (is (name_of y.0))) in
      subst (λ (z : Known). is z.read.name q.module_read.name ≡ Some (record { symbols = tt'; value = (ins_in_part g (callees_of_all (known_of ps sss) g) (rs q.module_read.name) (is q.module_read.name) (part (known q tt'))).summary })) x.2
      (subst (λ (z : Known). is x.0.found.known.read.name z.read.name ≡ Some (record { symbols = z.symbols; value = (ins_in_part g (callees_of_all (known_of ps sss) g) (rs z.read.name) (is z.read.name) (part z)).summary })) y.2 f)

  -- its transformers are over cells
  module_done : (i : ℕ) (p : ParsedTree) (ss : List SymbolTree) → IsModule ps sss i p ss → (n : ℕ) → IsDone Anything ((part (known p ss)).found.transformer n)
  module_done i p ss m n =
      let x = analysis_of_module ps sss g l i p ss m in
      let a = x.0 in
      let r = x.1 in
      let ok = (of_back (AnalysisOk g.untracked) r.front (a ∷ r.rest) (subst (Every (AnalysisOk g.untracked)) r.parts (analyses_ok ps sss g tables))).0 in
      let own : IsDone Anything (transformer_at a.found.own.at n) = any_done (IsTracked g.untracked a.found.known) (transformer_at a.found.own.at n) (found_done (IsTracked g.untracked a.found.known) a.found.own.at ok.found.at n) in
      subst (λ (k : Known). IsDone Anything ((part k).found.transformer n)) x.2 (subst (λ (t : Results Transformer). IsDone Anything (transformer_at t.at n)) r.good.own own)

  module _ (fit : AllConstantsFit ps sss) (together : LocalsAreSavedTogether) (plain : (i : ℕ) (p : ParsedTree) (ss : List SymbolTree) → IsModule ps sss i p ss → is_plain p.module_read.name ≡ true) (told : (i : ℕ) (p : ParsedTree) (ss : List SymbolTree) → IsModule ps sss i p ss → (n : ℕ) (s : SymbolTree) → symbol_at ss n ≡ Some s → has_colon s.name ≡ false) (blocks : (i : ℕ) (p : ParsedTree) (ss : List SymbolTree) → IsModule ps sss i p ss → (n : ℕ) (s : SymbolTree) (y : List ℕ) (o : ℕ) → symbol_at ss n ≡ Some s → s.place ≡ place.Block y o → has_colon y ≡ false) where
    -- ---- a CALL

    call_goes : (i : ℕ) (p : ParsedTree) (ss : List SymbolTree) → IsModule ps sss i p ss → (j : ℕ) (q : ParsedTree) (tt' : List SymbolTree) → IsModule ps sss j q tt' → (x : List ℕ) → x ≡ q.module_read.name → HasCall p ss x →
        GoesIn (known_of ps sss) g (blocks_in (known_of ps sss) g) (callees_of_all (known_of ps sss) g) (reads_of g (analyses (known_of ps sss) g)) (summaries_of g (analyses (known_of ps sss) g)) (may_name ps sss g) (part (known p ss)) (part (known q tt')) x
    call_goes i p ss m j q tt' mq x named has = record {
      ins_known = ap (is p.module_read.name) named ∙ ins_known i p ss m j q tt' mq (subst (HasCall p ss) named has);
      names = subst (λ z. NamesGo (part (known q tt')) (such ps sss g p.module_read.name) (such ps sss g q.module_read.name) z) (sym named)
          (call_names ps sss g l laid plain told blocks i p ss m j q tt' mq (subst (HasCall p ss) named has) (callees_of_all (known_of ps sss) g) (analysed_entry (known_of ps sss) g (known q tt')));
    }

    module _ (below : List Known) (inside : Each (IsIn (known_of ps sss)) below) where
      go_there : (i : ℕ) (p : ParsedTree) (ss : List SymbolTree) → IsModule ps sss i p ss → (c : CallAt) → HasCall p ss c.callee → Stands ps sss g l (callees_of_all (known_of ps sss) g) (analysed_entry (known_of ps sss) g) below c.callee →
          GoesFrom (known_of ps sss) g (blocks_in (known_of ps sss) g) (callees_of_all (known_of ps sss) g) (reads_of g (analyses (known_of ps sss) g)) (summaries_of g (analyses (known_of ps sss) g)) (may_name ps sss g) (part (known p ss)) c.callee (lookup (map part below) c.callee)
      go_there i p ss m c has stands = go (lookup (map part below) c.callee) refl
        where
          go : (o : Option Part) → lookup (map part below) c.callee ≡ o →
              GoesFrom (known_of ps sss) g (blocks_in (known_of ps sss) g) (callees_of_all (known_of ps sss) g) (reads_of g (analyses (known_of ps sss) g)) (summaries_of g (analyses (known_of ps sss) g)) (may_name ps sss g) (part (known p ss)) c.callee o
          go None e = absurd (none_is stands.item (sym e ∙ stands.found))
          go (Some k) e =
              let f = found_part ps sss g l laid ready (callees_of_all (known_of ps sss) g) (analysed_sites (known_of ps sss) g) (analysed_entry (known_of ps sss) g) analysed below inside c.callee k e in
              let r = module_at ps sss f.is_in.at f.item f.is_in.is_module in
              subst (λ (z : Part). GoesIn (known_of ps sss) g (blocks_in (known_of ps sss) g) (callees_of_all (known_of ps sss) g) (reads_of g (analyses (known_of ps sss) g)) (summaries_of g (analyses (known_of ps sss) g)) (may_name ps sss g) (part (known p ss)) z c.callee) (ap part r.same ∙ sym f.same)
              (call_goes i p ss m f.is_in.at r.parsed r.table r.is_module c.callee (f.named ∙ ap (λ (z : Known). z.read.name) (sym r.same)) has)

      module_part : (i : ℕ) (p : ParsedTree) (ss : List SymbolTree) → IsModule ps sss i p ss → ((y : List ℕ) → HasCall p ss y → Stands ps sss g l (callees_of_all (known_of ps sss) g) (analysed_entry (known_of ps sss) g) below y) →
          LaidPart (known_of ps sss) g (blocks_in (known_of ps sss) g) (callees_of_all (known_of ps sss) g) (reads_of g (analyses (known_of ps sss) g)) (summaries_of g (analyses (known_of ps sss) g)) (may_name ps sss g) (map part below) (part (known p ss))
      module_part i p ss m stands = record {
        regular = regular_part ps sss g l laid ready analysed fit plain told blocks below inside (known p ss) (record { at = i; is_module = known_module ps sss i p ss m });
        laid = module_laid ps sss g l laid fit together i p ss m (callees_of_all (known_of ps sss) g) (analysed_entry (known_of ps sss) g (known p ss));
        done = module_done i p ss m;
        calls =
            each_more (λ (c : CallAt). HasCall p ss c.callee) (λ (c : CallAt). GoesFrom (known_of ps sss) g (blocks_in (known_of ps sss) g) (callees_of_all (known_of ps sss) g) (reads_of g (analyses (known_of ps sss) g)) (summaries_of g (analyses (known_of ps sss) g)) (may_name ps sss g) (part (known p ss)) c.callee (lookup (map part below) c.callee)) (list_calls p.module_read.body)
            (λ c has. go_there i p ss m c has (stands c.callee has))
            (each_in (λ n x es. HasCall p ss x) p.module_read.body (calls_are_listed p ss));
      }

    laid_parts : (xs : List Known) → Each (IsIn (known_of ps sss)) xs → AllBelow ps sss g l (callees_of_all (known_of ps sss) g) (analysed_entry (known_of ps sss) g) xs →
        LaidParts (known_of ps sss) g (blocks_in (known_of ps sss) g) (callees_of_all (known_of ps sss) g) (reads_of g (analyses (known_of ps sss) g)) (summaries_of g (analyses (known_of ps sss) g)) (may_name ps sss g) (map part xs)
    laid_parts [] h w = tt
    laid_parts (k ∷ xs) h w = (one, laid_parts xs h.1 w.1)
      where
        one : LaidPart (known_of ps sss) g (blocks_in (known_of ps sss) g) (callees_of_all (known_of ps sss) g) (reads_of g (analyses (known_of ps sss) g)) (summaries_of g (analyses (known_of ps sss) g)) (may_name ps sss g) (map part xs) (part k)
        one =
            let r = module_at ps sss h.0.at k h.0.is_module in
            subst (λ (z : Known). LaidPart (known_of ps sss) g (blocks_in (known_of ps sss) g) (callees_of_all (known_of ps sss) g) (reads_of g (analyses (known_of ps sss) g)) (summaries_of g (analyses (known_of ps sss) g)) (may_name ps sss g) (map part xs) (part z)) r.same
            (module_part xs h.1 h.0.at r.parsed r.table r.is_module (λ y has. w.0 h.0.at r.parsed r.table r.is_module r.same y has))

    pub all_laid : LaidParts (known_of ps sss) g (blocks_in (known_of ps sss) g) (callees_of_all (known_of ps sss) g) (reads_of g (analyses (known_of ps sss) g)) (summaries_of g (analyses (known_of ps sss) g)) (may_name ps sss g) (map part (subs (known_of ps sss) g.order))
    all_laid = laid_parts (subs (known_of ps sss) g.order) (subs_in (known_of ps sss) g.order) (subs_below ps sss g l (callees_of_all (known_of ps sss) g) (analysed_entry (known_of ps sss) g))

    pub main_laid : (i : ℕ) (p : ParsedTree) (ss : List SymbolTree) → IsModule ps sss i p ss →
        LaidPart (known_of ps sss) g (blocks_in (known_of ps sss) g) (callees_of_all (known_of ps sss) g) (reads_of g (analyses (known_of ps sss) g)) (summaries_of g (analyses (known_of ps sss) g)) (may_name ps sss g) (map part (subs (known_of ps sss) g.order)) (part (known p ss))
    main_laid i p ss m = module_part (subs (known_of ps sss) g.order) (subs_in (known_of ps sss) g.order) i p ss m (λ y has. all_stand ps sss g l (callees_of_all (known_of ps sss) g) (analysed_entry (known_of ps sss) g) i p ss m y has)

  -- ---- what is claimed of a part is what is claimed of its module's IN regions

  module _ (x : Occurrence) (h : EachInHolds (known_of ps sss) g (callees_of_all (known_of ps sss) g) (reads_of g (analyses (known_of ps sss) g)) (summaries_of g (analyses (known_of ps sss) g)) (part_named (known_of ps sss) g (callees_of_all (known_of ps sss) g) (analysed_entry (known_of ps sss) g)) x) where
    holds_of : (f : ModuleIns) → Placed g.untracked (analyses (known_of ps sss) g) f → f.known.analysis.found.known.read.name ≡ x.spot.module_name → InRegionsHold (known_of ps sss) g (scope_of g.untracked f.known.analysis.found.known) f.ins x
    holds_of f q n =
        let a : Analysis = f.known.analysis in
        let name = a.found.known.read.name in
        let r = (each_back (Located ps sss g l (analyses (known_of ps sss) g)) q.front (a ∷ q.rest) (subst (Each (Located ps sss g l (analyses (known_of ps sss) g))) q.parts (all_located ps sss g l))).0 in
        let same : f.ins ≡ ins_in_part g (callees_of_all (known_of ps sss) g) (rs name) (is name) (part a.found.known) =
        q.ins ∙ (ap₂ (λ (c d : Summaries). ins_found g.untracked d (with_regions g.untracked c a)) (sym (reads_are ps sss g l q.front a q.rest q.parts)) (sym (summaries_are ps sss g l q.front a q.rest q.parts)) ∙ found_ins a r (rs name) (is name)) in
        let named : of name ≡ part a.found.known = ap part (module_named_is ps sss g l r.good.at a.found.known r.good.is_module) in
        let there : of x.spot.module_name ≡ part a.found.known = ap of (sym n) ∙ named in
        subst (λ (R : Results (List Region)). InRegionsHold (known_of ps sss) g (scope_of g.untracked a.found.known) R x) (sym same)
        (subst (λ (p : Part). InRegionsHold (known_of ps sss) g p.scope (ins_in_part g (callees_of_all (known_of ps sss) g) (rs p.routine.name) (is p.routine.name) p) x) there h)

    pub all_of_each : {T : Type 0} (P : T → Type 0) (xs : List T) → Each P xs → All P xs
    all_of_each P [] e = All-nil P
    all_of_each P (y ∷ xs) e = All-cons P y xs e.0 (all_of_each P xs e.1)

    pub follows : AllInsHold (known_of ps sss) g (all_ins g (all_regions g (analyses (known_of ps sss) g))) x
    follows =
        let P : ModuleIns → Type 0 = λ f. f.known.analysis.found.known.read.name ≡ x.spot.module_name → InRegionsHold (known_of ps sss) g (scope_of g.untracked f.known.analysis.found.known) f.ins x in
        all_of_each P (all_ins g (all_regions g (analyses (known_of ps sss) g))) (each_more (Placed g.untracked (analyses (known_of ps sss) g)) P (all_ins g (all_regions g (analyses (known_of ps sss) g))) holds_of (ins_placed ps sss g l))

-- ---- programs

module _ (names : NamesAgree) (stays : JumpsStayInside) (ps : List ParsedTree) (sss : List (List SymbolTree)) (g : Graph) (x : IsProgram ps sss g) where
  -- IN regions hold in every run
  pub all_hold : LinkLaws → AcceptedDataStaysInLocals → LocalsAreSavedTogether → InEveryRun (known_of ps sss) g (AllInsHold (known_of ps sss) g (all_ins g (all_regions g (analyses (known_of ps sss) g))))
  all_hold laws lies together turns input =
      let ks = known_of ps sss in
      let cs = callees_of_all ks g in
      let sites = analysed_sites ks g in
      let entry = analysed_entry ks g in
      let of = part_named ks g cs entry in
      let linked = programs_are_linked ps sss g x in
      let r = main_from ps sss x.tables (some_main ps sss g x.links) in
      let main = known r.parsed r.table in
      let is = known_module ps sss r.at r.parsed r.table r.is_module in
      let alone = (modules_are_read x.lines ps sss x.parsed x.tables r.at main is).main r.main in
      let analysed = analyses_follow ps sss g linked.0 (λ i p ss m. (is_settled names stays ps sss g x i p ss m).numbered) in
      let initialised = lies x.lines ps sss x.parsed x.tables in
      let fit = integers_fit x.lines ps sss x.parsed x.tables in
      let plain = λ (i : ℕ) (p : ParsedTree) (ss : List SymbolTree) (m : IsModule ps sss i p ss). (modules_are_read x.lines ps sss x.parsed x.tables i (known p ss) (known_module ps sss i p ss m)).name in
      let told = λ (i : ℕ) (p : ParsedTree) (ss : List SymbolTree) (m : IsModule ps sss i p ss). (let built = built_at ps (all_built x.lines ps x.parsed) i p m.parsed in names_told p ss built.well (cards_of_held (statements_of p.module_read) built.formed) (linked.1 i p ss m)) in
      let blocks = λ (i : ℕ) (p : ParsedTree) (ss : List SymbolTree) (m : IsModule ps sss i p ss). (let built = built_at ps (all_built x.lines ps x.parsed) i p m.parsed in blocks_told p ss (cards_of_held (statements_of p.module_read) built.formed) (linked.1 i p ss m)) in
      let whole = program ps sss g linked.0 linked.1 (is_ready names stays ps sss g x) cs sites entry analysed initialised r.at r.parsed r.table r.is_module r.is_main r.main alone in
      let is_program = program_is ps sss g linked.0 linked.1 (is_ready names stays ps sss g x) cs sites entry analysed initialised r.at r.parsed r.table r.is_module r.is_main r.main alone in
      let each = program_ins_hold laws _ cs sites of (may_name ps sss g) _ _ _ whole ks g (reads_of g (analyses ks g)) (summaries_of g (analyses ks g))
      (main_laid ps sss g linked.0 linked.1 x.tables (is_ready names stays ps sss g x) analysed fit together plain told blocks r.at r.parsed r.table r.is_module)
      (all_laid ps sss g linked.0 linked.1 x.tables (is_ready names stays ps sss g x) analysed fit together plain told blocks) is_program in
      throughout_more (EachInHolds ks g cs (reads_of g (analyses ks g)) (summaries_of g (analyses ks g)) of) (AllInsHold ks g (all_ins g (all_regions g (analyses ks g)))) (λ y h. follows ps sss g linked.0 linked.1 x.tables (is_ready names stays ps sss g x) analysed y h) (program_plan (program_of ks g) turns) (program_of ks g).initial input (λ f z j. []) (each turns input)

-- where what is said of names, of DATA, of jumps, of links and of saved locals holds, IN regions hold in every run of a program that is read
pub read_ins_hold : NamesAgree → AcceptedDataStaysInLocals → JumpsStayInside → LinkLaws → LocalsAreSavedTogether → ReadInsHold
read_ins_hold names lies stays laws together ps sss g x = all_hold names stays ps sss g x laws lies together
