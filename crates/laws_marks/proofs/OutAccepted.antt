-- The modules of a program that is read are such as the laws of OUT regions ask: OUT regions hold in every run that no fault ends.
use Rattle.std.proofs.Common.{◌≡◌, ℕ, List, [], ◌∷◌, ◌++◌, ◌&&◌, map, Option, Some, None, Bool, true, false, refl, sym, ap, ◌∙◌, subst, true≢false}
use Rattle.std.specs.Prelude.{All, if◌then◌else◌, bytes_eq, not}
use Rattle.std.specs.List.{list_any}
use Rattle.std.proofs.lemmas.Bool.{and_parts, not-true}
use Rattle.std.proofs.lemmas.List.Elements.{All-nil, All-cons}
use Rattle.std.proofs.lemmas.Slice.Eq.{bytes_eq-Decides}
use Rattle.f77_ast.specs.Trees.{StmtTrees}
use Rattle.f77_ast.specs.DeclTrees.{ParsedTree}
use Rattle.f77_ast.specs.Places.{Place as RunPlace}
use Rattle.f77_ast.specs.Programs.{program_plan}
use Rattle.f77_ast.specs.declared.symbol.Place.{Place}
use Rattle.f77_ast.specs.declared.symbol.Place.TheVariants as place
use Rattle.f77_ast.specs.declared.variable.Variable.TheVariants.{Saved}
use Rattle.f77_ast.specs.Symbols.{SymbolTree, number_from}
use Rattle.f77_ast.specs.Shared.{symbol_at}
use Rattle.f77_ast.specs.declared.results.Results.{Results}
use Rattle.tracked_cells.specs.Standing.{is_int_scalar}
use Rattle.call_graph.specs.declared.graph.Graph.{Graph}
use Rattle.f77_meaning.specs.Modules.{Known, known_of, symbol_names}
use Rattle.f77_meaning.specs.Linked.{numbering, program_of}
use Rattle.f77_meaning.specs.Occurrences.{Occurrence}
use Rattle.f77_meaning.proofs.LinkLaws.{any_found}
use Rattle.f77_meaning.proofs.LinkedLaws.{linked_calls_fit}
use Rattle.affine_forms.specs.Scalars.{is_cell}
use Rattle.preconditions.specs.transformer_algebra.declared.transformer.Transformer.{Transformer}
use Rattle.preconditions.specs.transformer_algebra.Laws.{In}
use Rattle.preconditions.specs.call_translation.Sites.{SiteTree}
use Rattle.preconditions.specs.transformers.Given.{Callees}
use Rattle.in_out_regions.specs.region_sets.declared.region.Region.{Region}
use Rattle.in_out_regions.specs.call_equations.Sides.{entry_cells, changed_cells}
use Rattle.in_out_regions.specs.array_regions.Calls.{Callees as Summaries, scope_with}
use Rattle.in_out_regions.specs.array_regions.Modules.{regions_with}
use Rattle.loop_marker.specs.module_phases.RegionPhases.{with_regions, all_regions}
use Rattle.in_out_regions.specs.Modules.{ins_with}
use Rattle.loop_marker.specs.module_phases.InPhases.{with_ins, all_ins}
use Rattle.loop_marker.specs.out_regions.Used.{all_out}
use Rattle.loop_marker.specs.out_regions.Modules.{outs_with}
use Rattle.in_out_regions.specs.region_translation.Values.{is_dummy_place, is_scalar_dummy}
use Rattle.in_out_regions.specs.region_translation.Units.{size_in}
use Rattle.in_out_regions.specs.region_translation.Callee.{to_callee}
use Rattle.loop_marker.specs.module_phases.declared.out_site.OutSite.{OutSite}
use Rattle.loop_marker.specs.module_phases.OutPhases.{ModuleOuts, Caller, call_site, list_sites, handed_down, used_after, outs_found, caller_of, sites_of, all_outs}
use Rattle.loop_marker.specs.module_phases.ScalarPhases.{scope_of, Analysis, analyses}
use Rattle.laws_programs.specs.Programs.{IsProgram}
use Rattle.laws_programs.proofs.Tables.{programs_are_linked}
use Rattle.laws_programs.proofs.Whole.{modules_are_read}
use Rattle.laws_programs.proofs.Sources.{all_built}
use Rattle.laws_programs.specs.roundtrip_programs.ModuleTexts.Cards.{statements_of}
use Rattle.call_graph.specs.CallsIn.{CallAt, Each, list_calls}
use Rattle.laws_programs.specs.Storage.Below.{HasCall}
use Rattle.laws_programs.specs.Storage.Calls.{AreLaidOut}
use Rattle.laws_programs.specs.Storage.Programs.{IsLinked, IsModule, known}
use Rattle.laws_programs.proofs.Storage.CallLaws.{calls_are_listed, dummies_are_tracked}
use Rattle.laws_programs.proofs.Storage.FlagLaws.{cells_have_flags}
use Rattle.laws_programs.proofs.Storage.ModuleLaws.{known_module}
use Rattle.laws_analyses.specs.Calls.Parts.{Blocks, Part}
use Rattle.laws_analyses.specs.Calls.Sites.{lookup}
use Rattle.laws_analyses.specs.Parts.{blocks_in, part_of}
use Rattle.laws_analyses.specs.Analysed.{module_named, part_named, AreAnalysed}
use Rattle.laws_analyses.specs.JumpLaws.{JumpsStayInside}
use Rattle.laws_analyses.specs.Results.{callees_of_all, analysed_entry, analysed_sites}
use Rattle.laws_analyses.specs.ScalarLaws.{NamesAgree, AcceptedDataStaysInLocals}
use Rattle.laws_analyses.proofs.Analyses.{Located, all_located, analysis_of_module}
use Rattle.laws_analyses.proofs.CallLists.{each_in}
use Rattle.laws_analyses.proofs.Founds.{Calls}
use Rattle.laws_analyses.proofs.IntegerLaws.{integers_fit}
use Rattle.laws_analyses.proofs.MainLaws.{main_from, built_at}
use Rattle.laws_analyses.proofs.Modules.{IsIn, subs, subs_in, module_named_is}
use Rattle.laws_analyses.proofs.Passes.{name_of}
use Rattle.laws_analyses.proofs.Programs.{Ready}
use Rattle.laws_analyses.proofs.ThroughoutLaws.{throughout_more}
use Rattle.laws_analyses.proofs.UnitLaws.{module_at, scope_is}
use Rattle.laws_analyses.proofs.Whole.{analyses_follow, settled, ready}
use Rattle.laws_analyses.specs.Regions.Accepted.{after as reads_after, summaries_of as reads_of}
use Rattle.laws_analyses.specs.Regions.Settings.{is_told}
use Rattle.laws_analyses.proofs.Regions.Carrying.{LinkLaws}
use Rattle.laws_analyses.proofs.Regions.NamesOnce.{numbered_once}
use Rattle.laws_analyses.proofs.Regions.Parts.{found_part, program, program_is}
use Rattle.laws_analyses.proofs.Regions.Sending.{laid_in}
use Rattle.laws_analyses.proofs.Regions.Summaries.{is_behind, each_back, once, summaries_are as reads_are}
use Rattle.laws_analyses.proofs.Regions.ToldBlocks.{blocks_told}
use Rattle.laws_analyses.proofs.Regions.ToldSymbols.{names_told}
use Rattle.laws_marks.specs.InAccepted.{after, summaries_of}
use Rattle.laws_marks.specs.InTogether.{LocalsAreSavedTogether}
use Rattle.laws_marks.proofs.InAccepted.{main_laid, all_laid}
use Rattle.laws_marks.proofs.InLayouts.{leads, kept_named, such, may_name}
use Rattle.laws_marks.proofs.InSummaries.{summaries_are}
use Rattle.laws_marks.specs.OutAccepted.{used_run, used_for, AllOutsHold, ReadOutsHold}
use Rattle.laws_marks.specs.OutClaims.{OutRegionsHold}
use Rattle.laws_marks.specs.OutPrograms.{outs_in_part, EachOutHolds, DownPart}
use Rattle.laws_marks.proofs.OutReading.{read_part}
use Rattle.laws_marks.proofs.OutSummaries.{calls_sited, in_handed, front_outs, outs_at, stands_before, sites_in, used_at_place, Placed, outs_placed}
use Rattle.laws_marks.proofs.OutWhole.{Tells, TellsFrom, OutOf, OutsOf, program_outs_hold}
use Rattle.laws_analyses.proofs.Claimed.{all_of_each as all_each}
use Rattle.laws_programs.proofs.Effects.Once.{main_of_linked as some_main}
use Rattle.laws_analyses.proofs.Regions.Accepted.{cards_of_held}
use Rattle.in_out_regions.specs.region_sets.Lists.{set_at}
use Rattle.call_graph.proofs.EachLaws.{each_more}

-- what holds of each at its own name
each_at : (P : List ℕ → CallAt → Type 0) (cs : List CallAt) → ((x : List ℕ) → Each (P x) cs) → Each (λ a. P a.callee a) cs
each_at P [] h = tt
each_at P (c ∷ cs) h = ((h c.callee).0, each_at P cs (λ x. (h x).1))

both_each : (P Q : CallAt → Type 0) (cs : List CallAt) → Each P cs → Each Q cs → Each (λ a. P a × Q a) cs
both_each P Q [] h k = tt
both_each P Q (c ∷ cs) h k = ((h.0, k.0), both_each P Q cs h.1 k.1)

-- ---- the modules of a program

module _ (ps : List ParsedTree) (sss : List (List SymbolTree)) (g : Graph) (x : IsProgram ps sss g) (l : IsLinked ps sss g) (laid : AreLaidOut ps sss) where
  abbrev all : Callees
  all = callees_of_all (known_of ps sss) g

  abbrev b : Blocks
  b = blocks_in (known_of ps sss) g

  abbrev whole : List Analysis
  whole = analyses (known_of ps sss) g

  abbrev rs : List ℕ → Summaries
  rs = reads_of g (analyses (known_of ps sss) g)

  abbrev is : List ℕ → Summaries
  is = summaries_of g (analyses (known_of ps sss) g)

  abbrev us : List ℕ → List Region
  us = used_for g (analyses (known_of ps sss) g)

  abbrev part : Known → Part
  part k = part_of (known_of ps sss) g (callees_of_all (known_of ps sss) g) (analysed_entry (known_of ps sss) g k) k

  abbrev of : List ℕ → Part
  of = part_named (known_of ps sss) g (callees_of_all (known_of ps sss) g) (analysed_entry (known_of ps sss) g)

  -- ---- OUT regions of a module are those of its part

  found_outs : (a : Analysis) → Located ps sss g l (analyses (known_of ps sss) g) a → (c d : Summaries) (ss : List (SiteTree OutSite)) → outs_found g ss (with_ins g.untracked d (with_regions g.untracked c a)) ≡ outs_in_part g (callees_of_all (known_of ps sss) g) c d (used_after g a.found.known ss) (part a.found.known)
  found_outs a r c d ss =
      let body = a.found.known.read.body in
      let m = scope_of g.untracked a.found.known in
      ap (λ (t : Results Transformer). outs_with body m t.at (regions_with body m g.untracked t.at c).at (ins_with body m g.untracked t.at (regions_with body m g.untracked t.at c).at d).at (used_after g a.found.known ss)) r.good.own

  -- what may be read after it
  used_is : (front : List Analysis) (a : Analysis) (rest : List Analysis) → analyses (known_of ps sss) g ≡ front ++ a ∷ rest → us (name_of a) ≡ used_after g a.found.known (sites_of g.untracked (front_outs g [] front (a ∷ rest)) (name_of a))
  used_is front a rest e = ap (λ (w : List Analysis). used_run g [] w (name_of a)) e ∙ used_at_place g front a rest (once ps sss g l front a rest e)

  outs_are_of : (front : List Analysis) (a : Analysis) (rest : List Analysis) → analyses (known_of ps sss) g ≡ front ++ a ∷ rest → Located ps sss g l (analyses (known_of ps sss) g) a → (outs_at g front a rest).outs ≡ outs_in_part g (callees_of_all (known_of ps sss) g) (rs (name_of a)) (is (name_of a)) (us (name_of a)) (part a.found.known)
  outs_are_of front a rest e r =
      found_outs a r (reads_after g.untracked rest) (after g.untracked rest) (sites_of g.untracked (front_outs g [] front (a ∷ rest)) (name_of a))
      ∙ (λ i. outs_in_part g (callees_of_all (known_of ps sss) g) (sym (reads_are ps sss g l front a rest e) i) (sym (summaries_are ps sss g l front a rest e) i) (sym (used_is front a rest e) i) (part a.found.known))

  -- ---- a CALL hands down what may be read after what it calls

  abbrev Told : Part → CallAt → Part → Type 0
  Told h c k = Tells (known_of ps sss) g (blocks_in (known_of ps sss) g) (callees_of_all (known_of ps sss) g) (reads_of g (analyses (known_of ps sss) g)) (summaries_of g (analyses (known_of ps sss) g)) (used_for g (analyses (known_of ps sss) g)) (may_name ps sss g) h c k

  tells_at : (a : Analysis) (r : Located ps sss g l (analyses (known_of ps sss) g) a) (d : Analysis) (y : Located ps sss g l (analyses (known_of ps sss) g) d) (c : CallAt) → Calls ps sss g l a.found.known (name_of d) → d.found.known.read.main ≡ false → c.callee ≡ name_of d →
      In (call_site (caller_of g.untracked (outs_at g r.front a r.rest)) c.actuals c.number) (list_sites a.found.known.read.body (caller_of g.untracked (outs_at g r.front a r.rest)) c.callee) → Told (part a.found.known) c (part d.found.known)
  tells_at a r d y c calls sub named site o i q j =
      let behind = is_behind r.front a r.rest y.front d y.rest (sym r.parts ∙ y.parts) (r.calls (name_of d) calls).0 (r.calls (name_of d) calls).1 in
      let fh : ModuleOuts = outs_at g r.front a r.rest in
      let caller : Caller = caller_of g.untracked fh in
      let s : SiteTree OutSite = call_site caller c.actuals c.number in
      let before : List ModuleOuts = front_outs g [] y.front (d ∷ y.rest) in
      let in_front : In fh before =
      subst (λ zs. In (outs_at g r.front a zs) before) (sym behind.parts) (subst (λ zs. In (outs_at g r.front a (behind.between ++ d ∷ y.rest)) (front_outs g [] zs (d ∷ y.rest))) (sym behind.before) (stands_before g r.front a behind.between d y.rest)) in
      let there' : In s (list_sites a.found.known.read.body caller (name_of d)) = subst (λ n. In s (list_sites a.found.known.read.body caller n)) named site in
      let sites : List (SiteTree OutSite) = sites_of g.untracked before (name_of d) in
      let is_site : In s sites = sites_in g before fh (name_of d) s in_front there' in
      let in_o : In o (set_at fh.outs.at c.number) = subst (λ (R : Results (List Region)). In o (set_at R.at c.number)) (sym (outs_are_of r.front a r.rest r.parts r)) i in
      let callee = scope_with d.found.known.symbols (entry_cells g.untracked d.found.known.symbols) in
      let own = subst (λ (t : Results Transformer). In q (all_out (to_callee (size_in g.blocks) (record { caller = scope_of g.untracked a.found.known; changed = changed_cells t.at; name = c.callee; actuals = c.actuals; callee = callee }) o))) (sym r.good.own) j in
      let mine = subst (λ n. In q (all_out (to_callee (size_in g.blocks) (record { caller = scope_of g.untracked a.found.known; changed = changed_cells a.found.own.at; name = n; actuals = c.actuals; callee = callee }) o))) named own in
      let down : In q (handed_down (size_in g.blocks) callee (name_of d) sites) = in_handed (size_in g.blocks) callee (name_of d) sites s o q is_site in_o mine in
      subst (λ zs. In q zs) (sym (used_is y.front d y.rest y.parts ∙ ap (λ w. if w then [] else handed_down (size_in g.blocks) callee (name_of d) sites) sub)) down

  -- the CALLs of a module, by its OUT regions
  module _ (i : ℕ) (p : ParsedTree) (ss : List SymbolTree) (m : IsModule ps sss i p ss) where
    abbrev found : (a : Analysis) × Located ps sss g l (analyses (known_of ps sss) g) a × (a.found.known ≡ known p ss)
    found = analysis_of_module ps sss g l i p ss m

    abbrev outs : ModuleOuts
    outs = outs_at g found.1.front found.0 found.1.rest

    -- each is one of its sites
    Sited : CallAt → Type 0
    Sited c = In (call_site (caller_of g.untracked (outs_at g (analysis_of_module ps sss g l i p ss m).1.front (analysis_of_module ps sss g l i p ss m).0 (analysis_of_module ps sss g l i p ss m).1.rest)) c.actuals c.number) (list_sites (analysis_of_module ps sss g l i p ss m).0.found.known.read.body (caller_of g.untracked (outs_at g (analysis_of_module ps sss g l i p ss m).1.front (analysis_of_module ps sss g l i p ss m).0 (analysis_of_module ps sss g l i p ss m).1.rest)) c.callee)

    all_sited : Each Sited (list_calls p.module_read.body)
    unfolding Sited
    all_sited =
        let caller = caller_of g.untracked outs in
        let body = found.0.found.known.read.body in
        let each = each_at (λ y c. bytes_eq c.callee y ≡ true → In (call_site caller c.actuals c.number) (list_sites body caller y)) (list_calls body) (λ y. calls_sited caller y body) in
        let sited : Each Sited (list_calls body) = each_more (λ (c : CallAt). bytes_eq c.callee c.callee ≡ true → In (call_site caller c.actuals c.number) (list_sites body caller c.callee)) Sited (list_calls body) (λ c f. f ((bytes_eq-Decides c.callee c.callee).1 refl)) each in
        subst (λ (t : StmtTrees). Each Sited (list_calls t)) (ap (λ (k : Known). k.read.body) found.2) sited

    -- a module that it calls
    tells_one : (j : ℕ) (q : ParsedTree) (tt' : List SymbolTree) → IsModule ps sss j q tt' → q.module_read.main ≡ false → (c : CallAt) → c.callee ≡ q.module_read.name → HasCall p ss c.callee → Sited c → Told (part (known p ss)) c (part (known q tt'))
    unfolding Sited
    tells_one j q tt' mq sub c named has site =
        let y = analysis_of_module ps sss g l j q tt' mq in
        let there' : c.callee ≡ name_of y.0 = named ∙ ap (λ (z : Known). z.read.name) (sym y.2) in
        let calls : Calls ps sss g l found.0.found.known (name_of y.0) = record { at = i; parsed = p; table = ss; is_module = m; same = sym found.2; call = subst (HasCall p ss) there' has } in
        let main : y.0.found.known.read.main ≡ false = ap (λ (z : Known). z.read.main) y.2 ∙ sub in
        subst (λ (z : Known). Told (part z) c (part (known q tt'))) found.2
        (subst (λ (z : Known). Told (part found.0.found.known) c (part z)) y.2 (tells_at found.0 found.1 y.0 y.1 c calls main there' site))

  -- ---- modules that are called

  not_other : (y z : List ℕ) → such ps sss g y (Saved y z) ≡ true → ⊥
  not_other y z h =
      let T : Known → Bool = λ k. (leads ps sss g y k.read.name && not (bytes_eq y k.read.name)) && (bytes_eq k.read.name y && kept_named k.symbols (number_from 1 (symbol_names k.symbols) z)) in
      let found = any_found T (known_of ps sss) (and_parts (is_told (Saved y z)) (list_any T (known_of ps sss)) h).1 in
      let k = found.item in
      let a = and_parts (leads ps sss g y k.read.name && not (bytes_eq y k.read.name)) (bytes_eq k.read.name y && kept_named k.symbols (number_from 1 (symbol_names k.symbols) z)) found.holds in
      let other = not-true (bytes_eq y k.read.name) (and_parts (leads ps sss g y k.read.name) (not (bytes_eq y k.read.name)) a.0).1 in
      let same = (bytes_eq-Decides k.read.name y).0 (and_parts (bytes_eq k.read.name y) (kept_named k.symbols (number_from 1 (symbol_names k.symbols) z)) a.1).0 in
      true≢false (sym ((bytes_eq-Decides y k.read.name).1 (sym same)) ∙ other)

  module_down : (i : ℕ) (p : ParsedTree) (ss : List SymbolTree) → IsModule ps sss i p ss → DownPart (may_name ps sss g (part (known p ss))) (part (known p ss))
  module_down i p ss m = record {
    once = λ n s e. numbered_once p ss (laid i p ss m) n s e;
    other = λ y h. not_other p.module_read.name y h;
    tracked = λ n h. cell n (symbol_at ss n) refl h;
    extent = λ n s y o e lies. ap (λ (q : RunPlace). q.extent) (laid_in (numbering (known_of ps sss) g) (known p ss) n s y o e lies);
  }
    where
      dummy : (n : ℕ) (s : SymbolTree) → symbol_at ss n ≡ Some s → is_int_scalar s ≡ true → (q : Place) → s.place ≡ q → is_dummy_place q ≡ true → is_cell (part (known p ss)).scope.tracked n ≡ true
      dummy n s e int (place.Local h o) lies d = cc
      dummy n s e int (place.Dummy k) lies d = cells_have_flags g p ss (part (known p ss)).scope (scope_is g p ss) n s (dummies_are_tracked g p ss (laid i p ss m) n k s e lies int)
      dummy n s e int (place.Block y o) lies d = cc
      dummy n s e int (place.Constant v) lies d = cc

      cell : (n : ℕ) (o : Option SymbolTree) → symbol_at ss n ≡ o → is_scalar_dummy o ≡ true → is_cell (part (known p ss)).scope.tracked n ≡ true
      cell n None e h = cc
      cell n (Some s) e h = (let a = and_parts (is_int_scalar s) (is_dummy_place s.place) h in dummy n s e a.0 s.place refl a.1)

  module _ (prepared : (i : ℕ) (p : ParsedTree) (ss : List SymbolTree) → IsModule ps sss i p ss → Ready g p ss) (analysed : AreAnalysed (known_of ps sss) g (callees_of_all (known_of ps sss) g) (analysed_sites (known_of ps sss) g) (analysed_entry (known_of ps sss) g)) where
    -- ---- all modules

    module _ (below : List Known) (inside : Each (IsIn (known_of ps sss)) below) where
      abbrev ToldFrom : Part → CallAt → Option Part → Type 0
      ToldFrom h c o = TellsFrom (known_of ps sss) g (blocks_in (known_of ps sss) g) (callees_of_all (known_of ps sss) g) (reads_of g (analyses (known_of ps sss) g)) (summaries_of g (analyses (known_of ps sss) g)) (used_for g (analyses (known_of ps sss) g)) (may_name ps sss g) h c o

      tells_from : (i : ℕ) (p : ParsedTree) (ss : List SymbolTree) (m : IsModule ps sss i p ss) (c : CallAt) → HasCall p ss c.callee → Sited i p ss m c → ToldFrom (part (known p ss)) c (lookup (map part below) c.callee)
      tells_from i p ss m c has site = go (lookup (map part below) c.callee) refl
        where
          go : (o : Option Part) → lookup (map part below) c.callee ≡ o → ToldFrom (part (known p ss)) c o
          go None e = tt
          go (Some k) e =
              let f = found_part ps sss g l laid prepared (callees_of_all (known_of ps sss) g) (analysed_sites (known_of ps sss) g) (analysed_entry (known_of ps sss) g) analysed below inside c.callee k e in
              let v = linked_calls_fit ps sss g l.links i p ss m.parsed m.table has.at has.call has.is_call in
              let mv : IsModule ps sss v.at v.callee v.table = record { parsed = v.is_module; table = v.has_table } in
              let name : v.callee.module_read.name ≡ c.callee = v.is_named ∙ has.is_named in
              let item : f.item ≡ known v.callee v.table =
              sym (module_named_is ps sss g l f.is_in.at f.item f.is_in.is_module) ∙ (ap (module_named (known_of ps sss)) (sym f.named ∙ sym name) ∙ module_named_is ps sss g l v.at (known v.callee v.table) (known_module ps sss v.at v.callee v.table mv)) in
              subst (λ (z : Part). Told (part (known p ss)) c z) (ap part (sym item) ∙ sym f.same) (tells_one i p ss m v.at v.callee v.table mv v.is_subroutine c (sym name) has site)

      module_outs : (i : ℕ) (p : ParsedTree) (ss : List SymbolTree) → IsModule ps sss i p ss → OutOf (known_of ps sss) g (blocks_in (known_of ps sss) g) (callees_of_all (known_of ps sss) g) (reads_of g (analyses (known_of ps sss) g)) (summaries_of g (analyses (known_of ps sss) g)) (used_for g (analyses (known_of ps sss) g)) (may_name ps sss g) (map part below) (part (known p ss))
      module_outs i p ss m = record {
        part = read_part ps sss g x l i p ss m (callees_of_all (known_of ps sss) g) (analysed_entry (known_of ps sss) g (known p ss));
        down = module_down i p ss m;
        tells =
            each_more (λ (c : CallAt). HasCall p ss c.callee × Sited i p ss m c) (λ (c : CallAt). ToldFrom (part (known p ss)) c (lookup (map part below) c.callee)) (list_calls p.module_read.body)
            (λ c h. tells_from i p ss m c h.0 h.1)
            (both_each (λ (c : CallAt). HasCall p ss c.callee) (Sited i p ss m) (list_calls p.module_read.body) (each_in (λ n y es. HasCall p ss y) p.module_read.body (calls_are_listed p ss)) (all_sited i p ss m));
      }

    outs_of_parts : (xs : List Known) → Each (IsIn (known_of ps sss)) xs → OutsOf (known_of ps sss) g (blocks_in (known_of ps sss) g) (callees_of_all (known_of ps sss) g) (reads_of g (analyses (known_of ps sss) g)) (summaries_of g (analyses (known_of ps sss) g)) (used_for g (analyses (known_of ps sss) g)) (may_name ps sss g) (map part xs)
    outs_of_parts [] h = tt
    outs_of_parts (k ∷ xs) h = (one, outs_of_parts xs h.1)
      where
        one : OutOf (known_of ps sss) g (blocks_in (known_of ps sss) g) (callees_of_all (known_of ps sss) g) (reads_of g (analyses (known_of ps sss) g)) (summaries_of g (analyses (known_of ps sss) g)) (used_for g (analyses (known_of ps sss) g)) (may_name ps sss g) (map part xs) (part k)
        one =
            let r = module_at ps sss h.0.at k h.0.is_module in
            subst (λ (z : Known). OutOf (known_of ps sss) g (blocks_in (known_of ps sss) g) (callees_of_all (known_of ps sss) g) (reads_of g (analyses (known_of ps sss) g)) (summaries_of g (analyses (known_of ps sss) g)) (used_for g (analyses (known_of ps sss) g)) (may_name ps sss g) (map part xs) (part z)) r.same
            (module_outs xs h.1 h.0.at r.parsed r.table r.is_module)

    pub all_outs_of : OutsOf (known_of ps sss) g (blocks_in (known_of ps sss) g) (callees_of_all (known_of ps sss) g) (reads_of g (analyses (known_of ps sss) g)) (summaries_of g (analyses (known_of ps sss) g)) (used_for g (analyses (known_of ps sss) g)) (may_name ps sss g) (map part (subs (known_of ps sss) g.order))
    all_outs_of = outs_of_parts (subs (known_of ps sss) g.order) (subs_in (known_of ps sss) g.order)

    pub main_outs_of : (i : ℕ) (p : ParsedTree) (ss : List SymbolTree) → IsModule ps sss i p ss → OutOf (known_of ps sss) g (blocks_in (known_of ps sss) g) (callees_of_all (known_of ps sss) g) (reads_of g (analyses (known_of ps sss) g)) (summaries_of g (analyses (known_of ps sss) g)) (used_for g (analyses (known_of ps sss) g)) (may_name ps sss g) (map part (subs (known_of ps sss) g.order)) (part (known p ss))
    main_outs_of i p ss m = module_outs (subs (known_of ps sss) g.order) (subs_in (known_of ps sss) g.order) i p ss m

  -- ---- what is claimed of a part is what is claimed of its module's OUT regions

  module _ (y : Occurrence) (h : EachOutHolds (known_of ps sss) g (callees_of_all (known_of ps sss) g) (reads_of g (analyses (known_of ps sss) g)) (summaries_of g (analyses (known_of ps sss) g)) (used_for g (analyses (known_of ps sss) g)) (part_named (known_of ps sss) g (callees_of_all (known_of ps sss) g) (analysed_entry (known_of ps sss) g)) y) where
    at_place : (front : List Analysis) (a : Analysis) (rest : List Analysis) → analyses (known_of ps sss) g ≡ front ++ a ∷ rest → a.found.known.read.name ≡ y.spot.module_name → OutRegionsHold (known_of ps sss) g (scope_of g.untracked a.found.known) (outs_at g front a rest).outs y
    at_place front a rest e n =
        let name = a.found.known.read.name in
        let r = (each_back (Located ps sss g l (analyses (known_of ps sss) g)) front (a ∷ rest) (subst (Each (Located ps sss g l (analyses (known_of ps sss) g))) e (all_located ps sss g l))).0 in
        let named : of name ≡ part a.found.known = ap part (module_named_is ps sss g l r.good.at a.found.known r.good.is_module) in
        let there' : of y.spot.module_name ≡ part a.found.known = ap of (sym n) ∙ named in
        subst (λ (R : Results (List Region)). OutRegionsHold (known_of ps sss) g (scope_of g.untracked a.found.known) R y) (sym (outs_are_of front a rest e r))
        (subst (λ (p : Part). OutRegionsHold (known_of ps sss) g p.scope (outs_in_part g (callees_of_all (known_of ps sss) g) (rs p.routine.name) (is p.routine.name) (us p.routine.name) p) y) there' h)

    holds_of : (f : ModuleOuts) → Placed g (analyses (known_of ps sss) g) f → f.known.known.analysis.found.known.read.name ≡ y.spot.module_name → OutRegionsHold (known_of ps sss) g (scope_of g.untracked f.known.known.analysis.found.known) f.outs y
    holds_of f q n =
        subst (λ (z : ModuleOuts). z.known.known.analysis.found.known.read.name ≡ y.spot.module_name → OutRegionsHold (known_of ps sss) g (scope_of g.untracked z.known.known.analysis.found.known) z.outs y) (sym q.is)
        (λ e. at_place q.front q.analysis q.rest q.parts e) n

    pub follows : AllOutsHold (known_of ps sss) g (all_outs g (all_ins g (all_regions g (analyses (known_of ps sss) g)))) y
    follows =
        let P : ModuleOuts → Type 0 = λ f. f.known.known.analysis.found.known.read.name ≡ y.spot.module_name → OutRegionsHold (known_of ps sss) g (scope_of g.untracked f.known.known.analysis.found.known) f.outs y in
        all_each P (all_outs g (all_ins g (all_regions g (analyses (known_of ps sss) g)))) (each_more (Placed g (analyses (known_of ps sss) g)) P (all_outs g (all_ins g (all_regions g (analyses (known_of ps sss) g)))) holds_of (outs_placed g (analyses (known_of ps sss) g)))

-- ---- programs

-- where what is said of names, of DATA, of jumps, of links and of saved locals holds, OUT regions hold in every run of a program that is read, unless a fault ends it
pub read_outs_hold : NamesAgree → AcceptedDataStaysInLocals → JumpsStayInside → LinkLaws → LocalsAreSavedTogether → ReadOutsHold
read_outs_hold names lies stays laws together ps sss g x turns input conforms =
    let ks = known_of ps sss in
    let cs = callees_of_all ks g in
    let sites = analysed_sites ks g in
    let entry = analysed_entry ks g in
    let of = part_named ks g cs entry in
    let linked = programs_are_linked ps sss g x in
    let r = main_from ps sss x.tables (some_main ps sss g x.links) in
    let main = known r.parsed r.table in
    let is = known_module ps sss r.at r.parsed r.table r.is_module in
    let alone = (modules_are_read x.lines ps sss x.parsed x.tables r.at main is).main r.main in
    let settle = settled names stays ps sss g x in
    let prepared = ready names stays ps sss g x in
    let analysed = analyses_follow ps sss g linked.0 (λ i p ss m. (settle i p ss m).numbered) in
    let initialised = lies x.lines ps sss x.parsed x.tables in
    let fit = integers_fit x.lines ps sss x.parsed x.tables in
    let plain = λ (i : ℕ) (p : ParsedTree) (ss : List SymbolTree) (m : IsModule ps sss i p ss). (modules_are_read x.lines ps sss x.parsed x.tables i (known p ss) (known_module ps sss i p ss m)).name in
    let told = λ (i : ℕ) (p : ParsedTree) (ss : List SymbolTree) (m : IsModule ps sss i p ss). (let built = built_at ps (all_built x.lines ps x.parsed) i p m.parsed in names_told p ss built.well (cards_of_held (statements_of p.module_read) built.formed) (linked.1 i p ss m)) in
    let blocks = λ (i : ℕ) (p : ParsedTree) (ss : List SymbolTree) (m : IsModule ps sss i p ss). (let built = built_at ps (all_built x.lines ps x.parsed) i p m.parsed in blocks_told p ss (cards_of_held (statements_of p.module_read) built.formed) (linked.1 i p ss m)) in
    let whole = program ps sss g linked.0 linked.1 prepared cs sites entry analysed initialised r.at r.parsed r.table r.is_module r.is_main r.main alone in
    let is_program = program_is ps sss g linked.0 linked.1 prepared cs sites entry analysed initialised r.at r.parsed r.table r.is_module r.is_main r.main alone in
    let each = program_outs_hold laws _ cs sites of (may_name ps sss g) _ _ _ whole ks g (reads_of g (analyses ks g)) (summaries_of g (analyses ks g)) (used_for g (analyses ks g))
    (main_laid ps sss g linked.0 linked.1 x.tables prepared analysed fit together plain told blocks r.at r.parsed r.table r.is_module)
    (all_laid ps sss g linked.0 linked.1 x.tables prepared analysed fit together plain told blocks)
    (main_outs_of ps sss g x linked.0 linked.1 prepared analysed r.at r.parsed r.table r.is_module)
    (all_outs_of ps sss g x linked.0 linked.1 prepared analysed) is_program in
    throughout_more (EachOutHolds ks g cs (reads_of g (analyses ks g)) (summaries_of g (analyses ks g)) (used_for g (analyses ks g)) of) (AllOutsHold ks g (all_outs g (all_ins g (all_regions g (analyses ks g)))))
    (λ y h. follows ps sss g x linked.0 linked.1 y h) (program_plan (program_of ks g) turns) (program_of ks g).initial input (λ f z j. []) (each turns input conforms)
