-- The modules of a program that is read are such as the laws of regions ask; where regions are carried to callers, they hold in every run.
use Rattle.std.proofs.Common.{◌≡◌, ℕ, zero, suc, ◌+◌, ◌-◌, ◌≤◌, List, [], ◌∷◌, ◌++◌, length, map, Option, Some, None, Ok, Bool, true, false, refl, sym, ap, ◌∙◌, subst, arith, true≢false}
use Rattle.std.specs.Prelude.{All, slice_get, bytes_eq, not, if◌then◌else◌, ◌*◌}
use Rattle.std.proofs.lemmas.Bool.{and_from}
use Rattle.std.proofs.lemmas.Slice.Eq.{bytes_eq-Decides}
use Rattle.std.proofs.lemmas.List.Elements.{All-nil, All-cons}
use Rattle.affine_systems.specs.declared.row.System.{System}
use Rattle.f77_ast.specs.DeclTrees.{ParsedTree}
use Rattle.f77_ast.specs.Calls.{Dummy}
use Rattle.f77_ast.specs.Places.{Constant, Variable, Function, Place}
use Rattle.f77_ast.specs.Store.{Content}
use Rattle.f77_ast.specs.Programs.{program_plan}
use Rattle.f77_ast.specs.declared.symbol.Place.TheVariants as place
use Rattle.f77_ast.specs.declared.variable.Variable.TheVariants.{Saved}
use Rattle.f77_ast.specs.Symbols.{SymbolTree, number_from}
use Rattle.f77_ast.specs.Units.{units_in}
use Rattle.f77_ast.specs.Shared.{symbol_at}
use Rattle.f77_ast.specs.declared.results.Results.{Results}
use Rattle.storage_layout.specs.Symbols.{symbols_of}
use Rattle.laws_programs.specs.SymbolTables.Laws.{DummiesFirst}
use Rattle.laws_programs.proofs.SymbolTables.DummyLaws.{dummies_come_first}
use Rattle.laws_programs.proofs.SymbolTables.ShapeLaws.{bodies_are_shaped}
use Rattle.tracked_cells.specs.Tracked.{tracked_of}
use Rattle.call_graph.specs.declared.graph.Graph.{Graph}
use Rattle.f77_meaning.specs.Areas.{Numbering, area_number, block, own as own_area}
use Rattle.f77_meaning.specs.Claims.{size_in, saved_place, fixed_by}
use Rattle.f77_meaning.specs.Claimed.{InEveryRun}
use Rattle.f77_meaning.specs.Modules.{Known, known_of, bound_of, dummies_from, symbol_names, fixed, names}
use Rattle.f77_meaning.specs.Linked.{numbering, program_of}
use Rattle.f77_meaning.specs.Occurrences.{Occurrence}
use Rattle.f77_meaning.proofs.LinkedLaws.{linked_have_blocks}
use Rattle.f77_meaning.proofs.ModuleLaws.{has_room}
use Rattle.f77_meaning.proofs.UnitLaws.{temporaries_are_recognisable}
use Rattle.tracked_cells.specs.Standing.{has_bounds}
use Rattle.laws_programs.specs.Effects.Tables.{is_plain}
use Rattle.preconditions.specs.transformer_algebra.declared.transformer.Transformer.{Transformer}
use Rattle.preconditions.specs.call_translation.Sites.{HoldingSite}
use Rattle.preconditions.specs.transformers.Given.{Callees}
use Rattle.in_out_regions.specs.region_sets.declared.region.Region.{Region}
use Rattle.in_out_regions.specs.array_regions.Calls.{Callees as Summaries}
use Rattle.in_out_regions.specs.array_regions.References.{is_constant}
use Rattle.in_out_regions.specs.array_regions.Modules.{regions_with}
use Rattle.module_phases.specs.RegionPhases.{ModuleRegions, regions_found, all_regions}
use Rattle.module_phases.specs.ScalarPhases.{scope_of, Analysis, analyses}
use Rattle.laws_programs.specs.Storage.Programs.{IsLinked, IsModule, known}
use Rattle.laws_programs.specs.Storage.Below.{HasCall}
use Rattle.laws_programs.specs.Storage.Calls.{AreLaidOut}
use Rattle.laws_programs.specs.Storage.CellLaws.{units}
use Rattle.laws_programs.specs.Storage.DataLaws.{AllConstantsFit}
use Rattle.laws_programs.proofs.Storage.CallLaws.{calls_are_listed}
use Rattle.laws_programs.proofs.Storage.ModuleLaws.{known_module}
use Rattle.laws_programs.proofs.Storage.OwnerLaws.{expression_below}
use Rattle.laws_programs.specs.Programs.{IsProgram}
use Rattle.laws_programs.specs.roundtrip_programs.Statements.Formed as formed
use Rattle.laws_programs.specs.roundtrip_programs.Statements.Phrased.{IsPhrase}
use Rattle.laws_programs.specs.roundtrip_programs.ModuleTexts.Cards.{Card, statements_of}
use Rattle.laws_programs.proofs.RoundtripPrograms.ModuleTexts.Kept.{Held}
use Rattle.laws_programs.proofs.Sources.{all_built}
use Rattle.laws_programs.proofs.Tables.{programs_are_linked}
use Rattle.laws_programs.proofs.Whole.{modules_are_read}
use Rattle.call_graph.specs.CallsIn.{CallAt, Each, list_calls}
use Rattle.laws_analyses.specs.Calls.Parts.{Blocks, Part, NoDummy}
use Rattle.laws_analyses.specs.Calls.Sites.{lookup}
use Rattle.laws_analyses.specs.Parts.{blocks_in, part_of}
use Rattle.laws_analyses.specs.Analysed.{module_named, part_named, AreAnalysed}
use Rattle.laws_analyses.specs.JumpLaws.{JumpsStayInside}
use Rattle.laws_analyses.specs.Results.{callees_of_all, analysed_entry, analysed_sites}
use Rattle.laws_analyses.specs.ScalarLaws.{NamesAgree, AcceptedDataStaysInLocals}
use Rattle.laws_analyses.proofs.Analyses.{Located, all_located, analysis_of_module}
use Rattle.laws_analyses.proofs.CallLists.{each_in}
use Rattle.laws_analyses.proofs.DummyLaws.{told, listed_dummy}
use Rattle.laws_analyses.proofs.Founds.{Calls}
use Rattle.laws_analyses.proofs.IntegerLaws.{integers_fit}
use Rattle.laws_analyses.proofs.MainLaws.{main_from, built_at}
use Rattle.laws_analyses.proofs.Modules.{IsIn, subs, subs_in, module_named_is}
use Rattle.laws_analyses.proofs.NameLaws.{name_number}
use Rattle.laws_analyses.proofs.Passes.{name_of}
use Rattle.laws_analyses.proofs.Programs.{Ready}
use Rattle.laws_analyses.proofs.ThroughoutLaws.{throughout_more}
use Rattle.laws_analyses.proofs.UnitLaws.{module_at}
use Rattle.laws_analyses.proofs.Whole.{analyses_follow, settled as is_settled, ready as is_ready}
use Rattle.laws_analyses.specs.Regions.Claims.{RegionsHold}
use Rattle.laws_analyses.specs.Regions.Programs.{regions_in_part, EachRegionHolds, Regular, Joins, Sends, SendsFrom, RegularPart, RegularParts, ProgramRegionsHold}
use Rattle.laws_analyses.specs.Regions.Settings.{has_colon, is_told}
use Rattle.laws_analyses.specs.Regions.Accepted.{summaries_of, AllRegionsHold, ReadRegionsHold}
use Rattle.laws_analyses.proofs.Regions.Entered.{module_open, module_fits, module_enters}
use Rattle.laws_analyses.proofs.Regions.EntryCells.{entry_agree}
use Rattle.laws_analyses.proofs.Regions.NamesOnce.{numbered_once}
use Rattle.laws_analyses.proofs.Regions.Sizes.{blocks_reach}
use Rattle.laws_analyses.proofs.Regions.ToldBlocks.{blocks_told}
use Rattle.laws_analyses.proofs.Regions.ToldSymbols.{names_told}
use Rattle.laws_analyses.proofs.Regions.Names.{Stands, no_symbol, as_function, as_constant, as_variable, stands, constants_none, functions_none, variable_of, fixed_dims}
use Rattle.laws_analyses.proofs.Regions.Parts.{found_part, program, program_is}
use Rattle.laws_analyses.proofs.Regions.Plain.{list_plain}
use Rattle.laws_analyses.proofs.Regions.Sending.{block_no_dummy, laid_in, like_it}
use Rattle.laws_analyses.proofs.Regions.Summaries.{Placed, called_summary, summaries_are, regions_placed}
use Rattle.laws_programs.proofs.RoundtripPrograms.ModuleTexts.Cards.{Any as AnyLabel}
use Rattle.laws_programs.proofs.Effects.Once.{main_of_linked as some_main}
use Rattle.laws_programs.proofs.RoundtripPrograms.Body.{AreCards}
use Rattle.call_graph.proofs.EachLaws.{each_more}

-- ---- a module

module _ (ps : List ParsedTree) (sss : List (List SymbolTree)) (g : Graph) (p : ParsedTree) (ss : List SymbolTree) (laid : symbols_of p ≡ Ok ss) where
  first : DummiesFirst 1 (length p.module_read.dummies) ss
  first = dummies_come_first p ss laid

  no_dummy : (v : ℕ) (s : SymbolTree) → symbol_at ss v ≡ Some s → NoDummy (dummies_from 1 ss) v → (n : ℕ) → s.place ≡ place.Dummy n → ⊥
  no_dummy v s e none n q = let r = listed_dummy ss (length p.module_read.dummies) first v n s e q in none (record { at = n - 1; dummy = r.0; is_dummy = r.1; symbol = r.2 })

  dummy_bounds : (j : ℕ) (d : Dummy) (s : SymbolTree) → slice_get (dummies_from 1 ss) j ≡ Some d → symbol_at ss d.symbol ≡ Some s → d.bounds ≡ map bound_of s.bounds
  dummy_bounds j d s e q =
      let t = told ss (length p.module_read.dummies) first j d e in
      let same : t.symbol ≡ s = (let z : Some t.symbol ≡ Some s = sym t.is_symbol ∙ q in cc) in
      t.bounds ∙ ap (λ (z : SymbolTree). map bound_of z.bounds) same

  pub module_regular : (cs : Callees) (entry : System) → Regular (part_of (known_of ps sss) g cs entry (known p ss))
  module_regular cs entry = record {
    plain = list_plain ss p.module_read.body (bodies_are_shaped p ss laid);
    variables = λ x v e. (let y = variable_of ss x v e in record {
      symbol = y.symbol;
      is_symbol = y.is_symbol;
      stored = y.stored;
      shape = y.shape;
      no_function = y.no_function;
      fixed = λ none. fixed_dims (units ps sss g) (known p ss) v y.symbol y.is_symbol y.stored (no_dummy v y.symbol y.is_symbol none);
      dummy = λ j d q n. dummy_bounds j d y.symbol q (ap (symbol_at ss) n ∙ y.is_symbol);
    });
    constants = constants_none ss (tracked_of p.module_read ss g.untracked);
    functions = functions_none ss (tracked_of p.module_read ss g.untracked);
  }

pub cards_of_held : (cs : List Card) → formed.Each (Held AnyLabel IsPhrase) cs → AreCards cs
cards_of_held [] h = tt
cards_of_held (c ∷ cs) h = record { first = h.first.1; others = cards_of_held cs h.others }

-- ---- the modules of a program

module _ (ps : List ParsedTree) (sss : List (List SymbolTree)) (g : Graph) (l : IsLinked ps sss g) (laid : AreLaidOut ps sss) (ready : (i : ℕ) (p : ParsedTree) (ss : List SymbolTree) → IsModule ps sss i p ss → Ready g p ss) (analysed : AreAnalysed (known_of ps sss) g (callees_of_all (known_of ps sss) g) (analysed_sites (known_of ps sss) g) (analysed_entry (known_of ps sss) g)) where
  abbrev ks : List Known
  ks = known_of ps sss

  abbrev all : Callees
  all = callees_of_all (known_of ps sss) g

  abbrev sites : List ℕ → List HoldingSite
  sites = analysed_sites (known_of ps sss) g

  abbrev b : Blocks
  b = blocks_in (known_of ps sss) g

  abbrev rs : List ℕ → Summaries
  rs = summaries_of g (analyses (known_of ps sss) g)

  abbrev part : Known → Part
  part k = part_of (known_of ps sss) g (callees_of_all (known_of ps sss) g) (analysed_entry (known_of ps sss) g k) k

  abbrev of : List ℕ → Part
  of = part_named (known_of ps sss) g (callees_of_all (known_of ps sss) g) (analysed_entry (known_of ps sss) g)

  -- ---- its regions are those of its part

  pub found_regions : (a : Analysis) → Located ps sss g l (analyses (known_of ps sss) g) a → (c : Summaries) → regions_found g.untracked c a ≡ regions_in_part g (callees_of_all (known_of ps sss) g) c (part a.found.known)
  found_regions a r c = ap (λ (t : Results Transformer). regions_with a.found.known.read.body (scope_of g.untracked a.found.known) g.untracked t.at c) r.good.own

  -- the summary of what a CALL calls is known
  summary_known : (i : ℕ) (p : ParsedTree) (ss : List SymbolTree) → IsModule ps sss i p ss → (j : ℕ) (q : ParsedTree) (tt' : List SymbolTree) → IsModule ps sss j q tt' → HasCall p ss q.module_read.name →
      rs p.module_read.name q.module_read.name ≡ Some (record { symbols = tt'; value = (regions_in_part g (callees_of_all (known_of ps sss) g) (rs q.module_read.name) (part (known q tt'))).summary })
  summary_known i p ss m j q tt' mq has =
      let x = analysis_of_module ps sss g l i p ss m in
      let y = analysis_of_module ps sss g l j q tt' mq in
      let there : Calls ps sss g l x.0.found.known (name_of y.0) = record { at = i; parsed = p; table = ss; is_module = m; same = sym x.2; call = subst (HasCall p ss) (ap (λ (z : Known). z.read.name) (sym y.2)) has } in
      let e = called_summary ps sss g l x.1.front x.0 x.1.rest x.1.parts y.1.front y.0 y.1.rest y.1.parts there in
      let f = e ∙ ap (λ (r : Results (List Region)). Some (record { symbols = y.0.found.known.symbols; value = r.summary })) (found_regions y.0 y.1 (rs (name_of y.0))) in
      subst (λ (z : Known). rs z.read.name q.module_read.name ≡ Some (record { symbols = tt'; value = (regions_in_part g (callees_of_all (known_of ps sss) g) (rs q.module_read.name) (part (known q tt'))).summary })) x.2
      (subst (λ (z : Known). rs x.0.found.known.read.name z.read.name ≡ Some (record { symbols = z.symbols; value = (regions_in_part g (callees_of_all (known_of ps sss) g) (rs z.read.name) (part z)).summary })) y.2 f)

  -- ---- what its claims ask

  module _ (fit : AllConstantsFit ps sss) (plain : (i : ℕ) (p : ParsedTree) (ss : List SymbolTree) → IsModule ps sss i p ss → is_plain p.module_read.name ≡ true) (told : (i : ℕ) (p : ParsedTree) (ss : List SymbolTree) → IsModule ps sss i p ss → (n : ℕ) (s : SymbolTree) → symbol_at ss n ≡ Some s → has_colon s.name ≡ false) (blocks : (i : ℕ) (p : ParsedTree) (ss : List SymbolTree) → IsModule ps sss i p ss → (n : ℕ) (s : SymbolTree) (y : List ℕ) (o : ℕ) → symbol_at ss n ≡ Some s → s.place ≡ place.Block y o → has_colon y ≡ false) where
    module _ (i : ℕ) (p : ParsedTree) (ss : List SymbolTree) (m : IsModule ps sss i p ss) where
      abbrev k : Part
      k = part (known p ss)

      has_value : (x : List ℕ) (v : Content) (n : ℕ) (s : SymbolTree) → names ss x ≡ Constant v → number_from 1 (symbol_names ss) x ≡ Some n → symbol_at ss n ≡ Some s → is_constant s.place ≡ true
      has_value x v n s e q is = go (stands ss x)
        where
          go : Stands ss x → is_constant s.place ≡ true
          go (no_symbol r) = (let z : None ≡ Some n = sym r ∙ q in cc)
          go (as_function n' s' r is' f w) = (let z : Function ≡ Constant v = sym w ∙ e in cc)
          go (as_constant n' s' v' r is' f w) =
              let same : n' ≡ n = (let z : Some n' ≡ Some n = sym r ∙ q in cc) in
              let one : s' ≡ s = (let z : Some s' ≡ Some s = sym is' ∙ (ap (symbol_at ss) same ∙ is) in cc) in
              ap (λ (z : SymbolTree). is_constant z.place) (sym one) ∙ f
          go (as_variable n' s' r is' f i' w) = (let z : Variable n' ≡ Constant v = sym w ∙ e in cc)

      has_none : (x : List ℕ) (n : ℕ) (s : SymbolTree) → names ss x ≡ Function → number_from 1 (symbol_names ss) x ≡ Some n → symbol_at ss n ≡ Some s → has_bounds s.bounds ≡ false
      has_none x n s e q is = go (stands ss x)
        where
          go : Stands ss x → has_bounds s.bounds ≡ false
          go (no_symbol r) = (let z : None ≡ Some n = sym r ∙ q in cc)
          go (as_function n' s' r is' f w) =
              let same : n' ≡ n = (let z : Some n' ≡ Some n = sym r ∙ q in cc) in
              let one : s' ≡ s = (let z : Some s' ≡ Some s = sym is' ∙ (ap (symbol_at ss) same ∙ is) in cc) in
              ap (λ (z : SymbolTree). has_bounds z.bounds) (sym one) ∙ f
          go (as_constant n' s' v' r is' f w) = (let z : Constant v' ≡ Function = sym w ∙ e in cc)
          go (as_variable n' s' r is' f i' w) = (let z : Variable n' ≡ Function = sym w ∙ e in cc)

      module_joins : Joins (known_of ps sss) g (part (known p ss))
      module_joins = record {
        names = record { variables = λ x v e. name_number ss x v e; constants = has_value; functions = has_none };
        own_below = λ n j. expression_below ps sss g l i p ss m n j;
        own_units = λ n j. temporaries_are_recognisable (numbering (known_of ps sss) g) (own_area p.module_read.name n j) 0 (has_room (known_of ps sss));
        value = refl;
        entry_agrees = entry_agree g.untracked ss (ready i p ss m).settled.agrees.constants;
        fixed = module_fits ps sss g i p ss m (laid i p ss m) (fit i p ss m) (callees_of_all (known_of ps sss) g) (analysed_entry (known_of ps sss) g (known p ss));
        open_last = module_open ps sss g i p ss m (laid i p ss m) (fit i p ss m);
        bounds = λ j d s e q. dummy_bounds ps sss g p ss (laid i p ss m) j d s e q;
      }

      -- ---- a CALL

      module _ (j : ℕ) (q : ParsedTree) (tt' : List SymbolTree) (mq : IsModule ps sss j q tt') (x : List ℕ) (named : x ≡ q.module_read.name) (has : HasCall p ss x) where
        abbrev N : Numbering
        N = numbering (known_of ps sss) g

        -- the module of its name is the one
        found_in : (zs : List Known) (y : List ℕ) → ((i : ℕ) (z : Known) → slice_get zs i ≡ Some z → z.read.name ≡ q.module_read.name → z ≡ known q tt') → (i : ℕ) → slice_get zs i ≡ Some (known q tt') →
            saved_place (known_of ps sss) g zs q.module_read.name y ≡ fixed_by (known_of ps sss) g (known q tt') (number_from 1 (symbol_names tt') y)
        found_in [] y one i e = cc
        found_in (z ∷ zs) y one i e = go (bytes_eq z.read.name q.module_read.name) refl (λ i f. found_in zs y f i)
          where
            later : (i : ℕ) → slice_get (z ∷ zs) i ≡ Some (known q tt') → bytes_eq z.read.name q.module_read.name ≡ false → ((i : ℕ) → ((i : ℕ) (z' : Known) → slice_get zs i ≡ Some z' → z'.read.name ≡ q.module_read.name → z' ≡ known q tt') → slice_get zs i ≡ Some (known q tt') → saved_place (known_of ps sss) g zs q.module_read.name y ≡ fixed_by (known_of ps sss) g (known q tt') (number_from 1 (symbol_names tt') y)) → saved_place (known_of ps sss) g zs q.module_read.name y ≡ fixed_by (known_of ps sss) g (known q tt') (number_from 1 (symbol_names tt') y)
            later zero e w ih =
                let same : z ≡ known q tt' = cc in
                absurd (true≢false (sym ((bytes_eq-Decides q.module_read.name q.module_read.name).1 refl) ∙ (ap (λ (y' : Known). bytes_eq y'.read.name q.module_read.name) (sym same) ∙ w)))
            later (suc i) e w ih = ih i (λ i z' r n. one (suc i) z' r n) e

            go : (w : Bool) → bytes_eq z.read.name q.module_read.name ≡ w → ((i : ℕ) → ((i : ℕ) (z' : Known) → slice_get zs i ≡ Some z' → z'.read.name ≡ q.module_read.name → z' ≡ known q tt') → slice_get zs i ≡ Some (known q tt') → saved_place (known_of ps sss) g zs q.module_read.name y ≡ fixed_by (known_of ps sss) g (known q tt') (number_from 1 (symbol_names tt') y)) →
                (if w then fixed_by (known_of ps sss) g z (number_from 1 (symbol_names z.symbols) y) else saved_place (known_of ps sss) g zs q.module_read.name y) ≡ fixed_by (known_of ps sss) g (known q tt') (number_from 1 (symbol_names tt') y)
            go true w ih = ap (λ (z' : Known). fixed_by (known_of ps sss) g z' (number_from 1 (symbol_names z'.symbols) y)) (one 0 z refl ((bytes_eq-Decides z.read.name q.module_read.name).0 w))
            go false w ih = later i e w ih

        one_named : (i : ℕ) (z : Known) → slice_get (known_of ps sss) i ≡ Some z → z.read.name ≡ q.module_read.name → z ≡ known q tt'
        one_named i z e n = sym (module_named_is ps sss g l i z e) ∙ (ap (module_named (known_of ps sss)) n ∙ module_named_is ps sss g l j (known q tt') (known_module ps sss j q tt' mq))

        saved_there : (n : ℕ) (s : SymbolTree) → symbol_at tt' n ≡ Some s → saved_place (known_of ps sss) g (known_of ps sss) x s.name ≡ fixed N (known q tt') n
        saved_there n s e =
            ap (λ y. saved_place (known_of ps sss) g (known_of ps sss) y s.name) named
            ∙ (found_in (known_of ps sss) s.name one_named j (known_module ps sss j q tt' mq) ∙ ap (fixed_by (known_of ps sss) g (known q tt')) (numbered_once q tt' (laid j q tt' mq) n s e))

        saved_told : (n : ℕ) (s : SymbolTree) → symbol_at tt' n ≡ Some s → is_told (Saved x s.name) ≡ true
        saved_told n s e = ap (λ y. is_told (Saved y s.name)) named ∙ and_from (is_plain q.module_read.name) (not (has_colon s.name)) (plain j q tt' mq) (ap not (told j q tt' mq n s e))

        reach : (n : ℕ) (s : SymbolTree) (y : List ℕ) (o : ℕ) → symbol_at tt' n ≡ Some s → s.place ≡ place.Block y o → units_in tt' s + o ≤ size_in g.blocks y
        reach n s y o e lies = (let r = blocks_reach (known_of ps sss) g (linked_have_blocks ps sss g l.many l.links) j (known q tt') n s y o (known_module ps sss j q tt' mq) e lies in omega (arith, r))

        call_sends : Sends (blocks_in (known_of ps sss) g) (known_of ps sss) g (callees_of_all (known_of ps sss) g) (summaries_of g (analyses (known_of ps sss) g)) (part (known p ss)) (part (known q tt')) x
        call_sends = record {
          summary_known = ap (rs p.module_read.name) named ∙ summary_known i p ss m j q tt' mq (subst (HasCall p ss) named has);
          saved = λ n s e lies kept. (saved_told n s e, saved_there n s e);
          common = λ n s y o e lies. block_no_dummy q tt' (laid j q tt' mq) n s y o e lies;
          alike = λ n v s y o e lies first.
              (let r = like_it N (known p ss) (known q tt') n v s y o e lies first in
              record { caller = block_no_dummy p ss (laid i p ss m) v r.symbol y o r.is_symbol r.lies; symbol = r.symbol; is_symbol = r.is_symbol; stored = ap is_constant r.lies; elements = r.elements });
          told = λ n s y o e lies. ap not (blocks j q tt' mq n s y o e lies);
          block = λ n s y o e lies.
              (let there = laid_in N (known q tt') n s y o e lies in
              record {
                first = ap (λ (z : Place). z.first) there ∙ from_first (area_number N (block y) * N.room) o;
                inside = subst (λ (z : Place). z.extent + o ≤ size_in g.blocks y) (sym there) (reach n s y o e lies);
              });
          unit = λ n s y o e lies. ap (λ (z : Place). z.first) (laid_in N (known q tt') n s y o e lies);
        }
          where
            from_first : (u o : ℕ) → u + o ≡ (u + 0) + o
            from_first u o = omega arith

    module _ (below : List Known) (inside : Each (IsIn (known_of ps sss)) below) where
      send : (i : ℕ) (p : ParsedTree) (ss : List SymbolTree) → IsModule ps sss i p ss → (c : CallAt) → HasCall p ss c.callee →
          SendsFrom (blocks_in (known_of ps sss) g) (known_of ps sss) g (callees_of_all (known_of ps sss) g) (summaries_of g (analyses (known_of ps sss) g)) (part (known p ss)) c.callee (lookup (map part below) c.callee)
      send i p ss m c has = go (lookup (map part below) c.callee) refl
        where
          go : (o : Option Part) → lookup (map part below) c.callee ≡ o → SendsFrom (blocks_in (known_of ps sss) g) (known_of ps sss) g (callees_of_all (known_of ps sss) g) (summaries_of g (analyses (known_of ps sss) g)) (part (known p ss)) c.callee o
          go None e = tt
          go (Some k) e =
              let f = found_part ps sss g l laid ready (callees_of_all (known_of ps sss) g) (analysed_sites (known_of ps sss) g) (analysed_entry (known_of ps sss) g) analysed below inside c.callee k e in
              let r = module_at ps sss f.is_in.at f.item f.is_in.is_module in
              subst (λ (z : Part). Sends (blocks_in (known_of ps sss) g) (known_of ps sss) g (callees_of_all (known_of ps sss) g) (summaries_of g (analyses (known_of ps sss) g)) (part (known p ss)) z c.callee) (ap part r.same ∙ sym f.same)
              (call_sends i p ss m f.is_in.at r.parsed r.table r.is_module c.callee (f.named ∙ ap (λ (z : Known). z.read.name) (sym r.same)) has)

      module_regular_part : (i : ℕ) (p : ParsedTree) (ss : List SymbolTree) → IsModule ps sss i p ss → RegularPart (blocks_in (known_of ps sss) g) (callees_of_all (known_of ps sss) g) (summaries_of g (analyses (known_of ps sss) g)) (known_of ps sss) g (map part below) (part (known p ss))
      module_regular_part i p ss m = record {
        regular = module_regular ps sss g p ss (laid i p ss m) (callees_of_all (known_of ps sss) g) (analysed_entry (known_of ps sss) g (known p ss));
        enters = module_enters ps sss g i p ss m (laid i p ss m) (fit i p ss m) (callees_of_all (known_of ps sss) g) (analysed_entry (known_of ps sss) g (known p ss));
        joins = module_joins i p ss m;
        calls =
            each_more (λ (c : CallAt). HasCall p ss c.callee) (λ (c : CallAt). SendsFrom (blocks_in (known_of ps sss) g) (known_of ps sss) g (callees_of_all (known_of ps sss) g) (summaries_of g (analyses (known_of ps sss) g)) (part (known p ss)) c.callee (lookup (map part below) c.callee)) (list_calls p.module_read.body)
            (λ c has. send i p ss m c has)
            (each_in (λ n x es. HasCall p ss x) p.module_read.body (calls_are_listed p ss));
      }

      pub regular_part : (k : Known) → IsIn (known_of ps sss) k → RegularPart (blocks_in (known_of ps sss) g) (callees_of_all (known_of ps sss) g) (summaries_of g (analyses (known_of ps sss) g)) (known_of ps sss) g (map part below) (part k)
      regular_part k h =
          let r = module_at ps sss h.at k h.is_module in
          subst (λ (z : Known). RegularPart (blocks_in (known_of ps sss) g) (callees_of_all (known_of ps sss) g) (summaries_of g (analyses (known_of ps sss) g)) (known_of ps sss) g (map part below) (part z)) r.same (module_regular_part h.at r.parsed r.table r.is_module)

    pub regular_parts : (xs : List Known) → Each (IsIn (known_of ps sss)) xs → RegularParts (blocks_in (known_of ps sss) g) (callees_of_all (known_of ps sss) g) (summaries_of g (analyses (known_of ps sss) g)) (known_of ps sss) g (map part xs)
    regular_parts [] h = tt
    regular_parts (k ∷ xs) h = (regular_part xs h.1 k h.0, regular_parts xs h.1)

  -- ---- what is claimed of a part is what is claimed of its module's regions

  each_back : {T : Type 0} (P : T → Type 0) (xs ys : List T) → Each P (xs ++ ys) → Each P ys
  each_back P [] ys h = h
  each_back P (x ∷ xs) ys h = each_back P xs ys h.1

  module _ (x : Occurrence) (h : EachRegionHolds (known_of ps sss) g (callees_of_all (known_of ps sss) g) (summaries_of g (analyses (known_of ps sss) g)) (part_named (known_of ps sss) g (callees_of_all (known_of ps sss) g) (analysed_entry (known_of ps sss) g)) x) where
    holds_of : (f : ModuleRegions) → Placed g.untracked (analyses (known_of ps sss) g) f → f.analysis.found.known.read.name ≡ x.spot.module_name → RegionsHold (known_of ps sss) g (scope_of g.untracked f.analysis.found.known) f.regions x
    holds_of f q n =
        let a : Analysis = f.analysis in
        let r = (each_back (Located ps sss g l (analyses (known_of ps sss) g)) q.front (a ∷ q.rest) (subst (Each (Located ps sss g l (analyses (known_of ps sss) g))) q.parts (all_located ps sss g l))).0 in
        let same : f.regions ≡ regions_in_part g (callees_of_all (known_of ps sss) g) (rs a.found.known.read.name) (part a.found.known) =
        q.regions ∙ (ap (λ (c : Summaries). regions_found g.untracked c a) (sym (summaries_are ps sss g l q.front a q.rest q.parts)) ∙ found_regions a r (rs a.found.known.read.name)) in
        let named : of a.found.known.read.name ≡ part a.found.known = ap part (module_named_is ps sss g l r.good.at a.found.known r.good.is_module) in
        let there : of x.spot.module_name ≡ part a.found.known = ap of (sym n) ∙ named in
        subst (λ (R : Results (List Region)). RegionsHold (known_of ps sss) g (scope_of g.untracked a.found.known) R x) (sym same)
        (subst (λ (p : Part). RegionsHold (known_of ps sss) g p.scope (regions_in_part g (callees_of_all (known_of ps sss) g) (rs p.routine.name) p) x) there h)

    all_of_each : {T : Type 0} (P : T → Type 0) (xs : List T) → Each P xs → All P xs
    all_of_each P [] e = All-nil P
    all_of_each P (y ∷ xs) e = All-cons P y xs e.0 (all_of_each P xs e.1)

    pub follows : AllRegionsHold (known_of ps sss) g (all_regions g (analyses (known_of ps sss) g)) x
    follows =
        let P : ModuleRegions → Type 0 = λ f. f.analysis.found.known.read.name ≡ x.spot.module_name → RegionsHold (known_of ps sss) g (scope_of g.untracked f.analysis.found.known) f.regions x in
        all_of_each P (all_regions g (analyses (known_of ps sss) g)) (each_more (Placed g.untracked (analyses (known_of ps sss) g)) P (all_regions g (analyses (known_of ps sss) g)) holds_of (regions_placed ps sss g l))

-- ---- programs

module _ (names : NamesAgree) (stays : JumpsStayInside) (ps : List ParsedTree) (sss : List (List SymbolTree)) (g : Graph) (x : IsProgram ps sss g) where
  -- regions hold in every run
  pub all_hold : ProgramRegionsHold → AcceptedDataStaysInLocals →
      InEveryRun (known_of ps sss) g (AllRegionsHold (known_of ps sss) g (all_regions g (analyses (known_of ps sss) g)))
  all_hold holds lies turns input =
      let ks = known_of ps sss in
      let cs = callees_of_all ks g in
      let sites = analysed_sites ks g in
      let entry = analysed_entry ks g in
      let of = part_named ks g cs entry in
      let linked = programs_are_linked ps sss g x in
      let r = main_from ps sss x.tables (some_main ps sss g x.links) in
      let main = known r.parsed r.table in
      let is = known_module ps sss r.at r.parsed r.table r.is_module in
      let alone = (modules_are_read x.lines ps sss x.parsed x.tables r.at main is).main r.main in
      let analysed = analyses_follow ps sss g linked.0 (λ i p ss m. (is_settled names stays ps sss g x i p ss m).numbered) in
      let initialised = lies x.lines ps sss x.parsed x.tables in
      let fit = integers_fit x.lines ps sss x.parsed x.tables in
      let plain = λ (i : ℕ) (p : ParsedTree) (ss : List SymbolTree) (m : IsModule ps sss i p ss). (modules_are_read x.lines ps sss x.parsed x.tables i (known p ss) (known_module ps sss i p ss m)).name in
      let told = λ (i : ℕ) (p : ParsedTree) (ss : List SymbolTree) (m : IsModule ps sss i p ss). (let built = built_at ps (all_built x.lines ps x.parsed) i p m.parsed in names_told p ss built.well (cards_of_held (statements_of p.module_read) built.formed) (linked.1 i p ss m)) in
      let blocks = λ (i : ℕ) (p : ParsedTree) (ss : List SymbolTree) (m : IsModule ps sss i p ss). (let built = built_at ps (all_built x.lines ps x.parsed) i p m.parsed in blocks_told p ss (cards_of_held (statements_of p.module_read) built.formed) (linked.1 i p ss m)) in
      let whole = program ps sss g linked.0 linked.1 (is_ready names stays ps sss g x) cs sites entry analysed initialised r.at r.parsed r.table r.is_module r.is_main r.main alone in
      let is_program = program_is ps sss g linked.0 linked.1 (is_ready names stays ps sss g x) cs sites entry analysed initialised r.at r.parsed r.table r.is_module r.is_main r.main alone in
      let each = holds _ cs sites of _ _ _ whole ks g (summaries_of g (analyses ks g))
      (regular_part ps sss g linked.0 linked.1 (is_ready names stays ps sss g x) analysed fit plain told blocks (subs ks g.order) (subs_in ks g.order) main (record { at = r.at; is_module = is }))
      (regular_parts ps sss g linked.0 linked.1 (is_ready names stays ps sss g x) analysed fit plain told blocks (subs ks g.order) (subs_in ks g.order)) is_program in
      throughout_more (EachRegionHolds ks g cs (summaries_of g (analyses ks g)) of) (AllRegionsHold ks g (all_regions g (analyses ks g))) (λ y h. follows ps sss g linked.0 linked.1 (is_ready names stays ps sss g x) analysed y h) (program_plan (program_of ks g) turns) (program_of ks g).initial input (λ f z j. []) (each turns input)

pub read_regions_hold : NamesAgree → AcceptedDataStaysInLocals → JumpsStayInside → ProgramRegionsHold → ReadRegionsHold
read_regions_hold names lies stays holds ps sss g x = all_hold names stays ps sss g x holds lies
