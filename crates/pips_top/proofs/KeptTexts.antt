-- The texts that are written of kept results, with the directives of loops with reduction variables and the lines on references.
use Rattle.std.proofs.Common.{◌≡◌, ℕ, Bool, true, false, List, [], ◌∷◌, ◌++◌, map, Option, Some, None, Ok, refl, sym, ap, ◌∙◌, subst}
use Rattle.std.specs.Prelude.{option_map, option_and_then, option_to_list, if◌then◌else◌}
use Rattle.f77_ast.specs.DeclTrees.{ModuleTree, ParsedTree}
use Rattle.f77_ast.specs.Symbols.{SymbolTree}
use Rattle.f77_ast.specs.Trees.{LoopTree}
use Rattle.f77_ast.specs.declared.effect_set.EffectSet.{EffectSet}
use Rattle.f77_ast.specs.declared.marks.Mark.{Mark}
use Rattle.f77_ast.specs.declared.results.At.{At}
use Rattle.f77_printer.specs.ModuleText as printer
use Rattle.f77_printer.specs.declared.added.Added.{Added}
use Rattle.call_graph.specs.declared.graph.Graph.{Graph}
use Rattle.f77_meaning.specs.Modules.{Known, known_of, symbol_names}
use Rattle.laws_programs.specs.roundtrip_programs.Laws.{TablesIgnorePlaces, GraphsIgnorePlaces}
use Rattle.laws_programs.specs.roundtrip_programs.Texts.Texts.{modules_text}
use Rattle.laws_programs.specs.roundtrip_programs.Written.Laws.{by_tree}
use Rattle.pipsmake_base.specs.pipsmake_rules.declared.kind.Kind.{Kind}
use Rattle.pipsmake_base.specs.pipsmake_rules.declared.kind.Kind.TheVariants as kind
use Rattle.pipsmake_base.specs.pipsmake_rules.Keys.{holds}
use Rattle.pipsmake_base.specs.pipsmake_rules.Neighbours.{has_name}
use Rattle.pipsmake_base.specs.module_phases.ScalarPhases.{scope_of}
use Rattle.pipsmake_base.specs.loop_marker.Known.{knowledge_of}
use Rattle.pipsmake_base.specs.loop_marker.Marks.{Knowledge}
use Rattle.pipsmake_base.specs.loop_marker.dependence_test.Finding.{loop_in}
use Rattle.pipsmake_base.specs.loop_marker.Results.{ModuleResults}
use Rattle.pipsmake_base.specs.result_lines.Lines.{PrintedResults}
use Rattle.pipsmake_base.specs.result_lines.ReductionLines.{reduced_lines_of}
use Rattle.pipsmake_base.specs.result_lines.declared.reduction.Reduction.{Reduction}
use Rattle.pipsmake_base.specs.pipsmake_meaning.Definitions.{module_named, results_in, printed_of, definition}
use Rattle.pipsmake_base.specs.pipsmake_meaning.MemoCells.{kept_of}
use Rattle.pipsmake_base.specs.pipsmake_meaning.ResultEntries.{results_of_modules, results_for}
use Rattle.pipsmake_base.specs.pipsmake_meaning.Rules.{known, transformers_in, preconditions_in, regions_in, ins_in, outs_in, marks_in, results_from, kept_results}
use Rattle.pipsmake_base.specs.pipsmake_meaning.Session.{UpToDate}
use Rattle.pipsmake_base.specs.pipsmake_meaning.Texts.{ModuleText, ReadModule, module_read, AreModules, names_in, trees_in, modules_in, links_in, known_in, graph_or_none, graph_of}
use Rattle.pipsmake_base.specs.pipsmake_meaning.Values.{transformers, preconditions, regions, ins, outs, marks}
use Rattle.pipsmake_base.specs.laws_database.ProgramTexts.{before_text}
use Rattle.pipsmake_base.specs.laws_database.Sources.Laws.{IsSplit}
use Rattle.pipsmake_base.specs.laws_database.Stands.{Valuation}
use Rattle.pipsmake_base.specs.laws_database.Unverified.{IsStored}
use Rattle.pipsmake_base.specs.session_texts.Modules.{NamesDiffer}
use Rattle.pipsmake_base.specs.pipsmake_db.Calls.{key, Rests}
use Rattle.pipsmake_base.specs.pipsmake_db.State.{State, IsIn, texts_of, memo_cells_in}
use Rattle.pipsmake_base.specs.pipsmake_db.declared.db.Db.{Db}
use Rattle.pipsmake_base.specs.Current.{FreshIsCurrent}
use Rattle.pipsmake_base.specs.Saving.{stored_kinds}
use Rattle.reductions.specs.Reduced.{reduction_in, is_carried, at_number, found_at, reduced_of}
use Rattle.pips_top.specs.Kept.{no_effects, reductions_known, lines_known, text_wanted, module_from, texts_wanted, module_kept, modules_kept, KeptTexts}
use Rattle.pips_top.specs.Program.{ProgramTree}
use Rattle.laws_bounds.specs.laws_marks.Said.{reductions_of}
use Rattle.pips_top.specs.Shown.{checks_of, lines_wanted, lines_with, lines_found}
use Rattle.pips_top.specs.Written.{written}
use Rattle.pips_top.specs.declared.wanted.Wanted.{Wanted}
use Rattle.pips_top.proofs.FreshKeys.{AllThere, AllFresh}
use Rattle.pipsmake_base.proofs.Defined.{stored_value}
use Rattle.pipsmake_base.proofs.LawsDatabase.Keeping.{held}
use Rattle.pipsmake_base.proofs.LawsDatabase.Modules.{read_at, entry_of}
use Rattle.pipsmake_base.proofs.PipsmakeDb.RestLaws.{AreThere, all_there, HasEach, has_each}
use Rattle.pipsmake_base.proofs.PipsmakeDb.ShowLaws.{all_kept}
use Rattle.fx_lists.proofs.Options.{some_is}

-- ---- effects play no part

module _ (k : Knowledge) (es : List (At EffectSet)) (modules : List (List ℕ)) where
  abbrev pub other : Knowledge
  other = record k { effects = es }

  in_apart : (n : ℕ) (o : Option LoopTree) → reduction_in other modules n o ≡ reduction_in k modules n o
  in_apart n None = refl
  in_apart n (Some l) = refl

  at_apart : (m : At Mark) → found_at other modules m ≡ found_at k modules m
  at_apart m = ap (λ (r : Option Reduction). if is_carried m.value then at_number m.id r else []) (in_apart m.id (loop_in m.id k.tree.body))

  pub reduced_apart : (ms : List (At Mark)) → reduced_of other modules ms ≡ reduced_of k modules ms
  reduced_apart [] = refl
  reduced_apart (m ∷ ms) = λ i. at_apart m i ++ reduced_apart ms i

knowledge : Graph → ModuleResults → Knowledge
knowledge g f =
    knowledge_of f.known.read f.known.symbols (symbol_names f.known.symbols) (scope_of g.untracked f.known) f.effects.at f.transformers.at f.preconditions.at f.regions.at f.ins.at f.outs.at

reductions_kept : (b : Bool) (g : Graph) (f : ModuleResults) → reductions_known b g f.known (printed_of f) ≡ reductions_of b g f
unfolding knowledge
reductions_kept false g f = refl
reductions_kept true g f = reduced_apart (knowledge g f) no_effects g.order f.marks

-- what is written of a module by its results
lines_kept : (w : Wanted) (g : Graph) (f : ModuleResults) (k : Known) → f.known ≡ k → lines_known w g k (printed_of f) ≡ lines_wanted w g f
lines_kept w g f k e =
    ap (λ (j : Known). lines_known w g j (printed_of f)) (sym e)
    ∙ ap (λ (rs : List (At Reduction)). reduced_lines_of w.show f.known (printed_of f) rs (checks_of w.bounds g f)) (reductions_kept w.reductions g f)

-- ---- results that are kept as they are defined

by_results : (o : Option ModuleResults) →
    results_from (option_and_then transformers_in (option_map (λ f. transformers f.transformers) o)) (option_and_then preconditions_in (option_map (λ f. preconditions f.preconditions) o))
    (option_and_then regions_in (option_map (λ f. regions f.regions) o)) (option_and_then ins_in (option_map (λ f. ins f.ins) o)) (option_and_then outs_in (option_map (λ f. outs f.outs) o))
    (option_and_then marks_in (option_map (λ f. marks f.marks) o)) ≡ option_map printed_of o
by_results None = refl
by_results (Some f) = refl

module _ (tables_law : TablesIgnorePlaces) (graphs_law : GraphsIgnorePlaces) (d : Db) (s : State) (i : IsIn d s) (current : FreshIsCurrent s) where
  kept_now : (k : Kind) (x : List ℕ) → IsStored k → holds d.fresh (key k x) ≡ true → kept_of (memo_cells_in d) k x ≡ definition (texts_of d) k x
  kept_now k x is_stored fresh =
      let up : UpToDate s.made s.texts (key k x) = held (UpToDate s.made s.texts) s.fresh (key k x) current (ap (λ ks. holds ks (key k x)) (sym i.fresh) ∙ fresh) in
      let v = stored_value tables_law graphs_law (memo_cells_in d) s.texts s.made i.stands (key k x) up is_stored in
      v.2 ∙ sym (ap (λ ts. definition ts k x) i.texts ∙ v.1)

  results_kept : (x : List ℕ) → AllThere d.fresh x stored_kinds → kept_results (memo_cells_in d) x ≡ option_map printed_of (results_in (texts_of d) x)
  results_kept x (effects, (own, (holds, (found, (taken, (later, (ms, end))))))) =
      let all : kept_results (memo_cells_in d) x ≡
      results_from (option_and_then transformers_in (definition (texts_of d) kind.Transformers x)) (option_and_then preconditions_in (definition (texts_of d) kind.Preconditions x))
      (option_and_then regions_in (definition (texts_of d) kind.Regions x)) (option_and_then ins_in (definition (texts_of d) kind.InRegions x)) (option_and_then outs_in (definition (texts_of d) kind.OutRegions x))
      (option_and_then marks_in (definition (texts_of d) kind.Marks x)) =
      λ j. results_from (option_and_then transformers_in (kept_now kind.Transformers x tt own j)) (option_and_then preconditions_in (kept_now kind.Preconditions x tt holds j))
      (option_and_then regions_in (kept_now kind.Regions x tt found j)) (option_and_then ins_in (kept_now kind.InRegions x tt taken j)) (option_and_then outs_in (kept_now kind.OutRegions x tt later j))
      (option_and_then marks_in (kept_now kind.Marks x tt ms j)) in
      all ∙ by_results (results_in (texts_of d) x)

  -- ---- the text of a program

  module _ (w : Wanted) (modules : AreModules (texts_of d)) (g : Graph) (links : links_in (texts_of d) ≡ Ok g) where
    abbrev found : List ModuleResults
    found = results_of_modules (known_in (texts_of d)) g

    abbrev added : ModuleTree → List Added
    added = lines_found w g found

    text_kept : (u : ModuleText) (m : ReadModule) → has_name (names_in (texts_of d)) u.name ≡ true → AllThere d.fresh u.name stored_kinds → module_named (texts_of d) u.name ≡ Some m → m.module_is.module_read.name ≡ u.name
        → module_kept w d u.name ≡ Some (printer.module_text m.module_is.places m.module_is.module_read (added m.module_is.module_read))
    text_kept u m named fresh is_read is_named =
        let r = read_at (texts_of d) modules u.name named in
        let e = entry_of (texts_of d) g links u.name r in
        let same : r.read ≡ m = some_is r.read m (sym r.is_read ∙ is_read) in
        let own : e.entry.known ≡ known m = e.is_of ∙ ap known same in
        let results : kept_results (memo_cells_in d) u.name ≡ Some (printed_of e.entry) = results_kept u.name fresh ∙ ap (option_map printed_of) e.result in
        let graph : graph_of (texts_of d) ≡ g = ap graph_or_none links in
        let of_name : results_for found m.module_is.module_read.name ≡ Some e.entry = ap (results_for found) is_named ∙ e.said in
        let lines : lines_known w g (known m) (printed_of e.entry) ≡ added m.module_is.module_read =
        lines_kept w g e.entry (known m) own ∙ sym (ap (lines_with w g) of_name) in
        ap (λ (o : Option PrintedResults). option_and_then (λ n. option_map (text_wanted w (graph_of (texts_of d)) n) o) (module_named (texts_of d) u.name)) results
        ∙ ap (option_and_then (λ n. option_map (text_wanted w (graph_of (texts_of d)) n) (Some (printed_of e.entry)))) is_read
        ∙ ap (λ h. Some (text_wanted w h m (printed_of e.entry))) graph
        ∙ ap (λ (ls : List Added). Some (printer.module_text m.module_is.places m.module_is.module_read ls)) lines

    texts_kept : (us : List ModuleText) → HasEach (names_in (texts_of d)) (names_in us) → AreThere (texts_of d) us → AreModules us → AllFresh d.fresh (names_in us)
        → modules_kept w d (names_in us) ≡ Some (modules_text (by_tree added) (trees_in us))
    texts_kept [] named there own fresh = refl
    texts_kept (u ∷ us) named there own fresh =
        let m : ReadModule = own.0.found in
        let first : List ℕ = printer.module_text m.module_is.places m.module_is.module_read (added m.module_is.module_read) in
        let is_read : module_named (texts_of d) u.name ≡ Some m = ap (option_and_then module_read) there.0 ∙ own.0.is_read in
        ap (λ o. before_text o (modules_kept w d (names_in us))) (text_kept u m named.0 fresh.0 is_read own.0.is_named)
        ∙ ap (before_text (Some first)) (texts_kept us named.1 there.1 own.1 fresh.1)
        ∙ sym (ap (λ o. Some (modules_text (by_tree added) (map (λ (n : ReadModule). n.module_is) (option_to_list o ++ modules_in us)))) own.0.is_read)

-- what is written of the kept results of a database that has the modules of a program is what is written of the program
module _ (tables_law : TablesIgnorePlaces) (graphs_law : GraphsIgnorePlaces) (w : Wanted) (bytes : List ℕ) (ms : List ParsedTree) (tables : List (List SymbolTree)) (g : Graph) (parts : IsSplit bytes ms tables g) where
  abbrev program : ProgramTree
  program = record { modules = ms; tables = tables; graph = g }

  pub all_written : (d : Db) (s : State) → IsIn d s → FreshIsCurrent s → texts_of d ≡ parts.texts → AllFresh d.fresh (names_in (texts_of d)) → (text : List ℕ) → KeptTexts w d text → text ≡ written w program
  all_written d s i current same fresh text kept =
      let ts : List ModuleText = texts_of d in
      let modules : AreModules ts = subst AreModules (sym same) parts.modules in
      let linked : links_in ts ≡ Ok g = ap links_in same ∙ parts.linked in
      let differ : NamesDiffer ts = subst NamesDiffer (sym same) parts.differ in
      let added : List Known → ModuleTree → List Added = λ ks. lines_found w g (results_of_modules ks g) in
      let whole : modules_kept w d (names_in ts) ≡ Some (modules_text (by_tree (added (known_in ts))) (trees_in ts)) =
      texts_kept tables_law graphs_law d s i current w modules g linked ts (has_each (names_in ts)) (all_there ts differ) modules fresh in
      some_is text (modules_text (by_tree (added (known_in ts))) (trees_in ts)) (sym kept ∙ whole)
      ∙ ap (λ us. modules_text (by_tree (added (known_in us))) (trees_in us)) same
      ∙ ap (λ ks. modules_text (by_tree (added ks)) (trees_in parts.texts)) parts.known
      ∙ parts.alike (added (known_of ms tables))

-- ---- stored results, whatever they are

module _ (w : Wanted) (d : Db) (stored : Valuation) (rests : Rests d stored) where
  module_stored : (x : List ℕ) → has_name (names_in (texts_of d)) x ≡ true → module_kept w d x ≡ module_from (texts_of d) stored w x
  module_stored x named =
      λ i. option_and_then (λ m. option_map (text_wanted w (graph_of (texts_of d)) m) (all_kept (memo_cells_in d) (texts_of d) stored rests.kept x named i)) (module_named (texts_of d) x)

  modules_stored : (xs : List (List ℕ)) → HasEach (names_in (texts_of d)) xs → modules_kept w d xs ≡ texts_wanted (texts_of d) stored w xs
  modules_stored [] h = refl
  modules_stored (x ∷ xs) h = λ i. before_text (module_stored x h.0 i) (modules_stored xs h.1 i)

  pub texts_stored : (text : List ℕ) → KeptTexts w d text → texts_wanted (texts_of d) stored w (names_in (texts_of d)) ≡ Some text
  texts_stored text kept = sym (modules_stored (names_in (texts_of d)) (has_each (names_in (texts_of d)))) ∙ kept
