-- Where what is kept of the needs of a result is what is defined, its rule makes of it what is defined.
use Rattle.std.proofs.Common.{◌≡◌, ℕ, Bool, true, false, List, [], ◌∷◌, ◌++◌, map, Option, Some, refl, sym, ap, ◌∙◌, subst}
use Rattle.std.specs.Prelude.{bytes_eq, cond, reverse, option_map, option_and_then, option_to_list, Ok, if◌then◌else◌}
use Rattle.std.specs.List.{filter}
use Rattle.f77_ast.specs.declared.variable.Unit.{Unit as BlockUnit}
use Rattle.f77_ast.specs.declared.results.Results.{Results}
use Rattle.f77_meaning.specs.Linked.{callees}
use Rattle.f77_meaning.specs.Modules.{Known, symbol_names}
use Rattle.call_graph.specs.declared.graph.Graph.{Graph}
use Rattle.in_out_regions.specs.effects.Modules.{cumulated_of}
use Rattle.preconditions.specs.transformers.Lists.{value_at, transformer_at}
use Rattle.preconditions.specs.transformers.Modules.{transformers_of}
use Rattle.preconditions.specs.Entry.{entry_of}
use Rattle.preconditions.specs.Modules.{preconditions_of}
use Rattle.in_out_regions.specs.call_equations.Sides.{changed_cells}
use Rattle.in_out_regions.specs.array_regions.Modules.{regions_with}
use Rattle.in_out_regions.specs.Modules.{ins_with}
use Rattle.loop_marker.specs.out_regions.Modules.{outs_with}
use Rattle.loop_marker.specs.module_phases.ScalarPhases.{scope_of, list_sites}
use Rattle.loop_marker.specs.module_phases.OutPhases.{list_sites as out_list_sites, used_after}
use Rattle.loop_marker.specs.Known.{knowledge_of}
use Rattle.loop_marker.specs.Marks.{marks_of}
use Rattle.loop_marker.specs.Results.{ModuleResults}
use Rattle.call_graph.specs.CallsIn.{Each, list_calls}
use Rattle.laws_analyses.proofs.Passes.{each_reversed}
use Rattle.laws_analyses.proofs.CalleeLaws.{same_transformers}
use Rattle.session_texts.specs.pipsmake_meaning.ResultEntries.{results_of_modules, name_in, results_for}
use Rattle.laws_database.specs.ResultCallees.{Summaries, SameCallees, seen_of, summaries, effect_summaries, transformer_summaries, region_summaries, in_summaries}
use Rattle.laws_database.specs.ResultCallers.{calls, callers, holding_sites, later_sites}
use Rattle.laws_database.specs.ResultEquations.{FollowsFrom}
use Rattle.laws_database.specs.ResultLaws.{IsFound, IsInGraph}
use Rattle.laws_database.proofs.ResultEffectLaws.{same_effects}
use Rattle.laws_database.proofs.ResultRegionLaws.{same_regions}
use Rattle.laws_database.proofs.ResultInLaws.{same_ins}
use Rattle.laws_database.proofs.ResultLists.{each_mapped}
use Rattle.laws_database.proofs.ResultEntries.{modules_have_entries}
use Rattle.laws_database.proofs.ResultGraphs.{name_in_call, are_in_graph}
use Rattle.laws_database.proofs.ResultFollows.{results_follow}
use Rattle.f77_printer.specs.ModuleText as printer
use Rattle.result_lines.specs.Lines.{lines_of}
use Rattle.result_lines.specs.declared.show.Show.{Show}
use Rattle.result_lines.specs.declared.show.Show.TheVariants.{All}
use Rattle.loop_marker.specs.module_phases.Callees as rules
use Rattle.loop_marker.specs.module_phases.Callers as rules_up
use Rattle.loop_marker.specs.module_phases.Rules.{preconditions_from, regions_from, ins_from, outs_from}
use Rattle.session_texts.specs.pipsmake_rules.declared.kind.Kind.{Kind}
use Rattle.session_texts.specs.pipsmake_rules.declared.kind.Kind.TheVariants as kind
use Rattle.session_texts.specs.pipsmake_rules.declared.key.Key.{Key}
use Rattle.session_texts.specs.pipsmake_rules.Keys.{key_of}
use Rattle.session_texts.specs.pipsmake_rules.Needs.{by_module}
use Rattle.session_texts.specs.pipsmake_rules.Neighbours.{has_name, callees_of, callers_of}
use Rattle.session_texts.specs.pipsmake_meaning.Values.{Value, parsed, lines, symbols, effects, transformers, preconditions, regions, ins, outs, marks, printed}
use Rattle.session_texts.specs.pipsmake_meaning.Texts.{ModuleText, ReadModule, AreModules, trees_in, tables_in, names_in, links_in, known_in, graph_or_none, graph_of}
use Rattle.session_texts.specs.pipsmake_meaning.Definitions.{module_named, results_in, printed_of, text_shown, printed_with, definition}
use Rattle.session_texts.specs.pipsmake_meaning.Session.{needs_in}
use Rattle.session_texts.specs.pipsmake_meaning.MemoCells.{MemoCells, kept_of}
use Rattle.session_texts.specs.pipsmake_meaning.Rules as made
use Rattle.session_texts.specs.pipsmake_meaning.Rules.{known, effects_kept, transformers_kept, preconditions_kept, regions_kept, ins_kept, outs_kept, marks_kept, callees_with, holding_with, holding_callers, outs_with as later_with, later_callers, rule_of, rule_with, rule_for, rule_value, results_from, kept_results, text_with}
use Rattle.laws_database.specs.Laws.{AreLinked, CanMake}
use Rattle.laws_database.proofs.Stamps.{IsKnown}
use Rattle.laws_database.proofs.Modules.{read_at, Entry, entry_of as entry_at, linked}
use Rattle.laws_database.proofs.Needs.{named_callees, named_callers}
use Rattle.laws_database.proofs.Called.{IsSeen, called_are, second_of, third_of, fourth_of, skip_none, callers_same}
use Rattle.in_out_regions.specs.region_sets.Lists.{set_at}
use Rattle.call_graph.proofs.EachLaws.{each_both, each_more}
use Rattle.fx_lists.proofs.Options.{some_is}

pub said_each : (P : ModuleResults → Type 0) (fs : List ModuleResults) (x : List ℕ) (f : ModuleResults) → Each P fs → results_for fs x ≡ Some f → P f
said_each P [] x f e h = cc
said_each P (d ∷ fs) x f e h = go (bytes_eq (name_in d) x) h (said_each P fs x f e.1)
  where
    go : (b : Bool) → (if b then Some d else results_for fs x) ≡ Some f → (results_for fs x ≡ Some f → P f) → P f
    go true q ih = (let same : d ≡ f = cc in subst P same e.0)
    go false q ih = ih q

each_kept : (P : ModuleResults → Type 0) (t : ModuleResults → Bool) (fs : List ModuleResults) → Each P fs → Each P (filter t fs)
each_kept P t [] h = tt
each_kept P t (f ∷ fs) h = go (t f) (each_kept P t fs h.1)
  where
    go : (b : Bool) → Each P (filter t fs) → Each P (cond b (f ∷ filter t fs) (filter t fs))
    go true ih = (h.0, ih)
    go false ih = ih

-- ---- callers

module _ (ts : List ModuleText) (sh : MemoCells) (u : List BlockUnit) (x : List ℕ) where
  -- what is kept of a caller is what is defined
  record Holds (d : ModuleResults) : Type 0 where
    read : ReadModule
    is_read : module_named ts (name_in d) ≡ Some read
    same : known read ≡ d.known
    kept : preconditions_kept sh (name_in d) ≡ Some d.preconditions

  holding_are : (cs : List ModuleResults) → Each Holds cs → rules_up.sites_of u (holding_callers sh ts (map name_in cs)) x ≡ holding_sites u cs x
  holding_are [] h = refl
  holding_are (c ∷ cs) h =
      (λ i. rules_up.sites_of u (option_to_list (holding_with (h.0.is_read i) (h.0.kept i)) ++ holding_callers sh ts (map name_in cs)) x)
      ∙ (λ i. list_sites (h.0.same i).read.body (record { scope = scope_of u (h.0.same i); holds = value_at c.preconditions.at }) x ++ holding_are cs h.1 i)

  record Later (d : ModuleResults) : Type 0 where
    read : ReadModule
    is_read : module_named ts (name_in d) ≡ Some read
    same : known read ≡ d.known
    own : transformers_kept sh (name_in d) ≡ Some d.transformers
    kept : outs_kept sh (name_in d) ≡ Some d.outs

  later_are : (cs : List ModuleResults) → Each Later cs → rules_up.out_sites_of u (later_callers sh ts (map name_in cs)) x ≡ later_sites u cs x
  later_are [] h = refl
  later_are (c ∷ cs) h =
      (λ i. rules_up.out_sites_of u (option_to_list (later_with (h.0.is_read i) (h.0.own i) (h.0.kept i)) ++ later_callers sh ts (map name_in cs)) x)
      ∙ (λ i. out_list_sites (h.0.same i).read.body (record { scope = scope_of u (h.0.same i); changed = changed_cells c.transformers.at; outs = set_at c.outs.at }) x ++ later_are cs h.1 i)

-- ---- one module

module _ (ts : List ModuleText) (ms : AreModules ts) (sh : MemoCells) (links : links_in ts ≡ Ok (graph_of ts)) where
  abbrev g : Graph
  g = graph_of ts

  abbrev fs : List ModuleResults
  fs = results_of_modules (known_in ts) (graph_of ts)

  abbrev u : List BlockUnit
  u = (graph_of ts).untracked

  abbrev IsName : List ℕ → Type 0
  IsName y = has_name (names_in ts) y ≡ true

  abbrev entry : (y : List ℕ) → (n : IsName y) → Entry ts (graph_of ts) y (read_at ts ms y n).read
  entry y n = entry_at ts (graph_of ts) links y (read_at ts ms y n)

  abbrev KnownAt : Kind → List ℕ → Type 0
  KnownAt k y = IsKnown sh ts (record { kind = k; name = y })

  kept_is : (k : Kind) (y : List ℕ) (v : Value) → KnownAt k y → definition ts k y ≡ Some v → kept_of sh k y ≡ Some v
  kept_is k y v n e = n.kept ∙ (sym n.defined ∙ e)

  -- what is kept of a module
  effects_at : (y : List ℕ) (n : IsName y) → KnownAt kind.Effects y → effects_kept sh y ≡ Some (entry y n).entry.effects
  effects_at y n k = ap (option_and_then made.effects_in) (kept_is kind.Effects y (effects (entry y n).entry.effects) k (ap (option_map (λ f. effects f.effects)) (entry y n).result))

  transformers_at : (y : List ℕ) (n : IsName y) → KnownAt kind.Transformers y → transformers_kept sh y ≡ Some (entry y n).entry.transformers
  transformers_at y n k =
      ap (option_and_then made.transformers_in) (kept_is kind.Transformers y (transformers (entry y n).entry.transformers) k (ap (option_map (λ f. transformers f.transformers)) (entry y n).result))

  preconditions_at : (y : List ℕ) (n : IsName y) → KnownAt kind.Preconditions y → preconditions_kept sh y ≡ Some (entry y n).entry.preconditions
  preconditions_at y n k =
      ap (option_and_then made.preconditions_in) (kept_is kind.Preconditions y (preconditions (entry y n).entry.preconditions) k (ap (option_map (λ f. preconditions f.preconditions)) (entry y n).result))

  regions_at : (y : List ℕ) (n : IsName y) → KnownAt kind.Regions y → regions_kept sh y ≡ Some (entry y n).entry.regions
  regions_at y n k = ap (option_and_then made.regions_in) (kept_is kind.Regions y (regions (entry y n).entry.regions) k (ap (option_map (λ f. regions f.regions)) (entry y n).result))

  ins_at : (y : List ℕ) (n : IsName y) → KnownAt kind.InRegions y → ins_kept sh y ≡ Some (entry y n).entry.ins
  ins_at y n k = ap (option_and_then made.ins_in) (kept_is kind.InRegions y (ins (entry y n).entry.ins) k (ap (option_map (λ f. ins f.ins)) (entry y n).result))

  outs_at : (y : List ℕ) (n : IsName y) → KnownAt kind.OutRegions y → outs_kept sh y ≡ Some (entry y n).entry.outs
  outs_at y n k = ap (option_and_then made.outs_in) (kept_is kind.OutRegions y (outs (entry y n).entry.outs) k (ap (option_map (λ f. outs f.outs)) (entry y n).result))

  marks_at : (y : List ℕ) (n : IsName y) → KnownAt kind.Marks y → marks_kept sh y ≡ Some (entry y n).entry.marks
  marks_at y n k = ap (option_and_then made.marks_in) (kept_is kind.Marks y (marks (entry y n).entry.marks) k (ap (option_map (λ f. marks f.marks)) (entry y n).result))

  are_linked : AreLinked ts
  are_linked = (graph_of ts, links)

  module _ (x : List ℕ) (n : IsName x) where
    abbrev r : ReadModule
    r = (read_at ts ms x n).read

    said : results_for fs x ≡ Some (entry x n).entry
    said = (entry x n).said

    is_of : (entry x n).entry.known ≡ known (read_at ts ms x n).read
    is_of = (entry x n).is_of

    name_is : name_in (entry x n).entry ≡ x
    name_is = ap (λ (k : Known). k.read.name) is_of ∙ (read_at ts ms x n).named

    follows : FollowsFrom (graph_of ts) fs (entry x n).entry
    follows = said_each (FollowsFrom (graph_of ts) fs) fs x (entry x n).entry (results_follow (trees_in ts) (tables_in ts) (graph_of ts) (linked ts (graph_of ts) links)) said

    calls_are : map name_in_call (list_calls (entry x n).entry.known.read.body) ≡ callees (graph_of ts).edges x
    calls_are =
        said_each (IsInGraph (graph_of ts)) fs x (entry x n).entry (are_in_graph (trees_in ts) (tables_in ts) (graph_of ts) (linked ts (graph_of ts) links)).callees_are said
        ∙ ap (callees (graph_of ts).edges) name_is

    -- the modules that it calls
    called : {T : Type 0} (k : Kind) (kept : List ℕ → Option (Results T)) (v : ModuleResults → Results T) → ((y : List ℕ) (m : IsName y) → IsKnown sh ts (key_of k y) → kept y ≡ Some (v (entry y m).entry)) → (rest : List Key) →
        Each (IsKnown sh ts) (by_module (kind.Symbols ∷ k ∷ []) (callees_of (graph_of ts) x) ++ rest) → SameCallees (entry x n).entry.known.read.body (rules.callees_of (callees_with kept ts (callees_of (graph_of ts) x))) (summaries (λ d. (v d).summary) fs)
    called {T = T} k kept v at rest h =
        let want : Summaries T = summaries (λ d. (v d).summary) fs in
        let found : Summaries T = rules.callees_of (callees_with kept ts (callees_of (graph_of ts) x)) in
        let pairs = second_of (IsKnown sh ts) kind.Symbols k (callees_of (graph_of ts) x) rest h in
        let all = each_both IsName (λ y. IsKnown sh ts (key_of kind.Symbols y) × IsKnown sh ts (key_of k y)) (callees_of (graph_of ts) x) (named_callees ts ms are_linked x) pairs in
        let seen = each_more (λ y. IsName y × (IsKnown sh ts (key_of kind.Symbols y) × IsKnown sh ts (key_of k y))) (IsSeen ts kept want) (callees_of (graph_of ts) x) (λ y q. see y q.0 q.1.1) all in
        each_mapped (λ y. found y ≡ want y) name_in_call (list_calls (entry x n).entry.known.read.body)
        (subst (Each (λ y. found y ≡ want y)) (sym calls_are) (called_are ts kept want (graph_of ts) x seen))
      where
        see : (y : List ℕ) (m : IsName y) → IsKnown sh ts (key_of k y) → IsSeen ts kept (summaries (λ d. (v d).summary) fs) y
        see y m q = record {
          read = (read_at ts ms y m).read;
          result = v (entry y m).entry;
          is_read = (read_at ts ms y m).is_read;
          is_found = at y m q;
          wanted = ap (seen_of (λ d. (v d).summary)) (entry y m).said ∙ (λ i. Some (record { symbols = ((entry y m).is_of i).symbols; value = (v (entry y m).entry).summary }));
        }

    -- the modules that call it
    callers_are : map name_in (callers fs x) ≡ callers_of (graph_of ts) x
    callers_are = (are_in_graph (trees_in ts) (tables_in ts) (graph_of ts) (linked ts (graph_of ts) links)).callers_are x ∙ callers_same (graph_of ts) x

    abbrev IsNamed : ModuleResults → Type 0
    IsNamed d = results_for fs (name_in d) ≡ Some d

    callers_found : Each IsNamed (callers fs x)
    callers_found =
        each_kept IsNamed (λ d. calls x d.known) (reverse fs)
        (each_reversed IsNamed fs
        (each_more (IsFound (known_in ts) fs) IsNamed fs (λ d i. i.found) (modules_have_entries (trees_in ts) (tables_in ts) (graph_of ts) (linked ts (graph_of ts) links)).found))

    each_caller : (Q : List ℕ → Type 0) → Each Q (callers_of (graph_of ts) x) → Each (λ d. IsNamed d × (IsName (name_in d) × Q (name_in d))) (callers fs x)
    each_caller Q h =
        let named = each_both IsName Q (callers_of (graph_of ts) x) (named_callers ts ms are_linked x) h in
        each_both IsNamed (λ d. IsName (name_in d) × Q (name_in d)) (callers fs x) callers_found
        (each_mapped (λ y. IsName y × Q y) name_in (callers fs x) (subst (Each (λ y. IsName y × Q y)) (sym callers_are) named))

    holding : Each (IsKnown sh ts) (by_module (kind.Parsed ∷ kind.Symbols ∷ kind.Preconditions ∷ []) (callers_of (graph_of ts) x)) →
        rules_up.sites_of u (holding_callers sh ts (callers_of (graph_of ts) x)) x ≡ holding_sites u (callers fs x) x
    holding h =
        let Q : List ℕ → Type 0 = λ y. IsKnown sh ts (key_of kind.Parsed y) × IsKnown sh ts (key_of kind.Symbols y) × IsKnown sh ts (key_of kind.Preconditions y) in
        let all = each_caller Q (third_of (IsKnown sh ts) kind.Parsed kind.Symbols kind.Preconditions (callers_of (graph_of ts) x) h) in
        ap (λ ys. rules_up.sites_of u (holding_callers sh ts ys) x) (sym callers_are)
        ∙ holding_are ts sh u x (callers fs x) (each_more (λ d. IsNamed d × (IsName (name_in d) × Q (name_in d))) (Holds ts sh u x) (callers fs x) (λ d q. see d q.0 q.1.0 q.1.1.2) all)
      where
        see : (d : ModuleResults) → IsNamed d → (m : IsName (name_in d)) → IsKnown sh ts (key_of kind.Preconditions (name_in d)) → Holds ts sh u x d
        see d named m q =
            let same : (entry (name_in d) m).entry ≡ d = some_is (entry (name_in d) m).entry d (sym (entry (name_in d) m).said ∙ named) in
            record {
              read = (read_at ts ms (name_in d) m).read;
              is_read = (read_at ts ms (name_in d) m).is_read;
              same = sym (entry (name_in d) m).is_of ∙ ap (λ (f : ModuleResults). f.known) same;
              kept = preconditions_at (name_in d) m q ∙ ap (λ z. Some z.preconditions) same;
            }

    later : Each (IsKnown sh ts) (by_module (kind.Parsed ∷ kind.Symbols ∷ kind.Transformers ∷ kind.OutRegions ∷ []) (callers_of (graph_of ts) x)) →
        rules_up.out_sites_of u (later_callers sh ts (callers_of (graph_of ts) x)) x ≡ later_sites u (callers fs x) x
    later h =
        let Q : List ℕ → Type 0 = λ y. IsKnown sh ts (key_of kind.Parsed y) × IsKnown sh ts (key_of kind.Symbols y) × IsKnown sh ts (key_of kind.Transformers y) × IsKnown sh ts (key_of kind.OutRegions y) in
        let all = each_caller Q (fourth_of (IsKnown sh ts) kind.Parsed kind.Symbols kind.Transformers kind.OutRegions (callers_of (graph_of ts) x) h) in
        ap (λ ys. rules_up.out_sites_of u (later_callers sh ts ys) x) (sym callers_are)
        ∙ later_are ts sh u x (callers fs x) (each_more (λ d. IsNamed d × (IsName (name_in d) × Q (name_in d))) (Later ts sh u x) (callers fs x) (λ d q. see d q.0 q.1.0 q.1.1.2 q.1.1.3) all)
      where
        see : (d : ModuleResults) → IsNamed d → (m : IsName (name_in d)) → IsKnown sh ts (key_of kind.Transformers (name_in d)) → IsKnown sh ts (key_of kind.OutRegions (name_in d)) → Later ts sh u x d
        see d named m p q =
            let same : (entry (name_in d) m).entry ≡ d = some_is (entry (name_in d) m).entry d (sym (entry (name_in d) m).said ∙ named) in
            record {
              read = (read_at ts ms (name_in d) m).read;
              is_read = (read_at ts ms (name_in d) m).is_read;
              same = sym (entry (name_in d) m).is_of ∙ ap (λ (f : ModuleResults). f.known) same;
              own = transformers_at (name_in d) m p ∙ ap (λ z. Some z.transformers) same;
              kept = outs_at (name_in d) m q ∙ ap (λ z. Some z.outs) same;
            }

    -- ---- its results, each by its rule

    abbrev Known-needs : Kind → Type 0
    Known-needs k = Each (IsKnown sh ts) (needs_in ts (record { kind = k; name = x }))

    effects_made : Known-needs kind.Effects → rule_of sh ts kind.Effects x (read_at ts ms x n).read ≡ Some (effects (entry x n).entry.effects)
    effects_made h =
        let cs = rules.callees_of (callees_with (effects_kept sh) ts (callees_of (graph_of ts) x)) in
        let same = called kind.Effects (effects_kept sh) (λ d. d.effects) effects_at (by_module [] (callers_of (graph_of ts) x)) h.1.1.1 in
        ap (λ z. Some (effects z))
        ((λ i. cumulated_of (sym is_of i).read.body cs (sym is_of i).symbols)
        ∙ (same_effects (entry x n).entry.known.symbols cs (effect_summaries fs) (entry x n).entry.known.read.body same ∙ sym follows.effects))

    transformers_made : Known-needs kind.Transformers → rule_of sh ts kind.Transformers x (read_at ts ms x n).read ≡ Some (transformers (entry x n).entry.transformers)
    transformers_made h =
        let cs = rules.callees_of (callees_with (transformers_kept sh) ts (callees_of (graph_of ts) x)) in
        let same = called kind.Transformers (transformers_kept sh) (λ d. d.transformers) transformers_at (by_module [] (callers_of (graph_of ts) x)) h.1.1.1.1 in
        ap (λ z. Some (transformers z))
        ((λ i. transformers_of (sym is_of i).read.body (scope_of u (sym is_of i)) cs)
        ∙ (same_transformers (scope_of u (entry x n).entry.known) cs (transformer_summaries fs) (entry x n).entry.known.read.body same ∙ sym follows.transformers))

    preconditions_made : Known-needs kind.Preconditions → rule_of sh ts kind.Preconditions x (read_at ts ms x n).read ≡ Some (preconditions (entry x n).entry.preconditions)
    preconditions_made h =
        let up = holding_callers sh ts (callers_of (graph_of ts) x) in
        let own = (entry x n).entry.transformers in
        let sites : rules_up.sites_of u up (known (read_at ts ms x n).read).read.name ≡ holding_sites u (callers fs (name_in (entry x n).entry)) (name_in (entry x n).entry) =
        ap (rules_up.sites_of u up) (read_at ts ms x n).named
        ∙ (holding (skip_none (IsKnown sh ts) (callees_of (graph_of ts) x) (by_module (kind.Parsed ∷ kind.Symbols ∷ kind.Preconditions ∷ []) (callers_of (graph_of ts) x)) h.1.1.1.1)
        ∙ ap (λ y. holding_sites u (callers fs y) y) (sym name_is)) in
        ap (option_map (λ own. preconditions (preconditions_from u (known (read_at ts ms x n).read) own up))) (transformers_at x n h.1.1.1.0)
        ∙ ap (λ z. Some (preconditions z))
        ((λ i. preconditions_of (sym is_of i).read.body (scope_of u (sym is_of i)) (transformer_at own.at) (entry_of (sym is_of i).read.main (scope_of u (sym is_of i)) (sites i))) ∙ sym follows.preconditions)

    regions_made : Known-needs kind.Regions → rule_of sh ts kind.Regions x (read_at ts ms x n).read ≡ Some (regions (entry x n).entry.regions)
    regions_made h =
        let below = callees_with (regions_kept sh) ts (callees_of (graph_of ts) x) in
        let cs = rules.callees_of below in
        let own = (entry x n).entry.transformers in
        let same = called kind.Regions (regions_kept sh) (λ d. d.regions) regions_at (by_module [] (callers_of (graph_of ts) x)) h.1.1.1.1 in
        ap (option_map (λ own. regions (regions_from u (known (read_at ts ms x n).read) own below))) (transformers_at x n h.1.1.1.0)
        ∙ ap (λ z. Some (regions z))
        ((λ i. regions_with (sym is_of i).read.body (scope_of u (sym is_of i)) u own.at cs)
        ∙ (same_regions (entry x n).entry.known.read.body (scope_of u (entry x n).entry.known) u own.at cs (region_summaries fs) same ∙ sym follows.regions))

    ins_made : Known-needs kind.InRegions → rule_of sh ts kind.InRegions x (read_at ts ms x n).read ≡ Some (ins (entry x n).entry.ins)
    ins_made h =
        let below = callees_with (ins_kept sh) ts (callees_of (graph_of ts) x) in
        let cs = rules.callees_of below in
        let own = (entry x n).entry.transformers in
        let found = (entry x n).entry.regions in
        let same = called kind.InRegions (ins_kept sh) (λ d. d.ins) ins_at (by_module [] (callers_of (graph_of ts) x)) h.1.1.1.1.1 in
        (λ i. option_and_then (λ own. option_map (λ found. ins (ins_from u (known (read_at ts ms x n).read) own found below)) (regions_at x n h.1.1.1.1.0 i)) (transformers_at x n h.1.1.1.0 i))
        ∙ ap (λ z. Some (ins z))
        ((λ i. ins_with (sym is_of i).read.body (scope_of u (sym is_of i)) u own.at found.at cs)
        ∙ (same_ins (entry x n).entry.known.read.body (scope_of u (entry x n).entry.known) u own.at found.at cs (in_summaries fs) same ∙ sym follows.ins))

    outs_made : Known-needs kind.OutRegions → rule_of sh ts kind.OutRegions x (read_at ts ms x n).read ≡ Some (outs (entry x n).entry.outs)
    outs_made h =
        let up = later_callers sh ts (callers_of (graph_of ts) x) in
        let own = (entry x n).entry.transformers in
        let found = (entry x n).entry.regions in
        let taken = (entry x n).entry.ins in
        let sites : rules_up.out_sites_of u up (known (read_at ts ms x n).read).read.name ≡ later_sites u (callers fs (name_in (entry x n).entry)) (name_in (entry x n).entry) =
        ap (rules_up.out_sites_of u up) (read_at ts ms x n).named
        ∙ (later (skip_none (IsKnown sh ts) (callees_of (graph_of ts) x) (by_module (kind.Parsed ∷ kind.Symbols ∷ kind.Transformers ∷ kind.OutRegions ∷ []) (callers_of (graph_of ts) x)) h.1.1.1.1.1.1)
        ∙ ap (λ y. later_sites u (callers fs y) y) (sym name_is)) in
        (λ i. option_and_then (λ own. option_and_then (λ found. option_map (λ taken. outs (outs_from (graph_of ts) (known (read_at ts ms x n).read) own found taken up)) (ins_at x n h.1.1.1.1.1.0 i)) (regions_at x n h.1.1.1.1.0 i)) (transformers_at x n h.1.1.1.0 i))
        ∙ ap (λ z. Some (outs z))
        ((λ i. outs_with (sym is_of i).read.body (scope_of u (sym is_of i)) own.at found.at taken.at (used_after (graph_of ts) (sym is_of i) (sites i))) ∙ sym follows.outs)

    marks_made : Known-needs kind.Marks → rule_of sh ts kind.Marks x (read_at ts ms x n).read ≡ Some (marks (entry x n).entry.marks)
    marks_made h =
        let m = (read_at ts ms x n).read in
        let d = (entry x n).entry in
        (λ i. option_and_then (λ e. option_and_then (λ own. option_and_then (λ holds. option_and_then (λ found. option_and_then (λ taken. option_map (λ after.
        marks (marks_of (knowledge_of (known m).read (known m).symbols (symbol_names (known m).symbols) (scope_of u (known m)) e.at own.at holds.at found.at taken.at after.at)))
        (outs_at x n h.1.1.1.1.1.1.1.1.0 i)) (ins_at x n h.1.1.1.1.1.1.1.0 i)) (regions_at x n h.1.1.1.1.1.1.0 i)) (preconditions_at x n h.1.1.1.1.1.0 i)) (transformers_at x n h.1.1.1.1.0 i)) (effects_at x n h.1.1.1.0 i))
        ∙ ap (λ z. Some (marks z))
        ((λ i. marks_of (knowledge_of (sym is_of i).read (sym is_of i).symbols (symbol_names (sym is_of i).symbols) (scope_of u (sym is_of i)) d.effects.at d.transformers.at d.preconditions.at d.regions.at d.ins.at d.outs.at))
        ∙ sym follows.marks)

    printed_made : Known-needs kind.Printed → rule_of sh ts kind.Printed x (read_at ts ms x n).read ≡ Some (printed (text_shown All (read_at ts ms x n).read (entry x n).entry))
    printed_made h =
        let m = (read_at ts ms x n).read in
        let d = (entry x n).entry in
        (λ i. option_and_then (λ own. option_and_then (λ holds. option_and_then (λ found. option_and_then (λ taken. option_and_then (λ after. option_map (λ all.
        printed (printer.module_text m.module_is.places m.module_is.module_read (lines_of All (known m) (record { transformers = own; preconditions = holds; regions = found; ins = taken; outs = after; marks = all }))))
        (marks_at x n h.1.1.1.1.1.1.1.1.0 i)) (outs_at x n h.1.1.1.1.1.1.1.0 i)) (ins_at x n h.1.1.1.1.1.1.0 i)) (regions_at x n h.1.1.1.1.1.0 i)) (preconditions_at x n h.1.1.1.1.0 i)) (transformers_at x n h.1.1.1.0 i))
        ∙ (λ i. Some (printed (printer.module_text m.module_is.places m.module_is.module_read (lines_of All (sym is_of i) (printed_of d)))))

    results_known : Known-needs kind.Printed → kept_results sh x ≡ Some (printed_of (entry x n).entry)
    results_known h =
        λ i. results_from (transformers_at x n h.1.1.1.0 i) (preconditions_at x n h.1.1.1.1.0 i) (regions_at x n h.1.1.1.1.1.0 i) (ins_at x n h.1.1.1.1.1.1.0 i) (outs_at x n h.1.1.1.1.1.1.1.0 i) (marks_at x n h.1.1.1.1.1.1.1.1.0 i)

    shown_made : (show : Show) → Known-needs kind.Printed → text_with sh (read_at ts ms x n).read x show ≡ Some (text_shown show (read_at ts ms x n).read (entry x n).entry)
    shown_made show h =
        let m = (read_at ts ms x n).read in
        let d = (entry x n).entry in
        ap (option_map (λ r. printer.module_text m.module_is.places m.module_is.module_read (lines_of show (known m) r))) (results_known h)
        ∙ (λ i. Some (printer.module_text m.module_is.places m.module_is.module_read (lines_of show (sym is_of i) (printed_of d))))

module _ (ts : List ModuleText) (ms : AreModules ts) (sh : MemoCells) where
  linked_so : (l : AreLinked ts) → links_in ts ≡ Ok (graph_of ts)
  linked_so l = l.1 ∙ ap (λ g. Ok g) (sym (ap graph_or_none l.1))

  rule_is_for : (k : Kind) (x : List ℕ) → CanMake ts k x → Each (IsKnown sh ts) (needs_in ts (record { kind = k; name = x })) → rule_for sh ts k x ≡ definition ts k x
  rule_is_for kind.Parsed x c h = let q = (read_at ts ms x c).is_read in ap (rule_with sh ts kind.Parsed x) q ∙ sym (ap (option_map (λ m. parsed m.module_is.module_read)) q)
  rule_is_for kind.Lines x c h = let q = (read_at ts ms x c).is_read in ap (rule_with sh ts kind.Lines x) q ∙ sym (ap (option_map (λ m. lines m.module_is.places)) q)
  rule_is_for kind.Symbols x c h = let q = (read_at ts ms x c).is_read in ap (rule_with sh ts kind.Symbols x) q ∙ sym (ap (option_map (λ m. symbols m.table)) q)
  rule_is_for kind.CallGraph x c h = refl
  rule_is_for kind.Effects x c h =
      let l = linked_so c.0 in
      ap (rule_with sh ts kind.Effects x) (read_at ts ms x c.1).is_read ∙ (effects_made ts ms sh l x c.1 h ∙ sym (ap (option_map (λ f. effects f.effects)) (entry_at ts (graph_of ts) l x (read_at ts ms x c.1)).result))
  rule_is_for kind.Transformers x c h =
      let l = linked_so c.0 in
      ap (rule_with sh ts kind.Transformers x) (read_at ts ms x c.1).is_read
      ∙ (transformers_made ts ms sh l x c.1 h ∙ sym (ap (option_map (λ f. transformers f.transformers)) (entry_at ts (graph_of ts) l x (read_at ts ms x c.1)).result))
  rule_is_for kind.Preconditions x c h =
      let l = linked_so c.0 in
      ap (rule_with sh ts kind.Preconditions x) (read_at ts ms x c.1).is_read
      ∙ (preconditions_made ts ms sh l x c.1 h ∙ sym (ap (option_map (λ f. preconditions f.preconditions)) (entry_at ts (graph_of ts) l x (read_at ts ms x c.1)).result))
  rule_is_for kind.Regions x c h =
      let l = linked_so c.0 in
      ap (rule_with sh ts kind.Regions x) (read_at ts ms x c.1).is_read ∙ (regions_made ts ms sh l x c.1 h ∙ sym (ap (option_map (λ f. regions f.regions)) (entry_at ts (graph_of ts) l x (read_at ts ms x c.1)).result))
  rule_is_for kind.InRegions x c h =
      let l = linked_so c.0 in
      ap (rule_with sh ts kind.InRegions x) (read_at ts ms x c.1).is_read ∙ (ins_made ts ms sh l x c.1 h ∙ sym (ap (option_map (λ f. ins f.ins)) (entry_at ts (graph_of ts) l x (read_at ts ms x c.1)).result))
  rule_is_for kind.OutRegions x c h =
      let l = linked_so c.0 in
      ap (rule_with sh ts kind.OutRegions x) (read_at ts ms x c.1).is_read ∙ (outs_made ts ms sh l x c.1 h ∙ sym (ap (option_map (λ f. outs f.outs)) (entry_at ts (graph_of ts) l x (read_at ts ms x c.1)).result))
  rule_is_for kind.Marks x c h =
      let l = linked_so c.0 in
      ap (rule_with sh ts kind.Marks x) (read_at ts ms x c.1).is_read ∙ (marks_made ts ms sh l x c.1 h ∙ sym (ap (option_map (λ f. marks f.marks)) (entry_at ts (graph_of ts) l x (read_at ts ms x c.1)).result))
  rule_is_for kind.Printed x c h =
      let l = linked_so c.0 in
      let r = read_at ts ms x c.1 in
      let e = entry_at ts (graph_of ts) l x r in
      ap (rule_with sh ts kind.Printed x) r.is_read ∙ (printed_made ts ms sh l x c.1 h ∙ sym (λ i. printed_with (r.is_read i) (e.result i)))

  pub rule_is : (k : Key) → CanMake ts k.kind k.name → Each (IsKnown sh ts) (needs_in ts k) → rule_value sh ts k ≡ definition ts k.kind k.name
  rule_is k c h = rule_is_for k.kind k.name c h

  pub shown_is : (x : List ℕ) (show : Show) → CanMake ts kind.Printed x → Each (IsKnown sh ts) (needs_in ts (record { kind = kind.Printed; name = x })) →
      (m : ReadModule) × (f : ModuleResults) × (module_named ts x ≡ Some m) × (results_in ts x ≡ Some f) × (text_with sh m x show ≡ Some (text_shown show m f))
  shown_is x show c h =
      let l = linked_so c.0 in
      let r = read_at ts ms x c.1 in
      let e = entry_at ts (graph_of ts) l x r in
      (r.read, e.entry, r.is_read, e.result, shown_made ts ms sh l x c.1 show h)
