-- Each result of a module of a program follows from those of all modules.
use Rattle.std.proofs.Common.{◌≡◌, ℕ, Bool, true, false, List, [], ◌∷◌, Some, refl, sym, ap, ◌∙◌, subst}
use Rattle.std.specs.Prelude.{map, reverse, bytes_eq, if◌then◌else◌}
use Rattle.f77_ast.specs.DeclTrees.{ParsedTree}
use Rattle.f77_ast.specs.declared.variable.Unit.{Unit as BlockUnit}
use Rattle.f77_ast.specs.Symbols.{SymbolTree}
use Rattle.call_graph.specs.declared.graph.Graph.{Graph}
use Rattle.f77_meaning.specs.Modules.{Known, known_of}
use Rattle.loop_marker.specs.module_phases.ScalarPhases.{Found, found_of, Analysis, analysis_of, sites_of}
use Rattle.loop_marker.specs.module_phases.RegionPhases.{ModuleRegions, with_regions}
use Rattle.loop_marker.specs.module_phases.InPhases.{ModuleIns, with_ins}
use Rattle.loop_marker.specs.module_phases.OutPhases.{ModuleOuts, with_outs, sites_of as out_sites_of}
use Rattle.loop_marker.specs.Results.{ModuleResults}
use Rattle.loop_marker.specs.Phases.{phases_of, analysis_in, with_marks, marks_found}
use Rattle.laws_programs.specs.Storage.Programs.{IsLinked}
use Rattle.call_graph.specs.CallsIn.{Each}
use Rattle.laws_analyses.proofs.Passes.{each_reversed}
use Rattle.session_texts.specs.pipsmake_meaning.ResultEntries.{results_of_modules, name_in, results_for}
use Rattle.laws_database.specs.ResultCallees.{seen_of, summaries, effect_summaries, transformer_summaries, region_summaries, in_summaries}
use Rattle.laws_database.specs.ResultCallers.{callers, holding_sites, later_sites}
use Rattle.laws_database.specs.ResultEquations.{FollowsFrom}
use Rattle.laws_database.proofs.ResultLists.{each_mapped}
use Rattle.laws_database.proofs.ResultOrders.{CalleesFirst, CallersFirst, callers_first, modules_sorted}
use Rattle.laws_database.proofs.ResultBottomUp.{Pass, no_summaries, first_or, all_good}
use Rattle.laws_database.proofs.ResultTopDown.{sites, all_good as all_good_down}
use Rattle.laws_database.proofs.ResultSites.{all_sites}
use Rattle.laws_database.proofs.ResultPhases.{with_own, with_holds, holding_are, with_sets, with_in_sets, with_out_sets, later_are, with_loops}
use Rattle.laws_database.proofs.ResultEntries.{map_same, turned_list, modules, founds, holds, regions, ins, outs, entries, entries_are, outs_of_entries, ins_of_entries, regions_of_entries, holds_of_entries, founds_of_entries, modules_of_founds, modules_of_holds, modules_of_regions, modules_of_ins, modules_of_outs}
use Rattle.fx_lists.proofs.Lists.{map_reverse}
use Rattle.call_graph.proofs.EachLaws.{each_both, each_more}
use Rattle.laws_analyses.proofs.Modules.{modules_at}

-- ---- summaries by the entries

named_first : {A B T : Type 0} (p : Pass A B T) (h : ModuleResults → B) → ((f : ModuleResults) → p.key (p.back (h f)) ≡ f.known) → (fs : List ModuleResults) (x : List ℕ) → first_or p no_summaries (map h fs) x ≡ summaries (λ f. p.value (h f)) fs x
named_first p h same [] x = refl
named_first p h same (f ∷ fs) x =
    ap (λ (k : Known). if bytes_eq k.read.name x then Some (record { symbols = k.symbols; value = p.value (h f) }) else first_or p no_summaries (map h fs) x) (same f)
    ∙ go (bytes_eq (name_in f) x) (named_first p h same fs x)
  where
    go : (b : Bool) → first_or p no_summaries (map h fs) x ≡ summaries (λ f. p.value (h f)) fs x →
        (if b then Some (record { symbols = f.known.symbols; value = p.value (h f) }) else first_or p no_summaries (map h fs) x) ≡ seen_of (λ f. p.value (h f)) (if b then Some f else results_for fs x)
    go true ih = refl
    go false ih = ih

made : {A B T : Type 0} (p : Pass A B T) (h : ModuleResults → B) → ((f : ModuleResults) → p.key (p.back (h f)) ≡ f.known) → (fs : List ModuleResults) (bs : List B) → map h fs ≡ bs → Each (λ (b : B). b ≡ p.make (first_or p no_summaries bs) (p.back b)) bs →
    Each (λ (f : ModuleResults). h f ≡ p.make (summaries (λ d. p.value (h d)) fs) (p.back (h f))) fs
made {B = B} p h same fs bs e q =
    each_more (λ (f : ModuleResults). h f ≡ p.make (first_or p no_summaries (map h fs)) (p.back (h f))) (λ (f : ModuleResults). h f ≡ p.make (summaries (λ d. p.value (h d)) fs) (p.back (h f))) fs
    (λ f r. r ∙ (λ i. p.make (λ x. named_first p h same fs x i) (p.back (h f))))
    (each_mapped (λ (b : B). b ≡ p.make (first_or p no_summaries (map h fs)) (p.back b)) h fs (subst (λ (ds : List B). Each (λ (b : B). b ≡ p.make (first_or p no_summaries ds) (p.back b)) ds) (sym e) q))

-- ---- the equations

module _ (ks : List Known) (g : Graph) (s : CalleesFirst (modules_at ks g.order)) where
  abbrev u : List BlockUnit
  u = g.untracked

  abbrev fs : List ModuleResults
  fs = entries ks g

  abbrev Own : ModuleResults → Type 0
  Own f = (analysis_in (phases_of f)).found ≡ found_of g.untracked (transformer_summaries fs) f.known

  own_made : Each Own fs
  own_made =
      made (with_own g.untracked) (λ (f : ModuleResults). (analysis_in (phases_of f)).found) (λ f. refl) fs (founds ks g) (founds_of_entries ks g)
      (all_good (with_own g.untracked) (modules ks g) (subst CalleesFirst (sym (map_same (modules ks g))) s))

  abbrev Holds : ModuleResults → Type 0
  Holds f = analysis_in (phases_of f) ≡ analysis_of g.untracked (holding_sites g.untracked (callers fs (name_in f)) (name_in f)) (analysis_in (phases_of f)).found

  from_callers : CallersFirst (map (λ (f : Found). f.known) (reverse (founds ks g)))
  from_callers = subst CallersFirst (sym (map_reverse (λ (f : Found). f.known) (founds ks g) ∙ ap reverse (modules_of_founds ks g))) (callers_first (modules ks g) s)

  all_holding : (x : List ℕ) → sites (with_holds g.untracked) (holds ks g) x ≡ holding_sites g.untracked (callers fs x) x
  all_holding x =
      sym (holding_are g.untracked (holds ks g) x)
      ∙ (ap (λ as'. sites_of g.untracked as' x) (sym (turned_list (λ (f : ModuleResults). analysis_in (phases_of f)) fs (holds ks g) (holds_of_entries ks g))) ∙ (all_sites g.untracked fs x).holding)

  abbrev HoldsAt : Analysis → Type 0
  HoldsAt a = a ≡ analysis_of g.untracked (sites (with_holds g.untracked) (holds ks g) a.found.known.read.name) a.found

  holds_made : Each Holds fs
  holds_made =
      each_more (λ (f : ModuleResults). HoldsAt (analysis_in (phases_of f))) Holds fs (λ f r. r ∙ ap (λ ss. analysis_of g.untracked ss (analysis_in (phases_of f)).found) (all_holding (name_in f)))
      (each_mapped HoldsAt (λ (f : ModuleResults). analysis_in (phases_of f)) fs (subst (Each HoldsAt) (sym (holds_of_entries ks g)) (each_reversed HoldsAt (holds ks g) (all_good_down (with_holds g.untracked) (reverse (founds ks g)) from_callers))))

  abbrev Sets : ModuleResults → Type 0
  Sets f = (phases_of f).known.known ≡ with_regions g.untracked (region_summaries fs) (analysis_in (phases_of f))

  sets_made : Each Sets fs
  sets_made =
      made (with_sets g.untracked) (λ (f : ModuleResults). (phases_of f).known.known) (λ f. refl) fs (regions ks g) (regions_of_entries ks g)
      (all_good (with_sets g.untracked) (reverse (holds ks g)) (subst CalleesFirst (sym (modules_of_holds ks g)) s))

  abbrev InSets : ModuleResults → Type 0
  InSets f = (phases_of f).known ≡ with_ins g.untracked (in_summaries fs) (phases_of f).known.known

  in_sets_made : Each InSets fs
  in_sets_made =
      made (with_in_sets g.untracked) (λ (f : ModuleResults). (phases_of f).known) (λ f. refl) fs (ins ks g) (ins_of_entries ks g)
      (all_good (with_in_sets g.untracked) (regions ks g) (subst CalleesFirst (sym (modules_of_regions ks g)) s))

  abbrev OutSets : ModuleResults → Type 0
  OutSets f = (phases_of f) ≡ with_outs g (later_sites g.untracked (callers fs (name_in f)) (name_in f)) (phases_of f).known

  behind_callers : CallersFirst (map (λ (f : ModuleIns). f.known.analysis.found.known) (reverse (ins ks g)))
  behind_callers = subst CallersFirst (sym (map_reverse (λ (f : ModuleIns). f.known.analysis.found.known) (ins ks g) ∙ ap reverse (modules_of_ins ks g))) (callers_first (modules ks g) s)

  all_later : (x : List ℕ) → sites (with_out_sets g) (outs ks g) x ≡ later_sites g.untracked (callers fs x) x
  all_later x =
      sym (later_are g (outs ks g) x)
      ∙ (ap (λ os. out_sites_of g.untracked os x) (sym (turned_list phases_of fs (outs ks g) (outs_of_entries ks g))) ∙ (all_sites g.untracked fs x).later)

  abbrev OutsAt : ModuleOuts → Type 0
  OutsAt o = o ≡ with_outs g (sites (with_out_sets g) (outs ks g) o.known.known.analysis.found.known.read.name) o.known

  out_sets_made : Each OutSets fs
  out_sets_made =
      each_more (λ (f : ModuleResults). OutsAt (phases_of f)) OutSets fs (λ f r. r ∙ ap (λ ss. with_outs g ss (phases_of f).known) (all_later (name_in f)))
      (each_mapped OutsAt phases_of fs (subst (Each OutsAt) (sym (outs_of_entries ks g)) (each_reversed OutsAt (outs ks g) (all_good_down (with_out_sets g) (reverse (ins ks g)) behind_callers))))

  abbrev Loops : ModuleResults → Type 0
  Loops f = f ≡ with_marks g.untracked (effect_summaries fs) (phases_of f)

  loops_made : Each Loops fs
  loops_made =
      made (with_loops g.untracked) (λ (f : ModuleResults). f) (λ f. refl) fs fs (map_same fs)
      (all_good (with_loops g.untracked) (reverse (outs ks g)) (subst CalleesFirst (sym (modules_of_outs ks g)) s))

  one : (f : ModuleResults) → Own f → Holds f → Sets f → InSets f → OutSets f → Loops f → FollowsFrom g fs f
  one f own held sets in_sets out_sets loops = record {
    effects = ap (λ (z : ModuleResults). z.effects) loops;
    transformers = ap (λ (z : Found). z.own) own;
    preconditions = ap (λ (z : Analysis). z.holds) held;
    regions = ap (λ (z : ModuleRegions). z.regions) sets;
    ins = ap (λ (z : ModuleIns). z.ins) in_sets;
    outs = ap (λ (z : ModuleOuts). z.outs) out_sets;
    marks = ap (λ (z : ModuleResults). z.marks) loops ∙ sym (ap (λ (z : ModuleResults). marks_found g.untracked (phases_of f) z.effects) loops);
  }

  follow : Each (FollowsFrom g fs) fs
  follow =
      let L : ModuleResults → Type 0 = λ f. OutSets f × Loops f in
      let I : ModuleResults → Type 0 = λ f. InSets f × L f in
      let S : ModuleResults → Type 0 = λ f. Sets f × I f in
      let H : ModuleResults → Type 0 = λ f. Holds f × S f in
      each_more (λ (f : ModuleResults). Own f × H f) (FollowsFrom g fs) fs (λ f q. one f q.0 q.1.0 q.1.1.0 q.1.1.1.0 q.1.1.1.1.0 q.1.1.1.1.1)
      (each_both Own H fs own_made (each_both Holds S fs holds_made (each_both Sets I fs sets_made (each_both InSets L fs in_sets_made (each_both OutSets Loops fs out_sets_made loops_made)))))

pub results_follow : (ps : List ParsedTree) (sss : List (List SymbolTree)) (g : Graph) → IsLinked ps sss g → Each (FollowsFrom g (results_of_modules (known_of ps sss) g)) (results_of_modules (known_of ps sss) g)
results_follow ps sss g l = subst (λ (fs : List ModuleResults). Each (FollowsFrom g fs) fs) (sym (entries_are (known_of ps sss) g)) (follow (known_of ps sss) g (modules_sorted ps sss g l))
