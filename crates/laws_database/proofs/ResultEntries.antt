-- The entries of a program as the results of each pass, and the modules that they are of.
use Rattle.std.proofs.Common.{◌≡◌, ◌⊎◌, inl, inr, ℕ, zero, suc, false, List, [], ◌∷◌, ◌++◌, Option, Some, None, refl, sym, ap, ◌∙◌, subst}
use Rattle.std.specs.Prelude.{map, reverse, slice_get, bytes_eq, option_to_list, if◌then◌else◌}
use mathlib.Core.List.{map-map, reverse-reverse}
use Rattle.f77_ast.specs.DeclTrees.{ParsedTree}
use Rattle.f77_ast.specs.Symbols.{SymbolTree}
use Rattle.call_graph.specs.declared.graph.Graph.{Graph}
use Rattle.f77_meaning.specs.Modules.{Known, known_of}
use Rattle.loop_marker.specs.module_phases.ScalarPhases.{module_of, Found, Analysis, analyses_from, analyses}
use Rattle.loop_marker.specs.module_phases.RegionPhases.{ModuleRegions, all_regions}
use Rattle.loop_marker.specs.module_phases.InPhases.{ModuleIns, all_ins}
use Rattle.loop_marker.specs.module_phases.OutPhases.{ModuleOuts, all_outs}
use Rattle.loop_marker.specs.Results.{ModuleResults}
use Rattle.loop_marker.specs.Phases.{phases_of, analysis_in, all_marks}
use Rattle.laws_programs.specs.Storage.Programs.{IsLinked, known}
use Rattle.call_graph.specs.CallsIn.{Each}
use Rattle.laws_analyses.proofs.Founds.{module_of_is, module_found}
use Rattle.laws_analyses.proofs.Orders.{Among, each_stands}
use Rattle.laws_analyses.proofs.UnitLaws.{module_at as place_module}
use Rattle.session_texts.specs.pipsmake_meaning.ResultEntries.{results_of_modules, name_in, results_for}
use Rattle.laws_database.specs.ResultLaws.{HavePasses, IsFound, HasEntry, AreEntries}
use Rattle.laws_database.proofs.ResultLists.{each_mapped}
use Rattle.laws_database.proofs.ResultOrders.{CalleesFirst, modules_sorted}
use Rattle.laws_database.proofs.ResultBottomUp.{run, no_summaries, backs}
use Rattle.laws_database.proofs.ResultTopDown.{run as down, backs as backs_down}
use Rattle.laws_database.proofs.ResultPhases.{with_own, founds_are, with_holds, analyses_are, with_sets, regions_are, with_in_sets, ins_are, with_out_sets, outs_are, with_loops, marks_are}
use Rattle.fx_lists.proofs.Texts.{turned, same_name}
use Rattle.fx_lists.proofs.Lists.{map_reverse}
use Rattle.call_graph.proofs.EachLaws.{each_both, each_more}
use Rattle.laws_analyses.proofs.Modules.{IsIn, modules_at}

-- ---- lists of results

pub map_same : {A : Type 0} (xs : List A) → map (λ x. x) xs ≡ xs
map_same [] = refl
map_same (x ∷ xs) = ap (λ z. x ∷ z) (map_same xs)

pub turned_list : {A B : Type 0} (h : A → B) (xs : List A) (ys : List B) → map h xs ≡ reverse ys → map h (reverse xs) ≡ ys
turned_list h xs ys e = map_reverse h xs ∙ (ap reverse e ∙ reverse-reverse ys)

pub through : {A B C : Type 0} (h : A → B) (k : B → C) (xs : List A) (ys : List B) (zs : List C) → map h xs ≡ ys → map k ys ≡ zs → map (λ x. k (h x)) xs ≡ zs
through h k xs ys zs e f = sym (map-map k h xs) ∙ (ap (map k) e ∙ f)

-- ---- the passes

module _ (ks : List Known) (g : Graph) where
  abbrev pub modules : List Known
  modules = modules_at ks g.order

  abbrev pub founds : List Found
  founds = run (with_own g.untracked) no_summaries (modules_at ks g.order)

  abbrev pub holds : List Analysis
  holds = down (with_holds g.untracked) [] (reverse (run (with_own g.untracked) no_summaries (modules_at ks g.order)))

  abbrev pub regions : List ModuleRegions
  regions = run (with_sets g.untracked) no_summaries (reverse holds)

  abbrev pub ins : List ModuleIns
  ins = run (with_in_sets g.untracked) no_summaries regions

  abbrev pub outs : List ModuleOuts
  outs = down (with_out_sets g) [] (reverse ins)

  abbrev pub entries : List ModuleResults
  entries = run (with_loops g.untracked) no_summaries (reverse outs)

  holds_are : analyses ks g ≡ holds
  holds_are = ap (λ fs. analyses_from g.untracked [] (reverse fs)) (founds_are g.untracked ks g.order no_summaries) ∙ analyses_are g.untracked (reverse founds) []

  all_regions_are : all_regions g (analyses ks g) ≡ regions
  all_regions_are = ap (all_regions g) holds_are ∙ regions_are g.untracked (reverse holds) no_summaries

  all_ins_are : all_ins g (all_regions g (analyses ks g)) ≡ ins
  all_ins_are = ap (all_ins g) all_regions_are ∙ ins_are g.untracked regions no_summaries

  all_outs_are : all_outs g (all_ins g (all_regions g (analyses ks g))) ≡ outs
  all_outs_are = ap (all_outs g) all_ins_are ∙ outs_are g (reverse ins) []

  pub entries_are : results_of_modules ks g ≡ entries
  entries_are = ap (all_marks g) all_outs_are ∙ marks_are g.untracked (reverse outs) no_summaries

  -- what each pass took, and so what each entry has of it

  pub outs_of_entries : map phases_of entries ≡ reverse outs
  outs_of_entries = backs (with_loops g.untracked) (reverse outs) no_summaries

  pub ins_of_outs : map (λ (f : ModuleOuts). f.known) (reverse outs) ≡ ins
  ins_of_outs = turned_list (λ (f : ModuleOuts). f.known) outs ins (backs_down (with_out_sets g) (reverse ins) [])

  pub ins_of_entries : map (λ (f : ModuleResults). (phases_of f).known) entries ≡ ins
  ins_of_entries = through phases_of (λ (f : ModuleOuts). f.known) entries (reverse outs) ins outs_of_entries ins_of_outs

  pub regions_of_ins : map (λ (f : ModuleIns). f.known) ins ≡ regions
  regions_of_ins = backs (with_in_sets g.untracked) regions no_summaries

  pub regions_of_entries : map (λ (f : ModuleResults). (phases_of f).known.known) entries ≡ regions
  regions_of_entries = through (λ (f : ModuleResults). (phases_of f).known) (λ (f : ModuleIns). f.known) entries ins regions ins_of_entries regions_of_ins

  pub holds_of_regions : map (λ (f : ModuleRegions). f.analysis) regions ≡ reverse holds
  holds_of_regions = backs (with_sets g.untracked) (reverse holds) no_summaries

  pub holds_of_entries : map (λ (f : ModuleResults). analysis_in (phases_of f)) entries ≡ reverse holds
  holds_of_entries = through (λ (f : ModuleResults). (phases_of f).known.known) (λ (f : ModuleRegions). f.analysis) entries regions (reverse holds) regions_of_entries holds_of_regions

  pub founds_of_holds : map (λ (a : Analysis). a.found) (reverse holds) ≡ founds
  founds_of_holds = turned_list (λ (a : Analysis). a.found) holds founds (backs_down (with_holds g.untracked) (reverse founds) [])

  pub founds_of_entries : map (λ (f : ModuleResults). (analysis_in (phases_of f)).found) entries ≡ founds
  founds_of_entries = through (λ (f : ModuleResults). analysis_in (phases_of f)) (λ (a : Analysis). a.found) entries (reverse holds) founds holds_of_entries founds_of_holds

  -- the modules of each

  pub modules_of_founds : map (λ (f : Found). f.known) founds ≡ modules
  modules_of_founds = backs (with_own g.untracked) (modules_at ks g.order) no_summaries

  pub modules_of_holds : map (λ (a : Analysis). a.found.known) (reverse holds) ≡ modules
  modules_of_holds = through (λ (a : Analysis). a.found) (λ (f : Found). f.known) (reverse holds) founds modules founds_of_holds modules_of_founds

  pub modules_of_regions : map (λ (f : ModuleRegions). f.analysis.found.known) regions ≡ modules
  modules_of_regions = through (λ (f : ModuleRegions). f.analysis) (λ (a : Analysis). a.found.known) regions (reverse holds) modules holds_of_regions modules_of_holds

  pub modules_of_ins : map (λ (f : ModuleIns). f.known.analysis.found.known) ins ≡ modules
  modules_of_ins = through (λ (f : ModuleIns). f.known) (λ (f : ModuleRegions). f.analysis.found.known) ins regions modules regions_of_ins modules_of_regions

  pub modules_of_outs : map (λ (f : ModuleOuts). f.known.known.analysis.found.known) (reverse outs) ≡ modules
  modules_of_outs = through (λ (f : ModuleOuts). f.known) (λ (f : ModuleIns). f.known.analysis.found.known) (reverse outs) ins modules ins_of_outs modules_of_ins

  pub modules_of_entries : map (λ (f : ModuleResults). f.known) entries ≡ modules
  modules_of_entries = through phases_of (λ (f : ModuleOuts). f.known.known.analysis.found.known) entries (reverse outs) modules outs_of_entries modules_of_outs

  pub have_passes : HavePasses ks g (results_of_modules ks g)
  have_passes = subst (HavePasses ks g) (sym entries_are) (record {
    analyses_are = holds_are ∙ sym (turned_list (λ (f : ModuleResults). analysis_in (phases_of f)) entries holds holds_of_entries);
    regions_are = all_regions_are ∙ sym regions_of_entries;
    ins_are = all_ins_are ∙ sym ins_of_entries;
    outs_are = all_outs_are ∙ sym (turned_list phases_of entries outs outs_of_entries);
  })

-- ---- one entry for each module

abbrev pub IsNamed : List ModuleResults → ModuleResults → Type 0
IsNamed fs f = results_for fs (name_in f) ≡ Some f

found_by_name : (fs : List ModuleResults) → CalleesFirst (map (λ (f : ModuleResults). f.known) fs) → Each (IsNamed fs) fs
found_by_name [] s = tt
found_by_name (f ∷ fs) s = (
  ap (λ b. if b then Some f else results_for fs (name_in f)) (same_name (name_in f)),
  each_more (λ (h : ModuleResults). (bytes_eq (name_in h) (name_in f) ≡ false) × IsNamed fs h) (IsNamed (f ∷ fs)) fs
      (λ h q. ap (λ b. if b then Some f else results_for fs (name_in h)) (turned (name_in f) (name_in h) ∙ q.0) ∙ q.1)
      (each_both (λ (h : ModuleResults). bytes_eq (name_in h) (name_in f) ≡ false) (IsNamed fs) fs (each_mapped (λ (k : Known). bytes_eq k.read.name (name_in f) ≡ false) (λ (f : ModuleResults). f.known) fs s.0) (found_by_name fs s.2)),
)

modules_in : (ks : List Known) (xs : List (List ℕ)) → Each (IsIn ks) (modules_at ks xs)
modules_in ks [] = tt
modules_in ks (x ∷ xs) = go (module_of ks x) refl (modules_in ks xs)
  where
    go : (o : Option Known) → module_of ks x ≡ o → Each (IsIn ks) (modules_at ks xs) → Each (IsIn ks) (option_to_list o ++ modules_at ks xs)
    go None e ih = ih
    go (Some k) e ih = let r = module_of_is ks x k e in (record { at = r.at; is_module = r.is_module }, ih)

abbrev Has : Known → List Known → Type 0
Has k [] = ⊥
Has k (j ∷ js) = (j ≡ k) ⊎ Has k js

stands : (ks : List Known) (xs : List (List ℕ)) (x : List ℕ) (k : Known) → module_of ks x ≡ Some k → Among x xs → Has k (modules_at ks xs)
stands ks [] x k e (i, h) = cc
stands ks (z ∷ xs) x k e (zero, h) =
    let same : z ≡ x = cc in
    subst (λ o. Has k (option_to_list o ++ modules_at ks xs)) (sym (ap (module_of ks) same ∙ e)) (inl refl)
stands ks (z ∷ xs) x k e (suc i, h) = go (module_of ks z) (stands ks xs x k e (i, h))
  where
    go : (o : Option Known) → Has k (modules_at ks xs) → Has k (option_to_list o ++ modules_at ks xs)
    go None q = q
    go (Some j) q = inr q

entry_of : (whole fs : List ModuleResults) (k : Known) → Each (IsNamed whole) fs → Has k (map (λ (f : ModuleResults). f.known) fs) → HasEntry whole k
entry_of whole [] k h q = absurd q
entry_of whole (f ∷ fs) k h (inl e) = record { entry = f; found = ap (λ (z : Known). results_for whole z.read.name) (sym e) ∙ h.0; is = e }
entry_of whole (f ∷ fs) k h (inr q) = entry_of whole fs k h.1 q

module _ (ps : List ParsedTree) (sss : List (List SymbolTree)) (g : Graph) (l : IsLinked ps sss g) where
  abbrev its : List ModuleResults
  its = entries (known_of ps sss) g

  sorted : CalleesFirst (map (λ (f : ModuleResults). f.known) its)
  sorted = subst CalleesFirst (sym (modules_of_entries (known_of ps sss) g)) (modules_sorted ps sss g l)

  are_entries : AreEntries (known_of ps sss) its
  are_entries = record {
    found =
        each_more (λ (f : ModuleResults). IsNamed its f × IsIn (known_of ps sss) f.known) (IsFound (known_of ps sss) its) its
        (λ f q. record { found = q.0; at = q.1.at; is_module = q.1.is_module })
        (each_both (IsNamed its) (λ (f : ModuleResults). IsIn (known_of ps sss) f.known) its (found_by_name its sorted)
        (each_mapped (IsIn (known_of ps sss)) (λ (f : ModuleResults). f.known) its (subst (Each (IsIn (known_of ps sss))) (sym (modules_of_entries (known_of ps sss) g)) (modules_in (known_of ps sss) g.order))));
    modules = one;
  }
    where
      one : (i : ℕ) (k : Known) → slice_get (known_of ps sss) i ≡ Some k → HasEntry its k
      one i k e =
          let m = place_module ps sss i k e in
          let there = stands (known_of ps sss) g.order m.parsed.module_read.name (known m.parsed m.table) (module_found ps sss g l i m.parsed m.table m.is_module) (each_stands ps sss g l i m.parsed m.is_module.parsed) in
          subst (HasEntry its) m.same (entry_of its its (known m.parsed m.table) (found_by_name its sorted) (subst (Has (known m.parsed m.table)) (sym (modules_of_entries (known_of ps sss) g)) there))

  pub modules_have_entries : AreEntries (known_of ps sss) (results_of_modules (known_of ps sss) g)
  modules_have_entries = subst (AreEntries (known_of ps sss)) (sym (entries_are (known_of ps sss) g)) are_entries
