-- The passes of the analyses: four that go up from callees, two that go down from callers.
use Rattle.std.proofs.Common.{◌≡◌, ℕ, List, [], ◌∷◌, ◌++◌, Option, Some, None, refl, sym, ap, ◌∙◌, append_assoc, append-nil}
use Rattle.std.specs.Prelude.{option_to_list}
use Rattle.f77_ast.specs.declared.variable.Unit.{Unit as BlockUnit}
use Rattle.f77_ast.specs.declared.effect_set.EffectSet.{EffectSet}
use Rattle.call_graph.specs.declared.graph.Graph.{Graph}
use Rattle.f77_meaning.specs.Modules.{Known}
use Rattle.preconditions.specs.transformer_algebra.declared.transformer.Transformer.{Transformer}
use Rattle.preconditions.specs.call_translation.Sites.{SiteTree, HoldingSite}
use Rattle.in_out_regions.specs.region_sets.declared.region.Region.{Region}
use Rattle.loop_marker.specs.module_phases.ScalarPhases.{scope_of, module_of, Found, found_of, maybe_found, Analysis, analysis_of}
use Rattle.loop_marker.specs.module_phases.ScalarPhases as scalar
use Rattle.loop_marker.specs.module_phases.RegionPhases.{ModuleRegions, with_regions}
use Rattle.loop_marker.specs.module_phases.RegionPhases as region
use Rattle.loop_marker.specs.module_phases.InPhases.{ModuleIns, with_ins}
use Rattle.loop_marker.specs.module_phases.InPhases as in_out
use Rattle.loop_marker.specs.module_phases.declared.out_site.OutSite.{OutSite}
use Rattle.loop_marker.specs.module_phases.OutPhases.{ModuleOuts, with_outs, body_of}
use Rattle.loop_marker.specs.module_phases.OutPhases as out
use Rattle.loop_marker.specs.Results.{ModuleResults}
use Rattle.loop_marker.specs.Phases.{phases_of, known_in, with_effects, with_marks}
use Rattle.loop_marker.specs.Phases as mark
use Rattle.laws_analyses.proofs.CalleeLaws.{same_transformers}
use Rattle.laws_database.specs.ResultCallees.{Summaries}
use Rattle.laws_database.proofs.ResultEffectLaws.{same_effects}
use Rattle.laws_database.proofs.ResultRegionLaws.{same_regions}
use Rattle.laws_database.proofs.ResultInLaws.{same_ins}
use Rattle.laws_database.proofs.ResultBottomUp.{Pass, run}
use Rattle.laws_database.proofs.ResultTopDown.{Descent, sites, next, run as down}
use Rattle.laws_database.proofs.ResultSites.{no_holding_sites, no_later_sites}
use Rattle.laws_analyses.proofs.Modules.{modules_at}

-- ---- transformers

abbrev pub with_own : (u : List BlockUnit) → Pass Known Found Transformer
with_own u = record {
  key = λ k. k;
  back = λ f. f.known;
  value = λ f. f.own.summary;
  make = found_of u;
  is_back = λ cs k. refl;
  needs = λ cs ds k h. (λ i. record { known = k; own = same_transformers (scope_of u k) cs ds k.read.body h i });
}

pub founds_are : (u : List BlockUnit) (ks : List Known) (xs : List (List ℕ)) (cs : Summaries Transformer) → scalar.found_in u ks cs xs ≡ run (with_own u) cs (modules_at ks xs)
founds_are u ks [] cs = refl
founds_are u ks (x ∷ xs) cs = go (module_of ks x) (λ ds. founds_are u ks xs ds)
  where
    go : (o : Option Known) → ((ds : Summaries Transformer) → scalar.found_in u ks ds xs ≡ run (with_own u) ds (modules_at ks xs)) →
        (option_to_list (maybe_found u cs o) ++ scalar.found_in u ks (scalar.with_callee (maybe_found u cs o) cs) xs) ≡ run (with_own u) cs (option_to_list o ++ modules_at ks xs)
    go None ih = ih cs
    go (Some k) ih = ap (λ z. found_of u cs k ∷ z) (ih (scalar.with_callee (Some (found_of u cs k)) cs))

-- ---- preconditions

abbrev pub with_holds : (u : List BlockUnit) → Descent Found Analysis HoldingSite
with_holds u = record {
  key = λ f. f.known;
  back = λ a. a.found;
  own = λ a x. scalar.list_sites a.found.known.read.body (scalar.caller_of u a) x;
  make = analysis_of u;
  is_back = λ ss f. refl;
  silent = λ a x h. no_holding_sites x (scalar.caller_of u a) a.found.known.read.body h;
}

pub holding_are : (u : List BlockUnit) (as' : List Analysis) (x : List ℕ) → scalar.sites_of u as' x ≡ sites (with_holds u) as' x
holding_are u [] x = refl
holding_are u (a ∷ as') x = ap (λ z. scalar.list_sites a.found.known.read.body (scalar.caller_of u a) x ++ z) (holding_are u as' x)

pub analyses_are : (u : List BlockUnit) (fs : List Found) (done : List Analysis) → scalar.analyses_from u done fs ≡ done ++ down (with_holds u) done fs
analyses_are u [] done = sym (append-nil done)
analyses_are u (f ∷ fs) done =
    let a = next (with_holds u) done f in
    ap (λ ss. scalar.analyses_from u (done ++ analysis_of u ss f ∷ []) fs) (holding_are u done f.known.read.name)
    ∙ (analyses_are u fs (done ++ a ∷ []) ∙ append_assoc done (a ∷ []) (down (with_holds u) (done ++ a ∷ []) fs))

-- ---- READ and WRITE, and IN

abbrev pub with_sets : (u : List BlockUnit) → Pass Analysis ModuleRegions (List Region)
with_sets u = record {
  key = λ a. a.found.known;
  back = λ f. f.analysis;
  value = λ f. f.regions.summary;
  make = with_regions u;
  is_back = λ cs a. refl;
  needs = λ cs ds a h. (λ i. record { analysis = a; regions = same_regions a.found.known.read.body (scope_of u a.found.known) u a.found.own.at cs ds h i });
}

pub regions_are : (u : List BlockUnit) (as' : List Analysis) (cs : Summaries (List Region)) → region.found_in u cs as' ≡ run (with_sets u) cs as'
regions_are u [] cs = refl
regions_are u (a ∷ as') cs = ap (λ z. with_regions u cs a ∷ z) (regions_are u as' (region.with_callee (with_regions u cs a) cs))

abbrev pub with_in_sets : (u : List BlockUnit) → Pass ModuleRegions ModuleIns (List Region)
with_in_sets u = record {
  key = λ f. f.analysis.found.known;
  back = λ f. f.known;
  value = λ f. f.ins.summary;
  make = with_ins u;
  is_back = λ cs f. refl;
  needs = λ cs ds f h. (λ i. record { known = f; ins = same_ins f.analysis.found.known.read.body (scope_of u f.analysis.found.known) u f.analysis.found.own.at f.regions.at cs ds h i });
}

pub ins_are : (u : List BlockUnit) (fs : List ModuleRegions) (cs : Summaries (List Region)) → in_out.found_in u cs fs ≡ run (with_in_sets u) cs fs
ins_are u [] cs = refl
ins_are u (f ∷ fs) cs = ap (λ z. with_ins u cs f ∷ z) (ins_are u fs (in_out.with_callee (with_ins u cs f) cs))

-- ---- OUT

abbrev pub with_out_sets : (g : Graph) → Descent ModuleIns ModuleOuts (SiteTree OutSite)
with_out_sets g = record {
  key = λ f. f.known.analysis.found.known;
  back = λ f. f.known;
  own = λ f x. out.list_sites (body_of f) (out.caller_of g.untracked f) x;
  make = with_outs g;
  is_back = λ ss f. refl;
  silent = λ f x h. no_later_sites x (out.caller_of g.untracked f) (body_of f) h;
}

pub later_are : (g : Graph) (fs : List ModuleOuts) (x : List ℕ) → out.sites_of g.untracked fs x ≡ sites (with_out_sets g) fs x
later_are g [] x = refl
later_are g (f ∷ fs) x = ap (λ z. out.list_sites (body_of f) (out.caller_of g.untracked f) x ++ z) (later_are g fs x)

pub outs_are : (g : Graph) (fs : List ModuleIns) (done : List ModuleOuts) → out.outs_from g done fs ≡ done ++ down (with_out_sets g) done fs
outs_are g [] done = sym (append-nil done)
outs_are g (f ∷ fs) done =
    let b = next (with_out_sets g) done f in
    ap (λ ss. out.outs_from g (done ++ with_outs g ss f ∷ []) fs) (later_are g done (out.name_of f))
    ∙ (outs_are g fs (done ++ b ∷ []) ∙ append_assoc done (b ∷ []) (down (with_out_sets g) (done ++ b ∷ []) fs))

-- ---- effects and marks

abbrev pub with_loops : (u : List BlockUnit) → Pass ModuleOuts ModuleResults EffectSet
with_loops u = record {
  key = known_in;
  back = phases_of;
  value = λ f. f.effects.summary;
  make = with_marks u;
  is_back = λ cs f. refl;
  needs = λ cs ds f h. ap (with_effects u f) (same_effects (known_in f).symbols cs ds (known_in f).read.body h);
}

pub marks_are : (u : List BlockUnit) (fs : List ModuleOuts) (cs : Summaries EffectSet) → mark.found_in u cs fs ≡ run (with_loops u) cs fs
marks_are u [] cs = refl
marks_are u (f ∷ fs) cs = ap (λ z. with_marks u cs f ∷ z) (marks_are u fs (mark.with_callee (with_marks u cs f) cs))
