-- The effects by which the loops of a program are marked are those that are made bottom-up.
use Rattle.std.proofs.Common.{◌≡◌, ℕ, zero, suc, ◌-◌, ◌||◌, Bool, true, false, List, [], ◌∷◌, ◌++◌, Option, Some, None, refl, sym, ap, ◌∙◌, subst, arith, true≢false}
use Rattle.std.specs.Prelude.{if◌then◌else◌, bytes_eq, slice_get, map, reverse, option_to_list}
use Rattle.std.proofs.lemmas.Slice.Eq.{bytes_eq-Decides}
use mathlib.Core.List.{reverse-cons, reverse-reverse, map-append}
use Rattle.f77_ast.specs.DeclTrees.{ParsedTree}
use Rattle.f77_ast.specs.declared.variable.Unit.{Unit as BlockUnit}
use Rattle.f77_ast.specs.Symbols.{SymbolTree, number_from}
use Rattle.call_graph.specs.declared.graph.Graph.{Graph}
use Rattle.f77_meaning.specs.Modules.{Known, known_of}
use Rattle.in_out_regions.specs.effects.List.{Callees}
use Rattle.in_out_regions.specs.effects.Modules.{cumulated_of}
use Rattle.preconditions.specs.transformers.Given.{Callees as TransformerCallees}
use Rattle.loop_marker.specs.module_phases.ScalarPhases.{module_names, module_at, module_of, Found, no_callees as no_found, with_callee as with_found, found_of, maybe_found, found_in as founds_in, Analysis, analysis_of, analyses_from, sites_of, analyses}
use Rattle.loop_marker.specs.module_phases.RegionPhases.{all_regions}
use Rattle.loop_marker.specs.module_phases.InPhases.{all_ins}
use Rattle.loop_marker.specs.module_phases.OutPhases.{ModuleOuts, all_outs}
use Rattle.loop_marker.specs.Results.{ModuleResults}
use Rattle.loop_marker.specs.Phases.{phases_of, known_in, no_callees, with_callee, with_marks, marks_found, found_in, all_marks}
use Rattle.call_graph.specs.CallsIn.{Each}
use Rattle.laws_programs.specs.Effects.Summaries.{with_name, made, with_summary, before, no_summary, bottom_up}
use Rattle.laws_programs.specs.Storage.Programs.{IsLinked}
use Rattle.laws_analyses.proofs.Founds.{ModuleOf, module_of_is}
use Rattle.laws_analyses.proofs.Orders.{NotIn, Sorted, order_sorted}
use Rattle.laws_analyses.proofs.Passes.{next as passes_next, run as passed, run_is}
use Rattle.preconditions.specs.transformer_algebra.Laws.{In, here, there}
use Rattle.laws_marks.proofs.OutSummaries.{next, run, outs_are}
use Rattle.laws_marks.specs.DeadLaws.{outs_of}
use Rattle.fx_lists.proofs.Texts.{turned, same_name}
use Rattle.fx_lists.proofs.Lists.{map_reverse}
use Rattle.f77_ast.proofs.NumberedNames.{number_from-least}
use Rattle.call_graph.proofs.EachLaws.{each_more}
use Rattle.laws_analyses.proofs.Modules.{modules_at}

-- ---- the module of a name

abbrev at_from : ℕ → List Known → Option ℕ → Option Known
at_from n ks None = None
at_from n ks (Some i) = slice_get ks (i - n)

named_from : (n : ℕ) (ks : List Known) (x : List ℕ) → with_name ks x ≡ at_from n ks (number_from n (module_names ks) x)
named_from n [] x = refl
named_from n (y ∷ ks) x = go (bytes_eq x y.read.name) refl (named_from (suc n) ks x)
  where
    moved : (o : Option ℕ) → number_from (suc n) (module_names ks) x ≡ o → at_from (suc n) ks o ≡ at_from n (y ∷ ks) o
    moved None e = refl
    moved (Some i) e =
        let least = number_from-least (suc n) i (module_names ks) x e in
        let less : i - n ≡ suc (i - suc n) = omega (arith, least) in
        sym (ap (slice_get (y ∷ ks)) less)

    go : (b : Bool) → bytes_eq x y.read.name ≡ b → with_name ks x ≡ at_from (suc n) ks (number_from (suc n) (module_names ks) x) → with_name (y ∷ ks) x ≡ at_from n (y ∷ ks) (number_from n (module_names (y ∷ ks)) x)
    go true e ih =
        let none : n - n ≡ zero = omega arith in
        ap (λ b. if b then Some y else with_name ks x) (turned y.read.name x ∙ e)
        ∙ (sym (ap (slice_get (y ∷ ks)) none) ∙ sym (ap (λ b. at_from n (y ∷ ks) (if b then Some n else number_from (suc n) (module_names ks) x)) e))
    go false e ih =
        ap (λ b. if b then Some y else with_name ks x) (turned y.read.name x ∙ e)
        ∙ (ih ∙ (moved (number_from (suc n) (module_names ks) x) refl ∙ sym (ap (λ b. at_from n (y ∷ ks) (if b then Some n else number_from (suc n) (module_names ks) x)) e)))

named_is : (ks : List Known) (x : List ℕ) → with_name ks x ≡ module_of ks x
named_is ks x = named_from 0 ks x ∙ same (number_from 0 (module_names ks) x)
  where
    same : (o : Option ℕ) → at_from 0 ks o ≡ module_at ks o
    same None = refl
    same (Some i) = (let none : i - 0 ≡ i = omega arith in ap (slice_get ks) none)

-- ---- the modules that are marked, callees before callers

abbrev outs_known : ModuleOuts → Known
outs_known f = f.known.known.analysis.found.known

abbrev analysed : Analysis → Known
analysed a = a.found.known

abbrev found_known : Found → Known
found_known f = f.known

run_known : (g : Graph) (done : List ModuleOuts) (as' : List Analysis) → map outs_known (run g done as') ≡ map analysed as'
run_known g done [] = refl
run_known g done (a ∷ as') = ap (λ zs. a.found.known ∷ zs) (run_known g (done ++ next g done as' a ∷ []) as')

passed_known : (u : List BlockUnit) (done : List Analysis) (fs : List Found) → map analysed (passed u done fs) ≡ map found_known fs
passed_known u done [] = refl
passed_known u done (f ∷ fs) = ap (λ zs. f.known ∷ zs) (passed_known u (done ++ passes_next u done f ∷ []) fs)

founds_named : (u : List BlockUnit) (ks : List Known) (cs : TransformerCallees) (xs : List (List ℕ)) → map found_known (founds_in u ks cs xs) ≡ modules_at ks xs
founds_named u ks cs [] = refl
founds_named u ks cs (x ∷ xs) = go (module_of ks x) (λ ds. founds_named u ks ds xs)
  where
    go : (o : Option Known) → ((ds : TransformerCallees) → map found_known (founds_in u ks ds xs) ≡ modules_at ks xs) → map found_known (option_to_list (maybe_found u cs o) ++ founds_in u ks (with_found (maybe_found u cs o) cs) xs) ≡ option_to_list o ++ modules_at ks xs
    go None ih = ih (with_found None cs)
    go (Some k) ih = ap (λ zs. k ∷ zs) (ih (with_found (Some (found_of u cs k)) cs))

module _ (ps : List ParsedTree) (sss : List (List SymbolTree)) (g : Graph) where
  abbrev ks : List Known
  ks = known_of ps sss

  abbrev founds : List Found
  founds = founds_in g.untracked (known_of ps sss) no_found g.order

  outs_named : map outs_known (reverse (outs_of ps sss g)) ≡ modules_at (known_of ps sss) g.order
  outs_named =
      let as' = analyses (known_of ps sss) g in
      let fs = founds_in g.untracked (known_of ps sss) no_found g.order in
      map_reverse outs_known (outs_of ps sss g)
      ∙ (ap reverse (ap (map outs_known) (outs_are g as') ∙ (run_known g [] as' ∙ (ap (map analysed) (run_is g.untracked [] (reverse fs)) ∙ (passed_known g.untracked [] (reverse fs) ∙ map_reverse found_known fs))))
      ∙ (reverse-reverse (map found_known fs) ∙ founds_named g.untracked (known_of ps sss) no_found g.order))

-- ---- their effects

-- a module with its marks, among those of these names, each with the effects of those before it
pub record IsMade (g : Graph) (ks : List Known) (xs : List (List ℕ)) (cs : Callees) (f : ModuleResults) : Type 0 where
  pub at : ℕ
  pub is_module : slice_get ks at ≡ Some f.known
  pub among : In f.known.read.name xs
  pub effects : f.effects ≡ cumulated_of f.known.read.body (before ks xs cs f.known.read.name) f.known.symbols
  pub marks : f.marks ≡ marks_found g.untracked (phases_of f) f.effects

not_in : (x y : List ℕ) (xs : List (List ℕ)) → NotIn x xs → In y xs → bytes_eq y x ≡ false
not_in x y [] n i = elim i [ ]
not_in x y (z ∷ xs) n here = n.0
not_in x y (z ∷ xs) n (there i) = not_in x y xs n.1 i

module _ (ps : List ParsedTree) (sss : List (List SymbolTree)) (g : Graph) where
  abbrev modules : List Known
  modules = known_of ps sss

  later : (x : List ℕ) (xs : List (List ℕ)) (cs ds : Callees) → NotIn x xs → with_summary (known_of ps sss) x cs ≡ ds → (f : ModuleResults) → IsMade g (known_of ps sss) xs ds f → IsMade g (known_of ps sss) (x ∷ xs) cs f
  later x xs cs ds n same f h =
      let k = f.known in
      let other : bytes_eq k.read.name x ≡ false = not_in x k.read.name xs n h.among in
      record {
        at = h.at;
        is_module = h.is_module;
        among = there h.among;
        effects =
            h.effects
            ∙ (ap (λ c. cumulated_of k.read.body (before (known_of ps sss) xs c k.read.name) k.symbols) (sym same)
            ∙ sym (ap (λ b. cumulated_of k.read.body (if b then cs else before (known_of ps sss) xs (with_summary (known_of ps sss) x cs) k.read.name) k.symbols) other));
        marks = h.marks;
      }

  -- a name without a module
  none_more : (x : List ℕ) (cs : Callees) → module_of (known_of ps sss) x ≡ None → cs x ≡ None → with_summary (known_of ps sss) x cs ≡ cs
  none_more x cs e c i y = each y i
    where
      each : (y : List ℕ) → with_summary (known_of ps sss) x cs y ≡ cs y
      each y = go (bytes_eq y x) refl
        where
          go : (b : Bool) → bytes_eq y x ≡ b → (if b then made (with_name (known_of ps sss) x) cs else cs y) ≡ cs y
          go true q = ap (λ o. made o cs) (named_is (known_of ps sss) x ∙ e) ∙ (sym c ∙ ap cs (sym ((bytes_eq-Decides y x).0 q)))
          go false q = refl

  module _ (x : List ℕ) (cs : Callees) (f : ModuleOuts) (e : module_of (known_of ps sss) x ≡ Some (known_in f)) where
    abbrev new : ModuleResults
    new = with_marks g.untracked cs f

    name : (known_in f).read.name ≡ x
    name = (module_of_is (known_of ps sss) x (known_in f) e).name

    one_more : with_summary (known_of ps sss) x cs ≡ with_callee (with_marks g.untracked cs f) cs
    one_more i y = each y i
      where
        each : (y : List ℕ) → with_summary (known_of ps sss) x cs y ≡ with_callee (with_marks g.untracked cs f) cs y
        each y =
            ap (λ o. if bytes_eq y x then made o cs else cs y) (named_is (known_of ps sss) x ∙ e)
            ∙ ap (λ b. if b then made (Some (known_in f)) cs else cs y) (sym (ap (λ z. bytes_eq z y) name ∙ turned x y))

    first : (xs : List (List ℕ)) → IsMade g (known_of ps sss) (x ∷ xs) cs (with_marks g.untracked cs f)
    first xs =
        let r = module_of_is (known_of ps sss) x (known_in f) e in
        record {
          at = r.at;
          is_module = r.is_module;
          among = subst (λ z. In (known_in f).read.name (z ∷ xs)) name here;
          effects = sym (ap (λ b. cumulated_of (known_in f).read.body (if b then cs else before (known_of ps sss) xs (with_summary (known_of ps sss) x cs) (known_in f).read.name) (known_in f).symbols) (ap (bytes_eq (known_in f).read.name) (sym name) ∙ same_name (known_in f).read.name));
          marks = refl;
        }

    -- the names that come later have no summary yet
    none_yet : (xs : List (List ℕ)) → NotIn x xs → Each (λ y. cs y ≡ None) xs → Each (λ y. with_callee (with_marks g.untracked cs f) cs y ≡ None) xs
    none_yet [] n h = tt
    none_yet (y ∷ xs) n h = (
      ap (λ b. if b then Some (record { symbols = (known_in f).symbols; value = (with_marks g.untracked cs f).effects.summary }) else cs y) (ap (λ z. bytes_eq z y) name ∙ (turned x y ∙ n.0)) ∙ h.0,
      none_yet xs n.1 h.1,
    )

  all_made : (xs : List (List ℕ)) → Sorted ps sss xs → (cs : Callees) → Each (λ y. cs y ≡ None) xs → (fs : List ModuleOuts) → map outs_known fs ≡ modules_at (known_of ps sss) xs → Each (IsMade g (known_of ps sss) xs cs) (found_in g.untracked cs fs)
  all_made [] s cs h [] e = tt
  all_made [] s cs h (f ∷ fs) e = absurd (let z : outs_known f ∷ map outs_known fs ≡ [] = e in grind arith)
  all_made (x ∷ xs) s cs h fs e = go (module_of (known_of ps sss) x) refl fs e (λ ds k fs' e'. all_made xs s.2 ds k fs' e')
    where
      go : (o : Option Known) → module_of (known_of ps sss) x ≡ o → (fs : List ModuleOuts) → map outs_known fs ≡ option_to_list o ++ modules_at (known_of ps sss) xs →
          ((ds : Callees) → Each (λ y. ds y ≡ None) xs → (fs' : List ModuleOuts) → map outs_known fs' ≡ modules_at (known_of ps sss) xs → Each (IsMade g (known_of ps sss) xs ds) (found_in g.untracked ds fs')) →
          Each (IsMade g (known_of ps sss) (x ∷ xs) cs) (found_in g.untracked cs fs)
      go None q fs e ih = each_more (IsMade g (known_of ps sss) xs cs) (IsMade g (known_of ps sss) (x ∷ xs) cs) (found_in g.untracked cs fs) (later x xs cs cs s.0 (none_more x cs q h.0)) (ih cs h.1 fs e)
      go (Some k) q [] e ih = absurd (let z : [] ≡ k ∷ modules_at (known_of ps sss) xs = e in grind arith)
      go (Some k) q (f ∷ fs) e ih =
          let z : outs_known f ∷ map outs_known fs ≡ k ∷ modules_at (known_of ps sss) xs = e in
          let same : outs_known f ≡ k = cc in
          let rest : map outs_known fs ≡ modules_at (known_of ps sss) xs = cc in
          let r : module_of (known_of ps sss) x ≡ Some (known_in f) = q ∙ ap Some (sym same) in
          let ds = with_callee (with_marks g.untracked cs f) cs in (
            first x cs f r xs,
            each_more (IsMade g (known_of ps sss) xs ds) (IsMade g (known_of ps sss) (x ∷ xs) cs) (found_in g.untracked ds fs) (later x xs cs ds s.0 (one_more x cs f r)) (ih ds (none_yet x cs f r xs s.0 h.1) fs rest),
          )

  none_of : (xs : List (List ℕ)) → Each (λ y. no_callees y ≡ None) xs
  none_of [] = tt
  none_of (x ∷ xs) = (refl, none_of xs)

  -- the effects of a module are made with the summaries of those before it in the order of the graph
  pub marks_made : IsLinked ps sss g → Each (IsMade g (known_of ps sss) g.order no_callees) (all_marks g (outs_of ps sss g))
  marks_made l = all_made g.order (order_sorted ps sss g l) no_callees (none_of g.order) (reverse (outs_of ps sss g)) (outs_named ps sss g)
