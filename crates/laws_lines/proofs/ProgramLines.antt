-- The lines of each module of a program are read as what its analysis found.
use Rattle.std.proofs.Common.{◌≡◌, ℕ, zero, suc, List, [], ◌∷◌, ◌++◌, Option, Some, None, arith, refl}
use Rattle.std.specs.Prelude.{All, reverse, option_to_list}
use Rattle.f77_ast.specs.DeclTrees.{ParsedTree}
use Rattle.f77_ast.specs.declared.variable.Unit.{Unit as BlockUnit}
use Rattle.f77_ast.specs.Symbols.{SymbolTree}
use Rattle.call_graph.specs.declared.graph.Graph.{Graph}
use Rattle.f77_meaning.specs.Modules.{Known, known_of, symbol_names}
use Rattle.preconditions.specs.transformers.Given.{Callees}
use Rattle.system_text.specs.Printed.{AreNames}
use Rattle.loop_marker.specs.module_phases.ScalarPhases.{place_of, module_at, module_of, Found, no_callees, with_callee, found_of, maybe_found, found_in, Analysis, sites_of, analysis_of, analyses_from, analyses}
use Rattle.laws_programs.specs.Programs.{AreTables}
use Rattle.laws_lines.specs.NameLaws.{AreWords}
use Rattle.laws_lines.specs.LineLaws.{LinesMeanResults, AnalysesAreReadBack}
use Rattle.laws_lines.proofs.TableNames.{names_are_distinct}
use Rattle.laws_lines.proofs.PhaseVars.{each_all, AnalysisOk, analyses_ok}
use Rattle.laws_lines.proofs.LineBack.{analysis_read_back}
use Rattle.fx_lists.proofs.Every.{Every, every_joined, every_turned, every_at}

-- ---- each analysis is of a module of the program

module _ (W : Known → Type 0) where
  module_with : (ks : List Known) → Every W ks → (x : List ℕ) (k : Known) → module_of ks x ≡ Some k → W k
  module_with ks h x k e = go (place_of ks x) e
    where
      go : (o : Option ℕ) → module_at ks o ≡ Some k → W k
      go None q = cc
      go (Some i) q = every_at W ks i k h q

  founds_with : (untracked : List BlockUnit) (ks : List Known) → Every W ks → (cs : Callees) (xs : List (List ℕ)) → Every (λ (f : Found). W f.known) (found_in untracked ks cs xs)
  founds_with untracked ks h cs [] = tt
  founds_with untracked ks h cs (x ∷ xs) = go (module_of ks x) refl (λ ds. founds_with untracked ks h ds xs)
    where
      go : (o : Option Known) → module_of ks x ≡ o → ((ds : Callees) → Every (λ (f : Found). W f.known) (found_in untracked ks ds xs)) → Every (λ (f : Found). W f.known) (option_to_list (maybe_found untracked cs o) ++ found_in untracked ks (with_callee (maybe_found untracked cs o) cs) xs)
      go None e ih = ih (with_callee None cs)
      go (Some k) e ih = (module_with ks h x k e, ih (with_callee (Some (found_of untracked cs k)) cs))

  from_with : (untracked : List BlockUnit) (done : List Analysis) (fs : List Found) → Every (λ (a : Analysis). W a.found.known) done → Every (λ (f : Found). W f.known) fs → Every (λ (a : Analysis). W a.found.known) (analyses_from untracked done fs)
  from_with untracked done [] d h = d
  from_with untracked done (f ∷ fs) d h =
      let new = analysis_of untracked (sites_of untracked done f.known.read.name) f in
      from_with untracked (done ++ new ∷ []) fs (every_joined (λ (a : Analysis). W a.found.known) done (new ∷ []) d (h.0, tt)) h.1

  analyses_with : (ks : List Known) (g : Graph) → Every W ks → Every (λ (a : Analysis). W a.found.known) (analyses ks g)
  analyses_with ks g h =
      let fs = found_in g.untracked ks no_callees g.order in
      from_with g.untracked [] (reverse fs) tt (every_turned (λ (f : Found). W f.known) fs (founds_with g.untracked ks h no_callees g.order))

-- ---- the names of its modules

abbrev pub HasNames : Known → Type 0
HasNames k = AreNames (symbol_names k.symbols)

tables_named : (ps : List ParsedTree) (sss : List (List SymbolTree)) → AreTables ps sss → All AreWords sss → Every HasNames (known_of ps sss)
tables_named [] sss t w = tt
tables_named (p ∷ ps) [] t w = tt
tables_named (p ∷ ps) (ss ∷ sss) t w =
    (record { each = w zero ss (omega arith); distinct = names_are_distinct p ss t.0 }, tables_named ps sss t.1 (λ k d l. w (suc k) d (omega (arith, l))))

both_read : (untracked : List BlockUnit) (as' : List Analysis) → Every (AnalysisOk untracked) as' → Every (λ (a : Analysis). HasNames a.found.known) as' → Every LinesMeanResults as'
both_read untracked [] h k = tt
both_read untracked (a ∷ as') h k = (analysis_read_back untracked a h.0 k.0, both_read untracked as' h.1 k.1)

pub analyses_are_read_back : AnalysesAreReadBack
analyses_are_read_back ps sss g t w =
    each_all LinesMeanResults LinesMeanResults (λ a h. h) (analyses (known_of ps sss) g)
    (both_read g.untracked (analyses (known_of ps sss) g) (analyses_ok ps sss g t) (analyses_with HasNames (known_of ps sss) g (tables_named ps sss t w)))
