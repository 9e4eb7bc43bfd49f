-- The lines of the regions of a module are read as what was found.
use Rattle.std.proofs.Common.{◌≡◌, ℕ, zero, suc, Bool, true, false, ◌||◌, List, [], ◌∷◌, ◌++◌, length, arith, refl}
use Rattle.std.specs.Prelude.{All, bytes_eq}
use Rattle.std.specs.List.{AllByRecursion, IsDistinct, list_all, list_any}
use Rattle.std.proofs.lemmas.Bool.{and_from, and_parts, or_parts}
use Rattle.f77_ast.specs.DeclTrees.{ParsedTree}
use Rattle.affine_systems.specs.declared.row.Var.{Var}
use Rattle.affine_systems.specs.declared.row.Var.TheVariants.{Cell, Exit, Phi, Aux}
use Rattle.affine_systems.specs.declared.row.Term.{Term}
use Rattle.affine_systems.specs.declared.row.System.{System}
use Rattle.f77_ast.specs.declared.results.Results.{Results}
use Rattle.f77_ast.specs.declared.variable.Unit.{Unit as BlockUnit}
use Rattle.f77_ast.specs.declared.variable.Variable.{Variable}
use Rattle.f77_ast.specs.declared.variable.Variable.TheVariants.{Own, Block, Saved}
use Rattle.f77_ast.specs.Symbols.{SymbolTree}
use Rattle.f77_meaning.specs.Modules.{Known, known_of, symbol_names}
use Rattle.loop_marker.specs.module_phases.ScalarPhases.{scope_of, analyses}
use Rattle.loop_marker.specs.module_phases.RegionPhases.{ModuleRegions, all_regions}
use Rattle.in_out_regions.specs.region_sets.declared.region.Region.{Region}
use Rattle.system_text.specs.Printed.{is_name, IsNumber, AreNames}
use Rattle.laws_lines.specs.RegionTexts.Reading.{phi_names}
use Rattle.laws_lines.specs.RegionTexts.Printed.{AreOther, IsPlaced, ArePlaced, IsOfPlaces, IsPlain, IsCalled, IsReadable}
use Rattle.laws_lines.specs.RegionTexts.Added.{AreReadable}
use Rattle.laws_lines.proofs.RegionTexts.LineBack.{region_lines_read_back}
use Rattle.laws_lines.proofs.RegionTexts.AddedBack.{added_lines_read_back}
use Rattle.laws_programs.specs.Programs.{AreTables}
use Rattle.laws_lines.specs.NameLaws.{AreWords}
use Rattle.laws_lines.specs.Variables.{EachVar}
use Rattle.laws_lines.specs.Laws.{IsTracked}
use Rattle.laws_lines.proofs.TableNames.{names_are_distinct}
use Rattle.laws_lines.proofs.RowVars.{Neat}
use Rattle.laws_lines.proofs.SystemVars.{IsNeat}
use Rattle.laws_lines.proofs.LineBack.{neat_ordered, cell_number}
use Rattle.laws_lines.proofs.PhaseVars.{each_all, value_is}
use Rattle.laws_lines.specs.Regions.Places.{IsPlaceOf, AreFew}
use Rattle.laws_lines.specs.Regions.Lines.{is_phi, HaveNoPhi}
use Rattle.laws_lines.specs.Regions.LineLaws.{RegionsAreReadable, SetLinesMean, RegionLinesMean, RegionLinesMeanRegions}
use Rattle.laws_lines.proofs.Regions.LinesEach.{IsTold, AreTold, all_lines}
use Rattle.laws_lines.proofs.Regions.AccessVars.{IsNamedBy}
use Rattle.laws_lines.proofs.Regions.RegionVars.{few_more, AreFine}
use Rattle.laws_lines.proofs.Regions.ProgramRegions.{IsNamedHere, SetsFine, ModuleFine, modules_fine, regions_with}
use Rattle.laws_lines.proofs.ProgramLines.{HasNames}
use Rattle.fx_lists.proofs.Lists.{map_length, each_append as both_all}
use Rattle.elimination.proofs.ClosedLaws.{rows_weaker as all_more}
use Rattle.fx_lists.proofs.Every.{Every}

-- ---- names that are none of subscripts

-- one of them is the same as one behind it
abbrev some_same : List (List ℕ) → Bool
some_same [] = false
some_same (x ∷ xs) = list_any (bytes_eq x) xs || some_same xs

apart_from : (x : List ℕ) (ys : List (List ℕ)) → list_any (bytes_eq x) ys ≡ false → AllByRecursion (λ (y : List ℕ). bytes_eq x y ≡ false) ys
apart_from x [] h = tt
apart_from x (y ∷ ys) h = let p = or_parts (bytes_eq x y) (list_any (bytes_eq x) ys) h in (p.0, apart_from x ys p.1)

distinct_from : (xs : List (List ℕ)) → some_same xs ≡ false → IsDistinct bytes_eq xs
unfolding IsDistinct
distinct_from [] h = tt
distinct_from (x ∷ xs) h = let p = or_parts (list_any (bytes_eq x) xs) (some_same xs) h in (apart_from x xs p.0, distinct_from xs p.1)

phis_distinct : IsDistinct bytes_eq phi_names
phis_distinct = distinct_from phi_names refl

both_distinct : (xs : List (List ℕ)) → IsDistinct bytes_eq xs → list_any is_phi xs ≡ false → IsDistinct bytes_eq (xs ++ phi_names)
unfolding IsDistinct
both_distinct [] d h = phis_distinct
both_distinct (x ∷ xs) d h =
    let p = or_parts (is_phi x) (list_any is_phi xs) h in
    (both_all (λ (y : List ℕ). bytes_eq x y ≡ false) xs phi_names d.0 (apart_from x phi_names p.0), both_distinct xs d.1 p.1)

both_names : (xs ys : List (List ℕ)) → list_all is_name xs ≡ true → list_all is_name ys ≡ true → list_all is_name (xs ++ ys) ≡ true
both_names [] ys h k = k
both_names (x ∷ xs) ys h k = let p = and_parts (is_name x) (list_all is_name xs) h in and_from (is_name x) (list_all is_name (xs ++ ys)) p.0 (both_names xs ys p.1 k)

others : (names : List (List ℕ)) → AreNames names → HaveNoPhi names → AreOther names
others names are none = record { each = both_names names phi_names are.each refl; distinct = both_distinct names are.distinct none }

-- ---- cells have names

tracked_number : (untracked : List BlockUnit) (k : Known) (n : ℕ) → IsTracked untracked k n → IsNumber (symbol_names k.symbols) n
tracked_number untracked k n h =
    let r = cell_number (scope_of untracked k).tracked n h in
    let a : length (scope_of untracked k).tracked ≡ length k.symbols = map_length _ k.symbols in
    let b : length (symbol_names k.symbols) ≡ length k.symbols = map_length _ k.symbols in
    let l = r.1 in
    (r.0, omega (arith, l, a, b))

-- ---- regions that are read as they were written

module _ (untracked : List BlockUnit) (k : Known) where
  abbrev names : List (List ℕ)
  names = symbol_names k.symbols

  abbrev ok : ℕ → Type 0
  ok = IsTracked untracked k

  placed : (v : Var) → IsPlaceOf ok v → IsPlaced names v
  placed (Cell n) h = tracked_number untracked k n h
  placed (Exit n) h = absurd h
  placed (Phi n) h = h
  placed (Aux n) h = absurd h

  terms_placed : (ts : List Term) → EachVar (IsPlaceOf ok) ts → ArePlaced names ts
  terms_placed [] h = tt
  terms_placed (t ∷ ts) h = (placed t.var h.0, terms_placed ts h.1)

  system_placed : (s : System) → IsNeat (IsPlaceOf ok) s → IsOfPlaces names s
  system_placed s h =
      (neat_ordered (IsPlaceOf ok) s h, all_more (Neat false (IsPlaceOf ok)) (λ r. ArePlaced names r.terms) (λ r i. terms_placed r.terms i.1) s.rows h)

  called : (v : Variable) → IsNamedBy IsPlain names v → IsCalled names v
  called (Own n) h = h
  called (Block b) h = h
  called (Saved s x) h = h

  readable : (r : Region) → IsNamedBy IsPlain names r.variable → AreFew (IsNeat (IsPlaceOf ok)) r.pieces → IsReadable names r
  readable r h k = record { variable = called r.variable h; systems = (few_more (IsNeat (IsPlaceOf ok)) (IsOfPlaces names) system_placed r.pieces k).1 }

  all_readable : (rs : List Region) → AreFine (IsNamedBy IsPlain names) ok rs → AllByRecursion (IsReadable names) rs
  all_readable [] h = tt
  all_readable (r ∷ rs) h = (readable r h.0.0 h.0.1, all_readable rs h.1)

  all_told : AreOther names → (rs : List Region) → AreFine (IsNamedBy IsPlain names) ok rs → AllByRecursion (IsTold names) rs
  all_told other [] h = tt
  all_told other (r ∷ rs) h = (region_lines_read_back names r other (readable r h.0.0 h.0.1), all_told other rs h.1)

-- ---- modules

sets_readable : (untracked : List BlockUnit) (k : Known) (sets : Results (List Region)) → SetsFine IsPlain untracked k sets → AreReadable (symbol_names k.symbols) sets
sets_readable untracked k sets h = record {
  at = λ n rs e. all_readable untracked k rs (value_is (AreFine (IsNamedHere IsPlain k) (IsTracked untracked k)) sets.at n rs h.at e);
  summary = all_readable untracked k sets.summary h.summary;
}

-- the line of each of its regions is read as that region, as it is shown
sets_told : (untracked : List BlockUnit) (k : Known) (sets : Results (List Region)) → SetsFine IsPlain untracked k sets → AreOther (symbol_names k.symbols) → AreTold (symbol_names k.symbols) sets
sets_told untracked k sets h other = record {
  at = λ n rs e. all_told untracked k other rs (value_is (AreFine (IsNamedHere IsPlain k) (IsTracked untracked k)) sets.at n rs h.at e);
  summary = all_told untracked k other sets.summary h.summary;
}

pub sets_mean : (untracked : List BlockUnit) (k : Known) (sets : Results (List Region)) → SetsFine IsPlain untracked k sets → HasNames k → SetLinesMean k sets
sets_mean untracked k sets h are none =
    let names = symbol_names k.symbols in
    let other = others names are none in (
      added_lines_read_back k.read.main k.read.body names sets other (sets_readable untracked k sets h),
      all_lines names sets (sets_told untracked k sets h other) k.read,
    )

pub tables_named : (ps : List ParsedTree) (sss : List (List SymbolTree)) → AreTables ps sss → All AreWords sss → Every HasNames (known_of ps sss)
tables_named [] sss t w = tt
tables_named (p ∷ ps) [] t w = tt
tables_named (p ∷ ps) (ss ∷ sss) t w =
    (record { each = w zero ss (omega arith); distinct = names_are_distinct p ss t.0 }, tables_named ps sss t.1 (λ k d l. w (suc k) d (omega (arith, l))))

each_means : (untracked : List BlockUnit) (fs : List ModuleRegions) → Every (ModuleFine IsPlain untracked) fs → Every (λ (f : ModuleRegions). HasNames f.analysis.found.known) fs → Every RegionLinesMean fs
each_means untracked [] h k = tt
each_means untracked (f ∷ fs) h k = (sets_mean untracked f.analysis.found.known f.regions h.0 k.0, each_means untracked fs h.1 k.1)

pub regions_are_readable : RegionsAreReadable
regions_are_readable ps sss g t n =
    each_all (ModuleFine IsPlain g.untracked) (λ (f : ModuleRegions). AreReadable (symbol_names f.analysis.found.known.symbols) f.regions) (λ f. sets_readable g.untracked f.analysis.found.known f.regions) (all_regions g (analyses (known_of ps sss) g)) (modules_fine IsPlain ps sss g t n)

pub region_lines_mean_regions : RegionLinesMeanRegions
region_lines_mean_regions ps sss g t w n =
    let ks = known_of ps sss in
    let fs = all_regions g (analyses ks g) in
    each_all RegionLinesMean RegionLinesMean (λ f h. h) fs (each_means g.untracked fs (modules_fine IsPlain ps sss g t n) (regions_with HasNames ks g (tables_named ps sss t w)))
