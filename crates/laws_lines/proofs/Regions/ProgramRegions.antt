-- Regions of the modules of a program have subscripts and tracked cells alone: module by module, callees before callers.
use Rattle.affine_forms.specs.Scalars.{is_cell}
use Rattle.affine_systems.specs.declared.row.Var.{Var}
use Rattle.affine_systems.specs.declared.row.Var.TheVariants.{Cell, Exit, Phi, Aux}
use Rattle.call_graph.specs.declared.graph.Graph.{Graph}
use Rattle.in_out_regions.specs.array_regions.Calls.{Callees}
use Rattle.in_out_regions.specs.array_regions.Modules.{calls_of}
use Rattle.f77_ast.specs.Trees.{ExprTrees}
use Rattle.f77_ast.specs.DeclTrees.{ParsedTree}
use Rattle.f77_checks.specs.Dimensions.{has_bad_bound, dims_of, is_too_big, is_bad_shape, check_bounds, check_shape, check_shapes}
use Rattle.f77_meaning.specs.Modules.{Known, known_of, symbol_names}
use Rattle.f77_names.specs.Entries.{ShapeTree, EntryTree}
use Rattle.f77_names.specs.Tables.{NameTable}
use Rattle.f77_ast.specs.declared.results.At.{At}
use Rattle.f77_ast.specs.declared.results.Results.{Results}
use Rattle.f77_ast.specs.Symbols.{SymbolTree, number_from}
use Rattle.f77_ast.specs.Summaries.{SummaryTree}
use Rattle.f77_ast.specs.declared.symbol.Place.{Place}
use Rattle.f77_ast.specs.declared.symbol.Place.TheVariants.{Local, Dummy, Block, Constant}
use Rattle.f77_ast.specs.declared.variable.Unit.{Unit as BlockUnit}
use Rattle.f77_ast.specs.declared.variable.Variable.{Variable}
use Rattle.laws_lines.proofs.PhaseVars.{each_all, AnalysisOk, analyses_ok, value_is, named_flag, unit_flag, set_cell}
use Rattle.laws_lines.proofs.RuleVars.{IsDone, unchanging_done}
use Rattle.laws_lines.proofs.StatementVars.{AllAt, Scope}
use Rattle.laws_lines.proofs.SystemVars.{IsNeat, neat_over, system_more}
use Rattle.laws_lines.specs.Laws.{IsTracked}
use Rattle.laws_lines.specs.Variables.{IsOver}
use Rattle.laws_programs.specs.Programs.{AreTables}
use Rattle.laws_lines.proofs.Regions.AccessVars.{IsNamedBy, FewBounds, Fine}
use Rattle.laws_lines.proofs.Regions.CallRegions.{MaybeFine, CalleesFine, call_fine}
use Rattle.laws_lines.proofs.Regions.Indexes.{indexes_are_symbols}
use Rattle.laws_lines.proofs.Regions.RegionVars.{few_more, AreFine}
use Rattle.laws_lines.proofs.Regions.StatementRegions.{list_at_fine, summary_fine}
use Rattle.laws_lines.specs.Regions.Indexes.{counts_other}
use Rattle.laws_lines.specs.Regions.Names.{PlaceNamed, SymbolNamed, IsNamed, AreNamed}
use Rattle.laws_lines.specs.Regions.Laws.{AreOverPlaces, SetsAreOver, RegionsAreOver, RegionsAreOverPlaces}
use Rattle.laws_lines.specs.Regions.Places.{IsPlaceOf, AreFew}
use Rattle.laws_programs.proofs.SymbolTables.Answers.{Answered, lines_in, layout_in, found_none, answered_by}
use Rattle.laws_programs.proofs.SymbolTables.NameRefusals.{shapes_back}
use Rattle.laws_programs.proofs.SymbolTables.StatementRefusals.{stmts_back}
use Rattle.fx_lists.specs.declared.code.Code.TheVariants.{BadDimension}
use Rattle.fx_lists.specs.declared.refusal.Refusal.{Refusal}
use Rattle.loop_marker.specs.module_phases.RegionPhases.{ModuleRegions, with_callee, with_regions, found_in, all_regions}
use Rattle.loop_marker.specs.module_phases.RegionPhases as regions
use Rattle.in_out_regions.specs.region_sets.declared.region.Region.{Region}
use Rattle.in_out_regions.specs.call_equations.Sides.{changed_cells}
use Rattle.loop_marker.specs.module_phases.ScalarPhases.{scope_of, place_of, module_at, module_of, Found, found_of, maybe_found, Analysis, sites_of, analysis_of, analyses_from, analyses}
use Rattle.loop_marker.specs.module_phases.ScalarPhases as scalars
use Rattle.std.proofs.Common.{◌≡◌, ℕ, suc, ◌+◌, ◌-◌, Bool, true, false, ◌||◌, List, [], ◌∷◌, ◌++◌, Option, Some, None, arith, refl, sym, ap, subst, nat_eq, length, ◌≤◌}
use Rattle.std.proofs.lemmas.Bool.Decides.{nat_tests}
use Rattle.std.proofs.lemmas.Bool.{or_parts}
use Rattle.std.proofs.lemmas.Slice.Eq.{bytes_eq-Decides}
use Rattle.std.specs.List.{AllByRecursion}
use Rattle.std.specs.Prelude.{if◌then◌else◌, reverse, map, bytes_eq, slice_get, option_to_list, is_some, nat_lt}
use Rattle.storage_layout.specs.Symbols.{valued, checked}
use Rattle.storage_layout.specs.Table.{Layout, bounds_in, symbols_from}
use Rattle.tracked_cells.specs.Tracked.{tracked_of}
use Rattle.preconditions.specs.transformer_algebra.declared.transformer.Transformer.{Transformer}
use Rattle.preconditions.specs.transformers.Given as given
use Rattle.preconditions.specs.transformers.Jumps.{list_has}
use Rattle.preconditions.specs.transformers.Lists.{value_at, or_unchanging, transformer_at}
use Rattle.laws_lines.proofs.Outs.CalleeLinks.{HasSeven as HasFew}
use Rattle.fx_lists.proofs.Refused.{none_refused}
use Rattle.fx_lists.proofs.Every.{Anything, Anything as Every, Every as EachOf, every_joined, every_turned, every_at}

-- ---- the tracked cells of a module

-- the tracked cells of a module with its table
module _ (untracked : List BlockUnit) (k : Known) where
  pub scope_flags : Scope (IsTracked untracked k) (scope_of untracked k)
  scope_flags = record {
    allows = record {
      names = λ x c e. named_flag (tracked_of k.read k.symbols untracked) (number_from 1 (symbol_names k.symbols) x) c e;
      units = λ b o c e. let r = unit_flag 1 k.symbols (tracked_of k.read k.symbols untracked) b o c e in
          let q : suc r.place ≡ c = omega (arith, r.is_place) in
          subst (λ (m : ℕ). is_cell (tracked_of k.read k.symbols untracked) m ≡ true) q (set_cell (tracked_of k.read k.symbols untracked) r.place r.is_set);
    };
    flags = λ c e. e;
  }

-- ---- what its statements do

pub found_done : (ok : ℕ → Type 0) (xs : List (At Transformer)) → AllAt (IsDone ok) xs → (n : ℕ) → IsDone ok (transformer_at xs n)
found_done ok xs h n = go (value_at xs n) (λ v e. value_is (IsDone ok) xs n v h e)
  where
    go : (o : Option Transformer) → ((v : Transformer) → o ≡ Some v → IsDone ok v) → IsDone ok (or_unchanging o)
    go None f = unchanging_done ok
    go (Some t) f = f t refl

-- ---- arrays have at most seven dimensions

seven : (n : ℕ) → nat_lt 7 n ≡ false → n ≤ 7
seven n h = grind (arith, nat_tests)

shape_few : (t : NameTable) (dummy : Bool) (s : Option ShapeTree) (o : Option Refusal) → check_shape t dummy s o ≡ None → length (bounds_in s) ≤ 7
shape_few t dummy None o j = omega arith
shape_few t dummy (Some s) o j =
    let r = none_refused (is_bad_shape t dummy s.bounds) s.line BadDimension (check_bounds t s.bounds s.line o) j in
    seven (length s.bounds) (or_parts (nat_lt 7 (length s.bounds)) (has_bad_bound t dummy s.bounds || is_too_big (dims_of t s.bounds)) r.0).0

all_few : (t : NameTable) (l : Layout) (n : ℕ) (es : List EntryTree) (o : Option Refusal) → check_shapes t es o ≡ None → EachOf HasFew (symbols_from l n es)
all_few t l n [] o j = tt
all_few t l n (e ∷ es) o j =
    let next = check_shape t (is_some e.dummy) e.shape o in
    (shape_few t (is_some e.dummy) e.shape o (shapes_back t es next j), all_few t l (n + 1) es next j)

table_few : (p : ParsedTree) (ss : List SymbolTree) → Answered p ss → EachOf HasFew ss
unfolding checked
table_few p ss a =
    let v = valued (lines_in p) p.module_read in
    let l = layout_in p in
    let none = stmts_back v.table (lines_in p) p.module_read.body 0 (check_shapes v.table v.table.entries v.found) (found_none p ss a) in
    subst (EachOf HasFew) (sym a.table) (all_few v.table l 0 v.table.entries v.found none)

pub few_at : (ss : List SymbolTree) → EachOf HasFew ss → FewBounds ss
few_at ss h n s e = go (nat_eq n 0) e
  where
    go : (b : Bool) → (if b then None else slice_get ss (n - 1)) ≡ Some s → length s.bounds ≤ 7
    go true q = cc
    go false q = every_at HasFew ss (n - 1) s h q

-- so it is of the symbols of a module; and the index of each DO is one of them
abbrev pub IsTold : Known → Type 0
IsTold k = EachOf HasFew k.symbols × (list_has (counts_other (symbol_names k.symbols)) k.read.body ≡ false)

knowns_told : (ps : List ParsedTree) (sss : List (List SymbolTree)) → AreTables ps sss → EachOf IsTold (known_of ps sss)
knowns_told [] sss t = tt
knowns_told (p ∷ ps) [] t = tt
knowns_told (p ∷ ps) (ss ∷ sss) t = ((table_few p ss (answered_by p ss t.0), indexes_are_symbols p ss t.0), knowns_told ps sss t.1)

-- ---- each analysis is of a module of the program

module _ (W : Analysis → Type 0) where
  regions_from : (untracked : List BlockUnit) (cs : Callees) (as' : List Analysis) → EachOf W as' → EachOf (λ (f : ModuleRegions). W f.analysis) (found_in untracked cs as')
  regions_from untracked cs [] h = tt
  regions_from untracked cs (a ∷ as') h = (h.0, regions_from untracked (with_callee (with_regions untracked cs a) cs) as' h.1)

  pub regions_of : (g : Graph) (as' : List Analysis) → EachOf W as' → EachOf (λ (f : ModuleRegions). W f.analysis) (all_regions g as')
  regions_of g as' h = regions_from g.untracked regions.no_callees (reverse as') (every_turned W as' h)

module _ (W : Known → Type 0) where
  module_with : (ks : List Known) → EachOf W ks → (x : List ℕ) (k : Known) → module_of ks x ≡ Some k → W k
  module_with ks h x k e = go (place_of ks x) e
    where
      go : (o : Option ℕ) → module_at ks o ≡ Some k → W k
      go None q = cc
      go (Some i) q = every_at W ks i k h q

  founds_with : (untracked : List BlockUnit) (ks : List Known) → EachOf W ks → (cs : given.Callees) (xs : List (List ℕ)) → EachOf (λ (f : Found). W f.known) (scalars.found_in untracked ks cs xs)
  founds_with untracked ks h cs [] = tt
  founds_with untracked ks h cs (x ∷ xs) = go (module_of ks x) refl (λ ds. founds_with untracked ks h ds xs)
    where
      go : (o : Option Known) → module_of ks x ≡ o → ((ds : given.Callees) → EachOf (λ (f : Found). W f.known) (scalars.found_in untracked ks ds xs)) → EachOf (λ (f : Found). W f.known) (option_to_list (maybe_found untracked cs o) ++ scalars.found_in untracked ks (scalars.with_callee (maybe_found untracked cs o) cs) xs)
      go None e ih = ih (scalars.with_callee None cs)
      go (Some k) e ih = (module_with ks h x k e, ih (scalars.with_callee (Some (found_of untracked cs k)) cs))

  from_with : (untracked : List BlockUnit) (done : List Analysis) (fs : List Found) → EachOf (λ (a : Analysis). W a.found.known) done → EachOf (λ (f : Found). W f.known) fs → EachOf (λ (a : Analysis). W a.found.known) (analyses_from untracked done fs)
  from_with untracked done [] d h = d
  from_with untracked done (f ∷ fs) d h =
      let new = analysis_of untracked (sites_of untracked done f.known.read.name) f in
      from_with untracked (done ++ new ∷ []) fs (every_joined (λ (a : Analysis). W a.found.known) done (new ∷ []) d (h.0, tt)) h.1

  analyses_with : (ks : List Known) (g : Graph) → EachOf W ks → EachOf (λ (a : Analysis). W a.found.known) (analyses ks g)
  analyses_with ks g h =
      let fs = scalars.found_in g.untracked ks scalars.no_callees g.order in
      from_with g.untracked [] (reverse fs) tt (every_turned (λ (f : Found). W f.known) fs (founds_with g.untracked ks h scalars.no_callees g.order))

  -- so it is of each module with its regions
  pub regions_with : (ks : List Known) (g : Graph) → EachOf W ks → EachOf (λ (f : ModuleRegions). W f.analysis.found.known) (all_regions g (analyses ks g))
  regions_with ks g h = regions_of (λ (a : Analysis). W a.found.known) g (analyses ks g) (analyses_with ks g h)

-- ---- the regions of its modules

all_over : (N : Variable → Type 0) (ok : ℕ → Type 0) (rs : List Region) → AreFine N ok rs → AllByRecursion (λ (r : Region). AreFew (IsOver (IsPlaceOf ok)) r.pieces) rs
all_over N ok [] h = tt
all_over N ok (r ∷ rs) h = (few_more (IsNeat (IsPlaceOf ok)) (IsOver (IsPlaceOf ok)) (neat_over (IsPlaceOf ok)) r.pieces h.0.1, all_over N ok rs h.1)

at_each : {T : Type 0} (P Q : T → Type 0) → ((x : T) → P x → Q x) → (xs : List (At T)) → AllAt P xs → EachOf (λ (x : At T). Q x.value) xs
at_each P Q f [] h = tt
at_each P Q f (x ∷ xs) h = (f x.value h.0, at_each P Q f xs h.1)

-- ---- CALLs

module _ (Name : List ℕ → Type 0) where
  -- of a symbol of the module, or of a variable with such a name
  abbrev pub IsNamedHere : Known → Variable → Type 0
  IsNamedHere k v = IsNamedBy Name (symbol_names k.symbols) v

  -- its sets of regions are of such variables, and have such places alone
  pub record SetsFine (untracked : List BlockUnit) (k : Known) (sets : Results (List Region)) : Type 0 where
    pub at : AllAt (AreFine (IsNamedHere k) (IsTracked untracked k)) sets.at
    pub summary : AreFine (IsNamedHere k) (IsTracked untracked k) sets.summary

  -- so are its READ and WRITE regions
  abbrev pub ModuleFine : List BlockUnit → ModuleRegions → Type 0
  ModuleFine untracked f = SetsFine untracked f.analysis.found.known f.regions

  -- what is known of the module of an analysis
  pub record ModuleTold (untracked : List BlockUnit) (a : Analysis) : Type 0 where
    pub ok : AnalysisOk untracked a
    pub told : IsTold a.found.known
    pub named : IsNamed Name a.found.known

  pub map_long : {A B : Type 0} (f : A → B) (xs : List A) → length xs ≡ length (map f xs)
  map_long f [] = refl
  map_long f (x ∷ xs) = ap suc (map_long f xs)

  module_fine : (untracked : List BlockUnit) (cs : Callees) (a : Analysis) → ModuleTold untracked a → CalleesFine Name cs → ModuleFine untracked (with_regions untracked cs a)
  module_fine untracked cs a h callees =
      let k = a.found.known in
      let ok = IsTracked untracked k in
      let m = scope_of untracked k in
      let t = transformer_at a.found.own.at in
      let scope = scope_flags untracked k in
      let seven_each = few_at k.symbols h.told.0 in
      let done = found_done ok a.found.own.at h.ok.found.at in
      let c = calls_of m untracked a.found.own.at cs in
      let called : (x : List ℕ) (es : ExprTrees) → Fine Name ok m scope seven_each (c x es) =
      call_fine Name ok m scope seven_each (map_long (λ (s : SymbolTree). s.name) k.symbols) (changed_cells a.found.own.at) untracked cs callees in
      record {
        at = list_at_fine Name ok m scope seven_each t done c called k.read.body h.told.1;
        summary = summary_fine Name ok m scope seven_each t done c called k.read.body h.told.1;
      }

  -- a summary is of places, whichever cells they are
  any_cell : (ok : ℕ → Type 0) (v : Var) → IsPlaceOf ok v → IsPlaceOf Every v
  any_cell ok (Cell n) h = tt
  any_cell ok (Exit n) h = absurd h
  any_cell ok (Phi n) h = h
  any_cell ok (Aux n) h = absurd h

  pub any_fine : (N : Variable → Type 0) (ok : ℕ → Type 0) (rs : List Region) → AreFine N ok rs → AreFine N Every rs
  any_fine N ok [] h = tt
  any_fine N ok (r ∷ rs) h =
      ((h.0.0, few_more (IsNeat (IsPlaceOf ok)) (IsNeat (IsPlaceOf Every)) (system_more (IsPlaceOf ok) (IsPlaceOf Every) (any_cell ok)) r.pieces h.0.1), any_fine N ok rs h.1)

  pub more_callees : (untracked : List BlockUnit) (k : Known) (sets : Results (List Region)) (cs : Callees) → IsNamed Name k → SetsFine untracked k sets → CalleesFine Name cs
      → CalleesFine Name (λ x. if bytes_eq k.read.name x then Some (record { symbols = k.symbols; value = sets.summary }) else cs x)
  more_callees untracked k sets cs named h callees x = go (bytes_eq name x) refl
    where
      name : List ℕ
      name = k.read.name

      summary : SummaryTree (List Region)
      summary = record { symbols = k.symbols; value = sets.summary }

      go : (b : Bool) → bytes_eq name x ≡ b → MaybeFine Name x (if b then Some summary else cs x)
      go true e = record {
        title = subst Name ((bytes_eq-Decides name x).0 e) named.0;
        table = named.1;
        names = symbol_names k.symbols;
        value = any_fine (IsNamedHere k) (IsTracked untracked k) sets.summary h.summary;
      }
      go false e = callees x

  -- modules in an order in which callees come before callers, each with the summaries of those before it
  found_fine : (untracked : List BlockUnit) (cs : Callees) (as' : List Analysis) → CalleesFine Name cs → EachOf (ModuleTold untracked) as' → EachOf (ModuleFine untracked) (found_in untracked cs as')
  found_fine untracked cs [] callees h = tt
  found_fine untracked cs (a ∷ as') callees h =
      let f = with_regions untracked cs a in
      let first = module_fine untracked cs a h.0 callees in
      (first, found_fine untracked (with_callee f cs) as' (more_callees untracked a.found.known f.regions cs h.0.named first callees) h.1)

  join_told : (untracked : List BlockUnit) (as' : List Analysis) → EachOf (AnalysisOk untracked) as' → EachOf (λ (a : Analysis). IsTold a.found.known) as' → EachOf (λ (a : Analysis). IsNamed Name a.found.known) as'
      → EachOf (ModuleTold untracked) as'
  join_told untracked [] h k n = tt
  join_told untracked (a ∷ as') h k n = (record { ok = h.0; told = k.0; named = n.0 }, join_told untracked as' h.1 k.1 n.1)

  pub each_named : (ks : List Known) → AreNamed Name ks → EachOf (IsNamed Name) ks
  each_named [] h = tt
  each_named (k ∷ ks) h = (h.0, each_named ks h.1)

  pub all_told : (ps : List ParsedTree) (sss : List (List SymbolTree)) (g : Graph) → AreTables ps sss → AreNamed Name (known_of ps sss) → EachOf (ModuleTold g.untracked) (analyses (known_of ps sss) g)
  all_told ps sss g t n =
      let ks = known_of ps sss in
      join_told g.untracked (analyses ks g) (analyses_ok ps sss g t) (analyses_with IsTold ks g (knowns_told ps sss t)) (analyses_with (IsNamed Name) ks g (each_named ks n))

  pub modules_fine : (ps : List ParsedTree) (sss : List (List SymbolTree)) (g : Graph) → AreTables ps sss → AreNamed Name (known_of ps sss) → EachOf (ModuleFine g.untracked) (all_regions g (analyses (known_of ps sss) g))
  modules_fine ps sss g t n =
      let as' = analyses (known_of ps sss) g in
      found_fine g.untracked regions.no_callees (reverse as') (λ x. tt) (every_turned (ModuleTold g.untracked) as' (all_told ps sss g t n))

-- ---- whatever names are

any_table : (ss : List SymbolTree) → AllByRecursion (SymbolNamed Anything) ss
any_table [] = tt
any_table (s ∷ ss) = ((tt, place s.place), any_table ss)
  where
    place : (p : Place) → PlaceNamed Anything p
    place (Local g o) = tt
    place (Dummy n) = tt
    place (Block b o) = tt
    place (Constant v) = tt

pub any_named : (ks : List Known) → AreNamed Anything ks
any_named [] = tt
any_named (k ∷ ks) = ((tt, any_table k.symbols), any_named ks)

pub sets_over : (untracked : List BlockUnit) (k : Known) (sets : Results (List Region)) → SetsFine Anything untracked k sets → SetsAreOver untracked k sets
sets_over untracked k sets h =
    let ok = IsTracked untracked k in
    let each = at_each (AreFine (IsNamedHere Anything k) ok) (AreOverPlaces untracked k) (all_over (IsNamedHere Anything k) ok) sets.at h.at in
    record {
      at = each_all (λ (x : At (List Region)). AreOverPlaces untracked k x.value) (λ (x : At (List Region)). AreOverPlaces untracked k x.value) (λ x i. i) sets.at each;
      summary = all_over (IsNamedHere Anything k) ok sets.summary h.summary;
    }

pub regions_are_over_places : RegionsAreOverPlaces
regions_are_over_places ps sss g t =
    let ks = known_of ps sss in
    each_all (ModuleFine Anything g.untracked) (RegionsAreOver g.untracked) (λ f. sets_over g.untracked f.analysis.found.known f.regions) (all_regions g (analyses ks g)) (modules_fine Anything ps sss g t (any_named ks))
