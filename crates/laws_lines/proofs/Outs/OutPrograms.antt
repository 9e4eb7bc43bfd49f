-- OUT regions of the modules of a program have subscripts and tracked cells alone, and their lines are read as what was found: callers before callees.
use Rattle.std.proofs.Common.{◌≡◌, ℕ, Bool, true, List, [], ◌∷◌, ◌++◌, length, Option, Some, None, refl}
use Rattle.std.specs.Prelude.{reverse, bytes_eq}
use Rattle.std.specs.List.{AllByRecursion}
use Rattle.std.proofs.lemmas.Bool.{and_parts}
use Rattle.affine_systems.proofs.Basics.{if_cases}
use Rattle.f77_ast.specs.Trees.{StmtTree, WhatTree, ArmTree, ArmTrees, ElseTree, LoopTree, StmtTrees}
use Rattle.f77_ast.specs.Trees as tree
use Rattle.f77_ast.specs.DeclTrees.{ParsedTree}
use Rattle.f77_ast.specs.declared.symbol.Place.{Place}
use Rattle.f77_ast.specs.declared.symbol.Place.TheVariants.{Local, Dummy, Block, Constant}
use Rattle.f77_ast.specs.declared.variable.Unit.{Unit as BlockUnit}
use Rattle.f77_ast.specs.Symbols.{SymbolTree}
use Rattle.f77_ast.specs.Shared.{symbol_at}
use Rattle.tracked_cells.specs.Standing.{is_int_scalar}
use Rattle.call_graph.specs.declared.graph.Graph.{Graph}
use Rattle.f77_meaning.specs.Modules.{Known, known_of}
use Rattle.preconditions.specs.call_translation.Scopes.{ScopeTree}
use Rattle.preconditions.specs.call_translation.Sites.{SiteTree}
use Rattle.loop_marker.specs.module_phases.ScalarPhases.{scope_of, analyses}
use Rattle.preconditions.specs.transformers.Lists.{transformer_at}
use Rattle.in_out_regions.specs.region_sets.declared.region.Region.{Region}
use Rattle.in_out_regions.specs.call_equations.Sides.{entry_cells}
use Rattle.in_out_regions.specs.array_regions.Calls.{scope_with}
use Rattle.loop_marker.specs.module_phases.RegionPhases.{ModuleRegions, all_regions}
use Rattle.loop_marker.specs.module_phases.InPhases.{ModuleIns, all_ins}
use Rattle.in_out_regions.specs.region_translation.Callee.{to_callee}
use Rattle.in_out_regions.specs.region_translation.Units.{size_in}
use Rattle.in_out_regions.specs.region_translation.Values.{is_dummy_place, is_scalar_dummy}
use Rattle.loop_marker.specs.out_regions.Known.{KnownTree}
use Rattle.loop_marker.specs.out_regions.Used.{all_out}
use Rattle.loop_marker.specs.module_phases.declared.out_site.OutSite.{OutSite}
use Rattle.loop_marker.specs.module_phases.OutPhases.{ModuleOuts, Caller, call_site, stmt_sites, what_sites, list_sites, arms_sites, arm_sites, else_sites, loop_sites, sides_at, handed_each, handed_by, handed_down, used_at, used_after, with_outs, caller_of, body_of, sites_of, name_of, outs_from, all_outs}
use Rattle.storage_layout.specs.Symbols.{symbols_of}
use Rattle.std.specs.Prelude.{Ok}
use Rattle.laws_programs.specs.roundtrip_programs.Lines.{IsShown}
use Rattle.laws_lines.specs.RegionTexts.Laws.{RegionLinesArePassedOver}
use Rattle.laws_lines.specs.RegionTexts.Printed.{IsPlain}
use Rattle.laws_programs.specs.Programs.{AreTables}
use Rattle.laws_programs.specs.Storage.Programs.{known}
use Rattle.laws_programs.proofs.Storage.CallLaws.{dummies_are_tracked}
use Rattle.laws_programs.proofs.Storage.FlagLaws.{cells_have_flags}
use Rattle.laws_lines.specs.Laws.{IsTracked}
use Rattle.laws_lines.proofs.PhaseVars.{each_all, value_is}
use Rattle.laws_lines.specs.Regions.Names.{SymbolNamed, IsNamed, AreNamed}
use Rattle.laws_lines.proofs.Regions.RegionVars.{IsFine, AreFine}
use Rattle.laws_lines.proofs.Regions.AccessVars.{IsNamedBy, FewBounds}
use Rattle.laws_lines.proofs.Regions.ProgramRegions.{scope_flags, found_done, few_at, regions_of, regions_with, IsNamedHere, SetsFine, ModuleFine, ModuleTold, map_long, any_fine, all_told, modules_fine, any_named, sets_over}
use Rattle.laws_lines.proofs.Regions.LinesMean.{sets_mean, tables_named}
use Rattle.laws_lines.proofs.Regions.LinesPass.{sets_pass}
use Rattle.laws_lines.proofs.Ins.InSets.{set_fine}
use Rattle.laws_lines.proofs.Ins.InPrograms.{InsFine, ins_with, ins_fine}
use Rattle.laws_lines.specs.Outs.Laws.{OutsAreOver, OutsAreOverPlaces, OutLinesMean, OutLinesMeanRegions, OutLinesPass, AllOutLinesPass}
use Rattle.laws_lines.proofs.Outs.CalleeLinks.{HasSeven, in_callee_fine}
use Rattle.laws_lines.proofs.Outs.OutSets.{out_fine}
use Rattle.laws_lines.proofs.Outs.OutStatements.{outs_at_fine, outs_summary_fine}
use Rattle.fx_lists.proofs.Lists.{each_append as both_all}
use Rattle.laws_lines.proofs.ProgramLines.{HasNames}
use Rattle.in_out_regions.specs.region_sets.Lists.{set_at}
use Rattle.fx_lists.proofs.Every.{Anything, Anything as Every, Every as EachOf, every_joined, every_turned}

-- ---- scalar dummies are tracked

abbrev HasDummies : List BlockUnit → Known → Type 0
HasDummies untracked k = (n : ℕ) → is_scalar_dummy (symbol_at k.symbols n) ≡ true → IsTracked untracked k n

dummy_tracked : (g : Graph) (p : ParsedTree) (ss : List SymbolTree) → symbols_of p ≡ Ok ss → HasDummies g.untracked (known p ss)
dummy_tracked g p ss t n h = go (symbol_at ss n) refl h
  where
    at : (s : SymbolTree) → symbol_at ss n ≡ Some s → is_int_scalar s ≡ true → (q : Place) → s.place ≡ q → is_dummy_place q ≡ true → IsTracked g.untracked (known p ss) n
    at s e i (Local b o) f k = cc
    at s e i (Dummy d) f k = cells_have_flags g p ss (scope_of g.untracked (known p ss)) (record { symbols = refl; tracked = refl }) n s (dummies_are_tracked g p ss t n d s e f i)
    at s e i (Block b o) f k = cc
    at s e i (Constant v) f k = cc

    go : (o : Option SymbolTree) → symbol_at ss n ≡ o → is_scalar_dummy o ≡ true → IsTracked g.untracked (known p ss) n
    go None e k = cc
    go (Some s) e k = let parts = and_parts (is_int_scalar s) (is_dummy_place s.place) k in at s e parts.0 s.place refl parts.1

all_dummies : (g : Graph) (ps : List ParsedTree) (sss : List (List SymbolTree)) → AreTables ps sss → EachOf (HasDummies g.untracked) (known_of ps sss)
all_dummies g [] sss t = tt
all_dummies g (p ∷ ps) [] t = tt
all_dummies g (p ∷ ps) (ss ∷ sss) t = (dummy_tracked g p ss t.0, all_dummies g ps sss t.1)

module _ (Name : List ℕ → Type 0) where
  -- ---- CALLs

  -- the scope of a caller
  record ScopeTold (m : ScopeTree) : Type 0 where
    few : FewBounds m.symbols
    long : length m.symbols ≡ length m.names
    table : AllByRecursion (SymbolNamed Name) m.symbols

  -- a CALL with OUT, whichever cells that speaks of
  record SiteFine (s : SiteTree OutSite) : Type 0 where
    scope : ScopeTold s.caller
    out : AreFine (IsNamedBy Name s.caller.names) Every s.value.out

  abbrev SitesFine : List (SiteTree OutSite) → Type 0
  SitesFine cs = AllByRecursion SiteFine cs

  module _ (c : Caller) (x : List ℕ) (scope : ScopeTold c.scope) (outs : (n : ℕ) → AreFine (IsNamedBy Name c.scope.names) Every (c.outs n)) where
    mutual
      stmt_fine : (s : StmtTree) → SitesFine (stmt_sites s c x)
      stmt_fine (tree.stmt n label w) = what_fine w n

      what_fine : (w : WhatTree) (n : ℕ) → SitesFine (what_sites w n c x)
      what_fine (tree.assign e f) n = tt
      what_fine (tree.block_if arms other) n = both_all SiteFine (arms_sites arms c x) (else_sites other c x) (arms_fine arms) (else_fine other)
      what_fine (tree.logical_if e s) n = stmt_fine s
      what_fine (tree.do_loop l) n = loop_fine l
      what_fine (tree.call y es) n = if_cases SitesFine (bytes_eq y x) (call_site c es n ∷ []) [] (λ e. (record { scope = scope; out = outs n }, tt)) (λ e. tt)
      what_fine (tree.goto l) n = tt
      what_fine tree.continue n = tt
      what_fine tree.return n = tt
      what_fine (tree.stop text) n = tt
      what_fine (tree.print es) n = tt
      what_fine (tree.read es) n = tt

      list_fine : (ss : StmtTrees) → SitesFine (list_sites ss c x)
      list_fine tree.no_stmts = tt
      list_fine (tree.more_stmts s rest) = both_all SiteFine (stmt_sites s c x) (list_sites rest c x) (stmt_fine s) (list_fine rest)

      arms_fine : (xs : ArmTrees) → SitesFine (arms_sites xs c x)
      arms_fine tree.no_arms = tt
      arms_fine (tree.more_arms a rest) = both_all SiteFine (arm_sites a c x) (arms_sites rest c x) (arm_fine a) (arms_fine rest)

      arm_fine : (a : ArmTree) → SitesFine (arm_sites a c x)
      arm_fine (tree.arm e body) = list_fine body

      else_fine : (o : ElseTree) → SitesFine (else_sites o c x)
      else_fine tree.no_else = tt
      else_fine (tree.otherwise body) = list_fine body

      loop_fine : (l : LoopTree) → SitesFine (loop_sites l c x)
      loop_fine (tree.loop index first last step body) = list_fine body

  -- ---- what they hand down

  -- to a module of this table, whose scalar dummies are such cells
  module _ (x : List ℕ) (ss : List SymbolTree) (flags : List Bool) (title : Name x) (table : AllByRecursion (SymbolNamed Name) ss) (seven : EachOf HasSeven ss) (ok : ℕ → Type 0)
      (dummies : (n : ℕ) → is_scalar_dummy (symbol_at ss n) ≡ true → ok n) where
    abbrev callee : ScopeTree
    callee = scope_with ss flags

    abbrev F : List Region → Type 0
    F rs = AreFine (IsNamedBy Name callee.names) ok rs

    each_handed : (size : List ℕ → ℕ) (s : SiteTree OutSite) → ScopeTold s.caller → (rs : List Region) → AreFine (IsNamedBy Name s.caller.names) Every rs → F (handed_each size (sides_at callee x s) rs)
    each_handed size s h [] k = tt
    each_handed size s h (r ∷ rs) k =
        let c = sides_at callee x s in
        let own = to_callee size c r in
        both_all (IsFine (IsNamedBy Name callee.names) ok) (all_out own) (handed_each size c rs)
        (out_fine (IsNamedBy Name callee.names) ok own
        (in_callee_fine Name c h.few h.long h.table title table seven (few_at ss seven) (map_long Name (λ (t : SymbolTree). t.name) ss) ok dummies size r k.0))
        (each_handed size s h rs k.1)

    all_handed : (size : List ℕ → ℕ) (cs : List (SiteTree OutSite)) → SitesFine cs → F (handed_down size callee x cs)
    all_handed size [] h = tt
    all_handed size (s ∷ cs) h = both_all (IsFine (IsNamedBy Name callee.names) ok) (handed_by size callee x s) (handed_down size callee x cs) (each_handed size s h.0.scope s.value.out h.0.out) (all_handed size cs h.1)

  -- ---- modules

  -- what is known of a module where its OUT regions are made
  record InsTold (untracked : List BlockUnit) (f : ModuleIns) : Type 0 where
    told : ModuleTold Name untracked f.known.analysis
    fine : ModuleFine Name untracked f.known
    ins : InsFine Name untracked f
    dummies : HasDummies untracked f.known.analysis.found.known

  abbrev pub OutsFine : List BlockUnit → ModuleOuts → Type 0
  OutsFine untracked f = SetsFine Name untracked f.known.known.analysis.found.known f.outs

  record OutsTold (untracked : List BlockUnit) (f : ModuleOuts) : Type 0 where
    told : InsTold untracked f.known
    outs : OutsFine untracked f

  used_fine : (g : Graph) (f : ModuleIns) (cs : List (SiteTree OutSite)) → InsTold g.untracked f → SitesFine cs
      → (let k = f.known.analysis.found.known in AreFine (IsNamedHere Name k) (IsTracked g.untracked k) (used_after g k cs))
  used_fine g f cs h sites =
      let k = f.known.analysis.found.known in
      if_cases (AreFine (IsNamedHere Name k) (IsTracked g.untracked k)) k.read.main [] (used_at g k.read.name k.symbols cs) (λ e. tt)
      (λ e. all_handed k.read.name k.symbols (entry_cells g.untracked k.symbols) h.told.named.0 h.told.named.1 h.told.told.0 (IsTracked g.untracked k) h.dummies (size_in g.blocks) cs sites)

  module_fine : (g : Graph) (f : ModuleIns) (cs : List (SiteTree OutSite)) → InsTold g.untracked f → SitesFine cs → OutsTold g.untracked (with_outs g cs f)
  module_fine g f cs h sites =
      let a = f.known.analysis in
      let k = a.found.known in
      let ok = IsTracked g.untracked k in
      let scope = scope_flags g.untracked k in
      let few = few_at k.symbols h.told.told.0 in
      let known : KnownTree = record { scope = scope_of g.untracked k; does = transformer_at a.found.own.at; accesses = f.known.regions.at; ins = f.ins.at } in
      let done = found_done ok a.found.own.at h.told.ok.found.at in
      let us = used_after g k cs in
      let used = used_fine g f cs h sites in
      record {
        told = h;
        outs = record {
          at = outs_at_fine Name ok known scope few done h.fine.at h.ins.at k.read.body us used;
          summary = outs_summary_fine Name ok known scope few done h.fine.at h.ins.at k.read.body us used;
        };
      }

  -- the CALLs of modules that were looked at
  sites_fine : (untracked : List BlockUnit) (fs : List ModuleOuts) (x : List ℕ) → EachOf (OutsTold untracked) fs → SitesFine (sites_of untracked fs x)
  sites_fine untracked [] x h = tt
  sites_fine untracked (f ∷ fs) x h =
      let k = f.known.known.analysis.found.known in
      let N = IsNamedHere Name k in
      let ok = IsTracked untracked k in
      let told = h.0.told.told in
      let own : (n : ℕ) → AreFine N Every (set_at f.outs.at n) =
      λ n. any_fine Name N ok (set_at f.outs.at n) (set_fine N ok f.outs.at (λ i rs e. value_is (AreFine N ok) f.outs.at i rs h.0.outs.at e) n) in
      both_all SiteFine (list_sites (body_of f) (caller_of untracked f) x) (sites_of untracked fs x)
      (list_fine (caller_of untracked f) x (record { few = few_at k.symbols told.told.0; long = map_long Name (λ (s : SymbolTree). s.name) k.symbols; table = told.named.1 }) own (body_of f))
      (sites_fine untracked fs x h.1)

  -- modules in an order in which callers come before callees, each with the CALLs of those before it
  from_fine : (g : Graph) (done : List ModuleOuts) (fs : List ModuleIns) → EachOf (OutsTold g.untracked) done → EachOf (InsTold g.untracked) fs → EachOf (OutsTold g.untracked) (outs_from g done fs)
  from_fine g done [] d h = d
  from_fine g done (f ∷ fs) d h =
      let cs = sites_of g.untracked done (name_of f) in
      let new = with_outs g cs f in
      from_fine g (done ++ new ∷ []) fs (every_joined (OutsTold g.untracked) done (new ∷ []) d (module_fine g f cs h.0 (sites_fine g.untracked done (name_of f) d), tt)) h.1

  all_ins_told : (untracked : List BlockUnit) (fs : List ModuleIns) → EachOf (λ (f : ModuleIns). ModuleTold Name untracked f.known.analysis) fs → EachOf (λ (f : ModuleIns). ModuleFine Name untracked f.known) fs → EachOf (InsFine Name untracked) fs
      → EachOf (λ (f : ModuleIns). HasDummies untracked f.known.analysis.found.known) fs → EachOf (InsTold untracked) fs
  all_ins_told untracked [] t r i d = tt
  all_ins_told untracked (f ∷ fs) t r i d = (record { told = t.0; fine = r.0; ins = i.0; dummies = d.0 }, all_ins_told untracked fs t.1 r.1 i.1 d.1)

  abbrev found_ins : List ParsedTree → List (List SymbolTree) → Graph → List ModuleIns
  found_ins ps sss g = all_ins g (all_regions g (analyses (known_of ps sss) g))

  ins_told : (ps : List ParsedTree) (sss : List (List SymbolTree)) (g : Graph) → AreTables ps sss → AreNamed Name (known_of ps sss) → EachOf (InsTold g.untracked) (found_ins ps sss g)
  ins_told ps sss g t n =
      let ks = known_of ps sss in
      let as' = analyses ks g in
      let fs = all_regions g as' in
      all_ins_told g.untracked (all_ins g fs) (ins_with (λ (f : ModuleRegions). ModuleTold Name g.untracked f.analysis) g fs (regions_of (ModuleTold Name g.untracked) g as' (all_told Name ps sss g t n)))
      (ins_with (ModuleFine Name g.untracked) g fs (modules_fine Name ps sss g t n)) (ins_fine Name ps sss g t n)
      (ins_with (λ (f : ModuleRegions). HasDummies g.untracked f.analysis.found.known) g fs (regions_with (HasDummies g.untracked) ks g (all_dummies g ps sss t)))

  outs_told : (ps : List ParsedTree) (sss : List (List SymbolTree)) (g : Graph) → AreTables ps sss → AreNamed Name (known_of ps sss) → EachOf (OutsTold g.untracked) (all_outs g (found_ins ps sss g))
  outs_told ps sss g t n = let fs = found_ins ps sss g in from_fine g [] (reverse fs) tt (every_turned (InsTold g.untracked) fs (ins_told ps sss g t n))

  told_fine : (untracked : List BlockUnit) (fs : List ModuleOuts) → EachOf (OutsTold untracked) fs → EachOf (OutsFine untracked) fs
  told_fine untracked [] h = tt
  told_fine untracked (f ∷ fs) h = (h.0.outs, told_fine untracked fs h.1)

  told_named : (untracked : List BlockUnit) (fs : List ModuleOuts) → EachOf (OutsTold untracked) fs → EachOf (λ (f : ModuleOuts). IsNamed Name f.known.known.analysis.found.known) fs
  told_named untracked [] h = tt
  told_named untracked (f ∷ fs) h = (h.0.told.told.named, told_named untracked fs h.1)

-- what holds of each module with its IN regions holds of each with its OUT regions
module _ (W : ModuleIns → Type 0) where
  outs_from_with : (g : Graph) (done : List ModuleOuts) (fs : List ModuleIns) → EachOf (λ (f : ModuleOuts). W f.known) done → EachOf W fs → EachOf (λ (f : ModuleOuts). W f.known) (outs_from g done fs)
  outs_from_with g done [] d h = d
  outs_from_with g done (f ∷ fs) d h =
      let new = with_outs g (sites_of g.untracked done (name_of f)) f in
      outs_from_with g (done ++ new ∷ []) fs (every_joined (λ (x : ModuleOuts). W x.known) done (new ∷ []) d (h.0, tt)) h.1

  pub outs_with : (g : Graph) (fs : List ModuleIns) → EachOf W fs → EachOf (λ (f : ModuleOuts). W f.known) (all_outs g fs)
  outs_with g fs h = outs_from_with g [] (reverse fs) tt (every_turned W fs h)

-- ---- the laws

pub outs_are_over_places : OutsAreOverPlaces
outs_are_over_places ps sss g t =
    let ks = known_of ps sss in
    let ns = all_outs g (all_ins g (all_regions g (analyses ks g))) in
    each_all (OutsFine Anything g.untracked) (OutsAreOver g.untracked) (λ f. sets_over g.untracked f.known.known.analysis.found.known f.outs) ns (told_fine Anything g.untracked ns (outs_told Anything ps sss g t (any_named ks)))

each_mean : (untracked : List BlockUnit) (fs : List ModuleOuts) → EachOf (OutsFine IsPlain untracked) fs → EachOf (λ (f : ModuleOuts). HasNames f.known.known.analysis.found.known) fs → EachOf OutLinesMean fs
each_mean untracked [] h k = tt
each_mean untracked (f ∷ fs) h k = (sets_mean untracked f.known.known.analysis.found.known f.outs h.0 k.0, each_mean untracked fs h.1 k.1)

pub out_lines_mean_regions : OutLinesMeanRegions
out_lines_mean_regions ps sss g t w n =
    let ks = known_of ps sss in
    let fs = all_regions g (analyses ks g) in
    let is = all_ins g fs in
    let ns = all_outs g is in
    each_all OutLinesMean OutLinesMean (λ f h. h) ns
    (each_mean g.untracked ns (told_fine IsPlain g.untracked ns (outs_told IsPlain ps sss g t n))
    (outs_with (λ (f : ModuleIns). HasNames f.known.analysis.found.known) g is (ins_with (λ (f : ModuleRegions). HasNames f.analysis.found.known) g fs (regions_with HasNames ks g (tables_named ps sss t w)))))

each_passes : RegionLinesArePassedOver → (untracked : List BlockUnit) (fs : List ModuleOuts) → EachOf (λ (f : ModuleOuts). IsNamed IsShown f.known.known.analysis.found.known) fs → EachOf (OutsFine IsShown untracked) fs → EachOf OutLinesPass fs
each_passes law untracked [] n h = tt
each_passes law untracked (f ∷ fs) n h = (sets_pass law untracked f.known.known.analysis.found.known f.outs n.0 h.0, each_passes law untracked fs n.1 h.1)

pub out_lines_pass : RegionLinesArePassedOver → AllOutLinesPass
out_lines_pass law ps sss g t n =
    let ns = all_outs g (all_ins g (all_regions g (analyses (known_of ps sss) g))) in
    let told = outs_told IsShown ps sss g t n in
    each_all OutLinesPass OutLinesPass (λ f h. h) ns (each_passes law g.untracked ns (told_named IsShown g.untracked ns told) (told_fine IsShown g.untracked ns told))
