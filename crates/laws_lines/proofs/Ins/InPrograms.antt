-- IN regions of the modules of a program have subscripts and tracked cells alone, and their lines are read as what was found: callees before callers.
use Rattle.std.proofs.Common.{ℕ, List, [], ◌∷◌}
use Rattle.f77_ast.specs.Trees.{ExprTrees}
use Rattle.f77_ast.specs.DeclTrees.{ParsedTree}
use Rattle.f77_ast.specs.declared.variable.Unit.{Unit as BlockUnit}
use Rattle.f77_ast.specs.Symbols.{SymbolTree}
use Rattle.call_graph.specs.declared.graph.Graph.{Graph}
use Rattle.f77_meaning.specs.Modules.{known_of}
use Rattle.loop_marker.specs.module_phases.ScalarPhases.{scope_of, analyses}
use Rattle.in_out_regions.specs.call_equations.Sides.{changed_cells}
use Rattle.in_out_regions.specs.array_regions.Calls.{Callees}
use Rattle.loop_marker.specs.module_phases.RegionPhases.{ModuleRegions, no_callees, all_regions}
use Rattle.in_out_regions.specs.Known.{KnownTree}
use Rattle.in_out_regions.specs.Modules.{known_of as known_in}
use Rattle.loop_marker.specs.module_phases.InPhases.{ModuleIns, with_callee, with_ins, found_in, all_ins}
use Rattle.laws_programs.specs.roundtrip_programs.Lines.{IsShown}
use Rattle.laws_lines.specs.RegionTexts.Laws.{RegionLinesArePassedOver}
use Rattle.laws_lines.specs.RegionTexts.Printed.{IsPlain}
use Rattle.laws_programs.specs.Programs.{AreTables}
use Rattle.laws_lines.specs.Laws.{IsTracked}
use Rattle.laws_lines.proofs.PhaseVars.{each_all}
use Rattle.laws_lines.specs.Regions.Names.{IsNamed, AreNamed}
use Rattle.laws_lines.proofs.Regions.AccessVars.{Fine}
use Rattle.laws_lines.proofs.Regions.CallRegions.{CalleesFine}
use Rattle.laws_lines.proofs.Regions.ProgramRegions.{scope_flags, found_done, few_at, regions_of, regions_with, SetsFine, ModuleFine, ModuleTold, map_long, more_callees, each_named, all_told, modules_fine, any_named, sets_over}
use Rattle.laws_lines.proofs.Regions.LinesMean.{sets_mean, tables_named}
use Rattle.laws_lines.proofs.Regions.LinesPass.{sets_pass}
use Rattle.laws_lines.specs.Ins.Laws.{InsAreOver, InsAreOverPlaces, InLinesMean, InLinesMeanRegions, InLinesPass, AllInLinesPass}
use Rattle.laws_lines.proofs.Ins.InStatements.{call_in_fine, ins_at_fine, ins_summary_fine}
use Rattle.laws_lines.proofs.ProgramLines.{HasNames}
use Rattle.fx_lists.proofs.Every.{Anything, Every}

-- what holds of each module with its regions holds of each with its IN regions
module _ (W : ModuleRegions → Type 0) where
  ins_from : (untracked : List BlockUnit) (cs : Callees) (fs : List ModuleRegions) → Every W fs → Every (λ (f : ModuleIns). W f.known) (found_in untracked cs fs)
  ins_from untracked cs [] h = tt
  ins_from untracked cs (f ∷ fs) h = (h.0, ins_from untracked (with_callee (with_ins untracked cs f) cs) fs h.1)

  pub ins_with : (g : Graph) (fs : List ModuleRegions) → Every W fs → Every (λ (f : ModuleIns). W f.known) (all_ins g fs)
  ins_with g fs h = ins_from g.untracked no_callees fs h

module _ (Name : List ℕ → Type 0) where
  -- what is known of a module where its IN regions are made
  record RegionsTold (untracked : List BlockUnit) (f : ModuleRegions) : Type 0 where
    told : ModuleTold Name untracked f.analysis
    fine : ModuleFine Name untracked f

  abbrev pub InsFine : List BlockUnit → ModuleIns → Type 0
  InsFine untracked f = SetsFine Name untracked f.known.analysis.found.known f.ins

  module_fine : (untracked : List BlockUnit) (cs : Callees) (f : ModuleRegions) → RegionsTold untracked f → CalleesFine Name cs → InsFine untracked (with_ins untracked cs f)
  module_fine untracked cs f h callees =
      let a = f.analysis in
      let k = a.found.known in
      let ok = IsTracked untracked k in
      let m = scope_of untracked k in
      let scope = scope_flags untracked k in
      let seven_each = few_at k.symbols h.told.told.0 in
      let known : KnownTree = known_in m untracked a.found.own.at f.regions.at cs in
      let done = found_done ok a.found.own.at h.told.ok.found.at in
      let called : (x : List ℕ) (es : ExprTrees) → Fine Name ok m scope seven_each (known.called x es) =
      call_in_fine Name ok m scope seven_each (map_long Name (λ (s : SymbolTree). s.name) k.symbols) (changed_cells a.found.own.at) untracked cs callees in
      record {
        at = ins_at_fine Name ok known scope seven_each done h.fine.at called k.read.body;
        summary = ins_summary_fine Name ok known scope seven_each done h.fine.at called k.read.body;
      }

  -- modules in an order in which callees come before callers, each with the summaries of those before it
  found_fine : (untracked : List BlockUnit) (cs : Callees) (fs : List ModuleRegions) → CalleesFine Name cs → Every (RegionsTold untracked) fs → Every (InsFine untracked) (found_in untracked cs fs)
  found_fine untracked cs [] callees h = tt
  found_fine untracked cs (f ∷ fs) callees h =
      let n = with_ins untracked cs f in
      let first = module_fine untracked cs f h.0 callees in
      (first, found_fine untracked (with_callee n cs) fs (more_callees Name untracked f.analysis.found.known n.ins cs h.0.told.named first callees) h.1)

  both_told : (untracked : List BlockUnit) (fs : List ModuleRegions) → Every (λ (f : ModuleRegions). ModuleTold Name untracked f.analysis) fs → Every (ModuleFine Name untracked) fs → Every (RegionsTold untracked) fs
  both_told untracked [] h k = tt
  both_told untracked (f ∷ fs) h k = (record { told = h.0; fine = k.0 }, both_told untracked fs h.1 k.1)

  pub ins_fine : (ps : List ParsedTree) (sss : List (List SymbolTree)) (g : Graph) → AreTables ps sss → AreNamed Name (known_of ps sss) → Every (InsFine g.untracked) (all_ins g (all_regions g (analyses (known_of ps sss) g)))
  ins_fine ps sss g t n =
      let as' = analyses (known_of ps sss) g in
      let fs = all_regions g as' in
      found_fine g.untracked no_callees fs (λ x. tt) (both_told g.untracked fs (regions_of (ModuleTold Name g.untracked) g as' (all_told Name ps sss g t n)) (modules_fine Name ps sss g t n))

-- ---- the laws

pub ins_are_over_places : InsAreOverPlaces
ins_are_over_places ps sss g t =
    let ks = known_of ps sss in
    each_all (InsFine Anything g.untracked) (InsAreOver g.untracked) (λ f. sets_over g.untracked f.known.analysis.found.known f.ins) (all_ins g (all_regions g (analyses ks g))) (ins_fine Anything ps sss g t (any_named ks))

each_mean : (untracked : List BlockUnit) (fs : List ModuleIns) → Every (InsFine IsPlain untracked) fs → Every (λ (f : ModuleIns). HasNames f.known.analysis.found.known) fs → Every InLinesMean fs
each_mean untracked [] h k = tt
each_mean untracked (f ∷ fs) h k = (sets_mean untracked f.known.analysis.found.known f.ins h.0 k.0, each_mean untracked fs h.1 k.1)

pub in_lines_mean_regions : InLinesMeanRegions
in_lines_mean_regions ps sss g t w n =
    let ks = known_of ps sss in
    let fs = all_regions g (analyses ks g) in
    let ns = all_ins g fs in
    each_all InLinesMean InLinesMean (λ f h. h) ns (each_mean g.untracked ns (ins_fine IsPlain ps sss g t n) (ins_with (λ (f : ModuleRegions). HasNames f.analysis.found.known) g fs (regions_with HasNames ks g (tables_named ps sss t w))))

each_passes : RegionLinesArePassedOver → (untracked : List BlockUnit) (fs : List ModuleIns) → Every (λ (f : ModuleIns). IsNamed IsShown f.known.analysis.found.known) fs → Every (InsFine IsShown untracked) fs → Every InLinesPass fs
each_passes law untracked [] n h = tt
each_passes law untracked (f ∷ fs) n h = (sets_pass law untracked f.known.analysis.found.known f.ins n.0 h.0, each_passes law untracked fs n.1 h.1)

pub in_lines_pass : RegionLinesArePassedOver → AllInLinesPass
in_lines_pass law ps sss g t n =
    let ks = known_of ps sss in
    let fs = all_regions g (analyses ks g) in
    let ns = all_ins g fs in
    each_all InLinesPass InLinesPass (λ f h. h) ns
    (each_passes law g.untracked ns (ins_with (λ (f : ModuleRegions). IsNamed IsShown f.analysis.found.known) g fs (regions_with (IsNamed IsShown) ks g (each_named IsShown ks n))) (ins_fine IsShown ps sss g t n))
