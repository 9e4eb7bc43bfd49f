-- The results of a module of a program that links: what holds of them by the passes that made them, and that they fit the module.
use Rattle.std.proofs.Common.{◌≡◌, ℕ, true, List, refl, sym, ap, ◌∙◌, subst}
use Rattle.f77_ast.specs.DeclTrees.{ParsedTree}
use Rattle.f77_ast.specs.StatementNumbers.{list_numbers}
use Rattle.f77_ast.specs.declared.variable.Unit.{Unit as BlockUnit}
use Rattle.f77_ast.specs.Symbols.{SymbolTree}
use Rattle.f77_ast.specs.declared.results.At.{At}
use Rattle.call_graph.specs.declared.graph.Graph.{Graph}
use Rattle.f77_meaning.specs.Modules.{Known, known_of, symbol_names}
use Rattle.loop_marker.specs.module_phases.ScalarPhases.{Analysis, scope_of, analyses}
use Rattle.session_texts.specs.pipsmake_rules.declared.kind.Kind.TheVariants.{Regions, InRegions, OutRegions}
use Rattle.session_texts.specs.pipsmake_rules.Kinds.{same_kind}
use Rattle.in_out_regions.specs.region_sets.declared.region.Access.{Access}
use Rattle.in_out_regions.specs.region_sets.declared.region.Access.TheVariants as access
use Rattle.loop_marker.specs.module_phases.RegionPhases.{ModuleRegions, all_regions}
use Rattle.loop_marker.specs.module_phases.InPhases.{ModuleIns, all_ins}
use Rattle.loop_marker.specs.module_phases.OutPhases.{ModuleOuts, used_after, all_outs}
use Rattle.loop_marker.specs.Results.{ModuleResults}
use Rattle.loop_marker.specs.Phases.{phases_of, analysis_in, known_in, all_marks}
use Rattle.loop_marker.specs.Phases as marks
use Rattle.laws_programs.specs.Programs.{AreTables}
use Rattle.laws_lines.specs.Laws.{AnalysisIsOver}
use Rattle.laws_lines.proofs.PhaseVars.{analyses_are_over_cells}
use Rattle.laws_lines.specs.Regions.Laws.{SetsAreOver, RegionsAreOver}
use Rattle.laws_lines.proofs.Regions.ProgramRegions.{any_named, ModuleFine, modules_fine, regions_of, regions_are_over_places}
use Rattle.laws_lines.proofs.Ins.InPrograms.{InsFine, ins_fine, ins_with, ins_are_over_places}
use Rattle.laws_lines.proofs.Outs.OutPrograms.{outs_with, outs_are_over_places}
use Rattle.session_texts.specs.pipsmake_meaning.ResultEntries.{results_of_modules, name_in}
use Rattle.laws_database.specs.ResultCallees.{region_summaries, in_summaries}
use Rattle.laws_database.specs.ResultCallers.{callers, later_sites}
use Rattle.laws_database.specs.ResultEquations.{FollowsFrom}
use Rattle.base_values.specs.declared.stored.StoredValue.TheVariants as stored
use Rattle.base_values.specs.Modules.{ModuleNames, module_names}
use Rattle.base_values.specs.Naming.{AreNames}
use Rattle.base_values.specs.Words.{result_with}
use Rattle.base_values.specs.Fits.{StoredFits}
use Rattle.laws_stored.proofs.Symbols.{ModuleNamed}
use Rattle.laws_stored.proofs.Access.{IsAccess}
use Rattle.laws_stored.proofs.Ins.{IsIn}
use Rattle.laws_stored.proofs.Outs.{IsOut}
use Rattle.laws_stored.proofs.Order.{SetsOrdered, regions_ordered, ins_ordered, outs_ordered}
use Rattle.laws_stored.proofs.Marks.{marks_fit, marks_numbers}
use Rattle.laws_stored.proofs.Phases.{of_all, of_both, of_more, FoundGood, analyses_good, RegionsGood, all_regions_good, InsGood, all_ins_good, FittingSets, OutsGood, all_outs_good, EffectsGood, all_effects_good, marks_with, MarksAre, all_marks_are}
use Rattle.laws_stored.proofs.Fitting.{of_each, ids_are, named_sets, each_transformer, one_transformer, each_system, one_system, sets_fit}
use Rattle.fx_lists.proofs.Every.{Anything, Every}

-- ---- what holds of the results of a module

-- by the passes up to IN
record InsTold (untracked : List BlockUnit) (f : ModuleIns) : Type 0 where
  good : InsGood f
  over : AnalysisIsOver untracked f.known.analysis
  fitting : FittingSets f.known
  places : RegionsAreOver untracked f.known
  in_places : SetsAreOver untracked f.known.analysis.found.known f.ins
  in_fine : InsFine Anything untracked f

-- by all of them
pub record EntryTold (untracked : List BlockUnit) (f : ModuleResults) : Type 0 where
  ins : InsTold untracked (phases_of f).known
  outs : OutsGood (phases_of f)
  out_places : SetsAreOver untracked f.known f.outs
  effects : EffectsGood f
  marks : MarksAre untracked f

module _ (ps : List ParsedTree) (sss : List (List SymbolTree)) (g : Graph) (tables : AreTables ps sss) (named : Every ModuleNamed (known_of ps sss)) where
  abbrev ks : List Known
  ks = known_of ps sss

  abbrev as' : List Analysis
  as' = analyses ks g

  abbrev fs : List ModuleRegions
  fs = all_regions g as'

  abbrev is : List ModuleIns
  is = all_ins g fs

  abbrev os : List ModuleOuts
  os = all_outs g is

  abbrev Over : ModuleRegions → Type 0
  Over f = AnalysisIsOver g.untracked f.analysis

  abbrev Told : ModuleRegions → Type 0
  Told f = ModuleFine Anything g.untracked f × (RegionsAreOver g.untracked f × Over f)

  regions_good : Every RegionsGood fs
  regions_good = all_regions_good g as' (analyses_good ks g named)

  regions_told : Every Told fs
  regions_told =
      of_both (ModuleFine Anything g.untracked) (λ f. RegionsAreOver g.untracked f × Over f) fs (modules_fine Anything ps sss g tables (any_named ks))
      (of_both (RegionsAreOver g.untracked) Over fs (of_all (RegionsAreOver g.untracked) fs (regions_are_over_places ps sss g tables))
      (regions_of (AnalysisIsOver g.untracked) g as' (of_all (AnalysisIsOver g.untracked) as' (analyses_are_over_cells ps sss g tables))))

  abbrev InOver : ModuleIns → Type 0
  InOver f = SetsAreOver g.untracked f.known.analysis.found.known f.ins

  abbrev InParts : ModuleIns → Type 0
  InParts f = InsGood f × (Told f.known × (InOver f × InsFine Anything g.untracked f))

  in_parts : Every InParts is
  in_parts =
      of_both InsGood (λ f. Told f.known × (InOver f × InsFine Anything g.untracked f)) is (all_ins_good g fs regions_good)
      (of_both (λ (f : ModuleIns). Told f.known) (λ f. InOver f × InsFine Anything g.untracked f) is (ins_with Told g fs regions_told)
      (of_both InOver (InsFine Anything g.untracked) is (of_all InOver is (ins_are_over_places ps sss g tables)) (ins_fine Anything ps sss g tables (any_named ks))))

  in_told : (f : ModuleIns) → InParts f → InsTold g.untracked f
  in_told f h = record {
    good = h.0;
    over = h.1.0.1.1;
    fitting = named_sets IsAccess g.untracked f.known.analysis.found.known f.known.regions h.0.known.sets h.1.0.0;
    places = h.1.0.1.0;
    in_places = h.1.1.0;
    in_fine = h.1.1.1;
  }

  ins_told : Every (InsTold g.untracked) is
  ins_told = of_more InParts (InsTold g.untracked) in_told is in_parts

  abbrev OutOver : ModuleOuts → Type 0
  OutOver f = SetsAreOver g.untracked (known_in f) f.outs

  abbrev OutParts : ModuleOuts → Type 0
  OutParts f = InsTold g.untracked f.known × (OutsGood f × OutOver f)

  out_parts : Every OutParts os
  out_parts =
      of_both (λ (f : ModuleOuts). InsTold g.untracked f.known) (λ f. OutsGood f × OutOver f) os (outs_with (InsTold g.untracked) g is ins_told)
      (of_both OutsGood OutOver os (all_outs_good g is (of_more (InsTold g.untracked) (λ (f : ModuleIns). InsGood f × FittingSets f.known) (λ f h. (h.good, h.fitting)) is ins_told))
      (of_all OutOver os (outs_are_over_places ps sss g tables)))

  abbrev EntryParts : ModuleResults → Type 0
  EntryParts f = OutParts (phases_of f) × (EffectsGood f × MarksAre g.untracked f)

  entry_told : (f : ModuleResults) → EntryParts f → EntryTold g.untracked f
  entry_told f h = record { ins = h.0.0; outs = h.0.1.0; out_places = h.0.1.1; effects = h.1.0; marks = h.1.1 }

  pub entries_told : Every (EntryTold g.untracked) (results_of_modules ks g)
  entries_told =
      let es = all_marks g os in
      of_more EntryParts (EntryTold g.untracked) entry_told es
      (of_both (λ (f : ModuleResults). OutParts (phases_of f)) (λ f. EffectsGood f × MarksAre g.untracked f) es (marks_with OutParts g os out_parts)
      (of_both EffectsGood (MarksAre g.untracked) es
      (all_effects_good g os (of_more OutParts (λ (f : ModuleOuts). ModuleNamed (known_in f)) (λ f h. h.0.good.known.analysis.found.named) os out_parts)) (all_marks_are g os)))

-- ---- they fit the module

access_right : (a : Access) → IsAccess a → same_kind (result_with a) Regions ≡ true
access_right access.Read h = refl
access_right access.Write h = refl
access_right access.In h = cc
access_right access.Out h = cc

in_right : (a : Access) → IsIn a → same_kind (result_with a) InRegions ≡ true
in_right a h = ap (λ k. same_kind (result_with k) InRegions) h

out_right : (a : Access) → IsOut a → same_kind (result_with a) OutRegions ≡ true
out_right a h = ap (λ k. same_kind (result_with k) OutRegions) h

-- what the results of a module may name
abbrev pub names_of : Known → ModuleNames
names_of k = module_names (symbol_names k.symbols) k.read.body

pub record EntryFits (f : ModuleResults) : Type 0 where
  pub effects : StoredFits (names_of f.known) (stored.Effects f.effects)
  pub transformers : StoredFits (names_of f.known) (stored.Transformers f.transformers)
  pub preconditions : StoredFits (names_of f.known) (stored.Preconditions f.preconditions)
  pub regions : StoredFits (names_of f.known) (stored.Regions f.regions)
  pub ins : StoredFits (names_of f.known) (stored.InRegions f.ins)
  pub outs : StoredFits (names_of f.known) (stored.OutRegions f.outs)
  pub marks : StoredFits (names_of f.known) (stored.Marks f.marks)

module _ (g : Graph) (all : List ModuleResults) (f : ModuleResults) (follows : FollowsFrom g all f) (h : EntryTold g.untracked f) (are : AreNames (symbol_names f.known.symbols)) where
  abbrev k : Known
  k = f.known

  abbrev ns : List ℕ
  ns = list_numbers f.known.read.body

  found : FoundGood (analysis_in (phases_of f)).found
  found = h.ins.good.known.analysis.found

  regions_are_ordered : SetsOrdered f.regions
  regions_are_ordered = subst SetsOrdered (sym follows.regions) (regions_ordered k.read.body (scope_of g.untracked k) g.untracked f.transformers.at (region_summaries all))

  ins_are_ordered : SetsOrdered f.ins
  ins_are_ordered = subst SetsOrdered (sym follows.ins) (ins_ordered k.read.body (scope_of g.untracked k) g.untracked f.transformers.at f.regions.at (in_summaries all) regions_are_ordered.0)

  outs_are_ordered : SetsOrdered f.outs
  outs_are_ordered =
      subst SetsOrdered (sym follows.outs)
      (outs_ordered k.read.body (scope_of g.untracked k) f.transformers.at f.regions.at f.ins.at (used_after g k (later_sites g.untracked (callers all (name_in f)) (name_in f))) regions_are_ordered.0)

  pub entry_fits : EntryFits f
  entry_fits = record {
    effects = ((ids_are f.effects.at ∙ h.effects.numbers, h.effects.at), h.effects.summary);
    transformers = (
      (ids_are f.transformers.at ∙ found.numbers, each_transformer g.untracked k are f.transformers.at found.fits found.foreign (of_each _ f.transformers.at h.ins.over.own)),
      one_transformer g.untracked k are f.transformers.summary found.summary_fits found.summary_foreign h.ins.over.summary,
    );
    preconditions = (
      (ids_are f.preconditions.at ∙ h.ins.good.known.analysis.numbers, each_system g.untracked k are f.preconditions.at h.ins.good.known.analysis.fits (of_each _ f.preconditions.at h.ins.over.at)),
      one_system g.untracked k are f.preconditions.summary h.ins.good.known.analysis.entry_fits h.ins.over.entry,
    );
    regions = sets_fit g.untracked k are IsAccess Regions access_right ns f.regions h.ins.good.known.numbers h.ins.fitting h.ins.places regions_are_ordered;
    ins = sets_fit g.untracked k are IsIn InRegions in_right ns f.ins h.ins.good.numbers (named_sets IsIn g.untracked k f.ins h.ins.good.sets h.ins.in_fine) h.ins.in_places ins_are_ordered;
    outs = sets_fit g.untracked k are IsOut OutRegions out_right ns f.outs h.outs.numbers h.outs.sets h.out_places outs_are_ordered;
    marks = subst (λ (ms : List (At _)). StoredFits (names_of k) (stored.Marks ms)) (sym h.marks.are)
        (ids_are (marks.marks_found g.untracked (phases_of f) f.effects) ∙ marks_numbers g.untracked (phases_of f) f.effects, marks_fit g.untracked (phases_of f) f.effects found.fits h.ins.fitting.0);
  }
