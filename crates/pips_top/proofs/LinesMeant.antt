-- The lines that are added to a module are those of its analysis, and each is read as what that has there.
use Rattle.std.proofs.Common.{refl, sym, subst}
use Rattle.f77_meaning.specs.Modules.{known_of, symbol_names}
use Rattle.pipsmake_base.specs.module_phases.ScalarPhases.{analyses}
use Rattle.pipsmake_base.specs.module_phases.RegionPhases.{ModuleRegions, all_regions}
use Rattle.pipsmake_base.specs.module_phases.InPhases.{all_ins}
use Rattle.pipsmake_base.specs.module_phases.OutPhases.{all_outs}
use Rattle.pipsmake_base.specs.loop_marker.Results.{ModuleResults}
use Rattle.pipsmake_base.specs.loop_marker.Phases.{phases_of, analysis_in, all_marks}
use Rattle.pipsmake_base.specs.privatizer.Functions.{module_functions}
use Rattle.pipsmake_base.specs.result_lines.ShownMarks.{marks_without, shown_marks}
use Rattle.laws_bounds.specs.laws_analyses.Laws.{AnalysesAreWhole}
use Rattle.laws_programs.specs.Layout.Laws.{BlocksHaveAChain}
use Rattle.laws_programs.proofs.Sources.{all_built}
use Rattle.laws_lines.specs.LineLaws.{LinesMeanResults, AnalysesAreReadBack}
use Rattle.laws_lines.specs.NameLaws.{NamesAreWords}
use Rattle.laws_lines.specs.Regions.LineLaws.{RegionLinesMean, RegionLinesMeanRegions}
use Rattle.laws_lines.specs.Ins.Laws.{InLinesMean, InLinesMeanRegions}
use Rattle.laws_lines.specs.Outs.Laws.{OutLinesMean, OutLinesMeanRegions}
use Rattle.laws_lines.proofs.Regions.LinesMean.{tables_named}
use Rattle.laws_lines.proofs.Regions.ProgramRegions.{ModuleFine, ModuleTold, regions_with, all_told, modules_fine}
use Rattle.laws_lines.specs.RegionTexts.Printed.{IsPlain}
use Rattle.laws_lines.specs.Marks.Laws.{DirectivesReadBack, ReductionsReadBack, ObstaclesAreNoDirectives}
use Rattle.call_graph.specs.declared.graph.Graph.{Graph}
use Rattle.laws_bounds.specs.laws_marks.Said.{reductions_of}
use Rattle.pips_top.specs.Claimed.{AreRead}
use Rattle.pips_top.specs.Shown.{lines_wanted, lines_with}
use Rattle.pips_top.specs.Laws.{ReadLinesMean}
use Rattle.pips_top.specs.MarksRead.{AreMarksRead, AreReductionsRead}
use Rattle.pips_top.specs.declared.wanted.Wanted.{Wanted}
use Rattle.pips_top.proofs.BlockNames.{modules_plain}
use Rattle.pips_top.proofs.Programs.{is_program, each_at}
use Rattle.pips_top.proofs.MarkNames.{MarksNamed, found_named, reduced_named, asked_named, all_without_named, marks_read, reductions_read}
use Rattle.pips_top.proofs.ModulesSaid.{Once, own_found}
use Rattle.pips_top.proofs.Said.{regions_at, said_at, ins_at, outs_at, marks_are, said_once}
use Rattle.laws_lines.proofs.ProgramLines.{HasNames}
use Rattle.fx_lists.proofs.Every.{every_at}

-- the lines of a module
lines_read : (show : Wanted) (g : Graph) (f : ModuleResults) → LinesMeanResults (analysis_in (phases_of f)) → RegionLinesMean (phases_of f).known.known → InLinesMean (phases_of f).known → OutLinesMean (phases_of f)
    → AreMarksRead (symbol_names f.known.symbols) (shown_marks f.known.read (symbol_names f.known.symbols) f.marks)
    → AreReductionsRead (module_functions f.known.read) (symbol_names f.known.symbols) (reductions_of show.reductions g f) → AreRead show g f (lines_wanted show g f)
lines_read show g f on_scalars on_regions on_ins on_outs on_marks on_reductions =
    record { parts = refl; scalars = on_scalars; regions = on_regions; ins = on_ins; outs = on_outs; marks = on_marks; reductions = on_reductions }

pub lines_from : AnalysesAreWhole → AnalysesAreReadBack → NamesAreWords → BlocksHaveAChain → RegionLinesMeanRegions → InLinesMeanRegions → OutLinesMeanRegions → DirectivesReadBack → ReductionsReadBack → ObstaclesAreNoDirectives
    → ReadLinesMean
lines_from whole back words blocks on_regions on_ins on_outs directives clauses obstacles show bytes p e =
    let found = analyses (known_of p.modules p.tables) p.graph in
    let regions = all_regions p.graph found in
    let ins = all_ins p.graph regions in
    let outs = all_outs p.graph ins in
    let all = all_marks p.graph outs in
    let i = is_program bytes p e in
    let once : Once all = λ j k a b f g h. said_once p.graph found (whole p.modules p.tables p.graph i).once j k a b f g h in
    let named = words i.lines p.modules p.tables i.parsed i.tables in
    let plain = modules_plain blocks p.modules p.tables (all_built i.lines p.modules i.parsed) i.tables named in
    let read = back p.modules p.tables p.graph i.tables named in
    let means = on_regions p.modules p.tables p.graph i.tables named plain in
    let in_means = on_ins p.modules p.tables p.graph i.tables named plain in
    let out_means = on_outs p.modules p.tables p.graph i.tables named plain in
    λ j f there_is. subst (λ o. AreRead show p.graph f (lines_with show p.graph o)) (sym (own_found all once j f there_is))
    (let out = outs_at p.graph outs j f there_is in
    let here = ins_at p.graph ins out.0 (phases_of f) out.1 in
    let at = said_at p.graph found here.0 (phases_of f).known here.1 in
    let there = regions_at p.graph regions here.0 (phases_of f).known here.1 in
    let u = p.graph.untracked in
    let names = symbol_names f.known.symbols in
    let functions = module_functions f.known.read in
    let told = every_at (ModuleTold IsPlain u) found at.0 (analysis_in (phases_of f)) (all_told IsPlain p.modules p.tables p.graph i.tables plain) at.1 in
    let fine = every_at (ModuleFine IsPlain u) regions here.0 (phases_of f).known.known (modules_fine IsPlain p.modules p.tables p.graph i.tables plain) there in
    let are = every_at (λ (r : ModuleRegions). HasNames r.analysis.found.known) regions here.0 (phases_of f).known.known (regions_with HasNames (known_of p.modules p.tables) p.graph (tables_named p.modules p.tables i.tables named)) there in
    let marks = subst (MarksNamed IsPlain names) (sym (marks_are p.graph outs j f there_is)) (found_named IsPlain u (phases_of f) f.effects told fine) in
    let reduced = asked_named names show.reductions p.graph f (reduced_named IsPlain p.graph f told fine) in
    lines_read show p.graph f (each_at LinesMeanResults found read at.0 (analysis_in (phases_of f)) at.1) (each_at RegionLinesMean regions means here.0 (phases_of f).known.known there)
    (each_at InLinesMean ins in_means here.0 (phases_of f).known here.1) (each_at OutLinesMean outs out_means out.0 (phases_of f) out.1) (marks_read directives obstacles IsPlain names are (marks_without functions names f.marks) (all_without_named functions names IsPlain f.marks marks))
    (reductions_read clauses functions names are (reductions_of show.reductions p.graph f) reduced))
