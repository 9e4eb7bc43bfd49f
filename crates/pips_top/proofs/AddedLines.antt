-- Each line that is added to a module is a comment line that reading drops.
use Rattle.std.proofs.Common.{ℕ, zero, suc, Bool, true, false, not, List, [], ◌∷◌, ◌++◌, Option, Some, None, ◌≡◌, refl, sym, subst}
use Rattle.std.specs.Prelude.{if◌then◌else◌, bytes_eq, slice_get}
use Rattle.std.specs.List.{AllByRecursion}
use Rattle.affine_systems.specs.declared.row.System.{System}
use Rattle.f77_ast.specs.Trees.{StmtTree, WhatTree, ArmTree, ArmTrees, ElseTree, LoopTree, StmtTrees}
use Rattle.f77_ast.specs.Trees as tree
use Rattle.f77_ast.specs.Hidden.{is_hidden}
use Rattle.f77_ast.specs.DeclTrees.{ParsedTree}
use Rattle.f77_ast.specs.Symbols.{SymbolTree}
use Rattle.f77_printer.specs.declared.added.Added.{Added}
use Rattle.call_graph.specs.declared.graph.Graph.{Graph}
use Rattle.f77_meaning.specs.Modules.{Known, known_of, symbol_names}
use Rattle.in_out_regions.specs.transformer_algebra.declared.transformer.Transformer.{Transformer}
use Rattle.pipsmake_base.specs.module_phases.ScalarPhases.{Analysis, analyses}
use Rattle.pipsmake_base.specs.module_phases.RegionPhases.{ModuleRegions, all_regions}
use Rattle.pipsmake_base.specs.module_phases.InPhases.{ModuleIns, all_ins}
use Rattle.pipsmake_base.specs.module_phases.OutPhases.{ModuleOuts, all_outs}
use Rattle.pipsmake_base.specs.loop_marker.Results.{ModuleResults}
use Rattle.pipsmake_base.specs.loop_marker.Phases.{phases_of, analysis_in, all_marks}
use Rattle.pipsmake_base.specs.privatizer.Functions.{module_functions}
use Rattle.pipsmake_base.specs.result_lines.ReductionLines.{loops_said, reduced_lines_of}
use Rattle.pipsmake_base.specs.pipsmake_meaning.Definitions.{printed_of}
use Rattle.pipsmake_base.proofs.ResultLines.SaidLines.{loop_lines_said}
use Rattle.pipsmake_base.specs.result_lines.ScalarLines.{Said, before, holds_lines, changes_lines, does_lines, says_changes, visible_lines, own_lines, stmt_lines, part_lines, list_lines, arms_lines, arm_lines, else_lines, loop_lines, entry_lines, said}
use Rattle.system_text.specs.SystemText.{precondition_line, transformer_line}
use Rattle.laws_programs.specs.roundtrip_programs.Statements.Formed.{Each}
use Rattle.laws_programs.proofs.RoundtripPrograms.ModuleTexts.Kept.{Each-append}
use Rattle.laws_programs.specs.roundtrip_programs.Texts.Texts.{IsPassedOver}
use Rattle.laws_programs.specs.roundtrip_programs.Texts.Laws.{AllPassedOver}
use Rattle.laws_programs.specs.roundtrip_programs.Lines.{IsShown, AreShown, IsClaimLine, LinesArePassedOver}
use Rattle.laws_programs.specs.Programs.{AreTables}
use Rattle.laws_lines.specs.Regions.Names.{IsNamed, AreNamed}
use Rattle.laws_lines.specs.Regions.LineLaws.{RegionLinesPass, AllRegionLinesPass}
use Rattle.laws_lines.specs.Ins.Laws.{InLinesPass, AllInLinesPass}
use Rattle.laws_lines.specs.Outs.Laws.{OutLinesPass, AllOutLinesPass}
use Rattle.laws_lines.specs.Marks.Laws.{LoopLinesArePassedOver}
use Rattle.laws_bounds.specs.bound_check.CheckLines.{check_lines_of}
use Rattle.laws_bounds.specs.bound_check.Checked.{Knowledge as Judging, checked_of}
use Rattle.laws_bounds.specs.LinesPass.{ChecksPass}
use Rattle.laws_bounds.specs.Said.{knowledge_by}
use Rattle.laws_lines.proofs.Regions.ProgramRegions.{ModuleFine, ModuleTold, each_named, regions_with, all_told, modules_fine}
use Rattle.laws_lines.proofs.Regions.LinesPass.{names_shown}
use Rattle.pipsmake_base.specs.pipsmake_meaning.ResultEntries.{results_for}
use Rattle.laws_bounds.specs.laws_marks.Said.{reductions_of, reduced_in}
use Rattle.pips_top.specs.Shown.{checks_of, results_of_program, lines_with, lines_for}
use Rattle.pips_top.specs.Program.{ProgramTree}
use Rattle.pips_top.specs.declared.wanted.Wanted.{Wanted}
use Rattle.pipsmake_base.specs.result_lines.declared.show.Show.{Show}
use Rattle.pipsmake_base.specs.result_lines.declared.show.Show.TheVariants.{All, Bare, Why}
use Rattle.pips_top.proofs.LinesFound.{region_lines_found, scalar_lines_found, claims_found, loop_lines_found}
use Rattle.pips_top.proofs.Programs.{each_at}
use Rattle.pips_top.proofs.MarkNames.{MarksNamed, ReductionsNamed, found_named, reduced_named, all_shown}
use Rattle.pips_top.proofs.Said.{said_at, regions_at, ins_at, outs_at, marks_are}
use Rattle.fx_lists.proofs.Every.{Every, every_at}

-- ---- the lines of a module

abbrev AreOver : List Added → Type 0
AreOver as' = Each IsPassedOver as'

join : (xs ys : List Added) → AreOver xs → AreOver ys → AreOver (xs ++ ys)
join xs ys h e = Each-append IsPassedOver xs ys h e

one : (n : ℕ) (line : List ℕ) → IsClaimLine line → AreOver (before n line ∷ [])
one n line h = record { first = record { comment = h.comment; dropped = h.dropped }; others = tt }

module _ (law : LinesArePassedOver) (names : List (List ℕ)) (shown : AreShown names) where
  holds-over : (n : ℕ) (o : Option System) → AreOver (holds_lines names n o)
  holds-over n None = tt
  holds-over n (Some p) = one n (precondition_line names p) (law names [] p shown).0

  changes-over : (n : ℕ) (cells : List ℕ) (s : System) → AreOver (changes_lines names n cells s)
  changes-over n [] s = tt
  changes-over n (c ∷ cs) s = one n (transformer_line names (c ∷ cs) s) (law names (c ∷ cs) s shown).1

  does-over : (n : ℕ) (o : Option Transformer) → AreOver (does_lines names n o)
  does-over n None = tt
  does-over n (Some t) = changes-over n t.cells t.system

  if-over : (b : Bool) (xs : List Added) → AreOver xs → AreOver (if b then xs else [])
  if-over true xs h = h
  if-over false xs h = tt

  entry-over : (main : Bool) (p : System) (t : Transformer) → AreOver (entry_lines main names p t)
  entry-over true p t = tt
  entry-over false p t = join (before 0 (precondition_line names p) ∷ []) (changes_lines names 0 t.cells t.system) (one 0 (precondition_line names p) (law names [] p shown).0) (changes-over 0 t.cells t.system)

module _ (law : LinesArePassedOver) (k : Said) (shown : AreShown k.names) where
  visible-over : (n : ℕ) (w : WhatTree) → AreOver (visible_lines n w k)
  visible-over n w =
      join (holds_lines k.names n (k.holds n)) (if says_changes w then does_lines k.names n (k.does n) else [])
      (holds-over law k.names shown n (k.holds n)) (if-over law k.names shown (says_changes w) (does_lines k.names n (k.does n)) (does-over law k.names shown n (k.does n)))

  own-over : (n : ℕ) (w : WhatTree) → AreOver (own_lines n w k)
  own-over n w = if-over law k.names shown (not (is_hidden n)) (visible_lines n w k) (visible-over n w)

  mutual
    stmt-over : (s : StmtTree) → AreOver (stmt_lines s k)
    stmt-over (tree.stmt n label w) = join (own_lines n w k) (part_lines w k) (own-over n w) (part-over w)

    part-over : (w : WhatTree) → AreOver (part_lines w k)
    part-over (tree.assign a b) = tt
    part-over (tree.block_if arms other) = join (arms_lines arms k) (else_lines other k) (arms-over arms) (else-over other)
    part-over (tree.logical_if e s) = tt
    part-over (tree.do_loop l) = loop-over l
    part-over (tree.call x es) = tt
    part-over (tree.goto l) = tt
    part-over tree.continue = tt
    part-over tree.return = tt
    part-over (tree.stop text) = tt
    part-over (tree.print es) = tt
    part-over (tree.read es) = tt

    pub list-over : (t : StmtTrees) → AreOver (list_lines t k)
    list-over tree.no_stmts = tt
    list-over (tree.more_stmts s rest) = join (stmt_lines s k) (list_lines rest k) (stmt-over s) (list-over rest)

    arms-over : (arms : ArmTrees) → AreOver (arms_lines arms k)
    arms-over tree.no_arms = tt
    arms-over (tree.more_arms a rest) = join (arm_lines a k) (arms_lines rest k) (arm-over a) (arms-over rest)

    arm-over : (a : ArmTree) → AreOver (arm_lines a k)
    arm-over (tree.arm test body) = list-over body

    else-over : (other : ElseTree) → AreOver (else_lines other k)
    else-over tree.no_else = tt
    else-over (tree.otherwise body) = list-over body

    loop-over : (l : LoopTree) → AreOver (loop_lines l k)
    loop-over (tree.loop index first last step body) = list-over body

-- ---- what is said of a module

-- the lines on the references of a module are passed over, by whatever they are judged
abbrev PassesChecks : Known → Type 0
PassesChecks k = (j : Judging) → Each IsPassedOver (check_lines_of (checked_of j k.read.body))

all_passing : (ms : List ParsedTree) (tables : List (List SymbolTree)) → Each ChecksPass ms → Every PassesChecks (known_of ms tables)
all_passing [] tables h = tt
all_passing (m ∷ ms) [] h = tt
all_passing (m ∷ ms) (t ∷ ts) h = (h.first, all_passing ms ts h.others)

checks-over : (g : Graph) (f : ModuleResults) → PassesChecks f.known → (bounds : Bool) → Each IsPassedOver (checks_of bounds g f)
checks-over g f h false = tt
checks-over g f h true = h (knowledge_by g f.known f.transformers f.preconditions)

-- its symbols have such names, which its marks and reductions name, and the lines of its regions, loops and references are passed over
pub record IsSaid (g : Graph) (f : ModuleResults) : Type 0 where
  pub names : AreShown (symbol_names f.known.symbols)
  pub regions : RegionLinesPass (phases_of f).known.known
  pub ins : InLinesPass (phases_of f).known
  pub outs : OutLinesPass (phases_of f)
  pub named : MarksNamed IsShown (symbol_names f.known.symbols) f.marks
  pub reduced : ReductionsNamed (symbol_names f.known.symbols) (reduced_in g f)
  pub loops : (reductions why : Bool) → AllByRecursion IsPassedOver (loop_lines_found reductions g why f)
  pub checks : (bounds : Bool) → Each IsPassedOver (checks_of bounds g f)

from_places : (g : Graph) (fs : List ModuleResults) → ((j : ℕ) (f : ModuleResults) → slice_get fs j ≡ Some f → IsSaid g f) → Each (IsSaid g) fs
from_places g [] h = tt
from_places g (f ∷ fs) h = record { first = h zero f refl; others = from_places g fs (λ j x e. h (suc j) x e) }

-- so it is of all that is said of a program
pub all_said : AllRegionLinesPass → AllInLinesPass → AllOutLinesPass → LoopLinesArePassedOver → (p : ProgramTree) → Each ChecksPass p.modules → AreTables p.modules p.tables → AreNamed IsShown (known_of p.modules p.tables)
    → Each (IsSaid p.graph) (results_of_program p)
all_said law on_ins on_outs on_loops p on_checks t n = from_places g (all_marks g os) each
  where
    g : Graph
    g = p.graph

    ks : List Known
    ks = known_of p.modules p.tables

    as' : List Analysis
    as' = analyses ks g

    fs : List ModuleRegions
    fs = all_regions g as'

    is : List ModuleIns
    is = all_ins g fs

    os : List ModuleOuts
    os = all_outs g is

    each : (j : ℕ) (f : ModuleResults) → slice_get (all_marks g os) j ≡ Some f → IsSaid g f
    each j f e =
        let out = outs_at g os j f e in
        let here = ins_at g is out.0 (phases_of f) out.1 in
        let at = regions_at g fs here.0 (phases_of f).known here.1 in
        let there = said_at g as' here.0 (phases_of f).known here.1 in
        let named = every_at (λ (r : ModuleRegions). IsNamed IsShown r.analysis.found.known) fs here.0 (phases_of f).known.known (regions_with (IsNamed IsShown) ks g (each_named IsShown ks n)) at in
        let passes = every_at (λ (r : ModuleRegions). PassesChecks r.analysis.found.known) fs here.0 (phases_of f).known.known (regions_with PassesChecks ks g (all_passing p.modules p.tables on_checks)) at in
        let told = every_at (ModuleTold IsShown g.untracked) as' there.0 (analysis_in (phases_of f)) (all_told IsShown p.modules p.tables g t n) there.1 in
        let fine = every_at (ModuleFine IsShown g.untracked) fs here.0 (phases_of f).known.known (modules_fine IsShown p.modules p.tables g t n) at in
        let names = names_shown f.known.symbols named.1 in
        let marks = subst (MarksNamed IsShown (symbol_names f.known.symbols)) (sym (marks_are g os j f e)) (found_named IsShown g.untracked (phases_of f) f.effects told fine) in
        record {
          names = names;
          regions = each_at RegionLinesPass fs (law p.modules p.tables g t n) here.0 (phases_of f).known.known at;
          ins = each_at InLinesPass is (on_ins p.modules p.tables g t n) here.0 (phases_of f).known here.1;
          outs = each_at OutLinesPass os (on_outs p.modules p.tables g t n) out.0 (phases_of f) out.1;
          named = marks;
          reduced = reduced_named IsShown g f told fine;
          loops =
              let own = symbol_names f.known.symbols in
              λ reductions why.
              let rs = reductions_of reductions g f in
              subst (AllByRecursion IsPassedOver) (sym (loop_lines_said f.known why rs f.marks))
              (on_loops own why (loops_said f.known rs f.marks) names (all_shown (module_functions f.known.read) own rs f.marks marks));
          checks = checks-over g f passes;
        }

each_passed : (xs : List Added) → AllByRecursion IsPassedOver xs → AreOver xs
each_passed [] h = tt
each_passed (x ∷ xs) h = record { first = h.0; others = each_passed xs h.1 }

-- ---- the lines of a program

module _ (law : LinesArePassedOver) where
  scalars-over : (a : Analysis) → AreShown (symbol_names a.found.known.symbols) → AreOver (scalar_lines_found a)
  scalars-over a h =
      let k = a.found.known in
      let names = symbol_names k.symbols in
      let own = a.found.own in
      join (entry_lines k.read.main names a.holds.summary own.summary) (list_lines k.read.body (said names own.at a.holds.at))
      (entry-over law names h k.read.main a.holds.summary own.summary) (list-over law (said names own.at a.holds.at) h k.read.body)

  claims-over : (g : Graph) (f : ModuleResults) → IsSaid g f → AreOver (claims_found (phases_of f))
  claims-over g f h =
      let k = f.known in
      let scalars = scalar_lines_found (analysis_in (phases_of f)) in
      let regions = region_lines_found k f.regions in
      let ins = region_lines_found k f.ins in
      let outs = region_lines_found k f.outs in
      join scalars (regions ++ (ins ++ outs)) (scalars-over (analysis_in (phases_of f)) h.names)
      (join regions (ins ++ outs) (each_passed regions h.regions) (join ins outs (each_passed ins h.ins) (each_passed outs h.outs)))

  loops-over : (reductions : Bool) (g : Graph) (why : Bool) (f : ModuleResults) → IsSaid g f → AreOver (loop_lines_found reductions g why f)
  loops-over reductions g why f h = each_passed (loop_lines_found reductions g why f) (h.loops reductions why)

  behind-over : (reductions bounds : Bool) (g : Graph) (why : Bool) (f : ModuleResults) → IsSaid g f → AreOver (checks_of bounds g f ++ loop_lines_found reductions g why f)
  behind-over reductions bounds g why f h = join (checks_of bounds g f) (loop_lines_found reductions g why f) (h.checks bounds) (loops-over reductions g why f h)

  module-over : (show : Show) (reductions bounds : Bool) (g : Graph) (f : ModuleResults) → IsSaid g f → AreOver (reduced_lines_of show f.known (printed_of f) (reductions_of reductions g f) (checks_of bounds g f))
  module-over All reductions bounds g f h =
      join (claims_found (phases_of f)) (checks_of bounds g f ++ loop_lines_found reductions g true f) (claims-over g f h) (behind-over reductions bounds g true f h)
  module-over Bare reductions bounds g f h = behind-over reductions bounds g false f h
  module-over Why reductions bounds g f h = behind-over reductions bounds g true f h

  module _ (show : Wanted) (g : Graph) where
    choice-over : (b : Bool) (o p : Option ModuleResults) → AreOver (lines_with show g o) → AreOver (lines_with show g p) → AreOver (lines_with show g (if b then o else p))
    choice-over true o p h e = h
    choice-over false o p h e = e

    lines-over : (all : List ModuleResults) (x : List ℕ) → Each (IsSaid g) all → AreOver (lines_for show g all x)
    lines-over [] x h = tt
    lines-over (f ∷ fs) x h = choice-over (bytes_eq f.known.read.name x) (Some f) (results_for fs x) (module-over show.show show.reductions show.bounds g f h.first) (lines-over fs x h.others)

    pub all_over : (all : List ModuleResults) → Each (IsSaid g) all → (ms : List ParsedTree) → AllPassedOver (λ m. lines_for show g all m.module_read.name) ms
    all_over all h [] = tt
    all_over all h (m ∷ ms) = record { first = lines-over all m.module_read.name h; others = all_over all h ms }
