-- What is written of a program that was read is read, with its directives, as that program with its parallel loops marked.
use Rattle.std.proofs.Common.{◌≡◌, ℕ, zero, suc, List, [], ◌∷◌, map, Option, Some, refl, sym, ap, ap₂, ◌∙◌, subst}
use Rattle.std.specs.Prelude.{slice_get}
use Rattle.std.proofs.Math.Path.{fun_ext}
use Rattle.f77_ast.specs.DeclTrees.{ParsedTree}
use Rattle.f77_printer.specs.declared.added.Added.{Added}
use Rattle.f77_ast.specs.declared.results.At.{At}
use Rattle.laws_lines.specs.Marks.Directives.{Clauses}
use Rattle.pipsmake_base.specs.loop_marker.Results.{ModuleResults}
use Rattle.laws_programs.specs.roundtrip_programs.Texts.Texts as back
use Rattle.laws_programs.specs.roundtrip_programs.Texts.Laws.{AllPassedOver}
use Rattle.laws_programs.specs.roundtrip_programs.Lines.{LinesArePassedOver}
use Rattle.laws_programs.specs.roundtrip_programs.Programs.{NamesAreShown}
use Rattle.laws_lines.specs.Marks.Marked.{with_functions, ReadMarked}
use Rattle.laws_lines.specs.Marks.MarkedLoops.{parallel_in}
use Rattle.laws_lines.specs.Marks.Laws.{LoopLinesArePassedOver}
use Rattle.laws_bounds.specs.LinesPass.{CheckLinesPass}
use Rattle.laws_lines.specs.Marks.WholeLaws.{with_marks, MarksReadBack}
use Rattle.laws_lines.proofs.Marks.Unique.{one_reading}
use Rattle.laws_programs.specs.Layout.Laws.{BlocksHaveAChain}
use Rattle.laws_programs.proofs.Sources.{all_built}
use Rattle.laws_bounds.specs.laws_analyses.Laws.{AnalysesAreWhole}
use Rattle.laws_lines.specs.NameLaws.{NamesAreWords}
use Rattle.laws_lines.specs.Regions.LineLaws.{AllRegionLinesPass}
use Rattle.laws_lines.proofs.Regions.LinesMean.{tables_named}
use Rattle.laws_lines.specs.Ins.Laws.{AllInLinesPass}
use Rattle.laws_lines.specs.Outs.Laws.{AllOutLinesPass}
use Rattle.pips_top.specs.Laws.{ReadWrittenBack, ReadMarkedBack}
use Rattle.pips_top.specs.MarkedText.{loops_of, loops_found}
use Rattle.pips_top.specs.Program.{ProgramTree}
use Rattle.pipsmake_base.specs.pipsmake_meaning.ResultEntries.{results_for}
use Rattle.pips_top.specs.Shown.{results_of_program, lines_for}
use Rattle.pips_top.specs.Written.{written}
use Rattle.pips_top.specs.declared.wanted.Wanted.{Wanted}
use Rattle.pips_top.proofs.Programs.{is_program}
use Rattle.pips_top.proofs.BlockNames.{modules_shown}
use Rattle.pips_top.proofs.AddedLines.{all_said, all_over}
use Rattle.pips_top.proofs.ReadBack.{is_read, text_same}
use Rattle.pips_top.proofs.Marking.{names_of, said_of, shows_why, others_of, lines_parts, loops_at, all_marked}
use Rattle.pips_top.proofs.DirectivesFound.{directives_are}

map_same : {A B : Type 0} (f g : A → B) (xs : List A) → ((i : ℕ) (x : A) → slice_get xs i ≡ Some x → f x ≡ g x) → map f xs ≡ map g xs
map_same f g [] h = refl
map_same f g (x ∷ xs) h = ap₂ (λ y ys. y ∷ ys) (h zero x refl) (map_same f g xs (λ i y e. h (suc i) y e))

module _ (show : Wanted) (p : ProgramTree) where
  abbrev found : ParsedTree → Option ModuleResults
  found m = results_for (results_of_program p) m.module_read.name

  abbrev added : ParsedTree → List Added
  added m = lines_for show p.graph (results_of_program p) m.module_read.name

  abbrev parts : ParsedTree → List Added
  parts = with_marks (λ m. names_of (found m)) (shows_why show.show) (λ m. said_of show p.graph (found m)) (λ m. others_of show p.graph (found m))

  added_same : added ≡ parts
  added_same = fun_ext (λ m. lines_parts show p.graph (found m))

  parts_over : AllPassedOver added p.modules → AllPassedOver parts p.modules
  parts_over h = subst (λ (a : ParsedTree → List Added). AllPassedOver a p.modules) added_same h

  parts_text : back.modules_text parts p.modules ≡ written show p
  parts_text = sym (text_same show p.graph (results_of_program p) p.modules ∙ ap (λ (a : ParsedTree → List Added). back.modules_text a p.modules) added_same)

  -- the loops of a module as they are read
  abbrev loops_read : ParsedTree → List (At Clauses)
  loops_read m = with_functions m.module_read (parallel_in (names_of (found m)) (said_of show p.graph (found m)))

pub marked_from : MarksReadBack → AnalysesAreWhole → NamesAreWords → LinesArePassedOver → AllRegionLinesPass → AllInLinesPass → AllOutLinesPass → LoopLinesArePassedOver → CheckLinesPass → NamesAreShown → BlocksHaveAChain → ReadWrittenBack → ReadMarkedBack
marked_from law whole words lines on_regions on_ins on_outs on_loops on_checks names blocks back show bytes p e =
    let i = is_program bytes p e in
    let built = all_built i.lines p.modules i.parsed in
    let all = whole p.modules p.tables p.graph i in
    let said = all_said on_regions on_ins on_outs on_loops p (on_checks bytes p.modules (is_read bytes p e).read) i.tables (modules_shown names blocks p.modules p.tables built i.tables) in
    let are = tables_named p.modules p.tables i.tables (words i.lines p.modules p.tables i.parsed i.tables) in
    let m =
    law bytes p.modules (λ m. names_of (found show p m)) (shows_why show.show) (λ m. said_of show p.graph (found show p m)) (λ m. others_of show p.graph (found show p m)) (is_read bytes p e).read
    (parts_over show p (all_over lines show p.graph (results_of_program p) said p.modules)) (all_marked p show all i.tables built are said) in
    let b = back show bytes p e in
    let q = b.0 in
    let text = subst (λ t. ReadMarked t m.again (map (loops_read show p) p.modules)) (parts_text show p) m.read in
    let parts_loops : map (loops_read show p) p.modules ≡ loops_found show p = map_same (loops_read show p) (λ n. loops_of show p.graph (found show p n)) p.modules (loops_at p show all i.tables built are said) in
    let loops = subst (λ ls. ReadMarked (written show p) m.again ls) parts_loops text in
    let one = one_reading (written show p) m.again q.modules loops.read (is_read (written show p) q b.1).read in
    record {
      again = q;
      read = b.1;
      same = b.2;
      marked = subst (λ ms. ReadMarked (written show p) ms (loops_found show p)) one loops;
      directives = directives_are show p q all b.2.modules;
    }
