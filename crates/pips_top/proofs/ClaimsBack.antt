-- What is written of a program that was read is read, with its claims, as that program with just the claims that are said of it.
use Rattle.std.proofs.Common.{List, sym, subst}
use Rattle.f77_ast.specs.DeclTrees.{ParsedTree}
use Rattle.f77_printer.specs.declared.added.Added.{Added}
use Rattle.laws_programs.specs.roundtrip_programs.Lines.{LinesArePassedOver}
use Rattle.laws_programs.specs.roundtrip_programs.Programs.{NamesAreShown}
use Rattle.laws_lines.specs.Marks.ClaimsRead.{ReadClaims}
use Rattle.laws_lines.specs.Marks.ClaimLaws.{ClaimsReadBack}
use Rattle.laws_lines.specs.Marks.Laws.{LoopLinesArePassedOver}
use Rattle.laws_bounds.specs.LinesPass.{CheckLinesPass}
use Rattle.laws_lines.specs.Regions.LineLaws.{AllRegionLinesPass}
use Rattle.laws_lines.specs.Ins.Laws.{AllInLinesPass}
use Rattle.laws_lines.specs.Outs.Laws.{AllOutLinesPass}
use Rattle.laws_lines.proofs.Marks.Unique.{one_reading}
use Rattle.laws_programs.specs.Layout.Laws.{BlocksHaveAChain}
use Rattle.laws_programs.proofs.Sources.{all_built}
use Rattle.pips_top.specs.ClaimsRead.{claims_shown}
use Rattle.pips_top.specs.Laws.{ReadWrittenBack, ReadClaimsBack}
use Rattle.pips_top.specs.Shown.{results_of_program, lines_for}
use Rattle.pips_top.specs.Written.{written}
use Rattle.pips_top.proofs.Programs.{is_program}
use Rattle.pips_top.proofs.BlockNames.{modules_shown}
use Rattle.pips_top.proofs.AddedLines.{all_said, all_over}
use Rattle.pips_top.proofs.ReadBack.{is_read, text_same}

pub claims_back_from : ClaimsReadBack → LinesArePassedOver → AllRegionLinesPass → AllInLinesPass → AllOutLinesPass → LoopLinesArePassedOver → CheckLinesPass → NamesAreShown → BlocksHaveAChain → ReadWrittenBack → ReadClaimsBack
claims_back_from law lines on_regions on_ins on_outs on_loops on_checks names blocks back show bytes p e =
    let i = is_program bytes p e in
    let shown = modules_shown names blocks p.modules p.tables (all_built i.lines p.modules i.parsed) i.tables in
    let all = results_of_program p in
    let added : ParsedTree → List Added = λ m. lines_for show p.graph all m.module_read.name in
    let over = all_over lines show p.graph all (all_said on_regions on_ins on_outs on_loops p (on_checks bytes p.modules (is_read bytes p e).read) i.tables shown) p.modules in
    let c = law bytes p.modules added (is_read bytes p e).read over in
    let b = back show bytes p e in
    let q = b.0 in
    let read : ReadClaims (written show p) c.again (claims_shown show p) = subst (λ t. ReadClaims t c.again (claims_shown show p)) (sym (text_same show p.graph all p.modules)) c.read in
    let one = one_reading (written show p) c.again q.modules read.read (is_read (written show p) q b.1).read in
    record { again = q; read = b.1; same = b.2; claims = subst (λ ms. ReadClaims (written show p) ms (claims_shown show p)) one read }
