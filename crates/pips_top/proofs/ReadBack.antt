-- What is written of a program that was read is read again as the same program, and written as the same text.
use Rattle.std.proofs.Common.{◌≡◌, ℕ, List, [], ◌∷◌, ◌++◌, map, Ok, refl, ap, ap₂, sym, ◌∙◌, subst}
use Rattle.f77_ast.specs.DeclTrees.{ModuleTree, ParsedTree}
use Rattle.f77_printer.specs.declared.added.Added.{Added}
use Rattle.f77_parser.specs.Gives.{and_then}
use Rattle.f77_parser.specs.Modules.{parse_of}
use Rattle.f77_ast.specs.Symbols.{SymbolTree}
use Rattle.call_graph.specs.declared.graph.Graph.{Graph}
use Rattle.call_graph.specs.Links.{link_of}
use Rattle.f77_meaning.specs.Modules.{Known, known_of}
use Rattle.pipsmake_base.specs.module_phases.ScalarPhases.{analyses}
use Rattle.pipsmake_base.specs.module_phases.RegionPhases.{all_regions}
use Rattle.pipsmake_base.specs.module_phases.InPhases.{all_ins}
use Rattle.pipsmake_base.specs.module_phases.OutPhases.{all_outs}
use Rattle.pipsmake_base.specs.loop_marker.Results.{ModuleResults}
use Rattle.pipsmake_base.specs.loop_marker.Phases.{all_marks}
use Rattle.laws_programs.specs.Programs as laws
use Rattle.laws_programs.proofs.Sources.{all_built}
use Rattle.laws_lines.specs.Regions.LineLaws.{AllRegionLinesPass}
use Rattle.laws_lines.specs.Ins.Laws.{AllInLinesPass}
use Rattle.laws_lines.specs.Outs.Laws.{AllOutLinesPass}
use Rattle.laws_lines.specs.Marks.Laws.{LoopLinesArePassedOver}
use Rattle.laws_bounds.specs.LinesPass.{CheckLinesPass}
use Rattle.laws_lines.specs.Marks.WholeLaws.{TextsAreWrittenAgain}
use Rattle.laws_programs.specs.Layout.Laws.{BlocksHaveAChain}
use Rattle.laws_programs.specs.roundtrip_programs.Texts.Texts as back
use Rattle.laws_programs.specs.roundtrip_programs.Texts.Laws.{AllPassedOver}
use Rattle.laws_programs.specs.roundtrip_programs.Lines.{LinesArePassedOver}
use Rattle.laws_programs.specs.roundtrip_programs.Programs.{AreTables, IsProgram, ProgramsReadBack, NamesAreShown}
use Rattle.laws_programs.specs.roundtrip_programs.Written.Laws.{by_tree}
use Rattle.pips_top.specs.Shown.{results_of_program, lines_for, lines_found}
use Rattle.pips_top.specs.Laws.{ReadWrittenBack}
use Rattle.pips_top.specs.Program.{ProgramTree}
use Rattle.pips_top.specs.ReadBack.{SameProgram}
use Rattle.pips_top.specs.Reading.{lines_or, graph_or, linked_by, program_of, reading}
use Rattle.pips_top.specs.Written.{written}
use Rattle.pips_top.specs.declared.wanted.Wanted.{Wanted}
use Rattle.pips_top.proofs.AddedLines.{all_said, all_over}
use Rattle.pips_top.proofs.BlockNames.{modules_shown}
use Rattle.pips_top.proofs.Programs.{Linked, linked_from, parsed_from, is_program}
use Rattle.pipsmake_base.specs.session_texts.Sources.{table_or, tables_of}
use Rattle.pipsmake_base.proofs.SessionTexts.SourceTexts.{all_tables}

-- ---- what was read

same_tables : (ms : List ParsedTree) (ts : List (List SymbolTree)) → laws.AreTables ms ts → AreTables ms ts
same_tables [] [] h = tt
same_tables [] (t ∷ ts) h = absurd h
same_tables (m ∷ ms) [] h = absurd h
same_tables (m ∷ ms) (t ∷ ts) h = (h.0, same_tables ms ts h.1)

of_parts : (text : List ℕ) (ms : List ParsedTree) (p : ProgramTree) → back.IsReadAs text ms → Linked ms (tables_of ms) p → IsProgram text p.modules p.tables p.graph
of_parts text ms p read (same, tables, links) =
    let Q : List ParsedTree → Type 0 = λ ns. IsProgram text ns p.tables p.graph in
    subst Q (sym same) (record { read = read; tabled = same_tables ms p.tables (all_tables ms p.tables tables); linked = links })

pub is_read : (text : List ℕ) (p : ProgramTree) → reading text ≡ Ok p → IsProgram text p.modules p.tables p.graph
is_read text p e =
    let f = parsed_from text p e in
    of_parts text f.1 p (record { lines = f.0; lined = f.2; parsed = f.3 }) (linked_from f.1 p f.4)

-- ---- what is written

abbrev pub texts_shown : Wanted → Graph → List ModuleResults → List ParsedTree → List ℕ
texts_shown show g all ms = back.modules_text (by_tree (lines_found show g all)) ms

pub text_same : (show : Wanted) (g : Graph) (all : List ModuleResults) (ms : List ParsedTree) → texts_shown show g all ms ≡ back.modules_text (λ m. lines_for show g all m.module_read.name) ms
text_same show g all [] = refl
text_same show g all (m ∷ ms) = ap (λ rest. back.text_of (by_tree (lines_found show g all)) m ++ rest) (text_same show g all ms)

-- ---- what is read of it

tables_are : (ms : List ParsedTree) (ts : List (List SymbolTree)) → AreTables ms ts → tables_of ms ≡ Ok ts
tables_are [] [] h = refl
tables_are [] (t ∷ ts) h = absurd h
tables_are (m ∷ ms) [] h = absurd h
tables_are (m ∷ ms) (t ∷ ts) h =
    ap (λ r. and_then (table_or r) (λ x. and_then (tables_of ms) (λ rest. Ok (x ∷ rest)))) h.0 ∙ ap (λ r. and_then r (λ rest. Ok (t ∷ rest))) (tables_are ms ts h.1)

program_is : (ms : List ParsedTree) (ts : List (List SymbolTree)) (g : Graph) → AreTables ms ts → link_of ms ts ≡ Ok g → program_of ms ≡ Ok (record { modules = ms; tables = ts; graph = g })
unfolding program_of
program_is ms ts g h l = ap (λ r. and_then r (λ x. linked_by ms x (graph_or (link_of ms x)))) (tables_are ms ts h) ∙ ap (λ r. linked_by ms ts (graph_or r)) l

pub reading_is : (text : List ℕ) (ms : List ParsedTree) (ts : List (List SymbolTree)) (g : Graph) → IsProgram text ms ts g → reading text ≡ Ok (record { modules = ms; tables = ts; graph = g })
unfolding reading
reading_is text ms ts g is =
    ap (λ r. and_then (and_then (lines_or r) parse_of) program_of) is.read.lined ∙ ap (λ r. and_then r program_of) is.read.parsed ∙ program_is ms ts g is.tabled is.linked

-- ---- it is written as the same text

-- what is known of modules does not depend on the lines at which their statements stand
pub known_same : (qs ps : List ParsedTree) (ts : List (List SymbolTree)) → map back.module_of qs ≡ map back.module_of ps → known_of qs ts ≡ known_of ps ts
known_same [] [] ts e = refl
known_same [] (p ∷ ps) ts e = cc
known_same (q ∷ qs) [] ts e = cc
known_same (q ∷ qs) (p ∷ ps) [] e = refl
known_same (q ∷ qs) (p ∷ ps) (t ∷ ts) e =
    let first : q.module_read ≡ p.module_read = cc in
    let others : map back.module_of qs ≡ map back.module_of ps = cc in
    ap₂ (λ (m : ModuleTree) (ks : List Known). record { read = m; symbols = t } ∷ ks) first (known_same qs ps ts others)

abbrev said_with : List Known → Graph → List ModuleResults
said_with ks g = all_marks g (all_outs g (all_ins g (all_regions g (analyses ks g))))

pub said_same : (p q : ProgramTree) → SameProgram p q → results_of_program q ≡ results_of_program p
said_same p q same =
    ap₂ said_with (ap (known_of q.modules) same.tables ∙ known_same q.modules p.modules p.tables same.modules) same.graph

written_twice : TextsAreWrittenAgain → (show : Wanted) (bytes : List ℕ) (p q : ProgramTree) → reading bytes ≡ Ok p → reading (written show p) ≡ Ok q → SameProgram p q
    → AllPassedOver (λ m. lines_for show p.graph (results_of_program p) m.module_read.name) p.modules → written show q ≡ written show p
written_twice law show bytes p q e f same over =
    let all = results_of_program p in
    let added : ParsedTree → List Added = λ m. lines_for show p.graph all m.module_read.name in
    let text = text_same show p.graph all p.modules in
    let again = subst (λ t. back.IsReadAs t q.modules) text (is_read (written show p) q f).read in
    ap₂ (λ g fs. texts_shown show g fs q.modules) same.graph (said_same p q same)
    ∙ text_same show p.graph all q.modules
    ∙ law bytes p.modules q.modules added (is_read bytes p e).read over (λ m n k. ap (λ (t : ModuleTree). lines_for show p.graph all t.name) k) again
    ∙ sym text

pub back_from : ProgramsReadBack → TextsAreWrittenAgain → LinesArePassedOver → AllRegionLinesPass → AllInLinesPass → AllOutLinesPass → LoopLinesArePassedOver → CheckLinesPass → NamesAreShown → BlocksHaveAChain → ReadWrittenBack
back_from programs texts lines on_regions on_ins on_outs on_loops on_checks names blocks show bytes p e =
    let is = is_read bytes p e in
    let i = is_program bytes p e in
    let shown = modules_shown names blocks p.modules p.tables (all_built i.lines p.modules i.parsed) i.tables in
    let all = results_of_program p in
    let over = all_over lines show p.graph all (all_said on_regions on_ins on_outs on_loops p (on_checks bytes p.modules is.read) i.tables shown) p.modules in
    let b = programs bytes p.modules p.tables p.graph (λ m. lines_for show p.graph all m.module_read.name) is over in
    let q : ProgramTree = record { modules = b.again; tables = p.tables; graph = p.graph } in
    let read = ap reading (text_same show p.graph all p.modules) ∙ reading_is (back.modules_text (λ m. lines_for show p.graph all m.module_read.name) p.modules) b.again p.tables p.graph b.program in
    let same : SameProgram p q = record { modules = b.same; tables = refl; graph = refl } in
    (q, read, same, written_twice texts show bytes p q e read same over)
