-- The text of a program is that of its modules, whatever the lines of their statements.
use Rattle.std.proofs.Common.{◌≡◌, ℕ, List, [], ◌∷◌, ◌++◌, map, refl, ap, ◌∙◌}
use Rattle.std.specs.Prelude.{Option, Some, None}
use Rattle.f77_ast.specs.DeclTrees.{ModuleTree, ParsedTree}
use Rattle.f77_ast.specs.Symbols.{SymbolTree}
use Rattle.f77_printer.specs.ModuleText as printer
use Rattle.call_graph.specs.declared.graph.Graph.{Graph}
use Rattle.f77_meaning.specs.Modules.{Known, known_of}
use Rattle.loop_marker.specs.Results.{ModuleResults}
use Rattle.result_lines.specs.declared.show.Show.{Show}
use Rattle.laws_programs.specs.roundtrip_programs.Texts.Texts.{modules_text}
use Rattle.laws_programs.specs.roundtrip_programs.Laws.{tree_of}
use Rattle.laws_programs.specs.roundtrip_programs.Written.Laws.{by_tree, JoinedAreWrittenAlike, JoinedHaveTheSameTrees}
use Rattle.session_texts.specs.pipsmake_meaning.ResultEntries.{results_of_modules, results_for}
use Rattle.session_texts.specs.pipsmake_meaning.Texts.{ModuleText, ReadModule, modules_in, trees_in, tables_in}
use Rattle.laws_database.specs.ProgramTexts.{lines_with, lines_found, program_text, texts_of, text_with, texts_with, session_text, joined_modules}
use Rattle.laws_database.specs.ProgramTextLaws.{TextsAreWrittenAlike}
use Rattle.laws_database.proofs.TextRead.{all-read}

pub same-known : (ps qs : List ParsedTree) (tables : List (List SymbolTree)) → map tree_of ps ≡ map tree_of qs → known_of ps tables ≡ known_of qs tables
same-known [] [] tables e = refl
same-known [] (q ∷ qs) tables e = cc
same-known (p ∷ ps) [] tables e = cc
same-known (p ∷ ps) (q ∷ qs) [] e = refl
same-known (p ∷ ps) (q ∷ qs) (table ∷ tables) e =
    let first : tree_of p ≡ tree_of q = cc in
    let others : map tree_of ps ≡ map tree_of qs = cc in
    ap (λ (x : ModuleTree). record { read = x; symbols = table } ∷ known_of ps tables) first
    ∙ ap (λ (xs : List Known). record { read = q.module_read; symbols = table } ∷ xs) (same-known ps qs tables others)

text-by : (show : Show) (m : ReadModule) (o : Option ModuleResults) → printer.module_text m.module_is.places m.module_is.module_read (lines_with show o) ≡ text_with show m o
text-by show m None = refl
text-by show m (Some f) = refl

all-texts : (show : Show) (fs : List ModuleResults) (ms : List ReadModule) → modules_text (by_tree (lines_found show fs)) (map (λ m. m.module_is) ms) ≡ texts_with show fs ms
all-texts show fs [] = refl
all-texts show fs (m ∷ ms) =
    let name = m.module_is.module_read.name in
    ap (λ (x : List ℕ). x ++ modules_text (by_tree (lines_found show fs)) (map (λ m. m.module_is) ms)) (text-by show m (results_for fs name))
    ∙ ap (λ (x : List ℕ). text_with show m (results_for fs name) ++ x) (all-texts show fs ms)

-- modules with the trees of these texts, which are written as those of the texts, whatever is added to each by its tree
pub same-text : (show : Show) (ms : List ParsedTree) (ts : List ModuleText) (g : Graph) → map tree_of ms ≡ map tree_of (trees_in ts)
    → ((fs : List ModuleResults) → modules_text (by_tree (lines_found show fs)) ms ≡ modules_text (by_tree (lines_found show fs)) (trees_in ts))
    → program_text show ms (tables_in ts) g ≡ session_text show ts g
same-text show ms ts g e h =
    let fs = results_of_modules (known_of (trees_in ts) (tables_in ts)) g in
    ap (λ ks. modules_text (by_tree (lines_found show (results_of_modules ks g))) ms) (same-known ms (trees_in ts) (tables_in ts) e)
    ∙ h fs
    ∙ all-texts show fs (modules_in ts)

pub texts_are_written_alike : JoinedHaveTheSameTrees → JoinedAreWrittenAlike → TextsAreWrittenAlike
texts_are_written_alike trees law show ts g h =
    let r = all-read ts h in
    same-text show (joined_modules ts) ts g (trees (texts_of ts) (trees_in ts) r.alone) (λ fs. law (texts_of ts) (trees_in ts) (lines_found show fs) r.alone)
