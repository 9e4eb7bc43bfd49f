-- The pieces of the text of a program are its modules, and make the program.
use Rattle.std.proofs.Common.{◌≡◌, ℕ, List, [], ◌∷◌, map, refl, sym, ap, ◌∙◌, subst}
use Rattle.std.specs.Prelude.{Ok}
use Rattle.f77_ast.specs.DeclTrees.{ParsedTree}
use Rattle.f77_ast.specs.Symbols.{SymbolTree}
use Rattle.storage_layout.specs.Symbols.{symbols_of}
use Rattle.call_graph.specs.Links.{link_of}
use Rattle.f77_meaning.specs.Modules.{known_of}
use Rattle.fixed_form.specs.declared.source.Piece.{Piece}
use Rattle.fixed_form.specs.Pieces.{pieces_of}
use Rattle.laws_programs.specs.roundtrip_programs.Laws.{tree_of, TablesIgnorePlaces, GraphsIgnorePlaces}
use Rattle.laws_programs.specs.roundtrip_programs.Programs.{AreTables}
use Rattle.laws_programs.specs.roundtrip_programs.Pieces.Laws.{IsPieceOf, ArePiecesOf, PiecesAreModules}
use Rattle.laws_programs.specs.roundtrip_programs.Pieces.Joined.{AreReadAlone}
use Rattle.laws_programs.specs.roundtrip_programs.Pieces.Programs.{text_in}
use Rattle.laws_programs.specs.roundtrip_programs.Written.Laws.{PiecesAreWrittenAlike, PiecesHaveTheSameTrees}
use Rattle.session_texts.specs.pipsmake_meaning.Texts.{ModuleText, module_read, IsModule, AreModules, names_in, trees_in, tables_in}
use Rattle.laws_database.specs.ProgramTexts.{name_of, lines_found, program_text, texts_of}
use Rattle.laws_database.specs.ProgramTextLaws.{PiecesAreTheProgram}
use Rattle.laws_database.proofs.TextRead.{all-read}
use Rattle.laws_database.proofs.TextSame.{same-known, same-text}
use Rattle.session_texts.proofs.SourceTexts.{read_alone}

-- ---- each piece is a module

piece-module : TablesIgnorePlaces → (t : ModuleText) (p : Piece) (m : ParsedTree) (table : List SymbolTree) → t.text ≡ p.text → t.name ≡ name_of m → IsPieceOf p m → symbols_of m ≡ Ok table → IsModule t
piece-module law t p m table e n h s =
    let same : tree_of h.alone ≡ tree_of m = ap tree_of h.same in
    record {
      found = record { module_is = h.alone; table = table };
      is_read = ap module_read e ∙ read_alone p.text h.alone table h.read (law m h.alone table same s);
      is_named = ap (λ x. x.name) same ∙ sym n;
    }

all-modules : TablesIgnorePlaces → (ts : List ModuleText) (ps : List Piece) (ms : List ParsedTree) (tables : List (List SymbolTree)) → texts_of ts ≡ map text_in ps → names_in ts ≡ map name_of ms
    → ArePiecesOf ps ms → AreTables ms tables → AreModules ts
all-modules law [] ps ms tables e n h s = tt
all-modules law (t ∷ ts) [] ms tables e n h s = cc
all-modules law (t ∷ ts) (p ∷ ps) [] tables e n h s = absurd h
all-modules law (t ∷ ts) (p ∷ ps) (m ∷ ms) [] e n h s = absurd s
all-modules law (t ∷ ts) (p ∷ ps) (m ∷ ms) (table ∷ tables) e n h s =
    let text : t.text ≡ p.text = cc in
    let texts : texts_of ts ≡ map text_in ps = cc in
    let name : t.name ≡ name_of m = cc in
    let names : names_in ts ≡ map name_of ms = cc in
    (piece-module law t p m table text name h.0 s.0, all-modules law ts ps ms tables texts names h.1 s.1)

-- ---- they make the program

-- modules with the same trees have the same tables
same-tables : TablesIgnorePlaces → (ps qs : List ParsedTree) (ss tables : List (List SymbolTree)) → map tree_of qs ≡ map tree_of ps → AreTables ps ss → AreTables qs tables → tables ≡ ss
same-tables law [] [] [] [] e h g = refl
same-tables law [] [] [] (table ∷ tables) e h g = absurd g
same-tables law [] [] (s ∷ ss) tables e h g = absurd h
same-tables law [] (q ∷ qs) ss tables e h g = cc
same-tables law (p ∷ ps) [] ss tables e h g = cc
same-tables law (p ∷ ps) (q ∷ qs) [] tables e h g = absurd h
same-tables law (p ∷ ps) (q ∷ qs) (s ∷ ss) [] e h g = absurd g
same-tables law (p ∷ ps) (q ∷ qs) (s ∷ ss) (table ∷ tables) e h g =
    let first : tree_of q ≡ tree_of p = cc in
    let others : map tree_of qs ≡ map tree_of ps = cc in
    let both : Ok table ≡ Ok s = sym g.0 ∙ law p q s first h.0 in
    let same : table ≡ s = cc in
    ap (λ x. x ∷ tables) same ∙ ap (λ xs. s ∷ xs) (same-tables law ps qs ss tables others h.1 g.1)

pub pieces_are_the_program : TablesIgnorePlaces → GraphsIgnorePlaces → PiecesAreModules → PiecesHaveTheSameTrees → PiecesAreWrittenAlike → PiecesAreTheProgram
pieces_are_the_program tables_law graphs_law pieces_law trees_law law text ms tables g p ts e n =
    let ps = pieces_of text p.read.lines.lines in
    let h = all-modules tables_law ts ps ms tables e n (pieces_law text p.read.lines ms p.read.lined p.read.parsed) p.tabled in
    let r = all-read ts h in
    let alone = trees_in ts in
    let P : List (List ℕ) → Type 0 = λ xs. AreReadAlone xs alone in
    let read : AreReadAlone (map text_in ps) alone = subst P e r.alone in
    let same : map tree_of alone ≡ map tree_of ms = trees_law text ms alone p.read read in
    let tabled : tables_in ts ≡ tables = same-tables tables_law ms alone tables (tables_in ts) same p.tabled r.tabled in
    let linked : link_of alone tables ≡ Ok g = graphs_law ms alone tables g same p.linked in
    record {
      modules = h;
      tabled = tabled;
      linked = ap (link_of alone) tabled ∙ linked;
      known = ap (known_of alone) tabled ∙ same-known alone ms tables same;
      alike = λ added. law text ms alone added p.read read;
      written = λ show. ap (λ x. program_text show ms x g) (sym tabled) ∙ same-text show ms ts g (sym same) (λ fs. sym (law text ms alone (lines_found show fs) p.read read));
    }
