-- The texts of the modules of a source: each is read as its module, its lines counted from where the text begins.
use Rattle.std.proofs.Common.{◌≡◌, ℕ, List, [], ◌∷◌, ◌++◌, map, Some, refl, sym, ap, subst}
use Rattle.std.specs.Prelude.{slice_get, option_to_list}
use Rattle.f77_ast.specs.DeclTrees.{ParsedTree}
use Rattle.f77_ast.specs.Symbols.{SymbolTree}
use Rattle.fixed_form.specs.declared.source.Piece.{Piece}
use Rattle.laws_programs.specs.roundtrip_programs.Statements.Formed.{Each}
use Rattle.laws_programs.specs.roundtrip_programs.Laws.{tree_of, TablesIgnorePlaces}
use Rattle.laws_programs.specs.roundtrip_programs.Programs.{AreTables}
use Rattle.laws_programs.specs.roundtrip_programs.Pieces.Laws.{ArePiecesOf}
use Rattle.session_texts.specs.pipsmake_meaning.Texts.{ModuleText, ReadModule, module_read, modules_in, trees_in, tables_in}
use Rattle.session_texts.specs.Sources.{named_texts}
use Rattle.laws_database.specs.Sources.Whole.{lines_before}
use Rattle.laws_database.proofs.Sources.Calls.{CallsHaveLines, calls_have_lines}
use Rattle.laws_database.proofs.Sources.Moved.{AreMoved, moved_later}
use Rattle.session_texts.proofs.SourceTexts.{read_alone}

-- so many lines of the source come before the text at a place
abbrev pub before_of : List ModuleText → ℕ → ℕ
before_of ts place = lines_before (slice_get ts place)

pub record PiecesRead (ts : List ModuleText) (ms : List ParsedTree) (tables : List (List SymbolTree)) : Type 0 where
  pub tabled : tables_in ts ≡ tables
  pub moved : AreMoved (before_of ts) 0 (trees_in ts) ms
  pub lines : Each CallsHaveLines (trees_in ts)

-- of the modules that the texts are read as
record ReadAs (ts : List ModuleText) (rs : List ReadModule) (ms : List ParsedTree) (tables : List (List SymbolTree)) : Type 0 where
  tabled : map (λ r. r.table) rs ≡ tables
  moved : AreMoved (before_of ts) 0 (map (λ r. r.module_is) rs) ms
  lines : Each CallsHaveLines (map (λ r. r.module_is) rs)

read-as : TablesIgnorePlaces → (ps : List Piece) (ms : List ParsedTree) (tables : List (List SymbolTree)) → ArePiecesOf ps ms → AreTables ms tables
    → (let ts = named_texts ps ms in ReadAs ts (modules_in ts) ms tables)
read-as law [] [] [] h k = record { tabled = refl; moved = tt; lines = tt }
read-as law [] [] (table ∷ tables) h k = absurd k
read-as law [] (m ∷ ms) tables h k = absurd h
read-as law (p ∷ ps) [] tables h k = absurd h
read-as law (p ∷ ps) (m ∷ ms) [] h k = absurd k
read-as law (p ∷ ps) (m ∷ ms) (table ∷ tables) h k =
    let alone = h.0.alone in
    let same : tree_of alone ≡ tree_of m = ap tree_of h.0.same in
    let found : ReadModule = record { module_is = alone; table = table } in
    let us = named_texts ps ms in
    let ts = named_texts (p ∷ ps) (m ∷ ms) in
    let read : module_read p.text ≡ Some found = read_alone p.text alone table h.0.read (law m alone table same k.0) in
    let all : modules_in ts ≡ found ∷ modules_in us = ap (λ o. option_to_list o ++ modules_in us) read in
    let rest = read-as law ps ms tables h.1 k.1 in
    let first : ReadAs ts (found ∷ modules_in us) (m ∷ ms) (table ∷ tables) = record {
      tabled = ap (λ xs. table ∷ xs) rest.tabled;
      moved = (sym h.0.same, moved_later (before_of ts) 0 (trees_in us) ms rest.moved);
      lines = record { first = calls_have_lines p.text alone h.0.read; others = rest.lines };
    } in
    subst (λ (rs : List ReadModule). ReadAs ts rs (m ∷ ms) (table ∷ tables)) (sym all) first

pub pieces_read : TablesIgnorePlaces → (ps : List Piece) (ms : List ParsedTree) (tables : List (List SymbolTree)) → ArePiecesOf ps ms → AreTables ms tables → PiecesRead (named_texts ps ms) ms tables
pieces_read law ps ms tables h k = let r = read-as law ps ms tables h k in record { tabled = r.tabled; moved = r.moved; lines = r.lines }
