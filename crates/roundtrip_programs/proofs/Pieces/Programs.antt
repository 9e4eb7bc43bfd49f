-- A program of one text, and of a text for each module.
use Rattle.std.proofs.Common.{◌≡◌, List, [], ◌∷◌, map, refl, ap, ◌∙◌}
use Rattle.f77_ast.specs.DeclTrees.{ParsedTree}
use Rattle.f77_ast.specs.Symbols.{SymbolTree}
use Rattle.fixed_form.specs.declared.source.Piece.{Piece}
use Rattle.fixed_form.specs.Pieces.{pieces_of}
use Rattle.roundtrip_programs.specs.Laws.{tree_of, TablesIgnorePlaces, GraphsIgnorePlaces}
use Rattle.roundtrip_programs.specs.Programs.{AreTables}
use Rattle.roundtrip_programs.specs.Pieces.Laws.{ArePiecesOf}
use Rattle.roundtrip_programs.specs.Pieces.Joined.{joined_from, AreReadAlone}
use Rattle.roundtrip_programs.specs.Pieces.Programs.{text_in, PiecesMakeTheProgram, JoinedMakeTheProgram}
use Rattle.roundtrip_programs.proofs.Pieces.Pieces.{pieces_are_modules}
use Rattle.roundtrip_programs.proofs.Pieces.Joining.{joined_are_read}
use Rattle.roundtrip_programs.proofs.Written.Joined.{joined-trees as joined-same}

-- the tables of the same modules at other places
tables_again : TablesIgnorePlaces → (ps qs : List ParsedTree) (tables : List (List SymbolTree)) → map tree_of qs ≡ map tree_of ps → AreTables ps tables → AreTables qs tables
tables_again law [] [] tables e h = h
tables_again law [] (q ∷ qs) tables e h = cc
tables_again law (p ∷ ps) [] tables e h = cc
tables_again law (p ∷ ps) (q ∷ qs) [] e h = absurd h
tables_again law (p ∷ ps) (q ∷ qs) (table ∷ tables) e h =
    let first : tree_of q ≡ tree_of p = cc in
    let others : map tree_of qs ≡ map tree_of ps = cc in
    (law p q table first h.0, tables_again law ps qs tables others h.1)

record Alone (ps : List Piece) (ms : List ParsedTree) : Type 0 where
  pub alone : List ParsedTree
  pub read : AreReadAlone (map text_in ps) alone
  pub same : map tree_of alone ≡ map tree_of ms

all-alone : (ps : List Piece) (ms : List ParsedTree) → ArePiecesOf ps ms → Alone ps ms
all-alone [] [] h = record { alone = []; read = tt; same = refl }
all-alone [] (m ∷ ms) h = absurd h
all-alone (p ∷ ps) [] h = absurd h
all-alone (p ∷ ps) (m ∷ ms) h =
    let o = all-alone ps ms h.1 in
    let f = h.0 in record {
      alone = f.alone ∷ o.alone;
      read = (f.read, o.read);
      same = ap (λ x. tree_of x ∷ map tree_of o.alone) f.same ∙ ap (λ xs. tree_of m ∷ xs) o.same;
    }

pub pieces_make_the_program : TablesIgnorePlaces → GraphsIgnorePlaces → PiecesMakeTheProgram
pieces_make_the_program tabled linked text ms tables g p =
    let a = all-alone (pieces_of text p.read.lines.lines) ms (pieces_are_modules text p.read.lines ms p.read.lined p.read.parsed) in record {
      alone = a.alone;
      program = record { read = a.read; tabled = tables_again tabled ms a.alone tables a.same p.tabled; linked = linked ms a.alone tables g a.same p.linked };
    }

pub joined_make_the_program : TablesIgnorePlaces → GraphsIgnorePlaces → JoinedMakeTheProgram
joined_make_the_program tabled linked texts ms tables g p =
    let again : List ParsedTree = joined_from [] 0 texts ms in
    let same : map tree_of again ≡ map tree_of ms = joined-same [] 0 texts ms p.read in record {
      read = joined_are_read texts ms p.read;
      tabled = tables_again tabled ms again tables same p.tabled;
      linked = linked ms again tables g same p.linked;
    }
