-- The written text of a program is read as the same program.
use Rattle.std.proofs.Common.{◌≡◌, List, [], ◌∷◌, map}
use Rattle.f77_ast.specs.DeclTrees.{ParsedTree}
use Rattle.f77_ast.specs.Symbols.{SymbolTree}
use Rattle.f77_names.specs.Lines.{lines_of}
use Rattle.roundtrip_programs.specs.Texts.Laws.{TextsReadBack}
use Rattle.roundtrip_programs.specs.Laws.{tree_of}
use Rattle.roundtrip_programs.specs.Programs.{AreTables, ProgramsReadBack, NamesAreShown}
use Rattle.roundtrip_programs.proofs.Tables.{tables_ignore_places}
use Rattle.roundtrip_programs.proofs.Graphs.{graphs_ignore_places}
use Rattle.roundtrip_programs.proofs.Body.{table_named}
use Rattle.roundtrip_programs.proofs.Listed.{table_shown}
use Rattle.roundtrip_programs.specs.Lines.{IsShown}
use Rattle.roundtrip_programs.proofs.Names.{name_shown}

tables_again : (ps qs : List ParsedTree) (tables : List (List SymbolTree)) → map tree_of qs ≡ map tree_of ps → AreTables ps tables → AreTables qs tables
tables_again [] [] tables e h = h
tables_again [] (q ∷ qs) tables e h = cc
tables_again (p ∷ ps) [] tables e h = cc
tables_again (p ∷ ps) (q ∷ qs) [] e h = absurd h
tables_again (p ∷ ps) (q ∷ qs) (table ∷ tables) e h =
    let first : tree_of q ≡ tree_of p = cc in
    let others : map tree_of qs ≡ map tree_of ps = cc in
    (tables_ignore_places p q table first h.0, tables_again ps qs tables others h.1)

pub programs_read_back : TextsReadBack → ProgramsReadBack
programs_read_back back text ps tables g added r a =
    let b = back text ps added r.read a in
    record {
      again = b.again;
      program = record { read = b.read; tabled = tables_again ps b.again tables b.same r.tabled; linked = graphs_ignore_places ps b.again tables g b.same r.linked };
      same = b.same;
      written = b.written;
    }

pub names_are_shown : NamesAreShown
names_are_shown p table w f e = table_shown p table (table_named IsShown name_shown (lines_of p.places.spots) p.module_read w f) e
