-- A program, its modules in one text or each in its own.
use Rattle.std.specs.Prelude.{◌≡◌, ℕ, List, [], map, Ok}
use Rattle.f77_ast.specs.DeclTrees.{ParsedTree}
use Rattle.f77_ast.specs.Symbols.{SymbolTree}
use Rattle.call_graph.specs.declared.graph.Graph.{Graph}
use Rattle.call_graph.specs.Links.{link_of}
use Rattle.fixed_form.specs.declared.source.Piece.{Piece}
use Rattle.fixed_form.specs.Pieces.{pieces_of}
use Rattle.roundtrip_programs.specs.Programs.{AreTables, IsProgram}
use Rattle.roundtrip_programs.specs.Pieces.Joined.{AreReadAlone, joined_texts, joined_from}

-- each text is read as one module, and these have these tables and this graph
pub record IsProgramOf (texts : List (List ℕ)) (ms : List ParsedTree) (tables : List (List SymbolTree)) (g : Graph) : Type 0 where
  pub read : AreReadAlone texts ms
  pub tabled : AreTables ms tables
  pub linked : link_of ms tables ≡ Ok g

abbrev pub text_in : Piece → List ℕ
text_in p = p.text

pub record SomeProgramOf (texts : List (List ℕ)) (tables : List (List SymbolTree)) (g : Graph) : Type 0 where
  pub alone : List ParsedTree
  pub program : IsProgramOf texts alone tables g

-- the pieces of the text of a program, each read by itself, make a program with the same tables and the same graph
abbrev pub PiecesMakeTheProgram : Type 0
PiecesMakeTheProgram = (text : List ℕ) (ms : List ParsedTree) (tables : List (List SymbolTree)) (g : Graph) (p : IsProgram text ms tables g)
    → SomeProgramOf (map text_in (pieces_of text p.read.lines.lines)) tables g

-- texts of modules, each read by itself, that make a program make it also when they are joined
abbrev pub JoinedMakeTheProgram : Type 0
JoinedMakeTheProgram = (texts : List (List ℕ)) (ms : List ParsedTree) (tables : List (List SymbolTree)) (g : Graph)
    → IsProgramOf texts ms tables g → IsProgram (joined_texts texts) (joined_from [] 0 texts ms) tables g
