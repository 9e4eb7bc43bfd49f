-- The pieces of a text are read as its modules.
use Rattle.std.specs.Prelude.{◌≡◌, ℕ, ◌-◌, List, [], ◌∷◌, Ok}
use Rattle.fixed_form.specs.declared.line.Lines.{Lines}
use Rattle.fixed_form.specs.Reading.{reading}
use Rattle.f77_ast.specs.DeclTrees.{ParsedTree}
use Rattle.f77_parser.specs.Modules.{parse_of}
use Rattle.fixed_form.specs.declared.source.Piece.{Piece}
use Rattle.fixed_form.specs.Pieces.{pieces_of}
use Rattle.roundtrip_programs.specs.Texts.Texts.{IsReadAs}
use Rattle.roundtrip_programs.specs.Pieces.Moved.{moved}

-- a piece is read as this module alone, its lines counted from where the piece begins
pub record IsPieceOf (p : Piece) (m : ParsedTree) : Type 0 where
  pub alone : ParsedTree
  pub read : IsReadAs p.text (alone ∷ [])
  pub same : moved (p.first - 1) alone ≡ m

-- as many pieces as modules, and each is read as its module
abbrev pub ArePiecesOf : List Piece → List ParsedTree → Type 0
ArePiecesOf [] [] = Unit {0}
ArePiecesOf [] (m ∷ ms) = ⊥
ArePiecesOf (p ∷ ps) [] = ⊥
ArePiecesOf (p ∷ ps) (m ∷ ms) = IsPieceOf p m × ArePiecesOf ps ms

-- a text that is read as modules is cut into the texts of these modules
abbrev pub PiecesAreModules : Type 0
PiecesAreModules = (text : List ℕ) (lines : Lines) (ms : List ParsedTree) → reading text ≡ Ok lines → parse_of lines ≡ Ok ms → ArePiecesOf (pieces_of text lines.lines) ms
