-- The pieces of a text have the trees of its modules, and are written as these.
use Rattle.std.proofs.Common.{◌≡◌, ℕ, ◌-◌, List, [], ◌∷◌, ◌++◌, map, refl, sym, ap, ◌∙◌}
use Rattle.std.specs.Prelude.{Ok}
use Rattle.f77_ast.specs.DeclTrees.{ModuleTree, ParsedTree}
use Rattle.f77_parser.specs.Modules.{parse_of}
use Rattle.f77_printer.specs.declared.added.Added.{Added}
use Rattle.fixed_form.specs.declared.source.Piece.{Piece}
use Rattle.fixed_form.specs.Pieces.{pieces_of}
use Rattle.roundtrip_programs.specs.Texts.Texts.{IsReadAs, text_of, modules_text}
use Rattle.roundtrip_programs.specs.Laws.{tree_of}
use Rattle.roundtrip_programs.specs.Pieces.Laws.{IsPieceOf, ArePiecesOf, PiecesAreModules}
use Rattle.roundtrip_programs.specs.Pieces.Joined.{AreReadAlone}
use Rattle.roundtrip_programs.specs.Pieces.Programs.{text_in}
use Rattle.roundtrip_programs.specs.Written.Laws.{by_tree, PiecesHaveTheSameTrees, PiecesAreWrittenAlike}
use Rattle.roundtrip_programs.proofs.Written.Moved.{moved_are_written_alike}

-- a text is read as one list of modules
one-reading : (text : List ℕ) (ps qs : List ParsedTree) → IsReadAs text ps → IsReadAs text qs → ps ≡ qs
one-reading text ps qs h k =
    let e : Ok h.lines ≡ Ok k.lines = sym h.lined ∙ k.lined in
    let same : h.lines ≡ k.lines = cc in
    let f : Ok ps ≡ Ok qs = sym h.parsed ∙ ap parse_of same ∙ k.parsed in
    cc

first-same : (a b : ParsedTree) → a ∷ [] ≡ b ∷ [] → a ≡ b
first-same a b e = cc

-- ---- trees

piece-tree : (p : Piece) (m a : ParsedTree) → IsPieceOf p m → IsReadAs p.text (a ∷ []) → tree_of a ≡ tree_of m
piece-tree p m a h r = ap tree_of (first-same a h.alone (one-reading p.text (a ∷ []) (h.alone ∷ []) r h.read)) ∙ ap tree_of h.same

all-trees : (ps : List Piece) (ms alone : List ParsedTree) → ArePiecesOf ps ms → AreReadAlone (map text_in ps) alone → map tree_of alone ≡ map tree_of ms
all-trees [] [] [] h r = refl
all-trees [] [] (a ∷ alone) h r = absurd r
all-trees [] (m ∷ ms) alone h r = absurd h
all-trees (p ∷ ps) [] alone h r = absurd h
all-trees (p ∷ ps) (m ∷ ms) [] h r = absurd r
all-trees (p ∷ ps) (m ∷ ms) (a ∷ alone) h r =
    ap (λ x. x ∷ map tree_of alone) (piece-tree p m a h.0 r.0) ∙ ap (λ xs. tree_of m ∷ xs) (all-trees ps ms alone h.1 r.1)

pub pieces_have_the_same_trees : PiecesAreModules → PiecesHaveTheSameTrees
pieces_have_the_same_trees law text ms alone r h = all-trees (pieces_of text r.lines.lines) ms alone (law text r.lines ms r.lined r.parsed) h

-- ---- texts

piece-text : (added : ModuleTree → List Added) (p : Piece) (m a : ParsedTree) → IsPieceOf p m → IsReadAs p.text (a ∷ []) → text_of (by_tree added) a ≡ text_of (by_tree added) m
piece-text added p m a h r =
    let by : ℕ = p.first - 1 in
    let same : a ≡ h.alone = first-same a h.alone (one-reading p.text (a ∷ []) (h.alone ∷ []) r h.read) in
    ap (text_of (by_tree added)) same
    ∙ sym (moved_are_written_alike by h.alone (added h.alone.module_read))
    ∙ ap (text_of (by_tree added)) h.same

all-texts : (added : ModuleTree → List Added) (ps : List Piece) (ms alone : List ParsedTree) → ArePiecesOf ps ms → AreReadAlone (map text_in ps) alone
    → modules_text (by_tree added) alone ≡ modules_text (by_tree added) ms
all-texts added [] [] [] h r = refl
all-texts added [] [] (a ∷ alone) h r = absurd r
all-texts added [] (m ∷ ms) alone h r = absurd h
all-texts added (p ∷ ps) [] alone h r = absurd h
all-texts added (p ∷ ps) (m ∷ ms) [] h r = absurd r
all-texts added (p ∷ ps) (m ∷ ms) (a ∷ alone) h r =
    ap (λ (x : List ℕ). x ++ modules_text (by_tree added) alone) (piece-text added p m a h.0 r.0)
    ∙ ap (λ (x : List ℕ). text_of (by_tree added) m ++ x) (all-texts added ps ms alone h.1 r.1)

pub pieces_are_written_alike : PiecesAreModules → PiecesAreWrittenAlike
pieces_are_written_alike law text ms alone added r h =
    all-texts added (pieces_of text r.lines.lines) ms alone (law text r.lines ms r.lined r.parsed) h
