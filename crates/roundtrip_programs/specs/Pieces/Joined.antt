-- Texts of modules one after another, and the modules that they are read as.
use Rattle.std.specs.Prelude.{ℕ, ◌+◌, List, [], ◌∷◌, ◌++◌, length, if◌then◌else◌, nat_eq}
use Rattle.fixed_form.specs.Characters.{line_feed}
use Rattle.fixed_form.specs.TextLines.{text_lines}
use Rattle.f77_ast.specs.declared.places.Spot.{Spot}
use Rattle.f77_ast.specs.DeclTrees.{ParsedTree}
use Rattle.roundtrip_programs.specs.Texts.Texts.{IsReadAs}
use Rattle.roundtrip_programs.specs.Pieces.Moved.{moved}

-- the last line of a text ends with a line feed
abbrev pub ended : List ℕ → List ℕ
ended [] = []
ended (b ∷ []) = if nat_eq b line_feed then b ∷ [] else b ∷ line_feed ∷ []
ended (b ∷ c ∷ bs) = b ∷ ended (c ∷ bs)

-- these texts one after another
abbrev pub joined_texts : List (List ℕ) → List ℕ
joined_texts [] = []
joined_texts (t ∷ ts) = ended t ++ joined_texts ts

-- more comments before the first statement
abbrev pub before_spots : List (List ℕ) → List Spot → List Spot
before_spots comments [] = []
before_spots comments (q ∷ qs) = record q { comments = comments ++ q.comments } ∷ qs

abbrev pub after_comments : List (List ℕ) → ParsedTree → ParsedTree
after_comments comments p = record p { places = record p.places { spots = before_spots comments p.places.spots } }

-- no comments after the last statement
abbrev pub unclosed : ParsedTree → ParsedTree
unclosed p = record p { places = record p.places { closing = [] } }

-- the modules of texts that follow so many lines and these comments: the comments at the end of a text come before the first statement of the next
abbrev pub joined_from : List (List ℕ) → ℕ → List (List ℕ) → List ParsedTree → List ParsedTree
joined_from comments by [] ms = []
joined_from comments by (t ∷ ts) [] = []
joined_from comments by (t ∷ []) (m ∷ ms) = after_comments comments (moved by m) ∷ []
joined_from comments by (t ∷ u ∷ ts) (m ∷ ms) =
    unclosed (after_comments comments (moved by m)) ∷ joined_from m.places.closing (by + length (text_lines t)) (u ∷ ts) ms

-- each text is read as one module, which is this
abbrev pub AreReadAlone : List (List ℕ) → List ParsedTree → Type 0
AreReadAlone [] [] = Unit {0}
AreReadAlone [] (m ∷ ms) = ⊥
AreReadAlone (t ∷ ts) [] = ⊥
AreReadAlone (t ∷ ts) (m ∷ ms) = IsReadAs t (m ∷ []) × AreReadAlone ts ms

-- texts that are each read as one module are read as these modules when they are joined: the trees are the same, the lines are counted on, and comments
-- at the end of a text that is not the last are those before the first statement of the next
abbrev pub JoinedAreRead : Type 0
JoinedAreRead = (texts : List (List ℕ)) (ms : List ParsedTree) → AreReadAlone texts ms → IsReadAs (joined_texts texts) (joined_from [] 0 texts ms)
