-- The text of the statements of a module: before each its comments and what is added.
use Rattle.std.specs.Prelude.{ℕ, List, [], ◌∷◌, ◌++◌, Option, Some, None, if◌then◌else◌}
use Rattle.f77_ast.specs.declared.places.Part.{Part}
use Rattle.f77_ast.specs.declared.places.Part.TheVariants.{Title, Decl, Stmt, ElseIf, Else, Close, End}
use Rattle.f77_ast.specs.declared.places.Spot.{Spot}
use Rattle.f77_printer.specs.Layout.{statement_lines}
use Rattle.f77_printer.specs.PageText.{is_part, lines_text}
use Rattle.roundtrip_programs.specs.Statements.Written.{phrase_text}
use Rattle.roundtrip_programs.specs.ModuleTexts.Cards.{Card}

-- the comments of a part, where the next spot is its own
abbrev pub comments_at : Part → List Spot → List (List ℕ)
comments_at part [] = []
comments_at part (s ∷ ss) = if is_part part s.part then s.comments else []

-- the spots behind those comments
abbrev pub spots_behind : Part → List Spot → List Spot
spots_behind part [] = []
spots_behind part (s ∷ ss) = if is_part part s.part then ss else s ∷ ss

-- the same of the statement in a logical IF
abbrev pub inner_comments : Option Part → List Spot → List (List ℕ)
inner_comments None spots = []
inner_comments (Some part) spots = comments_at part spots

abbrev pub inner_behind : Option Part → List Spot → List Spot
inner_behind None spots = spots
inner_behind (Some part) spots = spots_behind part spots

-- what is added before a part; before ELSE IF, ELSE, END IF and END DO nothing is
abbrev pub added_at : (Part → List ℕ) → Part → List ℕ
added_at added Title = added Title
added_at added (Decl n) = added (Decl n)
added_at added (Stmt i) = added (Stmt i)
added_at added (ElseIf i n) = []
added_at added (Else i) = []
added_at added (Close i) = []
added_at added End = added End

-- the spots behind those of a statement
abbrev pub behind : Card → List Spot → List Spot
behind c spots = inner_behind c.inner (spots_behind c.part spots)

-- a statement behind its comments and what is added
abbrev pub card_text : (Part → List ℕ) → List Spot → Card → List ℕ
card_text added spots c =
    lines_text (comments_at c.part spots) ++ added_at added c.part ++ lines_text (inner_comments c.inner (spots_behind c.part spots))
    ++ statement_lines c.label (phrase_text c.phrase)

-- statements one after another
abbrev pub page_text : (Part → List ℕ) → List Spot → List Card → List ℕ
page_text added spots [] = []
page_text added spots (c ∷ cs) = card_text added spots c ++ page_text added (behind c spots) cs
