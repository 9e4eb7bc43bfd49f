-- What is written of a module so far, and the lines that its parts add (ANSI X3.9-1978 §3.2).
use Rattle.std.specs.Prelude.{ℕ, List, [], ◌∷◌, ◌++◌, Bool, true, false, nat_eq, ◌&&◌, Option, codes, if◌then◌else◌}
use Rattle.f77_ast.specs.declared.places.Part.{Part}
use Rattle.f77_ast.specs.declared.places.Part.TheVariants.{Title, Decl, Stmt, ElseIf, Else, Close, End}
use Rattle.f77_ast.specs.declared.places.Spot.{Spot}
use Rattle.f77_printer.specs.Layout.{statement_lines}

-- the text, and the spots of the parts that are still to come
pub record PageTree : Type 0 where
  pub text : List ℕ
  pub spots : List Spot

-- whether two parts are the same
abbrev pub is_part : Part → Part → Bool
is_part Title Title = true
is_part (Decl n) (Decl m) = nat_eq n m
is_part (Stmt i) (Stmt j) = nat_eq i j
is_part (ElseIf i n) (ElseIf j m) = nat_eq i j && nat_eq n m
is_part (Else i) (Else j) = nat_eq i j
is_part (Close i) (Close j) = nat_eq i j
is_part End End = true
is_part _ _ = false

-- lines as they are, each ended by LF
abbrev pub lines_text : List (List ℕ) → List ℕ
lines_text [] = []
lines_text (l ∷ ls) = l ++ codes "\n" ++ lines_text ls

-- a text more
unfoldable pub with_text : List ℕ → PageTree → PageTree
with_text more p = record p { text = p.text ++ more }

-- the comments of a spot, which is used up
abbrev pub with_spot : Spot → List Spot → PageTree → PageTree
with_spot s others p = record { text = p.text ++ lines_text s.comments; spots = others }

-- a part, where these are the spots still to come
abbrev pub with_next : Part → List Spot → PageTree → PageTree
with_next part [] p = p
with_next part (s ∷ ss) p = if is_part part s.part then with_spot s ss p else p

-- the comments of a part; none where the next spot is of another part, as at the END DO of a labelled DO
unfoldable pub with_comments : Part → PageTree → PageTree
with_comments part p = with_next part p.spots p

-- a statement with its label, in the lines that it takes
abbrev pub with_line : Option ℕ → List ℕ → PageTree → PageTree
with_line label text p = with_text (statement_lines label text) p
