-- What the lines kept by a page's parts are.
use Rattle.std.specs.Prelude.{ℕ, ◌≡◌, List, [], ◌++◌, nat_eq, unwrap_or, codes, if◌then◌else◌}
use Rattle.std.specs.declared.hash.FoldHasher.{FoldHasher}
use Rattle.std.specs.declared.hash.BuildHasherDefault.{BuildHasherDefault}
use Rattle.std.specs.HashMap.{get, HashMap}
use Rattle.f77_ast.specs.declared.places.Part.{Part}
use Rattle.f77_ast.specs.declared.places.Part.TheVariants.{Title, Decl, Stmt, ElseIf, Else, Close, End}
use Rattle.f77_printer.specs.declared.added.Lines.{Lines}
use Rattle.f77_printer.specs.PageText.{is_part}

-- what is kept for a part that is not the first
abbrev pub other_text : HashMap ℕ (List ℕ) (BuildHasherDefault FoldHasher) → Part → List ℕ
other_text m Title = []
other_text m (Decl n) = []
other_text m (Stmt id) = unwrap_or (get nat_eq m id) []
other_text m (ElseIf id n) = []
other_text m (Else id) = []
other_text m (Close id) = []
other_text m End = []

unfoldable pub lines_of : Lines → Part → List ℕ
lines_of l part = if is_part part l.first then l.at_first else other_text l.others part

-- a line more at a part, and what it was at others
abbrev pub more_at : Part → List ℕ → (Part → List ℕ) → Part → List ℕ
more_at here line before part = if is_part part here then before part ++ line ++ codes "\n" else before part

abbrev pub HasMore : Part → List ℕ → (Part → List ℕ) → (Part → List ℕ) → Type 0
HasMore here line before after = (part : Part) → after part ≡ more_at here line before part
