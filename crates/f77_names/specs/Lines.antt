-- The lines of the statements of a module.
use Rattle.std.specs.Prelude.{ℕ, Bool, true, false, ◌&&◌, nat_eq, List, [], ◌∷◌, Option, Some, None, if◌then◌else◌}
use Rattle.f77_ast.specs.declared.places.Part.{Part}
use Rattle.f77_ast.specs.declared.places.Part.TheVariants as part
use Rattle.f77_ast.specs.declared.places.Spot.{Spot}
use Rattle.f77_names.specs.declared.lines.Sited.{Sited}
use Rattle.f77_names.specs.declared.lines.Sited.TheVariants.{Title, Decl, Statement, ElseIf}

-- the lines that are known, by what stands there
abbrev pub LineTable : Type 0
LineTable = Sited → Option ℕ

abbrev pub is_title : Part → Bool
is_title part.Title = true
is_title (part.Decl m) = false
is_title (part.Stmt m) = false
is_title (part.ElseIf m k) = false
is_title (part.Else m) = false
is_title (part.Close m) = false
is_title part.End = false

abbrev pub is_decl : ℕ → Part → Bool
is_decl n part.Title = false
is_decl n (part.Decl m) = nat_eq m n
is_decl n (part.Stmt m) = false
is_decl n (part.ElseIf m k) = false
is_decl n (part.Else m) = false
is_decl n (part.Close m) = false
is_decl n part.End = false

abbrev pub is_statement : ℕ → Part → Bool
is_statement n part.Title = false
is_statement n (part.Decl m) = false
is_statement n (part.Stmt m) = nat_eq m n
is_statement n (part.ElseIf m k) = false
is_statement n (part.Else m) = false
is_statement n (part.Close m) = false
is_statement n part.End = false

abbrev pub is_else_if : ℕ → ℕ → Part → Bool
is_else_if n j part.Title = false
is_else_if n j (part.Decl m) = false
is_else_if n j (part.Stmt m) = false
is_else_if n j (part.ElseIf m k) = nat_eq m n && nat_eq k j
is_else_if n j (part.Else m) = false
is_else_if n j (part.Close m) = false
is_else_if n j part.End = false

abbrev pub stands_at : Sited → Part → Bool
stands_at Title p = is_title p
stands_at (Decl n) p = is_decl n p
stands_at (Statement n) p = is_statement n p
stands_at (ElseIf n j) p = is_else_if n j p

-- what was known first stays
abbrev pub or_own : Option ℕ → Option ℕ → Option ℕ
or_own None own = own
or_own (Some old) own = Some old

abbrev pub only_at : Bool → ℕ → Option ℕ
only_at here line = if here then Some line else None

-- the lines with one spot more
abbrev pub with_spot : Part → ℕ → LineTable → LineTable
with_spot p line at s = or_own (at s) (only_at (stands_at s p) line)

-- the line of the first spot of what stands there
abbrev pub lines_of : List Spot → LineTable
lines_of [] s = None
lines_of (q ∷ qs) s = if stands_at s q.part then Some q.first else lines_of qs s

abbrev pub or_line : ℕ → Option ℕ → ℕ
or_line line None = line
or_line line (Some own) = own

-- the line of a statement; one without a spot has that of the statement that it stands in
abbrev pub line_or : LineTable → Sited → ℕ → ℕ
line_or at s line = or_line line (at s)
