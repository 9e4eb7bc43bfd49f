-- The lines on references: SAFE with those that cannot leave their array, CHECK with the others.
use Rattle.std.specs.Prelude.{ℕ, List, [], ◌∷◌, ◌++◌, codes}
use Rattle.f77_ast.specs.Trees.{ExprTree}
use Rattle.f77_ast.specs.Plain.{exprs_of}
use Rattle.f77_printer.specs.declared.added.Added.{Added}
use Rattle.f77_printer.specs.ExprText.{exprs_text}
use Rattle.bound_check.specs.Checked.{ChecksAt}

-- no line without references; a line is as long as they are
abbrev pub word_line : ℕ → List ℕ → List ExprTree → List Added
word_line n word [] = []
word_line n word (e ∷ es) = record { before = n; line = word ++ exprs_text (exprs_of (e ∷ es)) } ∷ []

abbrev pub lines_at : ChecksAt → List Added
lines_at c = word_line c.id (codes "C> SAFE ") c.checks.safe ++ word_line c.id (codes "C> CHECK ") c.checks.others

abbrev pub check_lines_of : List ChecksAt → List Added
check_lines_of [] = []
check_lines_of (c ∷ cs) = lines_at c ++ check_lines_of cs
