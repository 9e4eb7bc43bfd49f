-- The lines before the DO statements of a module: directives, and where they are asked for obstacles.
use Rattle.std.specs.Prelude.{ℕ, Bool, List, [], ◌∷◌, ◌++◌, map, if◌then◌else◌}
use Rattle.f77_printer.specs.declared.added.Added.{Added}
use Rattle.f77_ast.specs.declared.results.At.{At}
use Rattle.result_lines.specs.ScalarLines.{before}
use Rattle.f77_ast.specs.declared.marks.Mark.{Mark}
use Rattle.f77_ast.specs.declared.marks.Mark.TheVariants.{Parallel, Serial}
use Rattle.result_lines.specs.MarkText.{obstacle_line, directive_text, directive_lines}

abbrev pub lines_at : List (List ℕ) → Bool → ℕ → Mark → List Added
lines_at names why n (Parallel ns) = map (before n) (directive_lines (directive_text names ns))
lines_at names why n (Serial r) = if why then before n (obstacle_line names r) ∷ [] else []

-- `why`: obstacles are asked for
abbrev pub mark_lines_of : List (List ℕ) → Bool → List (At Mark) → List Added
mark_lines_of names why [] = []
mark_lines_of names why (m ∷ ms) = lines_at names why m.id m.value ++ mark_lines_of names why ms
