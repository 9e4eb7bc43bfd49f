-- What the lines of marks are read as.
use Rattle.std.specs.Prelude.{◌≡◌, ℕ, false, List, map, Some}
use Rattle.std.specs.List.{AllByRecursion}
use Rattle.f77_ast.specs.declared.results.At.{At}
use Rattle.system_text.specs.SystemText.{name_at}
use Rattle.f77_ast.specs.declared.marks.Mark.{Mark}
use Rattle.f77_ast.specs.declared.marks.Mark.TheVariants.{Parallel, Serial}
use Rattle.pipsmake_base.specs.result_lines.MarkText.{obstacle_line, directive_text, directive_lines}
use Rattle.pipsmake_base.specs.result_lines.ReductionText.{reduction_text}
use Rattle.pipsmake_base.specs.result_lines.ShownMarks.{numbers_without}
use Rattle.pipsmake_base.specs.result_lines.declared.reduction.Reduction.{Reduction}
use Rattle.laws_lines.specs.Marks.Directives.{private_alone, is_sentinel, read_lines}
use Rattle.laws_lines.specs.Marks.Lines.{clauses_of}

-- the lines of a directive as the names of its private variables; that of an obstacle is no line for compilers
abbrev pub IsMarkRead : List (List ℕ) → Mark → Type 0
IsMarkRead names (Parallel ns) = read_lines (directive_lines (directive_text names ns)) ≡ Some (private_alone (map (name_at names) ns))
IsMarkRead names (Serial r) = is_sentinel (obstacle_line names r) ≡ false

abbrev pub AreMarksRead : List (List ℕ) → List (At Mark) → Type 0
AreMarksRead names ms = AllByRecursion (λ (m : At Mark). IsMarkRead names m.value) ms

-- ---- loops with reduction variables

-- the lines of its directive, which names none of the functions, are read as the names of its private variables and as its REDUCTION clauses
abbrev pub IsReductionRead : List (List ℕ) → List (List ℕ) → Reduction → Type 0
IsReductionRead functions names r = read_lines (directive_lines (reduction_text names (numbers_without functions names r.private) r.parts)) ≡ Some (clauses_of names (numbers_without functions names r.private) r.parts)

abbrev pub AreReductionsRead : List (List ℕ) → List (List ℕ) → List (At Reduction) → Type 0
AreReductionsRead functions names rs = AllByRecursion (λ (r : At Reduction). IsReductionRead functions names r.value) rs
