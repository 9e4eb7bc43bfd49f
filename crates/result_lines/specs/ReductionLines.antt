-- The lines of a module some of whose loops have reduction variables.
use Rattle.std.specs.Prelude.{ℕ, Bool, true, false, List, [], ◌∷◌, ◌++◌, map, Option, Some, None, if◌then◌else◌}
use Rattle.f77_printer.specs.declared.added.Added.{Added}
use Rattle.f77_ast.specs.declared.results.At.{At}
use Rattle.f77_ast.specs.declared.marks.Reason.{Reason}
use Rattle.f77_ast.specs.declared.marks.Mark.{Mark}
use Rattle.f77_ast.specs.declared.marks.Mark.TheVariants.{Parallel, Serial}
use Rattle.f77_meaning.specs.Modules.{Known, symbol_names}
use Rattle.transformers.specs.Lists.{value_at}
use Rattle.privatizer.specs.Functions.{module_functions}
use Rattle.result_lines.specs.ScalarLines.{before}
use Rattle.result_lines.specs.MarkText.{obstacle_line, directive_lines}
use Rattle.result_lines.specs.MarkLines.{lines_at}
use Rattle.result_lines.specs.ShownMarks.{numbers_without, mark_without}
use Rattle.result_lines.specs.ReductionText.{reduction_text}
use Rattle.result_lines.specs.Lines.{PrintedResults, claims_of, mark_lines_of}
use Rattle.result_lines.specs.declared.reduction.Part.{Part}
use Rattle.result_lines.specs.declared.reduction.Reduction.{Reduction}
use Rattle.result_lines.specs.declared.show.Show.{Show}
use Rattle.result_lines.specs.declared.show.Show.TheVariants.{All, Bare, Why}

-- ---- loops

-- the directive of the DO with this number, which names none of the functions
abbrev pub directive_at : List (List ℕ) → List (List ℕ) → ℕ → Reduction → List Added
directive_at functions names n r = map (before n) (directive_lines (reduction_text names (numbers_without functions names r.private) r.parts))

abbrev pub by_reduction : List (List ℕ) → List (List ℕ) → ℕ → Option Reduction → List Added → List Added
by_reduction functions names n None others = others
by_reduction functions names n (Some r) others = directive_at functions names n r

-- a DO with reduction variables has its directive, another one the lines of its mark
abbrev pub loop_lines_at : List (List ℕ) → List (List ℕ) → Bool → List (At Reduction) → At Mark → List Added
loop_lines_at functions names why rs m = by_reduction functions names m.id (value_at rs m.id) (lines_at names why m.id (mark_without functions names m.value))

-- `why`: obstacles are asked for
abbrev pub loop_lines : List (List ℕ) → List (List ℕ) → Bool → List (At Reduction) → List (At Mark) → List Added
loop_lines functions names why rs [] = []
loop_lines functions names why rs (m ∷ ms) = loop_lines_at functions names why rs m ++ loop_lines functions names why rs ms

-- ---- a module

-- without reduction variables the lines are those of the marks alone
abbrev pub loop_lines_of : Known → Bool → List (At Reduction) → List (At Mark) → List Added
loop_lines_of k why [] ms = mark_lines_of k why ms
loop_lines_of k why (r ∷ rs) ms = loop_lines (module_functions k.read) (symbol_names k.symbols) why (r ∷ rs) ms

-- as `lines_of`, with the lines on the checks of references behind the claims; so it is word for word where there are none, and no loop has reduction variables
abbrev pub reduced_lines_of : Show → Known → PrintedResults → List (At Reduction) → List Added → List Added
reduced_lines_of All k r rs checks = claims_of k r ++ (checks ++ loop_lines_of k true rs r.marks)
reduced_lines_of Bare k r rs checks = checks ++ loop_lines_of k false rs r.marks
reduced_lines_of Why k r rs checks = checks ++ loop_lines_of k true rs r.marks

-- ---- what is said of loops

-- a directive, with these private symbols and these reduction variables, or an obstacle
pub data LoopSaid : Type 0 where
  Directed : List ℕ → List Part → LoopSaid
  Obstructed : Reason → LoopSaid

abbrev pub said_lines_at : List (List ℕ) → Bool → ℕ → LoopSaid → List Added
said_lines_at names why n (Directed ns ps) = map (before n) (directive_lines (reduction_text names ns ps))
said_lines_at names why n (Obstructed r) = if why then before n (obstacle_line names r) ∷ [] else []

-- `why`: obstacles are asked for
abbrev pub said_lines : List (List ℕ) → Bool → List (At LoopSaid) → List Added
said_lines names why [] = []
said_lines names why (s ∷ ss) = said_lines_at names why s.id s.value ++ said_lines names why ss

abbrev pub said_by_mark : Mark → LoopSaid
said_by_mark (Parallel ns) = Directed ns []
said_by_mark (Serial r) = Obstructed r

-- of a DO with this mark, and with this reduction, if it has one; no function is named
abbrev pub loop_said : List (List ℕ) → List (List ℕ) → Mark → Option Reduction → LoopSaid
loop_said functions names v None = said_by_mark (mark_without functions names v)
loop_said functions names v (Some r) = Directed (numbers_without functions names r.private) r.parts

abbrev pub loop_said_at : List (List ℕ) → List (List ℕ) → List (At Reduction) → At Mark → At LoopSaid
loop_said_at functions names rs m = record { id = m.id; value = loop_said functions names m.value (value_at rs m.id) }

-- of the DO statements of a module
abbrev pub loops_said : Known → List (At Reduction) → List (At Mark) → List (At LoopSaid)
loops_said k rs ms = map (loop_said_at (module_functions k.read) (symbol_names k.symbols) rs) ms
