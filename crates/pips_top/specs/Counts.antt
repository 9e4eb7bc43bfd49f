-- What is counted of a program.
use Rattle.std.specs.Prelude.{ℕ, ◌+◌, Bool, true, false, List, ◌++◌, length, fold, count_by, nat_eq, codes, decimal}
use Rattle.std.specs.List.{ends_with}
use Rattle.f77_printer.specs.declared.added.Added.{Added}
use Rattle.f77_ast.specs.declared.results.At.{At}
use Rattle.pipsmake_base.specs.loop_marker.Results.{ModuleResults}
use Rattle.f77_ast.specs.declared.marks.Mark.{Mark}
use Rattle.f77_ast.specs.declared.marks.Mark.TheVariants.{Parallel, Serial}
use Rattle.pipsmake_base.specs.result_lines.Lines.{lines_of}
use Rattle.pipsmake_base.specs.result_lines.declared.show.Show.TheVariants.{All}
use Rattle.pipsmake_base.specs.pipsmake_meaning.Definitions.{printed_of}
use Rattle.pips_top.specs.Program.{ProgramTree}
use Rattle.pips_top.specs.Shown.{results_of_program}
use Rattle.pips_top.specs.declared.counts.Counts.{Counts}

abbrev pub is_parallel : Mark → Bool
is_parallel (Parallel ns) = true
is_parallel (Serial r) = false

abbrev pub parallel_among : List (At Mark) → ℕ
parallel_among ms = count_by (λ (m : At Mark). is_parallel m.value) ms

-- lines that end in WEAK
abbrev pub weak_among : List Added → ℕ
weak_among lines = count_by (λ (a : Added). ends_with nat_eq a.line (codes " WEAK")) lines

-- with a module more: its statements, each of which has a precondition, its loops, those that are parallel, and the weak ones of all lines that show its results
abbrev pub with_module : Counts → ModuleResults → Counts
with_module c f = record {
  statements = c.statements + length f.preconditions.at;
  loops = c.loops + length f.marks;
  parallel = c.parallel + parallel_among f.marks;
  weak = c.weak + weak_among (lines_of All f.known (printed_of f));
}

abbrev pub no_counts : Counts
no_counts = record { statements = 0; loops = 0; parallel = 0; weak = 0 }

abbrev pub counts_of : List ModuleResults → Counts
counts_of fs = fold with_module no_counts fs

-- a name, a number, and the end of the line
abbrev pub count_line : List ℕ → ℕ → List ℕ
count_line name n = name ++ (decimal n ++ codes "\n")

abbrev pub counts_lines : ℕ → Counts → List ℕ
counts_lines modules c =
    count_line (codes "modules ") modules ++ (count_line (codes "statements ") c.statements ++ (count_line (codes "loops ") c.loops
    ++ (count_line (codes "parallel ") c.parallel ++ count_line (codes "weak ") c.weak)))

-- the five lines
abbrev pub counts_text : ProgramTree → List ℕ
counts_text p = counts_lines (length p.modules) (counts_of (results_of_program p))
