-- Which loops of a program are marked, and with which clauses: by the name of a module and the number of a DO.
use Rattle.std.specs.Prelude.{ℕ, nat_eq, List, [], ◌∷◌, ◌++◌, Option, Some, None, if◌then◌else◌, bytes_eq}
use Rattle.f77_ast.specs.DeclTrees.{ParsedTree}
use Rattle.f77_ast.specs.declared.results.At.{At}
use Rattle.f77_meaning.specs.Modules.{symbol_names}
use Rattle.loop_marker.specs.Results.{ModuleResults}
use Rattle.result_lines.specs.ReductionLines.{LoopSaid, Directed, Obstructed, loops_said}
use Rattle.result_lines.specs.declared.reduction.Reduction.{Reduction}
use Rattle.system_text.specs.Reading.{Bytes}
use Rattle.laws_lines.specs.Marks.Directives.{Clauses}
use Rattle.laws_lines.specs.Marks.Lines.{clauses_of}
use Rattle.laws_lines.specs.Marks.Marked.{with_functions}

-- ---- the parallel loops, each with what its directive says

abbrev pub as_parallel : List Bytes → ℕ → LoopSaid → List (At Clauses)
as_parallel names n (Directed ns ps) = record { id = n; value = clauses_of names ns ps } ∷ []
as_parallel names n (Obstructed r) = []

abbrev pub parallel_in : List Bytes → List (At LoopSaid) → List (At Clauses)
parallel_in names [] = []
parallel_in names (s ∷ ss) = as_parallel names s.id s.value ++ parallel_in names ss

-- ---- by their numbers

-- the clauses of the DO with this number; nothing where it is not marked
abbrev pub clauses_at : List (At Clauses) → ℕ → Option Clauses
clauses_at [] n = None
clauses_at (m ∷ ms) n = if nat_eq m.id n then Some m.value else clauses_at ms n

-- ---- as they are read

-- of modules, with the marked loops of each
abbrev pub directives_of : List ParsedTree → List (List (At Clauses)) → Bytes → ℕ → Option Clauses
directives_of [] mss x n = None
directives_of (p ∷ ps) [] x n = None
directives_of (p ∷ ps) (ms ∷ mss) x n = if bytes_eq p.module_read.name x then clauses_at ms n else directives_of ps mss x n

-- ---- as they are found

abbrev pub name_in : ModuleResults → Bytes
name_in f = f.known.read.name

-- the parallel loops of a module, with these reductions: each with the clauses that its directive has, and the functions of which its body takes values are private, too
abbrev pub parallel_loops : List (At Reduction) → ModuleResults → List (At Clauses)
parallel_loops rs f = with_functions f.known.read (parallel_in (symbol_names f.known.symbols) (loops_said f.known rs f.marks))

-- by the reductions of each module
abbrev pub directives_found : (ModuleResults → List (At Reduction)) → List ModuleResults → Bytes → ℕ → Option Clauses
directives_found reduced [] x n = None
directives_found reduced (f ∷ fs) x n = if bytes_eq (name_in f) x then clauses_at (parallel_loops (reduced f) f) n else directives_found reduced fs x n
