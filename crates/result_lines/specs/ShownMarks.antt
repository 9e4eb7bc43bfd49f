-- The private variables that a directive names: the name of a function is no name of a variable in the module that takes its value (ANSI X3.9-1978 §15.5).
use Rattle.std.specs.Prelude.{ℕ, List, [], ◌∷◌, map, if◌then◌else◌}
use Rattle.f77_ast.specs.DeclTrees.{ModuleTree}
use Rattle.f77_ast.specs.declared.results.At.{At}
use Rattle.f77_ast.specs.declared.marks.Mark.{Mark}
use Rattle.f77_ast.specs.declared.marks.Mark.TheVariants.{Parallel, Serial}
use Rattle.privatizer.specs.Functions.{is_one_of, module_functions}
use Rattle.system_text.specs.SystemText.{Bytes, name_at}

-- ---- without these functions

-- the numbers of symbols
abbrev pub numbers_without : List Bytes → List Bytes → List ℕ → List ℕ
numbers_without functions names [] = []
numbers_without functions names (n ∷ ns) = if is_one_of functions (name_at names n) then numbers_without functions names ns else n ∷ numbers_without functions names ns

abbrev pub mark_without : List Bytes → List Bytes → Mark → Mark
mark_without functions names (Parallel ns) = Parallel (numbers_without functions names ns)
mark_without functions names (Serial r) = Serial r

abbrev pub at_without : List Bytes → List Bytes → At Mark → At Mark
at_without functions names m = record { id = m.id; value = mark_without functions names m.value }

abbrev pub marks_without : List Bytes → List Bytes → List (At Mark) → List (At Mark)
marks_without functions names ms = map (at_without functions names) ms

-- ---- without the functions of which a module takes values

abbrev pub shown_numbers : ModuleTree → List Bytes → List ℕ → List ℕ
shown_numbers m names ns = numbers_without (module_functions m) names ns

abbrev pub shown_mark : ModuleTree → List Bytes → Mark → Mark
shown_mark m names v = mark_without (module_functions m) names v

abbrev pub shown_marks : ModuleTree → List Bytes → List (At Mark) → List (At Mark)
shown_marks m names ms = marks_without (module_functions m) names ms
