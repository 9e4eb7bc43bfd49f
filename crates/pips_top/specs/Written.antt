-- The written text of a program: its modules one after another, each with what is said of it.
use Rattle.std.specs.Prelude.{ℕ, List}
use Rattle.laws_programs.specs.roundtrip_programs.Texts.Texts.{modules_text}
use Rattle.laws_programs.specs.roundtrip_programs.Written.Laws.{by_tree}
use Rattle.pips_top.specs.Program.{ProgramTree}
use Rattle.pips_top.specs.Shown.{results_of_program, lines_found}
use Rattle.pips_top.specs.declared.wanted.Wanted.{Wanted}

abbrev pub written : Wanted → ProgramTree → List ℕ
written w p = modules_text (by_tree (lines_found w p.graph (results_of_program p))) p.modules
