-- What is written of a program is read again as the same program, and written as the same text.
use Rattle.std.specs.Prelude.{◌≡◌, map, Ok}
use Rattle.f77_ast.specs.DeclTrees.{ParsedTree}
use Rattle.pips_top.specs.Program.{ProgramTree}
use Rattle.pips_top.specs.Reading.{reading}
use Rattle.pips_top.specs.Written.{written}
use Rattle.pips_top.specs.declared.wanted.Wanted.{Wanted}

-- the same modules, whatever the lines at which their statements stand, with the same tables and the same graph
pub record SameProgram (p q : ProgramTree) : Type 0 where
  pub modules : map (λ (m : ParsedTree). m.module_read) q.modules ≡ map (λ (m : ParsedTree). m.module_read) p.modules
  pub tables : q.tables ≡ p.tables
  pub graph : q.graph ≡ p.graph

-- what is written of it, with the lines of what is said of it, is not refused, is the same program, and is written as the same text again
abbrev pub ReadsBack : Wanted → ProgramTree → Type 0
ReadsBack show p = (q : ProgramTree) × (reading (written show p) ≡ Ok q) × SameProgram p q × (written show q ≡ written show p)
