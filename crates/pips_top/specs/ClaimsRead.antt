-- What is written of a program is read, with its claims, as the same program with the claims that are said of it.
use Rattle.std.specs.Prelude.{◌≡◌, List, map, Ok}
use Rattle.f77_ast.specs.DeclTrees.{ParsedTree}
use Rattle.laws_lines.specs.Marks.ClaimsRead.{Standing, ReadClaims, claims_added}
use Rattle.pips_top.specs.Program.{ProgramTree}
use Rattle.pips_top.specs.ReadBack.{SameProgram}
use Rattle.pips_top.specs.Reading.{reading}
use Rattle.pips_top.specs.Shown.{results_of_program, lines_for}
use Rattle.pips_top.specs.Written.{written}
use Rattle.pips_top.specs.declared.wanted.Wanted.{Wanted}

-- of each module the claims among the lines that show its results, each before its part
abbrev pub claims_shown : Wanted → ProgramTree → List (List Standing)
claims_shown show p = map (λ (m : ParsedTree). claims_added m.module_read (lines_for show p.graph (results_of_program p) m.module_read.name)) p.modules

-- the text is not refused, and is the same program; and these claims stand in its bytes, each before its part, and no others
pub record ReadsClaims (show : Wanted) (p : ProgramTree) : Type 0 where
  pub again : ProgramTree
  pub read : reading (written show p) ≡ Ok again
  pub same : SameProgram p again
  pub claims : ReadClaims (written show p) again.modules (claims_shown show p)
