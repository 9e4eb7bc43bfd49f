-- The lines of statements with statements in them.
use Rattle.std.proofs.Common.{◌≡◌, ℕ, List, ◌++◌, refl, ap, ◌∙◌, append_assoc}
use Rattle.std.specs.Prelude.{codes}
use Rattle.f77_ast.specs.Trees.{arm, more_arms}
use Rattle.f77_ast.specs.Hidden.{IfForm}
use Rattle.f77_printer.specs.ExprText.{expr_text, exprs_text}
use Rattle.f77_printer.specs.StatementText.{if_text}
use Rattle.roundtrip_programs.specs.Statements.Laws.{LinesAreWritten}

from_third : (a b c d e f : List ℕ) → a ++ b ++ c ++ d ++ e ++ f ≡ a ++ b ++ (c ++ d ++ e ++ f)
from_third a b c d e f = simp append_assoc

pub lines_are_written : LinesAreWritten
lines_are_written = record {
  loop_line = λ i first last step body. refl;
  block_line = λ test body others other h. ap (λ (x : IfForm). if_text x (more_arms (arm test body) others)) h;
  reference_line = λ v f es arms other h. ap (λ (x : IfForm). if_text x arms) h ∙ from_third (expr_text v) (codes " = ") f (codes "(") (exprs_text es) (codes ")");
  while_line = λ l test body arms other h. ap (λ (x : IfForm). if_text x arms) h;
  logical_line = λ e id label w. refl;
}
