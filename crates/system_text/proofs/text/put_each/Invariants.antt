use Rattle.std.proofs.Common.{◌≡◌, ◌++◌, drop, map}
use Rattle.std.specs.Prelude.{codes}
use Rattle.system_text.specs.SystemText.{joined, row_text}
use Rattle.system_text.proofs.TextLaws.{left_of}
use Rattle.system_text.proofs.text.put_each.Given as goal

abbrev pub invariant-loop-row : goal.invariant-loop-row
invariant-loop-row l = l.out.items ++ left_of l.any (codes ", ") (map (row_text l.names) (drop l.row-index l.rows)) ≡ l.fn.out.items ++ joined (codes ", ") (map (row_text l.names) l.rows)
