use Rattle.std.proofs.Common.{◌≡◌, ◌++◌, drop, map}
use Rattle.std.specs.Prelude.{codes}
use Rattle.system_text.specs.SystemText.{cells_text, name_at}
use Rattle.system_text.proofs.TextLaws.{left_of}
use Rattle.system_text.proofs.text.put_cells.Given as goal

abbrev pub invariant-loop-cell : goal.invariant-loop-cell
invariant-loop-cell l = l.out.items ++ left_of l.any (codes ",") (map (name_at l.names) (drop l.cell-index l.cells)) ≡ l.fn.out.items ++ cells_text l.names l.cells
