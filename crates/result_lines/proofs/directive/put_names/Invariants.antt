use Rattle.std.proofs.Common.{◌≡◌, ◌++◌, drop, map}
use Rattle.std.specs.Prelude.{codes}
use Rattle.system_text.specs.SystemText.{name_at, joined}
use Rattle.system_text.proofs.TextLaws.{left_of}
use Rattle.result_lines.proofs.directive.put_names.Given as goal

abbrev pub invariant-loop-number : goal.invariant-loop-number
invariant-loop-number l = l.out ++ left_of l.any (codes ",") (map (name_at l.names) (drop l.number-index l.numbers)) ≡ l.fn.out ++ joined (codes ",") (map (name_at l.names) l.numbers)
