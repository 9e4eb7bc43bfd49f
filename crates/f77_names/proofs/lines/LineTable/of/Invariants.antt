use Rattle.std.proofs.Common.{◌≡◌, drop}
use Rattle.f77_names.specs.declared.lines.Sited.{Sited}
use Rattle.f77_names.specs.Lines.{lines_of, or_own}
use Rattle.f77_names.specs.Views.{line_in}
use Rattle.f77_names.proofs.lines.LineTable.of.Given as goal

abbrev pub invariant-loop-spot : goal.invariant-loop-spot
invariant-loop-spot l = (s : Sited) → or_own (line_in l.lines s) (lines_of (drop l.spot-index l.spots) s) ≡ lines_of l.spots s
