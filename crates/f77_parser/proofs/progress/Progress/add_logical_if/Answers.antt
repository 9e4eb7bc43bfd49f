use Rattle.std.proofs.Common.{arith}
use Rattle.std.proofs.lemmas.List.{map-append}
use Rattle.f77_parser.specs.SoFar.{add_logical_if}
use Rattle.f77_parser.proofs.progress.Progress.add_logical_if.Goals as goal

pub returns : goal.returns
unfolding add_logical_if
returns c = grind (arith, map-append)
