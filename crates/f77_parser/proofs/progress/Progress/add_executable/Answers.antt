use Rattle.std.proofs.Common.{arith}
use Rattle.std.proofs.lemmas.List.{map-append}
use Rattle.f77_parser.specs.SoFar.{add_executable}
use Rattle.f77_parser.proofs.progress.Progress.add_executable.Goals as goal

pub returns : goal.returns
unfolding add_executable
returns c = grind (arith, map-append)
