use Rattle.std.proofs.Common.{arith}
use Rattle.std.proofs.lemmas.List.{map-append}
use Rattle.f77_parser.proofs.progress.Progress.set_heading.Goals as goal

pub returns : goal.returns
returns c = grind (arith, map-append)
