use Rattle.std.proofs.Common.{arith}
use Rattle.std.proofs.lemmas.List.{map-append, length-map}
use Rattle.f77_parser.proofs.progress.Progress.add_specification.Goals as goal

pub returns : goal.returns
returns c = grind (arith, map-append, length-map)
