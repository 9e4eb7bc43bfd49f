use Rattle.std.proofs.Common.{arith}
use Rattle.std.proofs.lemmas.List.{map-append}
use Rattle.f77_parser.specs.SoFar.{open_block}
use Rattle.f77_parser.proofs.progress.Progress.open_block.Goals as goal

pub returns : goal.returns
unfolding open_block
returns c = grind (arith, map-append)
