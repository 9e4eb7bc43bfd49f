use Rattle.std.proofs.Common.{◌≡◌, ◌++◌, drop, map}
use Rattle.std.specs.Prelude.{codes}
use Rattle.system_text.proofs.TextLaws.{left_of}
use Rattle.region_sets.specs.Written.{piece_text, pieces_text}
use Rattle.region_sets.proofs.text.put_pieces.Given as goal

abbrev pub invariant-loop-piece : goal.invariant-loop-piece
invariant-loop-piece l = l.out ++ left_of l.any (codes " + ") (map (piece_text l.names) (drop l.piece-index l.pieces)) ≡ l.fn.out ++ pieces_text l.names l.pieces
