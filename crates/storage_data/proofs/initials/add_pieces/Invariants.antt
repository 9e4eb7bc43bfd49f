use Rattle.std.proofs.Common.{◌≡◌, ◌++◌, drop}
use Rattle.storage_data.proofs.initials.add_pieces.Given as goal

abbrev pub invariant-loop-piece : goal.invariant-loop-piece
invariant-loop-piece l = l.all ++ drop l.piece-index l.new ≡ l.initial.all ++ l.new
