use Rattle.std.proofs.Common.{◌≡◌, ◌++◌, length}
use Rattle.session_texts.specs.Joined.{sources_from}
use Rattle.session_texts.proofs.source.sources_from.Given as goal

abbrev pub invariant-loop-piece : goal.invariant-loop-piece
invariant-loop-piece l = l.sources ++ sources_from l.pieces l.modules l.tables ≡ sources_from l.fn.pieces l.fn.modules l.fn.tables

abbrev pub decreases-loop-piece : goal.decreases-loop-piece
decreases-loop-piece l = length l.pieces
