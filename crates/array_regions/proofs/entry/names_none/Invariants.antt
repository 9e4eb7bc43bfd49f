use Rattle.std.proofs.Common.{◌≡◌, length}
use Rattle.array_regions.specs.Entry.{names_none}
use Rattle.array_regions.proofs.entry.names_none.Given as goal

abbrev pub invariant-loop-rest : goal.invariant-loop-rest
invariant-loop-rest l = names_none l.cells l.rest ≡ names_none l.cells l.fn.pieces

abbrev pub decreases-loop-rest : goal.decreases-loop-rest
decreases-loop-rest l = length l.rest
