use Rattle.std.proofs.Common.{take}
use Rattle.elimination.specs.Homes.{HasHomes}
use Rattle.elimination.proofs.lone.note_homes.Given as goal

abbrev pub invariant-loop-t : goal.invariant-loop-t
invariant-loop-t l = HasHomes l.row l.fn.table l.table (take l.t-index l.terms)
