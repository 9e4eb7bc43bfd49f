use Rattle.std.proofs.Common.{take}
use Rattle.affine_systems.specs.Places.{Noted}
use Rattle.affine_systems.proofs.places.note_terms.Given as goal

abbrev pub invariant-loop-t : goal.invariant-loop-t
invariant-loop-t l = Noted l.fn.table l.table (take l.t-index l.terms)
