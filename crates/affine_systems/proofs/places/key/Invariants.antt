use Rattle.std.proofs.Common.{◌≡◌, ◌<◌, drop}
use Rattle.affine_systems.specs.Places.{key_of}
use Rattle.affine_systems.proofs.places.key.Given as goal

abbrev pub invariant-loop-t : goal.invariant-loop-t
invariant-loop-t l = (l.n < 2048) × (key_of l.n (drop l.t-index l.terms) ≡ key_of 0 l.fn.terms)
