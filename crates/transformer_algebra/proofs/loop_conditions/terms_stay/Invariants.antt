use Rattle.std.proofs.Common.{◌≡◌, drop}
use Rattle.transformer_algebra.specs.Loops.{terms_stay}
use Rattle.transformer_algebra.proofs.loop_conditions.terms_stay.Given as goal

abbrev pub invariant-loop-t : goal.invariant-loop-t
invariant-loop-t l = terms_stay l.cells (drop l.t-index l.terms) ≡ terms_stay l.fn.cells l.fn.terms
