use Rattle.std.proofs.Common.{◌≡◌, length}
use Rattle.array_regions.specs.transformer_algebra.Loops.{terms_stay}
use Rattle.in_out_regions.proofs.loop_rows.terms_stay.Given as goal

abbrev pub invariant-loop-rest : goal.invariant-loop-rest
invariant-loop-rest l = terms_stay l.cells l.rest ≡ terms_stay l.cells l.fn.terms

abbrev pub decreases-loop-rest : goal.decreases-loop-rest
decreases-loop-rest l = length l.rest
