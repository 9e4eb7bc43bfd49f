use Rattle.std.proofs.Common.{◌≡◌, ◌++◌, drop}
use Rattle.affine_systems.specs.Rows.{AllRows}
use Rattle.affine_systems.specs.Given.{IsGiven}
use Rattle.transformer_algebra.specs.Transformers.{equals}
use Rattle.transformer_algebra.proofs.arms.equals.Given as goal

abbrev pub invariant-loop-c : goal.invariant-loop-c
invariant-loop-c l = record { rows : l.out.items ++ equals (drop l.c-index l.cells) ≡ equals l.fn.cells; given : AllRows IsGiven l.out.items }
