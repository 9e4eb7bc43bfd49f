use Rattle.std.proofs.Common.{◌∙◌, ap, sym, subst}
use Rattle.hull_projection.specs.Closure.{AreCells}
use Rattle.transformer_algebra.specs.Halves.{cell_vars}
use Rattle.transformer_algebra.proofs.GivenSteps.{are_cells}
use Rattle.transformer_algebra.proofs.iterations.iterate.Goals as goal

pub closure-requires-clause-cells : goal.closure-requires-clause-cells
closure-requires-clause-cells c = subst AreCells (sym (c.in_ok-vars.ensures ∙ ap cell_vars c.as_slice.ensures)) (are_cells c.args.t.now.cells)
