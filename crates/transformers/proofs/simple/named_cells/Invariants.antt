use Rattle.std.proofs.Common.{◌≡◌, ◌++◌, drop}
use Rattle.f77_ast.specs.Plain.{expr_trees}
use Rattle.affine_forms.specs.Scalars.{scalars}
use Rattle.transformers.specs.Simple.{named_cells}
use Rattle.transformers.proofs.simple.named_cells.Given as goal

abbrev pub invariant-loop-item : goal.invariant-loop-item
invariant-loop-item l =
    l.cells.items ++ named_cells (scalars l.scope.symbols.now l.scope.tracked.now) (expr_trees (drop l.item-index l.items)) ≡ named_cells (scalars l.scope.symbols.now l.scope.tracked.now) (expr_trees l.items)
