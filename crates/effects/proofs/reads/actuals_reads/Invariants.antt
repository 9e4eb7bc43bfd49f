use Rattle.std.proofs.Common.{◌≡◌, [], drop, map}
use Rattle.f77_ast.specs.Plain.{expr_trees}
use Rattle.f77_ast.specs.Symbols.{symbol_tree}
use Rattle.effects.specs.Reads.{with_actuals}
use Rattle.effects.proofs.reads.actuals_reads.Given as goal

abbrev pub invariant-loop-e : goal.invariant-loop-e
invariant-loop-e l =
    with_actuals (expr_trees (drop l.e-index l.e-items)) (map symbol_tree l.symbols) l.all ≡ with_actuals (expr_trees l.e-items) (map symbol_tree l.symbols) []
