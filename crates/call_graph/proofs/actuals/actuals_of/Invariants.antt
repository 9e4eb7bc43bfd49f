use Rattle.std.proofs.Common.{◌≡◌, ◌++◌, drop, map}
use Rattle.f77_ast.specs.Plain.{expr_trees}
use Rattle.f77_ast.specs.Symbols.{symbol_tree}
use Rattle.call_graph.specs.Actuals.{actuals_of}
use Rattle.call_graph.proofs.actuals.actuals_of.Given as goal

abbrev pub invariant-loop-e : goal.invariant-loop-e
invariant-loop-e l =
    l.actuals ++ actuals_of (expr_trees (drop l.e-index l.e-items)) (map symbol_tree l.symbols) ≡ actuals_of (expr_trees l.e-items) (map symbol_tree l.symbols)
