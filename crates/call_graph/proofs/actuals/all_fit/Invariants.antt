use Rattle.std.proofs.Common.{◌≡◌, length, map}
use Rattle.f77_ast.specs.Symbols.{symbol_tree}
use Rattle.call_graph.specs.Actuals.{all_fit}
use Rattle.call_graph.proofs.actuals.all_fit.Given as goal

abbrev pub invariant-loop-rest : goal.invariant-loop-rest
invariant-loop-rest l = all_fit l.rest (map symbol_tree l.others) ≡ all_fit l.fn.actuals (map symbol_tree l.fn.dummies)

abbrev pub decreases-loop-rest : goal.decreases-loop-rest
decreases-loop-rest l = length l.rest
