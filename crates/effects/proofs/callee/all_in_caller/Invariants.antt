use Rattle.std.proofs.Common.{◌≡◌, [], length, map}
use Rattle.f77_ast.specs.Plain.{expr_trees}
use Rattle.f77_ast.specs.Symbols.{symbol_tree}
use Rattle.effects.specs.Callee.{all_in_caller}
use Rattle.effects.proofs.callee.all_in_caller.Given as goal

abbrev pub invariant-loop-rest : goal.invariant-loop-rest
invariant-loop-rest l =
    all_in_caller l.rest l.call.callee.now (expr_trees l.call.actuals.now) (map symbol_tree l.call.others.now) (map symbol_tree l.call.symbols.now) l.all
    ≡ all_in_caller l.fn.variables l.call.callee.now (expr_trees l.call.actuals.now) (map symbol_tree l.call.others.now) (map symbol_tree l.call.symbols.now) []

abbrev pub decreases-loop-rest : goal.decreases-loop-rest
decreases-loop-rest l = length l.rest
