use Rattle.std.proofs.Common.{◌≡◌, length, map}
use Rattle.f77_ast.specs.Symbols.{symbol_tree, bound_tree, value_in}
use Rattle.effects.specs.Callee.{same_bounds}
use Rattle.effects.proofs.shapes.same_bounds.Given as goal

abbrev pub invariant-loop-left : goal.invariant-loop-left
invariant-loop-left l =
    same_bounds (value_in (map symbol_tree l.own)) (map bound_tree l.left) (value_in (map symbol_tree l.others)) (map bound_tree l.right)
    ≡ same_bounds (value_in (map symbol_tree l.own)) (map bound_tree l.fn.a) (value_in (map symbol_tree l.others)) (map bound_tree l.fn.b)

abbrev pub decreases-loop-left : goal.decreases-loop-left
decreases-loop-left l = length l.left
