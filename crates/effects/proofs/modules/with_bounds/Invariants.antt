use Rattle.std.proofs.Common.{◌≡◌, length, map}
use Rattle.f77_ast.specs.Symbols.{symbol_tree, bound_tree}
use Rattle.effects.specs.Modules.{with_bounds}
use Rattle.effects.proofs.modules.with_bounds.Given as goal

abbrev pub invariant-loop-rest : goal.invariant-loop-rest
invariant-loop-rest l =
    with_bounds (map bound_tree l.rest) (map symbol_tree l.symbols) l.all ≡ with_bounds (map bound_tree l.fn.bounds) (map symbol_tree l.symbols) l.fn.so_far

abbrev pub decreases-loop-rest : goal.decreases-loop-rest
decreases-loop-rest l = length l.rest
