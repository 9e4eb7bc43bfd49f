use Rattle.std.proofs.Common.{◌≡◌, take, map}
use Rattle.f77_ast.specs.Symbols.{bound_tree}
use Rattle.f77_ast.proofs.summaries.copy_bounds.Given as goal

abbrev pub invariant-loop-bound : goal.invariant-loop-bound
invariant-loop-bound l = map bound_tree l.copies ≡ map bound_tree (take l.bound-index l.bound-items)
