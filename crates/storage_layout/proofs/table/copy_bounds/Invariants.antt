use Rattle.std.proofs.Common.{◌≡◌, ◌++◌, drop, map}
use Rattle.f77_ast.specs.Symbols.{bound_tree}
use Rattle.storage_layout.proofs.table.copy_bounds.Given as goal

abbrev pub invariant-loop-bound : goal.invariant-loop-bound
invariant-loop-bound l = map bound_tree l.copied ++ map bound_tree (drop l.bound-index l.bounds) ≡ map bound_tree l.bounds
