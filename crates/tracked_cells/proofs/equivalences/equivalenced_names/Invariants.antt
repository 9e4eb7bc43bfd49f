use Rattle.std.proofs.Common.{◌≡◌, ◌++◌, length, map}
use Rattle.f77_ast.specs.PlainDecl.{decl_tree, module_tree}
use Rattle.tracked_cells.specs.Equivalences.{decls_names, equivalenced_names}
use Rattle.tracked_cells.proofs.equivalences.equivalenced_names.Given as goal

abbrev pub invariant-loop-rest : goal.invariant-loop-rest
invariant-loop-rest l = l.names ++ decls_names (map decl_tree l.rest) ≡ equivalenced_names (module_tree l.fn.module)

abbrev pub decreases-loop-rest : goal.decreases-loop-rest
decreases-loop-rest l = length l.rest
