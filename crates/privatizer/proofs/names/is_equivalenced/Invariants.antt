use Rattle.std.proofs.Common.{◌≡◌, length, map}
use Rattle.std.specs.Prelude.{bytes_eq}
use Rattle.std.specs.List.{list_any}
use Rattle.f77_ast.specs.PlainDecl.{decl_tree}
use Rattle.tracked_cells.specs.Equivalences.{decls_names}
use Rattle.privatizer.proofs.names.is_equivalenced.Given as goal

abbrev pub invariant-loop-rest : goal.invariant-loop-rest
invariant-loop-rest l = list_any (bytes_eq l.name) (decls_names (map decl_tree l.rest)) ≡ list_any (bytes_eq l.name) (decls_names (map decl_tree l.«module».decls))

abbrev pub decreases-loop-rest : goal.decreases-loop-rest
decreases-loop-rest l = length l.rest
