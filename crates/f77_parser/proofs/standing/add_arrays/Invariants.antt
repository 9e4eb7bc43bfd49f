use Rattle.std.proofs.Common.{◌≡◌, ◌++◌, drop, map}
use Rattle.f77_ast.specs.PlainDecl.{entity_tree}
use Rattle.f77_parser.specs.Standing.{array_names}
use Rattle.f77_parser.proofs.standing.add_arrays.Given as goal

abbrev pub invariant-loop-entity : goal.invariant-loop-entity
invariant-loop-entity l = l.names ++ array_names (map entity_tree (drop l.entity-index l.entity-items)) ≡ l.fn.names ++ array_names (map entity_tree l.entity-items)
