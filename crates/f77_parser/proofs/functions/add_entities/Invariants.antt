use Rattle.std.proofs.Common.{◌≡◌, ◌++◌, drop, map}
use Rattle.f77_ast.specs.PlainDecl.{entity_tree}
use Rattle.f77_parser.specs.Functions.{entity_names}
use Rattle.f77_parser.proofs.functions.add_entities.Given as goal

abbrev pub invariant-loop-entity : goal.invariant-loop-entity
invariant-loop-entity l = l.names ++ entity_names (map entity_tree (drop l.entity-index l.entity-items)) ≡ l.fn.names ++ entity_names (map entity_tree l.entity-items)
