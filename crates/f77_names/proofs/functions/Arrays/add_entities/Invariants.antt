use Rattle.std.proofs.Common.{◌≡◌, drop, map}
use Rattle.f77_ast.specs.PlainDecl.{entity_tree}
use Rattle.f77_names.specs.Functions.{with_entities}
use Rattle.f77_names.proofs.functions.Arrays.add_entities.Given as goal

abbrev pub invariant-loop-entity : goal.invariant-loop-entity
invariant-loop-entity l = with_entities (map entity_tree (drop l.entity-index l.entity-items)) l.self ≡ with_entities (map entity_tree l.entity-items) l.fn.self
