use Rattle.std.proofs.Common.{◌≡◌, drop, map}
use Rattle.f77_ast.specs.PlainDecl.{entity_tree}
use Rattle.f77_names.specs.Declaring.{typed_entities}
use Rattle.f77_names.specs.Views.{told_tree}
use Rattle.f77_names.proofs.declare.Told.tell_types.Given as goal

abbrev pub invariant-loop-entity : goal.invariant-loop-entity
invariant-loop-entity l = typed_entities l.sight.arrays.now l.scalar (map entity_tree (drop l.entity-index l.entity-items)) l.line (told_tree l.self) ≡ typed_entities l.sight.arrays.now l.scalar (map entity_tree l.entity-items) l.line (told_tree l.fn.self)
