use Rattle.std.proofs.Common.{◌≡◌, drop, map}
use Rattle.f77_ast.specs.PlainDecl.{entity_tree}
use Rattle.f77_names.specs.Declaring.{members_told}
use Rattle.f77_names.specs.Views.{told_tree}
use Rattle.f77_names.proofs.declare.Told.tell_members.Given as goal

abbrev pub invariant-loop-entity : goal.invariant-loop-entity
invariant-loop-entity l = members_told l.sight.arrays.now (map entity_tree (drop l.entity-index l.entity-items)) l.line (told_tree l.self) ≡ members_told l.sight.arrays.now (map entity_tree l.entity-items) l.line (told_tree l.fn.self)
