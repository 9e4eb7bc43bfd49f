use Rattle.std.proofs.Common.{◌≡◌, drop, map}
use Rattle.f77_ast.specs.PlainDecl.{extent_tree}
use Rattle.f77_names.specs.Entries.{entry_tree}
use Rattle.f77_names.specs.Declaring.{extents_seen}
use Rattle.f77_names.proofs.declare.see_extents.Given as goal

abbrev pub invariant-loop-extent : goal.invariant-loop-extent
invariant-loop-extent l = extents_seen l.sight.arrays.now (map extent_tree (drop l.extent-index l.extent-items)) l.line (map entry_tree l.names) ≡ extents_seen l.sight.arrays.now (map extent_tree l.extent-items) l.line (map entry_tree l.fn.names)
