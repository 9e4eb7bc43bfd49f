use Rattle.std.proofs.Common.{◌≡◌, take, map}
use Rattle.f77_ast.specs.PlainDecl.{extent_tree}
use Rattle.f77_ast.specs.Symbols.{bound_tree}
use Rattle.f77_names.specs.Declaring.{bound_of}
use Rattle.f77_names.proofs.declare.bounds_of.Given as goal

abbrev pub invariant-loop-extent : goal.invariant-loop-extent
invariant-loop-extent l = map bound_tree l.bounds ≡ map bound_of (map extent_tree (take l.extent-index l.extent-items))
