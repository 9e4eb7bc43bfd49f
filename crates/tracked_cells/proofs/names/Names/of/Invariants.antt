use Rattle.std.proofs.Common.{◌≡◌, take, map}
use Rattle.f77_ast.specs.PlainDecl.{parsed_tree}
use Rattle.tracked_cells.specs.Names.{names_of}
use Rattle.tracked_cells.proofs.names.Names.of.Given as goal

abbrev pub invariant-loop-parsed : goal.invariant-loop-parsed
invariant-loop-parsed l = l.names ≡ names_of (map parsed_tree (take l.parsed-index l.parsed-items))
