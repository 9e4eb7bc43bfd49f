use Rattle.std.proofs.Common.{◌≡◌, ◌++◌, drop, map}
use Rattle.f77_ast.specs.PlainDecl.{decl_tree}
use Rattle.f77_parser.specs.Functions.{bounded_names}
use Rattle.f77_parser.proofs.functions.bounded_names.Given as goal

abbrev pub invariant-loop-decl : goal.invariant-loop-decl
invariant-loop-decl l = l.names ++ bounded_names (map decl_tree (drop l.decl-index l.decl-items)) ≡ bounded_names (map decl_tree l.decl-items)
