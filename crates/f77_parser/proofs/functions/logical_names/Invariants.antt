use Rattle.std.proofs.Common.{◌≡◌, ◌++◌, drop, map}
use Rattle.f77_ast.specs.PlainDecl.{decl_tree}
use Rattle.f77_parser.specs.Functions.{logical_names}
use Rattle.f77_parser.proofs.functions.logical_names.Given as goal

abbrev pub invariant-loop-decl : goal.invariant-loop-decl
invariant-loop-decl l = l.names ++ logical_names (map decl_tree (drop l.decl-index l.decl-items)) ≡ logical_names (map decl_tree l.decl-items)
