use Rattle.std.proofs.Common.{◌≡◌, drop, map, None}
use Rattle.f77_ast.specs.PlainDecl.{decl_tree}
use Rattle.f77_names.specs.Kinds.{implied_type}
use Rattle.f77_names.proofs.kinds.implied_type.Given as goal

abbrev pub invariant-loop-decl : goal.invariant-loop-decl
invariant-loop-decl l = implied_type l.letter (map decl_tree (drop l.decl-index l.decl-items)) l.scalar ≡ implied_type l.letter (map decl_tree l.decl-items) None
