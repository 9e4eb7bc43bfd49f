use Rattle.std.proofs.Common.{◌≡◌, drop, map}
use Rattle.std.specs.List.{list_any}
use Rattle.f77_ast.specs.PlainDecl.{decl_tree}
use Rattle.f77_names.specs.Kinds.{is_none_decl}
use Rattle.f77_names.proofs.kinds.has_none.Given as goal

abbrev pub invariant-loop-decl : goal.invariant-loop-decl
invariant-loop-decl l = list_any is_none_decl (map decl_tree (drop l.decl-index l.decl-items)) ≡ list_any is_none_decl (map decl_tree l.decl-items)
