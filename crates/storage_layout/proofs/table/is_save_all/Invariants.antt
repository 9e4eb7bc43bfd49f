use Rattle.std.proofs.Common.{◌≡◌, drop, map}
use Rattle.std.specs.List.{list_any}
use Rattle.f77_ast.specs.PlainDecl.{decl_tree}
use Rattle.storage_layout.specs.Table.{is_save_all}
use Rattle.storage_layout.proofs.table.is_save_all.Given as goal

abbrev pub invariant-loop-decl : goal.invariant-loop-decl
invariant-loop-decl l = list_any is_save_all (map decl_tree (drop l.decl-index l.decls)) ≡ list_any is_save_all (map decl_tree l.decls)
