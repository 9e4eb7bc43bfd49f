use Rattle.std.proofs.Common.{◌≡◌, drop, map}
use Rattle.f77_ast.specs.PlainDecl.{decl_tree}
use Rattle.f77_names.specs.Views.{table_tree}
use Rattle.storage_layout.specs.Blocks.{decls_put}
use Rattle.storage_layout.proofs.blocks.Laid.put_decls.Given as goal

abbrev pub invariant-loop-decl : goal.invariant-loop-decl
invariant-loop-decl l =
    decls_put (table_tree l.table) (map decl_tree (drop l.decl-index l.decls)) l.self ≡ decls_put (table_tree l.table) (map decl_tree l.decls) l.initial.self
