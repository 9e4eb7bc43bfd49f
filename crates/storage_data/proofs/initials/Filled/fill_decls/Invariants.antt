use Rattle.std.proofs.Common.{◌≡◌, drop, map}
use Rattle.f77_ast.specs.PlainDecl.{decl_tree}
use Rattle.f77_names.specs.Views.{line_in, table_tree}
use Rattle.storage_data.specs.Initials.{decls_filled}
use Rattle.storage_data.proofs.initials.Filled.fill_decls.Given as goal

abbrev pub invariant-loop-place : goal.invariant-loop-place
invariant-loop-place l =
    decls_filled (table_tree l.table) l.offset_nodes (line_in l.lines) (map decl_tree (drop l.place l.decls)) l.place l.self ≡ decls_filled (table_tree l.table) l.offset_nodes (line_in l.lines) (map decl_tree l.decls) 0 l.initial.self
