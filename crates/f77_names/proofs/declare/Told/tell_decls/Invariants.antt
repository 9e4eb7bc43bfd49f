use Rattle.std.proofs.Common.{◌≡◌, drop, map}
use Rattle.f77_ast.specs.PlainDecl.{decl_tree}
use Rattle.f77_names.specs.Declaring.{decls_told}
use Rattle.f77_names.specs.Views.{line_in, told_tree}
use Rattle.f77_names.proofs.declare.Told.tell_decls.Given as goal

abbrev pub invariant-loop-decl : goal.invariant-loop-decl
invariant-loop-decl l = decls_told l.sight.arrays.now (line_in l.sight.lines.now) (map decl_tree (drop l.decl-index l.decl-items)) l.number (told_tree l.self) ≡ decls_told l.sight.arrays.now (line_in l.sight.lines.now) (map decl_tree l.decl-items) 0 (told_tree l.fn.self)
