use Rattle.std.proofs.Common.{◌≡◌, drop, map}
use Rattle.f77_ast.specs.PlainDecl.{decl_tree}
use Rattle.f77_printer.specs.Lines.{lines_of}
use Rattle.f77_printer.specs.Pages.{page_tree}
use Rattle.f77_printer.specs.ModuleText.{with_decls}
use Rattle.f77_printer.proofs.module.put_decls.Given as goal

abbrev pub invariant-loop-place : goal.invariant-loop-place
invariant-loop-place l =
    with_decls (lines_of l.lines) l.place (map decl_tree (drop l.place l.decl-items)) (page_tree l.page) ≡ with_decls (lines_of l.lines) 0 (map decl_tree l.decl-items) (page_tree l.initial.page)
