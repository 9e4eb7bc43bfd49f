use Rattle.std.proofs.Common.{◌≡◌, drop, map}
use Rattle.f77_ast.specs.PlainDecl.{decl_tree}
use Rattle.f77_names.specs.Views.{line_in}
use Rattle.f77_checks.specs.Parameters.{decls_valued}
use Rattle.f77_checks.specs.Views.{valued_tree}
use Rattle.f77_checks.proofs.parameters.parameters_valued.Given as goal

abbrev pub invariant-loop-place : goal.invariant-loop-place
invariant-loop-place l =
    decls_valued (line_in l.lines) (map decl_tree (drop l.place l.decl-items)) l.place (valued_tree l.table l.found) ≡ decls_valued (line_in l.lines) (map decl_tree l.decl-items) 0 (valued_tree l.initial.table l.initial.found)
