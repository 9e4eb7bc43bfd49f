use Rattle.std.proofs.Common.{◌≡◌, drop, map, []}
use Rattle.f77_ast.specs.PlainDecl.{decl_tree}
use Rattle.f77_names.specs.Functions.{with_decls}
use Rattle.f77_names.proofs.functions.Arrays.of.Given as goal

abbrev pub invariant-loop-decl : goal.invariant-loop-decl
invariant-loop-decl l = with_decls (map decl_tree (drop l.decl-index l.decl-items)) l.arrays ≡ with_decls (map decl_tree l.decl-items) []
