use Rattle.std.proofs.Common.{◌≡◌, take, map}
use Rattle.f77_ast.specs.PlainDecl.{decl_tree}
use Rattle.std.specs.List.{list_any}
use Rattle.f77_names.specs.Kinds.{alphabet, is_none_decl, kinds_from}
use Rattle.f77_names.proofs.kinds.Kinds.of.Given as goal

abbrev pub invariant-loop-n : goal.invariant-loop-n
invariant-loop-n l = (l.none ≡ list_any is_none_decl (map decl_tree l.decls)) × (l.of.items ≡ kinds_from (map decl_tree l.decls) 65 (take l.n alphabet))
