use Rattle.std.proofs.Common.{◌≡◌, length, map}
use Rattle.std.specs.List.{list_any}
use Rattle.f77_ast.specs.PlainDecl.{decl_tree}
use Rattle.privatizer.specs.Functions.{saves_all_by}
use Rattle.privatizer.proofs.functions.saves_all.Given as goal

abbrev pub invariant-loop-rest : goal.invariant-loop-rest
invariant-loop-rest l = list_any saves_all_by (map decl_tree l.rest) ≡ list_any saves_all_by (map decl_tree l.«module».decls)

abbrev pub decreases-loop-rest : goal.decreases-loop-rest
decreases-loop-rest l = length l.rest
