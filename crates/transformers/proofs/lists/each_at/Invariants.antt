use Rattle.std.proofs.Common.{◌≡◌, ◌++◌, length}
use Rattle.f77_ast.specs.PlainStmt.{stmt_trees}
use Rattle.call_translation.specs.transformer_algebra.Transformers.{AllFit}
use Rattle.transformers.specs.Lists.{transformer_at, each_at}
use Rattle.transformers.proofs.lists.each_at.Given as goal

abbrev pub invariant-loop-rest : goal.invariant-loop-rest
invariant-loop-rest l = record {
  same : l.all.items ++ each_at (transformer_at l.at) (stmt_trees l.rest) ≡ each_at (transformer_at l.at) (stmt_trees l.list);
  fits : AllFit l.all.items;
}

abbrev pub decreases-loop-rest : goal.decreases-loop-rest
decreases-loop-rest l = length l.rest
