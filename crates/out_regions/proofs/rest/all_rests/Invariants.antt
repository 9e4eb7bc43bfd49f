use Rattle.std.proofs.Common.{◌≡◌, ◌≤◌, length, drop, reverse}
use Rattle.std.specs.Prelude.{All}
use Rattle.f77_ast.specs.PlainStmt.{stmt_trees}
use Rattle.out_regions.specs.Contexts.{known_in, RestFits}
use Rattle.out_regions.specs.Lists.{rest_of, rests_behind}
use Rattle.out_regions.proofs.rest.all_rests.Given as goal

abbrev pub invariant-loop-left : goal.invariant-loop-left
invariant-loop-left l = record {
  within : l.left ≤ length l.list;
  same : reverse l.rests.items ≡ rests_behind (known_in l.known) l.whole (stmt_trees (drop l.left l.list));
  current : l.current ≡ rest_of (known_in l.known) l.whole (stmt_trees (drop l.left l.list));
  current_fits : RestFits l.current;
  fits : All RestFits l.rests.items;
}

abbrev pub decreases-loop-left : goal.decreases-loop-left
decreases-loop-left l = l.left
