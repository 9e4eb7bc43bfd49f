use Rattle.std.proofs.Common.{◌≡◌, drop, map}
use Rattle.f77_ast.specs.PlainStmt.{arm_trees, stmt_trees}
use Rattle.f77_names.specs.Entries.{entry_tree}
use Rattle.f77_names.specs.Appearing.{arms_seen, stmts_seen}
use Rattle.f77_names.specs.Views.{line_in}
use Rattle.f77_names.proofs.appear.+see_statement.Given as goal

abbrev pub invariant-see_arms-loop-arm : goal.invariant-see_arms-loop-arm
invariant-see_arms-loop-arm l = arms_seen l.sight.arrays.now (line_in l.sight.lines.now) (arm_trees (drop l.arm-index l.arm-items)) l.id l.number l.line (map entry_tree l.names) ≡ arms_seen l.sight.arrays.now (line_in l.sight.lines.now) (arm_trees l.arm-items) l.id 0 l.line (map entry_tree l.fn.names)

abbrev pub invariant-see_list-loop-s : goal.invariant-see_list-loop-s
invariant-see_list-loop-s l = stmts_seen l.sight.arrays.now (line_in l.sight.lines.now) (stmt_trees (drop l.s-index l.s-items)) l.line (map entry_tree l.names) ≡ stmts_seen l.sight.arrays.now (line_in l.sight.lines.now) (stmt_trees l.s-items) l.line (map entry_tree l.fn.names)
