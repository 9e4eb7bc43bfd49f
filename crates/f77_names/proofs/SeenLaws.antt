-- For functions that go through statements.
use Rattle.f77_ast.proofs.PlainlyStmt.{arm_tree-out, arm_trees-drop}
use Rattle.f77_ast.specs.declared.stmt.What.{the_lemmas}
use Rattle.std.proofs.Common.{add-one}

pub ruleset arm_reads = (arm_tree-out, the_lemmas)

pub ruleset arms_reads = (arm_trees-drop, add-one, the_lemmas)
