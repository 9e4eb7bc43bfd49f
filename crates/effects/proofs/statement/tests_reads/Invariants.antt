use Rattle.std.proofs.Common.{◌≡◌, [], drop, map}
use Rattle.f77_ast.specs.PlainStmt.{arm_trees}
use Rattle.f77_ast.specs.Symbols.{symbol_tree}
use Rattle.effects.specs.Statement.{with_tests}
use Rattle.effects.proofs.statement.tests_reads.Given as goal

abbrev pub invariant-loop-arm : goal.invariant-loop-arm
invariant-loop-arm l =
    with_tests (arm_trees (drop l.arm-index l.arm-items)) (map symbol_tree l.symbols) l.all ≡ with_tests (arm_trees l.arm-items) (map symbol_tree l.symbols) []
