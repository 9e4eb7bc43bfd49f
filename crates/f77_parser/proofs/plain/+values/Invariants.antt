use Rattle.std.proofs.Common.{◌≡◌, drop}
use Rattle.f77_ast.specs.PlainStmt.{stmt_trees, arm_trees}
use Rattle.f77_structure.specs.Lists.{is_none_of}
use Rattle.f77_parser.specs.Elaborated.{values_arms, values_in}
use Rattle.f77_parser.specs.Known.{meant_without}
use Rattle.f77_parser.proofs.plain.+values.Given as goal

abbrev pub invariant-has_no_values-loop-s : goal.invariant-has_no_values-loop-s
invariant-has_no_values-loop-s l = is_none_of (values_in (meant_without l.bounded) (stmt_trees (drop l.s-index l.s-items))) ≡ is_none_of (values_in (meant_without l.bounded) (stmt_trees l.s-items))

abbrev pub invariant-have_no_values-loop-arm : goal.invariant-have_no_values-loop-arm
invariant-have_no_values-loop-arm l = is_none_of (values_arms (meant_without l.bounded) (arm_trees (drop l.arm-index l.arm-items))) ≡ is_none_of (values_arms (meant_without l.bounded) (arm_trees l.arm-items))
