-- What is known of statements and their parts, and of lists that grow.
use Rattle.std.proofs.Common.{◌≡◌, ◌≤◌, List, [], ◌∷◌, length, get_or, refl, sym, ap, ◌∙◌, append_assoc, append-nil, arith}
use Rattle.f77_ast.specs.declared.stmt.Arm.{Arm, out-Arm}
use Rattle.f77_ast.specs.Trees.{WhatTree}
use Rattle.f77_ast.specs.Trees as tree
use Rattle.f77_ast.specs.Shapes.{IsLeaf}
use Rattle.f77_ast.specs.PlainStmt.{stmt_trees, arm_trees}
use Rattle.f77_ast.proofs.PlainlyStmt.{arm_tree-out}
use Rattle.f77_ast.proofs.WalkLaws.{shape_calls}
use Rattle.result_lines.specs.ScalarLines.{begins_hidden, stands_for}
use Rattle.result_lines.specs.ClaimSpots.{part_spots}

-- a block IF is told by the statements of its first arm
pub begins_with : (arms : List Arm) (a : Arm) → 1 ≤ length arms → a ≡ get_or arms 0 a → begins_hidden (stmt_trees (out-Arm a).body) ≡ stands_for (arm_trees arms)
begins_with [] a l e = absurd (omega (arith, l))
begins_with (x ∷ arms) a l e = ap (λ b. begins_hidden (stmt_trees (out-Arm b).body)) e ∙ sym (ap (λ t. stands_for (tree.more_arms t (arm_trees arms))) (arm_tree-out x))

-- a statement without statements inside it has no parts
pub leaf_parts : (w : WhatTree) → IsLeaf w → part_spots w ≡ []
leaf_parts (tree.assign a b) h = refl
leaf_parts (tree.block_if as' other) h = cc
leaf_parts (tree.logical_if test s) h = refl
leaf_parts (tree.do_loop l) h = cc
leaf_parts (tree.call x es) h = refl
leaf_parts (tree.goto l) h = refl
leaf_parts tree.continue h = refl
leaf_parts tree.return h = refl
leaf_parts (tree.stop text) h = refl
leaf_parts (tree.print es) h = refl
leaf_parts (tree.read es) h = refl

pub ruleset spot_calls = (shape_calls, leaf_parts, append_assoc, append-nil)
