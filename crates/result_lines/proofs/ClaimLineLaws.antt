-- The lines of a list by recursion are those of its statements and their parts one after another.
use Rattle.std.proofs.Common.{◌≡◌, ℕ, Bool, true, false, not, [], ◌∷◌, ◌++◌, if◌then◌else◌, refl, ap₂, ◌∙◌, append_assoc, append-nil}
use Rattle.std.specs.List.{flat_map}
use Rattle.std.proofs.lemmas.Grind.{flat_map-append}
use Rattle.f77_ast.specs.Trees.{StmtTree, WhatTree, ArmTrees, ElseTree, LoopTree, StmtTrees}
use Rattle.f77_ast.specs.Trees as tree
use Rattle.f77_ast.specs.Hidden.{is_hidden}
use Rattle.result_lines.specs.ScalarLines.{Said, says_changes, visible_lines, own_lines, stmt_lines, part_lines, list_lines, arms_lines, else_lines, loop_lines}
use Rattle.result_lines.specs.ClaimSpots.{spot, own_spots, stmt_spots, part_spots, list_spots, arms_spots, else_spots, loop_spots, spot_lines}

by_visible : (k : Said) (n : ℕ) (w : WhatTree) (visible : Bool)
    → flat_map (spot_lines k) (if visible then spot n (says_changes w) ∷ [] else []) ≡ (if visible then visible_lines n w k else [])
by_visible k n w true = append-nil (visible_lines n w k)
by_visible k n w false = refl

own_lines-spots : (k : Said) (n : ℕ) (w : WhatTree) → flat_map (spot_lines k) (own_spots n w) ≡ own_lines n w k
own_lines-spots k n w = by_visible k n w (not (is_hidden n))

mutual
  stmt_lines-spots : (k : Said) (s : StmtTree) → flat_map (spot_lines k) (stmt_spots s) ≡ stmt_lines s k
  stmt_lines-spots k (tree.stmt n label w) =
      flat_map-append (spot_lines k) (own_spots n w) (part_spots w) ∙ ap₂ (λ ls ms. ls ++ ms) (own_lines-spots k n w) (part_lines-spots k w)

  part_lines-spots : (k : Said) (w : WhatTree) → flat_map (spot_lines k) (part_spots w) ≡ part_lines w k
  part_lines-spots k (tree.assign a b) = refl
  part_lines-spots k (tree.block_if arms other) =
      flat_map-append (spot_lines k) (arms_spots arms) (else_spots other) ∙ ap₂ (λ ls ms. ls ++ ms) (arms_lines-spots k arms) (else_lines-spots k other)
  part_lines-spots k (tree.logical_if e s) = refl
  part_lines-spots k (tree.do_loop l) = loop_lines-spots k l
  part_lines-spots k (tree.call x es) = refl
  part_lines-spots k (tree.goto l) = refl
  part_lines-spots k tree.continue = refl
  part_lines-spots k tree.return = refl
  part_lines-spots k (tree.stop text) = refl
  part_lines-spots k (tree.print es) = refl
  part_lines-spots k (tree.read es) = refl

  loop_lines-spots : (k : Said) (l : LoopTree) → flat_map (spot_lines k) (loop_spots l) ≡ loop_lines l k
  loop_lines-spots k (tree.loop index first last step body) = list_lines-spots k body

  arms_lines-spots : (k : Said) (arms : ArmTrees) → flat_map (spot_lines k) (arms_spots arms) ≡ arms_lines arms k
  arms_lines-spots k tree.no_arms = refl
  arms_lines-spots k (tree.more_arms (tree.arm test body) rest) =
      flat_map-append (spot_lines k) (list_spots body) (arms_spots rest) ∙ ap₂ (λ ls ms. ls ++ ms) (list_lines-spots k body) (arms_lines-spots k rest)

  else_lines-spots : (k : Said) (other : ElseTree) → flat_map (spot_lines k) (else_spots other) ≡ else_lines other k
  else_lines-spots k tree.no_else = refl
  else_lines-spots k (tree.otherwise body) = list_lines-spots k body

  pub list_lines-spots : (k : Said) (list : StmtTrees) → flat_map (spot_lines k) (list_spots list) ≡ list_lines list k
  list_lines-spots k tree.no_stmts = refl
  list_lines-spots k (tree.more_stmts s rest) =
      flat_map-append (spot_lines k) (stmt_spots s) (list_spots rest) ∙ ap₂ (λ ls ms. ls ++ ms) (stmt_lines-spots k s) (list_lines-spots k rest)

pub ruleset list_steps = (list_lines-spots, append_assoc, append-nil)
