-- The lines on regions of a list by recursion are those of its statements and their parts one after another.
use Rattle.std.proofs.Common.{◌≡◌, ℕ, List, Bool, true, false, not, [], ◌∷◌, ◌++◌, if◌then◌else◌, refl, ap₂, ◌∙◌, append_assoc, append-nil}
use Rattle.std.specs.List.{flat_map}
use Rattle.std.proofs.lemmas.Grind.{flat_map-append}
use Rattle.f77_ast.specs.Trees.{StmtTree, WhatTree, ArmTrees, ElseTree, LoopTree, StmtTrees}
use Rattle.f77_ast.specs.Trees as tree
use Rattle.f77_ast.specs.Hidden.{is_hidden}
use Rattle.f77_ast.specs.declared.results.At.{At}
use Rattle.region_sets.specs.declared.region.Region.{Region}
use Rattle.result_lines.specs.ScalarLines.{says_changes}
use Rattle.result_lines.specs.RegionLines.{visible_lines, own_lines, stmt_lines, part_lines, list_lines, arms_lines, else_lines, loop_lines}
use Rattle.result_lines.specs.ClaimSpots.{spot, own_spots, stmt_spots, part_spots, list_spots, arms_spots, else_spots, loop_spots}
use Rattle.result_lines.specs.RegionSpots.{spot_lines}

by_visible : (ns : List (List ℕ)) (rs : List (At (List Region))) (n : ℕ) (w : WhatTree) (visible : Bool)
    → flat_map (spot_lines ns rs) (if visible then spot n (says_changes w) ∷ [] else []) ≡ (if visible then visible_lines n w ns rs else [])
by_visible ns rs n w true = append-nil (visible_lines n w ns rs)
by_visible ns rs n w false = refl

own_lines-spots : (ns : List (List ℕ)) (rs : List (At (List Region))) (n : ℕ) (w : WhatTree) → flat_map (spot_lines ns rs) (own_spots n w) ≡ own_lines n w ns rs
own_lines-spots ns rs n w = by_visible ns rs n w (not (is_hidden n))

mutual
  stmt_lines-spots : (ns : List (List ℕ)) (rs : List (At (List Region))) (s : StmtTree) → flat_map (spot_lines ns rs) (stmt_spots s) ≡ stmt_lines s ns rs
  stmt_lines-spots ns rs (tree.stmt n label w) =
      flat_map-append (spot_lines ns rs) (own_spots n w) (part_spots w) ∙ ap₂ (λ ls ms. ls ++ ms) (own_lines-spots ns rs n w) (part_lines-spots ns rs w)

  part_lines-spots : (ns : List (List ℕ)) (rs : List (At (List Region))) (w : WhatTree) → flat_map (spot_lines ns rs) (part_spots w) ≡ part_lines w ns rs
  part_lines-spots ns rs (tree.assign a b) = refl
  part_lines-spots ns rs (tree.block_if arms other) =
      flat_map-append (spot_lines ns rs) (arms_spots arms) (else_spots other) ∙ ap₂ (λ ls ms. ls ++ ms) (arms_lines-spots ns rs arms) (else_lines-spots ns rs other)
  part_lines-spots ns rs (tree.logical_if e s) = refl
  part_lines-spots ns rs (tree.do_loop l) = loop_lines-spots ns rs l
  part_lines-spots ns rs (tree.call x es) = refl
  part_lines-spots ns rs (tree.goto l) = refl
  part_lines-spots ns rs tree.continue = refl
  part_lines-spots ns rs tree.return = refl
  part_lines-spots ns rs (tree.stop text) = refl
  part_lines-spots ns rs (tree.print es) = refl
  part_lines-spots ns rs (tree.read es) = refl

  loop_lines-spots : (ns : List (List ℕ)) (rs : List (At (List Region))) (l : LoopTree) → flat_map (spot_lines ns rs) (loop_spots l) ≡ loop_lines l ns rs
  loop_lines-spots ns rs (tree.loop index first last step body) = list_lines-spots ns rs body

  arms_lines-spots : (ns : List (List ℕ)) (rs : List (At (List Region))) (arms : ArmTrees) → flat_map (spot_lines ns rs) (arms_spots arms) ≡ arms_lines arms ns rs
  arms_lines-spots ns rs tree.no_arms = refl
  arms_lines-spots ns rs (tree.more_arms (tree.arm test body) rest) =
      flat_map-append (spot_lines ns rs) (list_spots body) (arms_spots rest) ∙ ap₂ (λ ls ms. ls ++ ms) (list_lines-spots ns rs body) (arms_lines-spots ns rs rest)

  else_lines-spots : (ns : List (List ℕ)) (rs : List (At (List Region))) (other : ElseTree) → flat_map (spot_lines ns rs) (else_spots other) ≡ else_lines other ns rs
  else_lines-spots ns rs tree.no_else = refl
  else_lines-spots ns rs (tree.otherwise body) = list_lines-spots ns rs body

  pub list_lines-spots : (ns : List (List ℕ)) (rs : List (At (List Region))) (list : StmtTrees) → flat_map (spot_lines ns rs) (list_spots list) ≡ list_lines list ns rs
  list_lines-spots ns rs tree.no_stmts = refl
  list_lines-spots ns rs (tree.more_stmts s rest) =
      flat_map-append (spot_lines ns rs) (stmt_spots s) (list_spots rest) ∙ ap₂ (λ ls ms. ls ++ ms) (stmt_lines-spots ns rs s) (list_lines-spots ns rs rest)

pub ruleset lines = (append_assoc, append-nil)

pub ruleset list_steps = (list_lines-spots, append_assoc, append-nil)
