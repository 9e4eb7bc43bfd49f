-- The statements before which lines may be added: those of a list and of the parts of its statements, in the order of the text. The
-- statement of a logical IF has no line of its own, nor has a hidden statement (f77_ast, specs/Hidden).
use Rattle.std.specs.Prelude.{ℕ, Bool, not, List, [], ◌∷◌, ◌++◌, if◌then◌else◌}
use Rattle.f77_ast.specs.Trees.{StmtTree, WhatTree, ArmTrees, ElseTree, LoopTree, StmtTrees}
use Rattle.f77_ast.specs.Trees as tree
use Rattle.f77_ast.specs.Hidden.{is_hidden}
use Rattle.f77_printer.specs.declared.added.Added.{Added}
use Rattle.result_lines.specs.declared.spots.LineSpot.{LineSpot}
use Rattle.result_lines.specs.ScalarLines.{Said, says_changes, holds_lines, does_lines}

abbrev pub spot : ℕ → Bool → LineSpot
spot n c = record { before = n; changes = c }

abbrev pub own_spots : ℕ → WhatTree → List LineSpot
own_spots n w = if not (is_hidden n) then spot n (says_changes w) ∷ [] else []

abbrev mutual
  -- each statement before its parts
  pub stmt_spots : StmtTree → List LineSpot
  stmt_spots (tree.stmt n label w) = own_spots n w ++ part_spots w

  pub part_spots : WhatTree → List LineSpot
  part_spots (tree.assign a b) = []
  part_spots (tree.block_if arms other) = arms_spots arms ++ else_spots other
  part_spots (tree.logical_if e s) = []
  part_spots (tree.do_loop l) = loop_spots l
  part_spots (tree.call x es) = []
  part_spots (tree.goto l) = []
  part_spots tree.continue = []
  part_spots tree.return = []
  part_spots (tree.stop text) = []
  part_spots (tree.print es) = []
  part_spots (tree.read es) = []

  pub list_spots : StmtTrees → List LineSpot
  list_spots tree.no_stmts = []
  list_spots (tree.more_stmts s rest) = stmt_spots s ++ list_spots rest

  pub arms_spots : ArmTrees → List LineSpot
  arms_spots tree.no_arms = []
  arms_spots (tree.more_arms (tree.arm test body) rest) = list_spots body ++ arms_spots rest

  pub else_spots : ElseTree → List LineSpot
  else_spots tree.no_else = []
  else_spots (tree.otherwise body) = list_spots body

  pub loop_spots : LoopTree → List LineSpot
  loop_spots (tree.loop index first last step body) = list_spots body

-- the lines on analysed scalars there
abbrev pub spot_lines : Said → LineSpot → List Added
spot_lines k p = holds_lines k.names p.before (k.holds p.before) ++ (if p.changes then does_lines k.names p.before (k.does p.before) else [])
