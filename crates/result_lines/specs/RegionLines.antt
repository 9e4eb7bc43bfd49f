-- The lines of a module on regions: before a DO, a DO WHILE, a CALL or an assignment of the value of a function what it accesses, and before the
-- first part of a subroutine or function what its callers see. Hidden statements (f77_ast, specs/Hidden) have no lines.
use Rattle.std.specs.Prelude.{ℕ, Bool, true, false, not, List, [], ◌++◌, map, Option, Some, None, if◌then◌else◌, codes}
use Rattle.f77_ast.specs.Trees.{StmtTree, WhatTree, ArmTree, ArmTrees, ElseTree, LoopTree, StmtTrees}
use Rattle.f77_ast.specs.Trees as tree
use Rattle.f77_ast.specs.Hidden.{is_hidden}
use Rattle.f77_printer.specs.declared.added.Added.{Added}
use Rattle.f77_ast.specs.declared.results.At.{At}
use Rattle.f77_ast.specs.declared.results.Results.{Results}
use Rattle.transformers.specs.Lists.{value_at}
use Rattle.result_lines.specs.ScalarLines.{before, says_changes}
use Rattle.region_sets.specs.declared.region.Region.{Region}
use Rattle.region_sets.specs.Written.{region_text}

-- `C> READ A {1<=PHI1, PHI1<=N} EXACT`
abbrev pub line_of : List (List ℕ) → Region → List ℕ
line_of names r = codes "C> " ++ region_text names r

abbrev pub set_lines : List (List ℕ) → ℕ → List Region → List Added
set_lines names n rs = map (λ r. before n (line_of names r)) rs

-- nothing is written of a statement without a set
abbrev pub found_lines : List (List ℕ) → ℕ → Option (List Region) → List Added
found_lines names n None = []
found_lines names n (Some rs) = set_lines names n rs

-- the lines of a statement of the text that may change something
abbrev pub visible_lines : ℕ → WhatTree → List (List ℕ) → List (At (List Region)) → List Added
visible_lines n w names sets = if says_changes w then found_lines names n (value_at sets n) else []

-- a statement's own lines
abbrev pub own_lines : ℕ → WhatTree → List (List ℕ) → List (At (List Region)) → List Added
own_lines n w names sets = if not (is_hidden n) then visible_lines n w names sets else []

abbrev mutual
  -- in the order of the text; the statement of a logical IF has no line of its own
  pub stmt_lines : StmtTree → List (List ℕ) → List (At (List Region)) → List Added
  stmt_lines (tree.stmt n label w) names sets = own_lines n w names sets ++ part_lines w names sets

  pub part_lines : WhatTree → List (List ℕ) → List (At (List Region)) → List Added
  part_lines (tree.assign a b) names sets = []
  part_lines (tree.block_if arms other) names sets = arms_lines arms names sets ++ else_lines other names sets
  part_lines (tree.logical_if e s) names sets = []
  part_lines (tree.do_loop l) names sets = loop_lines l names sets
  part_lines (tree.call x es) names sets = []
  part_lines (tree.goto l) names sets = []
  part_lines tree.continue names sets = []
  part_lines tree.return names sets = []
  part_lines (tree.stop text) names sets = []
  part_lines (tree.print es) names sets = []
  part_lines (tree.read es) names sets = []

  pub list_lines : StmtTrees → List (List ℕ) → List (At (List Region)) → List Added
  list_lines tree.no_stmts names sets = []
  list_lines (tree.more_stmts s rest) names sets = stmt_lines s names sets ++ list_lines rest names sets

  pub arms_lines : ArmTrees → List (List ℕ) → List (At (List Region)) → List Added
  arms_lines tree.no_arms names sets = []
  arms_lines (tree.more_arms a rest) names sets = arm_lines a names sets ++ arms_lines rest names sets

  pub arm_lines : ArmTree → List (List ℕ) → List (At (List Region)) → List Added
  arm_lines (tree.arm test body) names sets = list_lines body names sets

  pub else_lines : ElseTree → List (List ℕ) → List (At (List Region)) → List Added
  else_lines tree.no_else names sets = []
  else_lines (tree.otherwise body) names sets = list_lines body names sets

  pub loop_lines : LoopTree → List (List ℕ) → List (At (List Region)) → List Added
  loop_lines (tree.loop index first last step body) names sets = list_lines body names sets

-- a main program has none
abbrev pub entry_lines : Bool → List (List ℕ) → List Region → List Added
entry_lines true names rs = []
entry_lines false names rs = set_lines names 0 rs

-- of a module: whether it is the main program, and its body
abbrev pub region_lines_of : Bool → StmtTrees → List (List ℕ) → Results (List Region) → List Added
region_lines_of main body names sets = entry_lines main names sets.summary ++ list_lines body names sets.at
