-- The lines of a module: before each statement what holds of the analysed scalars there, and before a DO, a DO WHILE, a CALL or an assignment
-- of the value of a function also which of them it may change, and how. Hidden statements (f77_ast, specs/Hidden) have no lines.
use Rattle.std.specs.Prelude.{ℕ, Bool, true, false, not, List, [], ◌∷◌, ◌++◌, Option, Some, None, if◌then◌else◌}
use Rattle.affine_systems.specs.declared.row.System.{System}
use Rattle.f77_ast.specs.Trees.{StmtTree, WhatTree, ArmTree, ArmTrees, ElseTree, LoopTree, StmtTrees}
use Rattle.f77_ast.specs.Trees as tree
use Rattle.f77_ast.specs.Hidden.{is_hidden}
use Rattle.f77_printer.specs.declared.added.Added.{Added}
use Rattle.f77_ast.specs.declared.results.At.{At}
use Rattle.f77_ast.specs.declared.results.Results.{Results}
use Rattle.transformers.specs.transformer_algebra.declared.transformer.Transformer.{Transformer}
use Rattle.transformers.specs.Lists.{value_at}
use Rattle.system_text.specs.SystemText.{precondition_line, transformer_line}

-- what is known of a module: the names of its symbols, from number 1, and at each statement what holds and what it does
pub record Said : Type 0 where
  pub names : List (List ℕ)
  pub holds : ℕ → Option System
  pub does : ℕ → Option Transformer

abbrev pub before : ℕ → List ℕ → Added
before n x = record { before = n; line = x }

-- nothing is written of a statement without a result
abbrev pub holds_lines : List (List ℕ) → ℕ → Option System → List Added
holds_lines names n None = []
holds_lines names n (Some p) = before n (precondition_line names p) ∷ []

-- nor of one that changes no tracked cell
abbrev pub changes_lines : List (List ℕ) → ℕ → List ℕ → System → List Added
changes_lines names n [] s = []
changes_lines names n (c ∷ cs) s = before n (transformer_line names (c ∷ cs) s) ∷ []

abbrev pub does_lines : List (List ℕ) → ℕ → Option Transformer → List Added
does_lines names n None = []
does_lines names n (Some t) = changes_lines names n t.cells t.system

-- the first statement of a list, and of the first arm of a block IF, is hidden
abbrev pub begins_hidden : StmtTrees → Bool
begins_hidden tree.no_stmts = false
begins_hidden (tree.more_stmts (tree.stmt n label w) rest) = is_hidden n

abbrev pub stands_for : ArmTrees → Bool
stands_for tree.no_arms = false
stands_for (tree.more_arms (tree.arm test body) rest) = begins_hidden body

-- DO and CALL, and a block IF that stands for a DO WHILE or for an assignment of the value of a function
abbrev pub says_changes : WhatTree → Bool
says_changes (tree.assign a b) = false
says_changes (tree.block_if arms other) = stands_for arms
says_changes (tree.logical_if e s) = false
says_changes (tree.do_loop l) = true
says_changes (tree.call x es) = true
says_changes (tree.goto l) = false
says_changes tree.continue = false
says_changes tree.return = false
says_changes (tree.stop text) = false
says_changes (tree.print es) = false
says_changes (tree.read es) = false

-- the lines of a statement of the text
abbrev pub visible_lines : ℕ → WhatTree → Said → List Added
visible_lines n w k = holds_lines k.names n (k.holds n) ++ (if says_changes w then does_lines k.names n (k.does n) else [])

-- a statement's own lines
abbrev pub own_lines : ℕ → WhatTree → Said → List Added
own_lines n w k = if not (is_hidden n) then visible_lines n w k else []

abbrev mutual
  -- in the order of the text; the statement of a logical IF has no line of its own
  pub stmt_lines : StmtTree → Said → List Added
  stmt_lines (tree.stmt n label w) k = own_lines n w k ++ part_lines w k

  pub part_lines : WhatTree → Said → List Added
  part_lines (tree.assign a b) k = []
  part_lines (tree.block_if arms other) k = arms_lines arms k ++ else_lines other k
  part_lines (tree.logical_if e s) k = []
  part_lines (tree.do_loop l) k = loop_lines l k
  part_lines (tree.call x es) k = []
  part_lines (tree.goto l) k = []
  part_lines tree.continue k = []
  part_lines tree.return k = []
  part_lines (tree.stop text) k = []
  part_lines (tree.print es) k = []
  part_lines (tree.read es) k = []

  pub list_lines : StmtTrees → Said → List Added
  list_lines tree.no_stmts k = []
  list_lines (tree.more_stmts s rest) k = stmt_lines s k ++ list_lines rest k

  pub arms_lines : ArmTrees → Said → List Added
  arms_lines tree.no_arms k = []
  arms_lines (tree.more_arms a rest) k = arm_lines a k ++ arms_lines rest k

  pub arm_lines : ArmTree → Said → List Added
  arm_lines (tree.arm test body) k = list_lines body k

  pub else_lines : ElseTree → Said → List Added
  else_lines tree.no_else k = []
  else_lines (tree.otherwise body) k = list_lines body k

  pub loop_lines : LoopTree → Said → List Added
  loop_lines (tree.loop index first last step body) k = list_lines body k

-- a subroutine's lines on its entry and on what its callers see of it, before its first part; a main program has none
abbrev pub entry_lines : Bool → List (List ℕ) → System → Transformer → List Added
entry_lines true names p t = []
entry_lines false names p t = before 0 (precondition_line names p) ∷ changes_lines names 0 t.cells t.system

abbrev pub said : List (List ℕ) → List (At Transformer) → List (At System) → Said
said names own pre = record { names = names; holds = value_at pre; does = value_at own }

-- of a module: whether it is the main program, and its body
abbrev pub scalar_lines_of : Bool → StmtTrees → List (List ℕ) → Results Transformer → Results System → List Added
scalar_lines_of main body names own pre = entry_lines main names pre.summary own.summary ++ list_lines body (said names own.at pre.at)
