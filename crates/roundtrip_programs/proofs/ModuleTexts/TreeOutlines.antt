-- The outline of statements.
use Rattle.std.proofs.Common.{ℕ}
use Rattle.std.specs.Prelude.{Option}
use Rattle.f77_ast.specs.Trees.{StmtTree, stmt, WhatTree, assign, block_if, logical_if, do_loop, call, goto, continue, return, stop, print, read, arm, ArmTrees, no_arms, more_arms, ElseTree, no_else, otherwise, LoopTree, loop, StmtTrees, no_stmts, more_stmts}
use Rattle.f77_structure.specs.declared.mark.Action.{Action}
use Rattle.f77_structure.specs.declared.mark.Action.TheVariants.{Goto}
use Rattle.f77_parser.specs.Roles.{action_of}
use Rattle.roundtrip_programs.proofs.ModuleTexts.Outlines.{Outline, lands, goes, begins, leaves}

abbrev pub acting : StmtTree → Action
acting (stmt id label w) = action_of w

abbrev mutual
  pub outline_of : StmtTree → Outline → Outline
  outline_of (stmt id label w) o = outline_by label w o

  pub outline_by : Option ℕ → WhatTree → Outline → Outline
  outline_by label (assign v e) o = lands label o
  outline_by label (block_if arms other) o = outline_else other (outline_arms arms (lands label o))
  outline_by label (logical_if e s) o = lands label (goes (acting s) o)
  outline_by label (do_loop l) o = outline_body l (lands label o)
  outline_by label (call n es) o = lands label o
  outline_by label (goto l) o = lands label (goes (Goto l) o)
  outline_by label continue o = lands label o
  outline_by label return o = lands label o
  outline_by label (stop t) o = lands label o
  outline_by label (print es) o = lands label o
  outline_by label (read es) o = lands label o

  pub outline_body : LoopTree → Outline → Outline
  outline_body (loop index first last step body) o = leaves (outline_in body (begins o))

  pub outline_arms : ArmTrees → Outline → Outline
  outline_arms no_arms o = o
  outline_arms (more_arms (arm test body) others) o = outline_arms others (leaves (outline_in body (begins o)))

  pub outline_else : ElseTree → Outline → Outline
  outline_else no_else o = o
  outline_else (otherwise body) o = leaves (outline_in body (begins o))

  pub outline_in : StmtTrees → Outline → Outline
  outline_in no_stmts o = o
  outline_in (more_stmts s others) o = outline_in others (outline_of s o)
