-- The text of a statement's own line, from column 7 on: of a block IF its first test, of a DO its three expressions. A block IF that
-- stands for another statement of the text has the line of that statement.
use Rattle.std.specs.Prelude.{ℕ, List, [], ◌++◌, Option, Some, None, codes, decimal}
use Rattle.f77_ast.specs.Trees.{ExprTree, ExprTrees, no_exprs, more_exprs, StmtTree, stmt, WhatTree, assign, block_if, logical_if, do_loop, call, goto, continue, return, stop, print, read, arm, ArmTrees, no_arms, more_arms, LoopTree, loop}
use Rattle.f77_ast.specs.Hidden.{IfForm, block, reference, do_while, form_of_if}
use Rattle.f77_printer.specs.ExprText.{expr_text, exprs_text, items_text}

-- the actual arguments of a CALL; without any no parentheses
abbrev pub actuals_text : ExprTrees → List ℕ
actuals_text no_exprs = []
actuals_text (more_exprs e es) = codes "(" ++ exprs_text (more_exprs e es) ++ codes ")"

-- the step of a DO, where it was written
abbrev pub step_text : Option ExprTree → List ℕ
step_text None = []
step_text (Some e) = codes "," ++ expr_text e

abbrev pub message_text : Option (List ℕ) → List ℕ
message_text None = []
message_text (Some text) = codes " " ++ text

abbrev pub loop_text : LoopTree → List ℕ
loop_text (loop index first last step body) =
    codes "DO " ++ index ++ codes " = " ++ expr_text first ++ codes "," ++ expr_text last ++ step_text step

abbrev pub first_test_text : ArmTrees → List ℕ
first_test_text no_arms = []
first_test_text (more_arms (arm test body) others) = expr_text test

-- the first line of a block IF with these arms, by what it stands for
abbrev pub if_text : IfForm → ArmTrees → List ℕ
if_text block arms = codes "IF (" ++ first_test_text arms ++ codes ") THEN"
if_text (reference left f es) arms = expr_text left ++ codes " = " ++ f ++ codes "(" ++ exprs_text es ++ codes ")"
if_text (do_while label test body) arms = codes "DO WHILE (" ++ expr_text test ++ codes ")"

abbrev mutual
  pub what_text : WhatTree → List ℕ
  what_text (assign v e) = expr_text v ++ codes " = " ++ expr_text e
  what_text (block_if arms other) = if_text (form_of_if arms other) arms
  what_text (logical_if e s) = codes "IF (" ++ expr_text e ++ codes ") " ++ own_text s
  what_text (do_loop l) = loop_text l
  what_text (call n es) = codes "CALL " ++ n ++ actuals_text es
  what_text (goto l) = codes "GO TO " ++ decimal l
  what_text continue = codes "CONTINUE"
  what_text return = codes "RETURN"
  what_text (stop text) = codes "STOP" ++ message_text text
  what_text (print es) = codes "PRINT *" ++ items_text es
  what_text (read es) = codes "READ *" ++ items_text es

  pub own_text : StmtTree → List ℕ
  own_text (stmt id label what) = what_text what
