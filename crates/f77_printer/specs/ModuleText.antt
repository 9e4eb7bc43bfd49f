-- The written text of a module: its parts in their order, each behind its comments and what is added before it. What the text has no
-- statement for has no line: of a hidden statement only those are written that are below it and not hidden.
use Rattle.std.specs.Prelude.{ℕ, ◌+◌, ◌-◌, List, [], ◌∷◌, ◌++◌, length, take, Bool, not, ◌||◌, nat_eq, Option, Some, None, codes, if◌then◌else◌}
use Rattle.f77_ast.specs.declared.module.FunctionForm.{FunctionForm}
use Rattle.f77_ast.specs.declared.module.FunctionForm.TheVariants.{Plain, Integer, Logical}
use Rattle.f77_ast.specs.declared.places.Part.{Part}
use Rattle.f77_ast.specs.declared.places.Part.TheVariants.{Title, Decl, Stmt, ElseIf, Else, Close, End}
use Rattle.f77_ast.specs.declared.places.Places.{Places}
use Rattle.f77_ast.specs.Trees.{ExprTree, StmtTree, stmt, WhatTree, assign, block_if, logical_if, do_loop, call, goto, continue, return, stop, print, read, ArmTrees, no_arms, more_arms, arm, ElseTree, no_else, otherwise, LoopTree, loop, StmtTrees, no_stmts, more_stmts}
use Rattle.f77_ast.specs.DeclTrees.{DeclTree, ModuleTree}
use Rattle.f77_ast.specs.Hidden.{is_hidden, IfForm, block, reference, do_while, form_of_if}
use Rattle.f77_printer.specs.declared.added.Added.{Added}
use Rattle.f77_printer.specs.ExprText.{expr_text}
use Rattle.f77_printer.specs.DeclText.{joined_by, decl_text}
use Rattle.f77_printer.specs.StatementText.{what_text}
use Rattle.f77_printer.specs.PageText.{PageTree, with_text, with_comments, with_line, lines_text}
use Rattle.f77_printer.specs.AddedText.{added_text}

-- what stands before a part: its comments, then what is added
abbrev pub with_start : (Part → List ℕ) → Part → PageTree → PageTree
with_start added part p = with_text (added part) (with_comments part p)

-- ---- executable statements

-- the statement inside a logical IF has a spot and stands in the same line; nothing is added before it
abbrev pub with_inner : WhatTree → PageTree → PageTree
with_inner (assign v e) p = p
with_inner (block_if arms other) p = p
with_inner (logical_if e (stmt id label w)) p = with_comments (Stmt id) p
with_inner (do_loop l) p = p
with_inner (call n es) p = p
with_inner (goto l) p = p
with_inner continue p = p
with_inner return p = p
with_inner (stop text) p = p
with_inner (print es) p = p
with_inner (read es) p = p

abbrev pub else_if_text : ExprTree → List ℕ
else_if_text test = codes "ELSE IF (" ++ expr_text test ++ codes ") THEN"

-- the line of a part of a block IF, by its place from 0: the first one's is that of the IF itself
abbrev pub with_test : ℕ → ℕ → ExprTree → PageTree → PageTree
with_test id place test p =
    if nat_eq place 0 then p else with_line None (else_if_text test) (with_comments (ElseIf id place) p)

-- END IF or END DO
abbrev pub with_close : ℕ → List ℕ → PageTree → PageTree
with_close id text p = with_line None text (with_comments (Close id) p)

-- the last line of a block IF, by what it stands for
abbrev pub with_end_if : ℕ → IfForm → PageTree → PageTree
with_end_if id block p = with_close id (codes "END IF") p
with_end_if id (reference left f es) p = p
with_end_if id (do_while label test body) p = with_close id (codes "END DO") p

-- the last line of a block
abbrev pub with_last : ℕ → WhatTree → PageTree → PageTree
with_last id (assign v e) p = p
with_last id (block_if arms other) p = with_end_if id (form_of_if arms other) p
with_last id (logical_if e s) p = p
with_last id (do_loop l) p = with_close id (codes "END DO") p
with_last id (call n es) p = p
with_last id (goto l) p = p
with_last id continue p = p
with_last id return p = p
with_last id (stop text) p = p
with_last id (print es) p = p
with_last id (read es) p = p

-- what stands before a statement, and its own line
abbrev pub with_own : (Part → List ℕ) → ℕ → Option ℕ → WhatTree → PageTree → PageTree
with_own added id label w p = with_line label (what_text w) (with_inner w (with_start added (Stmt id) p))

abbrev mutual
  -- what stands before a statement, its own line, what stands below it, and its last line; of a hidden one what stands below it
  pub with_statement : (Part → List ℕ) → StmtTree → PageTree → PageTree
  with_statement added (stmt id label w) p =
      if is_hidden id then with_below added id w p else with_last id w (with_below added id w (with_own added id label w p))

  -- the lists of a block with the lines between them
  pub with_below : (Part → List ℕ) → ℕ → WhatTree → PageTree → PageTree
  with_below added id (assign v e) p = p
  with_below added id (block_if arms other) p = with_else added id other (with_arms added id 0 arms p)
  with_below added id (logical_if e s) p = p
  with_below added id (do_loop l) p = with_body added l p
  with_below added id (call n es) p = p
  with_below added id (goto l) p = p
  with_below added id continue p = p
  with_below added id return p = p
  with_below added id (stop text) p = p
  with_below added id (print es) p = p
  with_below added id (read es) p = p

  pub with_body : (Part → List ℕ) → LoopTree → PageTree → PageTree
  with_body added (loop index first last step body) p = with_statements added body p

  -- parts of a block IF, from this place on
  pub with_arms : (Part → List ℕ) → ℕ → ℕ → ArmTrees → PageTree → PageTree
  with_arms added id place no_arms p = p
  with_arms added id place (more_arms (arm test body) others) p =
      with_arms added id (place + 1) others (with_statements added body (with_test id place test p))

  pub with_else : (Part → List ℕ) → ℕ → ElseTree → PageTree → PageTree
  with_else added id no_else p = p
  with_else added id (otherwise body) p = with_statements added body (with_line None (codes "ELSE") (with_comments (Else id) p))

  pub with_statements : (Part → List ℕ) → StmtTrees → PageTree → PageTree
  with_statements added no_stmts p = p
  with_statements added (more_stmts s others) p = with_statements added others (with_statement added s p)

-- ---- modules

-- PROGRAM is written where it was read
abbrev pub has_title : ModuleTree → Bool
has_title m = m.titled || not m.main

-- the dummies of a SUBROUTINE; without any no parentheses
abbrev pub dummies_text : List (List ℕ) → List ℕ
dummies_text [] = []
dummies_text (d ∷ ds) = codes "(" ++ joined_by (λ n. n) (d ∷ ds) ++ codes ")"

-- the last dummy of a function is its own name, which its title does not have among the dummies
abbrev pub titled_dummies : List (List ℕ) → List (List ℕ)
titled_dummies ds = take (length ds - 1) ds

abbrev pub function_word : FunctionForm → List ℕ
function_word Plain = codes "FUNCTION "
function_word Integer = codes "INTEGER FUNCTION "
function_word Logical = codes "LOGICAL FUNCTION "

-- of a module with a FUNCTION statement of this form, and of another that is no main program (ANSI X3.9-1978 §15.5.1, §15.6.1)
abbrev pub head_word : Option FunctionForm → List ℕ
head_word None = codes "SUBROUTINE "
head_word (Some form) = function_word form

-- the parentheses of a FUNCTION are always written
abbrev pub head_dummies : Option FunctionForm → List (List ℕ) → List ℕ
head_dummies None ds = dummies_text ds
head_dummies (Some form) ds = codes "(" ++ joined_by (λ n. n) (titled_dummies ds) ++ codes ")"

abbrev pub head_text : Option FunctionForm → List ℕ → List (List ℕ) → List ℕ
head_text function name ds = head_word function ++ name ++ head_dummies function ds

abbrev pub title_text : ModuleTree → List ℕ
title_text m = if m.main then codes "PROGRAM " ++ m.name else head_text m.function m.name m.dummies

-- a title has no label, nor have specifications
abbrev pub with_title : (Part → List ℕ) → ModuleTree → PageTree → PageTree
with_title added m p = if has_title m then with_line None (title_text m) (with_start added Title p) else p

abbrev pub with_decl : (Part → List ℕ) → ℕ → DeclTree → PageTree → PageTree
with_decl added place d p = with_line None (decl_text d) (with_start added (Decl place) p)

-- specifications, from this place on
abbrev pub with_decls : (Part → List ℕ) → ℕ → List DeclTree → PageTree → PageTree
with_decls added place [] p = p
with_decls added place (d ∷ ds) p = with_decls added (place + 1) ds (with_decl added place d p)

abbrev pub with_end : (Part → List ℕ) → PageTree → PageTree
with_end added p = with_line None (codes "END") (with_start added End p)

abbrev pub with_module : (Part → List ℕ) → ModuleTree → PageTree → PageTree
with_module added m p = with_end added (with_statements added m.body (with_decls added 0 m.decls (with_title added m p)))

abbrev pub first_in : StmtTrees → Part
first_in no_stmts = End
first_in (more_stmts (stmt id label w) others) = Stmt id

abbrev pub first_below : List DeclTree → StmtTrees → Part
first_below [] body = first_in body
first_below (d ∷ ds) body = Decl 0

-- the part that is written first
abbrev pub first_part : ModuleTree → Part
first_part m = if has_title m then Title else first_below m.decls m.body

-- a module with its places and the lines that are added to it
abbrev pub module_text : Places → ModuleTree → List Added → List ℕ
module_text places m added =
    let whole = with_module (added_text (first_part m) added) m (record { text = []; spots = places.spots }) in
    (with_text (lines_text places.closing) whole).text
