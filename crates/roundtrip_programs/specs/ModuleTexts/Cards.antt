-- The statements that are written of a module, in the order of its text: those of the module as it is written.
use Rattle.std.specs.Prelude.{ℕ, ◌+◌, Bool, true, false, ◌||◌, not, List, [], ◌∷◌, ◌++◌, Option, Some, None, if◌then◌else◌}
use Rattle.f77_ast.specs.declared.module.FunctionForm.{FunctionForm}
use Rattle.f77_ast.specs.declared.places.Part.{Part}
use Rattle.f77_ast.specs.declared.places.Part.TheVariants as parts
use Rattle.f77_ast.specs.Trees.{ExprTree, StmtTree, stmt, WhatTree, assign, do_loop, call, goto, continue, return, stop, print, read, arm, ArmTrees, no_arms, more_arms, ElseTree, no_else, otherwise, LoopTree, loop, StmtTrees, no_stmts, more_stmts}
use Rattle.f77_ast.specs.Trees as trees
use Rattle.f77_ast.specs.DeclTrees.{DeclTree, ModuleTree}
use Rattle.f77_printer.specs.ModuleText.{titled_dummies}
use Rattle.f77_statements.specs.Phrases.{PhraseTree, program, subroutine, function, specification, simple, logical_if, block_if, else_if, else_part, end_if, do_head, while_head, end_do, end_module}
use Rattle.f77_parser.specs.Elaborated.{meant_in}
use Rattle.roundtrip_programs.specs.ModuleTexts.Folded.{folded}

-- a statement by itself with its label, the part of the module that it is, and for a logical IF that of the statement in it
pub record Card : Type 0 where
  pub part : Part
  pub inner : Option Part
  pub label : Option ℕ
  pub phrase : PhraseTree

abbrev pub card : Part → Option ℕ → PhraseTree → Card
card part label phrase = record { part = part; inner = None; label = label; phrase = phrase }

-- ---- executable statements

abbrev pub within : ℕ → Option ℕ → ExprTree → StmtTree → Card
within id label test (stmt inner own w) = record { part = parts.Stmt id; inner = Some (parts.Stmt inner); label = label; phrase = logical_if test w }

-- a DO is written without a label of its last statement
abbrev pub head_of : LoopTree → PhraseTree
head_of (loop index first last step body) = do_head (record { label = None; index = index; first = first; last = last; step = step })

-- the first and the last line of a block IF, or of the DO WHILE that it stands for; no label is written of its last statement
abbrev pub if_head : Bool → ExprTree → PhraseTree
if_head true e = while_head None e
if_head false e = block_if e

abbrev pub if_end : Bool → PhraseTree
if_end true = end_do
if_end false = end_if

abbrev mutual
  -- a statement as it is written and what stands below it; the test tells the numbers of DO WHILEs
  pub cards_of : (ℕ → Bool) → StmtTree → List Card
  cards_of f (stmt id label w) = cards_by f id label w

  pub cards_by : (ℕ → Bool) → ℕ → Option ℕ → WhatTree → List Card
  cards_by f id label (assign v e) = card (parts.Stmt id) label (simple (assign v e)) ∷ []
  cards_by f id label (trees.block_if arms other) = block_cards f id label arms (else_cards f id other ++ card (parts.Close id) None (if_end (f id)) ∷ [])
  cards_by f id label (trees.logical_if e s) = within id label e s ∷ []
  cards_by f id label (do_loop l) = card (parts.Stmt id) label (head_of l) ∷ body_cards f id l
  cards_by f id label (call n es) = card (parts.Stmt id) label (simple (call n es)) ∷ []
  cards_by f id label (goto l) = card (parts.Stmt id) label (simple (goto l)) ∷ []
  cards_by f id label continue = card (parts.Stmt id) label (simple continue) ∷ []
  cards_by f id label return = card (parts.Stmt id) label (simple return) ∷ []
  cards_by f id label (stop t) = card (parts.Stmt id) label (simple (stop t)) ∷ []
  cards_by f id label (print es) = card (parts.Stmt id) label (simple (print es)) ∷ []
  cards_by f id label (read es) = card (parts.Stmt id) label (simple (read es)) ∷ []

  pub body_cards : (ℕ → Bool) → ℕ → LoopTree → List Card
  body_cards f id (loop index first last step body) = cards_in f body ++ card (parts.Close id) None end_do ∷ []

  -- a block IF begins with its first part, and these end it; without a part nothing is written of it
  pub block_cards : (ℕ → Bool) → ℕ → Option ℕ → ArmTrees → List Card → List Card
  block_cards f id label no_arms end = []
  block_cards f id label (more_arms (arm test body) others) end =
      card (parts.Stmt id) label (if_head (f id) test) ∷ (cards_in f body ++ part_cards f id 1 others end)

  -- its other parts, from this place on, and what ends it
  pub part_cards : (ℕ → Bool) → ℕ → ℕ → ArmTrees → List Card → List Card
  part_cards f id place no_arms end = end
  part_cards f id place (more_arms (arm test body) others) end =
      card (parts.ElseIf id place) None (else_if test) ∷ (cards_in f body ++ part_cards f id (place + 1) others end)

  pub else_cards : (ℕ → Bool) → ℕ → ElseTree → List Card
  else_cards f id no_else = []
  else_cards f id (otherwise body) = card (parts.Else id) None else_part ∷ cards_in f body

  pub cards_in : (ℕ → Bool) → StmtTrees → List Card
  cards_in f no_stmts = []
  cards_in f (more_stmts s others) = cards_of f s ++ cards_in f others

-- the numbers of the DO WHILEs among them
abbrev pub while_number : Part → PhraseTree → List ℕ
while_number (parts.Stmt id) (while_head l e) = id ∷ []
while_number part phrase = []

abbrev pub while_numbers : List Card → List ℕ
while_numbers [] = []
while_numbers (c ∷ cs) = while_number c.part c.phrase ++ while_numbers cs

-- ---- modules

-- the title of a function has its last dummy, which is its name, not among its dummies
abbrev pub head_phrase : Option FunctionForm → List ℕ → List (List ℕ) → PhraseTree
head_phrase None n ds = subroutine n ds
head_phrase (Some form) n ds = function form n (titled_dummies ds)

abbrev pub title_of : ModuleTree → PhraseTree
title_of m = if m.main then program m.name else head_phrase m.function m.name m.dummies

-- PROGRAM is written where it was read
abbrev pub title_cards : ModuleTree → List Card
title_cards m = if m.titled || not m.main then card parts.Title None (title_of m) ∷ [] else []

-- specifications, from this place on
abbrev pub decl_cards : ℕ → List DeclTree → List Card
decl_cards place [] = []
decl_cards place (d ∷ ds) = card (parts.Decl place) None (specification d) ∷ decl_cards (place + 1) ds

-- of a module as it is written
unfoldable pub written_cards : ModuleTree → List Card
written_cards w = title_cards w ++ decl_cards 0 w.decls ++ cards_in (meant_in w).is_while w.body ++ card parts.End None end_module ∷ []

-- of a module: those of the module as it is written
unfoldable pub statements_of : ModuleTree → List Card
statements_of m = title_cards m ++ decl_cards 0 m.decls ++ cards_in (meant_in m).is_while (folded m).body ++ card parts.End None end_module ∷ []
