-- A statement by itself as plain data.
use Rattle.std.specs.Prelude.{ℕ, List, Option}
use Rattle.f77_ast.specs.declared.module.FunctionForm.{FunctionForm}
use Rattle.f77_ast.specs.Trees.{ExprTree, WhatTree}
use Rattle.f77_ast.specs.DeclTrees.{DeclTree}
use Rattle.f77_ast.specs.Plain.{expr_tree}
use Rattle.f77_ast.specs.PlainStmt.{what_tree, maybe_tree}
use Rattle.f77_ast.specs.PlainDecl.{decl_tree}
use Rattle.f77_statements.specs.declared.phrase.DoHead.{DoHead}
use Rattle.f77_statements.specs.declared.phrase.Phrase.{Phrase}
use Rattle.f77_statements.specs.declared.phrase.Phrase.TheVariants.{Program, Subroutine, Function, Decl, Simple, LogicalIf, BlockIf, ElseIf, Else, EndIf, Do, While, EndDo, End}

-- the label of the last statement where there is one, the index, the first and the last value, and the step where it was written
pub record DoTree : Type 0 where
  pub label : Option ℕ
  pub index : List ℕ
  pub first : ExprTree
  pub last : ExprTree
  pub step : Option ExprTree

pub data PhraseTree : Type 0 where
  program : List ℕ → PhraseTree
  subroutine : List ℕ → List (List ℕ) → PhraseTree
  function : FunctionForm → List ℕ → List (List ℕ) → PhraseTree
  specification : DeclTree → PhraseTree
  simple : WhatTree → PhraseTree
  logical_if : ExprTree → WhatTree → PhraseTree
  block_if : ExprTree → PhraseTree
  else_if : ExprTree → PhraseTree
  else_part : PhraseTree
  end_if : PhraseTree
  do_head : DoTree → PhraseTree
  while_head : Option ℕ → ExprTree → PhraseTree
  end_do : PhraseTree
  end_module : PhraseTree

-- the first line of a DO without pointers
abbrev pub do_tree : DoHead → DoTree
do_tree d = record {
  label = d.label;
  index = d.index;
  first = expr_tree d.first;
  last = expr_tree d.last;
  step = maybe_tree d.step;
}

-- a statement by itself without pointers
abbrev pub phrase_tree : Phrase → PhraseTree
phrase_tree (Program n) = program n
phrase_tree (Subroutine n ds) = subroutine n ds
phrase_tree (Function form n ds) = function form n ds
phrase_tree (Decl d) = specification (decl_tree d)
phrase_tree (Simple w) = simple (what_tree w)
phrase_tree (LogicalIf e w) = logical_if (expr_tree e) (what_tree w)
phrase_tree (BlockIf e) = block_if (expr_tree e)
phrase_tree (ElseIf e) = else_if (expr_tree e)
phrase_tree Else = else_part
phrase_tree EndIf = end_if
phrase_tree (Do d) = do_head (do_tree d)
phrase_tree (While label e) = while_head label (expr_tree e)
phrase_tree EndDo = end_do
phrase_tree End = end_module
