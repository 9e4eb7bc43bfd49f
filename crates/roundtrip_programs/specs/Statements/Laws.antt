-- What was written is read as it was.
use Rattle.std.specs.Prelude.{◌≡◌, ℕ, List, ◌++◌, Option, Some, None, Ok, false}
use Rattle.fixed_form.specs.Body as body
use Rattle.f77_ast.specs.Trees.{ExprTree, ExprTrees, element, StmtTrees, stmt, WhatTree, assign, arm, ArmTrees, more_arms, ElseTree, loop}
use Rattle.f77_ast.specs.Trees as trees
use Rattle.f77_ast.specs.Hidden.{block, reference, do_while, form_of_if}
use Rattle.f77_exprs.specs.declared.at.Notes.{Notes}
use Rattle.f77_exprs.specs.State.{State}
use Rattle.f77_exprs.specs.Grammar.{expression, variable}
use Rattle.f77_statements.specs.Phrases.{PhraseTree, simple, logical_if, block_if, do_head, while_head}
use Rattle.f77_statements.specs.Statements.{phrase_of}
use Rattle.f77_printer.specs.ExprText.{expr_text}
use Rattle.f77_printer.specs.Layout.{stripped}
use Rattle.f77_printer.specs.StatementText.{what_text}
use Rattle.roundtrip_programs.specs.Statements.Follows.{standing, IsClean, EndsExpression, EndsVariable}
use Rattle.roundtrip_programs.specs.Statements.Formed.{IsExpression, IsVariable}
use Rattle.roundtrip_programs.specs.Statements.Phrased.{IsPhrase}
use Rattle.roundtrip_programs.specs.Statements.Written.{phrase_text, as_written}

-- expressions and variables
pub record ExpressionsReadBack : Type 0 where
  -- what reading gives without a cause to refuse it is formed as the grammar says
  pub expression_formed : (s t : State) (e : ExprTree) → expression s ≡ Some (e, t) → IsClean t.notes → IsExpression e
  pub variable_formed : (s t : State) (v : ExprTree) → variable s ≡ Some (v, t) → IsClean t.notes → IsVariable v
  -- the text of what is formed so, before what may stand behind it, is read as that
  pub expression_back : (e : ExprTree) (rest : List ℕ) (notes : Notes) → IsExpression e → EndsExpression rest
      → expression (standing (expr_text e ++ rest) notes) ≡ Some (e, standing rest notes)
  pub variable_back : (v : ExprTree) (rest : List ℕ) (notes : Notes) → IsVariable v → EndsVariable rest
      → variable (standing (expr_text v ++ rest) notes) ≡ Some (v, standing rest notes)

-- it ends outside its character constants: what follows is stripped by itself
abbrev pub IsClosed : List ℕ → Type 0
IsClosed text = (more : List ℕ) → stripped false (text ++ more) ≡ stripped false text ++ stripped false more

-- in the columns of its lines, stripped and folded to capitals as they are read, the text is what it is without its blanks
abbrev pub IsLined : List ℕ → Type 0
IsLined text = (more : List ℕ) → body.stripped false (text ++ more) ≡ stripped false text ++ body.stripped false more

-- no tab stands outside its character constants
abbrev pub HasNoTab : List ℕ → Type 0
HasNoTab text = (more : List ℕ) → body.has_tab false (text ++ more) ≡ body.has_tab false more

-- statements by themselves
pub record StatementsReadBack : Type 0 where
  -- what a stripped statement is read as is formed as the grammar says
  pub formed : (body : List ℕ) (p : PhraseTree) → phrase_of body ≡ Ok p → IsPhrase p
  -- the text of what is formed so, without its blanks, is read as that
  pub written_back : (p : PhraseTree) → IsPhrase p → phrase_of (stripped false (phrase_text p)) ≡ Ok (as_written p)
  -- blanks behind it, as they fill its last line, change nothing, and its letters outside constants are capitals
  pub closed : (p : PhraseTree) → IsPhrase p → IsClosed (phrase_text p)
  pub lined : (p : PhraseTree) → IsPhrase p → IsLined (phrase_text p)
  pub tabless : (p : PhraseTree) → IsPhrase p → HasNoTab (phrase_text p)
  -- so reading, writing and reading again gives what was read
  pub read_back : (body : List ℕ) (p : PhraseTree) → phrase_of body ≡ Ok p → phrase_of (stripped false (phrase_text p)) ≡ Ok (as_written p)

-- the line that the printer writes of a statement with statements in it is that of the phrase which begins it; of a block IF by what it
-- stands for
pub record LinesAreWritten : Type 0 where
  pub loop_line : (i : List ℕ) (first last : ExprTree) (step : Option ExprTree) (body : StmtTrees)
      → what_text (trees.do_loop (loop i first last step body)) ≡ phrase_text (do_head (record { label = None; index = i; first = first; last = last; step = step }))
  pub block_line : (test : ExprTree) (body : StmtTrees) (others : ArmTrees) (other : ElseTree) → form_of_if (more_arms (arm test body) others) other ≡ block
      → what_text (trees.block_if (more_arms (arm test body) others) other) ≡ phrase_text (block_if test)
  pub reference_line : (v : ExprTree) (f : List ℕ) (es : ExprTrees) (arms : ArmTrees) (other : ElseTree) → form_of_if arms other ≡ reference v f es
      → what_text (trees.block_if arms other) ≡ phrase_text (simple (assign v (element f es)))
  pub while_line : (l : ℕ) (test : ExprTree) (body : StmtTrees) (arms : ArmTrees) (other : ElseTree) → form_of_if arms other ≡ do_while l test body
      → what_text (trees.block_if arms other) ≡ phrase_text (while_head None test)
  pub logical_line : (e : ExprTree) (id : ℕ) (label : Option ℕ) (w : WhatTree) → what_text (trees.logical_if e (stmt id label w)) ≡ phrase_text (logical_if e w)
