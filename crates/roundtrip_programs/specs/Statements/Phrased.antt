-- The statements that the grammar gives.
use Rattle.std.specs.Prelude.{◌≡◌, ℕ, ◌<◌, ◌≤◌, List, [], ◌∷◌, ◌++◌, length, Option, Some, None, true}
use Rattle.f77_ast.specs.Trees.{ExprTree, element, ExprTrees, no_exprs, more_exprs, WhatTree, assign, do_loop, call, goto, continue, return, stop, print, read}
use Rattle.f77_ast.specs.Trees as trees
use Rattle.f77_exprs.specs.Lexical.{digit_first, skip_digits}
use Rattle.f77_printer.specs.ExprText.{doubled}
use Rattle.f77_statements.specs.Phrases.{DoTree, PhraseTree, program, subroutine, function, specification, simple, block_if, else_if, else_part, end_if, do_head, while_head, end_do, end_module}
use Rattle.f77_statements.specs.Phrases as phrases
use Rattle.roundtrip_programs.specs.Statements.Formed.{IsName, Each, AllFormed, IsExpression, IsVariable}
use Rattle.roundtrip_programs.specs.Statements.Declared.{MaybeExpression, IsDecl}

-- each of these trees is a variable
abbrev pub AllVariables : ExprTrees → Type 0
AllVariables no_exprs = Unit {0}
AllVariables (more_exprs e es) = record { first : IsVariable e; others : AllVariables es }

-- what STOP shows: one to five digits, or a character constant with its apostrophes
pub data IsMessage : List ℕ → Type 0 where
  digits : (t : List ℕ) → digit_first t ≡ true → skip_digits t ≡ [] → length t ≤ 5 → IsMessage t
  constant : (c : List ℕ) → IsMessage (39 ∷ (doubled c ++ (39 ∷ [])))

abbrev pub MaybeMessage : Option (List ℕ) → Type 0
MaybeMessage None = Unit {0}
MaybeMessage (Some t) = IsMessage t

-- the right side of an assignment: an expression, or a function without actual arguments
pub data IsRight : ExprTree → Type 0 where
  value : (e : ExprTree) → IsExpression e → IsRight e
  empty_call : (n : List ℕ) → IsName n → IsRight (element n no_exprs)

-- an executable statement that opens and closes no block
abbrev pub IsWhat : WhatTree → Type 0
IsWhat (assign v e) = record { left : IsVariable v; right : IsRight e }
IsWhat (call n es) = record { callee : IsName n; actuals : AllFormed es }
IsWhat (goto l) = l < 2147483648
IsWhat continue = Unit {0}
IsWhat return = Unit {0}
IsWhat (stop text) = MaybeMessage text
IsWhat (print es) = AllFormed es
IsWhat (read es) = AllVariables es
IsWhat (trees.block_if arms other) = ⊥
IsWhat (trees.logical_if e s) = ⊥
IsWhat (do_loop l) = ⊥

-- the first line of a DO; the label of its last statement is not written, nor is that of a DO WHILE
pub record IsHead (d : DoTree) : Type 0 where
  pub index : IsName d.index
  pub first : IsExpression d.first
  pub last : IsExpression d.last
  pub step : MaybeExpression d.step

-- a statement by itself
abbrev pub IsPhrase : PhraseTree → Type 0
IsPhrase (program n) = IsName n
IsPhrase (subroutine n ds) = record { name : IsName n; dummies : Each IsName ds }
IsPhrase (function form n ds) = record { name : IsName n; dummies : Each IsName ds }
IsPhrase (specification d) = IsDecl d
IsPhrase (simple w) = IsWhat w
IsPhrase (phrases.logical_if e w) = record { test : IsExpression e; inner : IsWhat w }
IsPhrase (block_if e) = IsExpression e
IsPhrase (else_if e) = IsExpression e
IsPhrase else_part = Unit {0}
IsPhrase end_if = Unit {0}
IsPhrase (do_head d) = IsHead d
IsPhrase (while_head l e) = IsExpression e
IsPhrase end_do = Unit {0}
IsPhrase end_module = Unit {0}
