-- Expressions and variables are formed as the grammar says, and are read back.
use Rattle.std.proofs.Common.{◌≡◌, ◌++◌, subst, ◌∙◌, Option, Some}
use Rattle.f77_ast.specs.Trees.{ExprTree, int, log, name, element, paren, unary, binary, chars, no_exprs, more_exprs}
use Rattle.f77_exprs.specs.declared.at.Notes.{Notes}
use Rattle.f77_exprs.specs.State.{State}
use Rattle.f77_exprs.specs.Grammar.{expression, variable, variable_in}
use Rattle.f77_exprs.specs.Laws.{inside}
use Rattle.f77_exprs.proofs.Depth.{is_grammar}
use Rattle.f77_printer.specs.ExprText.{expr_text}
use Rattle.roundtrip_programs.specs.Statements.Formed.{IsExpression, IsVariable}
use Rattle.roundtrip_programs.specs.Statements.Follows.{standing, IsClean}
use Rattle.roundtrip_programs.specs.Statements.Laws.{ExpressionsReadBack}
use Rattle.roundtrip_programs.proofs.Statements.Readings.{After}
use Rattle.roundtrip_programs.proofs.Statements.Behind.{Calm, BehindEquivalence, expression_ends, variable_ends}
use Rattle.roundtrip_programs.proofs.Statements.Turns.{Back}
use Rattle.roundtrip_programs.proofs.Statements.Operands.{name_variable, element_variable}
use Rattle.roundtrip_programs.proofs.Statements.ReadBack.{read_back, all_back, whole_back}
use Rattle.roundtrip_programs.proofs.Statements.Formation.{expression-formed, variable-formed}

given : {A : Type 0} (o : Option (A × State)) (a : A) (t : State) (k : Notes) (P : A → Type 0) → After o k P → o ≡ Some (a, t) → IsClean t.notes → P a
given {A = A} o a t k P h e c = let g : After (Some (a, t)) k P = subst (λ (x : Option (A × State)). After x k P) e h in (g c).1

pub expression-back : (e : ExprTree) → IsExpression e → Back expression (expr_text e) e BehindEquivalence
expression-back e f t k h = is_grammar.expression_is (standing (expr_text e ++ t) k) ∙ whole_back e (read_back f) t k h

in_back : (v : ExprTree) → IsVariable v → Back (variable_in inside) (expr_text v) v Calm
in_back (name n) h = name_variable n h
in_back (element n (more_exprs e es)) h = element_variable n e es h.name (whole_back e (read_back h.first)) (all_back h.others)
in_back (element n no_exprs) h = absurd h
in_back (int n) h = absurd h
in_back (log b) h = absurd h
in_back (paren e) h = absurd h
in_back (unary op e) h = absurd h
in_back (binary op a b) h = absurd h
in_back (chars c) h = absurd h

pub variable-back : (v : ExprTree) → IsVariable v → Back variable (expr_text v) v Calm
variable-back v h t k c = is_grammar.variable_is (standing (expr_text v ++ t) k) ∙ in_back v h t k c

pub expressions_read_back : ExpressionsReadBack
expressions_read_back = record {
  expression_formed = λ s t e h c. given (expression s) e t s.notes IsExpression (expression-formed s) h c;
  variable_formed = λ s t v h c. given (variable s) v t s.notes IsVariable (variable-formed s) h c;
  expression_back = λ e rest notes f h. expression-back e f rest notes (expression_ends rest h);
  variable_back = λ v rest notes f h. variable-back v f rest notes (variable_ends rest h);
}
