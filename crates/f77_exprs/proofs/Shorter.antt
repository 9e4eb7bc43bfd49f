-- What is left is never longer than what was there.
use Rattle.std.proofs.Common.{◌≡◌, ℕ, ◌≤◌, ◌+◌, List, length, Option, Some, subst}
use Rattle.std.specs.Prelude.{Result, Ok, Err, IfOk}
use Rattle.f77_ast.specs.declared.expr.Expr.{Expr}
use Rattle.f77_ast.specs.Trees.{ExprTree}
use Rattle.f77_ast.specs.Plain.{expr_tree}
use Rattle.f77_exprs.specs.declared.at.Cursor.{Cursor}
use Rattle.f77_exprs.specs.declared.parse_error.ParseError.{ParseError}
use Rattle.f77_exprs.specs.State.{State, state, parse_word, GivesExpr}
use Rattle.f77_exprs.specs.Grammar.{part, whole}
use Rattle.f77_exprs.proofs.Same.{Within, word-le}
use Rattle.f77_exprs.proofs.Depth.{part-steady}

pub take_word_shorter : (w : List ℕ) (s t : State) → parse_word w s ≡ Some t → length t.rest ≤ length s.rest
take_word_shorter w s t e = word-le w s t e

expression_shorter : (s t : State) (tree : ExprTree) → part (length s.rest + 1) whole s ≡ Some (tree, t) → length t.rest ≤ length s.rest
expression_shorter s t tree e =
    let w : Within (Some (tree, t)) (length s.rest) = subst (λ (o : Option (ExprTree × State)). Within o (length s.rest)) e (part-steady (length s.rest + 1) whole s) in w

-- the same of what a function returned
pub returned_shorter : (r : Result (Expr × Cursor) ParseError) (s : State) → GivesExpr r (part (length s.rest + 1) whole s) → IfOk r (λ x. length x.1.rest.now ≤ length s.rest)
returned_shorter (Ok x) s h = expression_shorter s (state x.1) (expr_tree x.0) h
returned_shorter (Err e) s h = tt
