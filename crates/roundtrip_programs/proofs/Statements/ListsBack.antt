-- The lists of statements are read back: to the end of the statement, in parentheses, behind a comma.
use Rattle.std.proofs.Common.{◌≡◌, ℕ, List, [], ◌∷◌, ◌++◌, refl, ap, ◌∙◌, sym, append-nil, Option, Some, None}
use Rattle.std.specs.Prelude.{codes}
use Rattle.f77_ast.specs.Trees.{ExprTrees, no_exprs, more_exprs}
use Rattle.f77_exprs.specs.declared.at.Notes.{Notes}
use Rattle.f77_exprs.specs.Words.{after}
use Rattle.f77_exprs.specs.State.{State, Reader, parse_word, ◌>>=◌}
use Rattle.f77_exprs.specs.Grammar.{Between, comma, items, items_by, expression, variable}
use Rattle.f77_statements.specs.Lists.{ending, in_parentheses, maybe_after_comma}
use Rattle.f77_printer.specs.ExprText.{expr_text, items_text}
use Rattle.f77_printer.specs.DeclText.{joined_by}
use Rattle.roundtrip_programs.specs.Statements.Formed.{AllFormed, more, none, IsExpression, IsVariable}
use Rattle.roundtrip_programs.specs.Statements.Phrased.{AllVariables}
use Rattle.roundtrip_programs.specs.Statements.Follows.{standing}
use Rattle.roundtrip_programs.proofs.Statements.Behind.{Calm, BehindEquivalence, at_comma, at_end, calm_by, calm_comma}
use Rattle.roundtrip_programs.proofs.Statements.Turns.{Back}
use Rattle.roundtrip_programs.specs.Statements.Formed.{Each}
use Rattle.roundtrip_programs.proofs.Statements.Items.{Listed, items_back}
use Rattle.roundtrip_programs.proofs.Statements.Operands.{list_of, items-text}
use Rattle.roundtrip_programs.proofs.Statements.Expressions.{expression-back, variable-back}

pub calm_end : Calm []
calm_end = calm_by [] refl refl refl refl refl tt

-- at the end of the statement
pub back_end : {A : Type 0} (R : Reader A) (text : List ℕ) (x : A) (Stops : List ℕ → Type 0) → Back R text x Stops → Stops [] → (k : Notes) → R (standing text k) ≡ Some (x, standing [] k)
back_end R text x Stops b s k = ap (λ (y : List ℕ). R (standing y k)) (sym (append-nil text)) ∙ b [] k s

pub items_end : {A : Type 0} (between : Between) (one : Reader A) (text : A → List ℕ) (Stops : List ℕ → Type 0) (P : A → Type 0) → Listed between one text Stops P
    → (x : A) (xs : List A) (k : Notes) → P x → Each P xs → Stops [] → between (standing [] k) ≡ None → items_by between one (standing (joined_by text (x ∷ xs)) k) ≡ Some (x ∷ xs, standing [] k)
items_end between one text Stops P l x xs k p e s b =
    ap (λ (y : List ℕ). items_by between one (standing y k)) (sym (append-nil (joined_by text (x ∷ xs)))) ∙ items_back between one text Stops P l x xs [] k p e s b

-- before a closing parenthesis
pub ending_back : {A : Type 0} (one : Reader A) (x : A) (s : State) (t : List ℕ) (k : Notes) → one s ≡ Some (x, standing (41 ∷ t) k) → ending (codes ")") one s ≡ Some (x, standing t k)
unfolding ending
ending_back one x s t k h = ap (λ (o : Option (_ × State)). o >>= λ r. parse_word (codes ")") r.1 >>= λ t. Some (r.0, t)) h

-- in parentheses
pub enclosed_back : {A : Type 0} (one : Reader A) (text : A → List ℕ) (Stops : List ℕ → Type 0) (P : A → Type 0) → Listed comma one text Stops P
    → (x : A) (xs : List A) (t : List ℕ) (k : Notes) → P x → Each P xs → Stops (41 ∷ t) → after (codes ")") (joined_by text (x ∷ xs) ++ (41 ∷ t)) ≡ None
    → in_parentheses one (standing (joined_by text (x ∷ xs) ++ (41 ∷ t)) k) ≡ Some (x ∷ xs, standing t k)
unfolding in_parentheses ending
enclosed_back one text Stops P l x xs t k p e s n =
    rw n (ap (λ (o : Option (List _ × State)). o >>= λ r. parse_word (codes ")") r.1 >>= λ t. Some (r.0, t)) (items_back comma one text Stops P l x xs (41 ∷ t) k p e s refl))

-- ---- expressions and variables

pub expressions_listed : Listed comma expression expr_text BehindEquivalence IsExpression
expressions_listed = record { back = expression-back; at_comma = at_comma; goes_on = λ x u k h. refl }

pub variables_listed : Listed comma variable expr_text Calm IsVariable
variables_listed = record { back = variable-back; at_comma = calm_comma; goes_on = λ x u k h. refl }

pub each_formed : {es : ExprTrees} → AllFormed es → Each IsExpression (list_of es)
each_formed none = tt
each_formed (more e es f fs) = record { first = f; others = each_formed fs }

pub each_variable : (es : ExprTrees) → AllVariables es → Each IsVariable (list_of es)
each_variable no_exprs h = tt
each_variable (more_exprs e es) h = record { first = h.first; others = each_variable es h.others }

pub expressions_left : {es : ExprTrees} → AllFormed es → (k : Notes) → maybe_after_comma expression (standing (items_text es) k) ≡ Some (list_of es, standing [] k)
unfolding maybe_after_comma
expressions_left none k = refl
expressions_left (more e es f fs) k =
    ap (λ (y : List ℕ). items expression (standing (expr_text e ++ y) k)) (items-text es)
    ∙ items_end comma expression expr_text BehindEquivalence IsExpression expressions_listed e (list_of es) k f (each_formed fs) at_end refl

pub variables_left : (es : ExprTrees) (k : Notes) → AllVariables es → maybe_after_comma variable (standing (items_text es) k) ≡ Some (list_of es, standing [] k)
unfolding maybe_after_comma
variables_left no_exprs k h = refl
variables_left (more_exprs e es) k h =
    ap (λ (y : List ℕ). items variable (standing (expr_text e ++ y) k)) (items-text es)
    ∙ items_end comma variable expr_text Calm IsVariable variables_listed e (list_of es) k h.first (each_variable es h.others) calm_end refl
