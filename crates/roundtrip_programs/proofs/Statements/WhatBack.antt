-- The executable statements that open and close no block are read back.
use Rattle.std.proofs.Common.{◌≡◌, ℕ, ◌<◌, ◌≤◌, List, [], ◌∷◌, ◌++◌, length, refl, ap, ◌∙◌, sym, arith, append_assoc, append-nil, Option, Some, None, true, decimal}
use Rattle.std.specs.Prelude.{codes, nat_le}
use Rattle.std.proofs.lemmas.Bool.{le-leb}
use Rattle.f77_ast.specs.Trees.{ExprTree, ExprTrees, WhatTree, assign, block_if, logical_if, do_loop, call, goto, continue, return, stop, print, read}
use Rattle.f77_ast.specs.Plain.{exprs_of}
use Rattle.f77_exprs.specs.declared.at.Notes.{Notes}
use Rattle.f77_exprs.specs.Words.{after, before}
use Rattle.f77_exprs.specs.State.{State, parse_word, ◌>>=◌}
use Rattle.f77_exprs.specs.Lexical.{digit_first, skip_digits, name_at, label_at}
use Rattle.f77_exprs.specs.Grammar.{expression}
use Rattle.f77_statements.specs.Lists.{or_end, in_parentheses, maybe_in_parentheses}
use Rattle.f77_statements.specs.Executables.{right_side, assignment, call_statement, goto_statement, continue_statement, return_statement, five_digits, message, stop_text, stop_statement, print_statement, read_listed, read_statement}
use Rattle.f77_statements.specs.Statements.{what_by}
use Rattle.f77_printer.specs.ExprText.{expr_text, items_text, doubled}
use Rattle.f77_printer.specs.StatementText.{actuals_text}
use Rattle.f77_printer.specs.DeclText.{joined_by}
use Rattle.roundtrip_programs.specs.Statements.Formed.{IsName, AllFormed, more, none, IsExpression, IsVariable}
use Rattle.roundtrip_programs.specs.Statements.Phrased.{IsRight, IsMessage, digits, IsWhat}
use Rattle.roundtrip_programs.specs.Statements.Phrased as phrased
use Rattle.roundtrip_programs.specs.Statements.Follows.{standing}
use Rattle.roundtrip_programs.proofs.Statements.Names.{name-back, before-append}
use Rattle.roundtrip_programs.proofs.Statements.Numbers.{label-back}
use Rattle.roundtrip_programs.proofs.Statements.Constants.{constant-back}
use Rattle.roundtrip_programs.proofs.Statements.Behind.{BehindEquivalence, at_close, calm_equal}
use Rattle.roundtrip_programs.proofs.Statements.Fronts.{digit_no_word, fronted}
use Rattle.roundtrip_programs.proofs.Statements.Operands.{list_of, items-text, exprs_of-list}
use Rattle.roundtrip_programs.proofs.Statements.Expressions.{variable-back}
use Rattle.roundtrip_programs.proofs.Statements.RightBack.{right_back}
use Rattle.roundtrip_programs.proofs.Statements.ListsBack.{enclosed_back, expressions_listed, each_formed, expressions_left, variables_left}
use Rattle.roundtrip_programs.proofs.Statements.Compact.{compact, message_of}
use Rattle.roundtrip_programs.proofs.Statements.WhatForms.{form_of_what}

assign_back : (v e : ExprTree) (k : Notes) → IsVariable v → IsRight e → assignment (standing (expr_text v ++ (61 ∷ expr_text e)) k) ≡ Some (assign v e, standing [] k)
unfolding assignment
assign_back v e k h g =
    ap (λ (o : Option (ExprTree × State)). o >>= λ v. parse_word (codes "=") v.1 >>= λ t. right_side t >>= λ e. Some (assign v.0 e.0, e.1))
    (variable-back v h (61 ∷ expr_text e) k (calm_equal (expr_text e)))
    ∙ ap (λ (o : Option (ExprTree × State)). o >>= λ r. Some (assign v r.0, r.1)) (right_back g k)

no_close : (e : ExprTree) (u : List ℕ) → IsExpression e → after (codes ")") (expr_text e ++ u) ≡ None
no_close e u f = (fronted f).close u

actuals_back : {es : ExprTrees} → AllFormed es → (k : Notes) → maybe_in_parentheses expression (standing (actuals_text es) k) ≡ Some (list_of es, standing [] k)
unfolding maybe_in_parentheses
actuals_back none k = refl
actuals_back (more e es f fs) k =
    let n : after (codes ")") (joined_by expr_text (e ∷ list_of es) ++ (41 ∷ [])) ≡ None = ap (after (codes ")")) (append_assoc (expr_text e) _ (41 ∷ [])) ∙ no_close e _ f in
    ap (λ (y : List ℕ). in_parentheses expression (standing ((expr_text e ++ y) ++ (41 ∷ [])) k)) (items-text es)
    ∙ enclosed_back expression expr_text BehindEquivalence IsExpression expressions_listed e (list_of es) [] k f (each_formed fs) (at_close []) n

-- a name before arguments that may be left out
before_actuals : {es : ExprTrees} → (n : List ℕ) (k : Notes) → IsName n → AllFormed es → name_at (standing (n ++ actuals_text es) k) ≡ Some (n, standing (actuals_text es) k)
before_actuals n k h none = name-back n [] k h refl
before_actuals n k h (more e es f fs) = name-back n _ k h refl

call_back : (n : List ℕ) (es : ExprTrees) (k : Notes) → IsName n → AllFormed es → call_statement (standing (codes "CALL" ++ (n ++ actuals_text es)) k) ≡ Some (call n es, standing [] k)
unfolding call_statement
call_back n es k h fs =
    ap (λ (o : Option (List ℕ × State)). o >>= λ n. maybe_in_parentheses expression n.1 >>= λ es. Some (call n.0 (exprs_of es.0), es.1)) (before_actuals n k h fs)
    ∙ ap (λ (o : Option (List ExprTree × State)). o >>= λ es. Some (call n (exprs_of es.0), es.1)) (actuals_back fs k)
    ∙ ap (λ (x : ExprTrees). Some (call n x, standing [] k)) (exprs_of-list es)

goto_back : (l : ℕ) (k : Notes) → l < 2147483648 → goto_statement (standing (codes "GOTO" ++ decimal l) k) ≡ Some (goto l, standing [] k)
unfolding goto_statement
goto_back l k h =
    ap (λ (y : List ℕ). label_at (standing y k) >>= λ l. Some (goto l.0, l.1)) (sym (append-nil (decimal l)))
    ∙ ap (λ (o : Option (ℕ × State)). o >>= λ l. Some (goto l.0, l.1)) (label-back l [] k h refl)

-- ---- STOP

pub before-nil : (t : List ℕ) → before t [] ≡ t
before-nil t = ap (λ (x : List ℕ). before x []) (sym (append-nil t)) ∙ before-append t []

some_left : {A : Type 0} (t : List ℕ) (s : State) (a : A) (other : Option (A × State)) → digit_first t ≡ true → or_end t s a other ≡ other
some_left [] s a other h = cc
some_left (c ∷ cs) s a other h = refl

digits_back : (t : List ℕ) (k : Notes) → digit_first t ≡ true → skip_digits t ≡ [] → length t ≤ 5 → five_digits (standing t k) ≡ Some (Some t, standing [] k)
unfolding five_digits
digits_back t k f s l =
    let b : before t [] ≡ t = before-nil t in
    let n : nat_le (length t) 5 ≡ true = le-leb (length t) 5 l in
    rw (f, s, b, n)

message_back : {t : List ℕ} → IsMessage t → (k : Notes) → stop_text (standing t k) ≡ Some (Some t, standing [] k)
unfolding stop_text message
message_back (digits t f s l) k =
    let n : after (codes "'") t ≡ None = digit_no_word t 39 [] f (omega arith) in
    some_left t (standing t k) None _ f ∙ rw n (digits_back t k f s l)
message_back (phrased.constant c) k =
    ap (λ (o : Option (List ℕ × List ℕ)). o >>= λ r. Some (Some (before (39 ∷ (doubled c ++ (39 ∷ []))) r.1), standing r.1 k)) (constant-back c [] tt)
    ∙ ap (λ (x : List ℕ). Some (Some x, standing [] k)) (before-nil (39 ∷ (doubled c ++ (39 ∷ []))))

stop_back : (text : Option (List ℕ)) (k : Notes) → phrased.MaybeMessage text → stop_statement (standing (codes "STOP" ++ message_of text) k) ≡ Some (stop text, standing [] k)
unfolding stop_statement stop_text
stop_back None k h = refl
stop_back (Some t) k h = ap (λ (o : Option (Option (List ℕ) × State)). o >>= λ m. Some (stop m.0, m.1)) (message_back h k)

-- ---- PRINT and READ

print_back : (es : ExprTrees) (k : Notes) → AllFormed es → print_statement (standing (codes "PRINT*" ++ items_text es) k) ≡ Some (print es, standing [] k)
unfolding print_statement
print_back es k h =
    ap (λ (o : Option (List ExprTree × State)). o >>= λ es. Some (print (exprs_of es.0), es.1)) (expressions_left h k)
    ∙ ap (λ (x : ExprTrees). Some (print x, standing [] k)) (exprs_of-list es)

read_back : (es : ExprTrees) (k : Notes) → phrased.AllVariables es → read_statement (standing (codes "READ*" ++ items_text es) k) ≡ Some (read es, standing [] k)
unfolding read_statement read_listed
read_back es k h =
    ap (λ (o : Option (List ExprTree × State)). o >>= λ es. Some (read (exprs_of es.0), es.1)) (variables_left es k h)
    ∙ ap (λ (x : ExprTrees). Some (read x, standing [] k)) (exprs_of-list es)

pub what_back : (w : WhatTree) (k : Notes) → IsWhat w → what_by (form_of_what w) (standing (compact w) k) ≡ Some (w, standing [] k)
unfolding continue_statement return_statement
what_back (assign v e) k h = assign_back v e k h.left h.right
what_back (call n es) k h = call_back n es k h.callee h.actuals
what_back (goto l) k h = goto_back l k h
what_back continue k h = refl
what_back return k h = refl
what_back (stop text) k h = stop_back text k h
what_back (print es) k h = print_back es k h
what_back (read es) k h = read_back es k h
what_back (block_if arms other) k h = absurd h
what_back (logical_if e s) k h = absurd h
what_back (do_loop l) k h = absurd h
