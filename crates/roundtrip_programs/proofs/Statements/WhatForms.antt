-- The forms of the executable statements that open and close no block.
use Rattle.std.proofs.Common.{◌≡◌, ℕ, List, [], ◌∷◌, ◌++◌, refl, ap, ◌∙◌, sym, arith, append_assoc, append-nil, true, false, decimal}
use Rattle.std.specs.Prelude.{codes, nat_eq, nat_le, ◌&&◌, Ok, option_and_then}
use Rattle.std.specs.Char.{is_ascii_digit}
use Rattle.std.proofs.lemmas.Bool.{and_parts, leb-true, lt-leb, and_left, or_from}
use Rattle.f77_ast.specs.Trees.{ExprTree, int, log, name, element, paren, unary, binary, chars, no_exprs, more_exprs, WhatTree, assign, block_if, logical_if, do_loop, call, goto, continue, return, stop, print, read}
use Rattle.f77_exprs.specs.Lexical.{digit_first}
use Rattle.f77_forms.specs.declared.form.FormId.{FormId}
use Rattle.f77_forms.specs.declared.form.FormId.TheVariants as forms
use Rattle.f77_forms.specs.declared.choice.Choice.TheVariants.{Chosen}
use Rattle.f77_forms.specs.declared.outline.Marks.TheVariants.{Equal}
use Rattle.f77_forms.specs.Refused.{is_indirect}
use Rattle.f77_forms.specs.Choice.{if_behind, if_choice, keyword_choice}
use Rattle.f77_forms.specs.Profile.{profile}
use Rattle.f77_statements.specs.Statements.{form_at}
use Rattle.f77_printer.specs.ExprText.{expr_text, items_text}
use Rattle.f77_printer.specs.StatementText.{actuals_text}
use Rattle.roundtrip_programs.specs.Statements.Formed.{IsVariable}
use Rattle.roundtrip_programs.specs.Statements.Phrased.{IsRight, IsWhat}
use Rattle.roundtrip_programs.proofs.Statements.Characters.{digit_is_no}
use Rattle.roundtrip_programs.proofs.Statements.Numbers.{decimal_first}
use Rattle.roundtrip_programs.proofs.Statements.Balanced.{tight, listed, deep, pair, word, decimal_quiet, expr_balanced, items_balanced}
use Rattle.roundtrip_programs.proofs.Statements.Compact.{compact, right_balanced, variable_balanced, listed_balanced, variables_balanced, actuals_balanced, message_balanced, message_of, name_balanced}
use Rattle.roundtrip_programs.proofs.Statements.Forms.{form_from, by_keyword, marks_equal, no_if, closes_before}
use Rattle.roundtrip_programs.proofs.Statements.Turns.{joined}

abbrev pub form_of_what : WhatTree → FormId
form_of_what (assign v e) = forms.Assignment
form_of_what (call n es) = forms.Call
form_of_what (goto l) = forms.Goto
form_of_what continue = forms.Continue
form_of_what return = forms.Return
form_of_what (stop text) = forms.Stop
form_of_what (print es) = forms.Print
form_of_what (read es) = forms.Read
form_of_what (block_if arms other) = forms.BlockIf
form_of_what (logical_if e s) = forms.LogicalIf
form_of_what (do_loop l) = forms.Do

-- ---- assignments

assigned : (v e : ExprTree) → IsVariable v → IsRight e → form_at (expr_text v ++ (61 ∷ expr_text e)) ≡ Ok forms.Assignment
assigned (name n) e h x =
    form_from (n ++ (61 ∷ expr_text e)) Equal forms.Assignment (no_if n (61 ∷ expr_text e) h refl refl)
    (marks_equal n (expr_text e) (name_balanced n h tight) (right_balanced x tight)) refl
assigned (element n (more_exprs i is)) e h x =
    let v : ExprTree = element n (more_exprs i is) in
    let t : List ℕ = expr_text i ++ items_text is in
    let u : List ℕ = 61 ∷ expr_text e in
    let shape : expr_text v ++ u ≡ n ++ (40 ∷ (t ++ (41 ∷ u))) = append_assoc (n ++ codes "(" ++ t) (codes ")") u ∙ joined n (codes "(") t (41 ∷ u) in
    let closed = ap (option_and_then if_behind) (closes_before t u (pair deep (expr_text i) (items_text is) (expr_balanced h.first deep) (items_balanced h.others))) in
    form_from (expr_text v ++ u) Equal forms.Assignment (ap if_choice shape ∙ no_if n (40 ∷ (t ++ (41 ∷ u))) h.name closed refl)
    (marks_equal (expr_text v) (expr_text e) (variable_balanced v h tight) (right_balanced x tight)) refl
assigned (element n no_exprs) e h x = absurd h
assigned (int n) e h x = absurd h
assigned (log b) e h x = absurd h
assigned (paren i) e h x = absurd h
assigned (unary op i) e h x = absurd h
assigned (binary op a b) e h x = absurd h
assigned (chars c) e h x = absurd h

-- ---- by keyword

digit_is_no_letter : (c : ℕ) → is_ascii_digit c ≡ true → (nat_le 65 c && nat_le c 90) ≡ false
digit_is_no_letter c h =
    let p = and_parts (nat_le 48 c) (nat_le c 57) h in
    let q = leb-true c 57 p.1 in
    and_left (nat_le 65 c) (nat_le c 90) (lt-leb 65 c (omega arith))

direct : (x : List ℕ) → digit_first x ≡ true → is_indirect x ≡ false
direct [] h = refl
direct (c ∷ cs) h = or_from (nat_eq c 40) _ (digit_is_no c 40 h (omega arith)) (digit_is_no_letter c h)

goto_chosen : (x : List ℕ) → is_indirect x ≡ false → keyword_choice profile (codes "GOTO" ++ x) ≡ Chosen forms.Goto
goto_chosen x h = rw h

pub what_form : (w : WhatTree) → IsWhat w → form_at (compact w) ≡ Ok (form_of_what w)
what_form (assign v e) h = assigned v e h.left h.right
what_form (call n es) h =
    by_keyword (compact (call n es)) forms.Call refl
    (pair listed (codes "CALL") (n ++ actuals_text es) (word listed (codes "CALL") refl) (pair listed n (actuals_text es) (name_balanced n h.callee listed) (actuals_balanced h.actuals listed))) refl
what_form (goto l) h =
    let d : digit_first (decimal l) ≡ true = ap digit_first (sym (append-nil (decimal l))) ∙ decimal_first l [] h in
    by_keyword (compact (goto l)) forms.Goto refl (pair listed (codes "GOTO") (decimal l) (word listed (codes "GOTO") refl) (word listed (decimal l) (decimal_quiet l h)))
    (goto_chosen (decimal l) (direct (decimal l) d))
what_form continue h = by_keyword (codes "CONTINUE") forms.Continue refl (word listed (codes "CONTINUE") refl) refl
what_form return h = by_keyword (codes "RETURN") forms.Return refl (word listed (codes "RETURN") refl) refl
what_form (stop text) h =
    by_keyword (compact (stop text)) forms.Stop refl (pair listed (codes "STOP") (message_of text) (word listed (codes "STOP") refl) (message_balanced text h listed)) refl
what_form (print es) h =
    by_keyword (compact (print es)) forms.Print refl (pair listed (codes "PRINT*") (items_text es) (word listed (codes "PRINT*") refl) (listed_balanced h)) refl
what_form (read es) h =
    by_keyword (compact (read es)) forms.Read refl (pair listed (codes "READ*") (items_text es) (word listed (codes "READ*") refl) (variables_balanced es h)) refl
what_form (block_if arms other) h = absurd h
what_form (logical_if e s) h = absurd h
what_form (do_loop l) h = absurd h
