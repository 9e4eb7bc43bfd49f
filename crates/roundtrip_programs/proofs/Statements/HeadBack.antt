-- The first lines of blocks, and IF with a statement behind it: their text without blanks, their form, and that they are read back.
use Rattle.std.proofs.Common.{◌≡◌, ℕ, List, [], ◌∷◌, ◌++◌, refl, ap, ◌∙◌, subst, append_assoc, Option, Some, None, true, false}
use Rattle.std.specs.Prelude.{codes, nat_eq, Result, Ok, option_and_then, bytes_eq, unwrap_or}
use Rattle.std.proofs.lemmas.Bool.{and_right}
use Rattle.f77_ast.specs.Trees.{ExprTree, name, element, int, log, paren, unary, binary, chars, no_exprs, more_exprs, WhatTree, assign, call, goto, continue, return, stop, print, read}
use Rattle.f77_ast.specs.Trees as trees
use Rattle.f77_exprs.specs.declared.at.Notes.{Notes}
use Rattle.f77_exprs.specs.State.{State, parse_word, ◌>>=◌}
use Rattle.f77_exprs.specs.Lexical.{letter_first, digit_first}
use Rattle.f77_exprs.specs.Grammar.{expression}
use Rattle.f77_forms.specs.declared.form.FormId.{FormId}
use Rattle.f77_forms.specs.declared.form.FormId.TheVariants as forms
use Rattle.f77_forms.specs.declared.choice.Choice.{Choice}
use Rattle.f77_forms.specs.declared.choice.Choice.TheVariants.{Chosen}
use Rattle.f77_forms.specs.declared.outline.Outline.{Outline}
use Rattle.f77_forms.specs.declared.outline.Marks.TheVariants.{EqualAndComma}
use Rattle.f77_forms.specs.Outline.{front, is_outer, has_comma, marks_of}
use Rattle.f77_forms.specs.Choice.{if_behind, marked_choice}
use Rattle.f77_forms.specs.Profile.{profile}
use Rattle.f77_statements.specs.declared.refusal.Cause.{Cause}
use Rattle.f77_statements.specs.Lists.{ending}
use Rattle.f77_statements.specs.Phrases.{DoTree, PhraseTree, block_if, else_if, do_head, while_head}
use Rattle.f77_statements.specs.Phrases as phrases
use Rattle.f77_statements.specs.Statements.{form_in, form_at, if_test, block_if_statement, else_if_statement, what_of, what_at, logical_if_statement, terminal, some_step, step, range, do_statement, while_statement}
use Rattle.f77_printer.specs.ExprText.{expr_text, items_text}
use Rattle.f77_printer.specs.StatementText.{what_text, step_text}
use Rattle.f77_printer.specs.Layout.{stripped}
use Rattle.roundtrip_programs.specs.Statements.Formed.{IsExpression, IsVariable}
use Rattle.roundtrip_programs.specs.Statements.Declared.{MaybeExpression}
use Rattle.roundtrip_programs.specs.Statements.Phrased.{IsWhat, IsHead}
use Rattle.roundtrip_programs.specs.Statements.Written.{head_text}
use Rattle.roundtrip_programs.specs.Statements.Follows.{standing}
use Rattle.roundtrip_programs.proofs.Statements.Names.{name-back, letter-append}
use Rattle.roundtrip_programs.proofs.Statements.Behind.{BehindEquivalence, at_close, at_comma, at_end}
use Rattle.roundtrip_programs.proofs.Statements.Expressions.{expression-back}
use Rattle.roundtrip_programs.proofs.Statements.Balanced.{tight, listed, deep, Balanced, pair, nested, word, expr_balanced}
use Rattle.roundtrip_programs.proofs.Statements.Stripping.{solid}
use Rattle.roundtrip_programs.proofs.Statements.Scanning.{Level, passes, marks_scanner, MarksFine, comma_scanner, CommaFine, outer-yes}
use Rattle.roundtrip_programs.proofs.Statements.Compact.{compact, stripped_what, name_balanced, solid_end}
use Rattle.roundtrip_programs.proofs.Statements.Forms.{form_from, by_keyword, closes_before, at_front}
use Rattle.roundtrip_programs.proofs.Statements.WhatForms.{what_form}
use Rattle.roundtrip_programs.proofs.Statements.ListsBack.{back_end}
use Rattle.roundtrip_programs.proofs.Statements.WhatBack.{what_back}
use Rattle.fx_lists.proofs.Numbers.{letter_is_no_digit}

-- ---- the test of an IF

-- what stands behind the test decides
if_form : (t u : List ℕ) (form : FormId) → Balanced deep t → if_behind u ≡ Some (Chosen form) → form_at (codes "IF(" ++ (t ++ (41 ∷ u))) ≡ Ok form
unfolding form_at
if_form t u form b h =
    let body : List ℕ = codes "IF(" ++ (t ++ (41 ∷ u)) in
    ap (λ (o : Option (List ℕ)). form_in (unwrap_or (option_and_then if_behind o) (marked_choice (marks_of front body) profile body))) (closes_before t u b)
    ∙ ap (λ (o : Option Choice). form_in (unwrap_or o (marked_choice (marks_of front body) profile body))) h

-- a text in the parentheses of a test, and what stands behind it
test_back : (e : ExprTree) (u : List ℕ) (k : Notes) → IsExpression e → if_test (standing (expr_text e ++ (41 ∷ u)) k) ≡ Some (e, standing u k)
unfolding if_test ending
test_back e u k f = ap (λ (o : Option (ExprTree × State)). o >>= λ r. parse_word (codes ")") r.1 >>= λ t. Some (r.0, t)) (expression-back e f (41 ∷ u) k (at_close u))

tested : (e : ExprTree) (u : List ℕ) → IsExpression e → stripped false (expr_text e ++ (41 ∷ u)) ≡ expr_text e ++ (41 ∷ stripped false u)
tested e u f = solid (expr_balanced f tight) (41 ∷ u)

pub stripped_block : (e : ExprTree) → IsExpression e → stripped false (codes "IF (" ++ expr_text e ++ codes ") THEN") ≡ codes "IF(" ++ (expr_text e ++ (41 ∷ codes "THEN"))
stripped_block e f = ap (λ (x : List ℕ). codes "IF(" ++ x) (tested e (codes " THEN") f)

pub block_form : (e : ExprTree) → IsExpression e → form_at (codes "IF(" ++ (expr_text e ++ (41 ∷ codes "THEN"))) ≡ Ok forms.BlockIf
block_form e f = if_form (expr_text e) (codes "THEN") forms.BlockIf (expr_balanced f deep) refl

pub block_back : (e : ExprTree) (k : Notes) → IsExpression e → block_if_statement (standing (codes "IF(" ++ (expr_text e ++ (41 ∷ codes "THEN"))) k) ≡ Some (block_if e, standing [] k)
unfolding block_if_statement
block_back e k f = ap (λ (o : Option (ExprTree × State)). o >>= λ e. parse_word (codes "THEN") e.1 >>= λ u. Some (block_if e.0, u)) (test_back e (codes "THEN") k f)

pub stripped_else : (e : ExprTree) → IsExpression e → stripped false (codes "ELSE IF (" ++ expr_text e ++ codes ") THEN") ≡ codes "ELSEIF(" ++ (expr_text e ++ (41 ∷ codes "THEN"))
stripped_else e f = ap (λ (x : List ℕ). codes "ELSEIF(" ++ x) (tested e (codes " THEN") f)

pub else_form : (e : ExprTree) → IsExpression e → form_at (codes "ELSEIF(" ++ (expr_text e ++ (41 ∷ codes "THEN"))) ≡ Ok forms.ElseIf
else_form e f =
    by_keyword (codes "ELSEIF(" ++ (expr_text e ++ (41 ∷ codes "THEN"))) forms.ElseIf refl
    (subst (λ (x : List ℕ). Balanced listed (codes "ELSEIF(" ++ x)) (append_assoc (expr_text e) (codes ")") (codes "THEN"))
    (pair listed (codes "ELSEIF") (40 ∷ (expr_text e ++ codes ")") ++ codes "THEN") (word listed (codes "ELSEIF") refl)
    (pair listed (40 ∷ (expr_text e ++ codes ")")) (codes "THEN") (nested listed (expr_text e) (expr_balanced f deep)) (word listed (codes "THEN") refl))))
    refl

pub else_back : (e : ExprTree) (k : Notes) → IsExpression e → else_if_statement (standing (codes "ELSEIF(" ++ (expr_text e ++ (41 ∷ codes "THEN"))) k) ≡ Some (else_if e, standing [] k)
unfolding else_if_statement
else_back e k f = ap (λ (o : Option (ExprTree × State)). o >>= λ e. parse_word (codes "THEN") e.1 >>= λ u. Some (else_if e.0, u)) (test_back e (codes "THEN") k f)

-- ---- IF with a statement behind it

-- an = stands in the text, and none in THEN
no_then : (a e : List ℕ) → bytes_eq (a ++ (61 ∷ e)) (codes "THEN") ≡ false
no_then [] e = refl
no_then (b ∷ []) e = and_right (nat_eq b 84) _ refl
no_then (b ∷ c ∷ []) e = and_right (nat_eq b 84) _ (and_right (nat_eq c 72) _ refl)
no_then (b ∷ c ∷ d ∷ []) e = and_right (nat_eq b 84) _ (and_right (nat_eq c 72) _ (and_right (nat_eq d 69) _ refl))
no_then (b ∷ c ∷ d ∷ f ∷ []) e = and_right (nat_eq b 84) _ (and_right (nat_eq c 72) _ (and_right (nat_eq d 69) _ (and_right (nat_eq f 78) _ refl)))
no_then (b ∷ c ∷ d ∷ f ∷ g ∷ gs) e = and_right (nat_eq b 84) _ (and_right (nat_eq c 72) _ (and_right (nat_eq d 69) _ (and_right (nat_eq f 78) _ refl)))

behind_letter : (x : List ℕ) → letter_first x ≡ true → bytes_eq x (codes "THEN") ≡ false → if_behind x ≡ Some (Chosen forms.LogicalIf)
behind_letter [] h n = cc
behind_letter (c ∷ cs) h n = rw (h, n)

pub variable_letter : (v : ExprTree) (u : List ℕ) → IsVariable v → letter_first (expr_text v ++ u) ≡ true
variable_letter (name n) u h = letter-append n u h.letter
variable_letter (element n (more_exprs e es)) u h =
    let t : List ℕ = expr_text e ++ items_text es in
    letter-append (n ++ codes "(" ++ t ++ codes ")") u (letter-append (n ++ codes "(" ++ t) (codes ")") (letter-append (n ++ codes "(") t (letter-append n (codes "(") h.name.letter)))
variable_letter (element n no_exprs) u h = absurd h
variable_letter (int n) u h = absurd h
variable_letter (log b) u h = absurd h
variable_letter (paren e) u h = absurd h
variable_letter (unary op e) u h = absurd h
variable_letter (binary op a b) u h = absurd h
variable_letter (chars c) u h = absurd h

what_behind : (w : WhatTree) → IsWhat w → if_behind (compact w) ≡ Some (Chosen forms.LogicalIf)
what_behind (assign v e) h = behind_letter (expr_text v ++ (61 ∷ expr_text e)) (variable_letter v (61 ∷ expr_text e) h.left) (no_then (expr_text v) (expr_text e))
what_behind (call n es) h = refl
what_behind (goto l) h = refl
what_behind continue h = refl
what_behind return h = refl
what_behind (stop text) h = refl
what_behind (print es) h = refl
what_behind (read es) h = refl
what_behind (trees.block_if arms other) h = absurd h
what_behind (trees.logical_if e s) h = absurd h
what_behind (trees.do_loop l) h = absurd h

pub stripped_logical : (e : ExprTree) (w : WhatTree) → IsExpression e → IsWhat w
    → stripped false (codes "IF (" ++ expr_text e ++ codes ") " ++ what_text w) ≡ codes "IF(" ++ (expr_text e ++ (41 ∷ compact w))
stripped_logical e w f h =
    ap (λ (x : List ℕ). codes "IF(" ++ stripped false x) (append_assoc (expr_text e) (codes ") ") (what_text w))
    ∙ ap (λ (x : List ℕ). codes "IF(" ++ x) (tested e (32 ∷ what_text w) f)
    ∙ ap (λ (x : List ℕ). codes "IF(" ++ (expr_text e ++ (41 ∷ x))) (stripped_what w h)

pub logical_form : (e : ExprTree) (w : WhatTree) → IsExpression e → IsWhat w → form_at (codes "IF(" ++ (expr_text e ++ (41 ∷ compact w))) ≡ Ok forms.LogicalIf
logical_form e w f h = if_form (expr_text e) (compact w) forms.LogicalIf (expr_balanced f deep) (what_behind w h)

pub logical_back : (e : ExprTree) (w : WhatTree) (k : Notes) → IsExpression e → IsWhat w
    → logical_if_statement (standing (codes "IF(" ++ (expr_text e ++ (41 ∷ compact w))) k) ≡ Some (phrases.logical_if e w, standing [] k)
unfolding logical_if_statement what_at
logical_back e w k f h =
    ap (λ (o : Option (ExprTree × State)). o >>= λ e. what_at e.1 >>= λ w. Some (phrases.logical_if e.0 w.0, w.1)) (test_back e (compact w) k f)
    ∙ ap (λ (x : Result FormId Cause). what_of x (standing (compact w) k) >>= λ r. Some (phrases.logical_if e r.0, r.1)) (what_form w h)
    ∙ ap (λ (o : Option (WhatTree × State)). o >>= λ r. Some (phrases.logical_if e r.0, r.1)) (what_back w k h)

-- ---- DO WHILE

pub stripped_while : (e : ExprTree) → IsExpression e → stripped false (codes "DO WHILE (" ++ expr_text e ++ codes ")") ≡ codes "DOWHILE(" ++ (expr_text e ++ codes ")")
stripped_while e f = ap (λ (x : List ℕ). codes "DOWHILE(" ++ x) (tested e [] f)

pub while_form : (e : ExprTree) → IsExpression e → form_at (codes "DOWHILE(" ++ (expr_text e ++ codes ")")) ≡ Ok forms.DoWhile
while_form e f =
    by_keyword (codes "DOWHILE(" ++ (expr_text e ++ codes ")")) forms.DoWhile refl
    (pair listed (codes "DOWHILE") (40 ∷ (expr_text e ++ codes ")")) (word listed (codes "DOWHILE") refl) (nested listed (expr_text e) (expr_balanced f deep)))
    refl

pub while_back : (e : ExprTree) (k : Notes) → IsExpression e → while_statement (standing (codes "DOWHILE(" ++ (expr_text e ++ codes ")")) k) ≡ Some (while_head None e, standing [] k)
unfolding while_statement terminal
while_back e k f = ap (λ (o : Option (ExprTree × State)). o >>= λ e. Some (while_head None e.0, e.1)) (test_back e [] k f)

-- ---- DO

abbrev pub compact_head : DoTree → List ℕ
compact_head d = codes "DO" ++ (d.index ++ (61 ∷ (expr_text d.first ++ (44 ∷ (expr_text d.last ++ step_text d.step)))))

stripped_step : (s : Option ExprTree) → MaybeExpression s → stripped false (step_text s) ≡ step_text s
stripped_step None h = refl
stripped_step (Some e) h = ap (λ (x : List ℕ). 44 ∷ x) (solid_end (expr_balanced h tight))

head_shape : (i a b s : List ℕ) → codes "DO " ++ i ++ codes " = " ++ a ++ codes "," ++ b ++ s ≡ codes "DO " ++ (i ++ (codes " = " ++ (a ++ (codes "," ++ (b ++ s)))))
head_shape i a b s =
    append_assoc (codes "DO " ++ i ++ codes " = " ++ a ++ codes ",") b s
    ∙ append_assoc (codes "DO " ++ i ++ codes " = " ++ a) (codes ",") (b ++ s)
    ∙ append_assoc (codes "DO " ++ i ++ codes " = ") a (codes "," ++ (b ++ s))
    ∙ append_assoc (codes "DO " ++ i) (codes " = ") (a ++ (codes "," ++ (b ++ s)))

pub stripped_head : (d : DoTree) → IsHead d → stripped false (head_text d) ≡ compact_head d
stripped_head d h =
    ap (stripped false) (head_shape d.index (expr_text d.first) (expr_text d.last) (step_text d.step))
    ∙ ap (λ (x : List ℕ). codes "DO" ++ x) (solid (name_balanced d.index h.index tight) (codes " = " ++ (expr_text d.first ++ (codes "," ++ (expr_text d.last ++ step_text d.step)))))
    ∙ ap (λ (x : List ℕ). codes "DO" ++ (d.index ++ (61 ∷ x))) (solid (expr_balanced h.first tight) (codes "," ++ (expr_text d.last ++ step_text d.step)))
    ∙ ap (λ (x : List ℕ). codes "DO" ++ (d.index ++ (61 ∷ (expr_text d.first ++ (44 ∷ x))))) (solid (expr_balanced h.last tight) (step_text d.step) ∙ ap (λ (x : List ℕ). expr_text d.last ++ x) (stripped_step d.step h.step))

comma_at : (o : Outline) (u : List ℕ) → Level 0 o → has_comma o (44 ∷ u) ≡ true
comma_at o u l = let y : is_outer o ≡ true = outer-yes o l in rw y

equal_and_comma : (o : Outline) (a u : List ℕ) → Level 0 o → Balanced tight a → marks_of o (61 ∷ (a ++ (44 ∷ u))) ≡ EqualAndComma
equal_and_comma o a u l b =
    let y : is_outer o ≡ true = outer-yes o l in
    let p = passes has_comma CommaFine comma_scanner b o (44 ∷ u) 0 l tt in
    let c : has_comma o (a ++ (44 ∷ u)) ≡ true = p.same ∙ comma_at p.reached u p.level in
    rw (y, c)

pub head_form : (d : DoTree) → IsHead d → form_at (compact_head d) ≡ Ok forms.Do
head_form d h =
    let u : List ℕ = expr_text d.last ++ step_text d.step in
    let b : Balanced tight (codes "DO" ++ d.index) = pair tight (codes "DO") d.index (word tight (codes "DO") refl) (name_balanced d.index h.index tight) in
    let p = passes marks_of MarksFine marks_scanner b front (61 ∷ (expr_text d.first ++ (44 ∷ u))) 0 at_front tt in
    form_from (compact_head d) EqualAndComma forms.Do refl (p.same ∙ equal_and_comma p.reached (expr_text d.first) u p.level (expr_balanced h.first tight)) refl

behind_step : (s : Option ExprTree) → BehindEquivalence (step_text s)
behind_step None = at_end
behind_step (Some e) = at_comma (expr_text e)

step_back : (s : Option ExprTree) (k : Notes) → MaybeExpression s → step (standing (step_text s) k) ≡ Some (s, standing [] k)
unfolding step some_step
step_back None k h = refl
step_back (Some e) k h = ap (λ (o : Option (ExprTree × State)). o >>= λ e. Some (Some e.0, e.1)) (back_end expression (expr_text e) e BehindEquivalence (expression-back e h) at_end k)

no_label : (x : List ℕ) → letter_first x ≡ true → digit_first x ≡ false
no_label [] h = refl
no_label (c ∷ cs) h = letter_is_no_digit c h

no_terminal : (x : List ℕ) (k : Notes) → letter_first x ≡ true → terminal (standing x k) ≡ Some (None, standing x k)
unfolding terminal
no_terminal x k h = let d : digit_first x ≡ false = no_label x h in rw d

range_back : (d : DoTree) (k : Notes) → IsHead d
    → range None (standing (d.index ++ (61 ∷ (expr_text d.first ++ (44 ∷ (expr_text d.last ++ step_text d.step))))) k) ≡ Some (do_head (record d { label = None }), standing [] k)
unfolding range
range_back d k h =
    let u : List ℕ = expr_text d.last ++ step_text d.step in
    let v : List ℕ = expr_text d.first ++ (44 ∷ u) in
    let D : List ℕ → ExprTree → ExprTree → Option ExprTree → PhraseTree = λ i a b c. do_head (record { label = None; index = i; first = a; last = b; step = c }) in
    ap (λ (o : Option (List ℕ × State)). o >>= λ i. parse_word (codes "=") i.1 >>= λ t. expression t >>= λ a. parse_word (codes ",") a.1 >>= λ u. expression u >>= λ b. step b.1 >>= λ c. Some (D i.0 a.0 b.0 c.0, c.1))
    (name-back d.index (61 ∷ v) k h.index refl)
    ∙ ap (λ (o : Option (ExprTree × State)). o >>= λ a. parse_word (codes ",") a.1 >>= λ u. expression u >>= λ b. step b.1 >>= λ c. Some (D d.index a.0 b.0 c.0, c.1))
    (expression-back d.first h.first (44 ∷ u) k (at_comma u))
    ∙ ap (λ (o : Option (ExprTree × State)). o >>= λ b. step b.1 >>= λ c. Some (D d.index d.first b.0 c.0, c.1)) (expression-back d.last h.last (step_text d.step) k (behind_step d.step))
    ∙ ap (λ (o : Option (Option ExprTree × State)). o >>= λ c. Some (D d.index d.first d.last c.0, c.1)) (step_back d.step k h.step)

pub head_back : (d : DoTree) (k : Notes) → IsHead d → do_statement (standing (compact_head d) k) ≡ Some (do_head (record d { label = None }), standing [] k)
unfolding do_statement
head_back d k h =
    let x : List ℕ = d.index ++ (61 ∷ (expr_text d.first ++ (44 ∷ (expr_text d.last ++ step_text d.step)))) in
    ap (λ (o : Option (Option ℕ × State)). o >>= λ l. range l.0 l.1) (no_terminal x k (letter-append d.index _ h.index.letter)) ∙ range_back d k h
