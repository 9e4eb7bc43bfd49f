-- The text of an executable statement without the blanks that are written between its words.
use Rattle.std.proofs.Common.{◌≡◌, ℕ, List, [], ◌∷◌, ◌++◌, refl, ap, ◌∙◌, sym, append_assoc, append-nil, Option, Some, None, decimal, false}
use Rattle.std.specs.Prelude.{codes}
use Rattle.f77_ast.specs.Trees.{ExprTree, element, ExprTrees, no_exprs, more_exprs, WhatTree, assign, block_if, logical_if, do_loop, call, goto, continue, return, stop, print, read}
use Rattle.f77_printer.specs.ExprText.{expr_text, items_text}
use Rattle.f77_printer.specs.StatementText.{what_text, actuals_text}
use Rattle.f77_printer.specs.Layout.{stripped}
use Rattle.roundtrip_programs.specs.Statements.Formed.{IsName, IsVariable, AllFormed, more, none}
use Rattle.roundtrip_programs.specs.Statements.Phrased.{AllVariables, IsRight, value, empty_call, IsMessage, digits, constant, MaybeMessage, IsWhat}
use Rattle.roundtrip_programs.proofs.Statements.Balanced.{Kind, tight, listed, deep, Balanced, empty, comma, quoted, nested, in_parentheses, pair, word, name_all_quiet, decimal_quiet, digits_all_quiet, expr_balanced, items_balanced}
use Rattle.roundtrip_programs.proofs.Statements.Stripping.{solid}
use Rattle.roundtrip_programs.proofs.Statements.Formation.{variable_operand}

-- the message of a STOP, where there is one
abbrev pub message_of : Option (List ℕ) → List ℕ
message_of None = []
message_of (Some t) = t

abbrev pub compact : WhatTree → List ℕ
compact (assign v e) = expr_text v ++ (61 ∷ expr_text e)
compact (call n es) = codes "CALL" ++ (n ++ actuals_text es)
compact (goto l) = codes "GOTO" ++ decimal l
compact continue = codes "CONTINUE"
compact return = codes "RETURN"
compact (stop text) = codes "STOP" ++ message_of text
compact (print es) = codes "PRINT*" ++ items_text es
compact (read es) = codes "READ*" ++ items_text es
compact (block_if arms other) = []
compact (logical_if e s) = []
compact (do_loop l) = []

-- ---- the parts are balanced

pub variable_balanced : (v : ExprTree) → IsVariable v → (d : Kind) → Balanced d (expr_text v)
variable_balanced v h d = expr_balanced (variable_operand v h) d

pub name_balanced : (n : List ℕ) → IsName n → (d : Kind) → Balanced d n
name_balanced n h d = word d n (name_all_quiet n h.whole)

-- a function without actual arguments
pub empty_text : (n : List ℕ) → expr_text (element n no_exprs) ≡ n ++ codes "()"
empty_text n = ap (λ (x : List ℕ). x ++ codes ")") (append-nil (n ++ codes "(")) ∙ append_assoc n (codes "(") (codes ")")

pub right_balanced : {e : ExprTree} → IsRight e → (d : Kind) → Balanced d (expr_text e)
right_balanced (value e f) d = expr_balanced f d
right_balanced (empty_call n h) d = in_parentheses d n [] (name_balanced n h d) (empty deep)

-- items with commas before them, outside parentheses
pub listed_balanced : {es : ExprTrees} → AllFormed es → Balanced listed (items_text es)
listed_balanced none = empty listed
listed_balanced (more e es f fs) = pair listed (codes "," ++ expr_text e) (items_text es) (pair listed (codes ",") (expr_text e) comma (expr_balanced f listed)) (listed_balanced fs)

pub variables_balanced : (es : ExprTrees) → AllVariables es → Balanced listed (items_text es)
variables_balanced no_exprs h = empty listed
variables_balanced (more_exprs e es) h =
    pair listed (codes "," ++ expr_text e) (items_text es) (pair listed (codes ",") (expr_text e) comma (variable_balanced e h.first listed)) (variables_balanced es h.others)

pub actuals_balanced : {es : ExprTrees} → AllFormed es → (d : Kind) → Balanced d (actuals_text es)
actuals_balanced none d = empty d
actuals_balanced (more e es f fs) d = nested d (expr_text e ++ items_text es) (pair deep (expr_text e) (items_text es) (expr_balanced f deep) (items_balanced fs))

message_at : {t : List ℕ} → IsMessage t → (d : Kind) → Balanced d t
message_at (digits t f s l) d = word d t (digits_all_quiet t s)
message_at (constant c) d = quoted d c

pub message_balanced : (text : Option (List ℕ)) → MaybeMessage text → (d : Kind) → Balanced d (message_of text)
message_balanced None h d = empty d
message_balanced (Some t) h d = message_at h d

-- ---- what is left without blanks

pub solid_end : {d : Kind} {t : List ℕ} → Balanced d t → stripped false t ≡ t
solid_end {d} {t} b = ap (stripped false) (sym (append-nil t)) ∙ solid b [] ∙ append-nil t

pub stripped_what : (w : WhatTree) → IsWhat w → stripped false (what_text w) ≡ compact w
stripped_what (assign v e) h =
    ap (stripped false) (append_assoc (expr_text v) (codes " = ") (expr_text e))
    ∙ solid (variable_balanced v h.left tight) (codes " = " ++ expr_text e)
    ∙ ap (λ (x : List ℕ). expr_text v ++ (61 ∷ x)) (solid_end (right_balanced h.right tight))
stripped_what (call n es) h = ap (λ (x : List ℕ). codes "CALL" ++ x) (solid_end (pair tight n (actuals_text es) (name_balanced n h.callee tight) (actuals_balanced h.actuals tight)))
stripped_what (goto l) h = ap (λ (x : List ℕ). codes "GOTO" ++ x) (solid_end (word tight (decimal l) (decimal_quiet l h)))
stripped_what continue h = refl
stripped_what return h = refl
stripped_what (stop None) h = refl
stripped_what (stop (Some t)) h = ap (λ (x : List ℕ). codes "STOP" ++ x) (solid_end (message_balanced (Some t) h tight))
stripped_what (print es) h = ap (λ (x : List ℕ). codes "PRINT*" ++ x) (solid_end (listed_balanced h))
stripped_what (read es) h = ap (λ (x : List ℕ). codes "READ*" ++ x) (solid_end (variables_balanced es h))
stripped_what (block_if arms other) h = absurd h
stripped_what (logical_if e s) h = absurd h
stripped_what (do_loop l) h = absurd h
