-- Operands are read back: numbers, logical and character constants, names, elements, parentheses.
use Rattle.std.proofs.Common.{◌≡◌, ℕ, ◌<◌, List, [], ◌∷◌, ◌++◌, refl, ap, ◌∙◌, sym, arith, append_assoc, Option, Some, None, Bool, true, false, pos, decimal}
use Rattle.std.specs.Prelude.{nat_eq, codes}
use Rattle.std.specs.Char.{is_ascii_digit}
use Rattle.f77_ast.specs.Trees.{ExprTree, int, log, name, element, paren, chars, ExprTrees, no_exprs, more_exprs}
use Rattle.f77_ast.specs.Plain.{exprs_of}
use Rattle.f77_exprs.specs.declared.at.Notes.{Notes}
use Rattle.f77_exprs.specs.Words.{after}
use Rattle.f77_exprs.specs.State.{State, parse_word, or_done, ◌>>=◌}
use Rattle.f77_exprs.specs.Lexical.{letter_first, digit_first, number_first, name_at, constant}
use Rattle.f77_exprs.specs.Grammar.{whole, comma, literal, primary, parenthesis, constant_at, variable_in, element_at}
use Rattle.f77_exprs.specs.Laws.{inside}
use Rattle.f77_printer.specs.ExprText.{expr_text, log_text, doubled, items_text}
use Rattle.f77_printer.specs.DeclText.{others_by, joined_by}
use Rattle.roundtrip_programs.specs.Statements.Formed.{IsName}
use Rattle.roundtrip_programs.specs.Statements.Follows.{standing}
use Rattle.roundtrip_programs.proofs.Statements.Characters.{letter_is_no}
use Rattle.roundtrip_programs.proofs.Statements.Names.{name-back, letter-append}
use Rattle.roundtrip_programs.proofs.Statements.Numbers.{number-back, decimal_first}
use Rattle.roundtrip_programs.proofs.Statements.Constants.{constant-back}
use Rattle.roundtrip_programs.proofs.Statements.Behind.{Calm, BehindEquivalence, at_close, at_comma}
use Rattle.roundtrip_programs.proofs.Statements.Fronts.{letter_no_word, digit_no_word}
use Rattle.roundtrip_programs.proofs.Statements.Turns.{Back, joined}
use Rattle.roundtrip_programs.specs.Statements.Formed.{Each}
use Rattle.roundtrip_programs.proofs.Statements.Items.{Listed, items_back}
use Rattle.fx_lists.proofs.Numbers.{letter_is_no_digit}

-- ---- what kind of operand stands at the front

pub number_first-digit : (x : List ℕ) → digit_first x ≡ true → number_first x ≡ true
number_first-digit [] h = h
number_first-digit (c ∷ cs) h = rw h

number_first-letter : (x : List ℕ) → letter_first x ≡ true → number_first x ≡ false
number_first-letter [] h = refl
number_first-letter (c ∷ cs) h =
    let d : is_ascii_digit c ≡ false = letter_is_no_digit c h in
    let p : nat_eq c 46 ≡ false = letter_is_no c 46 h (omega arith) in
    rw (d, p)

primary-digit : (x : List ℕ) (k : Notes) → digit_first x ≡ true → primary inside (standing x k) ≡ Some (literal (standing x k))
unfolding primary
primary-digit x k h =
    let a : after (codes ".TRUE.") x ≡ None = digit_no_word x 46 (84 ∷ 82 ∷ 85 ∷ 69 ∷ 46 ∷ []) h (omega arith) in
    let b : after (codes ".FALSE.") x ≡ None = digit_no_word x 46 (70 ∷ 65 ∷ 76 ∷ 83 ∷ 69 ∷ 46 ∷ []) h (omega arith) in
    let c : after (codes "(") x ≡ None = digit_no_word x 40 [] h (omega arith) in
    let d : after (codes "'") x ≡ None = digit_no_word x 39 [] h (omega arith) in
    rw (a, b, c, d, number_first-digit x h)

primary-letter : (x : List ℕ) (k : Notes) → letter_first x ≡ true → primary inside (standing x k) ≡ variable_in inside (standing x k)
unfolding primary
primary-letter x k h =
    let a : after (codes ".TRUE.") x ≡ None = letter_no_word x 46 (84 ∷ 82 ∷ 85 ∷ 69 ∷ 46 ∷ []) h (omega arith) in
    let b : after (codes ".FALSE.") x ≡ None = letter_no_word x 46 (70 ∷ 65 ∷ 76 ∷ 83 ∷ 69 ∷ 46 ∷ []) h (omega arith) in
    let c : after (codes "(") x ≡ None = letter_no_word x 40 [] h (omega arith) in
    let d : after (codes "'") x ≡ None = letter_no_word x 39 [] h (omega arith) in
    rw (a, b, c, d, number_first-letter x h)

-- ---- each operand

pub number_operand : (n : ℕ) → n < 2147483648 → Back (primary inside) (decimal n) (int (pos n)) Calm
number_operand n h t k c =
    primary-digit (decimal n ++ t) k (decimal_first n t h)
    ∙ ap (λ (x : ℕ × State). Some (int (pos x.0), x.1)) (number-back n t k h c.digit c.point c.exponent)

pub log_operand : (b : Bool) → Back (primary inside) (log_text b) (log b) Calm
unfolding primary
log_operand true t k c = refl
log_operand false t k c = refl

pub chars_operand : (c : List ℕ) → Back (primary inside) (codes "'" ++ doubled c ++ codes "'") (chars c) Calm
unfolding primary constant_at
chars_operand c t k s =
    ap (λ (x : List ℕ). constant x >>= λ r. Some (chars r.0, standing r.1 k)) (append_assoc (doubled c) (codes "'") t)
    ∙ ap (λ (x : _). x >>= λ (r : List ℕ × List ℕ). Some (chars r.0, standing r.1 k)) (constant-back c t s.apostrophe)

pub name_variable : (n : List ℕ) → IsName n → Back (variable_in inside) n (name n) Calm
unfolding variable_in
name_variable n h t k c =
    let e : name_at (standing (n ++ t) k) ≡ Some (n, standing t k) = name-back n t k h c.name in
    let o : after (codes "(") t ≡ None = c.opening in
    rw (e, o)

pub paren_operand : (e : ExprTree) → Back (inside whole) (expr_text e) e BehindEquivalence → Back (primary inside) (codes "(" ++ expr_text e ++ codes ")") (paren e) Calm
unfolding primary parenthesis
paren_operand e h t k c =
    let i : inside whole (standing (expr_text e ++ (41 ∷ t)) k) ≡ Some (e, standing (41 ∷ t) k) = h (41 ∷ t) k (at_close t) in
    ap (λ (x : List ℕ). parenthesis inside (standing x k)) (append_assoc (expr_text e) (codes ")") t)
    ∙ ap (λ (x : Option (ExprTree × State)). x >>= λ r. parse_word (codes ")") r.1 >>= λ t. Some (paren r.0, t)) i

pub by_name : (n u : List ℕ) (k : Notes) → IsName n → primary inside (standing (n ++ u) k) ≡ variable_in inside (standing (n ++ u) k)
by_name n u k h = primary-letter (n ++ u) k (letter-append n u h.letter)

-- ---- elements

abbrev pub list_of : ExprTrees → List ExprTree
list_of no_exprs = []
list_of (more_exprs e es) = e ∷ list_of es

pub exprs_of-list : (es : ExprTrees) → exprs_of (list_of es) ≡ es
exprs_of-list no_exprs = refl
exprs_of-list (more_exprs e es) = ap (more_exprs e) (exprs_of-list es)

pub items-text : (es : ExprTrees) → items_text es ≡ others_by expr_text (list_of es)
items-text no_exprs = refl
items-text (more_exprs e es) = ap (λ x. codes "," ++ expr_text e ++ x) (items-text es)

-- an expression is read as it is
abbrev pub Whole : ExprTree → Type 0
Whole e = Back (inside whole) (expr_text e) e BehindEquivalence

pub wholes_listed : Listed comma (inside whole) expr_text BehindEquivalence Whole
wholes_listed = record { back = λ x h. h; at_comma = at_comma; goes_on = λ x u k h. refl }

element-text : (n : List ℕ) (e : ExprTree) (es : ExprTrees) (t : List ℕ)
    → expr_text (element n (more_exprs e es)) ++ t ≡ n ++ (40 ∷ (joined_by expr_text (e ∷ list_of es) ++ (41 ∷ t)))
element-text n e es t =
    append_assoc (n ++ codes "(" ++ (expr_text e ++ items_text es)) (codes ")") t
    ∙ joined n (codes "(") (expr_text e ++ items_text es) (41 ∷ t)
    ∙ ap (λ (x : List ℕ). n ++ (40 ∷ ((expr_text e ++ x) ++ (41 ∷ t)))) (items-text es)

pub element_variable : (n : List ℕ) (e : ExprTree) (es : ExprTrees) → IsName n → Whole e → Each Whole (list_of es)
    → Back (variable_in inside) (expr_text (element n (more_exprs e es))) (element n (more_exprs e es)) Calm
unfolding variable_in element_at
element_variable n e es h w ws t k c =
    let u : List ℕ = joined_by expr_text (e ∷ list_of es) ++ (41 ∷ t) in
    ap (λ (x : List ℕ). variable_in inside (standing x k)) (element-text n e es t)
    ∙ ap (λ (x : Option (List ℕ × State)). x >>= λ r. or_done (name r.0) r.1 (parse_word (codes "(") r.1) (element_at inside r.0)) (name-back n (40 ∷ u) k h refl)
    ∙ ap (λ (x : Option (List ExprTree × State)). x >>= λ r. parse_word (codes ")") r.1 >>= λ t. Some (element n (exprs_of r.0), t))
    (items_back comma (inside whole) expr_text BehindEquivalence Whole wholes_listed e (list_of es) (41 ∷ t) k w ws (at_close t) refl)
    ∙ ap (λ (x : ExprTrees). Some (element n (more_exprs e x), standing t k)) (exprs_of-list es)

pub element_operand : (n : List ℕ) (e : ExprTree) (es : ExprTrees) → IsName n → Whole e → Each Whole (list_of es)
    → Back (primary inside) (expr_text (element n (more_exprs e es))) (element n (more_exprs e es)) Calm
element_operand n e es h w ws t k c =
    let x = element-text n e es t in
    ap (λ (y : List ℕ). primary inside (standing y k)) x
    ∙ by_name n (40 ∷ (joined_by expr_text (e ∷ list_of es) ++ (41 ∷ t))) k h
    ∙ ap (λ (y : List ℕ). variable_in inside (standing y k)) (sym x)
    ∙ element_variable n e es h w ws t k c
