-- What is written of a statement fits where what was read did.
use Rattle.std.proofs.Common.{◌≡◌, ℕ, ◌+◌, ◌≤◌, List, [], ◌∷◌, ◌++◌, length, refl, ap, arith, Some, None, Bool, true, false, not, if◌then◌else◌}
use Rattle.std.specs.Prelude.{codes, nat_eq, nat_lt, ◌&&◌, Ok}
use Rattle.std.specs.List.{list_all}
use Rattle.std.proofs.lemmas.Bool.{and_parts, and_from, or_left, ltb-false, eqb-true, not_from_false}
use Rattle.fixed_form.specs.declared.line.Line.{Line}
use Rattle.fixed_form.specs.Characters.{is_allowed, is_tab}
use Rattle.f77_ast.specs.declared.module.FunctionForm.{FunctionForm}
use Rattle.f77_ast.specs.declared.module.FunctionForm.TheVariants.{Plain, Integer, Logical}
use Rattle.f77_ast.specs.Trees.{ExprTree, int, log, name, element, paren, unary, binary, chars, no_exprs, more_exprs, WhatTree, assign, call, goto, continue, return, stop, print, read}
use Rattle.f77_ast.specs.Trees as trees
use Rattle.f77_ast.specs.DeclTrees.{DeclTree, implicit, integer, logical, dimension, parameter, common, equivalence, save, initial}
use Rattle.f77_exprs.specs.Lexical.{letter_first}
use Rattle.f77_statements.specs.Phrases.{PhraseTree, program, subroutine, function, specification, simple, block_if, else_if, else_part, end_if, do_head, while_head, end_do, end_module}
use Rattle.f77_statements.specs.Phrases as phrases
use Rattle.f77_statements.specs.Statements.{phrase_of}
use Rattle.f77_printer.specs.ExprText.{expr_text, exprs_text}
use Rattle.f77_printer.specs.Layout.{stripped}
use Rattle.f77_printer.specs.StatementText.{what_text}
use Rattle.f77_printer.specs.DeclText.{decl_text}
use Rattle.roundtrip_programs.specs.Cards.Good.{is_printable, starts, IsText, IsBody, AreBodies}
use Rattle.roundtrip_programs.proofs.Cards.Bodies.{bodies_are_short}
use Rattle.roundtrip_programs.specs.Statements.Formed.{IsVariable}
use Rattle.roundtrip_programs.specs.Statements.Phrased.{IsWhat, IsPhrase}
use Rattle.roundtrip_programs.specs.Statements.Written.{phrase_text}
use Rattle.roundtrip_programs.specs.Statements.Weights.{Weight, weigh}
use Rattle.roundtrip_programs.specs.Statements.Fitting.{AreWritten, StatementsFit}
use Rattle.roundtrip_programs.proofs.Statements.Characters.{letter_is_no}
use Rattle.roundtrip_programs.proofs.Statements.Closed.{phrase_lined, phrase_tabless}
use Rattle.roundtrip_programs.proofs.Statements.Phrases.{statements_read_back}
use Rattle.roundtrip_programs.proofs.Statements.LightPhrases.{phrase_light}

formed : (body : List ℕ) (p : PhraseTree) → phrase_of body ≡ Ok p → IsPhrase p
formed = statements_read_back.formed

lighter : (w : Weight) (body : List ℕ) (p : PhraseTree) → phrase_of body ≡ Ok p → weigh w (stripped false (phrase_text p)) ≤ weigh w body
lighter w body p h = phrase_light w body p h (formed body p h)

-- ---- each character weighs 1

one : Weight
one = record { of = λ c. 1; each = 1; even = λ c h. refl }

length_weight : (t : List ℕ) → weigh one t ≡ length t
unfolding one
length_weight [] = refl
length_weight (c ∷ cs) = omega (arith, length_weight cs)

shorter : (body : List ℕ) (p : PhraseTree) → phrase_of body ≡ Ok p → length (stripped false (phrase_text p)) ≤ length body
shorter body p h = let l = lighter one body p h in omega (arith, length_weight (stripped false (phrase_text p)), length_weight body)

-- ---- each character that is not allowed weighs 1

printable_allowed : (c : ℕ) → is_printable c ≡ true → ◌≡◌ {A = ℕ} (if is_allowed c then 0 else 1) 0
printable_allowed c h = let a : is_allowed c ≡ true = or_left (is_printable c) (is_tab c) h in rw a

strange : Weight
strange = record { of = λ c. if is_allowed c then 0 else 1; each = 0; even = printable_allowed }

none_at : (b : Bool) (n : ℕ) → b ≡ true → n ≡ 0 → (if b then 0 else 1) + n ≡ 0
none_at true n e h = omega arith
none_at false n e h = cc

none_strange : (t : List ℕ) → list_all is_allowed t ≡ true → weigh strange t ≡ 0
unfolding strange
none_strange [] h = refl
none_strange (c ∷ cs) h =
    let p = and_parts (is_allowed c) (list_all is_allowed cs) h in
    none_at (is_allowed c) (weigh strange cs) p.0 (none_strange cs p.1)

all_at : (b : Bool) (n : ℕ) (r : Bool) → (if b then 0 else 1) + n ≡ 0 → (n ≡ 0 → r ≡ true) → (b && r) ≡ true
all_at true n r h f = f (omega arith)
all_at false n r h f = absurd (omega arith)

all_allowed : (t : List ℕ) → weigh strange t ≡ 0 → list_all is_allowed t ≡ true
unfolding strange
all_allowed [] h = refl
all_allowed (c ∷ cs) h = all_at (is_allowed c) (weigh strange cs) (list_all is_allowed cs) h (all_allowed cs)

-- the blanks that stripping drops are allowed
back_at : (a b q : Bool) (c : ℕ) (cs : List ℕ) → nat_eq c 32 ≡ b → ((r : Bool) → list_all is_allowed (stripped r cs) ≡ true → list_all is_allowed cs ≡ true)
    → list_all is_allowed (if a then c ∷ stripped (not q) cs else if b then (if q then c ∷ stripped q cs else stripped q cs) else c ∷ stripped q cs) ≡ true
    → list_all is_allowed (c ∷ cs) ≡ true
back_at true b q c cs e f h = let p = and_parts (is_allowed c) (list_all is_allowed (stripped (not q) cs)) h in and_from (is_allowed c) (list_all is_allowed cs) p.0 (f (not q) p.1)
back_at false true true c cs e f h = let p = and_parts (is_allowed c) (list_all is_allowed (stripped true cs)) h in and_from (is_allowed c) (list_all is_allowed cs) p.0 (f true p.1)
back_at false true false c cs e f h =
    let z : c ≡ 32 = eqb-true c 32 e in
    let a : is_allowed c ≡ true = ap is_allowed z in
    and_from (is_allowed c) (list_all is_allowed cs) a (f false h)
back_at false false q c cs e f h = let p = and_parts (is_allowed c) (list_all is_allowed (stripped q cs)) h in and_from (is_allowed c) (list_all is_allowed cs) p.0 (f q p.1)

allowed_back : (t : List ℕ) (q : Bool) → list_all is_allowed (stripped q t) ≡ true → list_all is_allowed t ≡ true
allowed_back [] q h = refl
allowed_back (c ∷ cs) q h = back_at (nat_eq c 39) (nat_eq c 32) q c cs refl (λ r. allowed_back cs r) h

allowed : (body : List ℕ) (p : PhraseTree) → phrase_of body ≡ Ok p → list_all is_allowed body ≡ true → list_all is_allowed (phrase_text p) ≡ true
allowed body p h a =
    let l = lighter strange body p h in
    let z = none_strange body a in
    allowed_back (phrase_text p) false (all_allowed (stripped false (phrase_text p)) (omega arith))

-- ---- it begins with no blank

starts-append : (a b : List ℕ) → starts a ≡ true → starts (a ++ b) ≡ true
starts-append [] b h = cc
starts-append (c ∷ cs) b h = h

name_starts : (n : List ℕ) → letter_first n ≡ true → starts n ≡ true
name_starts [] h = cc
name_starts (c ∷ cs) h = not_from_false (nat_eq c 32) (letter_is_no c 32 h (omega arith))

variable_starts : (v : ExprTree) → IsVariable v → starts (expr_text v) ≡ true
variable_starts (name n) h = name_starts n h.letter
variable_starts (element n (more_exprs e es)) h =
    starts-append (n ++ codes "(" ++ exprs_text (more_exprs e es)) (codes ")")
    (starts-append (n ++ codes "(") (exprs_text (more_exprs e es)) (starts-append n (codes "(") (name_starts n h.name.letter)))
variable_starts (element n no_exprs) h = absurd h
variable_starts (int n) h = absurd h
variable_starts (log b) h = absurd h
variable_starts (paren e) h = absurd h
variable_starts (unary op e) h = absurd h
variable_starts (binary op a b) h = absurd h
variable_starts (chars c) h = absurd h

what_starts : (x : WhatTree) → IsWhat x → starts (what_text x) ≡ true
what_starts (assign v e) h = starts-append (expr_text v ++ codes " = ") (expr_text e) (starts-append (expr_text v) (codes " = ") (variable_starts v h.left))
what_starts (call n es) h = refl
what_starts (goto l) h = refl
what_starts continue h = refl
what_starts return h = refl
what_starts (stop text) h = refl
what_starts (print es) h = refl
what_starts (read es) h = refl
what_starts (trees.block_if arms other) h = absurd h
what_starts (trees.logical_if e s) h = absurd h
what_starts (trees.do_loop l) h = absurd h

decl_starts : (d : DeclTree) → starts (decl_text d) ≡ true
decl_starts (implicit None) = refl
decl_starts (implicit (Some parts)) = refl
decl_starts (integer es) = refl
decl_starts (logical es) = refl
decl_starts (dimension es) = refl
decl_starts (parameter ss) = refl
decl_starts (common cs) = refl
decl_starts (equivalence gs) = refl
decl_starts (save []) = refl
decl_starts (save (i ∷ is)) = refl
decl_starts (initial gs) = refl

function_starts : (form : FunctionForm) (n : List ℕ) (ds : List (List ℕ)) → starts (phrase_text (function form n ds)) ≡ true
function_starts Plain n ds = refl
function_starts Integer n ds = refl
function_starts Logical n ds = refl

phrase_starts : (p : PhraseTree) → IsPhrase p → starts (phrase_text p) ≡ true
phrase_starts (program n) h = refl
phrase_starts (subroutine n ds) h = refl
phrase_starts (function form n ds) h = function_starts form n ds
phrase_starts (specification d) h = decl_starts d
phrase_starts (simple x) h = what_starts x h
phrase_starts (phrases.logical_if e x) h = refl
phrase_starts (block_if e) h = refl
phrase_starts (else_if e) h = refl
phrase_starts else_part h = refl
phrase_starts end_if h = refl
phrase_starts (do_head d) h = refl
phrase_starts (while_head l e) h = refl
phrase_starts end_do h = refl
phrase_starts end_module h = refl

-- ---- the whole

fitted_by : (b : Bool) (t : List ℕ) → nat_lt 1320 (length t) ≡ b → length (stripped false t) ≤ 1320 → length (if b then stripped false t else t) ≤ 1320
fitted_by true t e h = h
fitted_by false t e h = ltb-false 1320 (length t) e

fits : (body : List ℕ) (p : PhraseTree) → IsBody body → phrase_of body ≡ Ok p → IsText (phrase_text p)
fits body p b h =
    let f = formed body p h in
    let s = b.short in
    record {
      allowed = allowed body p h b.allowed;
      front = phrase_starts p f;
      lined = phrase_lined p f;
      tabless = phrase_tabless p f;
      fits = fitted_by (nat_lt 1320 (length (phrase_text p))) (phrase_text p) refl (omega (arith, shorter body p h));
    }

all_fit : (ss : List Line) → AreBodies ss → AreWritten ss
all_fit [] h = tt
all_fit (s ∷ ss) h = record { first = λ p e. fits s.body p h.first e; others = all_fit ss h.others }

pub statements_fit : StatementsFit
statements_fit = record {
  lighter = lighter;
  shorter = shorter;
  allowed = allowed;
  fits = fits;
  lines_fit = λ text read h. all_fit read.lines (bodies_are_short text read h);
}
