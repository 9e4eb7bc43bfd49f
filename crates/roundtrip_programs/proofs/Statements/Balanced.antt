-- Texts whose parentheses and character constants are closed, and that of an expression is one.
use Rattle.std.proofs.Common.{◌≡◌, ℕ, ◌+◌, ◌<◌, ◌%◌, List, [], ◌∷◌, ◌++◌, refl, sym, subst, arith, Bool, true, false, not, decimal, ◌≤◌}
use Rattle.std.specs.Prelude.{nat_eq, codes, ◌||◌, ◌&&◌, nat_le}
use Rattle.std.specs.Char.{is_ascii_digit, is_ascii_uppercase}
use Rattle.std.proofs.lemmas.Bool.{and_from, or_from, or_cases, ne_eqb, not_from_false, eqb-true, le-leb}
use Rattle.std.proofs.lemmas.Fmt.{decimal_by_steps}
use mathlib.Core.Logic.{⊎_elim}
use Rattle.f77_ast.specs.declared.expr.BinaryOp.{BinaryOp}
use Rattle.f77_ast.specs.declared.expr.BinaryOp.TheVariants.{Add, Sub, Mul, Div, Pow, Eq, Ne, Lt, Le, Gt, Ge, And, Or, Eqv, Neqv}
use Rattle.f77_ast.specs.declared.expr.UnaryOp.{UnaryOp}
use Rattle.f77_ast.specs.declared.expr.UnaryOp.TheVariants.{Plus, Minus, Not}
use Rattle.f77_ast.specs.Operators.{unary_word, binary_word}
use Rattle.f77_ast.specs.Trees.{ExprTree, ExprTrees}
use Rattle.f77_exprs.specs.Lexical.{in_name, skip_name, skip_digits}
use Rattle.f77_printer.specs.ExprText.{expr_text, items_text, log_text, doubled}
use Rattle.roundtrip_programs.specs.Statements.Formed.{Rank, Formed, number, logical, constant, scalar, indexed, enclosed, operand, raised, factor, multiplied, term, signed, added, arithmetic, compared, asserted, denied, conjunct, both, disjunct, either, side, equated, AllFormed, none, more}
use Rattle.roundtrip_programs.proofs.Statements.Turns.{joined}
use Rattle.roundtrip_programs.proofs.Statements.Characters.{letter_range, digit_range, letter_is_no, digit_is_no_more}

-- what stands at the level of a text itself: neither commas nor `=`, commas, or both
pub data Kind : Type 0 where
  tight : Kind
  listed : Kind
  deep : Kind

-- no apostrophe, parenthesis, comma, `=`, blank, tab or small letter
abbrev pub is_quiet : ℕ → Bool
is_quiet c = nat_le 42 c && nat_le c 95 && not (nat_eq c 44 || nat_eq c 61)

pub data Balanced : Kind → List ℕ → Type 0 where
  empty : (d : Kind) → Balanced d []
  char : (d : Kind) (c : ℕ) → is_quiet c ≡ true → Balanced d (c ∷ [])
  comma : Balanced listed (44 ∷ [])
  inner_comma : Balanced deep (44 ∷ [])
  equal : Balanced deep (61 ∷ [])
  quoted : (d : Kind) (c : List ℕ) → Balanced d (39 ∷ (doubled c ++ (39 ∷ [])))
  nested : (d : Kind) (t : List ℕ) → Balanced deep t → Balanced d (40 ∷ (t ++ (41 ∷ [])))
  pair : (d : Kind) (a b : List ℕ) → Balanced d a → Balanced d b → Balanced d (a ++ b)

-- ---- words

abbrev pub all_quiet : List ℕ → Bool
all_quiet [] = true
all_quiet (c ∷ cs) = is_quiet c && all_quiet cs

parts : (x y : Bool) → (x && y) ≡ true → record { first : x ≡ true; second : y ≡ true }
parts true y h = record { first = refl; second = h }
parts false y h = cc

pub word : (d : Kind) (w : List ℕ) → all_quiet w ≡ true → Balanced d w
word d [] h = empty d
word d (c ∷ cs) h = let p = parts (is_quiet c) (all_quiet cs) h in pair d (c ∷ []) cs (char d c p.first) (word d cs p.second)

pub quiet_by : (c : ℕ) → 48 ≤ c → c ≤ 95 → nat_eq c 61 ≡ false → is_quiet c ≡ true
quiet_by c l h e =
    and_from (nat_le 42 c && nat_le c 95) (not (nat_eq c 44 || nat_eq c 61)) (and_from (nat_le 42 c) (nat_le c 95) (le-leb 42 c (omega arith)) (le-leb c 95 h))
    (not_from_false (nat_eq c 44 || nat_eq c 61) (or_from (nat_eq c 44) (nat_eq c 61) (ne_eqb c 44 (λ x. omega arith)) e))

pub letter_quiet : (c : ℕ) → is_ascii_uppercase c ≡ true → is_quiet c ≡ true
letter_quiet c h = let r = letter_range c h in quiet_by c (omega arith) (omega arith) (letter_is_no c 61 h (omega arith))

digit_char_quiet : (c : ℕ) → is_ascii_digit c ≡ true → is_quiet c ≡ true
digit_char_quiet c h = let r = digit_range c h in quiet_by c (omega arith) (omega arith) (digit_is_no_more c 61 h (omega arith))

pub name_quiet : (c : ℕ) → in_name c ≡ true → is_quiet c ≡ true
name_quiet c h = ⊎_elim
    (λ g. ⊎_elim
    (λ e. letter_quiet c e)
    (λ e. digit_char_quiet c e)
    (or_cases (is_ascii_uppercase c) (is_ascii_digit c) g))
    (λ e. let f : c ≡ 95 = eqb-true c 95 e in subst (λ (x : ℕ). is_quiet x ≡ true) (sym f) refl)
    (or_cases (is_ascii_uppercase c || is_ascii_digit c) (nat_eq c 95) h)

names_at : (b : Bool) (c : ℕ) (cs : List ℕ) → in_name c ≡ b → (if_skip : (skip_name cs ≡ [] → all_quiet cs ≡ true)) → (skip_name (c ∷ cs) ≡ []) → all_quiet (c ∷ cs) ≡ true
names_at true c cs e f h = and_from (is_quiet c) (all_quiet cs) (name_quiet c e) (f (rw e at h))
names_at false c cs e f h = let g = rw e at h in cc

pub name_all_quiet : (n : List ℕ) → skip_name n ≡ [] → all_quiet n ≡ true
name_all_quiet [] h = refl
name_all_quiet (c ∷ cs) h = names_at (in_name c) c cs refl (name_all_quiet cs) h

digits_at : (b : Bool) (c : ℕ) (cs : List ℕ) → is_ascii_digit c ≡ b → (skip_digits cs ≡ [] → all_quiet cs ≡ true) → skip_digits (c ∷ cs) ≡ [] → all_quiet (c ∷ cs) ≡ true
digits_at true c cs e f h =
    and_from (is_quiet c) (all_quiet cs) (digit_char_quiet c e) (f (rw e at h))
digits_at false c cs e f h = let g = rw e at h in cc

pub digits_all_quiet : (t : List ℕ) → skip_digits t ≡ [] → all_quiet t ≡ true
digits_all_quiet [] h = refl
digits_all_quiet (c ∷ cs) h = digits_at (is_ascii_digit c) c cs refl (digits_all_quiet cs) h

all_quiet-append : (a b : List ℕ) → all_quiet a ≡ true → all_quiet b ≡ true → all_quiet (a ++ b) ≡ true
all_quiet-append [] b h g = g
all_quiet-append (c ∷ cs) b h g = let p = parts (is_quiet c) (all_quiet cs) h in and_from (is_quiet c) (all_quiet (cs ++ b)) p.first (all_quiet-append cs b p.second g)

digit_quiet : (n : ℕ) → n < 10 → is_quiet (48 + n) ≡ true
digit_quiet n h = quiet_by (48 + n) (omega arith) (omega arith) (ne_eqb (48 + n) 61 (λ e. omega arith))

pub decimal_quiet : (n : ℕ) → n < 2147483648 → all_quiet (decimal n) ≡ true
decimal_quiet n h =
    decimal_by_steps (λ m ds. all_quiet ds ≡ true) (λ m l. and_from (is_quiet (48 + m)) true (digit_quiet m l) refl)
    (λ m ds l q. all_quiet-append ds ((48 + m % 10) ∷ []) q (and_from (is_quiet (48 + m % 10)) true (digit_quiet (m % 10) (omega arith)) refl)) n (omega arith)

binary_quiet : (op : BinaryOp) → all_quiet (binary_word op) ≡ true
binary_quiet Add = refl
binary_quiet Sub = refl
binary_quiet Mul = refl
binary_quiet Div = refl
binary_quiet Pow = refl
binary_quiet Eq = refl
binary_quiet Ne = refl
binary_quiet Lt = refl
binary_quiet Le = refl
binary_quiet Gt = refl
binary_quiet Ge = refl
binary_quiet And = refl
binary_quiet Or = refl
binary_quiet Eqv = refl
binary_quiet Neqv = refl

unary_quiet : (op : UnaryOp) → all_quiet (unary_word op) ≡ true
unary_quiet Plus = refl
unary_quiet Minus = refl
unary_quiet Not = refl

pub log_quiet : (b : Bool) → all_quiet (log_text b) ≡ true
log_quiet true = refl
log_quiet false = refl

-- ---- expressions

two : (d : Kind) (a b : List ℕ) (op : BinaryOp) → Balanced d a → Balanced d b → Balanced d (a ++ binary_word op ++ b)
two d a b op x y = pair d (a ++ binary_word op) b (pair d a (binary_word op) x (word d (binary_word op) (binary_quiet op))) y

-- a text and another one in parentheses
pub in_parentheses : (d : Kind) (n t : List ℕ) → Balanced d n → Balanced deep t → Balanced d (n ++ codes "(" ++ t ++ codes ")")
in_parentheses d n t x y = subst (Balanced d) (sym (joined n (codes "(") t (codes ")"))) (pair d n (40 ∷ (t ++ (41 ∷ []))) x (nested d t y))

mutual
  pub expr_balanced : {r : Rank} {e : ExprTree} → Formed r e → (d : Kind) → Balanced d (expr_text e)
  expr_balanced (number n h) d = word d (decimal n) (decimal_quiet n h)
  expr_balanced (logical b) d = word d (log_text b) (log_quiet b)
  expr_balanced (constant c) d = quoted d c
  expr_balanced (scalar n h) d = word d n (name_all_quiet n h.whole)
  expr_balanced (indexed n e es h f fs) d =
      in_parentheses d n (expr_text e ++ items_text es) (word d n (name_all_quiet n h.whole)) (pair deep (expr_text e) (items_text es) (expr_balanced f deep) (items_balanced fs))
  expr_balanced (enclosed e f) d = nested d (expr_text e) (expr_balanced f deep)
  expr_balanced (operand e f) d = expr_balanced f d
  expr_balanced (raised a b f g) d = two d (expr_text a) (expr_text b) Pow (expr_balanced f d) (expr_balanced g d)
  expr_balanced (factor e f) d = expr_balanced f d
  expr_balanced (multiplied op a b h f g) d = two d (expr_text a) (expr_text b) op (expr_balanced f d) (expr_balanced g d)
  expr_balanced (term e f) d = expr_balanced f d
  expr_balanced (signed op e h f) d = pair d (unary_word op) (expr_text e) (word d (unary_word op) (unary_quiet op)) (expr_balanced f d)
  expr_balanced (added op a b h f g) d = two d (expr_text a) (expr_text b) op (expr_balanced f d) (expr_balanced g d)
  expr_balanced (arithmetic e f) d = expr_balanced f d
  expr_balanced (compared op a b h f g) d = two d (expr_text a) (expr_text b) op (expr_balanced f d) (expr_balanced g d)
  expr_balanced (asserted e f) d = expr_balanced f d
  expr_balanced (denied e f) d = pair d (unary_word Not) (expr_text e) (word d (unary_word Not) refl) (expr_balanced f d)
  expr_balanced (conjunct e f) d = expr_balanced f d
  expr_balanced (both a b f g) d = two d (expr_text a) (expr_text b) And (expr_balanced f d) (expr_balanced g d)
  expr_balanced (disjunct e f) d = expr_balanced f d
  expr_balanced (either a b f g) d = two d (expr_text a) (expr_text b) Or (expr_balanced f d) (expr_balanced g d)
  expr_balanced (side e f) d = expr_balanced f d
  expr_balanced (equated op a b h f g) d = two d (expr_text a) (expr_text b) op (expr_balanced f d) (expr_balanced g d)

  pub items_balanced : {es : ExprTrees} → AllFormed es → Balanced deep (items_text es)
  items_balanced none = empty deep
  items_balanced (more e es f fs) = pair deep (codes "," ++ expr_text e) (items_text es) (pair deep (codes ",") (expr_text e) inner_comma (expr_balanced f deep)) (items_balanced fs)
