-- What the text of an expression does not begin with.
use Rattle.std.proofs.Common.{◌≡◌, ℕ, ◌<◌, List, [], ◌∷◌, ◌++◌, refl, arith, append_assoc, None, Bool, true, false, decimal}
use Rattle.std.specs.Prelude.{nat_eq, codes}
use Rattle.f77_ast.specs.declared.expr.UnaryOp.{UnaryOp}
use Rattle.f77_ast.specs.declared.expr.UnaryOp.TheVariants.{Plus, Minus, Not}
use Rattle.f77_ast.specs.Operators.{unary_word}
use Rattle.f77_ast.specs.Trees.{ExprTree}
use Rattle.f77_exprs.specs.Words.{after}
use Rattle.f77_exprs.specs.Lexical.{letter_first, digit_first}
use Rattle.f77_printer.specs.ExprText.{expr_text, items_text, log_text}
use Rattle.roundtrip_programs.specs.Statements.Formed.{IsName, IsSign, Rank, of_equivalence, of_disjunction, of_conjunction, of_negation, of_comparison, of_sum, of_product, of_power, of_operand, Formed, number, logical, constant, scalar, indexed, enclosed, operand, raised, factor, multiplied, term, signed, added, arithmetic, compared, asserted, denied, conjunct, both, disjunct, either, side, equated}
use Rattle.roundtrip_programs.proofs.Statements.Characters.{letter_is_no, digit_is_no}
use Rattle.roundtrip_programs.proofs.Statements.Names.{letter-append}
use Rattle.roundtrip_programs.proofs.Statements.Numbers.{decimal_first}

-- the word does not stand at the front, whatever follows
abbrev pub Never : List ℕ → List ℕ → Type 0
Never w t = (r : List ℕ) → after w (t ++ r) ≡ None

-- the text of an expression
pub record Bare (t : List ℕ) : Type 0 where
  pub star : Never (codes "*") t
  pub close : Never (codes ")") t

-- the same without `.NOT.`
pub record Plain (t : List ℕ) : Type 0 where
  pub bare : Bare t
  pub denial : Never (codes ".NOT.") t

-- the same without a sign
pub record Unsigned (t : List ℕ) : Type 0 where
  pub plain : Plain t
  pub plus : Never (codes "+") t
  pub minus : Never (codes "-") t

pub never-append : (w t u : List ℕ) → Never w t → Never w (t ++ u)
never-append w t u h = λ r. rw append_assoc (h (u ++ r))

bare-append : (t u : List ℕ) → Bare t → Bare (t ++ u)
bare-append t u h = record { star = never-append (codes "*") t u h.star; close = never-append (codes ")") t u h.close }

plain-append : (t u : List ℕ) → Plain t → Plain (t ++ u)
plain-append t u h = record { bare = bare-append t u h.bare; denial = never-append (codes ".NOT.") t u h.denial }

unsigned-append : (t u : List ℕ) → Unsigned t → Unsigned (t ++ u)
unsigned-append t u h = record { plain = plain-append t u h.plain; plus = never-append (codes "+") t u h.plus; minus = never-append (codes "-") t u h.minus }

bare_more : (t u v : List ℕ) → Bare t → Bare (t ++ u ++ v)
bare_more t u v h = bare-append (t ++ u) v (bare-append t u h)

plain_more : (t u v : List ℕ) → Plain t → Plain (t ++ u ++ v)
plain_more t u v h = plain-append (t ++ u) v (plain-append t u h)

unsigned_more : (t u v : List ℕ) → Unsigned t → Unsigned (t ++ u ++ v)
unsigned_more t u v h = unsigned-append (t ++ u) v (unsigned-append t u h)

-- ---- letters and digits

pub letter_no_word : (x : List ℕ) (k : ℕ) (ws : List ℕ) → letter_first x ≡ true → k < 65 → after (k ∷ ws) x ≡ None
letter_no_word [] k ws h l = refl
letter_no_word (c ∷ cs) k ws h l = let e : nat_eq c k ≡ false = letter_is_no c k h l in rw e

pub digit_no_word : (x : List ℕ) (k : ℕ) (ws : List ℕ) → digit_first x ≡ true → k < 48 → after (k ∷ ws) x ≡ None
digit_no_word [] k ws h l = refl
digit_no_word (c ∷ cs) k ws h l = let e : nat_eq c k ≡ false = digit_is_no c k h l in rw e

unsigned_by : (t : List ℕ) → ((k : ℕ) (ws : List ℕ) → k < 48 → Never (k ∷ ws) t) → Unsigned t
unsigned_by t h = record {
  plain = record { bare = record { star = h 42 [] (omega arith); close = h 41 [] (omega arith) }; denial = h 46 (78 ∷ 79 ∷ 84 ∷ 46 ∷ []) (omega arith) };
  plus = h 43 [] (omega arith);
  minus = h 45 [] (omega arith);
}

pub name_front : (n : List ℕ) → IsName n → Unsigned n
name_front n h = unsigned_by n (λ k ws l r. letter_no_word (n ++ r) k ws (letter-append n r h.letter) (omega arith))

number_front : (n : ℕ) → n < 2147483648 → Unsigned (decimal n)
number_front n h = unsigned_by (decimal n) (λ k ws l r. digit_no_word (decimal n ++ r) k ws (decimal_first n r h) l)

log_front : (b : Bool) → Unsigned (log_text b)
log_front true = record { plain = record { bare = record { star = λ r. refl; close = λ r. refl }; denial = λ r. refl }; plus = λ r. refl; minus = λ r. refl }
log_front false = record { plain = record { bare = record { star = λ r. refl; close = λ r. refl }; denial = λ r. refl }; plus = λ r. refl; minus = λ r. refl }

-- `(` and an apostrophe
open_front : (t : List ℕ) → Unsigned (40 ∷ t)
open_front t = record { plain = record { bare = record { star = λ r. refl; close = λ r. refl }; denial = λ r. refl }; plus = λ r. refl; minus = λ r. refl }

apostrophe_front : (t : List ℕ) → Unsigned (39 ∷ t)
apostrophe_front t = record { plain = record { bare = record { star = λ r. refl; close = λ r. refl }; denial = λ r. refl }; plus = λ r. refl; minus = λ r. refl }

sign_front : (op : UnaryOp) (t : List ℕ) → IsSign op → Plain (unary_word op ++ t)
sign_front Plus t h = record { bare = record { star = λ r. refl; close = λ r. refl }; denial = λ r. refl }
sign_front Minus t h = record { bare = record { star = λ r. refl; close = λ r. refl }; denial = λ r. refl }
sign_front Not t h = absurd h

denial_front : (t : List ℕ) → Bare (codes ".NOT." ++ t)
denial_front t = record { star = λ r. refl; close = λ r. refl }

-- ---- by rank

abbrev pub Fronted : Rank → List ℕ → Type 0
Fronted of_operand = Unsigned
Fronted of_power = Unsigned
Fronted of_product = Unsigned
Fronted of_sum = Plain
Fronted of_comparison = Plain
Fronted of_negation = Bare
Fronted of_conjunction = Bare
Fronted of_disjunction = Bare
Fronted of_equivalence = Bare

pub fronted : {r : Rank} {e : ExprTree} → Formed r e → Fronted r (expr_text e)
fronted (number n h) = number_front n h
fronted (logical b) = log_front b
fronted (constant c) = apostrophe_front _
fronted (scalar n h) = name_front n h
fronted (indexed n e es h f fs) = unsigned-append (n ++ codes "(" ++ (expr_text e ++ items_text es)) (codes ")") (unsigned-append (n ++ codes "(") (expr_text e ++ items_text es) (unsigned-append n (codes "(") (name_front n h)))
fronted (enclosed e f) = open_front _
fronted (operand e f) = fronted f
fronted (raised a b f g) = unsigned_more (expr_text a) _ _ (fronted f)
fronted (factor e f) = fronted f
fronted (multiplied op a b h f g) = unsigned_more (expr_text a) _ _ (fronted f)
fronted (term e f) = (fronted f).plain
fronted (signed op e h f) = sign_front op (expr_text e) h
fronted (added op a b h f g) = plain_more (expr_text a) _ _ (fronted f)
fronted (arithmetic e f) = fronted f
fronted (compared op a b h f g) = plain_more (expr_text a) _ _ (fronted f)
fronted (asserted e f) = (fronted f).bare
fronted (denied e f) = denial_front (expr_text e)
fronted (conjunct e f) = fronted f
fronted (both a b f g) = bare_more (expr_text a) _ _ (fronted f)
fronted (disjunct e f) = fronted f
fronted (either a b f g) = bare_more (expr_text a) _ _ (fronted f)
fronted (side e f) = fronted f
fronted (equated op a b h f g) = bare_more (expr_text a) _ _ (fronted f)
