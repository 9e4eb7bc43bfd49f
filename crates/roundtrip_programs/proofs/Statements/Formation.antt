-- What the grammar gives without a cause to refuse it is formed as the grammar says.
use Rattle.std.proofs.Common.{◌≡◌, ℕ, zero, suc, ◌+◌, List, [], ◌∷◌, length, refl, Option, Some, None, Bool, true, false, if◌then◌else◌}
use Rattle.std.specs.Prelude.{codes, option_map}
use Rattle.f77_ast.specs.declared.expr.BinaryOp.{BinaryOp}
use Rattle.f77_ast.specs.declared.expr.BinaryOp.TheVariants.{Pow, And, Or}
use Rattle.f77_ast.specs.declared.expr.UnaryOp.{UnaryOp}
use Rattle.f77_ast.specs.declared.expr.UnaryOp.TheVariants.{Plus, Minus, Not}
use Rattle.f77_ast.specs.Operators.{binary_word}
use Rattle.f77_ast.specs.Trees.{ExprTree, int, log, name, element, paren, unary, binary, chars, no_exprs, more_exprs}
use Rattle.f77_ast.specs.Plain.{exprs_of}
use Rattle.f77_exprs.specs.declared.at.Notes.{Notes}
use Rattle.f77_exprs.specs.Words.{after}
use Rattle.f77_exprs.specs.State.{State, Reader, parse_word, or_done, ◌>>=◌}
use Rattle.f77_exprs.specs.Operators.{one_of, or_other, relations, equivalences, sums, products}
use Rattle.f77_exprs.specs.Lexical.{name_at, number, number_first, constant}
use Rattle.f77_exprs.specs.Grammar.{Part, whole, power, Inner, comma, items, literal}
use Rattle.f77_exprs.specs.Grammar as grammar
use Rattle.roundtrip_programs.specs.Statements.Formed.{IsName, IsEquivalence, IsComparison, IsSum, IsProduct, IsSign, of_equivalence, of_disjunction, of_conjunction, of_negation, of_comparison, of_sum, of_product, of_power, of_operand, Formed, AllFormed, IsVariable}
use Rattle.roundtrip_programs.specs.Statements.Formed as formed
use Rattle.roundtrip_programs.proofs.Statements.Readings.{After, Sound, seq, then_word, else_word, done_word, weaken}
use Rattle.roundtrip_programs.proofs.Statements.Names.{name-formed}
use Rattle.roundtrip_programs.proofs.Statements.Numbers.{number-formed}
use Rattle.roundtrip_programs.specs.Statements.Formed.{Each}
use Rattle.roundtrip_programs.specs.Statements.Formed.{Filled}
use Rattle.roundtrip_programs.proofs.Statements.Lists.{items_by-sound, comma_keeps}

-- ---- operators

other_at : {B : Type 0} (op : BinaryOp) (o : Option (List ℕ)) (others : Option (BinaryOp × State)) (b : B) (s : State) (go : BinaryOp × State → Option (B × State)) (Q : B → Type 0)
    → ((r : List ℕ) → After (go (op, record s { rest = r })) s.notes Q) → After (or_done b s others go) s.notes Q
    → After (or_done b s (or_other op (option_map (λ r. record s { rest = r }) o) others) go) s.notes Q
other_at op None others b s go Q g h = h
other_at op (Some r) others b s go Q g h = g r

-- what was read, or what a reader behind one of these operators makes of it
operator_at : {B : Type 0} (In : BinaryOp → Type 0) (ops : List BinaryOp) (b : B) (s : State) (go : BinaryOp × State → Option (B × State)) (Q : B → Type 0) → Each In ops → Q b
    → ((op : BinaryOp) (r : List ℕ) → In op → After (go (op, record s { rest = r })) s.notes Q) → After (or_done b s (one_of ops s) go) s.notes Q
operator_at In [] b s go Q e q g = λ c. (c, q)
operator_at In (o ∷ os) b s go Q e q g =
    other_at o (after (binary_word o) s.rest) (one_of os s) b s go Q (λ r. g o r e.first) (operator_at In os b s go Q e.others q g)

-- an operand P of a chain makes an N of an N
abbrev Joins : (BinaryOp → Type 0) → (ExprTree → Type 0) → (ExprTree → Type 0) → Type 0
Joins In N P = (op : BinaryOp) (a b : ExprTree) → In op → N a → P b → N (binary op a b)

more-sound : (In : BinaryOp → Type 0) (ops : List BinaryOp) (one : Reader ExprTree) (N P : ExprTree → Type 0) → Each In ops → Sound one P → Joins In N P
    → (n : ℕ) (left : ExprTree) (s : State) → After (grammar.more ops one n left s) s.notes (λ e. N left → N e)
unfolding grammar.more
more-sound In ops one N P e h j zero left s = λ c. (c, λ p. p)
more-sound In ops one N P e h j (suc n) left s =
    operator_at In ops left s (λ o. one o.1 >>= λ r. grammar.more ops one n (binary o.0 left r.0) r.1) (λ x. N left → N x) e (λ p. p)
    (λ op t i. let u : State = record s { rest = t } in
    seq (one u) (λ r. grammar.more ops one n (binary op left r.0) r.1) s.notes P (λ x. N left → N x) (h u)
    (λ r. weaken (grammar.more ops one n (binary op left r.0) r.1) r.1.notes (λ x. N (binary op left r.0) → N x) (λ x. P r.0 → (N left → N x))
    (more-sound In ops one N P e h j n (binary op left r.0) r.1) (λ x f q p. f (j op left r.0 i p q))))

-- a first operand and what stands behind it
starts-sound : (In : BinaryOp → Type 0) (ops : List BinaryOp) (first one : Reader ExprTree) (N F P : ExprTree → Type 0) → Each In ops → Sound first F → ((a : ExprTree) → F a → N a)
    → Sound one P → Joins In N P → (s : State) → After (first s >>= λ l. grammar.more ops one (length l.1.rest) l.0 l.1) s.notes N
starts-sound In ops first one N F P e f up h j s =
    seq (first s) (λ l. grammar.more ops one (length l.1.rest) l.0 l.1) s.notes F N (f s)
    (λ l. weaken (grammar.more ops one (length l.1.rest) l.0 l.1) l.1.notes (λ x. N l.0 → N x) (λ x. F l.0 → N x)
    (more-sound In ops one N P e h j (length l.1.rest) l.0 l.1) (λ x g q. g (up l.0 q)))

chain-sound : (In : BinaryOp → Type 0) (ops : List BinaryOp) (one : Reader ExprTree) (N P : ExprTree → Type 0) → Each In ops → Sound one P → ((a : ExprTree) → P a → N a)
    → Joins In N P → Sound (grammar.chain ops one) N
unfolding grammar.chain
chain-sound In ops one N P e h up j s = starts-sound In ops one one N P P e h up h j s

-- ---- operands

pub all_formed : (xs : List ExprTree) → Each (Formed of_equivalence) xs → AllFormed (exprs_of xs)
all_formed [] h = formed.none
all_formed (x ∷ xs) h = formed.more x (exprs_of xs) h.first (all_formed xs h.others)

element_of : (n : List ℕ) (xs : List ExprTree) → Filled (Formed of_equivalence) xs → IsName n → IsVariable (element n (exprs_of xs))
element_of n [] h w = absurd h
element_of n (x ∷ xs) h w = record { name = w; first = h.first; others = all_formed xs h.others }

-- what stands inside is formed
pub record Inside (I : Inner) : Type 0 where
  pub expressions : Sound (I whole) (Formed of_equivalence)
  pub powers : Sound (I power) (Formed of_power)

element-sound : (I : Inner) (n : List ℕ) → Inside I → Sound (grammar.element_at I n) (λ e. IsName n → IsVariable e)
unfolding grammar.element_at
element-sound I n h s =
    seq (items (I whole) s) (λ es. parse_word (codes ")") es.1 >>= λ t. Some (element n (exprs_of es.0), t)) s.notes (Filled (Formed of_equivalence)) (λ e. IsName n → IsVariable e)
    (items_by-sound comma (I whole) (Formed of_equivalence) comma_keeps h.expressions s)
    (λ es. then_word (codes ")") es.1 (λ t. Some (element n (exprs_of es.0), t)) (λ e. Filled (Formed of_equivalence) es.0 → (IsName n → IsVariable e))
    (λ r c. (c, λ f w. element_of n es.0 f w)))

pub variable-sound : (I : Inner) → Inside I → Sound (grammar.variable_in I) IsVariable
unfolding grammar.variable_in
variable-sound I h s =
    seq (name_at s) (λ n. or_done (name n.0) n.1 (parse_word (codes "(") n.1) (grammar.element_at I n.0)) s.notes IsName IsVariable (name-formed s)
    (λ n. done_word (codes "(") (name n.0) n.1 (grammar.element_at I n.0) (λ e. IsName n.0 → IsVariable e) (λ w. w) (λ r. element-sound I n.0 h (record n.1 { rest = r })))

pub variable_operand : (e : ExprTree) → IsVariable e → Formed of_operand e
variable_operand (name n) h = formed.scalar n h
variable_operand (element n (more_exprs e es)) h = formed.indexed n e es h.name h.first h.others
variable_operand (element n no_exprs) h = absurd h
variable_operand (int n) h = absurd h
variable_operand (log b) h = absurd h
variable_operand (paren e) h = absurd h
variable_operand (unary op e) h = absurd h
variable_operand (binary op a b) h = absurd h
variable_operand (chars c) h = absurd h

paren-sound : (I : Inner) → Inside I → Sound (grammar.parenthesis I) (Formed of_operand)
unfolding grammar.parenthesis
paren-sound I h s =
    seq (I whole s) (λ e. parse_word (codes ")") e.1 >>= λ t. Some (paren e.0, t)) s.notes (Formed of_equivalence) (Formed of_operand) (h.expressions s)
    (λ e. then_word (codes ")") e.1 (λ t. Some (paren e.0, t)) (λ x. Formed of_equivalence e.0 → Formed of_operand x) (λ r c. (c, λ f. formed.enclosed e.0 f)))

constant_at : (o : Option (List ℕ × List ℕ)) (s : State) → After (o >>= λ c. Some (chars c.0, record s { rest = c.1 })) s.notes (Formed of_operand)
constant_at None s = tt
constant_at (Some c) s = λ k. (k, formed.constant c.0)

chars-sound : Sound grammar.constant_at (Formed of_operand)
unfolding grammar.constant_at
chars-sound s = constant_at (constant s.rest) s

literal-sound : (s : State) → After (Some (literal s)) s.notes (Formed of_operand)
literal-sound s = λ c. let p = number-formed s c in (p.0, formed.number (number s).0 p.1)

number_or : (b : Bool) (o p : Option (ExprTree × State)) (k : Notes) → After o k (Formed of_operand) → After p k (Formed of_operand) → After (if b then o else p) k (Formed of_operand)
number_or true o p k x y = x
number_or false o p k x y = y

primary-sound : (I : Inner) → Inside I → Sound (grammar.primary I) (Formed of_operand)
unfolding grammar.primary
primary-sound I h s =
    else_word (codes ".TRUE.") s (λ t. Some (log true, t)) _ (Formed of_operand) (λ r c. (c, formed.logical true))
    (else_word (codes ".FALSE.") s (λ t. Some (log false, t)) _ (Formed of_operand) (λ r c. (c, formed.logical false))
    (else_word (codes "(") s (grammar.parenthesis I) _ (Formed of_operand) (λ r. paren-sound I h (record s { rest = r }))
    (else_word (codes "'") s grammar.constant_at _ (Formed of_operand) (λ r. chars-sound (record s { rest = r }))
    (number_or (number_first s.rest) (Some (literal s)) (grammar.variable_in I s) s.notes (literal-sound s)
    (weaken (grammar.variable_in I s) s.notes IsVariable (Formed of_operand) (variable-sound I h s) variable_operand)))))

-- ---- arithmetic

exponent-sound : (I : Inner) (b : ExprTree) → Inside I → Sound (grammar.exponent I b) (λ e. Formed of_operand b → Formed of_power e)
unfolding grammar.exponent
exponent-sound I b h s =
    done_word (codes "**") b s (λ t. I power t >>= λ e. Some (binary Pow b e.0, e.1)) (λ e. Formed of_operand b → Formed of_power e) (λ f. formed.operand b f)
    (λ r. let u : State = record s { rest = r } in
    seq (I power u) (λ e. Some (binary Pow b e.0, e.1)) s.notes (Formed of_power) (λ e. Formed of_operand b → Formed of_power e) (h.powers u)
    (λ e c. (c, λ g f. formed.raised b e.0 f g)))

pub factor-sound : (I : Inner) → Inside I → Sound (grammar.factor I) (Formed of_power)
unfolding grammar.factor
factor-sound I h s =
    seq (grammar.primary I s) (λ b. grammar.exponent I b.0 b.1) s.notes (Formed of_operand) (Formed of_power) (primary-sound I h s) (λ b. exponent-sound I b.0 h b.1)

term-sound : (I : Inner) → Inside I → Sound (grammar.term I) (Formed of_product)
term-sound I h =
    chain-sound IsProduct products (grammar.factor I) (Formed of_product) (Formed of_power) (record { first = tt; others = record { first = tt; others = tt } }) (factor-sound I h)
    formed.factor (λ op a b i x y. formed.multiplied op a b i x y)

signed-sound : (I : Inner) (op : UnaryOp) → IsSign op → Inside I → Sound (grammar.signed_terms op I) (Formed of_sum)
unfolding grammar.signed_terms
signed-sound I op i h s =
    seq (grammar.term I s) (λ t. Some (unary op t.0, t.1)) s.notes (Formed of_product) (Formed of_sum) (term-sound I h s) (λ t c. (c, λ f. formed.signed op t.0 i f))

signed_term-sound : (I : Inner) → Inside I → Sound (grammar.signed_term I) (Formed of_sum)
unfolding grammar.signed_term
signed_term-sound I h s =
    else_word (codes "+") s (grammar.signed_terms Plus I) _ (Formed of_sum) (λ r. signed-sound I Plus tt h (record s { rest = r }))
    (else_word (codes "-") s (grammar.signed_terms Minus I) _ (Formed of_sum) (λ r. signed-sound I Minus tt h (record s { rest = r }))
    (weaken (grammar.term I s) s.notes (Formed of_product) (Formed of_sum) (term-sound I h s) formed.term))

arithmetic-sound : (I : Inner) → Inside I → Sound (grammar.arithmetic I) (Formed of_sum)
unfolding grammar.arithmetic
arithmetic-sound I h s =
    starts-sound IsSum sums (grammar.signed_term I) (grammar.term I) (Formed of_sum) (Formed of_sum) (Formed of_product) (record { first = tt; others = record { first = tt; others = tt } })
    (signed_term-sound I h) (λ a f. f) (term-sound I h) (λ op a b i x y. formed.added op a b i x y) s

-- ---- comparisons and logic

all_compare : Each IsComparison relations
all_compare = record { first = tt; others = record { first = tt; others = record { first = tt; others = record { first = tt; others = record { first = tt; others = record { first = tt; others = tt } } } } } }

comparison-sound : (I : Inner) (left : ExprTree) → Inside I → Sound (grammar.comparison I left) (λ e. Formed of_sum left → Formed of_comparison e)
unfolding grammar.comparison
comparison-sound I left h s =
    operator_at IsComparison relations left s (λ o. grammar.arithmetic I o.1 >>= λ r. Some (binary o.0 left r.0, r.1)) (λ e. Formed of_sum left → Formed of_comparison e) all_compare
    (λ f. formed.arithmetic left f)
    (λ op r i. let u : State = record s { rest = r } in
    seq (grammar.arithmetic I u) (λ r. Some (binary op left r.0, r.1)) s.notes (Formed of_sum) (λ e. Formed of_sum left → Formed of_comparison e) (arithmetic-sound I h u)
    (λ e c. (c, λ g f. formed.compared op left e.0 i f g)))

relation-sound : (I : Inner) → Inside I → Sound (grammar.relation I) (Formed of_comparison)
unfolding grammar.relation
relation-sound I h s =
    seq (grammar.arithmetic I s) (λ l. grammar.comparison I l.0 l.1) s.notes (Formed of_sum) (Formed of_comparison) (arithmetic-sound I h s) (λ l. comparison-sound I l.0 h l.1)

denied-sound : (I : Inner) → Inside I → Sound (grammar.negated_relation I) (Formed of_negation)
unfolding grammar.negated_relation
denied-sound I h s =
    seq (grammar.relation I s) (λ r. Some (unary Not r.0, r.1)) s.notes (Formed of_comparison) (Formed of_negation) (relation-sound I h s) (λ r c. (c, λ f. formed.denied r.0 f))

negation-sound : (I : Inner) → Inside I → Sound (grammar.negation I) (Formed of_negation)
unfolding grammar.negation
negation-sound I h s =
    else_word (codes ".NOT.") s (grammar.negated_relation I) _ (Formed of_negation) (λ r. denied-sound I h (record s { rest = r }))
    (weaken (grammar.relation I s) s.notes (Formed of_comparison) (Formed of_negation) (relation-sound I h s) formed.asserted)

IsAnd : BinaryOp → Type 0
IsAnd op = op ≡ And

IsOr : BinaryOp → Type 0
IsOr op = op ≡ Or

conjunction-sound : (I : Inner) → Inside I → Sound (grammar.conjunction I) (Formed of_conjunction)
unfolding IsAnd
conjunction-sound I h =
    chain-sound IsAnd (And ∷ []) (grammar.negation I) (Formed of_conjunction) (Formed of_negation) (record { first = refl; others = tt }) (negation-sound I h)
    formed.conjunct (λ op a b i x y. rw i (formed.both a b x y))

disjunction-sound : (I : Inner) → Inside I → Sound (grammar.disjunction I) (Formed of_disjunction)
unfolding IsOr
disjunction-sound I h =
    chain-sound IsOr (Or ∷ []) (grammar.conjunction I) (Formed of_disjunction) (Formed of_conjunction) (record { first = refl; others = tt }) (conjunction-sound I h)
    formed.disjunct (λ op a b i x y. rw i (formed.either a b x y))

equivalence-sound : (I : Inner) → Inside I → Sound (grammar.equivalence I) (Formed of_equivalence)
equivalence-sound I h =
    chain-sound IsEquivalence equivalences (grammar.disjunction I) (Formed of_equivalence) (Formed of_disjunction) (record { first = tt; others = record { first = tt; others = tt } })
    (disjunction-sound I h) formed.side (λ op a b i x y. formed.equated op a b i x y)

-- ---- the whole

pub part-formed : (n : ℕ) → Inside (grammar.part n)
unfolding grammar.part
part-formed zero = record { expressions = λ s. tt; powers = λ s. tt }
part-formed (suc n) = record { expressions = equivalence-sound (grammar.part n) (part-formed n); powers = factor-sound (grammar.part n) (part-formed n) }

pub expression-formed : Sound grammar.expression (Formed of_equivalence)
unfolding grammar.expression
expression-formed s = (part-formed (length s.rest + 1)).expressions s

pub variable-formed : Sound grammar.variable IsVariable
unfolding grammar.variable
variable-formed s = variable-sound (grammar.part (length s.rest + 1)) (part-formed (length s.rest + 1)) s
