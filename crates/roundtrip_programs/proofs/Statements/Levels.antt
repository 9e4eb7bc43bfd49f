-- Each level of the grammar reads its text back: powers, signs, comparisons, `.NOT.`, and the operators that group from the left.
use Rattle.std.proofs.Common.{◌≡◌, ℕ, ◌<◌, List, ◌++◌, length, refl, ap, ◌∙◌, arith, Option, Some, None}
use Rattle.std.specs.Prelude.{codes}
use Rattle.f77_ast.specs.declared.expr.BinaryOp.{BinaryOp}
use Rattle.f77_ast.specs.declared.expr.BinaryOp.TheVariants.{Add, Sub, Mul, Div, Pow, Eq, Ne, Lt, Le, Gt, Ge, And, Or, Eqv, Neqv}
use Rattle.f77_ast.specs.declared.expr.UnaryOp.{UnaryOp}
use Rattle.f77_ast.specs.declared.expr.UnaryOp.TheVariants.{Plus, Minus, Not}
use Rattle.f77_ast.specs.Operators.{binary_word}
use Rattle.f77_ast.specs.Trees.{ExprTree, unary, binary}
use Rattle.f77_exprs.specs.declared.at.Notes.{Notes}
use Rattle.f77_exprs.specs.Words.{after}
use Rattle.f77_exprs.specs.State.{State, or_done, ◌>>=◌}
use Rattle.f77_exprs.specs.Operators.{one_of, relations, equivalences, sums, products}
use Rattle.f77_exprs.specs.Grammar.{primary, exponent, factor, term, signed_terms, signed_term, arithmetic, comparison, relation, negated_relation, negation}
use Rattle.f77_exprs.specs.Laws.{inside}
use Rattle.f77_exprs.proofs.Depth.{is_grammar}
use Rattle.f77_printer.specs.ExprText.{expr_text}
use Rattle.roundtrip_programs.specs.Statements.Formed.{IsEquivalence, IsComparison, IsSum, IsProduct, IsSign}
use Rattle.roundtrip_programs.specs.Statements.Follows.{standing}
use Rattle.roundtrip_programs.proofs.Statements.Behind.{Calm, BehindPower, BehindProduct, BehindSum, BehindComparison, power_behind, comparison_behind}
use Rattle.roundtrip_programs.proofs.Statements.Fronts.{Plain, Unsigned}
use Rattle.roundtrip_programs.proofs.Statements.Turns.{Back, joined}

-- ---- an operator's word is read as the operator

pub product_word : (op : BinaryOp) (u : List ℕ) (k : Notes) → IsProduct op → one_of products (standing (binary_word op ++ u) k) ≡ Some (op, standing u k)
product_word Mul u k h = refl
product_word Div u k h = refl
product_word _ u k h = absurd h

pub sum_word : (op : BinaryOp) (u : List ℕ) (k : Notes) → IsSum op → one_of sums (standing (binary_word op ++ u) k) ≡ Some (op, standing u k)
sum_word Add u k h = refl
sum_word Sub u k h = refl
sum_word _ u k h = absurd h

pub comparison_word : (op : BinaryOp) (u : List ℕ) (k : Notes) → IsComparison op → one_of relations (standing (binary_word op ++ u) k) ≡ Some (op, standing u k)
comparison_word Eq u k h = refl
comparison_word Ne u k h = refl
comparison_word Lt u k h = refl
comparison_word Le u k h = refl
comparison_word Gt u k h = refl
comparison_word Ge u k h = refl
comparison_word _ u k h = absurd h

pub equivalence_word : (op : BinaryOp) (u : List ℕ) (k : Notes) → IsEquivalence op → one_of equivalences (standing (binary_word op ++ u) k) ≡ Some (op, standing u k)
equivalence_word Eqv u k h = refl
equivalence_word Neqv u k h = refl
equivalence_word _ u k h = absurd h

pub word_length : (op : BinaryOp) → 0 < length (binary_word op)
word_length Add = omega arith
word_length Sub = omega arith
word_length Mul = omega arith
word_length Div = omega arith
word_length Pow = omega arith
word_length Eq = omega arith
word_length Ne = omega arith
word_length Lt = omega arith
word_length Le = omega arith
word_length Gt = omega arith
word_length Ge = omega arith
word_length And = omega arith
word_length Or = omega arith
word_length Eqv = omega arith
word_length Neqv = omega arith

-- ---- powers

pub factor_operand : (e : ExprTree) → Back (primary inside) (expr_text e) e Calm → Back (factor inside) (expr_text e) e BehindPower
unfolding factor exponent
factor_operand e x t k h =
    let f : after (codes "**") t ≡ None = h.free in
    ap (λ (o : Option (ExprTree × State)). o >>= λ b. exponent inside b.0 b.1) (x t k h.calm) ∙ rw f

pub factor_raised : (a b : ExprTree) → Back (primary inside) (expr_text a) a Calm → Back (factor inside) (expr_text b) b BehindPower
    → Back (factor inside) (expr_text (binary Pow a b)) (binary Pow a b) BehindPower
unfolding factor exponent
factor_raised a b x y t k h =
    ap (λ (z : List ℕ). factor inside (standing z k)) (joined (expr_text a) (codes "**") (expr_text b) t)
    ∙ ap (λ (o : Option (ExprTree × State)). o >>= λ r. exponent inside r.0 r.1) (x (codes "**" ++ (expr_text b ++ t)) k (power_behind (expr_text b ++ t)))
    ∙ ap (λ (o : Option (ExprTree × State)). o >>= λ r. Some (binary Pow a r.0, r.1)) (is_grammar.power_is (standing (expr_text b ++ t) k) ∙ y t k h)

-- ---- signs

pub unsigned_term : (e : ExprTree) → Unsigned (expr_text e) → Back (term inside) (expr_text e) e BehindProduct → Back (signed_term inside) (expr_text e) e BehindProduct
unfolding signed_term
unsigned_term e f x t k h =
    let p : after (codes "+") (expr_text e ++ t) ≡ None = f.plus t in
    let m : after (codes "-") (expr_text e ++ t) ≡ None = f.minus t in
    rw (p, m) (x t k h)

pub term_signed : (op : UnaryOp) (e : ExprTree) → IsSign op → Back (term inside) (expr_text e) e BehindProduct → Back (signed_term inside) (expr_text (unary op e)) (unary op e) BehindProduct
unfolding signed_term signed_terms
term_signed Plus e s x t k h = ap (λ (o : Option (ExprTree × State)). o >>= λ r. Some (unary Plus r.0, r.1)) (x t k h)
term_signed Minus e s x t k h = ap (λ (o : Option (ExprTree × State)). o >>= λ r. Some (unary Minus r.0, r.1)) (x t k h)
term_signed Not e s x t k h = absurd s

-- ---- comparisons and `.NOT.`

pub relation_alone : (e : ExprTree) → Back (arithmetic inside) (expr_text e) e BehindSum → Back (relation inside) (expr_text e) e BehindComparison
unfolding relation comparison
relation_alone e x t k h =
    let f : one_of relations (standing t k) ≡ None = h.free k in
    ap (λ (o : Option (ExprTree × State)). o >>= λ l. comparison inside l.0 l.1) (x t k h.sum) ∙ rw f

pub relation_compared : (op : BinaryOp) (a b : ExprTree) → IsComparison op → Back (arithmetic inside) (expr_text a) a BehindSum → Back (arithmetic inside) (expr_text b) b BehindSum
    → Back (relation inside) (expr_text (binary op a b)) (binary op a b) BehindComparison
unfolding relation comparison
relation_compared op a b c x y t k h =
    ap (λ (z : List ℕ). relation inside (standing z k)) (joined (expr_text a) (binary_word op) (expr_text b) t)
    ∙ ap (λ (o : Option (ExprTree × State)). o >>= λ l. comparison inside l.0 l.1) (x (binary_word op ++ (expr_text b ++ t)) k (comparison_behind op (expr_text b ++ t) c))
    ∙ ap (λ (o : Option (BinaryOp × State)). or_done a (standing (binary_word op ++ (expr_text b ++ t)) k) o (λ u. arithmetic inside u.1 >>= λ r. Some (binary u.0 a r.0, r.1)))
    (comparison_word op (expr_text b ++ t) k c)
    ∙ ap (λ (o : Option (ExprTree × State)). o >>= λ r. Some (binary op a r.0, r.1)) (y t k h.sum)

pub negation_alone : (e : ExprTree) → Plain (expr_text e) → Back (relation inside) (expr_text e) e BehindComparison → Back (negation inside) (expr_text e) e BehindComparison
unfolding negation
negation_alone e f x t k h =
    let d : after (codes ".NOT.") (expr_text e ++ t) ≡ None = f.denial t in
    rw d (x t k h)

pub negation_denied : (e : ExprTree) → Back (relation inside) (expr_text e) e BehindComparison → Back (negation inside) (expr_text (unary Not e)) (unary Not e) BehindComparison
unfolding negation negated_relation
negation_denied e x t k h = ap (λ (o : Option (ExprTree × State)). o >>= λ r. Some (unary Not r.0, r.1)) (x t k h)
