-- What is written of an expression closes each parenthesis that it opens, and stands no deeper than what was read.
use Rattle.std.proofs.Common.{◌≡◌, ℕ, zero, suc, ◌+◌, List, [], ◌∷◌, length, refl, ap, sym, ◌∙◌, Option, Some, None, Bool, true, false, if◌then◌else◌}
use Rattle.std.specs.Prelude.{codes, option_map}
use Rattle.f77_ast.specs.declared.expr.BinaryOp.{BinaryOp}
use Rattle.f77_ast.specs.declared.expr.BinaryOp.TheVariants.{Add, Sub, Mul, Div, Pow, Eq, Ne, Lt, Le, Gt, Ge, And, Or, Eqv, Neqv}
use Rattle.f77_ast.specs.declared.expr.UnaryOp.{UnaryOp}
use Rattle.f77_ast.specs.declared.expr.UnaryOp.TheVariants.{Plus, Minus, Not}
use Rattle.f77_ast.specs.Operators.{unary_word, binary_word}
use Rattle.f77_ast.specs.Trees.{ExprTree, log, name, unary, binary, chars}
use Rattle.f77_structure.specs.Depth.{is_deep_from}
use Rattle.f77_exprs.specs.Words.{after}
use Rattle.f77_exprs.specs.State.{State, Reader, or_done, ◌>>=◌}
use Rattle.f77_exprs.specs.Operators.{one_of, or_other, relations, equivalences, sums, products}
use Rattle.f77_exprs.specs.Lexical.{name_at, number_first, constant}
use Rattle.f77_exprs.specs.Grammar.{whole, power, Inner, items, literal}
use Rattle.f77_exprs.specs.Grammar as grammar
use Rattle.f77_printer.specs.ExprText.{expr_text}
use Rattle.roundtrip_programs.specs.Statements.Formed.{Each}
use Rattle.roundtrip_programs.proofs.Statements.StopFormed.{Splits, constant_splits}
use Rattle.roundtrip_programs.proofs.ModuleTexts.Levels.{at, IsShallow, Leads, join, past, plain, opens, opened, closes, closed}
use Rattle.roundtrip_programs.proofs.ModuleTexts.Quoted.{constant-leads, past_constant}
use Rattle.roundtrip_programs.proofs.ModuleTexts.Readers.{Within, Even, Level, split_shallow, then_read, then_word, else_word, done_word}
use Rattle.roundtrip_programs.proofs.ModuleTexts.Names.{name-even, number_even}
use Rattle.roundtrip_programs.proofs.ModuleTexts.Lists.{exprs-leads, items-even}

abbrev EvenExpr : Reader ExprTree → Type 0
EvenExpr R = Even R (Level expr_text)

-- ---- operators

pub binary_leads : (n : ℕ) (op : BinaryOp) → Leads n n (binary_word op)
binary_leads n Add = plain n (codes "+") refl
binary_leads n Sub = plain n (codes "-") refl
binary_leads n Mul = plain n (codes "*") refl
binary_leads n Div = plain n (codes "/") refl
binary_leads n Pow = plain n (codes "**") refl
binary_leads n Eq = plain n (codes ".EQ.") refl
binary_leads n Ne = plain n (codes ".NE.") refl
binary_leads n Lt = plain n (codes ".LT.") refl
binary_leads n Le = plain n (codes ".LE.") refl
binary_leads n Gt = plain n (codes ".GT.") refl
binary_leads n Ge = plain n (codes ".GE.") refl
binary_leads n And = plain n (codes ".AND.") refl
binary_leads n Or = plain n (codes ".OR.") refl
binary_leads n Eqv = plain n (codes ".EQV.") refl
binary_leads n Neqv = plain n (codes ".NEQV.") refl

pub unary_leads : (n : ℕ) (op : UnaryOp) → Leads n n (unary_word op)
unary_leads n Plus = plain n (codes "+") refl
unary_leads n Minus = plain n (codes "-") refl
unary_leads n Not = plain n (codes ".NOT.") refl

binary_text : (n : ℕ) (op : BinaryOp) (a b : ExprTree) → Level expr_text n a → Level expr_text n b → Level expr_text n (binary op a b)
binary_text n op a b x y = join (join x (binary_leads n op)) y

abbrev Operated : {B : Type 0} → State → (BinaryOp × State → Option (B × State)) → ℕ → (B → Type 0) → Type 0
Operated s g n V = (op : BinaryOp) (r : List ℕ) → IsShallow n r → Within (g (op, record s { rest = r })) n V

other_at : {B : Type 0} (op : BinaryOp) (o : Option (List ℕ)) (others : Option (BinaryOp × State)) (b : B) (s : State) (g : BinaryOp × State → Option (B × State)) (n : ℕ) (V : B → Type 0)
    → after (binary_word op) s.rest ≡ o → IsShallow n s.rest → Operated s g n V → Within (or_done b s others g) n V
    → Within (or_done b s (or_other op (option_map (λ r. record s { rest = r }) o) others) g) n V
other_at op None others b s g n V e h f x = x
other_at op (Some r) others b s g n V e h f x = f op r (past r (binary_leads n op) (split_shallow (binary_word op) r s n e h))

-- what was read, or what a reader behind one of these operators makes of it
operator_at : {B : Type 0} (ops : List BinaryOp) (b : B) (s : State) (g : BinaryOp × State → Option (B × State)) (n : ℕ) (V : B → Type 0) → IsShallow n s.rest → V b → Operated s g n V
    → Within (or_done b s (one_of ops s) g) n V
operator_at [] b s g n V h v f = (v, h)
operator_at (o ∷ os) b s g n V h v f = other_at o (after (binary_word o) s.rest) (one_of os s) b s g n V refl h f (operator_at os b s g n V h v f)

more-even : (ops : List BinaryOp) (one : Reader ExprTree) → EvenExpr one → (k : ℕ) (left : ExprTree) (n : ℕ) (s : State) → Level expr_text n left → IsShallow n s.rest
    → Within (grammar.more ops one k left s) n (Level expr_text n)
unfolding grammar.more
more-even ops one e zero left n s v h = (v, h)
more-even ops one e (suc k) left n s v h =
    operator_at ops left s (λ o. one o.1 >>= λ r. grammar.more ops one k (binary o.0 left r.0) r.1) n (Level expr_text n) h v
    (λ op t i. then_read one (Level expr_text) (λ r. grammar.more ops one k (binary op left r.0) r.1) (record s { rest = t }) n n (Level expr_text n) e i
    (λ r x j. more-even ops one e k (binary op left r.0) n r.1 (binary_text n op left r.0 v x) j))

starts-even : (ops : List BinaryOp) (first one : Reader ExprTree) → EvenExpr first → EvenExpr one → (n : ℕ) (s : State) → IsShallow n s.rest
    → Within (first s >>= λ l. grammar.more ops one (length l.1.rest) l.0 l.1) n (Level expr_text n)
starts-even ops first one f e n s h =
    then_read first (Level expr_text) (λ l. grammar.more ops one (length l.1.rest) l.0 l.1) s n n (Level expr_text n) f h (λ l v i. more-even ops one e (length l.1.rest) l.0 n l.1 v i)

chain-even : (ops : List BinaryOp) (one : Reader ExprTree) → EvenExpr one → EvenExpr (grammar.chain ops one)
unfolding grammar.chain
chain-even ops one e n s h = starts-even ops one one e e n s h

-- ---- operands

-- what stands inside
pub record Inside (I : Inner) : Type 0 where
  pub expressions : EvenExpr (I whole)
  pub powers : EvenExpr (I power)

element-even : (I : Inner) (f : List ℕ) → Inside I → (n : ℕ) (s : State) → Leads n n f → Leads n (n + 1) (codes "(") → IsShallow (n + 1) s.rest → Within (grammar.element_at I f s) n (Level expr_text n)
unfolding grammar.element_at
element-even I f e n s x o h =
    then_read (items (I whole)) (λ m. Each (Level expr_text m)) _ s (n + 1) n (Level expr_text n) (items-even (I whole) (Level expr_text) e.expressions) h
    (λ es v i. then_word (codes ")") es.1 _ (n + 1) n (Level expr_text n) i (λ r j. (join (join (join x o) (exprs-leads (n + 1) es.0 v)) (closes n), closed n r j)))

pub variable-even : (I : Inner) → Inside I → EvenExpr (grammar.variable_in I)
unfolding grammar.variable_in
variable-even I e n s h =
    then_read name_at (Level (λ x. x)) _ s n n (Level expr_text n) name-even h
    (λ f v i. done_word (codes "(") (name f.0) f.1 (grammar.element_at I f.0) n (Level expr_text n) i v
    (λ r j. element-even I f.0 e n (record f.1 { rest = r }) v (opens n r j) (opened n r j)))

paren-even : (I : Inner) → Inside I → (n : ℕ) (s : State) → Leads n (n + 1) (codes "(") → IsShallow (n + 1) s.rest → Within (grammar.parenthesis I s) n (Level expr_text n)
unfolding grammar.parenthesis
paren-even I e n s o h =
    then_read (I whole) (Level expr_text) _ s (n + 1) n (Level expr_text n) e.expressions h
    (λ x v i. then_word (codes ")") x.1 _ (n + 1) n (Level expr_text n) i (λ r j. (join (join o v) (closes n), closed n r j)))

constant_in : (o : Option (List ℕ × List ℕ)) (n : ℕ) (s : State) → Splits s.rest o → IsShallow n (39 ∷ s.rest)
    → Within (o >>= λ c. Some (chars c.0, record s { rest = c.1 })) n (Level expr_text n)
constant_in None n s q h = tt
constant_in (Some c) n s q h = (constant-leads n c.0, past_constant n c.0 c.1 (ap (λ (x : List ℕ). is_deep_from (at n) (39 ∷ x)) (sym q) ∙ h))

constant-even : (n : ℕ) (s : State) → IsShallow n (39 ∷ s.rest) → Within (grammar.constant_at s) n (Level expr_text n)
unfolding grammar.constant_at
constant-even n s h = constant_in (constant s.rest) n s (constant_splits s.rest) h

literal_or : (b : Bool) (n : ℕ) (s : State) (other : Option (ExprTree × State)) → IsShallow n s.rest → Within other n (Level expr_text n) → Within (if b then Some (literal s) else other) n (Level expr_text n)
literal_or true n s other h x = number_even n s h
literal_or false n s other h x = x

primary-even : (I : Inner) → Inside I → EvenExpr (grammar.primary I)
unfolding grammar.primary
primary-even I e n s h =
    else_word (codes ".TRUE.") s (λ t. Some (log true, t)) _ n n (Level expr_text n) h (λ r i. (plain n (codes ".TRUE.") refl, i))
    (else_word (codes ".FALSE.") s (λ t. Some (log false, t)) _ n n (Level expr_text n) h (λ r i. (plain n (codes ".FALSE.") refl, i))
    (else_word (codes "(") s (grammar.parenthesis I) _ n n (Level expr_text n) h (λ r i. paren-even I e n (record s { rest = r }) (opens n r i) (opened n r i))
    (else_word (codes "'") s grammar.constant_at _ n n (Level expr_text n) h (λ r i. constant-even n (record s { rest = r }) i)
    (literal_or (number_first s.rest) n s (grammar.variable_in I s) h (variable-even I e n s h)))))

-- ---- arithmetic

exponent-even : (I : Inner) (b : ExprTree) → Inside I → (n : ℕ) (s : State) → Level expr_text n b → IsShallow n s.rest → Within (grammar.exponent I b s) n (Level expr_text n)
unfolding grammar.exponent
exponent-even I b e n s v h =
    done_word (codes "**") b s (λ t. I power t >>= λ x. Some (binary Pow b x.0, x.1)) n (Level expr_text n) h v
    (λ r i. then_read (I power) (Level expr_text) _ (record s { rest = r }) n n (Level expr_text n) e.powers i (λ x w j. (binary_text n Pow b x.0 v w, j)))

factor-even : (I : Inner) → Inside I → EvenExpr (grammar.factor I)
unfolding grammar.factor
factor-even I e n s h =
    then_read (grammar.primary I) (Level expr_text) (λ b. grammar.exponent I b.0 b.1) s n n (Level expr_text n) (primary-even I e) h (λ b v i. exponent-even I b.0 e n b.1 v i)

term-even : (I : Inner) → Inside I → EvenExpr (grammar.term I)
term-even I e = chain-even products (grammar.factor I) (factor-even I e)

signed-even : (I : Inner) (op : UnaryOp) → Inside I → (n : ℕ) (s : State) → IsShallow n s.rest → Within (grammar.signed_terms op I s) n (Level expr_text n)
unfolding grammar.signed_terms
signed-even I op e n s h =
    then_read (grammar.term I) (Level expr_text) (λ t. Some (unary op t.0, t.1)) s n n (Level expr_text n) (term-even I e) h (λ t v i. (join (unary_leads n op) v, i))

signed_term-even : (I : Inner) → Inside I → EvenExpr (grammar.signed_term I)
unfolding grammar.signed_term
signed_term-even I e n s h =
    else_word (codes "+") s (grammar.signed_terms Plus I) _ n n (Level expr_text n) h (λ r i. signed-even I Plus e n (record s { rest = r }) i)
    (else_word (codes "-") s (grammar.signed_terms Minus I) _ n n (Level expr_text n) h (λ r i. signed-even I Minus e n (record s { rest = r }) i) (term-even I e n s h))

arithmetic-even : (I : Inner) → Inside I → EvenExpr (grammar.arithmetic I)
unfolding grammar.arithmetic
arithmetic-even I e n s h = starts-even sums (grammar.signed_term I) (grammar.term I) (signed_term-even I e) (term-even I e) n s h

-- ---- comparisons and logic

comparison-even : (I : Inner) (left : ExprTree) → Inside I → (n : ℕ) (s : State) → Level expr_text n left → IsShallow n s.rest → Within (grammar.comparison I left s) n (Level expr_text n)
unfolding grammar.comparison
comparison-even I left e n s v h =
    operator_at relations left s (λ o. grammar.arithmetic I o.1 >>= λ r. Some (binary o.0 left r.0, r.1)) n (Level expr_text n) h v
    (λ op t i. then_read (grammar.arithmetic I) (Level expr_text) (λ r. Some (binary op left r.0, r.1)) (record s { rest = t }) n n (Level expr_text n) (arithmetic-even I e) i
    (λ r x j. (binary_text n op left r.0 v x, j)))

relation-even : (I : Inner) → Inside I → EvenExpr (grammar.relation I)
unfolding grammar.relation
relation-even I e n s h =
    then_read (grammar.arithmetic I) (Level expr_text) (λ l. grammar.comparison I l.0 l.1) s n n (Level expr_text n) (arithmetic-even I e) h (λ l v i. comparison-even I l.0 e n l.1 v i)

denied-even : (I : Inner) → Inside I → (n : ℕ) (s : State) → IsShallow n s.rest → Within (grammar.negated_relation I s) n (Level expr_text n)
unfolding grammar.negated_relation
denied-even I e n s h =
    then_read (grammar.relation I) (Level expr_text) (λ r. Some (unary Not r.0, r.1)) s n n (Level expr_text n) (relation-even I e) h (λ r v i. (join (unary_leads n Not) v, i))

negation-even : (I : Inner) → Inside I → EvenExpr (grammar.negation I)
unfolding grammar.negation
negation-even I e n s h = else_word (codes ".NOT.") s (grammar.negated_relation I) _ n n (Level expr_text n) h (λ r i. denied-even I e n (record s { rest = r }) i) (relation-even I e n s h)

equivalence-even : (I : Inner) → Inside I → EvenExpr (grammar.equivalence I)
equivalence-even I e =
    chain-even equivalences (grammar.disjunction I) (chain-even (Or ∷ []) (grammar.conjunction I) (chain-even (And ∷ []) (grammar.negation I) (negation-even I e)))

-- ---- the whole

part-even : (k : ℕ) → Inside (grammar.part k)
unfolding grammar.part
part-even zero = record { expressions = λ n s h. tt; powers = λ n s h. tt }
part-even (suc k) = record { expressions = equivalence-even (grammar.part k) (part-even k); powers = factor-even (grammar.part k) (part-even k) }

pub expression_even : EvenExpr grammar.expression
unfolding grammar.expression
expression_even n s h = (part-even (length s.rest + 1)).expressions n s h

pub variable_even : EvenExpr grammar.variable
unfolding grammar.variable
variable_even n s h = variable-even (grammar.part (length s.rest + 1)) (part-even (length s.rest + 1)) n s h
