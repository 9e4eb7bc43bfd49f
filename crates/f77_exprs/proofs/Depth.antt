-- A depth past the characters that are left changes nothing.
use Rattle.std.proofs.Common.{◌≡◌, ℕ, zero, suc, ◌<◌, ◌≤◌, ◌+◌, List, [], ◌∷◌, ◌++◌, length, refl, arith, add-one, Option, Some, None, Bool, true, false, if◌then◌else◌}
use Rattle.std.specs.Prelude.{codes}
use Rattle.f77_ast.specs.declared.expr.BinaryOp.{BinaryOp}
use Rattle.f77_ast.specs.declared.expr.BinaryOp.TheVariants.{Pow, And, Or}
use Rattle.f77_ast.specs.declared.expr.UnaryOp.{UnaryOp}
use Rattle.f77_ast.specs.declared.expr.UnaryOp.TheVariants.{Plus, Minus, Not}
use Rattle.f77_ast.specs.Trees.{ExprTree, log, name, element, paren, unary, binary}
use Rattle.f77_ast.specs.Plain.{exprs_of}
use Rattle.f77_exprs.specs.State.{State, Reader, parse_word, or_done, or_else, ◌>>=◌}
use Rattle.f77_exprs.specs.Operators.{relations, equivalences, sums, products}
use Rattle.f77_exprs.specs.Lexical.{name_at, number_first}
use Rattle.f77_exprs.specs.Grammar.{Part, whole, power, Inner, more, chain, comma, more_by, items_by, items, element_at, variable_in, parenthesis, constant_at, literal, primary, exponent, factor, term, signed_terms, signed_term, arithmetic, comparison, relation, negated_relation, negation, conjunction, disjunction, equivalence, part, expression, variable}
use Rattle.f77_exprs.specs.Laws.{inside, IsGrammar}
use Rattle.f77_exprs.proofs.Same.{Within, Same, fixed, weaker, seq, Taken, taken, behind, either, operated, counted}
use Rattle.f77_exprs.proofs.Steady.{name_at-within, number-within, constant_at-within}

abbrev pub Parts : ℕ → Inner → Inner → Type 0
Parts k I J = (p : Part) → Same k (I p) (J p)

word-within : {A : Type 0} (o : Option State) (x : A) (k : ℕ) → Taken o k → Within (o >>= λ t. Some (x, t)) k
word-within None x k h = tt
word-within (Some t) x k h = omega (arith, h)

then_word : {A : Type 0} (b c : ℕ) (w : List ℕ) (x : A) → Same b (λ s. parse_word (c ∷ w) s >>= λ t. Some (x, t)) (λ s. parse_word (c ∷ w) s >>= λ t. Some (x, t))
then_word b c w x = fixed b (λ s. parse_word (c ∷ w) s >>= λ t. Some (x, t)) (λ s. word-within (parse_word (c ∷ w) s) x (length s.rest) (taken c w s))

done : {A : Type 0} (b : ℕ) (x : A) → Same b (λ s. Some (x, s)) (λ s. Some (x, s))
done b x = fixed b (λ s. Some (x, s)) (λ s. omega arith)

parenthesis-same : (k : ℕ) (I J : Inner) → Parts k I J → Same k (parenthesis I) (parenthesis J)
unfolding parenthesis
parenthesis-same k I J x =
    let F : ExprTree → Reader ExprTree = λ a s. parse_word (41 ∷ []) s >>= λ t. Some (paren a, t) in
    seq k (I whole) (J whole) F F (x whole) (λ a. then_word k 41 [] (paren a))

more_by-same : {A : Type 0} (k : ℕ) (R S : Reader A) → Same k R S → (n : ℕ) (found : List A) → Same (k + 1) (more_by comma R n found) (more_by comma S n found)
unfolding more_by
more_by-same k R S x zero found = done (k + 1) found
more_by-same {A = A} k R S x (suc n) found =
    let F : A → Reader (List A) = λ a. more_by comma R n (found ++ a ∷ []) in
    let G : A → Reader (List A) = λ a. more_by comma S n (found ++ a ∷ []) in
    behind k 44 [] found (λ t. R t >>= λ r. F r.0 r.1) (λ t. S t >>= λ r. G r.0 r.1)
    (seq k R S F G x (λ a. weaker k (k + 1) (F a) (G a) (omega arith) (more_by-same k R S x n (found ++ a ∷ []))))

items-same : {A : Type 0} (k : ℕ) (R S : Reader A) → Same k R S → Same k (items R) (items S)
unfolding items_by
items-same {A = A} k R S x =
    let F : A → Reader (List A) = λ a s. more_by comma R (length s.rest) (a ∷ []) s in
    let G : A → Reader (List A) = λ a s. more_by comma S (length s.rest) (a ∷ []) s in
    seq k R S F G x
    (λ a. counted k (λ n. more_by comma R n (a ∷ [])) (λ n. more_by comma S n (a ∷ []))
    (λ n. weaker k (k + 1) (more_by comma R n (a ∷ [])) (more_by comma S n (a ∷ [])) (omega arith) (more_by-same k R S x n (a ∷ []))))

element_at-same : (k : ℕ) (I J : Inner) (n : List ℕ) → Parts k I J → Same k (element_at I n) (element_at J n)
unfolding element_at
element_at-same k I J n x =
    let F : List ExprTree → Reader ExprTree = λ es s. parse_word (41 ∷ []) s >>= λ t. Some (element n (exprs_of es), t) in
    seq k (items (I whole)) (items (J whole)) F F (items-same k (I whole) (J whole) (x whole)) (λ es. then_word k 41 [] (element n (exprs_of es)))

variable-same : (k : ℕ) (I J : Inner) → Parts k I J → Same (k + 1) (variable_in I) (variable_in J)
unfolding variable_in
variable-same k I J x =
    let F : List ℕ → Reader ExprTree = λ n s. or_done (name n) s (parse_word (codes "(") s) (element_at I n) in
    let G : List ℕ → Reader ExprTree = λ n s. or_done (name n) s (parse_word (codes "(") s) (element_at J n) in
    seq (k + 1) name_at name_at F G (fixed (k + 1) name_at name_at-within)
    (λ n. behind k 40 [] (name n) (element_at I n) (element_at J n) (element_at-same k I J n x))

if_at : {A : Type 0} (t : Bool) (r p q : Option A) → p ≡ q → (if t then r else p) ≡ (if t then r else q)
if_at true r p q e = refl
if_at false r p q e = e

if-within : {A : Type 0} (t : Bool) (r p : Option (A × State)) (k : ℕ) → Within r k → Within p k → Within (if t then r else p) k
if-within true r p k h j = h
if-within false r p k h j = j

number_or : (b : ℕ) (P Q : Reader ExprTree) → Same b P Q
    → Same b (λ s. if number_first s.rest then Some (literal s) else P s) (λ s. if number_first s.rest then Some (literal s) else Q s)
number_or b P Q x = record {
  same = λ s h. if_at (number_first s.rest) (Some (literal s)) (P s) (Q s) (x.same s h);
  within = λ s. if-within (number_first s.rest) (Some (literal s)) (P s) (length s.rest) (number-within s) (x.within s);
}

primary-same : (k : ℕ) (I J : Inner) → Parts k I J → Same (k + 1) (primary I) (primary J)
unfolding primary
primary-same k I J x =
    let N : Inner → Reader ExprTree = λ K s. if number_first s.rest then Some (literal s) else variable_in K s in
    let C : Inner → Reader ExprTree = λ K s. or_else (parse_word (39 ∷ []) s) constant_at (N K s) in
    let P : Inner → Reader ExprTree = λ K s. or_else (parse_word (40 ∷ []) s) (parenthesis K) (C K s) in
    let F : Inner → Reader ExprTree = λ K s. or_else (parse_word (46 ∷ 70 ∷ 65 ∷ 76 ∷ 83 ∷ 69 ∷ 46 ∷ []) s) (λ t. Some (log false, t)) (P K s) in
    either k 46 (84 ∷ 82 ∷ 85 ∷ 69 ∷ 46 ∷ []) (λ t. Some (log true, t)) (λ t. Some (log true, t)) (F I) (F J) (done k (log true))
    (either k 46 (70 ∷ 65 ∷ 76 ∷ 83 ∷ 69 ∷ 46 ∷ []) (λ t. Some (log false, t)) (λ t. Some (log false, t)) (P I) (P J) (done k (log false))
    (either k 40 [] (parenthesis I) (parenthesis J) (C I) (C J) (parenthesis-same k I J x)
    (either k 39 [] constant_at constant_at (N I) (N J) (fixed k constant_at constant_at-within)
    (number_or (k + 1) (variable_in I) (variable_in J) (variable-same k I J x)))))

exponent-same : (k : ℕ) (I J : Inner) (base : ExprTree) → Parts k I J → Same (k + 1) (exponent I base) (exponent J base)
unfolding exponent
exponent-same k I J base x =
    let F : ExprTree → Reader ExprTree = λ e s. Some (binary Pow base e, s) in
    behind k 42 (42 ∷ []) base (λ t. I power t >>= λ e. F e.0 e.1) (λ t. J power t >>= λ e. F e.0 e.1)
    (seq k (I power) (J power) F F (x power) (λ e. done k (binary Pow base e)))

factor-same : (k : ℕ) (I J : Inner) → Parts k I J → Same (k + 1) (factor I) (factor J)
unfolding factor
factor-same k I J x = seq (k + 1) (primary I) (primary J) (exponent I) (exponent J) (primary-same k I J x) (λ b. exponent-same k I J b x)

more-same : (b : ℕ) (ops : List BinaryOp) (R S : Reader ExprTree) → Same b R S → (n : ℕ) (l : ExprTree) → Same b (more ops R n l) (more ops S n l)
unfolding more
more-same b ops R S x zero l = done b l
more-same b ops R S x (suc n) l =
    operated b ops l (λ op t. R t >>= λ r. more ops R n (binary op l r.0) r.1) (λ op t. S t >>= λ r. more ops S n (binary op l r.0) r.1)
    (λ op. seq b R S (λ a. more ops R n (binary op l a)) (λ a. more ops S n (binary op l a)) x (λ a. more-same b ops R S x n (binary op l a)))

all_more : (b : ℕ) (ops : List BinaryOp) (R S : Reader ExprTree) → Same b R S → (l : ExprTree)
    → Same b (λ s. more ops R (length s.rest) l s) (λ s. more ops S (length s.rest) l s)
all_more b ops R S x l = counted b (λ n. more ops R n l) (λ n. more ops S n l) (λ n. more-same b ops R S x n l)

chain-same : (b : ℕ) (ops : List BinaryOp) (R S : Reader ExprTree) → Same b R S → Same b (chain ops R) (chain ops S)
unfolding chain
chain-same b ops R S x =
    let F : Reader ExprTree → ExprTree → Reader ExprTree = λ K l s. more ops K (length s.rest) l s in
    seq b R S (F R) (F S) x (all_more b ops R S x)

term-same : (k : ℕ) (I J : Inner) → Parts k I J → Same (k + 1) (term I) (term J)
term-same k I J x = chain-same (k + 1) products (factor I) (factor J) (factor-same k I J x)

signed-same : (k : ℕ) (op : UnaryOp) (I J : Inner) → Parts k I J → Same (k + 1) (signed_terms op I) (signed_terms op J)
unfolding signed_terms
signed-same k op I J x =
    let F : ExprTree → Reader ExprTree = λ t s. Some (unary op t, s) in
    seq (k + 1) (term I) (term J) F F (term-same k I J x) (λ t. done (k + 1) (unary op t))

lower : {A : Type 0} (k : ℕ) (R S : Reader A) → Same (k + 1) R S → Same k R S
lower k R S x = weaker k (k + 1) R S (omega arith) x

signed_term-same : (k : ℕ) (I J : Inner) → Parts k I J → Same (k + 1) (signed_term I) (signed_term J)
unfolding signed_term
signed_term-same k I J x =
    let M : Inner → Reader ExprTree = λ K s. or_else (parse_word (codes "-") s) (signed_terms Minus K) (term K s) in
    either k 43 [] (signed_terms Plus I) (signed_terms Plus J) (M I) (M J) (lower k (signed_terms Plus I) (signed_terms Plus J) (signed-same k Plus I J x))
    (either k 45 [] (signed_terms Minus I) (signed_terms Minus J) (term I) (term J) (lower k (signed_terms Minus I) (signed_terms Minus J) (signed-same k Minus I J x)) (term-same k I J x))

arithmetic-same : (k : ℕ) (I J : Inner) → Parts k I J → Same (k + 1) (arithmetic I) (arithmetic J)
unfolding arithmetic
arithmetic-same k I J x =
    let F : Reader ExprTree → ExprTree → Reader ExprTree = λ K l s. more sums K (length s.rest) l s in
    seq (k + 1) (signed_term I) (signed_term J) (F (term I)) (F (term J)) (signed_term-same k I J x)
    (all_more (k + 1) sums (term I) (term J) (term-same k I J x))

comparison-same : (k : ℕ) (I J : Inner) (l : ExprTree) → Parts k I J → Same (k + 1) (comparison I l) (comparison J l)
unfolding comparison
comparison-same k I J l x =
    let F : BinaryOp → ExprTree → Reader ExprTree = λ op r s. Some (binary op l r, s) in
    operated (k + 1) relations l (λ op t. arithmetic I t >>= λ r. F op r.0 r.1) (λ op t. arithmetic J t >>= λ r. F op r.0 r.1)
    (λ op. seq (k + 1) (arithmetic I) (arithmetic J) (F op) (F op) (arithmetic-same k I J x) (λ r. done (k + 1) (binary op l r)))

relation-same : (k : ℕ) (I J : Inner) → Parts k I J → Same (k + 1) (relation I) (relation J)
unfolding relation
relation-same k I J x = seq (k + 1) (arithmetic I) (arithmetic J) (comparison I) (comparison J) (arithmetic-same k I J x) (λ l. comparison-same k I J l x)

denied-same : (k : ℕ) (I J : Inner) → Parts k I J → Same (k + 1) (negated_relation I) (negated_relation J)
unfolding negated_relation
denied-same k I J x =
    let F : ExprTree → Reader ExprTree = λ r s. Some (unary Not r, s) in
    seq (k + 1) (relation I) (relation J) F F (relation-same k I J x) (λ r. done (k + 1) (unary Not r))

negation-same : (k : ℕ) (I J : Inner) → Parts k I J → Same (k + 1) (negation I) (negation J)
unfolding negation
negation-same k I J x =
    either k 46 (78 ∷ 79 ∷ 84 ∷ 46 ∷ []) (negated_relation I) (negated_relation J) (relation I) (relation J)
    (lower k (negated_relation I) (negated_relation J) (denied-same k I J x)) (relation-same k I J x)

equivalence-same : (k : ℕ) (I J : Inner) → Parts k I J → Same (k + 1) (equivalence I) (equivalence J)
equivalence-same k I J x =
    let c = chain-same (k + 1) (And ∷ []) (negation I) (negation J) (negation-same k I J x) in
    let d = chain-same (k + 1) (Or ∷ []) (conjunction I) (conjunction J) c in
    chain-same (k + 1) equivalences (disjunction I) (disjunction J) d

abbrev pub Steady : {A : Type 0} → Reader A → Type 0
Steady R = (s : State) → Within (R s) (length s.rest)

nothing : {A : Type 0} (R S : Reader A) → Steady R → Same 0 R S
nothing R S w = record { same = λ s h. absurd (omega (arith, h)); within = w }

pub part-steady : (n : ℕ) (p : Part) → Steady (part n p)
unfolding part
part-steady zero p s = tt
part-steady (suc n) whole s = (equivalence-same 0 (part n) (part n) (λ q. nothing (part n q) (part n q) (part-steady n q))).within s
part-steady (suc n) power s = (factor-same 0 (part n) (part n) (λ q. nothing (part n q) (part n q) (part-steady n q))).within s

part-same : (k n m : ℕ) → k ≤ n → k ≤ m → (p : Part) → Same k (part n p) (part m p)
unfolding part
part-same zero n m h j p = nothing (part n p) (part m p) (part-steady n p)
part-same (suc k) zero m h j p = absurd (omega arith)
part-same (suc k) (suc n) zero h j p = absurd (omega arith)
part-same (suc k) (suc n) (suc m) h j whole =
    weaker (suc k) (k + 1) (equivalence (part n)) (equivalence (part m)) (omega arith) (equivalence-same k (part n) (part m) (part-same k n m (omega arith) (omega arith)))
part-same (suc k) (suc n) (suc m) h j power =
    weaker (suc k) (k + 1) (factor (part n)) (factor (part m)) (omega arith) (factor-same k (part n) (part m) (part-same k n m (omega arith) (omega arith)))

pub depth_is_enough : (n m : ℕ) (p : Part) (s : State) → length s.rest < n → length s.rest < m → part n p s ≡ part m p s
depth_is_enough n m p s h j = (part-same (length s.rest + 1) n m (omega arith) (omega arith) p).same s (omega arith)

-- ---- the grammar with no depth in it

unbounded : (k n : ℕ) → k ≤ n → Parts k (part n) inside
unbounded k n h p = record { same = λ s l. depth_is_enough n (length s.rest + 1) p s (omega (arith, h, l)) (omega arith); within = part-steady n p }

whole_is : (s : State) → inside whole s ≡ equivalence inside s
unfolding part
whole_is s = rw add-one ((equivalence-same (length s.rest) (part (length s.rest)) inside (unbounded (length s.rest) (length s.rest) (omega arith))).same s (omega arith))

power_is : (s : State) → inside power s ≡ factor inside s
unfolding part
power_is s = rw add-one ((factor-same (length s.rest) (part (length s.rest)) inside (unbounded (length s.rest) (length s.rest) (omega arith))).same s (omega arith))

expression_is : (s : State) → expression s ≡ inside whole s
unfolding expression
expression_is s = refl

variable_is : (s : State) → variable s ≡ variable_in inside s
unfolding variable
variable_is s = (variable-same (length s.rest) (part (length s.rest + 1)) inside (unbounded (length s.rest) (length s.rest + 1) (omega arith))).same s (omega arith)

pub is_grammar : IsGrammar
is_grammar = record { whole_is = whole_is; power_is = power_is; expression_is = expression_is; variable_is = variable_is }
