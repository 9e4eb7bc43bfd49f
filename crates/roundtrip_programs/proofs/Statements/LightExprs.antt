-- The text of an expression that is read weighs no more than what was read.
use Rattle.std.proofs.Common.{◌≡◌, ℕ, zero, suc, ◌+◌, ◌≤◌, List, [], ◌∷◌, length, refl, ap, ◌∙◌, arith, Option, Some, None, Bool, true, false, if◌then◌else◌}
use Rattle.std.specs.Prelude.{codes, option_map}
use Rattle.f77_ast.specs.declared.expr.BinaryOp.{BinaryOp}
use Rattle.f77_ast.specs.declared.expr.BinaryOp.TheVariants.{Pow, And, Or}
use Rattle.f77_ast.specs.declared.expr.UnaryOp.{UnaryOp}
use Rattle.f77_ast.specs.declared.expr.UnaryOp.TheVariants.{Plus, Minus, Not}
use Rattle.f77_ast.specs.Operators.{unary_word, binary_word}
use Rattle.f77_ast.specs.Trees.{ExprTree, log, name, element, paren, unary, binary, chars}
use Rattle.f77_ast.specs.Plain.{exprs_of}
use Rattle.f77_exprs.specs.Words.{after}
use Rattle.f77_exprs.specs.State.{State, Reader, or_done, ◌>>=◌}
use Rattle.f77_exprs.specs.Operators.{one_of, or_other, relations, equivalences, sums, products}
use Rattle.f77_exprs.specs.Lexical.{name_at, number_first, constant}
use Rattle.f77_exprs.specs.Grammar.{whole, power, Inner, items, literal}
use Rattle.f77_exprs.specs.Grammar as grammar
use Rattle.f77_printer.specs.ExprText.{expr_text, doubled}
use Rattle.roundtrip_programs.specs.Statements.Weights.{Weight, weigh}
use Rattle.roundtrip_programs.proofs.Statements.TypedFormed.{splits}
use Rattle.roundtrip_programs.proofs.Statements.StopFormed.{Splits, constant_splits}
use Rattle.roundtrip_programs.proofs.Statements.Weighing.{weigh-append, Within, Light, widen, then_read, then_word, else_word, done_word}
use Rattle.roundtrip_programs.proofs.Statements.LightLists.{parted, ew, exprs_weight, items-light}
use Rattle.roundtrip_programs.proofs.Statements.LightNumbers.{name-light, number_light}

module _ (w : Weight) where
  abbrev LightExpr : Reader ExprTree → Type 0
  LightExpr R = Light w R (ew w)

  -- ---- operators

  abbrev Operated : {B : Type 0} → State → (BinaryOp × State → Option (B × State)) → ℕ → (B → ℕ) → Type 0
  Operated s g e v = (op : BinaryOp) (r : List ℕ) → Within w (g (op, record s { rest = r })) ((e + weigh w (binary_word op)) + weigh w r) v

  other_at : {B : Type 0} (op : BinaryOp) (o : Option (List ℕ)) (others : Option (BinaryOp × State)) (b : B) (s : State) (g : BinaryOp × State → Option (B × State)) (e : ℕ) (v : B → ℕ)
      → after (binary_word op) s.rest ≡ o → Operated s g e v → Within w (or_done b s others g) (e + weigh w s.rest) v
      → Within w (or_done b s (or_other op (option_map (λ r. record s { rest = r }) o) others) g) (e + weigh w s.rest) v
  other_at op None others b s g e v h f x = x
  other_at op (Some r) others b s g e v h f x =
      let q : weigh w s.rest ≡ weigh w (binary_word op) + weigh w r = ap (weigh w) (splits (binary_word op) s.rest r h) ∙ weigh-append w (binary_word op) r in
      widen w (g (op, record s { rest = r })) ((e + weigh w (binary_word op)) + weigh w r) (e + weigh w s.rest) v (omega arith) (f op r)

  -- what was read, or what a reader behind one of these operators makes of it
  operator_at : {B : Type 0} (ops : List BinaryOp) (b : B) (s : State) (g : BinaryOp × State → Option (B × State)) (e : ℕ) (v : B → ℕ) → v b ≤ e → Operated s g e v
      → Within w (or_done b s (one_of ops s) g) (e + weigh w s.rest) v
  operator_at [] b s g e v l f = omega arith
  operator_at (o ∷ os) b s g e v l f = other_at o (after (binary_word o) s.rest) (one_of os s) b s g e v refl f (operator_at os b s g e v l f)

  binary_weight : (op : BinaryOp) (a b : ExprTree) → ew w (binary op a b) ≡ (ew w a + weigh w (binary_word op)) + ew w b
  binary_weight op a b = simp (weigh-append w)

  more-light : (ops : List BinaryOp) (one : Reader ExprTree) → LightExpr one → (n : ℕ) (left : ExprTree) (e : ℕ) (s : State)
      → Within w (grammar.more ops one n left s) ((e + ew w left) + weigh w s.rest) (λ x. e + ew w x)
  unfolding grammar.more
  more-light ops one h zero left e s = omega arith
  more-light ops one h (suc n) left e s =
      operator_at ops left s (λ o. one o.1 >>= λ r. grammar.more ops one n (binary o.0 left r.0) r.1) (e + ew w left) (λ x. e + ew w x) (omega arith)
      (λ op t. then_read w one (ew w) (λ r. grammar.more ops one n (binary op left r.0) r.1) (record s { rest = t }) ((e + ew w left) + weigh w (binary_word op)) (λ x. e + ew w x) h
      (λ r. let p = binary_weight op left r.0 in
      widen w (grammar.more ops one n (binary op left r.0) r.1) ((e + ew w (binary op left r.0)) + weigh w r.1.rest) ((((e + ew w left) + weigh w (binary_word op)) + ew w r.0) + weigh w r.1.rest)
      (λ x. e + ew w x) (omega arith) (more-light ops one h n (binary op left r.0) e r.1)))

  starts-light : (ops : List BinaryOp) (first one : Reader ExprTree) → LightExpr first → LightExpr one → (e : ℕ) (s : State)
      → Within w (first s >>= λ l. grammar.more ops one (length l.1.rest) l.0 l.1) (e + weigh w s.rest) (λ x. e + ew w x)
  starts-light ops first one f h e s =
      then_read w first (ew w) (λ l. grammar.more ops one (length l.1.rest) l.0 l.1) s e (λ x. e + ew w x) f (λ l. more-light ops one h (length l.1.rest) l.0 e l.1)

  chain-light : (ops : List BinaryOp) (one : Reader ExprTree) → LightExpr one → LightExpr (grammar.chain ops one)
  unfolding grammar.chain
  chain-light ops one h e s = starts-light ops one one h h e s

  -- ---- operands

  -- what stands inside
  pub record Inside (I : Inner) : Type 0 where
    pub expressions : LightExpr (I whole)
    pub powers : LightExpr (I power)

  element_weight : (n : List ℕ) (xs : List ExprTree) → ew w (element n (exprs_of xs)) ≡ ((weigh w n + weigh w (codes "(")) + parted (w.of 44) (ew w) xs) + weigh w (codes ")")
  element_weight n xs = simp (weigh-append w) (omega (arith, exprs_weight w xs))

  element-light : (I : Inner) (n : List ℕ) → Inside I → (e : ℕ) (s : State) → Within w (grammar.element_at I n s) (((e + weigh w n) + weigh w (codes "(")) + weigh w s.rest) (λ x. e + ew w x)
  unfolding grammar.element_at
  element-light I n h e s =
      then_read w (items (I whole)) (parted (w.of 44) (ew w)) _ s ((e + weigh w n) + weigh w (codes "(")) (λ x. e + ew w x) (items-light w (I whole) (ew w) h.expressions)
      (λ es. then_word w (codes ")") es.1 _ _ (λ x. e + ew w x) (λ r. omega (arith, element_weight n es.0)))

  pub variable-light : (I : Inner) → Inside I → LightExpr (grammar.variable_in I)
  unfolding grammar.variable_in
  variable-light I h e s =
      then_read w name_at (weigh w) _ s e (λ x. e + ew w x) (name-light w)
      (λ n. done_word w (codes "(") (name n.0) n.1 (grammar.element_at I n.0) (e + weigh w n.0) (λ x. e + ew w x) (omega arith) (λ r. element-light I n.0 h e (record n.1 { rest = r })))

  paren_weight : (x : ExprTree) → ew w (paren x) ≡ (weigh w (codes "(") + ew w x) + weigh w (codes ")")
  paren_weight x = simp (weigh-append w) (omega arith)

  paren-light : (I : Inner) → Inside I → (e : ℕ) (s : State) → Within w (grammar.parenthesis I s) ((e + weigh w (codes "(")) + weigh w s.rest) (λ x. e + ew w x)
  unfolding grammar.parenthesis
  paren-light I h e s =
      then_read w (I whole) (ew w) _ s (e + weigh w (codes "(")) (λ x. e + ew w x) h.expressions
      (λ x. then_word w (codes ")") x.1 _ _ (λ x. e + ew w x) (λ r. omega (arith, paren_weight x.0)))

  chars_weight : (c : List ℕ) → ew w (chars c) ≡ (w.of 39 + weigh w (doubled c)) + w.of 39
  chars_weight c = simp (weigh-append w) (omega arith)

  constant_in : (o : Option (List ℕ × List ℕ)) (s : State) (e : ℕ) → Splits s.rest o
      → Within w (o >>= λ c. Some (chars c.0, record s { rest = c.1 })) ((e + weigh w (codes "'")) + weigh w s.rest) (λ x. e + ew w x)
  constant_in None s e h = tt
  constant_in (Some c) s e h =
      let q : weigh w s.rest ≡ weigh w (doubled c.0) + (w.of 39 + weigh w c.1) = ap (weigh w) h ∙ weigh-append w (doubled c.0) (39 ∷ c.1) in
      omega (arith, chars_weight c.0)

  chars-light : (e : ℕ) (s : State) → Within w (grammar.constant_at s) ((e + weigh w (codes "'")) + weigh w s.rest) (λ x. e + ew w x)
  unfolding grammar.constant_at
  chars-light e s = constant_in (constant s.rest) s e (constant_splits s.rest)

  number_or : (b : Bool) (s : State) (o : Option (ExprTree × State)) (e : ℕ) → number_first s.rest ≡ b → Within w o (e + weigh w s.rest) (λ x. e + ew w x)
      → Within w (if b then Some (literal s) else o) (e + weigh w s.rest) (λ x. e + ew w x)
  number_or true s o e h x = number_light w s e h
  number_or false s o e h x = x

  primary-light : (I : Inner) → Inside I → LightExpr (grammar.primary I)
  unfolding grammar.primary
  primary-light I h e s =
      else_word w (codes ".TRUE.") s (λ t. Some (log true, t)) _ e (λ x. e + ew w x) (λ r. omega arith)
      (else_word w (codes ".FALSE.") s (λ t. Some (log false, t)) _ e (λ x. e + ew w x) (λ r. omega arith)
      (else_word w (codes "(") s (grammar.parenthesis I) _ e (λ x. e + ew w x) (λ r. paren-light I h e (record s { rest = r }))
      (else_word w (codes "'") s grammar.constant_at _ e (λ x. e + ew w x) (λ r. chars-light e (record s { rest = r }))
      (number_or (number_first s.rest) s (grammar.variable_in I s) e refl (variable-light I h e s)))))

  -- ---- arithmetic

  exponent-light : (I : Inner) (b : ExprTree) → Inside I → (e : ℕ) (s : State) → Within w (grammar.exponent I b s) ((e + ew w b) + weigh w s.rest) (λ x. e + ew w x)
  unfolding grammar.exponent
  exponent-light I b h e s =
      done_word w (codes "**") b s (λ t. I power t >>= λ x. Some (binary Pow b x.0, x.1)) (e + ew w b) (λ x. e + ew w x) (omega arith)
      (λ r. then_read w (I power) (ew w) _ (record s { rest = r }) ((e + ew w b) + weigh w (codes "**")) (λ x. e + ew w x) h.powers (λ x. omega (arith, binary_weight Pow b x.0)))

  factor-light : (I : Inner) → Inside I → LightExpr (grammar.factor I)
  unfolding grammar.factor
  factor-light I h e s = then_read w (grammar.primary I) (ew w) (λ b. grammar.exponent I b.0 b.1) s e (λ x. e + ew w x) (primary-light I h) (λ b. exponent-light I b.0 h e b.1)

  term-light : (I : Inner) → Inside I → LightExpr (grammar.term I)
  term-light I h = chain-light products (grammar.factor I) (factor-light I h)

  unary_weight : (op : UnaryOp) (x : ExprTree) → ew w (unary op x) ≡ weigh w (unary_word op) + ew w x
  unary_weight op x = weigh-append w (unary_word op) (expr_text x)

  signed-light : (I : Inner) (op : UnaryOp) → Inside I → (e : ℕ) (s : State) → Within w (grammar.signed_terms op I s) ((e + weigh w (unary_word op)) + weigh w s.rest) (λ x. e + ew w x)
  unfolding grammar.signed_terms
  signed-light I op h e s =
      then_read w (grammar.term I) (ew w) (λ t. Some (unary op t.0, t.1)) s (e + weigh w (unary_word op)) (λ x. e + ew w x) (term-light I h) (λ t. omega (arith, unary_weight op t.0))

  signed_term-light : (I : Inner) → Inside I → LightExpr (grammar.signed_term I)
  unfolding grammar.signed_term
  signed_term-light I h e s =
      else_word w (codes "+") s (grammar.signed_terms Plus I) _ e (λ x. e + ew w x) (λ r. signed-light I Plus h e (record s { rest = r }))
      (else_word w (codes "-") s (grammar.signed_terms Minus I) _ e (λ x. e + ew w x) (λ r. signed-light I Minus h e (record s { rest = r })) (term-light I h e s))

  arithmetic-light : (I : Inner) → Inside I → LightExpr (grammar.arithmetic I)
  unfolding grammar.arithmetic
  arithmetic-light I h e s = starts-light sums (grammar.signed_term I) (grammar.term I) (signed_term-light I h) (term-light I h) e s

  -- ---- comparisons and logic

  comparison-light : (I : Inner) (left : ExprTree) → Inside I → (e : ℕ) (s : State) → Within w (grammar.comparison I left s) ((e + ew w left) + weigh w s.rest) (λ x. e + ew w x)
  unfolding grammar.comparison
  comparison-light I left h e s =
      operator_at relations left s (λ o. grammar.arithmetic I o.1 >>= λ r. Some (binary o.0 left r.0, r.1)) (e + ew w left) (λ x. e + ew w x) (omega arith)
      (λ op t. then_read w (grammar.arithmetic I) (ew w) (λ r. Some (binary op left r.0, r.1)) (record s { rest = t }) ((e + ew w left) + weigh w (binary_word op)) (λ x. e + ew w x) (arithmetic-light I h)
      (λ r. omega (arith, binary_weight op left r.0)))

  relation-light : (I : Inner) → Inside I → LightExpr (grammar.relation I)
  unfolding grammar.relation
  relation-light I h e s =
      then_read w (grammar.arithmetic I) (ew w) (λ l. grammar.comparison I l.0 l.1) s e (λ x. e + ew w x) (arithmetic-light I h) (λ l. comparison-light I l.0 h e l.1)

  denied-light : (I : Inner) → Inside I → (e : ℕ) (s : State) → Within w (grammar.negated_relation I s) ((e + weigh w (codes ".NOT.")) + weigh w s.rest) (λ x. e + ew w x)
  unfolding grammar.negated_relation
  denied-light I h e s =
      then_read w (grammar.relation I) (ew w) (λ r. Some (unary Not r.0, r.1)) s (e + weigh w (codes ".NOT.")) (λ x. e + ew w x) (relation-light I h) (λ r. omega (arith, unary_weight Not r.0))

  negation-light : (I : Inner) → Inside I → LightExpr (grammar.negation I)
  unfolding grammar.negation
  negation-light I h e s = else_word w (codes ".NOT.") s (grammar.negated_relation I) _ e (λ x. e + ew w x) (λ r. denied-light I h e (record s { rest = r })) (relation-light I h e s)

  equivalence-light : (I : Inner) → Inside I → LightExpr (grammar.equivalence I)
  equivalence-light I h =
      chain-light equivalences (grammar.disjunction I) (chain-light (Or ∷ []) (grammar.conjunction I) (chain-light (And ∷ []) (grammar.negation I) (negation-light I h)))

  -- ---- the whole

  part-light : (n : ℕ) → Inside (grammar.part n)
  unfolding grammar.part
  part-light zero = record { expressions = λ e s. tt; powers = λ e s. tt }
  part-light (suc n) = record { expressions = equivalence-light (grammar.part n) (part-light n); powers = factor-light (grammar.part n) (part-light n) }

  pub expression_light : LightExpr grammar.expression
  unfolding grammar.expression
  expression_light e s = (part-light (length s.rest + 1)).expressions e s

  pub variable_light : LightExpr grammar.variable
  unfolding grammar.variable
  variable_light e s = variable-light (grammar.part (length s.rest + 1)) (part-light (length s.rest + 1)) e s
