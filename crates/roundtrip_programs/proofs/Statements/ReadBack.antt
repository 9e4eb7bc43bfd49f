-- The text of a tree that is formed as the grammar says is read as that tree: by induction on how it is formed.
use Rattle.std.proofs.Common.{◌≡◌, ℕ, List, [], ◌∷◌, ◌++◌, refl, ◌∙◌, Some}
use Rattle.f77_ast.specs.declared.expr.BinaryOp.{BinaryOp}
use Rattle.f77_ast.specs.declared.expr.BinaryOp.TheVariants.{And, Or}
use Rattle.f77_ast.specs.Operators.{binary_word}
use Rattle.f77_ast.specs.Trees.{ExprTree, unary, binary, ExprTrees}
use Rattle.f77_exprs.specs.declared.at.Notes.{Notes}
use Rattle.f77_exprs.specs.State.{State, Reader}
use Rattle.f77_exprs.specs.Operators.{one_of, equivalences, sums, products}
use Rattle.f77_exprs.specs.Grammar.{whole, primary, term, signed_term, relation, negation, conjunction, disjunction, equivalence}
use Rattle.f77_exprs.specs.Grammar as grammar
use Rattle.f77_exprs.specs.Laws.{inside}
use Rattle.f77_exprs.proofs.Depth.{is_grammar}
use Rattle.f77_printer.specs.ExprText.{expr_text}
use Rattle.roundtrip_programs.specs.Statements.Formed.{IsName, Rank, of_equivalence, of_disjunction, of_conjunction, of_negation, of_comparison, of_sum, of_product, of_power, of_operand, Formed, number, logical, constant, scalar, indexed, enclosed, operand, raised, factor, multiplied, signed, added, arithmetic, compared, asserted, denied, conjunct, both, disjunct, either, side, equated, AllFormed, none, more}
use Rattle.roundtrip_programs.specs.Statements.Formed as formed
use Rattle.roundtrip_programs.specs.Statements.Follows.{standing}
use Rattle.roundtrip_programs.proofs.Statements.Behind.{Calm, BehindPower, BehindProduct, BehindSum, BehindComparison, BehindConjunction, BehindDisjunction, product_behind, sum_behind, and_behind, or_behind, equivalence_behind}
use Rattle.roundtrip_programs.proofs.Statements.Fronts.{fronted}
use Rattle.roundtrip_programs.proofs.Statements.Turns.{Back, Reaches, Starts, starts_with, chain_is, read_as, goes_on, comes_to}
use Rattle.roundtrip_programs.specs.Statements.Formed.{Each}
use Rattle.roundtrip_programs.proofs.Statements.Operands.{number_operand, log_operand, chars_operand, name_variable, paren_operand, by_name, list_of, Whole, element_operand}
use Rattle.roundtrip_programs.proofs.Statements.Levels.{product_word, sum_word, equivalence_word, word_length, factor_operand, factor_raised, unsigned_term, term_signed, relation_alone, relation_compared, negation_alone, negation_denied}

-- a text is read up to where its operators, or others of their rank, go on
abbrev Opens : Reader ExprTree → List BinaryOp → Reader ExprTree → (List ℕ → Type 0) → ExprTree → Type 0
Opens R ops one Stops e = (t : List ℕ) (k : Notes) → Stops t → Reaches R ops one (expr_text e) e t k

-- what reading does with the text of a tree of this rank
abbrev Reads : Rank → ExprTree → Type 0
Reads of_operand e = Back (primary inside) (expr_text e) e Calm
Reads of_power e = Back (grammar.factor inside) (expr_text e) e BehindPower
Reads of_product e = Opens (term inside) products (grammar.factor inside) BehindPower e
Reads of_sum e = Opens (grammar.arithmetic inside) sums (term inside) BehindProduct e
Reads of_comparison e = Back (relation inside) (expr_text e) e BehindComparison
Reads of_negation e = Back (negation inside) (expr_text e) e BehindComparison
Reads of_conjunction e = Opens (conjunction inside) (And ∷ []) (negation inside) BehindComparison e
Reads of_disjunction e = Opens (disjunction inside) (Or ∷ []) (conjunction inside) BehindConjunction e
Reads of_equivalence e = Opens (equivalence inside) equivalences (disjunction inside) BehindDisjunction e

-- ---- where no operator goes on, the whole text is read

term_back : (e : ExprTree) → Reads of_product e → Back (term inside) (expr_text e) e BehindProduct
term_back e x t k h = comes_to (term inside) products (grammar.factor inside) (expr_text e) e t k (x t k h.power) (h.free k)

arithmetic_back : (e : ExprTree) → Reads of_sum e → Back (grammar.arithmetic inside) (expr_text e) e BehindSum
arithmetic_back e x t k h = comes_to (grammar.arithmetic inside) sums (term inside) (expr_text e) e t k (x t k h.product) (h.free k)

conjunction_back : (e : ExprTree) → Reads of_conjunction e → Back (conjunction inside) (expr_text e) e BehindConjunction
conjunction_back e x t k h = comes_to (conjunction inside) (And ∷ []) (negation inside) (expr_text e) e t k (x t k h.comparison) (h.free k)

disjunction_back : (e : ExprTree) → Reads of_disjunction e → Back (disjunction inside) (expr_text e) e BehindDisjunction
disjunction_back e x t k h = comes_to (disjunction inside) (Or ∷ []) (conjunction inside) (expr_text e) e t k (x t k h.conjunction) (h.free k)

pub whole_back : (e : ExprTree) → Reads of_equivalence e → Whole e
whole_back e x t k h =
    is_grammar.whole_is (standing (expr_text e ++ t) k)
    ∙ comes_to (equivalence inside) equivalences (disjunction inside) (expr_text e) e t k (x t k h.disjunction) (h.free k)

-- ---- the first operand, and one operator more

chain_opens : (ops : List BinaryOp) (one : Reader ExprTree) (Stops : List ℕ → Type 0) (e : ExprTree) → Back one (expr_text e) e Stops → Opens (grammar.chain ops one) ops one Stops e
chain_opens ops one Stops e x t k h =
    read_as (grammar.chain ops one) (Starts one ops one) ops one (expr_text e) e t k (chain_is ops one) (starts_with one ops one (expr_text e) e t k (x t k h))

sum_is : (s : State) → grammar.arithmetic inside s ≡ Starts (signed_term inside) sums (term inside) s
unfolding grammar.arithmetic
sum_is s = refl

sum_opens : (e : ExprTree) → Back (signed_term inside) (expr_text e) e BehindProduct → Reads of_sum e
sum_opens e x t k h =
    read_as (grammar.arithmetic inside) (Starts (signed_term inside) sums (term inside)) sums (term inside) (expr_text e) e t k sum_is
    (starts_with (signed_term inside) sums (term inside) (expr_text e) e t k (x t k h))

one_more : (R one : Reader ExprTree) (ops : List BinaryOp) (op : BinaryOp) (a b : ExprTree) (Stops Ends : List ℕ → Type 0)
    → Opens R ops one Stops a → Back one (expr_text b) b Ends → ((t : List ℕ) → Stops (binary_word op ++ (expr_text b ++ t))) → ((t : List ℕ) → Stops t → Ends t)
    → ((u : List ℕ) (k : Notes) → one_of ops (standing (binary_word op ++ u) k) ≡ Some (op, standing u k)) → Opens R ops one Stops (binary op a b)
one_more R one ops op a b Stops Ends x y s i w t k h =
    goes_on R ops one (expr_text a) (binary_word op) (expr_text b) a b op t k (x (binary_word op ++ (expr_text b ++ t)) k (s t)) (word_length op) (w (expr_text b ++ t) k) (y t k (i t h))

-- ---- the induction

mutual
  pub read_back : {r : Rank} {e : ExprTree} → Formed r e → Reads r e
  read_back (number n h) = number_operand n h
  read_back (logical b) = log_operand b
  read_back (constant c) = chars_operand c
  read_back (scalar n h) = λ t k c. by_name n t k h ∙ name_variable n h t k c
  read_back (indexed n e es h f fs) = element_operand n e es h (whole_back e (read_back f)) (all_back fs)
  read_back (enclosed e f) = paren_operand e (whole_back e (read_back f))
  read_back (operand e f) = factor_operand e (read_back f)
  read_back (raised a b f g) = factor_raised a b (read_back f) (read_back g)
  read_back (factor e f) = chain_opens products (grammar.factor inside) BehindPower e (read_back f)
  read_back (multiplied op a b h f g) =
      one_more (term inside) (grammar.factor inside) products op a b BehindPower BehindPower (read_back f) (read_back g)
      (λ t. product_behind op (expr_text b ++ t) h ((fronted g).plain.bare.star t)) (λ t i. i) (λ u k. product_word op u k h)
  read_back (formed.term e f) = sum_opens e (unsigned_term e (fronted f) (term_back e (read_back f)))
  read_back (signed op e h f) = sum_opens (unary op e) (term_signed op e h (term_back e (read_back f)))
  read_back (added op a b h f g) =
      one_more (grammar.arithmetic inside) (term inside) sums op a b BehindProduct BehindProduct (read_back f) (term_back b (read_back g))
      (λ t. sum_behind op (expr_text b ++ t) h) (λ t i. i) (λ u k. sum_word op u k h)
  read_back (arithmetic e f) = relation_alone e (arithmetic_back e (read_back f))
  read_back (compared op a b h f g) = relation_compared op a b h (arithmetic_back a (read_back f)) (arithmetic_back b (read_back g))
  read_back (asserted e f) = negation_alone e (fronted f) (read_back f)
  read_back (denied e f) = negation_denied e (read_back f)
  read_back (conjunct e f) = chain_opens (And ∷ []) (negation inside) BehindComparison e (read_back f)
  read_back (both a b f g) =
      one_more (conjunction inside) (negation inside) (And ∷ []) And a b BehindComparison BehindComparison (read_back f) (read_back g)
      (λ t. and_behind (expr_text b ++ t)) (λ t i. i) (λ u k. refl)
  read_back (disjunct e f) = chain_opens (Or ∷ []) (conjunction inside) BehindConjunction e (conjunction_back e (read_back f))
  read_back (either a b f g) =
      one_more (disjunction inside) (conjunction inside) (Or ∷ []) Or a b BehindConjunction BehindConjunction (read_back f) (conjunction_back b (read_back g))
      (λ t. or_behind (expr_text b ++ t)) (λ t i. i) (λ u k. refl)
  read_back (side e f) = chain_opens equivalences (disjunction inside) BehindDisjunction e (disjunction_back e (read_back f))
  read_back (equated op a b h f g) =
      one_more (equivalence inside) (disjunction inside) equivalences op a b BehindDisjunction BehindDisjunction (read_back f) (disjunction_back b (read_back g))
      (λ t. equivalence_behind op (expr_text b ++ t) h) (λ t i. i) (λ u k. equivalence_word op u k h)

  pub all_back : {es : ExprTrees} → AllFormed es → Each Whole (list_of es)
  all_back none = tt
  all_back (more e es f fs) = record { first = whole_back e (read_back f); others = all_back fs }
