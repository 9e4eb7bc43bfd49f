-- The right side of an assignment is read back: an expression, or a function without actual arguments, which is no expression.
use Rattle.std.proofs.Common.{◌≡◌, ℕ, List, [], ◌∷◌, ◌++◌, length, refl, ap, ◌∙◌, Option, Some, None}
use Rattle.std.specs.Prelude.{codes}
use Rattle.f77_ast.specs.declared.expr.BinaryOp.{BinaryOp}
use Rattle.f77_ast.specs.declared.expr.BinaryOp.TheVariants.{And, Or}
use Rattle.f77_ast.specs.Trees.{ExprTree, name, element, no_exprs}
use Rattle.f77_ast.specs.Plain.{exprs_of}
use Rattle.f77_exprs.specs.declared.at.Notes.{Notes}
use Rattle.f77_exprs.specs.Words.{after}
use Rattle.f77_exprs.specs.State.{State, Reader, parse_word, or_done, ◌>>=◌}
use Rattle.f77_exprs.specs.Lexical.{name_at}
use Rattle.f77_exprs.specs.Operators.{equivalences, sums, products}
use Rattle.f77_exprs.specs.Grammar.{whole, comma, more, chain, more_by, items_by, element_at, variable_in, primary, exponent, factor, term, signed_term, arithmetic, comparison, relation, negation, conjunction, disjunction, expression}
use Rattle.f77_exprs.specs.Laws.{inside}
use Rattle.f77_exprs.proofs.Depth.{is_grammar}
use Rattle.f77_statements.specs.Executables.{at_end, or_other, empty_call, right_side}
use Rattle.f77_printer.specs.ExprText.{expr_text}
use Rattle.roundtrip_programs.specs.Statements.Formed.{IsName}
use Rattle.roundtrip_programs.specs.Statements.Phrased.{IsRight, value}
use Rattle.roundtrip_programs.specs.Statements.Phrased as phrased
use Rattle.roundtrip_programs.specs.Statements.Follows.{standing}
use Rattle.roundtrip_programs.proofs.Statements.Names.{name-back}
use Rattle.roundtrip_programs.proofs.Statements.Behind.{BehindEquivalence}
use Rattle.roundtrip_programs.proofs.Statements.Behind as behind
use Rattle.roundtrip_programs.proofs.Statements.Fronts.{name_front}
use Rattle.roundtrip_programs.proofs.Statements.Operands.{by_name}
use Rattle.roundtrip_programs.proofs.Statements.Expressions.{expression-back}
use Rattle.roundtrip_programs.proofs.Statements.ListsBack.{back_end}
use Rattle.roundtrip_programs.proofs.Statements.Compact.{empty_text}

-- ---- what does not begin with an operand is no expression

chain_none : (ops : List BinaryOp) (operand : Reader ExprTree) (s : State) → operand s ≡ None → chain ops operand s ≡ None
unfolding chain
chain_none ops operand s h = ap (λ (o : Option (ExprTree × State)). o >>= λ l. more ops operand (length l.1.rest) l.0 l.1) h

none_whole : (x : List ℕ) (k : Notes) → after (codes "+") x ≡ None → after (codes "-") x ≡ None → after (codes ".NOT.") x ≡ None → primary inside (standing x k) ≡ None
    → inside whole (standing x k) ≡ None
unfolding factor signed_term arithmetic relation negation
none_whole x k p m d h =
    let s : State = standing x k in
    let f : factor inside s ≡ None = ap (λ (o : Option (ExprTree × State)). o >>= λ b. exponent inside b.0 b.1) h in
    let t : term inside s ≡ None = chain_none products (factor inside) s f in
    let g : signed_term inside s ≡ None = rw (p, m) t in
    let a : arithmetic inside s ≡ None = ap (λ (o : Option (ExprTree × State)). o >>= λ l. more sums (term inside) (length l.1.rest) l.0 l.1) g in
    let r : relation inside s ≡ None = ap (λ (o : Option (ExprTree × State)). o >>= λ l. comparison inside l.0 l.1) a in
    let n : negation inside s ≡ None = rw d r in
    is_grammar.whole_is s
    ∙ chain_none equivalences (disjunction inside) s (chain_none (Or ∷ []) (conjunction inside) s (chain_none (And ∷ []) (negation inside) s n))

no_primary : (t : List ℕ) (k : Notes) → primary inside (standing (41 ∷ t) k) ≡ None
unfolding primary variable_in name_at
no_primary t k = refl

none_at_close : (t : List ℕ) (k : Notes) → inside whole (standing (41 ∷ t) k) ≡ None
none_at_close t k = none_whole (41 ∷ t) k refl refl refl (no_primary t k)

-- ---- a function without actual arguments

no_items : (n : List ℕ) (k : Notes) → element_at inside n (standing (codes ")") k) ≡ None
unfolding element_at items_by
no_items n k =
    ap (λ (o : Option (ExprTree × State)). (o >>= λ e. more_by comma (inside whole) (length e.1.rest) (e.0 ∷ []) e.1) >>= λ es. parse_word (codes ")") es.1 >>= λ t. Some (element n (exprs_of es.0), t))
    (none_at_close [] k)

no_operand : (n : List ℕ) (k : Notes) → IsName n → primary inside (standing (n ++ codes "()") k) ≡ None
unfolding variable_in
no_operand n k h =
    by_name n (codes "()") k h
    ∙ ap (λ (x : Option (List ℕ × State)). x >>= λ r. or_done (name r.0) r.1 (parse_word (codes "(") r.1) (element_at inside r.0)) (name-back n (codes "()") k h refl)
    ∙ no_items n k

no_expression : (n : List ℕ) (k : Notes) → IsName n → expression (standing (n ++ codes "()") k) ≡ None
no_expression n k h =
    let f = name_front n h in
    is_grammar.expression_is (standing (n ++ codes "()") k)
    ∙ none_whole (n ++ codes "()") k (f.plus (codes "()")) (f.minus (codes "()")) (f.plain.denial (codes "()")) (no_operand n k h)

call_back : (n : List ℕ) (k : Notes) → IsName n → right_side (standing (n ++ codes "()") k) ≡ Some (element n no_exprs, standing [] k)
unfolding right_side empty_call
call_back n k h =
    ap (λ (o : Option (ExprTree × State)). or_other o (empty_call (standing (n ++ codes "()") k))) (no_expression n k h)
    ∙ ap (λ (o : Option (List ℕ × State)). o >>= λ n. parse_word (codes "()") n.1 >>= λ t. at_end (element n.0 no_exprs) t t.rest) (name-back n (codes "()") k h refl)

-- ---- each right side

pub right_back : {e : ExprTree} → IsRight e → (k : Notes) → right_side (standing (expr_text e) k) ≡ Some (e, standing [] k)
unfolding right_side
right_back (value e f) k =
    ap (λ (o : Option (ExprTree × State)). or_other o (empty_call (standing (expr_text e) k))) (back_end expression (expr_text e) e BehindEquivalence (expression-back e f) behind.at_end k)
right_back (phrased.empty_call n h) k = ap (λ (x : List ℕ). right_side (standing x k)) (empty_text n) ∙ call_back n k h
