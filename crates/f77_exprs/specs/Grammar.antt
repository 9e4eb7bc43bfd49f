-- The grammar of expressions (ANSI X3.9-1978 §6), from what stands closest together to what holds least.
use Rattle.std.specs.Prelude.{ℕ, zero, suc, ◌+◌, List, [], ◌∷◌, ◌++◌, length, Option, Some, None, true, false, if◌then◌else◌, pos, codes}
use Rattle.f77_ast.specs.declared.expr.BinaryOp.{BinaryOp}
use Rattle.f77_ast.specs.declared.expr.BinaryOp.TheVariants.{Pow, And, Or}
use Rattle.f77_ast.specs.declared.expr.UnaryOp.{UnaryOp}
use Rattle.f77_ast.specs.declared.expr.UnaryOp.TheVariants.{Plus, Minus, Not}
use Rattle.f77_ast.specs.Trees.{ExprTree, int, log, name, element, paren, unary, binary, chars}
use Rattle.f77_ast.specs.Plain.{exprs_of}
use Rattle.f77_exprs.specs.declared.operators.Level.{Level}
use Rattle.f77_exprs.specs.declared.operators.Level.TheVariants.{Equivalence, Disjunction, Conjunction, Sum, Product}
use Rattle.f77_exprs.specs.State.{State, Reader, parse_word, or_done, or_else, ◌>>=◌}
use Rattle.f77_exprs.specs.Lexical.{name_at, number, number_first, constant}
use Rattle.f77_exprs.specs.Operators.{one_of, relations, equivalences, sums, products}

-- what may stand inside an expression: a whole one, or what follows `**`
pub data Part : Type 0 where
  whole : Part
  power : Part

abbrev pub Inner : Type 0
Inner = Part → Reader ExprTree

-- ---- operands with operators between them, and lists

-- at most n operators with their operands, behind a left operand: they group from the left
unfoldable pub more : List BinaryOp → Reader ExprTree → ℕ → ExprTree → Reader ExprTree
more ops operand zero left s = Some (left, s)
more ops operand (suc n) left s =
    or_done left s (one_of ops s) (λ o. operand o.1 >>= λ r. more ops operand n (binary o.0 left r.0) r.1)

-- operands with these operators between them
unfoldable pub chain : List BinaryOp → Reader ExprTree → Reader ExprTree
chain ops operand s = operand s >>= λ l. more ops operand (length l.1.rest) l.0 l.1

-- what stands between two items of a list: where the next item begins
abbrev pub Between : Type 0
Between = State → Option State

abbrev pub comma : Between
comma = parse_word (codes ",")

-- at most n further items behind those that were found
unfoldable pub more_by : {A : Type 0} → Between → Reader A → ℕ → List A → Reader (List A)
more_by between one zero found s = Some (found, s)
more_by between one (suc n) found s =
    or_done found s (between s) (λ t. one t >>= λ r. more_by between one n (found ++ r.0 ∷ []) r.1)

-- one or more items
unfoldable pub items_by : {A : Type 0} → Between → Reader A → Reader (List A)
items_by between one s = one s >>= λ e. more_by between one (length e.1.rest) (e.0 ∷ []) e.1

-- one or more items with commas between them
abbrev pub items : {A : Type 0} → Reader A → Reader (List A)
items = items_by comma

-- ---- operands

unfoldable pub element_at : Inner → List ℕ → Reader ExprTree
element_at inner n s = do
  es ← items (inner whole) s
  t ← parse_word (codes ")") es.1
  Some (element n (exprs_of es.0), t)

-- a name, or an element of an array or a call of a function
unfoldable pub variable_in : Inner → Reader ExprTree
variable_in inner s = name_at s >>= λ n. or_done (name n.0) n.1 (parse_word (codes "(") n.1) (element_at inner n.0)

unfoldable pub parenthesis : Inner → Reader ExprTree
parenthesis inner s = do
  e ← inner whole s
  t ← parse_word (codes ")") e.1
  Some (paren e.0, t)

-- a character constant behind its first apostrophe
unfoldable pub constant_at : Reader ExprTree
constant_at s = constant s.rest >>= λ c. Some (chars c.0, record s { rest = c.1 })

abbrev pub literal : State → ExprTree × State
literal s = (int (pos (number s).0), (number s).1)

unfoldable pub primary : Inner → Reader ExprTree
primary inner s =
    or_else (parse_word (codes ".TRUE.") s) (λ t. Some (log true, t))
    (or_else (parse_word (codes ".FALSE.") s) (λ t. Some (log false, t))
    (or_else (parse_word (codes "(") s) (parenthesis inner)
    (or_else (parse_word (codes "'") s) constant_at
    (if number_first s.rest then Some (literal s) else variable_in inner s))))

-- ---- arithmetic

-- what follows a base
unfoldable pub exponent : Inner → ExprTree → Reader ExprTree
exponent inner base s =
    or_done base s (parse_word (codes "**") s) (λ t. inner power t >>= λ e. Some (binary Pow base e.0, e.1))

-- `**` groups from the right
unfoldable pub factor : Inner → Reader ExprTree
factor inner s = primary inner s >>= λ b. exponent inner b.0 b.1

abbrev pub term : Inner → Reader ExprTree
term inner = chain products (factor inner)

-- a term behind a sign
unfoldable pub signed_terms : UnaryOp → Inner → Reader ExprTree
signed_terms op inner s = term inner s >>= λ t. Some (unary op t.0, t.1)

-- a sign stands at the front alone
unfoldable pub signed_term : Inner → Reader ExprTree
signed_term inner s =
    or_else (parse_word (codes "+") s) (signed_terms Plus inner)
    (or_else (parse_word (codes "-") s) (signed_terms Minus inner) (term inner s))

unfoldable pub arithmetic : Inner → Reader ExprTree
arithmetic inner s = signed_term inner s >>= λ l. more sums (term inner) (length l.1.rest) l.0 l.1

-- ---- comparisons and logic

-- what follows the left side of a comparison
unfoldable pub comparison : Inner → ExprTree → Reader ExprTree
comparison inner left s =
    or_done left s (one_of relations s) (λ o. arithmetic inner o.1 >>= λ r. Some (binary o.0 left r.0, r.1))

-- one comparison at most
unfoldable pub relation : Inner → Reader ExprTree
relation inner s = arithmetic inner s >>= λ l. comparison inner l.0 l.1

unfoldable pub negated_relation : Inner → Reader ExprTree
negated_relation inner s = relation inner s >>= λ r. Some (unary Not r.0, r.1)

-- `.NOT.` once at most
unfoldable pub negation : Inner → Reader ExprTree
negation inner s = or_else (parse_word (codes ".NOT.") s) (negated_relation inner) (relation inner s)

abbrev pub conjunction : Inner → Reader ExprTree
conjunction inner = chain (And ∷ []) (negation inner)

abbrev pub disjunction : Inner → Reader ExprTree
disjunction inner = chain (Or ∷ []) (conjunction inner)

abbrev pub equivalence : Inner → Reader ExprTree
equivalence inner = chain equivalences (disjunction inner)

-- ---- the whole

-- at most n parts stand in one another
unfoldable pub part : ℕ → Inner
part zero p s = None
part (suc n) whole s = equivalence (part n) s
part (suc n) power s = factor (part n) s

-- an expression: parts stand in one another at most as often as there are characters
unfoldable pub expression : Reader ExprTree
expression s = part (length s.rest + 1) whole s

-- a name, or an element of an array
unfoldable pub variable : Reader ExprTree
variable s = variable_in (part (length s.rest + 1)) s

-- ---- the levels that are chains

abbrev pub operators_of : Level → List BinaryOp
operators_of Equivalence = equivalences
operators_of Disjunction = Or ∷ []
operators_of Conjunction = And ∷ []
operators_of Sum = sums
operators_of Product = products

abbrev pub operand_of : Level → Inner → Reader ExprTree
operand_of Equivalence = disjunction
operand_of Disjunction = conjunction
operand_of Conjunction = negation
operand_of Sum = term
operand_of Product = factor
