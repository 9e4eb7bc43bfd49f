-- The trees of expressions that the grammar gives (ANSI X3.9-1978 §6).
use Rattle.std.specs.Prelude.{◌≡◌, ℕ, ◌<◌, ◌≤◌, List, [], ◌∷◌, length, Bool, true, pos}
use Rattle.f77_ast.specs.declared.expr.BinaryOp.{BinaryOp}
use Rattle.f77_ast.specs.declared.expr.BinaryOp.TheVariants.{Add, Sub, Mul, Div, Pow, Eq, Ne, Lt, Le, Gt, Ge, And, Or, Eqv, Neqv}
use Rattle.f77_ast.specs.declared.expr.UnaryOp.{UnaryOp}
use Rattle.f77_ast.specs.declared.expr.UnaryOp.TheVariants.{Plus, Minus, Not}
use Rattle.f77_ast.specs.Trees.{ExprTree, int, log, name, element, paren, unary, binary, chars, ExprTrees, no_exprs, more_exprs}
use Rattle.f77_exprs.specs.Lexical.{letter_first, skip_name}

-- a letter, and letters, digits and `_` behind it: at most 31 characters
pub record IsName (n : List ℕ) : Type 0 where
  pub letter : letter_first n ≡ true
  pub whole : skip_name n ≡ []
  pub short : length n ≤ 31

-- P holds of each
abbrev pub Each : {A : Type 0} → (A → Type 0) → List A → Type 0
Each P [] = Unit {0}
Each P (x ∷ xs) = record { first : P x; others : Each P xs }

-- P holds of each, and there is one
abbrev pub Filled : {A : Type 0} → (A → Type 0) → List A → Type 0
Filled P [] = ⊥
Filled P (x ∷ xs) = record { first : P x; others : Each P xs }

-- what an expression is by its outermost operator, from what holds least
pub data Rank : Type 0 where
  of_equivalence : Rank
  of_disjunction : Rank
  of_conjunction : Rank
  of_negation : Rank
  of_comparison : Rank
  of_sum : Rank
  of_product : Rank
  of_power : Rank
  of_operand : Rank

-- the operators of each rank
abbrev pub IsEquivalence : BinaryOp → Type 0
IsEquivalence Eqv = Unit {0}
IsEquivalence Neqv = Unit {0}
IsEquivalence _ = ⊥

abbrev pub IsComparison : BinaryOp → Type 0
IsComparison Eq = Unit {0}
IsComparison Ne = Unit {0}
IsComparison Lt = Unit {0}
IsComparison Le = Unit {0}
IsComparison Gt = Unit {0}
IsComparison Ge = Unit {0}
IsComparison _ = ⊥

abbrev pub IsSum : BinaryOp → Type 0
IsSum Add = Unit {0}
IsSum Sub = Unit {0}
IsSum _ = ⊥

abbrev pub IsProduct : BinaryOp → Type 0
IsProduct Mul = Unit {0}
IsProduct Div = Unit {0}
IsProduct _ = ⊥

-- the two signs
abbrev pub IsSign : UnaryOp → Type 0
IsSign Plus = Unit {0}
IsSign Minus = Unit {0}
IsSign Not = ⊥

mutual
  -- the tree has this rank or holds more tightly: operators of one rank group from the left, and `**` from the right
  pub data Formed : Rank → ExprTree → Type 0 where
    number : (n : ℕ) → n < 2147483648 → Formed of_operand (int (pos n))
    logical : (b : Bool) → Formed of_operand (log b)
    constant : (c : List ℕ) → Formed of_operand (chars c)
    scalar : (n : List ℕ) → IsName n → Formed of_operand (name n)
    indexed : (n : List ℕ) (e : ExprTree) (es : ExprTrees) → IsName n → Formed of_equivalence e → AllFormed es → Formed of_operand (element n (more_exprs e es))
    enclosed : (e : ExprTree) → Formed of_equivalence e → Formed of_operand (paren e)
    operand : (e : ExprTree) → Formed of_operand e → Formed of_power e
    raised : (a b : ExprTree) → Formed of_operand a → Formed of_power b → Formed of_power (binary Pow a b)
    factor : (e : ExprTree) → Formed of_power e → Formed of_product e
    multiplied : (op : BinaryOp) (a b : ExprTree) → IsProduct op → Formed of_product a → Formed of_power b → Formed of_product (binary op a b)
    term : (e : ExprTree) → Formed of_product e → Formed of_sum e
    signed : (op : UnaryOp) (e : ExprTree) → IsSign op → Formed of_product e → Formed of_sum (unary op e)
    added : (op : BinaryOp) (a b : ExprTree) → IsSum op → Formed of_sum a → Formed of_product b → Formed of_sum (binary op a b)
    arithmetic : (e : ExprTree) → Formed of_sum e → Formed of_comparison e
    compared : (op : BinaryOp) (a b : ExprTree) → IsComparison op → Formed of_sum a → Formed of_sum b → Formed of_comparison (binary op a b)
    asserted : (e : ExprTree) → Formed of_comparison e → Formed of_negation e
    denied : (e : ExprTree) → Formed of_comparison e → Formed of_negation (unary Not e)
    conjunct : (e : ExprTree) → Formed of_negation e → Formed of_conjunction e
    both : (a b : ExprTree) → Formed of_conjunction a → Formed of_negation b → Formed of_conjunction (binary And a b)
    disjunct : (e : ExprTree) → Formed of_conjunction e → Formed of_disjunction e
    either : (a b : ExprTree) → Formed of_disjunction a → Formed of_conjunction b → Formed of_disjunction (binary Or a b)
    side : (e : ExprTree) → Formed of_disjunction e → Formed of_equivalence e
    equated : (op : BinaryOp) (a b : ExprTree) → IsEquivalence op → Formed of_equivalence a → Formed of_disjunction b → Formed of_equivalence (binary op a b)

  -- each of these trees is an expression
  pub data AllFormed : ExprTrees → Type 0 where
    none : AllFormed no_exprs
    more : (e : ExprTree) (es : ExprTrees) → Formed of_equivalence e → AllFormed es → AllFormed (more_exprs e es)

-- an expression
abbrev pub IsExpression : ExprTree → Type 0
IsExpression = Formed of_equivalence

-- a name, or an element of an array
abbrev pub IsVariable : ExprTree → Type 0
IsVariable (name n) = IsName n
IsVariable (element n (more_exprs e es)) = record { name : IsName n; first : Formed of_equivalence e; others : AllFormed es }
IsVariable (element n no_exprs) = ⊥
IsVariable (int n) = ⊥
IsVariable (log b) = ⊥
IsVariable (paren e) = ⊥
IsVariable (unary op e) = ⊥
IsVariable (binary op a b) = ⊥
IsVariable (chars c) = ⊥
