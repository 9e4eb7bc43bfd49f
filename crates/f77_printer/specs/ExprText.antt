-- The text of an expression, without blanks (ANSI X3.9-1978 §6).
use Rattle.std.specs.Prelude.{ℕ, List, [], ◌∷◌, ◌++◌, Bool, true, false, nat_eq, codes, if◌then◌else◌}
use Rattle.std.specs.Fmt.{signed_decimal}
use Rattle.f77_ast.specs.Operators.{unary_word, binary_word}
use Rattle.f77_ast.specs.Trees.{ExprTree, int, log, name, element, paren, unary, binary, chars, ExprTrees, no_exprs, more_exprs}

abbrev pub log_text : Bool → List ℕ
log_text true = codes ".TRUE."
log_text false = codes ".FALSE."

-- a character constant's text: an apostrophe stands twice
abbrev pub doubled : List ℕ → List ℕ
doubled [] = []
doubled (c ∷ cs) = if nat_eq c 39 then 39 ∷ 39 ∷ doubled cs else c ∷ doubled cs

abbrev mutual
  pub expr_text : ExprTree → List ℕ
  expr_text (int n) = signed_decimal n
  expr_text (log b) = log_text b
  expr_text (name n) = n
  expr_text (element f es) = f ++ codes "(" ++ exprs_text es ++ codes ")"
  expr_text (paren e) = codes "(" ++ expr_text e ++ codes ")"
  expr_text (unary op e) = unary_word op ++ expr_text e
  expr_text (binary op a b) = expr_text a ++ binary_word op ++ expr_text b
  expr_text (chars c) = codes "'" ++ doubled c ++ codes "'"

  -- joined by commas
  pub exprs_text : ExprTrees → List ℕ
  exprs_text no_exprs = []
  exprs_text (more_exprs e es) = expr_text e ++ items_text es

  -- each behind a comma
  pub items_text : ExprTrees → List ℕ
  items_text no_exprs = []
  items_text (more_exprs e es) = codes "," ++ expr_text e ++ items_text es
