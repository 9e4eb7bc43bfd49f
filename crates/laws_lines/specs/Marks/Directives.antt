-- How the directives of a text are read: those of OpenMP in fixed source form (OpenMP Application Program Interface 3.1), of which PARALLEL DO is known here.
use Rattle.std.specs.Prelude.{ℕ, ◌+◌, Bool, false, not, ◌&&◌, if◌then◌else◌, List, [], ◌∷◌, ◌++◌, map, drop, nat_eq, Option, Some, None, option_map, bytes_eq, codes}
use Rattle.std.specs.List.{list_all, starts_with}
use Rattle.fixed_form.specs.Characters.{upper_case}
use Rattle.fixed_form.specs.TextLines.{text_lines}
use Rattle.fixed_form.specs.Cards.{has_comment_mark, card, field, columns, is_initial}
use Rattle.fixed_form.specs.Body.{stripped}
use Rattle.system_text.specs.Reading.{Bytes, ◌>>=◌, comma, after, cut, pieces}
use Rattle.system_text.specs.Printed.{is_name}
use Rattle.result_lines.specs.declared.reduction.ReduceOp.{ReduceOp}
use Rattle.result_lines.specs.declared.reduction.ReduceOp.TheVariants.{Sum, Max, Min, And, Or}

-- ---- lines

-- a line for compilers: a comment with $ in column 2
abbrev pub is_sentinel : Bytes → Bool
is_sentinel line = has_comment_mark line && starts_with nat_eq (drop 1 line) (codes "$")

-- C$OMP in columns 1 to 5
abbrev pub is_openmp : Bytes → Bool
is_openmp line = bytes_eq (map upper_case (drop 1 (field (card line)))) (codes "$OMP")

-- columns 7 to 72 of continuation lines
abbrev pub more_columns : List Bytes → Option Bytes
more_columns [] = Some []
more_columns (l ∷ ls) = if is_openmp l && not (is_initial (card l)) then option_map (λ (t : Bytes). columns (card l) ++ t) (more_columns ls) else None

-- the text of a directive, read as that of a statement is: an initial line, and continuation lines behind it
abbrev pub text_of : List Bytes → Option Bytes
text_of [] = None
text_of (l ∷ ls) = if is_openmp l && is_initial (card l) then option_map (λ (t : Bytes). stripped false (columns (card l) ++ t)) (more_columns ls) else None

-- ---- what they say

-- a REDUCTION clause (OpenMP 3.1, 2.9.3.6): the operator, and the variable in which the iterations accumulate
pub record Clause : Type 0 where
  pub op : ReduceOp
  pub name : Bytes

-- the names of which each iteration has its own copy, and the REDUCTION clauses, in their order
pub record Clauses : Type 0 where
  pub private : List Bytes
  pub reductions : List Clause

-- without REDUCTION clauses
abbrev pub private_alone : List Bytes → Clauses
private_alone names = record { private = names; reductions = [] }

-- the characters at which clauses are cut: ) :
abbrev pub bracket : ℕ
bracket = 41

abbrev pub colon : ℕ
colon = 58

abbrev pub read_names : Bytes → Option (List Bytes)
read_names t = if list_all is_name (pieces comma t) then Some (pieces comma t) else None

-- the operators and intrinsic functions that are known here
abbrev pub read_op : Bytes → Option ReduceOp
read_op t =
    if bytes_eq t (codes "+") then Some Sum
    else if bytes_eq t (codes "MAX") then Some Max
    else if bytes_eq t (codes "MIN") then Some Min
    else if bytes_eq t (codes ".AND.") then Some And
    else if bytes_eq t (codes ".OR.") then Some Or
    else None

-- REDUCTION(+:K, the text of a clause up to its closing parenthesis: one variable
abbrev pub read_reduction : Bytes → Option Clause
read_reduction t = do
  inside ← after (codes "REDUCTION(") t
  (word, name) ← cut colon inside
  op ← read_op word
  if is_name name then Some (record { op = op; name = name }) else None

-- clauses one after another: the texts before their closing parentheses, and then nothing
abbrev pub read_reductions : List Bytes → Option (List Clause)
read_reductions [] = None
read_reductions (x ∷ []) = if bytes_eq x [] then Some [] else None
read_reductions (x ∷ (y ∷ ys)) = do
  first ← read_reduction x
  others ← read_reductions (y ∷ ys)
  Some (first ∷ others)

-- the names of PRIVATE(A,B, and the clauses behind it; or such clauses alone
abbrev pub read_private : Option Bytes → Bytes → List Bytes → Option Clauses
read_private None x xs = option_map (λ (rs : List Clause). record { private = []; reductions = rs }) (read_reductions (x ∷ xs))
read_private (Some t) x xs = do
  names ← read_names t
  rs ← read_reductions xs
  Some (record { private = names; reductions = rs })

abbrev pub read_clauses : List Bytes → Option Clauses
read_clauses [] = None
read_clauses (x ∷ xs) = read_private (after (codes "PRIVATE(") x) x xs

-- PARALLEL DO, then nothing or PRIVATE, and then REDUCTION clauses. No other directive is read
abbrev pub read_directive : Bytes → Option Clauses
read_directive t = do
  rest ← after (codes "PARALLELDO") t
  read_clauses (pieces bracket rest)

abbrev pub read_lines : List Bytes → Option Clauses
read_lines ls = text_of ls >>= read_directive

-- ---- a text

-- a directive: the line behind its lines, and what it says
pub record Directive : Type 0 where
  pub line : ℕ
  pub says : Clauses

abbrev pub with_directive : ℕ → List Bytes → Option (List Directive) → Option (List Directive)
with_directive n [] others = others
with_directive n (l ∷ ls) others = do
  says ← read_lines (l ∷ ls)
  more ← others
  Some (record { line = n; says = says } ∷ more)

-- of the lines from line n on, behind lines of a directive: such lines that stand one after another are one directive
unfoldable pub directives_from : ℕ → List Bytes → List Bytes → Option (List Directive)
directives_from n held [] = with_directive n held (Some [])
directives_from n held (l ∷ ls) =
    if is_sentinel l then directives_from (n + 1) (held ++ l ∷ []) ls else with_directive n held (directives_from (n + 1) [] ls)

-- the directives of a text; nothing where a line for compilers is of no directive that is known
abbrev pub directives_in : Bytes → Option (List Directive)
directives_in text = directives_from 1 [] (text_lines text)
