-- Statements of a tree that are not statements of the text. A statement with the value of a function, `V = F(A)`, is in the tree a
-- block IF whose test is .TRUE. and whose statements are `F = 0`, `CALL F(A, F)` and `V = F`. A DO WHILE is a block IF whose test is
-- .TRUE. around a labelled block IF, which has the test and the statements of the DO WHILE, and a GO TO its label as the last. The
-- outer block IF has a number of the text; the statements that were added are hidden: they have numbers and labels that no text has.
use Rattle.std.specs.Prelude.{ℕ, Bool, true, nat_eq, nat_lt, if◌then◌else◌, List, Option, Some, None}
use Rattle.f77_ast.specs.Trees.{ExprTree, ExprTrees, StmtTree, StmtTrees, ArmTrees, ElseTree}
use Rattle.f77_ast.specs.Trees as tree
use Rattle.f77_ast.specs.Shapes.{Walk, walk_list}

-- a module of the text has at most 4096 executable statements
abbrev pub is_hidden : ℕ → Bool
is_hidden n = nat_lt 4096 n

-- a label of the text has at most five digits (ANSI X3.9-1978 §3.4)
abbrev pub hidden_label : ℕ → Bool
hidden_label l = nat_lt 99999 l

-- ---- what a block IF stands for

-- itself; an assignment: its left side, the function and the actual arguments; or a DO WHILE: the label to which it goes back, its
-- test and its statements with the GO TO
pub data IfForm : Type 0 where
  block : IfForm
  reference : ExprTree → List ℕ → ExprTrees → IfForm
  do_while : ℕ → ExprTree → StmtTrees → IfForm

-- e and es without the last of them
abbrev pub all_but_last : ExprTree → ExprTrees → ExprTrees
all_but_last e tree.no_exprs = tree.no_exprs
all_but_last e (tree.more_exprs d es) = tree.more_exprs e (all_but_last d es)

-- the last actual argument of the hidden CALL is the result
abbrev pub without_last : ExprTrees → ExprTrees
without_last tree.no_exprs = tree.no_exprs
without_last (tree.more_exprs e es) = all_but_last e es

-- by the only statement
abbrev pub form_of_one : StmtTree → IfForm
form_of_one (tree.stmt n (Some l) (tree.block_if (tree.more_arms (tree.arm test body) tree.no_arms) tree.no_else)) = if is_hidden n then do_while l test body else block
form_of_one s = block

-- by the three statements
abbrev pub form_of_three : StmtTree → StmtTree → StmtTree → IfForm
form_of_three (tree.stmt n None (tree.assign (tree.name f) zero)) (tree.stmt m None (tree.call g es)) (tree.stmt k None (tree.assign left (tree.name h))) =
    if is_hidden n then reference left f (without_last es) else block
form_of_three s t u = block

abbrev pub form_of_body : StmtTrees → IfForm
form_of_body (tree.more_stmts s tree.no_stmts) = form_of_one s
form_of_body (tree.more_stmts s (tree.more_stmts t (tree.more_stmts u tree.no_stmts))) = form_of_three s t u
form_of_body body = block

-- a block IF with these arms and this ELSE; one that the text has is itself, since its statements are not hidden
abbrev pub form_of_if : ArmTrees → ElseTree → IfForm
form_of_if (tree.more_arms (tree.arm (tree.log true) body) tree.no_arms) tree.no_else = form_of_body body
form_of_if arms other = block

-- ---- the statement of the text that a statement belongs to

-- a statement, given what the statement inside it belongs to
abbrev pub carried_by : ℕ → Option ℕ → Option ℕ
carried_by n None = None
carried_by n (Some k) = Some (if is_hidden k then n else k)

-- the first, where it is there
abbrev pub or_carrier : Option ℕ → Option ℕ → Option ℕ
or_carrier None o = o
or_carrier (Some k) o = Some k

-- the statement with the number k itself, unless it is hidden; else the innermost statement around it that is not
abbrev pub the_carrier : ℕ → Walk (Option ℕ)
the_carrier k = record {
  of_leaf = λ n label w. if nat_eq n k then Some n else None;
  of_inner = λ n label test s. if nat_eq n k then Some n else carried_by n s;
  of_body = λ n label l body. if nat_eq n k then Some n else carried_by n body;
  of_arms = λ n label arms other. if nat_eq n k then Some n else carried_by n (or_carrier arms other);
  of_arm = λ test body rest. or_carrier body rest;
  of_no_arms = None;
  of_else = λ body. body;
  of_no_else = None;
  of_more = λ s rest. or_carrier s rest;
  of_end = None;
}

-- among the statements of a list and their parts
abbrev pub carrier_in : ℕ → StmtTrees → Option ℕ
carrier_in k list = walk_list (the_carrier k) list
