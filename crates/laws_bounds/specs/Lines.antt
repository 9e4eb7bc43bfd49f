-- What a line SAFE says: each reference on it is evaluated by the statement at which it stands, or by one inside that has no lines of its own, and was found safe by what holds where that begins.
use Rattle.std.specs.Prelude.{◌≡◌, ℕ, Bool, true, false, not, ◌&&◌, if◌then◌else◌, List, [], ◌∷◌, ◌++◌, map, Option, Some, None}
use Rattle.f77_ast.specs.Trees.{ExprTree, ExprTrees, StmtTree, WhatTree, ArmTree, ArmTrees, ElseTree, LoopTree, StmtTrees}
use Rattle.f77_ast.specs.Trees as tree
use Rattle.f77_ast.specs.Hidden.{is_hidden}
use Rattle.preconditions.specs.transformer_algebra.Laws.{In}
use Rattle.preconditions.specs.call_translation.Scopes.{ScopeTree}
use Rattle.preconditions.specs.call_translation.Actuals.{named_cell, one_cell}
use Rattle.bound_check.specs.References.{elements}
use Rattle.bound_check.specs.Safe.{is_safe}
use Rattle.bound_check.specs.Checked.{Knowledge, ChecksAt, rows_at, checked_of}

-- ---- what a statement evaluates

-- a reference, and the variables that the statement has changed before it is evaluated
pub record Evaluated : Type 0 where
  pub element : ExprTree
  pub written : List ℕ

abbrev pub in_expr : ScopeTree → List ℕ → ExprTree → List Evaluated
in_expr m written e = map (λ r. record { element = r; written = written }) (elements e m)

abbrev pub in_exprs : ScopeTree → ExprTrees → List Evaluated
in_exprs m tree.no_exprs = []
in_exprs m (tree.more_exprs e es) = in_expr m [] e ++ in_exprs m es

-- an item of a READ is evaluated after those before it are set
abbrev pub in_items : ScopeTree → List ℕ → ExprTrees → List Evaluated
in_items m written tree.no_exprs = []
in_items m written (tree.more_exprs e es) = in_expr m written e ++ in_items m (written ++ one_cell (named_cell m.scalars e)) es

abbrev pub in_step : ScopeTree → Option ExprTree → List Evaluated
in_step m None = []
in_step m (Some e) = in_expr m [] e

abbrev pub in_header : ScopeTree → LoopTree → List Evaluated
in_header m (tree.loop index first last step body) = (in_expr m [] first ++ in_expr m [] last) ++ in_step m step

abbrev pub in_tests : ScopeTree → ArmTrees → List Evaluated
in_tests m tree.no_arms = []
in_tests m (tree.more_arms (tree.arm test body) rest) = in_expr m [] test ++ in_tests m rest

-- by a statement itself, and not by one inside it
abbrev pub evaluated : ScopeTree → WhatTree → List Evaluated
evaluated m (tree.assign a b) = in_expr m [] b ++ in_expr m [] a
evaluated m (tree.block_if arms other) = in_tests m arms
evaluated m (tree.logical_if e s) = in_expr m [] e
evaluated m (tree.do_loop l) = in_header m l
evaluated m (tree.call x es) = in_exprs m es
evaluated m (tree.goto l) = []
evaluated m tree.continue = []
evaluated m tree.return = []
evaluated m (tree.stop text) = []
evaluated m (tree.print es) = in_exprs m es
evaluated m (tree.read es) = in_items m [] es

-- ---- the statements of a list and their parts

-- a statement, and the number at which it has its lines
pub record Statement : Type 0 where
  pub number : ℕ
  pub line : ℕ
  pub what : WhatTree

-- at its own number if it is one of the text that is not inside a logical IF, and else where the statement around it has its lines
abbrev pub line_of : ℕ → Bool → ℕ → ℕ
line_of around lined n = if lined && not (is_hidden n) then n else around

abbrev mutual
  pub stmt_all : ℕ → Bool → StmtTree → List Statement
  stmt_all around lined (tree.stmt n label w) = record { number = n; line = line_of around lined n; what = w } ∷ what_all (line_of around lined n) w

  -- inside a statement that has its lines at this number
  pub what_all : ℕ → WhatTree → List Statement
  what_all line (tree.assign a b) = []
  what_all line (tree.block_if arms other) = arms_all line arms ++ else_all line other
  what_all line (tree.logical_if e s) = stmt_all line false s
  what_all line (tree.do_loop l) = loop_all line l
  what_all line (tree.call x es) = []
  what_all line (tree.goto l) = []
  what_all line tree.continue = []
  what_all line tree.return = []
  what_all line (tree.stop text) = []
  what_all line (tree.print es) = []
  what_all line (tree.read es) = []

  pub list_all : ℕ → StmtTrees → List Statement
  list_all line tree.no_stmts = []
  list_all line (tree.more_stmts s rest) = stmt_all line true s ++ list_all line rest

  pub arms_all : ℕ → ArmTrees → List Statement
  arms_all line tree.no_arms = []
  arms_all line (tree.more_arms a rest) = arm_all line a ++ arms_all line rest

  pub arm_all : ℕ → ArmTree → List Statement
  arm_all line (tree.arm test body) = list_all line body

  pub else_all : ℕ → ElseTree → List Statement
  else_all line tree.no_else = []
  else_all line (tree.otherwise body) = list_all line body

  pub loop_all : ℕ → LoopTree → List Statement
  loop_all line (tree.loop index first last step body) = list_all line body

-- of a module
abbrev pub body_all : StmtTrees → List Statement
body_all body = list_all 0 body

-- ---- the law

-- a statement that has its lines at this number evaluates the reference, and there it was found safe
pub record IsFoundSafe (k : Knowledge) (body : StmtTrees) (n : ℕ) (e : ExprTree) : Type 0 where
  pub statement : Statement
  pub stands : In statement (body_all body)
  pub line : statement.line ≡ n
  pub written : List ℕ
  pub is_evaluated : In (record { element = e; written = written }) (evaluated k.scope statement.what)
  pub safe : is_safe k.scope k.changed written (rows_at k statement.number) e ≡ true

-- of each reference on a line SAFE
abbrev pub SafeLinesAreSafe : Type 0
SafeLinesAreSafe = (k : Knowledge) (body : StmtTrees) (c : ChecksAt) → In c (checked_of k body) → (e : ExprTree) → In e c.checks.safe → IsFoundSafe k body c.id e
