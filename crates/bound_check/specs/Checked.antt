-- The references of statements, by whether they are safe.
use Rattle.std.specs.Prelude.{ℕ, Bool, true, false, not, ◌&&◌, if◌then◌else◌, List, [], ◌∷◌, ◌++◌, Option, Some, None}
use Rattle.std.specs.List.{filter}
use Rattle.affine_systems.specs.declared.row.Row.{Row}
use Rattle.affine_systems.specs.declared.row.System.{System}
use Rattle.f77_ast.specs.Trees.{ExprTree, ExprTrees, WhatTree, LoopTree, StmtTrees}
use Rattle.f77_ast.specs.Trees as tree
use Rattle.f77_ast.specs.Hidden.{is_hidden}
use Rattle.f77_ast.specs.Shapes.{Walk, walk_list}
use Rattle.f77_ast.specs.declared.results.At.{At}
use Rattle.preconditions.specs.call_translation.Scopes.{ScopeTree}
use Rattle.preconditions.specs.call_translation.Actuals.{named_cell, one_cell}
use Rattle.loop_marker.specs.dependence_test.Body.{system_at}
use Rattle.bound_check.specs.References.{elements}
use Rattle.bound_check.specs.Safe.{is_safe}

-- ---- references by whether they are safe, in the order in which they are evaluated

pub record ChecksTree : Type 0 where
  pub safe : List ExprTree
  pub others : List ExprTree

abbrev pub no_checks : ChecksTree
no_checks = record { safe = []; others = [] }

abbrev pub both : ChecksTree → ChecksTree → ChecksTree
both c d = record { safe = c.safe ++ d.safe; others = c.others ++ d.others }

-- ---- one statement

-- what is known of a module: the variables that some statement of it changes, and what holds where each statement begins
pub record Knowledge : Type 0 where
  pub scope : ScopeTree
  pub changed : List ℕ
  pub preconditions : List (At System)

-- what holds where the statement of a number begins
abbrev pub rows_at : Knowledge → ℕ → List Row
rows_at k n = (system_at k.preconditions n).rows

-- the references in an expression, where these rows hold and these variables have been changed by the statement before
abbrev pub judged : Knowledge → List Row → List ℕ → ExprTree → ChecksTree
judged k rs written e = record {
  safe = filter (is_safe k.scope k.changed written rs) (elements e k.scope);
  others = filter (λ r. not (is_safe k.scope k.changed written rs r)) (elements e k.scope);
}

-- those in expressions that are evaluated one after another
abbrev pub all_judged : Knowledge → List Row → ExprTrees → ChecksTree
all_judged k rs tree.no_exprs = no_checks
all_judged k rs (tree.more_exprs e es) = both (judged k rs [] e) (all_judged k rs es)

-- the items of a READ: each is evaluated after the items before it are set (ANSI X3.9-1978 §12.8)
abbrev pub items_judged : Knowledge → List Row → List ℕ → ExprTrees → ChecksTree
items_judged k rs written tree.no_exprs = no_checks
items_judged k rs written (tree.more_exprs e es) = both (judged k rs written e) (items_judged k rs (written ++ one_cell (named_cell k.scope.scalars e)) es)

abbrev pub step_judged : Knowledge → List Row → Option ExprTree → ChecksTree
step_judged k rs None = no_checks
step_judged k rs (Some e) = judged k rs [] e

-- in the first, the last and the step of a DO (§11.10.3)
abbrev pub header_judged : Knowledge → List Row → LoopTree → ChecksTree
header_judged k rs (tree.loop index first last step body) = both (both (judged k rs [] first) (judged k rs [] last)) (step_judged k rs step)

-- of a statement without statements inside it; of an assignment the right side comes before the subscripts on the left (§10.1)
abbrev pub leaf_judged : Knowledge → List Row → WhatTree → ChecksTree
leaf_judged k rs (tree.assign a b) = both (judged k rs [] b) (judged k rs [] a)
leaf_judged k rs (tree.block_if arms other) = no_checks
leaf_judged k rs (tree.logical_if e s) = no_checks
leaf_judged k rs (tree.do_loop l) = no_checks
leaf_judged k rs (tree.call x es) = all_judged k rs es
leaf_judged k rs (tree.goto l) = no_checks
leaf_judged k rs tree.continue = no_checks
leaf_judged k rs tree.return = no_checks
leaf_judged k rs (tree.stop text) = no_checks
leaf_judged k rs (tree.print es) = all_judged k rs es
leaf_judged k rs (tree.read es) = items_judged k rs [] es

-- ---- statements with their parts

-- the references that have their lines at the statement of a number
pub record ChecksAt : Type 0 where
  pub id : ℕ
  pub checks : ChecksTree

-- the references of parts that have no lines themselves, and those at the parts that have
pub record SeenTree : Type 0 where
  pub own : ChecksTree
  pub below : List ChecksAt

abbrev pub none : SeenTree
none = record { own = no_checks; below = [] }

-- what is seen, and what is seen after it
unfoldable pub join : SeenTree → SeenTree → SeenTree
join s t = record { own = both s.own t.own; below = s.below ++ t.below }

abbrev pub own_alone : ChecksTree → SeenTree
own_alone c = record { own = c; below = [] }

abbrev pub is_nil : List ExprTree → Bool
is_nil [] = true
is_nil (e ∷ es) = false

-- nothing of a statement without references
abbrev pub at_statement : ℕ → ChecksTree → List ChecksAt
at_statement n c = if is_nil c.safe && is_nil c.others then [] else record { id = n; checks = c } ∷ []

-- a statement with these references and these parts; it has lines if it is one of the text that is not inside a logical IF
unfoldable pub statement : Bool → ℕ → ChecksTree → SeenTree → SeenTree
statement lined n c s = if lined && not (is_hidden n) then record { own = no_checks; below = at_statement n (both c s.own) ++ s.below } else record { own = both c s.own; below = s.below }

-- given the number of the statement around it, and whether it may have lines: the tests of a block IF are evaluated by that statement, and what
-- a logical IF guards has its lines there (§11.5, §11.6)
abbrev pub the_references : Knowledge → Walk (ℕ → Bool → SeenTree)
the_references k = record {
  of_leaf = λ n label w outer lined. statement lined n (leaf_judged k (rows_at k n) w) none;
  of_inner = λ n label test s outer lined. statement lined n (judged k (rows_at k n) [] test) (s n false);
  of_body = λ n label l body outer lined. statement lined n (header_judged k (rows_at k n) l) (body n true);
  of_arms = λ n label arms other outer lined. statement lined n no_checks (join (arms n true) (other n true));
  of_arm = λ test body rest n lined. join (join (own_alone (judged k (rows_at k n) [] test)) (body n lined)) (rest n lined);
  of_no_arms = λ n lined. none;
  of_else = λ body n lined. body n lined;
  of_no_else = λ n lined. none;
  of_more = λ s rest n lined. join (s n lined) (rest n lined);
  of_end = λ n lined. none;
}

-- of each statement of a module that has lines and references, in the order of the text
abbrev pub checked_of : Knowledge → StmtTrees → List ChecksAt
checked_of k body = (walk_list (the_references k) body 0 true).below
