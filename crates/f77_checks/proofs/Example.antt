-- An assignment of the value of a function is judged by its three statements, each at the line of the assignment.
use Rattle.std.proofs.Common.{◌≡◌, List, [], ◌∷◌, None, Some, true, false, refl, pos, ℕ}
use Rattle.std.specs.Prelude.{codes, Option}
use Rattle.f77_ast.specs.declared.places.Part.TheVariants.{Decl, Stmt}
use Rattle.f77_ast.specs.declared.places.Spot.{Spot}
use Rattle.f77_ast.specs.Trees.{ExprTree, name, int, log, no_exprs, more_exprs, StmtTrees, stmt, assign, block_if, call, arm, no_arms, more_arms, no_else, no_stmts, more_stmts}
use Rattle.f77_ast.specs.DeclTrees.{DeclTree, logical, dimension, ModuleTree}
use Rattle.fx_lists.specs.declared.code.Code.TheVariants.{TypeMismatch}
use Rattle.fx_lists.specs.declared.refusal.Refusal.{Refusal}
use Rattle.fx_lists.specs.Refusals.{refuse_if, is_before}
use Rattle.f77_names.specs.Lines.{lines_of}
use Rattle.f77_names.specs.Entries.{find}
use Rattle.f77_names.specs.Functions.{function_of}
use Rattle.f77_names.specs.Tables.{table_of, entry_kind, kind_in}
use Rattle.f77_checks.specs.Statements.{check_stmts}

abbrev spots : List Spot
spots = record { part = Decl 0; first = 2; comments = [] } ∷ record { part = Stmt 1; first = 5; comments = [] } ∷ []

-- line 5 `I=NEXT(J)`, where the value of the function is first set to this one
abbrev takes_next : ExprTree → StmtTrees
takes_next zero =
    more_stmts (stmt 1 None (block_if (more_arms (arm (log true) (
    more_stmts (stmt 4097 None (assign (name (codes "NEXT")) zero)) (
    more_stmts (stmt 4098 None (call (codes "NEXT") (more_exprs (name (codes "J")) (more_exprs (name (codes "NEXT")) no_exprs)))) (
    more_stmts (stmt 4099 None (assign (name (codes "I")) (name (codes "NEXT")))) no_stmts)))) no_arms) no_else)) no_stmts

-- with a statement of line 2
abbrev module_of : DeclTree → StmtTrees → ModuleTree
module_of d body = record { name = codes "P"; main = true; titled = false; dummies = []; decls = d ∷ []; body = body; function = None; references = 1 ∷ []; whiles = [] }

abbrev found : DeclTree → ExprTree → Option Refusal
found d zero = let m = module_of d (takes_next zero) in check_stmts (table_of (lines_of spots) m) (lines_of spots) m.body 0 None

-- the argument is an array that stands whole
whole_array : found (dimension (record { name = codes "J"; bounds = record { low = None; high = Some (int (pos 3)) } ∷ [] } ∷ [])) (int (pos 0)) ≡ None
unfolding refuse_if is_before find function_of entry_kind kind_in
whole_array = refl

-- the function is LOGICAL and I is INTEGER
other_type : found (logical (record { name = codes "NEXT"; bounds = [] } ∷ [])) (log false) ≡ Some (record { line = 5; code = TypeMismatch })
unfolding refuse_if is_before find function_of entry_kind kind_in
other_type = refl
