-- The names of small modules, computed.
use Rattle.std.proofs.Common.{◌≡◌, List, [], ◌∷◌, ◌+◌, None, Some, true, false, refl, pos, ℕ}
use Rattle.std.specs.Prelude.{codes, map}
use Rattle.f77_ast.specs.declared.places.Part.TheVariants.{Decl, Stmt}
use Rattle.f77_ast.specs.declared.places.Spot.{Spot}
use Rattle.f77_ast.specs.declared.module.FunctionForm.TheVariants.{Logical}
use Rattle.f77_ast.specs.Trees.{name, int, log, no_exprs, more_exprs, StmtTrees, stmt, assign, block_if, call, arm, no_arms, more_arms, no_else, no_stmts, more_stmts}
use Rattle.f77_ast.specs.DeclTrees.{EntityTree, DeclTree, integer, logical, common, ModuleTree}
use Rattle.fx_lists.specs.declared.code.Code.TheVariants.{RealName, DeclaredTwice}
use Rattle.f77_names.specs.declared.kinds.Kind.TheVariants.{Int, Log}
use Rattle.f77_names.specs.Lines.{lines_of}
use Rattle.fx_lists.specs.Refusals.{refuse_if, is_before}
use Rattle.f77_names.specs.Entries.{find}
use Rattle.f77_names.specs.Functions.{function_of}
use Rattle.f77_names.specs.Tables.{table_of, check_names, entry_kind, kind_in}

abbrev spots : List Spot
spots =
    record { part = Decl 0; first = 2; comments = [] }
    ∷ record { part = Decl 1; first = 3; comments = [] }
    ∷ record { part = Stmt 1; first = 5; comments = [] }
    ∷ []

abbrev pub scalar_named : List ℕ → EntityTree
scalar_named x = record { name = x; bounds = [] }

abbrev module_of : List DeclTree → StmtTrees → ModuleTree
module_of ds body = record { name = codes "P"; main = true; titled = false; dummies = []; decls = ds; body = body; function = None; references = []; whiles = [] }

-- line 2 `INTEGER X`, line 3 `COMMON /B/ L`, line 5 `X=1`
abbrev sets_x : StmtTrees
sets_x = more_stmts (stmt 1 None (assign (name (codes "X")) (int (pos 1)))) no_stmts

abbrev declares : DeclTree → ModuleTree
declares d = module_of (d ∷ common (record { block = codes "B"; members = scalar_named (codes "L") ∷ [] } ∷ []) ∷ []) sets_x

names_in_order : map (λ e. e.name) (table_of (lines_of spots) (declares (integer (scalar_named (codes "X") ∷ [])))).entries ≡ codes "X" ∷ codes "L" ∷ []
unfolding refuse_if is_before find function_of entry_kind kind_in
names_in_order = refl

accepted : check_names (lines_of spots) (declares (integer (scalar_named (codes "X") ∷ []))) ≡ None
unfolding refuse_if is_before find function_of entry_kind kind_in
accepted = refl

-- without the INTEGER statement X is REAL
real_name : check_names (lines_of spots) (declares (integer [])) ≡ Some (record { line = 5; code = RealName })
unfolding refuse_if is_before find function_of entry_kind kind_in
real_name = refl

second_type : check_names (lines_of spots) (declares (logical (scalar_named (codes "X") ∷ scalar_named (codes "X") ∷ []))) ≡ Some (record { line = 2; code = DeclaredTwice })
unfolding refuse_if is_before find function_of entry_kind kind_in
second_type = refl

logical_x : kind_in (table_of (lines_of spots) (declares (logical (scalar_named (codes "X") ∷ [])))) (codes "X") ≡ Log
unfolding refuse_if is_before find function_of entry_kind kind_in
logical_x = refl

integer_l : kind_in (table_of (lines_of spots) (declares (logical []))) (codes "L") ≡ Int
unfolding refuse_if is_before find function_of entry_kind kind_in
integer_l = refl

-- ---- functions

-- line 5 `I=NEXT(J)`, by its three statements with the first of these numbers
abbrev takes_next : ℕ → StmtTrees
takes_next n =
    more_stmts (stmt 1 None (block_if (more_arms (arm (log true) (
    more_stmts (stmt n None (assign (name (codes "NEXT")) (int (pos 0)))) (
    more_stmts (stmt (n + 1) None (call (codes "NEXT") (more_exprs (name (codes "J")) (more_exprs (name (codes "NEXT")) no_exprs)))) (
    more_stmts (stmt (n + 2) None (assign (name (codes "I")) (name (codes "NEXT")))) no_stmts)))) no_arms) no_else)) no_stmts

reference_in_order : map (λ e. e.name) (table_of (lines_of spots) (module_of [] (takes_next 4097))).entries ≡ codes "I" ∷ codes "NEXT" ∷ codes "J" ∷ []
unfolding find function_of
reference_in_order = refl

-- a block IF of the text
block_in_order : map (λ e. e.name) (table_of (lines_of spots) (module_of [] (takes_next 2))).entries ≡ codes "NEXT" ∷ codes "J" ∷ codes "I" ∷ []
unfolding find function_of
block_in_order = refl

-- `LOGICAL FUNCTION K()`
abbrev function_of_type : List DeclTree → ModuleTree
function_of_type ds = record (module_of ds no_stmts) { name = codes "K"; main = false; dummies = codes "K" ∷ []; function = Some Logical }

logical_function : kind_in (table_of (lines_of spots) (function_of_type [])) (codes "K") ≡ Log
unfolding find function_of entry_kind kind_in
logical_function = refl

type_given_twice : check_names (lines_of spots) (function_of_type (logical (scalar_named (codes "K") ∷ []) ∷ [])) ≡ Some (record { line = 2; code = DeclaredTwice })
unfolding refuse_if is_before find function_of entry_kind kind_in
type_given_twice = refl
