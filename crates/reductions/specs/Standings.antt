-- How a variable stands in the body of a DO: not at all, only where it is accumulated in by one operator, or in another way too.
use Rattle.std.specs.Prelude.{ℕ, Bool, ◌&&◌, ◌||◌, if◌then◌else◌, bytes_eq, List, Option, Some, None}
use Rattle.f77_ast.specs.Trees.{ExprTree, StmtTrees, WhatTree, LoopTree}
use Rattle.f77_ast.specs.Trees as tree
use Rattle.f77_ast.specs.Hidden.{is_hidden}
use Rattle.f77_ast.specs.Shapes.{Walk, walk_list}
use Rattle.f77_ast.specs.Symbols.{SymbolTree}
use Rattle.loop_marker.specs.Names.{has_name, have_name, bounds_have_name}
use Rattle.result_lines.specs.declared.reduction.ReduceOp.{ReduceOp}
use Rattle.reductions.specs.Accumulations.{same_op, is_name, accumulation}
use Rattle.reductions.specs.declared.standing.Standing.{Standing}
use Rattle.reductions.specs.declared.standing.Standing.TheVariants.{Absent, Accumulated, Otherwise}

-- ---- two standings together

abbrev pub with_op : ReduceOp → Standing → Standing
with_op p Absent = Accumulated p
with_op p (Accumulated q) = if same_op p q then Accumulated p else Otherwise
with_op p Otherwise = Otherwise

-- in statements and in further ones
abbrev pub both : Standing → Standing → Standing
both Absent b = b
both (Accumulated p) b = with_op p b
both Otherwise b = Otherwise

-- ---- statements

abbrev pub if_named : Bool → Standing
if_named named = if named then Otherwise else Absent

abbrev pub if_accumulated : Option ReduceOp → Standing
if_accumulated None = Otherwise
if_accumulated (Some p) = Accumulated p

abbrev pub in_assignment : List SymbolTree → SymbolTree → ExprTree → ExprTree → Standing
in_assignment ss v left right = if is_name v.name left then if_accumulated (accumulation ss v right) else if_named (has_name v.name left || has_name v.name right)

-- a hidden CALL takes the value of the function that it calls, whose result has the function's name (f77_ast, specs/Hidden)
abbrev pub calls_it : SymbolTree → ℕ → List ℕ → Bool
calls_it v n x = is_hidden n && bytes_eq v.name x

-- a statement without statements inside it, with the number n; what a hidden one names counts as well
abbrev pub in_leaf : List SymbolTree → SymbolTree → ℕ → WhatTree → Standing
in_leaf ss v n (tree.assign a b) = in_assignment ss v a b
in_leaf ss v n (tree.block_if arms other) = Absent
in_leaf ss v n (tree.logical_if e s) = Absent
in_leaf ss v n (tree.do_loop l) = Absent
in_leaf ss v n (tree.call x es) = if_named (calls_it v n x || have_name v.name es)
in_leaf ss v n (tree.goto l) = Absent
in_leaf ss v n tree.continue = Absent
in_leaf ss v n tree.return = Absent
in_leaf ss v n (tree.stop text) = Absent
in_leaf ss v n (tree.print es) = if_named (have_name v.name es)
in_leaf ss v n (tree.read es) = if_named (have_name v.name es)

abbrev pub index_of : LoopTree → List ℕ
index_of (tree.loop index first last step body) = index

-- the variable, the first, the last and the step of a DO (ANSI X3.9-1978 §11.10)
abbrev pub in_header : SymbolTree → LoopTree → Standing
in_header v l = if_named (bytes_eq v.name (index_of l) || bounds_have_name v.name l)

abbrev pub the_standing : List SymbolTree → SymbolTree → Walk Standing
the_standing ss v = record {
  of_leaf = λ n label w. in_leaf ss v n w;
  of_inner = λ n label test s. both (if_named (has_name v.name test)) s;
  of_body = λ n label l body. both (in_header v l) body;
  of_arms = λ n label arms other. both arms other;
  of_arm = λ test body rest. both (both (if_named (has_name v.name test)) body) rest;
  of_no_arms = Absent;
  of_else = λ body. body;
  of_no_else = Absent;
  of_more = λ s rest. both s rest;
  of_end = Absent;
}

-- in the statements of a list and their parts
abbrev pub standing_in : List SymbolTree → SymbolTree → StmtTrees → Standing
standing_in ss v list = walk_list (the_standing ss v) list
