-- A DO by the number of its statement.
use Rattle.std.specs.Prelude.{ℕ, nat_eq, Option, Some, None, if◌then◌else◌}
use Rattle.f77_ast.specs.Trees.{LoopTree, StmtTrees}
use Rattle.f77_ast.specs.Shapes.{Walk, walk_list}

-- the first, where it is there
abbrev pub or_loop : Option LoopTree → Option LoopTree → Option LoopTree
or_loop None o = o
or_loop (Some l) o = Some l

-- the DO with the number k
abbrev pub the_loop : ℕ → Walk (Option LoopTree)
the_loop k = record {
  of_leaf = λ n label w. None;
  of_inner = λ n label test s. s;
  of_body = λ n label l body. if nat_eq n k then Some l else body;
  of_arms = λ n label arms other. or_loop arms other;
  of_arm = λ test body rest. or_loop body rest;
  of_no_arms = None;
  of_else = λ body. body;
  of_no_else = None;
  of_more = λ s rest. or_loop s rest;
  of_end = None;
}

-- among the statements of a list and their parts
abbrev pub loop_in : ℕ → StmtTrees → Option LoopTree
loop_in k list = walk_list (the_loop k) list
