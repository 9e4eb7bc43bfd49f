-- What the results of a module name: its symbols, its statements and its loops.
use Rattle.std.specs.Prelude.{ℕ, List, [], ◌∷◌, ◌++◌, map}
use Rattle.f77_ast.specs.Trees.{StmtTrees}
use Rattle.f77_ast.specs.Shapes.{Walk, walk_list}
use Rattle.f77_ast.specs.StatementNumbers.{list_numbers}

-- the names of the symbols, the numbers of the executable statements and those of the DO statements, in the order of the text
pub record ModuleNames : Type 0 where
  pub names : List (List ℕ)
  pub statements : List ℕ
  pub loops : List ℕ

-- the statement in a logical IF is no DO (ANSI X3.9-1978 §11.5)
abbrev pub the_loops : Walk (List ℕ)
the_loops = record {
  of_leaf = λ n label w. [];
  of_inner = λ n label test ns. ns;
  of_body = λ n label l ns. n ∷ ns;
  of_arms = λ n label ns ms. ns ++ ms;
  of_arm = λ test ns ms. ns ++ ms;
  of_no_arms = [];
  of_else = λ ns. ns;
  of_no_else = [];
  of_more = λ ns ms. ns ++ ms;
  of_end = [];
}

abbrev pub loops_in : StmtTrees → List ℕ
loops_in body = walk_list the_loops body

-- of a module with these symbols and this body
abbrev pub module_names : List (List ℕ) → StmtTrees → ModuleNames
module_names names body = record { names = names; statements = list_numbers body; loops = loops_in body }
