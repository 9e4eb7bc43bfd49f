-- The functions of which a module takes values: those that a hidden CALL calls.
use Rattle.std.specs.Prelude.{ℕ, Bool, true, false, not, ◌&&◌, if◌then◌else◌, List, [], ◌∷◌, ◌++◌, bytes_eq}
use Rattle.std.specs.List.{list_any}
use Rattle.f77_ast.specs.Trees.{StmtTrees, WhatTree}
use Rattle.f77_ast.specs.Trees as tree
use Rattle.f77_ast.specs.DeclTrees.{DeclTree, ModuleTree}
use Rattle.f77_ast.specs.DeclTrees as decl
use Rattle.f77_ast.specs.declared.decl.SaveItem.{SaveItem}
use Rattle.f77_ast.specs.Hidden.{is_hidden}
use Rattle.f77_ast.specs.Shapes.{Walk, walk_list}

-- what a CALL calls
abbrev pub called_by : WhatTree → List (List ℕ)
called_by (tree.call f es) = f ∷ []
called_by w = []

-- what the hidden CALLs among the statements call
abbrev pub the_functions : Walk (List (List ℕ))
the_functions = record {
  of_leaf = λ n label w. if is_hidden n then called_by w else [];
  of_inner = λ n label test s. s;
  of_body = λ n label l body. body;
  of_arms = λ n label arms other. arms ++ other;
  of_arm = λ test body rest. body ++ rest;
  of_no_arms = [];
  of_else = λ body. body;
  of_no_else = [];
  of_more = λ s rest. s ++ rest;
  of_end = [];
}

-- the functions of which a list takes values, once for each, in the order of the text
abbrev pub functions_in : StmtTrees → List (List ℕ)
functions_in list = walk_list the_functions list

abbrev pub has_some : List ℕ → Bool
has_some [] = false
has_some (n ∷ ns) = true

-- those of a module
abbrev pub module_functions : ModuleTree → List (List ℕ)
module_functions m = if has_some m.references then functions_in m.body else []

-- the name is one of these
abbrev pub is_one_of : List (List ℕ) → List ℕ → Bool
is_one_of names x = list_any (bytes_eq x) names

-- the name is that of a function of which the module takes a value
abbrev pub is_function : ModuleTree → List ℕ → Bool
is_function m x = is_one_of (module_functions m) x

-- ---- results that are not saved

abbrev pub is_empty : List SaveItem → Bool
is_empty [] = true
is_empty (i ∷ is) = false

-- a SAVE without a list saves all that the module has (ANSI X3.9-1978 §8.9)
abbrev pub saves_all_by : DeclTree → Bool
saves_all_by (decl.save is) = is_empty is
saves_all_by d = false

abbrev pub saves_all : ModuleTree → Bool
saves_all m = list_any saves_all_by m.decls

-- the functions of which each iteration of a DO with this body has the result for itself
abbrev pub own_functions : ModuleTree → StmtTrees → List (List ℕ)
own_functions m body = if has_some m.references && not (saves_all m) then functions_in body else []
