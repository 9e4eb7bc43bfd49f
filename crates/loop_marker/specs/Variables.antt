-- The variables of a DO that iterations might need copies of.
use Rattle.std.specs.Prelude.{ℕ, Bool, true, false, if◌then◌else◌, List, [], ◌∷◌, ◌++◌, Option, Some, None}
use Rattle.std.specs.List.{list_any}
use Rattle.f77_ast.specs.Trees.{StmtTrees, LoopTree}
use Rattle.f77_ast.specs.Trees as tree
use Rattle.f77_ast.specs.DeclTrees.{ModuleTree}
use Rattle.f77_ast.specs.Shapes.{Walk, walk_list}
use Rattle.f77_ast.specs.Symbols.{number_from}
use Rattle.f77_ast.specs.declared.variable.Variable.{Variable}
use Rattle.f77_ast.specs.declared.variable.Variable.TheVariants.{Own}
use Rattle.f77_ast.specs.Variables.{union, same_variable}
use Rattle.region_sets.specs.declared.region.Access.{Access}
use Rattle.region_sets.specs.declared.region.Access.TheVariants.{Read, Write, In, Out}
use Rattle.region_sets.specs.declared.region.Region.{Region}
use Rattle.privatizer.specs.Functions.{own_functions}
use Rattle.loop_marker.specs.Jumps.{body_of}

abbrev pub own_variable : Option ℕ → List Variable
own_variable None = []
own_variable (Some n) = Own n ∷ []

-- the variable of a DO
abbrev pub index_of : List (List ℕ) → LoopTree → List Variable
index_of names (tree.loop index first last step body) = own_variable (number_from 1 names index)

-- those of the DO statements in a list, in the order of the text
abbrev pub the_indexes : List (List ℕ) → Walk (List Variable)
the_indexes names = record {
  of_leaf = λ n label w. [];
  of_inner = λ n label test vs. vs;
  of_body = λ n label l vs. index_of names l ++ vs;
  of_arms = λ n label arms other. arms ++ other;
  of_arm = λ test body rest. body ++ rest;
  of_no_arms = [];
  of_else = λ body. body;
  of_no_else = [];
  of_more = λ s rest. s ++ rest;
  of_end = [];
}

-- those so far, and others, in order, each once
abbrev pub in_order_with : List Variable → List Variable → List Variable
in_order_with so_far [] = so_far
in_order_with so_far (v ∷ vs) = in_order_with (union so_far (v ∷ [])) vs

abbrev pub indexes_in : List (List ℕ) → StmtTrees → List Variable
indexes_in names list = in_order_with [] (walk_list (the_indexes names) list)

-- those so far, and the symbols with the other names, in order, each once
abbrev pub with_names : List (List ℕ) → List Variable → List (List ℕ) → List Variable
with_names names so_far [] = so_far
with_names names so_far (x ∷ xs) = with_names names (union so_far (own_variable (number_from 1 names x))) xs

-- of which each iteration of a DO has one of its own: the variables of the DO statements in its body, and the results of functions
abbrev pub inner_in : List (List ℕ) → ModuleTree → LoopTree → List Variable
inner_in names m l = with_names names (indexes_in names (body_of l)) (own_functions m (body_of l))

abbrev pub is_write : Access → Bool
is_write Read = false
is_write Write = true
is_write In = false
is_write Out = false

-- the variables of WRITE regions
abbrev pub written_in : List Region → List Variable
written_in [] = []
written_in (r ∷ rs) = if is_write r.kind then r.variable ∷ written_in rs else written_in rs

abbrev pub is_among : List Variable → Variable → Bool
is_among vs v = list_any (same_variable v) vs

-- some region is of the variable
abbrev pub is_of_some : Variable → List Region → Bool
is_of_some v rs = list_any (λ r. same_variable v r.variable) rs
