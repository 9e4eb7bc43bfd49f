-- V and F of an assignment `V = F(A)` of the value of a function, by the three statements that the tree has for it.
use Rattle.std.specs.Prelude.{ℕ, Bool, true, false, List, Option, Some, None, if◌then◌else◌}
use Rattle.f77_ast.specs.Trees.{ExprTree, StmtTree, WhatTree}
use Rattle.f77_ast.specs.Trees as tree
use Rattle.f77_ast.specs.Hidden.{is_hidden}

-- the constant .TRUE.
abbrev pub is_true : ExprTree → Bool
is_true (tree.log true) = true
is_true e = false

abbrev pub name_alone : ExprTree → Option (List ℕ)
name_alone (tree.name x) = Some x
name_alone e = None

-- the two sides of an assignment
abbrev pub sides : WhatTree → Option (ExprTree × ExprTree)
sides (tree.assign left right) = Some (left, right)
sides w = None

abbrev pub is_call : WhatTree → Bool
is_call (tree.call x es) = true
is_call w = false

abbrev pub name_set : Option (ExprTree × ExprTree) → Option (List ℕ)
name_set None = None
name_set (Some p) = name_alone p.0

-- the name that an assignment without a label sets
abbrev pub started : StmtTree → Option (List ℕ)
started (tree.stmt n None w) = name_set (sides w)
started (tree.stmt n (Some l) w) = None

-- a CALL without a label
abbrev pub is_called : StmtTree → Bool
is_called (tree.stmt n None w) = is_call w
is_called (tree.stmt n (Some l) w) = false

abbrev pub if_named : ExprTree → Option (List ℕ) → Option ExprTree
if_named left None = None
if_named left (Some x) = Some left

abbrev pub set_to_name : Option (ExprTree × ExprTree) → Option ExprTree
set_to_name None = None
set_to_name (Some p) = if_named p.0 (name_alone p.1)

-- what an assignment without a label sets to the value of a name
abbrev pub taken : StmtTree → Option ExprTree
taken (tree.stmt n None w) = set_to_name (sides w)
taken (tree.stmt n (Some l) w) = None

abbrev pub with_left : Bool → List ℕ → Option ExprTree → Option (ExprTree × List ℕ)
with_left hidden f None = None
with_left hidden f (Some left) = if hidden then Some (left, f) else None

abbrev pub with_function : Bool → Option (List ℕ) → Bool → Option ExprTree → Option (ExprTree × List ℕ)
with_function hidden None called left = None
with_function hidden (Some f) called left = if called then with_left hidden f left else None

abbrev pub number_of : StmtTree → ℕ
number_of (tree.stmt n label w) = n

abbrev pub head_of_three : StmtTree → StmtTree → StmtTree → Option (ExprTree × List ℕ)
head_of_three s t u = with_function (is_hidden (number_of s)) (started s) (is_called t) (taken u)
