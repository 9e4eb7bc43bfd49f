-- How the form of a block IF is found, by the parts of its statements.
use Rattle.std.specs.Prelude.{ℕ, Bool, true, false, List, Option, Some, None, if◌then◌else◌}
use Rattle.f77_ast.specs.Plain.{expr_tree, expr_trees}
use Rattle.f77_ast.specs.PlainStmt.{stmt_trees}
use Rattle.f77_ast.specs.Trees.{ExprTree, ExprTrees, StmtTree, WhatTree, ArmTree, ArmTrees, ElseTree}
use Rattle.f77_ast.specs.Trees as tree
use Rattle.f77_ast.specs.Hidden.{IfForm, block, reference, do_while, without_last, form_of_body}
use Rattle.f77_printer.specs.declared.form.Form.{Form}
use Rattle.f77_printer.specs.declared.form.Form.TheVariants.{Block, Reference, DoWhile}

-- the form that a form in writing is
abbrev pub form_tree : Form → IfForm
form_tree Block = block
form_tree (Reference left f es) = reference (expr_tree left.now) f.now (without_last (expr_trees es.now))
form_tree (DoWhile label test body) = do_while label (expr_tree test.now) (stmt_trees body.now)

-- the only part of a block IF
abbrev pub only_arm : ArmTrees → ElseTree → Option ArmTree
only_arm (tree.more_arms a tree.no_arms) tree.no_else = Some a
only_arm arms other = None

abbrev pub only_arm_in : WhatTree → Option ArmTree
only_arm_in (tree.block_if arms other) = only_arm arms other
only_arm_in w = None

-- the constant .TRUE.
abbrev pub is_true : ExprTree → Bool
is_true (tree.log true) = true
is_true e = false

abbrev pub form_of_arm : Option ArmTree → IfForm
form_of_arm None = block
form_of_arm (Some (tree.arm test body)) = if is_true test then form_of_body body else block

-- a DO WHILE, where the only statement has this label and this only part
abbrev pub form_labelled : Bool → Option ℕ → Option ArmTree → IfForm
form_labelled hidden (Some l) (Some (tree.arm test body)) = if hidden then do_while l test body else block
form_labelled hidden label a = block

abbrev pub number_of : StmtTree → ℕ
number_of (tree.stmt n label w) = n

abbrev pub label_of : StmtTree → Option ℕ
label_of (tree.stmt n label w) = label

abbrev pub what_of : StmtTree → WhatTree
what_of (tree.stmt n label w) = w

-- ---- the three statements of a reference

abbrev pub name_alone : ExprTree → Option (List ℕ)
name_alone (tree.name x) = Some x
name_alone e = None

-- the two sides of an assignment
abbrev pub sides : WhatTree → Option (ExprTree × ExprTree)
sides (tree.assign left right) = Some (left, right)
sides w = None

abbrev pub name_set : Option (ExprTree × ExprTree) → Option (List ℕ)
name_set None = None
name_set (Some p) = name_alone p.0

-- the name that an assignment without a label sets
abbrev pub started : StmtTree → Option (List ℕ)
started (tree.stmt n None w) = name_set (sides w)
started (tree.stmt n (Some l) w) = None

abbrev pub actuals_in : WhatTree → Option ExprTrees
actuals_in (tree.call x es) = Some es
actuals_in w = None

-- the actual arguments of a CALL without a label
abbrev pub called : StmtTree → Option ExprTrees
called (tree.stmt n None w) = actuals_in w
called (tree.stmt n (Some l) w) = None

abbrev pub if_named : ExprTree → Option (List ℕ) → Option ExprTree
if_named left None = None
if_named left (Some x) = Some left

abbrev pub set_to_name : Option (ExprTree × ExprTree) → Option ExprTree
set_to_name None = None
set_to_name (Some p) = if_named p.0 (name_alone p.1)

-- what an assignment without a label sets to the value of a name
abbrev pub taken : StmtTree → Option ExprTree
taken (tree.stmt n None w) = set_to_name (sides w)
taken (tree.stmt n (Some l) w) = None

abbrev pub form_of_parts : Bool → Option (List ℕ) → Option ExprTrees → Option ExprTree → IfForm
form_of_parts hidden (Some f) (Some es) (Some left) = if hidden then reference left f (without_last es) else block
form_of_parts hidden f es left = block
