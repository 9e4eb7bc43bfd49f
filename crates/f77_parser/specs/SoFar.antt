-- What the statements of a module made so far.
use Rattle.std.specs.Prelude.{ℕ, ◌+◌, Bool, false, nat_eq, List, [], ◌∷◌, ◌++◌, map, Option, Some, None, if◌then◌else◌}
use Rattle.f77_ast.specs.declared.places.Part.{Part}
use Rattle.f77_ast.specs.declared.places.Part.TheVariants as parts
use Rattle.f77_ast.specs.declared.places.Spot.{Spot}
use Rattle.f77_ast.specs.Trees.{ExprTree, StmtTree, stmt, WhatTree, block_if, logical_if, do_loop, ArmTree, arm, no_arms, more_arms, no_else, otherwise, LoopTree, loop}
use Rattle.f77_ast.specs.DeclTrees.{DeclTree}
use Rattle.f77_ast.specs.Plain.{expr_tree}
use Rattle.f77_ast.specs.PlainStmt.{maybe_tree, arm_tree, stmt_tree, stmts_of, arms_of}
use Rattle.f77_ast.specs.PlainDecl.{decl_tree}
use Rattle.f77_statements.specs.Phrases.{DoTree, do_tree}
use Rattle.f77_parser.specs.declared.progress.Heading.{Heading}
use Rattle.f77_parser.specs.declared.progress.Opening.{Opening}
use Rattle.f77_parser.specs.declared.progress.Opening.TheVariants.{Loop, While, Branches}
use Rattle.f77_parser.specs.declared.progress.Around.{Around}
use Rattle.f77_parser.specs.declared.progress.Progress.{Progress}

-- what opened a block: a DO; a DO WHILE, with the label of its last statement where there is one, and its test; or a block IF with its
-- parts that are closed and the test of the open one, none in its ELSE
pub data OpeningTree : Type 0 where
  opening_loop : DoTree → OpeningTree
  opening_while : Option ℕ → ExprTree → OpeningTree
  branches : List ArmTree → Option ExprTree → OpeningTree

-- an open block, with what stands before it in its list
pub record AroundTree : Type 0 where
  pub id : ℕ
  pub label : Option ℕ
  pub before : List StmtTree
  pub opening : OpeningTree

-- the heading, the specifications, the number of executable statements, those of them that are a DO WHILE, where statements stood, the
-- open list, and the open blocks around it, the innermost first
pub record SoFar : Type 0 where
  pub heading : Heading
  pub decls : List DeclTree
  pub count : ℕ
  pub whiles : List ℕ
  pub spots : List Spot
  pub list : List StmtTree
  pub around : List AroundTree

-- ---- the same of the program's values

abbrev pub opening_tree : Opening → OpeningTree
opening_tree (Loop d) = opening_loop (do_tree d)
opening_tree (While l e) = opening_while l (expr_tree e)
opening_tree (Branches arms test) = branches (map arm_tree arms) (maybe_tree test)

abbrev pub around_tree : Around → AroundTree
around_tree a = record { id = a.id; label = a.label; before = map stmt_tree a.before; opening = opening_tree a.opening }

abbrev pub so_far : Progress → SoFar
so_far p = record {
  heading = p.heading;
  decls = map decl_tree p.decls;
  count = p.count;
  whiles = p.whiles;
  spots = p.spots;
  list = map stmt_tree p.list;
  around = map around_tree p.around;
}

-- ---- statements

abbrev pub spot : Part → ℕ → List (List ℕ) → Spot
spot part first comments = record { part = part; first = first; comments = comments }

-- a statement stood at a line
unfoldable pub add_spot : Part → ℕ → List (List ℕ) → SoFar → SoFar
add_spot part first comments p = record p { spots = p.spots ++ spot part first comments ∷ [] }

-- the next executable statement stands in the open list
unfoldable pub add_executable : ℕ → Option ℕ → List (List ℕ) → WhatTree → SoFar → SoFar
add_executable first label comments w p =
    add_spot (parts.Stmt (p.count + 1)) first comments
    (record p { count = p.count + 1; list = p.list ++ stmt (p.count + 1) label w ∷ [] })

-- a logical IF and the statement in it, which has the number after its own and no comments
unfoldable pub add_logical_if : ℕ → Option ℕ → List (List ℕ) → ExprTree → WhatTree → SoFar → SoFar
add_logical_if first label comments test w p =
    add_spot (parts.Stmt (p.count + 1 + 1)) first []
    (add_spot (parts.Stmt (p.count + 1)) first comments
    (record p {
      count = p.count + 1 + 1;
      list = p.list ++ stmt (p.count + 1) label (logical_if test (stmt (p.count + 1 + 1) None w)) ∷ [];
    }))

-- ---- blocks

-- the next executable statement opens a block
unfoldable pub open_block : ℕ → Option ℕ → List (List ℕ) → OpeningTree → SoFar → SoFar
open_block first label comments opening p =
    add_spot (parts.Stmt (p.count + 1)) first comments
    (record p {
      count = p.count + 1;
      list = [];
      around = record { id = p.count + 1; label = label; before = p.list; opening = opening } ∷ p.around;
    })

-- the next executable statement is a DO WHILE
unfoldable pub add_while : SoFar → SoFar
add_while p = record p { whiles = p.whiles ++ (p.count + 1) ∷ [] }

abbrev pub loop_of : DoTree → List StmtTree → LoopTree
loop_of d list = loop d.index d.first d.last d.step (stmts_of list)

-- a block with all that stands in it, this being its last list; a DO WHILE is written as a block IF with one part
abbrev pub what_of : OpeningTree → List StmtTree → WhatTree
what_of (opening_loop d) list = do_loop (loop_of d list)
what_of (opening_while l test) list = block_if (more_arms (arm test (stmts_of list)) no_arms) no_else
what_of (branches arms (Some test)) list = block_if (arms_of (arms ++ arm test (stmts_of list) ∷ [])) no_else
what_of (branches arms None) list = block_if (arms_of arms) (otherwise (stmts_of list))

abbrev pub add_block : AroundTree → List StmtTree → List StmtTree
add_block a list = a.before ++ stmt a.id a.label (what_of a.opening list) ∷ []

-- a block ends, and these are open around it
abbrev pub leave_block : AroundTree → List AroundTree → SoFar → SoFar
leave_block a others p = record p { list = add_block a p.list; around = others }

abbrev pub is_label : ℕ → Option ℕ → Bool
is_label l None = false
is_label l (Some m) = nat_eq m l

-- a DO or a DO WHILE that a statement with this label ends
abbrev pub is_loop_to : ℕ → OpeningTree → Bool
is_loop_to l (opening_loop d) = is_label l d.label
is_loop_to l (opening_while m test) = is_label l m
is_loop_to l (branches arms test) = false

-- of these open blocks the innermost DOs with this label end: several may share their last statement
abbrev pub leave_loops : ℕ → List AroundTree → SoFar → SoFar
leave_loops l [] p = p
leave_loops l (a ∷ others) p = if is_loop_to l a.opening then leave_loops l others (leave_block a others p) else p

-- the innermost open DOs with this label end
abbrev pub end_loops : ℕ → SoFar → SoFar
end_loops l p = leave_loops l p.around p

abbrev pub end_loops_at : Option ℕ → SoFar → SoFar
end_loops_at None p = p
end_loops_at (Some l) p = end_loops l p

abbrev pub close_innermost : List AroundTree → ℕ → List (List ℕ) → SoFar → SoFar
close_innermost [] first comments p = p
close_innermost (a ∷ others) first comments p = add_spot (parts.Close a.id) first comments (leave_block a others p)

-- the innermost block ends at a statement of its own
abbrev pub close_block : ℕ → List (List ℕ) → SoFar → SoFar
close_block first comments p = close_innermost p.around first comments p
