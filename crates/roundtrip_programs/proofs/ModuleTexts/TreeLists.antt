-- Lists of statements as lists.
use Rattle.std.proofs.Common.{◌≡◌, List, [], ◌∷◌, refl, ap}
use Rattle.f77_ast.specs.Trees.{StmtTree, ArmTree, ArmTrees, no_arms, more_arms, StmtTrees, no_stmts, more_stmts}
use Rattle.f77_ast.specs.PlainStmt.{stmts_of, arms_of}

abbrev pub list_of : StmtTrees → List StmtTree
list_of no_stmts = []
list_of (more_stmts s others) = s ∷ list_of others

abbrev pub arms_in : ArmTrees → List ArmTree
arms_in no_arms = []
arms_in (more_arms a others) = a ∷ arms_in others

pub stmts_of-list_of : (t : StmtTrees) → stmts_of (list_of t) ≡ t
stmts_of-list_of no_stmts = refl
stmts_of-list_of (more_stmts s others) = ap (more_stmts s) (stmts_of-list_of others)

pub arms_of-arms_in : (t : ArmTrees) → arms_of (arms_in t) ≡ t
arms_of-arms_in no_arms = refl
arms_of-arms_in (more_arms a others) = ap (more_arms a) (arms_of-arms_in others)
