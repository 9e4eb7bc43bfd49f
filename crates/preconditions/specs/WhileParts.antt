-- The labelled block IF of a DO WHILE, as the code has it.
use Rattle.std.specs.Prelude.{ℕ, false, List, ◌∷◌, if◌then◌else◌}
use Rattle.affine_systems.specs.declared.row.System.{System}
use Rattle.f77_ast.specs.declared.results.At.{At}
use Rattle.f77_ast.specs.Trees.{ArmTree, StmtTrees}
use Rattle.f77_ast.specs.Trees as tree
use Rattle.transformers.specs.call_translation.Scopes.{ScopeTree}
use Rattle.transformers.specs.Jumps.{unstructured}
use Rattle.transformers.specs.Statement.{at}
use Rattle.preconditions.specs.Statement.{PreconditionList, if_true, throughout, before_last, at_list}

-- where the last statement of a list begins, where p holds before the list
abbrev pub last_begins : StmtTrees → ScopeTree → PreconditionList → System → System
last_begins body m t p = if unstructured false body then throughout false body t p else before_last body m t p

-- at the labelled block IF with a number, and at its parts
abbrev pub at_while : ℕ → ArmTree → ScopeTree → PreconditionList → System → List (At System)
at_while n (tree.arm test body) m t p = at n p ∷ at_list false body m t (if_true m test p)
