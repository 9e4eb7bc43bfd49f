-- What is known where an iteration of a DO begins (ANSI X3.9-1978 §11.10).
use Rattle.std.specs.Prelude.{ℕ, false, List, [], ◌∷◌, Option, Some, None}
use Rattle.affine_systems.specs.declared.row.System.{System}
use Rattle.f77_ast.specs.Trees.{LoopTree, StmtTrees}
use Rattle.f77_ast.specs.Trees as tree
use Rattle.f77_ast.specs.declared.results.At.{At}
use Rattle.affine_forms.specs.Conditions.{no_rows}
use Rattle.preconditions.specs.transformer_algebra.declared.transformer.Transformer.{Transformer}
use Rattle.preconditions.specs.transformer_algebra.declared.loop_parts.LoopParts.{LoopParts}
use Rattle.preconditions.specs.transformer_algebra.Cells.{joined_cells}
use Rattle.preconditions.specs.call_translation.Scopes.{ScopeTree}
use Rattle.preconditions.specs.transformers.Lists.{value_at, number_of, list_at}
use Rattle.preconditions.specs.transformers.Loops.{loop_parts}
use Rattle.region_sets.specs.declared.region.Region.{Region}
use Rattle.region_sets.specs.Lists.{list_regions}
use Rattle.dependence_test.specs.declared.body.LoopBody.{LoopBody}

abbrev pub or_no_rows : Option System → System
or_no_rows None = no_rows
or_no_rows (Some s) = s

-- what holds where the statement of a number begins
abbrev pub system_at : List (At System) → ℕ → System
system_at as' n = or_no_rows (value_at as' n)

-- what holds where the first statement of a list begins
abbrev pub head_of : List (At System) → StmtTrees → System
head_of ps tree.no_stmts = no_rows
head_of ps (tree.more_stmts s rest) = system_at ps (number_of s)

-- the cells that the body changes, and the index
abbrev pub changed_cells : LoopParts → List ℕ
changed_cells l = joined_cells l.body.cells (l.index ∷ [])

abbrev pub with_parts : LoopParts → System → List Region → LoopBody
with_parts l s rs = record { index = l.index; step = l.step; cells = changed_cells l; head = s; regions = rs }

-- the parts of a DO: `t` has the transformer of the statement of each number
abbrev pub parts_of : LoopTree → ScopeTree → (ℕ → Transformer) → LoopParts
parts_of (tree.loop index first last step body) m t = loop_parts m (tree.loop index first last step body) (list_at t false body)

-- `ps` has what holds where each statement begins, `f` its READ and WRITE regions
abbrev pub body_of : LoopTree → ScopeTree → (ℕ → Transformer) → List (At System) → (ℕ → List Region) → LoopBody
body_of (tree.loop index first last step body) m t ps f =
    with_parts (parts_of (tree.loop index first last step body) m t) (head_of ps body) (list_regions t f false body)
