-- What the code judges references by.
use Rattle.std.specs.Prelude.{Bool, not, List, [], ◌∷◌}
use Rattle.std.specs.List.{filter}
use Rattle.f77_ast.specs.Trees.{ExprTree}
use Rattle.preconditions.specs.call_translation.Scopes.{scope_tree}
use Rattle.bound_check.specs.declared.safe.Judging.{Judging}
use Rattle.bound_check.specs.Safe.{is_safe}
use Rattle.bound_check.specs.Checked.{ChecksTree}

abbrev pub is_safe_with : Judging → ExprTree → Bool
is_safe_with j e = is_safe (scope_tree j.scope.now.symbols.now j.scope.now.tracked.now) j.changed.now j.written.now j.holds.now.rows e

-- these references
abbrev pub judged_elements : Judging → List ExprTree → ChecksTree
judged_elements j es = record { safe = filter (is_safe_with j) es; others = filter (λ e. not (is_safe_with j e)) es }

-- one
abbrev pub judged_with : Judging → ExprTree → ChecksTree
judged_with j e = judged_elements j (e ∷ [])
