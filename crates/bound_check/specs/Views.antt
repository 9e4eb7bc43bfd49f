-- References and what is known of a module, as the code has them.
use Rattle.std.specs.Prelude.{map}
use Rattle.f77_ast.specs.Plain.{expr_tree}
use Rattle.f77_ast.specs.declared.results.At.{At}
use Rattle.preconditions.specs.call_translation.Scopes.{scope_of, scope_tree}
use Rattle.call_equations.specs.Sides.{changed_cells}
use Rattle.loop_marker.specs.dependence_test.declared.analysis.Analysis.{Analysis}
use Rattle.bound_check.specs.Checked.{ChecksTree, ChecksAt, Knowledge, SeenTree}
use Rattle.bound_check.specs.declared.judged.Checks.{Checks}
use Rattle.bound_check.specs.declared.judged.Known.{Known}
use Rattle.bound_check.specs.declared.statements.Seen.{Seen}

abbrev pub checks_tree : Checks → ChecksTree
checks_tree c = record { safe = map expr_tree c.safe; others = map expr_tree c.others }

abbrev pub checks_at : At Checks → ChecksAt
checks_at a = record { id = a.id; checks = checks_tree a.value }

abbrev pub seen_tree : Seen → SeenTree
seen_tree s = record { own = checks_tree s.own; below = map checks_at s.below }

abbrev pub known_tree : Known → Knowledge
known_tree k = record { scope = scope_tree k.scope.now.symbols.now k.scope.now.tracked.now; changed = k.changed.now; preconditions = k.preconditions.now }

-- of a module, by its analyses
abbrev pub known_in : Analysis → Knowledge
known_in a = record {
  scope = scope_of a.view.now.«module».now a.view.now.symbols.now a.view.now.graph.now.untracked;
  changed = changed_cells a.transformers.now.at;
  preconditions = a.preconditions.now.at;
}
