use Rattle.std.proofs.Common.{◌≡◌, ◌++◌, length, map}
use Rattle.std.specs.Prelude.{filter}
use Rattle.f77_ast.specs.Symbols.{symbol_tree}
use Rattle.effects.proofs.modules.visible_outside.Given as goal
use Rattle.call_graph.specs.Visible.{is_visible_to_callers}

abbrev pub invariant-loop-rest : goal.invariant-loop-rest
invariant-loop-rest l =
    l.kept ++ filter (is_visible_to_callers (map symbol_tree l.symbols)) l.rest ≡ filter (is_visible_to_callers (map symbol_tree l.symbols)) l.fn.variables

abbrev pub decreases-loop-rest : goal.decreases-loop-rest
decreases-loop-rest l = length l.rest
