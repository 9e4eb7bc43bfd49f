use Rattle.std.proofs.Common.{◌≡◌, ◌++◌, length, map}
use Rattle.std.specs.Prelude.{filter}
use Rattle.f77_ast.specs.Symbols.{symbol_tree}
use Rattle.transformers.specs.Modules.{is_visible_to_callers}
use Rattle.transformers.proofs.modules.seen_cells.Given as goal

abbrev pub invariant-loop-rest : goal.invariant-loop-rest
invariant-loop-rest l = l.seen ++ filter (is_visible_to_callers (map symbol_tree l.symbols)) l.rest ≡ filter (is_visible_to_callers (map symbol_tree l.symbols)) l.fn.cells

abbrev pub decreases-loop-rest : goal.decreases-loop-rest
decreases-loop-rest l = length l.rest
