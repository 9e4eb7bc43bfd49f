use Rattle.std.proofs.Common.{◌≡◌, ◌++◌, length, map}
use Rattle.std.specs.Prelude.{filter}
use Rattle.hull_projection.specs.Variables.{row_vars}
use Rattle.f77_ast.specs.Symbols.{symbol_tree}
use Rattle.transformers.specs.Modules.{stays_in}
use Rattle.transformers.proofs.modules.hidden_vars.Given as goal

abbrev pub invariant-loop-rest : goal.invariant-loop-rest
invariant-loop-rest l = l.hidden ++ filter (stays_in (map symbol_tree l.symbols)) l.rest ≡ filter (stays_in (map symbol_tree l.symbols)) (row_vars l.s.rows)

abbrev pub decreases-loop-rest : goal.decreases-loop-rest
decreases-loop-rest l = length l.rest
