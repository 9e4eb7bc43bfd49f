use Rattle.std.proofs.Common.{◌≡◌, [], length, map}
use Rattle.f77_ast.specs.Symbols.{symbol_tree}
use Rattle.effects.specs.Modules.{with_symbols}
use Rattle.effects.proofs.modules.bound_reads.Given as goal

abbrev pub invariant-loop-rest : goal.invariant-loop-rest
invariant-loop-rest l =
    with_symbols (map symbol_tree l.rest) (map symbol_tree l.symbols) l.all ≡ with_symbols (map symbol_tree l.symbols) (map symbol_tree l.symbols) []

abbrev pub decreases-loop-rest : goal.decreases-loop-rest
decreases-loop-rest l = length l.rest
