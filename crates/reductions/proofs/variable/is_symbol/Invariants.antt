use Rattle.std.proofs.Common.{◌≡◌, length, map}
use Rattle.f77_ast.specs.Symbols.{symbol_tree}
use Rattle.reductions.specs.Reduced.{is_symbol}
use Rattle.reductions.proofs.variable.is_symbol.Given as goal

abbrev pub invariant-loop-rest : goal.invariant-loop-rest
invariant-loop-rest l = is_symbol (map symbol_tree l.rest) l.word ≡ is_symbol (map symbol_tree l.symbols) l.word

abbrev pub decreases-loop-rest : goal.decreases-loop-rest
decreases-loop-rest l = length l.rest
