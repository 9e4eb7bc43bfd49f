use Rattle.std.proofs.Common.{◌≡◌, length, map}
use Rattle.f77_ast.specs.Symbols.{symbol_tree}
use Rattle.effects.specs.Callee.{first_like}
use Rattle.effects.proofs.shapes.first_like.Given as goal

abbrev pub invariant-loop-rest : goal.invariant-loop-rest
invariant-loop-rest l =
    first_like l.number (map symbol_tree l.rest) l.block l.offset (map symbol_tree l.callee) (symbol_tree l.symbol) (map symbol_tree l.symbols)
    ≡ first_like 1 (map symbol_tree l.symbols) l.block l.offset (map symbol_tree l.callee) (symbol_tree l.symbol) (map symbol_tree l.symbols)

abbrev pub decreases-loop-rest : goal.decreases-loop-rest
decreases-loop-rest l = length l.rest
