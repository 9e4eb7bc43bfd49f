use Rattle.std.proofs.Common.{◌≡◌, length, map}
use Rattle.f77_ast.specs.Symbols.{symbol_tree}
use Rattle.out_regions.specs.Beside.{is_met}
use Rattle.out_regions.proofs.beside.is_met.Given as goal

abbrev pub invariant-loop-rest : goal.invariant-loop-rest
invariant-loop-rest l = is_met (map symbol_tree l.symbols) l.rest l.v ≡ is_met (map symbol_tree l.symbols) l.writes l.v

abbrev pub decreases-loop-rest : goal.decreases-loop-rest
decreases-loop-rest l = length l.rest
