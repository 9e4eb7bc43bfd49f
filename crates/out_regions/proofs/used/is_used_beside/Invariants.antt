use Rattle.std.proofs.Common.{◌≡◌, length, map}
use Rattle.f77_ast.specs.Symbols.{symbol_tree}
use Rattle.out_regions.specs.Used.{is_used_beside}
use Rattle.out_regions.proofs.used.is_used_beside.Given as goal

abbrev pub invariant-loop-rest : goal.invariant-loop-rest
invariant-loop-rest l = is_used_beside (map symbol_tree l.symbols) l.rest l.v ≡ is_used_beside (map symbol_tree l.symbols) l.later l.v

abbrev pub decreases-loop-rest : goal.decreases-loop-rest
decreases-loop-rest l = length l.rest
