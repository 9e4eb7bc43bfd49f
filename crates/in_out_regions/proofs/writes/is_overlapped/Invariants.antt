use Rattle.std.proofs.Common.{◌≡◌, length, map}
use Rattle.f77_ast.specs.Symbols.{symbol_tree}
use Rattle.in_out_regions.specs.Writes.{is_overlapped}
use Rattle.in_out_regions.proofs.writes.is_overlapped.Given as goal

abbrev pub invariant-loop-rest : goal.invariant-loop-rest
invariant-loop-rest l = is_overlapped (map symbol_tree l.symbols) l.rest l.v ≡ is_overlapped (map symbol_tree l.symbols) l.fn.set l.v

abbrev pub decreases-loop-rest : goal.decreases-loop-rest
decreases-loop-rest l = length l.rest
