use Rattle.std.proofs.Common.{◌≡◌, ◌++◌, length, map}
use Rattle.f77_ast.specs.Symbols.{symbol_tree}
use Rattle.array_regions.specs.Entry.{locals_from, locals}
use Rattle.array_regions.proofs.entry.locals.Given as goal

abbrev pub invariant-loop-rest : goal.invariant-loop-rest
invariant-loop-rest l = l.out.items ++ locals_from l.number (map symbol_tree l.rest) ≡ locals (map symbol_tree l.symbols)

abbrev pub decreases-loop-rest : goal.decreases-loop-rest
decreases-loop-rest l = length l.rest
