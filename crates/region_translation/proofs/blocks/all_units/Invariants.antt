use Rattle.std.proofs.Common.{◌≡◌, ◌++◌, length, map}
use Rattle.f77_ast.specs.Symbols.{symbol_tree}
use Rattle.region_translation.specs.Links.{all_units}
use Rattle.region_translation.proofs.blocks.all_units.Given as goal

abbrev pub invariant-loop-rest : goal.invariant-loop-rest
invariant-loop-rest l = l.all.items ++ all_units (map symbol_tree l.symbols) l.block (map symbol_tree l.rest) ≡ all_units (map symbol_tree l.symbols) l.block (map symbol_tree l.symbols)

abbrev pub decreases-loop-rest : goal.decreases-loop-rest
decreases-loop-rest l = length l.rest
