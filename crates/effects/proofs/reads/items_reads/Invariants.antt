use Rattle.std.proofs.Common.{◌≡◌, [], drop, map}
use Rattle.f77_ast.specs.Plain.{expr_trees}
use Rattle.f77_ast.specs.Symbols.{symbol_tree}
use Rattle.effects.specs.Reads.{with_items}
use Rattle.effects.proofs.reads.items_reads.Given as goal

abbrev pub invariant-loop-e : goal.invariant-loop-e
invariant-loop-e l =
    with_items (expr_trees (drop l.e-index l.e-items)) (map symbol_tree l.symbols) l.all ≡ with_items (expr_trees l.e-items) (map symbol_tree l.symbols) []
