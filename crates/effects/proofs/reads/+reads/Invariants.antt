use Rattle.std.proofs.Common.{◌≡◌, drop, map}
use Rattle.f77_ast.specs.Plain.{expr_trees}
use Rattle.f77_ast.specs.Symbols.{symbol_tree}
use Rattle.effects.specs.Reads.{with_reads}
use Rattle.effects.proofs.reads.+reads.Given as goal

abbrev pub invariant-with_reads-loop-e : goal.invariant-with_reads-loop-e
invariant-with_reads-loop-e l =
    with_reads (expr_trees (drop l.e-index l.e-items)) (map symbol_tree l.symbols) l.all ≡ with_reads (expr_trees l.e-items) (map symbol_tree l.symbols) l.fn.so_far
