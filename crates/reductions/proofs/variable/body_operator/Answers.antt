use Rattle.std.proofs.Common.{map, sym, ap, ◌∙◌}
use Rattle.f77_ast.specs.Trees.{LoopTree}
use Rattle.f77_ast.specs.Symbols.{symbol_tree}
use Rattle.f77_ast.proofs.PlainlyStmt.{loop_tree-out}
use Rattle.loop_marker.specs.Jumps.{body_of}
use Rattle.reductions.specs.Reduced.{symbol_operator}
use Rattle.reductions.proofs.variable.body_operator.Goals as goal

pub returns : goal.returns
returns c =
    let v = c.args.view.now in
    c.symbol_operator.ensures
    ∙ sym (ap (λ (y : LoopTree). symbol_operator (map symbol_tree v.symbols.now) v.graph.now.order (body_of y) (symbol_tree c.args.symbol.now)) (loop_tree-out c.args.l.now))
