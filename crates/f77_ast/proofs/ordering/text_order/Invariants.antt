use Rattle.std.proofs.Common.{◌≡◌, drop}
use Rattle.f77_ast.specs.Variables.{variable_text, text_cmp}
use Rattle.f77_ast.proofs.ordering.text_order.Given as goal

abbrev pub invariant-loop-at : goal.invariant-loop-at
invariant-loop-at l =
    text_cmp (drop l.at (variable_text l.v)) (drop l.at (variable_text l.w)) ≡ text_cmp (variable_text l.v) (variable_text l.w)
