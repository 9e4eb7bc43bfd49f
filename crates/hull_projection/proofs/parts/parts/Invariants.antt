use Rattle.std.proofs.Common.{◌≡◌, ◌++◌, drop}
use Rattle.hull_projection.specs.Minus.{AllFit, all_negations, parts}
use Rattle.hull_projection.proofs.parts.parts.Given as goal

abbrev pub invariant-loop-row : goal.invariant-loop-row
invariant-loop-row l = (l.out.items ++ parts l.sys (all_negations (drop l.row-index l.rows)) ≡ parts l.fn.sys (all_negations l.fn.rows)) × AllFit l.out.items
