use Rattle.std.proofs.Common.{◌≡◌, ◌+◌, ◌++◌, drop}
use Rattle.hull_projection.specs.Closure.{exit_terms}
use Rattle.hull_projection.proofs.iterations.push_exits.Given as goal

abbrev pub invariant-loop-i : goal.invariant-loop-i
invariant-loop-i l = l.out.items ++ exit_terms (l.first + l.i) (drop l.i l.cells) l.terms ≡ l.fn.out.items ++ exit_terms l.fn.first l.fn.cells l.fn.terms
