use Rattle.std.proofs.Common.{◌≡◌, drop}
use Rattle.affine_systems.specs.Given.{Fits}
use Rattle.preconditions.specs.Statement.{hull_from, AllFit}
use Rattle.preconditions.proofs.statement.hull_with.Given as goal

abbrev pub invariant-loop-s : goal.invariant-loop-s
invariant-loop-s l = record {
  same : hull_from l.hulls (drop l.s-index l.more) ≡ hull_from l.fn.first l.fn.more;
  gives : Fits l.hulls;
  fit : AllFit l.more;
}
