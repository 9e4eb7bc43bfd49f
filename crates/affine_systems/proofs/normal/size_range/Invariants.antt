use Rattle.affine_systems.specs.Normal.{IsSize}
use Rattle.affine_systems.proofs.normal.size_range.Given as goal

abbrev pub invariant-loop-t : goal.invariant-loop-t
invariant-loop-t l = IsSize l.least l.terms × IsSize l.most l.terms
