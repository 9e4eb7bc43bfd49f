use Rattle.std.proofs.Common.{◌≡◌, drop}
use Rattle.affine_systems.specs.Given.{Fits}
use Rattle.transformer_algebra.specs.Transformers.{hull_of_arms, AllFit}
use Rattle.transformer_algebra.proofs.arms.hull_of_arms.Given as goal

abbrev pub invariant-loop-t : goal.invariant-loop-t
invariant-loop-t l = record { same : hull_of_arms l.cells l.hulls (drop l.t-index l.arms) ≡ hull_of_arms l.fn.cells l.fn.first l.fn.arms; fits : Fits l.hulls; rest : AllFit (drop l.t-index l.arms) }
