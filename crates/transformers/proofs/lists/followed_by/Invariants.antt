use Rattle.std.proofs.Common.{◌≡◌, length}
use Rattle.affine_systems.specs.Given.{Fits}
use Rattle.call_translation.specs.transformer_algebra.Transformers.{AllFit}
use Rattle.transformers.specs.Lists.{followed_by}
use Rattle.transformers.proofs.lists.followed_by.Given as goal

abbrev pub invariant-loop-rest : goal.invariant-loop-rest
invariant-loop-rest l = record {
  same : followed_by l.whole l.rest ≡ followed_by l.fn.first l.fn.all;
  fits : Fits l.whole.system;
  each : AllFit l.rest;
}

abbrev pub decreases-loop-rest : goal.decreases-loop-rest
decreases-loop-rest l = length l.rest
