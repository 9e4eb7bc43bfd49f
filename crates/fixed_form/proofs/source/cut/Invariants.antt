use Rattle.std.proofs.Common.{◌≡◌, ◌<◌, ◌^◌, ◌++◌, All, length}
use Rattle.fixed_form.specs.Pieces.{cut_from}
use Rattle.fixed_form.proofs.source.cut.Given as goal

abbrev pub invariant-loop-rest : goal.invariant-loop-rest
invariant-loop-rest l = record {
  cut : l.pieces ++ cut_from l.first l.rest l.left ≡ cut_from 1 l.ends l.text;
  small : All (λ end. end < 2 ^ 28) l.rest;
}

abbrev pub decreases-loop-rest : goal.decreases-loop-rest
decreases-loop-rest l = length l.rest
