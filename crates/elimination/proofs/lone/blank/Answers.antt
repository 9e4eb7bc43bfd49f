use Rattle.std.proofs.Common.{◌∙◌, not, pos, int_eq, ap}
use Rattle.affine_systems.specs.Points.{factor_of}
use Rattle.affine_systems.proofs.AscendLaws.{factor_of-nil}
use Rattle.elimination.proofs.lone.blank.Goals as goal

pub returns-clause-no_variable : goal.returns-clause-no_variable
returns-clause-no_variable c v = ap (λ ts. not (int_eq (factor_of v ts) (pos 0))) c.new.ensures ∙ ap (λ z. not (int_eq z (pos 0))) (factor_of-nil v)
