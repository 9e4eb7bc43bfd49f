use Rattle.transformer_algebra.specs.Transformers.{AllFit}
use Rattle.cases_rows.proofs.transformer_calls.arms_of.Given as goal

abbrev pub invariant-loop-part : goal.invariant-loop-part
invariant-loop-part l = AllFit l.arms.items
