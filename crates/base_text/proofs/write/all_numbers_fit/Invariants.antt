use Rattle.std.proofs.Common.{length}
use Rattle.base_values.specs.Naming.{Each}
use Rattle.base_values.specs.Ranges.{NumbersFit}
use Rattle.base_text.specs.declared.base.StoredResult.{StoredResult}
use Rattle.base_text.proofs.write.all_numbers_fit.Given as goal

abbrev pub invariant-loop-rest : goal.invariant-loop-rest
invariant-loop-rest l = Each (λ (r : StoredResult). NumbersFit r.value) l.rest → Each (λ (r : StoredResult). NumbersFit r.value) l.fn.results

abbrev pub decreases-loop-rest : goal.decreases-loop-rest
decreases-loop-rest l = length l.rest
