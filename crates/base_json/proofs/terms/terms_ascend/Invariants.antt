use Rattle.std.proofs.Common.{◌≡◌, length}
use Rattle.base_json.specs.Read.{terms_ascend}
use Rattle.base_json.proofs.terms.terms_ascend.Given as goal

abbrev pub invariant-loop-rest : goal.invariant-loop-rest
invariant-loop-rest l = terms_ascend l.rest ≡ terms_ascend l.fn.terms

abbrev pub decreases-loop-rest : goal.decreases-loop-rest
decreases-loop-rest l = length l.rest
