use Rattle.std.proofs.Common.{◌≤◌, length, drop}
use Rattle.cases_rows.specs.Given.{AreGiven}
use Rattle.cases_rows.proofs.given.are_terms.Given as goal

abbrev pub invariant-loop-i : goal.invariant-loop-i
invariant-loop-i l = (l.i ≤ length l.terms) × AreGiven (drop l.i l.terms)

abbrev pub decreases-loop-i : goal.decreases-loop-i
decreases-loop-i l = l.i
