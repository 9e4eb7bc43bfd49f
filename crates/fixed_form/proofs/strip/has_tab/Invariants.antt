use Rattle.std.proofs.Common.{◌≡◌, drop}
use Rattle.fixed_form.specs.Body.{has_tab}
use Rattle.fixed_form.proofs.strip.has_tab.Given as goal

abbrev pub invariant-loop-b : goal.invariant-loop-b
invariant-loop-b l = has_tab l.inside (drop l.b-index l.columns) ≡ has_tab l.quoted l.columns
