use Rattle.std.proofs.Common.{◌≡◌, ◌++◌, drop}
use Rattle.fixed_form.specs.Body.{stripped, quoted_after}
use Rattle.fixed_form.proofs.strip.strip.Given as goal

abbrev pub invariant-loop-b : goal.invariant-loop-b
invariant-loop-b l = record {
  body : l.body ++ stripped l.inside (drop l.b-index l.columns) ≡ l.initial.body ++ stripped l.quoted l.columns;
  quoted : quoted_after l.inside (drop l.b-index l.columns) ≡ quoted_after l.quoted l.columns;
}
