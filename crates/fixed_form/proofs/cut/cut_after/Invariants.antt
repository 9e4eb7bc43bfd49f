use Rattle.std.proofs.Common.{◌≡◌, ◌+◌, ◌++◌, length, take, drop}
use Rattle.fixed_form.specs.Cuts.{first_lines, after_lines}
use Rattle.fixed_form.proofs.cut.cut_after.Given as goal

abbrev pub invariant-loop-rest : goal.invariant-loop-rest
invariant-loop-rest l = record {
  first : take l.length l.text ++ first_lines l.left l.rest ≡ first_lines l.count l.text;
  after : after_lines l.left l.rest ≡ after_lines l.count l.text;
  so_far : l.length + length l.rest ≡ length l.text;
  whole : drop l.length l.text ≡ l.rest;
}

abbrev pub decreases-loop-rest : goal.decreases-loop-rest
decreases-loop-rest l = length l.rest
