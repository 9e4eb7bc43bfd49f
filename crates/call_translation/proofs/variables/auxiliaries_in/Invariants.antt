use Rattle.std.proofs.Common.{◌≡◌, ◌++◌, drop}
use Rattle.call_translation.specs.Variables.{auxiliaries_in}
use Rattle.call_translation.proofs.variables.auxiliaries_in.Given as goal

abbrev pub invariant-loop-name : goal.invariant-loop-name
invariant-loop-name l = l.out ++ auxiliaries_in (drop l.name-index l.names) ≡ auxiliaries_in l.fn.names
