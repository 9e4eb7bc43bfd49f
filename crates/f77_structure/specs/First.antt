-- The first of two faults.
use Rattle.std.specs.Prelude.{true, Option, Some, None}
use Rattle.fx_lists.specs.declared.refusal.Refusal.{Refusal}
use Rattle.fx_lists.specs.Refusals.{refuse_if}

-- the first of two faults
abbrev pub first_fault : Option Refusal → Option Refusal → Option Refusal
first_fault None found = found
first_fault (Some f) found = refuse_if true f.line f.code found
