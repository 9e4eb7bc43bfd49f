use Rattle.std.proofs.Common.{◌≡◌, drop}
use Rattle.std.specs.List.{list_any}
use Rattle.f77_names.specs.Functions.{same_function}
use Rattle.f77_names.proofs.functions.Arrays.has.Given as goal

abbrev pub invariant-loop-f : goal.invariant-loop-f
invariant-loop-f l = list_any (same_function l.function) (drop l.f-index l.f-items) ≡ list_any (same_function l.function) l.f-items
