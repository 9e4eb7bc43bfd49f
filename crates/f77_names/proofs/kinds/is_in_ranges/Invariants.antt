use Rattle.std.proofs.Common.{◌≡◌, drop}
use Rattle.std.specs.List.{list_any}
use Rattle.f77_names.specs.Kinds.{is_in_range}
use Rattle.f77_names.proofs.kinds.is_in_ranges.Given as goal

abbrev pub invariant-loop-range : goal.invariant-loop-range
invariant-loop-range l = list_any (is_in_range l.letter) (drop l.range-index l.range-items) ≡ list_any (is_in_range l.letter) l.range-items
