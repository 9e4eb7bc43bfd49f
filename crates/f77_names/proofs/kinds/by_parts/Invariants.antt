use Rattle.std.proofs.Common.{◌≡◌, drop}
use Rattle.f77_names.specs.Kinds.{by_parts}
use Rattle.f77_names.proofs.kinds.by_parts.Given as goal

abbrev pub invariant-loop-part : goal.invariant-loop-part
invariant-loop-part l = by_parts l.letter (drop l.part-index l.part-items) l.scalar ≡ by_parts l.letter l.part-items l.fn.old
