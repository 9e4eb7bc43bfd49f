use Rattle.std.proofs.Common.{◌≡◌, ◌++◌, map, drop}
use Rattle.hull_projection.specs.Clean.{clean}
use Rattle.hull_projection.specs.Minus.{AllFit}
use Rattle.hull_projection.proofs.parts.cleaned_parts.Given as goal

abbrev pub invariant-loop-sys : goal.invariant-loop-sys
invariant-loop-sys l = (l.out.items ++ map clean (drop l.sys-index l.parts) ≡ map clean l.fn.parts) × AllFit l.out.items
