use Rattle.std.proofs.Common.{◌≡◌, ℕ, take}
use Rattle.affine_systems.specs.Tidy.{faced_all}
use Rattle.affine_systems.proofs.facing.all_stay.Given as goal

abbrev pub invariant-loop-item : goal.invariant-loop-item
invariant-loop-item l = (n : ℕ) → faced_all n (take l.item-index l.items) l.items ≡ take l.item-index l.items
