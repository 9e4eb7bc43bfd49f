-- Variables that are alone, one after another.
use Rattle.std.proofs.Common.{◌≡◌, ℕ, ◌+◌, ◌-◌, ◌<◌, ◌∷◌, pos, ap, arith, suc}
use Rattle.storage_data.specs.declared.offset_node.Home.TheVariants.{Own}
use Rattle.storage_data.specs.OffsetNodes.{alone_from}

pub alone_next : (n c : ℕ) → n < c → alone_from n (c - n) ≡ record { home = Own n; offset = pos 0 } ∷ alone_from (n + 1) (c - (n + 1))
alone_next n c h = let e : c - n ≡ suc (c - (n + 1)) = omega arith in ap (alone_from n) e
