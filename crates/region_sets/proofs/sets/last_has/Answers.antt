use Rattle.std.proofs.Common.{◌-◌, length, subst, sym, arith}
use Rattle.region_sets.specs.Settled.{IsSettled}
use Rattle.region_sets.proofs.SettledLaws.{settled_at}
use Rattle.region_sets.proofs.sets.last_has.Goals as goal

pub last_pieces-requires : goal.last_pieces-requires
last_pieces-requires c =
    let rs = c.args.before.now in
    let r = c.last-item.result in
    subst IsSettled (sym c.last-item.is) (settled_at rs (length rs - 1) r (omega (arith, c.in-len1-up.len_at_least)) c.requires)
