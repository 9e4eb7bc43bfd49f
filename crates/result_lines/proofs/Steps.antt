-- Lines one after another.
use Rattle.std.proofs.Common.{append_assoc, append-nil}

pub ruleset lines = (append_assoc, append-nil)
