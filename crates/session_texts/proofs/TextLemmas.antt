-- Texts that are put together.
use Rattle.std.proofs.Common.{append_assoc, append-nil}

pub ruleset text_steps = (append_assoc, append-nil)
