use Rattle.std.proofs.Common.{◌≡◌, drop}
use Rattle.transformer_algebra.specs.Renaming.{renamed_by}
use Rattle.transformer_algebra.proofs.naming.replacement.Given as goal

abbrev pub invariant-loop-n : goal.invariant-loop-n
invariant-loop-n l = renamed_by (drop l.n-index l.names) l.v ≡ renamed_by l.fn.names l.fn.v
