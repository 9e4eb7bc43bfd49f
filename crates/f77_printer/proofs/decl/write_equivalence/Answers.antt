use Rattle.std.proofs.Common.{arith, append_assoc, append-nil}
use Rattle.std.proofs.lemmas.Grind.{common_steps}
use Rattle.f77_printer.proofs.TextLemmas.{groups-joined}
use Rattle.f77_printer.proofs.decl.write_equivalence.Goals as goal

pub returns : goal.returns
returns c = rw (groups-joined c.args.groups.now) (grind (arith, common_steps, append_assoc, append-nil))
