use Rattle.std.proofs.Common.{sym}
use Rattle.dependence_test.proofs.BodySteps.{value-fits}
use Rattle.dependence_test.proofs.body.system_at.Goals as goal

pub copy_of-requires : goal.copy_of-requires
copy_of-requires c = value-fits c.args.preconditions.now c.args.id c.in-Some.s.now (sym c.in-Some.ensures) c.requires
