use Rattle.std.proofs.Common.{length, arith, ap}
use Rattle.fixed_form.proofs.LawLemmas.{given-lawful, given-spans}
use Rattle.fixed_form.proofs.read.statements.Goals as goal

pub returns-clause-lawful : goal.returns-clause-lawful
returns-clause-lawful c = given-lawful c.pass.result c.as_slice.result.now (omega (arith, ap length c.as_slice.ensures)) c.pass.ensures

pub returns-clause-spans : goal.returns-clause-spans
returns-clause-spans c = given-spans c.pass.result c.as_slice.result.now (omega (arith, ap length c.as_slice.ensures)) c.pass.ensures
