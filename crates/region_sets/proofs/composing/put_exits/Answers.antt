use Rattle.std.proofs.Common.{sym}
use Rattle.region_sets.proofs.PutSteps.{exit_equal, exit_unit, found_normal, found_says}
use Rattle.region_sets.proofs.composing.put_exits.Goals as goal

pub put_row-requires-clause-by : goal.put_row-requires-clause-by
put_row-requires-clause-by c = found_normal _ c.args.rows.now c.in-Some.by.now (sym c.in-Some.ensures) c.requires.each

pub put_row-requires-clause-equal : goal.put_row-requires-clause-equal
put_row-requires-clause-equal c = exit_equal _ c.in-Some.by.now (found_says _ c.args.rows.now c.in-Some.by.now (sym c.in-Some.ensures) c.requires.each)

pub put_row-requires-clause-unit : goal.put_row-requires-clause-unit
put_row-requires-clause-unit c = exit_unit _ c.in-Some.by.now (found_says _ c.args.rows.now c.in-Some.by.now (sym c.in-Some.ensures) c.requires.each)
