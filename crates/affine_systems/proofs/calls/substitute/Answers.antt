use Rattle.affine_systems.proofs.RenameSteps.{normal_small_row, substitute_is, substitute_none, substitute_says}
use Rattle.affine_systems.proofs.calls.substitute.Goals as goal

pub cancel-requires-clause-one : goal.cancel-requires-clause-one
cancel-requires-clause-one c = normal_small_row c.args.row.now c.requires.row

pub cancel-requires-clause-two : goal.cancel-requires-clause-two
cancel-requires-clause-two c = normal_small_row c.args.by.now c.requires.by

pub returns-clause-defined : goal.returns-clause-defined
returns-clause-defined c = substitute_is c.args.row.now c.args.var c.args.by.now c.in_ok-new.new c.unless_too_big.result c.requires.unit c.in_ok-new.ensures c.unless_too_big.ensures

pub returns-clause-too_big : goal.returns-clause-too_big
returns-clause-too_big c = substitute_none c.args.row.now c.args.var c.args.by.now c.unless_too_big.result (returns-clause-defined c)

pub returns-clause-says : goal.returns-clause-says
returns-clause-says c = substitute_says c.args.row.now c.args.var c.args.by.now c.unless_too_big.result (returns-clause-defined c)
