use Rattle.f77_ast.proofs.StorageLaws.{units_lie_within}
use Rattle.f77_ast.proofs.storages.units_lie_within.Goals as goal

pub returns : goal.returns
returns c = units_lie_within
