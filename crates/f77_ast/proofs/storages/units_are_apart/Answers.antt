use Rattle.f77_ast.proofs.StorageLaws.{units_are_apart}
use Rattle.f77_ast.proofs.storages.units_are_apart.Goals as goal

pub returns : goal.returns
returns c = units_are_apart
