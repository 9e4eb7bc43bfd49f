use Rattle.f77_ast.proofs.StorageLaws.{sizes_are_reached}
use Rattle.f77_ast.proofs.storages.sizes_are_reached.Goals as goal

pub returns : goal.returns
returns c = sizes_are_reached
