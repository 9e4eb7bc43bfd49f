use Rattle.f77_ast.proofs.SharingLaws.{sharing_is_of_units}
use Rattle.f77_ast.proofs.overlap.sharing_is_of_units.Goals as goal

pub returns : goal.returns
returns c = sharing_is_of_units
