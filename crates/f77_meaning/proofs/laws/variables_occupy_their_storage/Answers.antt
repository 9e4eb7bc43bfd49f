use Rattle.f77_meaning.proofs.ModuleLaws.{variables_occupy_their_storage}
use Rattle.f77_meaning.proofs.laws.variables_occupy_their_storage.Goals as goal

pub returns : goal.returns
returns c = variables_occupy_their_storage
