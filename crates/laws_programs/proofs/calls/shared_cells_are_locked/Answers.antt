use Rattle.laws_programs.proofs.Storage.LockLaws.{shared_cells_are_locked}
use Rattle.laws_programs.proofs.calls.shared_cells_are_locked.Goals as goal

pub returns : goal.returns
returns c = shared_cells_are_locked
