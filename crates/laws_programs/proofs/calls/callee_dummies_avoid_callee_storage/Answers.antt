use Rattle.laws_programs.proofs.Storage.KeepLaws.{callee_dummies_avoid_callee_storage}
use Rattle.laws_programs.proofs.calls.callee_dummies_avoid_callee_storage.Goals as goal

pub returns : goal.returns
returns c = callee_dummies_avoid_callee_storage
