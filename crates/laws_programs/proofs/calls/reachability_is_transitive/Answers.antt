use Rattle.laws_programs.proofs.Storage.BelowLaws.{reachability_is_transitive}
use Rattle.laws_programs.proofs.calls.reachability_is_transitive.Goals as goal

pub returns : goal.returns
returns c = reachability_is_transitive
