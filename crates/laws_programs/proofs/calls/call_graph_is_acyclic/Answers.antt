use Rattle.laws_programs.proofs.Storage.BelowLaws.{call_graph_is_acyclic}
use Rattle.laws_programs.proofs.calls.call_graph_is_acyclic.Goals as goal

pub returns : goal.returns
returns c = call_graph_is_acyclic
