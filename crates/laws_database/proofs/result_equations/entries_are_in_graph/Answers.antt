use Rattle.laws_database.proofs.ResultGraphs.{are_in_graph}
use Rattle.laws_database.proofs.result_equations.entries_are_in_graph.Goals as goal

pub returns : goal.returns
returns c = are_in_graph
