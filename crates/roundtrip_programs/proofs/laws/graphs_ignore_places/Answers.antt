use Rattle.roundtrip_programs.proofs.Graphs.{graphs_ignore_places}
use Rattle.roundtrip_programs.proofs.laws.graphs_ignore_places.Goals as goal

pub returns : goal.returns
returns c = graphs_ignore_places
