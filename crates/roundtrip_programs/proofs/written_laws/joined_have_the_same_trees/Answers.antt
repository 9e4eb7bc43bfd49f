use Rattle.roundtrip_programs.proofs.Written.Joined as joined
use Rattle.roundtrip_programs.proofs.written_laws.joined_have_the_same_trees.Goals as goal

pub returns : goal.returns
returns c = joined.joined_have_the_same_trees
