use Rattle.roundtrip_programs.proofs.Written.Joined as joined
use Rattle.roundtrip_programs.proofs.written_laws.joined_are_written_alike.Goals as goal

pub returns : goal.returns
returns c = joined.joined_are_written_alike
