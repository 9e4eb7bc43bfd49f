use Rattle.roundtrip_programs.proofs.Written.Moved as moved
use Rattle.roundtrip_programs.proofs.written_laws.moved_are_written_alike.Goals as goal

pub returns : goal.returns
returns c = moved.moved_are_written_alike
