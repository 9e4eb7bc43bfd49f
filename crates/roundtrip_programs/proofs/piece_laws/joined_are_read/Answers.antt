use Rattle.roundtrip_programs.proofs.Pieces.Joining as joining
use Rattle.roundtrip_programs.proofs.piece_laws.joined_are_read.Goals as goal

pub returns : goal.returns
returns c = joining.joined_are_read
