use Rattle.roundtrip_programs.proofs.Written.Pieces as pieces
use Rattle.roundtrip_programs.proofs.written_laws.pieces_are_written_alike.Goals as goal

pub returns : goal.returns
returns c = pieces.pieces_are_written_alike c.pieces_are_modules.ensures
