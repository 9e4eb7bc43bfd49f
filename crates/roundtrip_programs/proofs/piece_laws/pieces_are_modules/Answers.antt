use Rattle.roundtrip_programs.proofs.Pieces.Pieces as pieces
use Rattle.roundtrip_programs.proofs.piece_laws.pieces_are_modules.Goals as goal

pub returns : goal.returns
returns c = pieces.pieces_are_modules
