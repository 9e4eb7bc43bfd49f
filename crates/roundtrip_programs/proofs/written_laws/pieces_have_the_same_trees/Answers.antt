use Rattle.roundtrip_programs.proofs.Written.Pieces as pieces
use Rattle.roundtrip_programs.proofs.written_laws.pieces_have_the_same_trees.Goals as goal

pub returns : goal.returns
returns c = pieces.pieces_have_the_same_trees c.pieces_are_modules.ensures
