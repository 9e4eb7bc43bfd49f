use Rattle.roundtrip_programs.proofs.Pieces.Programs as programs
use Rattle.roundtrip_programs.proofs.piece_laws.joined_make_the_program.Goals as goal

pub returns : goal.returns
returns c = programs.joined_make_the_program c.tables_ignore_places.ensures c.graphs_ignore_places.ensures
