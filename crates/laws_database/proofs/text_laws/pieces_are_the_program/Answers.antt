use Rattle.laws_database.proofs.TextPieces as pieces
use Rattle.laws_database.proofs.text_laws.pieces_are_the_program.Goals as goal

pub returns : goal.returns
returns c = pieces.pieces_are_the_program c.tables_ignore_places.ensures c.graphs_ignore_places.ensures c.pieces_are_modules.ensures c.pieces_have_the_same_trees.ensures c.pieces_are_written_alike.ensures
