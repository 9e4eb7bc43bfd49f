use Rattle.laws_database.proofs.Sources.Split as split
use Rattle.laws_database.proofs.source_laws.accepted_is_split.Goals as goal

pub returns : goal.returns
returns c = split.accepted_is_split c.pieces_are_modules.ensures c.pieces_are_the_program.ensures c.names_show_the_text.ensures
