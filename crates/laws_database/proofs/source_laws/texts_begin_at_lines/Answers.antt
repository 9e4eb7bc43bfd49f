use Rattle.laws_database.proofs.Sources.Begins as begins
use Rattle.laws_database.proofs.source_laws.texts_begin_at_lines.Goals as goal

pub returns : goal.returns
returns c = begins.texts_begin_at_lines
