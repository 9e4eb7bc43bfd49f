use Rattle.roundtrip_programs.proofs.Tables.{tables_ignore_places}
use Rattle.roundtrip_programs.proofs.laws.tables_ignore_places.Goals as goal

pub returns : goal.returns
returns c = tables_ignore_places
