use Rattle.laws_lines.proofs.Regions.Indexes.{indexes_are_symbols}
use Rattle.laws_lines.proofs.region_laws.indexes_are_symbols.Goals as goal

pub returns : goal.returns
returns c = indexes_are_symbols
