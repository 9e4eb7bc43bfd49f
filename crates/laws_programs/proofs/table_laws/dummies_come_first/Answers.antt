use Rattle.laws_programs.proofs.SymbolTables.DummyLaws.{dummies_come_first}
use Rattle.laws_programs.proofs.table_laws.dummies_come_first.Goals as goal

pub returns : goal.returns
returns c = dummies_come_first
