use Rattle.laws_programs.proofs.SymbolTables.EquivalenceLaws.{dummies_stand_alone}
use Rattle.laws_programs.proofs.table_laws.dummies_stand_alone.Goals as goal

pub returns : goal.returns
returns c = dummies_stand_alone
