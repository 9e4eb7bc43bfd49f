use Rattle.laws_programs.proofs.SymbolTables.ConstantLaws.{constants_are_scalars}
use Rattle.laws_programs.proofs.table_laws.constants_are_scalars.Goals as goal

pub returns : goal.returns
returns c = constants_are_scalars
