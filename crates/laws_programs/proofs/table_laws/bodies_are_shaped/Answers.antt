use Rattle.laws_programs.proofs.SymbolTables.ShapeLaws.{bodies_are_shaped}
use Rattle.laws_programs.proofs.table_laws.bodies_are_shaped.Goals as goal

pub returns : goal.returns
returns c = bodies_are_shaped
