use Rattle.system_text.proofs.Compared.{rows_compare_sides}
use Rattle.system_text.proofs.laws.rows_compare_sides.Goals as goal

pub returns : goal.returns
returns c = rows_compare_sides
