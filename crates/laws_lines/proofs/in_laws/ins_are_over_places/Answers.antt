use Rattle.laws_lines.proofs.Ins.InPrograms.{ins_are_over_places}
use Rattle.laws_lines.proofs.in_laws.ins_are_over_places.Goals as goal

pub returns : goal.returns
returns c = ins_are_over_places
