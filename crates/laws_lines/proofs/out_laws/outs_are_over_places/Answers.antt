use Rattle.laws_lines.proofs.Outs.OutPrograms.{outs_are_over_places}
use Rattle.laws_lines.proofs.out_laws.outs_are_over_places.Goals as goal

pub returns : goal.returns
returns c = outs_are_over_places
