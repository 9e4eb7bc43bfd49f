use Rattle.laws_programs.proofs.Layouts.EndLaws.{ends_are_bounded}
use Rattle.laws_programs.proofs.layout_laws.ends_are_bounded.Goals as goal

pub returns : goal.returns
returns c = ends_are_bounded
