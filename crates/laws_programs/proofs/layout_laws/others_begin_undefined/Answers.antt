use Rattle.laws_programs.proofs.Layouts.OtherLaws.{others_begin_undefined}
use Rattle.laws_programs.proofs.layout_laws.others_begin_undefined.Goals as goal

pub returns : goal.returns
returns c = others_begin_undefined
