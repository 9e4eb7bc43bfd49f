use Rattle.laws_programs.proofs.Layouts.RefusalLaws.{accepted_layouts_fit}
use Rattle.laws_programs.proofs.layout_laws.accepted_layouts_fit.Goals as goal

pub returns : goal.returns
returns c = accepted_layouts_fit
