use Rattle.laws_programs.proofs.Layouts.RefusalLaws.{layouts_are_refused_where_none_fits}
use Rattle.laws_programs.proofs.layout_laws.layouts_are_refused_where_none_fits.Goals as goal

pub returns : goal.returns
returns c = layouts_are_refused_where_none_fits
