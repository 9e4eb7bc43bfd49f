use Rattle.laws_programs.proofs.Layouts.CommonLaws.{common_follows_the_text}
use Rattle.laws_programs.proofs.layout_laws.common_follows_the_text.Goals as goal

pub returns : goal.returns
returns c = common_follows_the_text
